-- The laws of the bucket change: what of a bucket a change keeps, which announced ops it takes, and what it
-- makes of the items and the replies.
use Rattle.std.specs.Prelude.{◌≡◌, ℕ, suc, ◌^◌, ◌<◌, ◌≤◌, ◌==◌, ◌↔◌, ◌⊎◌, Bool, true, false, List, [], ◌∷◌, ◌++◌, length, Option, Some, None, slice_index, slice_index_or}
use Rattle.plain_map.specs.declared.keys.Pair.{Pair}
use Rattle.plain_map.specs.declared.rules.Rules.{Rules}
use Rattle.plain_map.specs.declared.calls.Reply.{Reply}
use Rattle.plain_map.specs.Calls.{key_in}
use Rattle.plain_map.specs.PlainObject.{InRange, Sessions, reply_of, map_after}
use Rattle.bucket_states.specs.declared.ops.Op.{Op}
use Rattle.bucket_states.specs.Items.{prefix_of, reply_in, items_after}
use Rattle.bucket_states.specs.States.{BucketState}
use Rattle.bucket_states.specs.Change.{change}
use Rattle.bucket_states.specs.Parts.{HasDistinctKeys, HasPrefix, HoldsPart}

-- the number of the seat's last update in the bucket
abbrev pub applied_of : BucketState → ℕ → ℕ
applied_of bucket seat = slice_index bucket.applied seat

-- the answer to that update
abbrev pub reply_at : BucketState → ℕ → Option Reply
reply_at bucket seat = slice_index_or bucket.replies seat None

-- the seat has announced the op
abbrev pub Announces : List (Option Op) → ℕ → Op → Type 0
Announces ops seat op = slice_index_or ops seat None ≡ Some op

-- the op's key has the bucket's prefix
abbrev pub IsFor : Rules → BucketState → Op → Type 0
IsFor rules bucket op = prefix_of rules bucket.depth (key_in op.call) ≡ bucket.prefix

-- a bucket of this many seats that keeps to the rules
pub record IsGood (rules : Rules) (seats : ℕ) (bucket : BucketState) : Type 0 where
  pub within : bucket.depth ≤ rules.depth
  pub below : bucket.prefix < 2 ^ bucket.depth
  pub few : length bucket.items ≤ rules.items
  pub distinct : HasDistinctKeys bucket.items
  pub inside : HasPrefix rules bucket.prefix bucket.depth bucket.items
  pub numbers : length bucket.applied ≡ seats
  pub answers : length bucket.replies ≡ seats
  pub answered : (seat : ℕ) → (applied_of bucket seat ≡ 0) ↔ (reply_at bucket seat ≡ None)
  pub full : bucket.frozen ≡ true → (length bucket.items ≡ rules.items) × (bucket.depth < rules.depth)

-- no more seats announce than the bucket has
abbrev pub HasSeats : BucketState → List (Option Op) → Type 0
HasSeats bucket ops = (length ops ≤ length bucket.applied) × (length ops ≤ length bucket.replies)

-- a bucket is of the same prefix after a change
abbrev pub SamePrefix : Type 0
SamePrefix = (rules : Rules) (ops : List (Option Op)) (bucket : BucketState) →
    ((change rules ops bucket).prefix ≡ bucket.prefix) × ((change rules ops bucket).depth ≡ bucket.depth)

-- a frozen bucket stays as it is
abbrev pub FrozenStays : Type 0
FrozenStays = (rules : Rules) (ops : List (Option Op)) (bucket : BucketState) → bucket.frozen ≡ true →
    change rules ops bucket ≡ bucket

-- a seat has in the one bucket what it has in the other
pub record IsUntouched (was now : BucketState) (seat : ℕ) : Type 0 where
  pub applied : applied_of now seat ≡ applied_of was seat
  pub reply : reply_at now seat ≡ reply_at was seat

-- the op that the seat has announced is for the bucket, its number is above the seat's, and now is the seat's
pub record IsTaken (rules : Rules) (ops : List (Option Op)) (was now : BucketState) (seat : ℕ) : Type 0 where
  pub op : Op
  pub announced : Announces ops seat op
  pub for_it : IsFor rules was op
  pub above : applied_of was seat < op.number
  pub applied : applied_of now seat ≡ op.number

-- each seat is left as it was, or its announced op is taken
abbrev pub OnlyAnnounced : Type 0
OnlyAnnounced =
    (rules : Rules) (ops : List (Option Op)) (bucket : BucketState) (seat : ℕ) → HasSeats bucket ops →
    IsUntouched bucket (change rules ops bucket) seat ⊎ IsTaken rules ops bucket (change rules ops bucket) seat

-- an announced op for the bucket is in it afterwards, or the bucket is frozen
abbrev pub Covers : Type 0
Covers =
    (rules : Rules) (ops : List (Option Op)) (bucket : BucketState) (seat : ℕ) (op : Op) → HasSeats bucket ops →
    Announces ops seat op → IsFor rules bucket op →
    (op.number ≤ applied_of (change rules ops bucket) seat) ⊎ ((change rules ops bucket).frozen ≡ true)

-- where an announced op for the bucket was not in it, its seat's number rises, or the bucket is frozen
abbrev pub DoesSomething : Type 0
DoesSomething =
    (rules : Rules) (ops : List (Option Op)) (bucket : BucketState) (seat : ℕ) (op : Op) → HasSeats bucket ops →
    Announces ops seat op → IsFor rules bucket op → applied_of bucket seat < op.number →
    (applied_of bucket seat < applied_of (change rules ops bucket) seat) ⊎ ((change rules ops bucket).frozen ≡ true)

-- a good bucket stays good
abbrev pub StaysGood : Type 0
StaysGood =
    (rules : Rules) (seats : ℕ) (ops : List (Option Op)) (bucket : BucketState) → InRange rules →
    IsGood rules seats bucket → length ops ≤ seats →
    IsGood rules seats (change rules ops bucket)

-- where a good bucket is frozen by a change, it has as many items as it may, and can be split
abbrev pub FrozenIsFull : Type 0
FrozenIsFull =
    (rules : Rules) (seats : ℕ) (ops : List (Option Op)) (bucket : BucketState) → InRange rules →
    IsGood rules seats bucket → length ops ≤ seats →
    (change rules ops bucket).frozen ≡ true → (length (change rules ops bucket).items ≡ rules.items)
    × (bucket.depth < rules.depth)

-- an op that was taken, with its seat
pub record Taken : Type 0 where
  pub seat : ℕ
  pub op : Op

-- the op of a seat, where it announced one and its number is no longer the same
abbrev pub taken_at : ℕ → Option Op → Bool → List Taken
taken_at seat None same = []
taken_at seat (Some op) true = []
taken_at seat (Some op) false = record { seat = seat; op = op } ∷ []

-- the announced ops of the seats whose number changed, in the order of the seats, of which the first has this number
abbrev pub taken_from : ℕ → List (Option Op) → (was now : BucketState) → List Taken
taken_from seat [] was now = []
taken_from seat (op ∷ ops) was now =
    taken_at seat op (applied_of now seat == applied_of was seat) ++ taken_from (suc seat) ops was now

-- the ops that a change took
abbrev pub taken : Rules → List (Option Op) → BucketState → List Taken
taken rules ops bucket = taken_from 0 ops bucket (change rules ops bucket)

-- what is held after these calls
abbrev pub sessions_after_taken : Rules → Sessions → List Taken → Sessions
sessions_after_taken rules sessions [] = sessions
sessions_after_taken rules sessions (t ∷ ts) = sessions_after_taken rules (map_after rules sessions t.op.call) ts

-- each seat's reply is what the plain object, asked these calls one after the other, answers
abbrev pub AreAnswered : Rules → Sessions → BucketState → List Taken → Type 0
AreAnswered rules sessions now [] = Unit {0}
AreAnswered rules sessions now (t ∷ ts) =
    (reply_at now t.seat ≡ Some (reply_of rules sessions t.op.call))
    × AreAnswered rules (map_after rules sessions t.op.call) now ts

-- the items after these calls, by the items alone
abbrev pub items_after_all : Rules → List Pair → List Taken → List Pair
items_after_all rules items [] = items
items_after_all rules items (t ∷ ts) = items_after_all rules (items_after rules items t.op.call) ts

-- and the replies
abbrev pub AreAnsweredHere : Rules → List Pair → BucketState → List Taken → Type 0
AreAnsweredHere rules items now [] = Unit {0}
AreAnsweredHere rules items now (t ∷ ts) =
    (reply_at now t.seat ≡ Some (reply_in rules items t.op.call))
    × AreAnsweredHere rules (items_after rules items t.op.call) now ts

-- items and replies are those of the taken ops, one after the other
abbrev pub Folds : Type 0
Folds =
    (rules : Rules) (ops : List (Option Op)) (bucket : BucketState) → HasSeats bucket ops →
    ((change rules ops bucket).items ≡ items_after_all rules bucket.items (taken rules ops bucket))
    × AreAnsweredHere rules bucket.items (change rules ops bucket) (taken rules ops bucket)

-- and so they are the plain object's: where the items were the part of what is held, they are the part of what is held
-- then
abbrev pub FoldsAlike : Type 0
FoldsAlike =
    (rules : Rules) (seats : ℕ) (ops : List (Option Op)) (bucket : BucketState) (sessions : Sessions) → InRange rules →
    IsGood rules seats bucket → length ops ≤ seats →
    HoldsPart rules bucket.prefix bucket.depth bucket.items sessions →
    HoldsPart rules bucket.prefix bucket.depth (change rules ops bucket).items
    (sessions_after_taken rules sessions (taken rules ops bucket))
    × AreAnswered rules sessions (change rules ops bucket) (taken rules ops bucket)
