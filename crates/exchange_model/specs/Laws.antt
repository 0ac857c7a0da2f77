-- What is promised of every run: by its words and steps, and by the order of the updates that were made.
use Rattle.std.specs.Prelude.{◌≡◌, ◌≢◌, ◌⊎◌, ℕ, ◌^◌, ◌<◌, ◌≤◌, ◌==◌, true, false, ◌&&◌, if◌then◌else◌, List, [], ◌∷◌, ◌++◌, length, map, filter_map, sum_by, Option, Some, None, All}
use Rattle.std.specs.List.{range_with_len}
use Rattle.std.specs.FinMap.{empty}
use Rattle.plain_map.specs.declared.calls.Call.{Call}
use Rattle.plain_map.specs.declared.calls.Call.TheVariants.{Lookup}
use Rattle.plain_map.specs.declared.keys.Pair.{Pair}
use Rattle.plain_map.specs.Calls.{is_update}
use Rattle.plain_map.specs.PlainObject.{InRange}
use Rattle.map_laws.specs.ByKey.{Made, LegalMade, after_made}
use Rattle.bucket_states.specs.Items.{reply_in}
use Rattle.bucket_states.specs.Parts.{HoldsPart}
use Rattle.exchange_model.specs.Plans.{Plan, Sizes, holders_of, buckets_of, rules_of}
use Rattle.exchange_model.specs.Codes.{row_in, is_spent, is_pending, row_of_words, row_at, pairs_of_row}
use Rattle.exchange_model.specs.Words.{At, IsAt, held_at}
use Rattle.exchange_model.specs.Steps as S
use Rattle.exchange_model.specs.Steps.{MadeBySeat, Try, Found, change, next_row, Scan, Seats, Sees, Loads, Gives, Step, Stuck, Scans, LoadWord, LoadRow, CheckWord, LoadPending, LoadAnnounced, LoadOp, StoreRow, Exchange, RaisePending, HeldHead, HeldEntry, HeldReply, HeldIn, Glance, GlanceCount, GlanceItem, SeatNow, Stand, Idle, Goes, Glances, Peeks, Aim, OfKey, OfBucket, Deed, Nothing, Load, Swap, Raise, Lower, deed_of, glance_deed, bucket_of_aim, bucket_of_call}
use Rattle.exchange_model.specs.Goes.{alone, is_announced, share_of, is_quiet, Asked, Called, Copied, Told, Replied, Pairs, Again, Spent, Refused, told_by_items}
use Rattle.exchange_model.specs.Worlds.{World, Asker, BySeat, ByReader, Answer, Event, IsEvent, IsRun, happens, world_after, seat_in}
use Rattle.exchange_model.specs.Bounds.{update_bound, look_bound, call_bound}

-- ---- words and rows

-- no two buckets have one row
abbrev pub BucketsAreApart : Type 0
BucketsAreApart =
    (plan : Plan) (events : List Event) (a b : ℕ) → IsRun plan events → a < buckets_of plan.settings →
    b < buckets_of plan.settings →
    row_in plan ((world_after plan events).store.bucket a)
    ≡ row_in plan ((world_after plan events).store.bucket b) → a ≡ b

-- a bucket word never comes back: two moments at which it is the same have no other word between
abbrev pub WordsNeverComeBack : Type 0
WordsNeverComeBack =
    (plan : Plan) (front middle back : List Event) (b : ℕ) → IsRun plan (front ++ middle ++ back) →
    b < buckets_of plan.settings →
    (world_after plan (front ++ middle ++ back)).store.bucket b ≡ (world_after plan front).store.bucket b →
    (world_after plan (front ++ middle)).store.bucket b ≡ (world_after plan front).store.bucket b

-- between two moments at which a bucket has one word, the row in it is not written
abbrev pub RowsStayInTheirWords : Type 0
RowsStayInTheirWords =
    (plan : Plan) (front back : List Event) (b i : ℕ) → IsRun plan (front ++ back) → b < buckets_of plan.settings →
    (world_after plan (front ++ back)).store.bucket b ≡ (world_after plan front).store.bucket b →
    (world_after plan (front ++ back)).store.row (row_in plan ((world_after plan front).store.bucket b)) i
    ≡ (world_after plan front).store.row (row_in plan ((world_after plan front).store.bucket b)) i

-- it was not refused
abbrev pub IsTaken : Told → Type 0
IsTaken (Replied reply) = Unit {0}
IsTaken (Pairs pairs) = Unit {0}
IsTaken Again = Unit {0}
IsTaken Spent = Unit {0}
IsTaken Refused = ⊥

-- no update is refused: a scan always finds a free row
abbrev pub NoneIsRefused : Type 0
NoneIsRefused =
    (plan : Plan) (events : List Event) → IsRun plan events →
    All (λ (a : Answer). IsTaken a.told) (world_after plan events).answers

-- the rows that a scan has taken up
abbrev pub rows_in_scan : Option Scan → List ℕ
rows_in_scan None = []
rows_in_scan (Some (Seats seat left held)) = left ++ held
rows_in_scan (Some (Sees seat time left held)) = left ++ held
rows_in_scan (Some (Loads seat time class left held)) = left ++ held
rows_in_scan (Some (Gives seat time row left held)) = left ++ held

-- the rows of a seat, and how often one is among them
abbrev pub rows_with : World → (seat : ℕ) → List ℕ
rows_with world seat =
    (seat_in world seat).free ++ ((seat_in world seat).kept ++ rows_in_scan (seat_in world seat).scan)

abbrev pub times_with : World → (seat row : ℕ) → ℕ
times_with world seat row = length (alone row (rows_with world seat))

-- each row stands in one place: it is the row of one bucket, or it is once among the rows of one seat, of which each
-- has the same number for ever, whoever is stopped
pub record RowsArePlaced (plan : Plan) (world : World) : Type 0 where
  pub seats : (seat : ℕ) → seat < plan.settings.seats → length (rows_with world seat) ≡ plan.spare
  pub once : (seat row : ℕ) → seat < plan.settings.seats → times_with world seat row ≤ 1
  pub one_seat : (seat other row : ℕ) → seat < plan.settings.seats → other < plan.settings.seats →
      1 ≤ times_with world seat row → 1 ≤ times_with world other row → seat ≡ other
  pub one_bucket : (a b : ℕ) → a < buckets_of plan.settings → b < buckets_of plan.settings →
      row_in plan (world.store.bucket a) ≡ row_in plan (world.store.bucket b) → a ≡ b
  pub not_both : (seat bucket : ℕ) → seat < plan.settings.seats → bucket < buckets_of plan.settings →
      times_with world seat (row_in plan (world.store.bucket bucket)) ≡ 0

-- at each moment of a run
abbrev pub AllRowsArePlaced : Type 0
AllRowsArePlaced = (plan : Plan) (events : List Event) → IsRun plan events →
    RowsArePlaced plan (world_after plan events)

-- the rows that a scan has seen held
abbrev pub seen_held : Option Scan → List ℕ
seen_held None = []
seen_held (Some (Seats seat left held)) = held
seen_held (Some (Sees seat time left held)) = held
seen_held (Some (Loads seat time class left held)) = held
seen_held (Some (Gives seat time row left held)) = held

-- who can hold keeps back one row at most, whoever is stopped: a scan sees fewer rows held than there are who can hold.
-- A seat has as many rows, so one is free at the end of each scan
abbrev pub FewAreHeld : Type 0
FewAreHeld =
    (plan : Plan) (events : List Event) (seat : ℕ) → IsRun plan events → seat < plan.settings.seats →
    length (seen_held (seat_in (world_after plan events) seat).scan) < holders_of plan.settings

-- it does not stand where there is no further step
abbrev pub GoesOn : Stand → Type 0
GoesOn Idle = Unit {0}
GoesOn (Goes call Stuck) = ⊥
GoesOn (Goes call step) = Unit {0}
GoesOn (Glances aim glance) = Unit {0}

-- no seat is ever stuck
abbrev pub SeatsGoOn : Type 0
SeatsGoOn =
    (plan : Plan) (events : List Event) (seat : ℕ) → IsRun plan events →
    GoesOn (seat_in (world_after plan events) seat).stand

-- ---- steps

-- a call of who can hold was answered within its bound
abbrev pub IsWithin : Sizes → Answer → Type 0
IsWithin s a = (seat : ℕ) → a.by ≡ BySeat seat → a.steps ≤ call_bound s a.asked

-- each call of a seat, or of a reader that can hold, is answered within its bound
abbrev pub StepsAreBounded : Type 0
StepsAreBounded =
    (plan : Plan) (events : List Event) → IsRun plan events →
    All (IsWithin plan.settings) (world_after plan events).answers

-- and one that is under way has not taken more steps
abbrev pub StandsWithin : Sizes → SeatNow → Stand → Type 0
StandsWithin s now Idle = Unit {0}
StandsWithin s now (Goes call step) = now.course.steps ≤ update_bound s
StandsWithin s now (Glances aim glance) = now.course.steps ≤ look_bound s

-- at each moment of a run
abbrev pub CallsStayWithin : Type 0
CallsStayWithin =
    (plan : Plan) (events : List Event) (seat : ℕ) → IsRun plan events → seat < holders_of plan.settings →
    StandsWithin plan.settings (seat_in (world_after plan events) seat) (seat_in (world_after plan events) seat).stand

-- the next step of a seat that stands here
abbrev pub next_deed : Plan → (seat : ℕ) → SeatNow → Stand → Deed
next_deed plan seat now Idle = Nothing
next_deed plan seat now (Goes call step) = deed_of plan seat now call step
next_deed plan seat now (Glances aim glance) = glance_deed plan seat now.time aim glance

-- its word is one of the table, and what is put there has 64 bits
abbrev pub IsOnTable : Plan → Deed → Type 0
IsOnTable plan Nothing = Unit {0}
IsOnTable plan (Load from) = IsAt plan from
IsOnTable plan (S.Store to word) = IsAt plan to × (word < 2 ^ 64)
IsOnTable plan (Swap at old new) = IsAt plan at × (new < 2 ^ 64)
IsOnTable plan (Raise at) = IsAt plan at
IsOnTable plan (Lower at) = IsAt plan at

-- and it is a load
abbrev pub IsLoadThere : Plan → Deed → Type 0
IsLoadThere plan (Load from) = IsAt plan from
IsLoadThere plan deed = ⊥

-- each step of a seat, or of a reader that can hold, is on a word of the table
abbrev pub StepsAreOnTable : Type 0
StepsAreOnTable =
    (plan : Plan) (events : List Event) (seat : ℕ) → IsRun plan events → seat < holders_of plan.settings →
    (let now = seat_in (world_after plan events) seat in IsOnTable plan (next_deed plan seat now now.stand))

-- and each step of another reader is a load of one
abbrev pub PeeksAreOnTable : Type 0
PeeksAreOnTable =
    (plan : Plan) (events : List Event) (reader : ℕ) (aim : Aim) (glance : Glance) → IsRun plan events →
    ((world_after plan events).readers reader).stand ≡ Peeks aim glance →
    IsLoadThere plan (glance_deed plan 0 0 aim glance)

-- all words have 64 bits
abbrev pub WordsAreSmall : Type 0
WordsAreSmall =
    (plan : Plan) (events : List Event) (at : At) → IsRun plan events → IsAt plan at →
    held_at (world_after plan events).store at < 2 ^ 64

-- ---- what is pending

-- the share of a seat in what is pending: from before it announces until that is over
abbrev pub share_at : Step → ℕ
share_at Scans = 0
share_at (LoadWord turn) = share_of (is_announced turn)
share_at (LoadRow turn word words) = share_of (is_announced turn)
share_at (CheckWord turn word words) = share_of (is_announced turn)
share_at (LoadPending attempt) = share_of (is_announced attempt.turn)
share_at (LoadAnnounced attempt found) = share_of (is_announced attempt.turn)
share_at (LoadOp attempt found announced words) = share_of (is_announced attempt.turn)
share_at (StoreRow attempt found stored) = share_of (is_announced attempt.turn)
share_at (Exchange attempt found) = share_of (is_announced attempt.turn)
share_at RaisePending = 0
share_at Stuck = 0
share_at step = 1

abbrev pub share : Stand → ℕ
share Idle = 0
share (Goes call step) = share_at step
share (Glances aim glance) = 0

-- what is pending is the sum of all shares; and who has an op announced has a share. So who finds its own share alone
-- knows that no other op is announced at that moment
pub record PendingIsCounted (plan : Plan) (world : World) : Type 0 where
  pub sum : world.store.pending
      ≡ sum_by (λ seat. share (seat_in world seat).stand) (range_with_len 0 plan.settings.seats)
  pub announced : (seat : ℕ) → seat < plan.settings.seats → is_pending (world.store.announced seat) ≡ true →
      share (seat_in world seat).stand ≡ 1

-- at each moment of a run
abbrev pub PendingIsAlwaysCounted : Type 0
PendingIsAlwaysCounted =
    (plan : Plan) (events : List Event) → IsRun plan events → PendingIsCounted plan (world_after plan events)

-- ---- spent buckets

-- the pairs of the row that stands in the word of a bucket
abbrev pub pairs_in : Plan → World → (bucket : ℕ) → List Pair
pairs_in plan world bucket = pairs_of_row plan (world.store.row (row_in plan (world.store.bucket bucket)))

-- the word of the call's bucket
abbrev pub word_for : Plan → World → Call → ℕ
word_for plan world call = world.store.bucket (bucket_of_call plan call)

-- at one moment of this call its bucket had its last generation
pub record FoundSpent (plan : Plan) (events : List Event) (a : Answer) : Type 0 where
  pub call : Call
  pub asked_is : a.asked ≡ Called call
  pub front : List Event
  pub back : List Event
  pub cut : events ≡ front ++ back
  pub after : a.began ≤ length front
  pub before : length front ≤ a.ended
  pub spent : is_spent plan (word_for plan (world_after plan front) call) ≡ true

-- who is told that its bucket is spent has found it so
abbrev pub SpentIsFound : Type 0
SpentIsFound =
    (plan : Plan) (events : List Event) → IsRun plan events →
    All (λ (a : Answer). a.told ≡ Spent → FoundSpent plan events a) (world_after plan events).answers

-- a spent bucket stays as it is
abbrev pub SpentStays : Type 0
SpentStays =
    (plan : Plan) (front back : List Event) (b : ℕ) → IsRun plan (front ++ back) → b < buckets_of plan.settings →
    is_spent plan ((world_after plan front).store.bucket b) ≡ true →
    (world_after plan (front ++ back)).store.bucket b ≡ (world_after plan front).store.bucket b

-- what an update is told whose bucket was spent when it began: that; or, if it changes nothing there, its reply
abbrev pub IsToldSpent : Plan → List Pair → Call → Told → Type 0
IsToldSpent plan items call told =
    ((told ≡ Spent) × (is_quiet (rules_of plan) items call ≡ false))
    ⊎ ((told ≡ Replied (reply_in (rules_of plan) items call)) × (is_quiet (rules_of plan) items call ≡ true))

-- so each later update is told it, unless it changes nothing
abbrev pub SpentIsTold : Type 0
SpentIsTold =
    (plan : Plan) (front back : List Event) → IsRun plan (front ++ back) →
    All
    (λ (a : Answer). (seat : ℕ) (call : Call) → a.by ≡ BySeat seat → a.asked ≡ Called call → is_update call ≡ true →
    length front ≤ a.began → is_spent plan (word_for plan (world_after plan front) call) ≡ true →
    IsToldSpent plan (pairs_in plan (world_after plan front) (bucket_of_call plan call)) call a.told)
    (world_after plan (front ++ back)).answers

-- how many updates all seats were answered
abbrev pub all_answered : Plan → World → ℕ
all_answered plan world = sum_by (λ seat. (seat_in world seat).answered) (range_with_len 0 plan.settings.seats)

-- with 10^12 updates none is, whatever the depth, and however many lookups and copies there were
abbrev pub NoneIsSpent : Type 0
NoneIsSpent =
    (plan : Plan) (events : List Event) → IsRun plan events → all_answered plan (world_after plan events) ≤ 10 ^ 12 →
    All (λ (a : Answer). a.told ≢ Spent) (world_after plan events).answers

-- ---- held rows, and what was loaded

-- the row that a seat reads under its hold
abbrev pub ReadsHeld : Stand → (row : ℕ) → Type 0
ReadsHeld (Goes call (HeldHead held)) row = held ≡ row
ReadsHeld (Goes call (HeldEntry held at left)) row = held ≡ row
ReadsHeld (Goes call (HeldReply held at)) row = held ≡ row
ReadsHeld (Glances aim (GlanceCount (HeldIn held))) row = held ≡ row
ReadsHeld (Glances aim (GlanceItem (HeldIn held) pass)) row = held ≡ row
ReadsHeld stand row = ⊥

-- a row that a seat, or a reader that can hold, reads under its hold is not written meanwhile
abbrev pub HeldRowsAreKept : Type 0
HeldRowsAreKept =
    (plan : Plan) (events : List Event) (event : Event) (seat row i : ℕ) → IsRun plan events →
    IsEvent plan (world_after plan events) event → seat < holders_of plan.settings →
    ReadsHeld (seat_in (world_after plan events) seat).stand row →
    (happens plan (world_after plan events) event).store.row row i ≡ (world_after plan events).store.row row i

-- the words of a row that were loaded between two loads of one bucket word are what the row says when the second one is
-- made
abbrev pub LoadsAreTrue : Type 0
LoadsAreTrue =
    (plan : Plan) (events : List Event) (seat turn old : ℕ) (call : Call) (words : List ℕ) → IsRun plan events →
    seat < plan.settings.seats → (seat_in (world_after plan events) seat).stand ≡ Goes call (CheckWord turn old words) →
    (world_after plan events).store.bucket (bucket_of_call plan call) ≡ old →
    row_of_words plan words ≡ row_at plan ((world_after plan events).store.row (row_in plan old))

-- a seat that comes to its exchange has stored what its try makes of the row that it read: its next row says so
abbrev pub NextRowsAreTrue : Type 0
NextRowsAreTrue =
    (plan : Plan) (events : List Event) (seat : ℕ) (call : Call) (t : Try) (found : List Found) → IsRun plan events →
    seat < plan.settings.seats → (seat_in (world_after plan events) seat).stand ≡ Goes call (Exchange t found) →
    row_at plan ((world_after plan events).store.row (next_row (seat_in (world_after plan events) seat)))
    ≡ (change plan t.row found).row

-- and while the bucket still has the word of the try, the row that it read is the one that stands there
abbrev pub TriesAreTrue : Type 0
TriesAreTrue =
    (plan : Plan) (events : List Event) (seat : ℕ) (call : Call) (t : Try) (found : List Found) → IsRun plan events →
    seat < plan.settings.seats → (seat_in (world_after plan events) seat).stand ≡ Goes call (Exchange t found) →
    (world_after plan events).store.bucket (bucket_of_call plan call) ≡ t.word →
    t.row ≡ row_at plan ((world_after plan events).store.row (row_in plan t.word))

-- ---- moments

-- what was told of a bucket is what it had at one moment of the call
pub record IsOfMoment (plan : Plan) (events : List Event) (a : Answer) (aim : Aim) : Type 0 where
  pub front : List Event
  pub back : List Event
  pub cut : events ≡ front ++ back
  pub after : a.began ≤ length front
  pub before : length front ≤ a.ended
  pub is : a.told ≡ told_by_items plan aim (pairs_in plan (world_after plan front) (bucket_of_aim plan aim))

-- the lookup of a reader that cannot hold, or its copy of a bucket, tells what the bucket had at one moment, or that it
-- may be tried again
abbrev pub IsPeek : Plan → List Event → Answer → Asker → Asked → Type 0
IsPeek plan events a (BySeat seat) asked = Unit {0}
IsPeek plan events a (ByReader reader) (Called (Lookup key)) = (a.told ≡ Again) ⊎ IsOfMoment plan events a (OfKey key)
IsPeek plan events a (ByReader reader) (Called call) = ⊥
IsPeek plan events a (ByReader reader) (Copied bucket) = (a.told ≡ Again) ⊎ IsOfMoment plan events a (OfBucket bucket)

-- so none tells words of two writings
abbrev pub PeeksAreOfMoments : Type 0
PeeksAreOfMoments =
    (plan : Plan) (events : List Event) → IsRun plan events →
    All (λ (a : Answer). IsPeek plan events a a.by a.asked) (world_after plan events).answers

-- who can hold is always told what the bucket had at one moment of its lookup, or of its copy
abbrev pub IsLook : Plan → List Event → Answer → Asker → Asked → Type 0
IsLook plan events a (ByReader reader) asked = Unit {0}
IsLook plan events a (BySeat seat) (Called (Lookup key)) = IsOfMoment plan events a (OfKey key)
IsLook plan events a (BySeat seat) (Called call) = Unit {0}
IsLook plan events a (BySeat seat) (Copied bucket) = IsOfMoment plan events a (OfBucket bucket)

-- whatever the others do meanwhile
abbrev pub LooksAreOfMoments : Type 0
LooksAreOfMoments =
    (plan : Plan) (events : List Event) → IsRun plan events →
    All (λ (a : Answer). IsLook plan events a a.by a.asked) (world_after plan events).answers

-- ---- one order

-- the update that a seat was answered, if this answer is one
abbrev pub update_by : (seat : ℕ) → Asker → Asked → Told → Option Made
update_by seat (BySeat other) (Called call) (Replied reply) =
    if (other == seat) && is_update call then Some (call, reply) else None
update_by seat by asked told = None

-- all updates that a seat was answered, in order
abbrev pub updates_by : (seat : ℕ) → List Answer → List Made
updates_by seat answers = filter_map (λ (a : Answer). update_by seat a.by a.asked a.told) answers

-- those that a seat made, in order; and all of them, whoever made them
abbrev pub made_by : (seat : ℕ) → List MadeBySeat → List Made
made_by seat made = filter_map (λ (one : MadeBySeat). if one.0 == seat then Some one.1 else None) made

abbrev pub all_made : List MadeBySeat → List Made
all_made made = map (λ (one : MadeBySeat). one.1) made

-- these are none, or the one update that a seat has under way where it stands
abbrev pub IsUnderWay : Stand → List Made → Type 0
IsUnderWay stand [] = Unit {0}
IsUnderWay (Goes call step) (made ∷ []) = made.0 ≡ call
IsUnderWay stand more = ⊥

-- the updates of a seat that were made are those that it was answered, in order, and at most the one under way
pub record AreAsked (world : World) (seat : ℕ) : Type 0 where
  pub more : List Made
  pub are : made_by seat world.made ≡ updates_by seat world.answers ++ more
  pub under_way : IsUnderWay (seat_in world seat).stand more

-- the updates that were made by now
pub record AreOrdered (plan : Plan) (world : World) : Type 0 where
  -- each has the reply of the plain map
  pub legal : LegalMade (rules_of plan) empty (all_made world.made)
  -- they are those that the seats were asked for, and no others
  pub asked : (seat : ℕ) → seat < plan.settings.seats → AreAsked world seat
  pub seats : All (λ (one : MadeBySeat). one.0 < plan.settings.seats) world.made
  -- each bucket has the pairs of its class that the plain map has after all of them
  pub held : (bucket : ℕ) → bucket < buckets_of plan.settings →
      HoldsPart (rules_of plan) bucket plan.settings.depth (pairs_in plan world bucket)
      (after_made (rules_of plan) empty (all_made world.made))

-- the same without what each seat was answered
pub record AreLegal (plan : Plan) (world : World) : Type 0 where
  pub legal : LegalMade (rules_of plan) empty (all_made world.made)
  pub held : (bucket : ℕ) → bucket < buckets_of plan.settings →
      HoldsPart (rules_of plan) bucket plan.settings.depth (pairs_in plan world bucket)
      (after_made (rules_of plan) empty (all_made world.made))
  pub seats : All (λ (one : MadeBySeat). one.0 < plan.settings.seats) world.made

-- at each moment of a run
abbrev pub UpdatesAreLegal : Type 0
UpdatesAreLegal =
    (plan : Plan) (events : List Event) → IsRun plan events → InRange (rules_of plan) →
    AreLegal plan (world_after plan events)

-- at each moment of a run
abbrev pub UpdatesAreOrdered : Type 0
UpdatesAreOrdered =
    (plan : Plan) (events : List Event) → IsRun plan events → InRange (rules_of plan) →
    AreOrdered plan (world_after plan events)

-- and later updates come behind them: so the order keeps that of time
abbrev pub OrdersGrow : Type 0
OrdersGrow =
    (plan : Plan) (front back : List Event) → IsRun plan (front ++ back) →
    (later : List MadeBySeat) × ((world_after plan (front ++ back)).made ≡ (world_after plan front).made ++ later)
