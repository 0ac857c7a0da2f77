-- An update of a seat: what the code has at hand, and where each part of it leads.
use Rattle.std.specs.Prelude.{◌≡◌, ℕ, ◌+◌, ◌*◌, ◌-◌, ◌^◌, ◌<◌, ◌≤◌, Bool, true, false, All, IfSome, List, ◌∷◌, ◌++◌, length, take, drop, replicate, Option, None, nat_lt, if◌then◌else◌}
use Rattle.step_counts.specs.declared.TheConstants.{ITEM_WORDS, SEAT_WORDS}
use Rattle.step_counts.specs.declared.settings.Settings.{Settings}
use Rattle.plain_map.specs.declared.calls.Reply.{Reply}
use Rattle.plain_map.specs.Updates.{IsUpdate, number_limit}
use Rattle.word_rows.specs.BucketWords.{IsBucket, bucket_of_words, words_of_bucket}
use Rattle.bucket_machine.specs.HashedKeys.{IsHashed}
use Rattle.bucket_states.specs.declared.ops.Op.{Op}
use Rattle.bucket_states.specs.Laws.{IsGood}
use Rattle.bucket_states.specs.States.{BucketState, row_of_state, state_in_row}
use Rattle.bucket_states.specs.Values.{IsSmall}
use Rattle.table_model.specs.Setup.{rules_of, seats_of}
use Rattle.lasting_model.specs.Plans.{ample, MOST_UPDATES}
use Rattle.lasting_model.specs.Codes.{count_in}
use Rattle.lasting_model.specs.Steps.{Update, Try, Goes, CheckRow, StoreRow, Exchange, Step, next_row, next_generation, new_words, made, bucket_of_update}
use Rattle.lasting_model.specs.Goes.{Fate, Ends, lost, looked, found_so_far, with_published}
use Rattle.lasting_model.specs.Worlds.{seat_after, stand_at}
use Rattle.lasting_calls.specs.Going.{Going, IsOpen, on, told_by, with_own}
use Rattle.lasting_calls.specs.declared.desk.Desk.{Desk}
use Rattle.lasting_calls.specs.declared.attempt.Attempt.{Attempt}
use Rattle.lasting_calls.specs.declared.own.Own.{Own}
use Rattle.lasting_calls.specs.declared.tries.Tried.{Tried}
use Rattle.lasting_calls.specs.declared.tries.Tried.TheVariants.{Made, Seen, Lost}

-- the update
abbrev pub update_of : Own → Update
update_of own = record { number = own.number; call = own.call }

-- what is at hand of the seat's own update: its key with its hash, its bucket, and the row that is written next
pub record IsOwn (g : Going) (own : Own) : Type 0 where
  pub update : IsUpdate own.call
  pub numbered : 1 ≤ own.number
  pub small_number : own.number ≤ MOST_UPDATES
  pub hashed : IsHashed g.plan.hashing own.key
  pub bucket : own.bucket ≡ bucket_of_update (ample g.plan) (update_of own)
  pub row : own.row ≡ next_row g.now
  pub generation : own.generation ≡ next_generation g.now
  pub small : own.bucket < 2 ^ 15
  pub short : own.row < 2 ^ 17
  pub few : own.generation < 2 ^ 47

-- where an update stands then, with nothing published
abbrev pub making : Going → Update → Fate → Going
making g u next = with_own g (seat_after g.now u next) (told_by next g.told)

-- ---- a row at hand

-- the bucket that these words spell. They stand as today's rows do, so that `change_row` serves both
abbrev pub state_at : Settings → List ℕ → BucketState
state_at settings words = state_in_row (bucket_of_words settings words)

-- the words of a bucket, as they stand at hand. The base means nothing here
abbrev pub at_hand : Settings → Option ℕ → BucketState → List ℕ
at_hand settings base state = words_of_bucket settings (row_of_state base state)

-- the words of a row are loaded: those of the seats, the count, and the items. Zeros stand behind them
pub record HasLoaded (first now : Going) (desk : Desk) (own : Own) (turn word : ℕ) (words : List ℕ) : Type 0 where
  pub seats : List ℕ
  pub most : ℕ
  pub items : List ℕ
  pub count : ℕ
  pub count_is : count ≡ count_in (ample first.plan) most
  pub seats_long : length seats ≡ SEAT_WORDS * desk.settings.seats
  pub items_long : length items ≡ ITEM_WORDS * count
  pub words_are : words ≡ own.bucket ∷ desk.settings.depth ∷ 0 ∷ 0 ∷ most
      ∷ (items ++ (replicate (ITEM_WORDS * (desk.settings.items - count)) 0 ++ seats))
  pub goes : now ≡ on first (Goes (update_of own) (CheckRow turn word (seats ++ most ∷ items)))

-- what is known is filled in: the head, and zeros up to the seats
pub record IsFilled (desk : Desk) (bucket most end : ℕ) (old new : List ℕ) : Type 0 where
  pub words_are : new ≡ bucket ∷ desk.settings.depth ∷ 0 ∷ 0 ∷ most ∷ (take (end - 5) (drop 5 old)
      ++ (replicate (5 + ITEM_WORDS * desk.settings.items - end) 0 ++ drop (5 + ITEM_WORDS * desk.settings.items)
      old))

-- a try, by the words at hand
abbrev pub tried : Settings → (turn word : ℕ) → List ℕ → Try
tried settings turn word words = record { turn = turn; word = word; state = state_at settings words }

abbrev pub trying : Settings → Attempt → Try
trying settings attempt = tried settings attempt.turn attempt.word attempt.words.now

-- an update whose number can be kept
pub record IsSmallOp (op : Op) : Type 0 where
  pub update : IsUpdate op.call
  pub number : op.number < number_limit

-- these ops are found
pub record HasFound (first now : Going) (own : Own) (attempt : Try) (found : List (Option Op)) : Type 0 where
  pub goes : now ≡ on first (stand_at (update_of own)
      (found_so_far (ample first.plan) first.seat (update_of own) attempt found))
  pub small : All (λ op. IfSome op IsSmallOp) found

-- the words at hand are those of a bucket that keeps to the rules
pub record IsAtHand (g : Going) (desk : Desk) (words : List ℕ) : Type 0 where
  pub words_are : words ≡ at_hand desk.settings None (state_at desk.settings words)
  pub spelled : IsBucket desk.settings (row_of_state None (state_at desk.settings words))
  pub good : IsGood (rules_of (ample g.plan)) (seats_of (ample g.plan)) (state_at desk.settings words)
  pub small : IsSmall (state_at desk.settings words)

-- so many words of the new row are stored
abbrev pub storing : Going → Try → List (Option Op) → (stored : ℕ) → Step
storing g attempt found stored =
    if nat_lt stored (length (new_words (ample g.plan) g.now attempt found)) then StoreRow attempt found stored
    else Exchange attempt found

-- a look at a bucket has shown it, and the call has a further step
pub record HasLooked (first now : Going) (desk : Desk) (own : Own) (turn word : ℕ) (words : List ℕ) : Type 0 where
  pub hand : IsAtHand first desk words
  pub goes : now ≡ making first (update_of own)
      (looked (ample first.plan) first.seat (update_of own) (tried desk.settings turn word words))
  pub open_ : IsOpen now.now.stand

-- the row that is stored next has these words
pub record IsStoring (g : Going) (desk : Desk) (own : Own) (words : List ℕ) : Type 0 where
  pub attempt : Try
  pub found : List (Option Op)
  pub base : Option ℕ
  pub stand : g.now.stand ≡ Goes (update_of own) (StoreRow attempt found 0)
  pub words_are : words ≡ at_hand desk.settings base (made (ample g.plan) attempt found)

-- ---- a try

-- the next row is published in the word of the bucket
abbrev pub published : Going → (bucket : ℕ) → Going
published g bucket = record g { now = with_published g.now bucket }

-- how a try ends: the update is in the row that was put, or in the one that was loaded, or the try is lost
abbrev pub tried_to : Going → Own → (turn : ℕ) → Tried → Going
tried_to g own turn (Made reply) = making (published g own.bucket) (update_of own) (Ends reply)
tried_to g own turn (Seen reply) = making g (update_of own) (Ends reply)
tried_to g own turn Lost = making g (update_of own) (lost turn)

-- ---- a whole update

-- where the seat has asked so often
abbrev pub timed : Going → (time : ℕ) → Going
timed g time = record g { now = record g.now { time = time } }

-- it has published its next row, or not
abbrev pub published_if : Bool → Going → (bucket : ℕ) → Going
published_if true g bucket = published g bucket
published_if false g bucket = g

-- the update is answered: it stands in the table, put there by the seat itself or by another one
abbrev pub answered_by : Going → Own → (time : ℕ) → Reply → (own_row : Bool) → Going
answered_by g own time reply own_row =
    making (published_if own_row (timed g time) own.bucket) (update_of own) (Ends reply)
