-- A seat or a reader, and where each step leads it: the steps of `lasting_model`, without their number.
use Rattle.std.specs.Prelude.{◌≡◌, ℕ, ◌+◌, ◌-◌, ◌*◌, ◌<◌, ◌≤◌, Bool, true, false, if◌then◌else◌, List, length, fold, Option, Some, None}
use Rattle.plain_map.specs.declared.calls.Call.{Call}
use Rattle.bucket_states.specs.Laws.{IsGood}
use Rattle.bucket_states.specs.Values.{IsSmall}
use Rattle.table_model.specs.Setup.{Setup, rules_of, seats_of}
use Rattle.lasting_model.specs.Plans.{Plan, ample}
use Rattle.lasting_model.specs.Codes.{generation_in, update_in, state_words, state_in}
use Rattle.lasting_model.specs.Words.{IsAt, place}
use Rattle.lasting_model.specs.Steps as S
use Rattle.lasting_model.specs.Steps.{SeatNow, Stand, Idle, Goes, Glances, Update, Step, Stuck, CheckRow, LoadAnnounced, Aim, OfKey, OfBucket, Glance, GlanceWord, Deed, Nothing, Swap, deed_of, glance_deed, bucket_of_update}
use Rattle.lasting_model.specs.Goes.{Fate, On, Ends, Refuses, fate, own_after, first_fate, sweep_begins, GlanceFate, Looks, Shows, Disturbed, glance_fate, Told, Replied, Again, Refused, told_by_items}
use Rattle.lasting_model.specs.Worlds.{LOOK_TRIES, look_after, seat_after, next_update, stand_at}
use Rattle.plain_map.specs.Updates.{number_limit}

-- who calls: a seat, which has a hold word, or a reader, which has none. A reader's own state is that of a seat that
-- only looks
pub record Going : Type 0 where
  pub plan : Plan
  pub holds : Bool
  pub seat : ℕ
  pub now : SeatNow
  -- what the last call was told, once it has ended
  pub told : Option Told

-- ---- what it does next

-- what a caller does next that stands here
abbrev pub deed_at : Going → Stand → Deed
deed_at g Idle = Nothing
deed_at g (Goes u step) = deed_of (ample g.plan) g.seat g.now u step
deed_at g (Glances aim glance) = glance_deed (ample g.plan) g.seat g.now.time aim glance

-- the step that it takes next
abbrev pub deed : Going → Deed
deed g = deed_at g g.now.stand

-- a step, with its word by its number
pub data Task : Type 0 where
  Rest : Task
  Load : (at : ℕ) → Task
  Store : (at word : ℕ) → Task
  Exchange : (at old new : ℕ) → Task

-- the same step so
abbrev pub numbered : Plan → Deed → Task
numbered plan Nothing = Rest
numbered plan (S.Load from) = Load (place plan from)
numbered plan (S.Store to word) = Store (place plan to) word
numbered plan (Swap at old new) = Exchange (place plan at) old new

-- the step that it takes next, so
abbrev pub task : Going → Task
task g = numbered g.plan (deed g)

-- ---- where the word that it finds leads it

-- in another place, with the number of its steps as it was
abbrev pub on : Going → Stand → Going
on g stand = record g { now = record g.now { stand = stand } }

-- the same seat after a step, whose number of steps is not looked at
abbrev pub with_own : Going → SeatNow → Option Told → Going
with_own g now told = record g { now = record now { course = g.now.course }; told = told }

-- an update tells something where it ends
abbrev pub told_by : Fate → Option Told → Option Told
told_by (On step) told = told
told_by (Ends reply) told = Some (Replied reply)
told_by Refuses told = Some Refused

abbrev pub goes_updating : Going → Update → Step → (word : ℕ) → Going
goes_updating g u step word =
    let next = fate (ample g.plan) g.seat g.now u step word in
    with_own g (seat_after (own_after (ample g.plan) g.seat g.now u step word) u next) (told_by next g.told)

-- and a look. A reader without tries left has to be asked again
abbrev pub told_of : Going → Aim → GlanceFate → Option Told
told_of g aim (Looks glance) = g.told
told_of g aim (Shows items) = Some (told_by_items (ample g.plan) aim items)
told_of g aim Disturbed = if g.holds then g.told else Some Again

abbrev pub looked_after : Going → Aim → Glance → GlanceFate → SeatNow
looked_after g aim was (Looks glance) = look_after g.now aim was (Looks glance)
looked_after g aim was (Shows items) = look_after g.now aim was (Shows items)
looked_after g aim was Disturbed =
    if g.holds then look_after g.now aim was Disturbed else record g.now { stand = Idle }

abbrev pub after_glance : Going → Aim → (was : Glance) → GlanceFate → Going
after_glance g aim was next = with_own g (looked_after g aim was next) (told_of g aim next)

-- a caller that stands here, after a step that found this word
abbrev pub goes_at : Going → Stand → (word : ℕ) → Going
goes_at g Idle word = g
goes_at g (Goes u step) word = goes_updating g u step word
goes_at g (Glances aim glance) word =
    after_glance g aim glance (glance_fate (ample g.plan) g.now.time aim glance word)

-- where it is after its next step
abbrev pub goes : Going → (word : ℕ) → Going
goes g word = goes_at g g.now.stand word

-- after these words
abbrev pub goes_by : Going → List ℕ → Going
goes_by g words = fold goes g words

-- ---- how a call begins

-- an update has begun, and taken no step
abbrev pub begun_update : Going → Call → Going
begun_update g call =
    let taken = sweep_begins g.now.named g.now.sweep g.now in
    let next = first_fate g.now.free taken.sweep in
    with_own g (record taken { stand = stand_at (next_update g.now call) next }) (told_by next None)

-- a look has begun, with so many tries
abbrev pub begun_look : Going → Aim → (tries : ℕ) → Going
begun_look g aim tries = record g { now = record g.now { stand = Glances aim (GlanceWord (tries - 1)) }; told = None }

-- a seat has two tries before it asks, and a reader as many as it likes
abbrev pub HasTries : (holds : Bool) (tries : ℕ) → Type 0
HasTries true tries = tries ≡ LOOK_TRIES
HasTries false tries = 1 ≤ tries

-- ---- what holds at each step of a run

-- there is a further step
abbrev pub IsOpen : Stand → Type 0
IsOpen Idle = Unit {0}
IsOpen (Goes u Stuck) = ⊥
IsOpen (Goes u step) = Unit {0}
IsOpen (Glances aim glance) = Unit {0}

-- the word is one of the table
abbrev pub IsOn : Plan → Deed → Type 0
IsOn plan Nothing = Unit {0}
IsOn plan (S.Load from) = IsAt plan from
IsOn plan (S.Store to word) = IsAt plan to
IsOn plan (Swap at old new) = IsAt plan at

-- the words behind a generation are those of a bucket
pub record IsBucketRow (setup : Setup) (bucket : ℕ) (words : List ℕ) : Type 0 where
  pub spelled : words ≡ state_words setup (state_in setup bucket words)
  pub good : IsGood (rules_of setup) (seats_of setup) (state_in setup bucket words)
  pub small : IsSmall (state_in setup bucket words)

-- what is found: a row whose generation was the same after it is that of a bucket; an announced number has 32 bits
abbrev pub Finds : Going → Stand → (word : ℕ) → Type 0
Finds g Idle word = Unit {0}
Finds g (Goes u (CheckRow turn old words)) word =
    word ≡ generation_in old → IsBucketRow (ample g.plan) (bucket_of_update (ample g.plan) u) words
Finds g (Goes u (LoadAnnounced attempt found)) word = update_in word < number_limit
Finds g (Goes u step) word = Unit {0}
Finds g (Glances aim glance) word = Unit {0}

-- the step is one of a run
pub record Fits (g : Going) (word : ℕ) : Type 0 where
  pub open_ : IsOpen (goes g word).now.stand
  pub finds : Finds g g.now.stand word

-- what is counted of a seat is small
abbrev pub IsCounted : SeatNow → Type 0
IsCounted now = (row : ℕ) → 3 * now.generation row ≤ now.answered + 2

-- ---- words one after the other

-- the next n steps load words one after the other, whatever they find
abbrev pub Reads : Going → (start n : ℕ) → Type 0
Reads g start n = (words : List ℕ) → length words < n → task (goes_by g words) ≡ Load (start + length words)
