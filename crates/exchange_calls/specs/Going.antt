-- A caller, and where each step leads it: the steps of `exchange_model`, without their number.
use Rattle.std.specs.Prelude.{◌≡◌, ℕ, ◌+◌, ◌-◌, ◌<◌, ◌≤◌, Bool, true, false, if◌then◌else◌, All, List, length, fold, Option, Some, None}
use Rattle.plain_map.specs.declared.calls.Call.{Call}
use Rattle.plain_map.specs.Updates.{IsSmallPair}
use Rattle.exchange_model.specs.Plans.{Plan}
use Rattle.exchange_model.specs.Codes.{row_of_words, row_words}
use Rattle.exchange_model.specs.Words.{IsAt, place}
use Rattle.exchange_model.specs.Steps as S
use Rattle.exchange_model.specs.Steps.{SeatNow, Stand, Idle, Goes, Glances, Step, Stuck, CheckWord, Aim, Glance, GlanceWord, Deed, Nothing, Swap, deed_of, glance_deed}
use Rattle.exchange_model.specs.Goes.{Fate, On, Ends, Spends, Refuses, fate, own_after, first_fate, scan_begins, GlanceFate, Looks, Shows, Disturbed, glance_fate, Told, Replied, Again, Spent, Refused, told_by_items}
use Rattle.exchange_model.specs.Worlds.{LOOK_TRIES, CanAsk, look_after, seat_after, stand_at}

-- who calls: a seat, or a reader that can hold, which has a hold word; or another reader, which has none. A reader's
-- own state is that of a seat that only looks
pub record Going : Type 0 where
  pub plan : Plan
  pub holds : Bool
  pub seat : ℕ
  pub now : SeatNow
  -- what the last call was told, once it has ended
  pub told : Option Told

-- ---- what it does next

-- what a caller does next that stands here
abbrev pub deed_at : Going → Stand → Deed
deed_at g Idle = Nothing
deed_at g (Goes call step) = deed_of g.plan g.seat g.now call step
deed_at g (Glances aim glance) = glance_deed g.plan g.seat g.now.time aim glance

-- the step that it takes next
abbrev pub deed : Going → Deed
deed g = deed_at g g.now.stand

-- a step, with its word by its number
pub data Task : Type 0 where
  Rest : Task
  Load : (at : ℕ) → Task
  Store : (at word : ℕ) → Task
  Exchange : (at old new : ℕ) → Task
  Raise : (at : ℕ) → Task
  Lower : (at : ℕ) → Task

-- the same step so
abbrev pub numbered : Plan → Deed → Task
numbered plan Nothing = Rest
numbered plan (S.Load from) = Load (place plan from)
numbered plan (S.Store to word) = Store (place plan to) word
numbered plan (Swap at old new) = Exchange (place plan at) old new
numbered plan (S.Raise at) = Raise (place plan at)
numbered plan (S.Lower at) = Lower (place plan at)

-- the step that it takes next, so
abbrev pub task : Going → Task
task g = numbered g.plan (deed g)

-- ---- where the word that it finds leads it

-- in another place, with the number of its steps as it was
abbrev pub on : Going → Stand → Going
on g stand = record g { now = record g.now { stand = stand } }

-- the same caller after a step, whose number of steps is not looked at
abbrev pub with_now : Going → SeatNow → Option Told → Going
with_now g now told = record g { now = record now { course = g.now.course }; told = told }

-- an update tells something where it ends
abbrev pub told_by : Fate → Option Told → Option Told
told_by (On step) told = told
told_by (Ends reply) told = Some (Replied reply)
told_by Spends told = Some Spent
told_by Refuses told = Some Refused

abbrev pub goes_updating : Going → Call → Step → (word : ℕ) → Going
goes_updating g call step word =
    let next = fate g.plan g.seat g.now call step word in
    with_now g (seat_after (own_after g.plan g.seat g.now call step word) call next) (told_by next g.told)

-- and a look. A reader without tries left has to be asked again
abbrev pub told_of : Going → Aim → GlanceFate → Option Told
told_of g aim (Looks glance) = g.told
told_of g aim (Shows items) = Some (told_by_items g.plan aim items)
told_of g aim Disturbed = if g.holds then g.told else Some Again

abbrev pub looked_after : Going → Aim → Glance → GlanceFate → SeatNow
looked_after g aim was (Looks glance) = look_after g.now aim was (Looks glance)
looked_after g aim was (Shows items) = look_after g.now aim was (Shows items)
looked_after g aim was Disturbed =
    if g.holds then look_after g.now aim was Disturbed else record g.now { stand = Idle }

abbrev pub after_glance : Going → Aim → (was : Glance) → GlanceFate → Going
after_glance g aim was next = with_now g (looked_after g aim was next) (told_of g aim next)

-- a caller that stands here, after a step that found this word
abbrev pub goes_at : Going → Stand → (word : ℕ) → Going
goes_at g Idle word = g
goes_at g (Goes call step) word = goes_updating g call step word
goes_at g (Glances aim glance) word = after_glance g aim glance (glance_fate g.plan g.now.time aim glance word)

-- where it is after its next step
abbrev pub goes : Going → (word : ℕ) → Going
goes g word = goes_at g g.now.stand word

-- after these words
abbrev pub goes_by : Going → List ℕ → Going
goes_by g words = fold goes g words

-- ---- how a call begins

-- an update has begun, and taken no step
abbrev pub begun_update : Going → Call → Going
begun_update g call =
    let taken = scan_begins g.plan g.seat g.now.free g.now in
    let next = first_fate taken.free taken.scan in
    with_now g (record taken { stand = stand_at call next }) (told_by next None)

-- a look has begun, with so many tries
abbrev pub begun_look : Going → Aim → (tries : ℕ) → Going
begun_look g aim tries = record g { now = record g.now { stand = Glances aim (GlanceWord (tries - 1)) }; told = None }

-- who can hold has two tries before it asks, and askings left; another reader has as many tries as it likes
abbrev pub HasTries : (holds : Bool) → SeatNow → (tries : ℕ) → Type 0
HasTries true now tries = (tries ≡ LOOK_TRIES) × CanAsk now
HasTries false now tries = 1 ≤ tries

-- ---- what holds at each step of a run

-- there is a further step
abbrev pub IsOpen : Stand → Type 0
IsOpen Idle = Unit {0}
IsOpen (Goes call Stuck) = ⊥
IsOpen (Goes call step) = Unit {0}
IsOpen (Glances aim glance) = Unit {0}

-- the word is one of the table
abbrev pub IsOn : Plan → Deed → Type 0
IsOn plan Nothing = Unit {0}
IsOn plan (S.Load from) = IsAt plan from
IsOn plan (S.Store to word) = IsAt plan to
IsOn plan (Swap at old new) = IsAt plan at
IsOn plan (S.Raise at) = IsAt plan at
IsOn plan (S.Lower at) = IsAt plan at

-- the words of a row that stood in its bucket's word as long as they were loaded
pub record IsRow (plan : Plan) (words : List ℕ) : Type 0 where
  pub spelled : words ≡ row_words (row_of_words plan words)
  pub small : All IsSmallPair (row_of_words plan words).items

-- what is found: where the bucket word is the same after a row, the row is that of the bucket
abbrev pub Finds : Plan → Stand → (word : ℕ) → Type 0
Finds plan Idle word = Unit {0}
Finds plan (Goes call (CheckWord turn old words)) word = word ≡ old → IsRow plan words
Finds plan (Goes call step) word = Unit {0}
Finds plan (Glances aim glance) word = Unit {0}

-- the step is one of a run
pub record Fits (g : Going) (word : ℕ) : Type 0 where
  pub open_ : IsOpen (goes g word).now.stand
  pub finds : Finds g.plan g.now.stand word

-- ---- words one after the other

-- the next n steps load words one after the other, whatever they find
abbrev pub Reads : Going → (start n : ℕ) → Type 0
Reads g start n = (words : List ℕ) → length words < n → task (goes_by g words) ≡ Load (start + length words)
