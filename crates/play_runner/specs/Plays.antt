-- How far a play is, as contracts see it.
use Rattle.std.specs.Prelude.{◌≡◌, ℕ, ◌<◌, ◌≤◌, ◌++◌, List, length, fold, Bool, true, false}
use Rattle.word_rows.specs.Shape.{record_limit}
use Rattle.table_model.specs.declared.events.Event.{Event}
use Rattle.table_model.specs.Setup.{seats_of}
use Rattle.table_model.specs.SeatStates.{Idle}
use Rattle.table_model.specs.Worlds.{happens, seat_in}
use Rattle.table_model.specs.Schedules as S
use Rattle.table_model.specs.Schedules.{Play, events_of_slot, hand_after_slot}
use Rattle.play_laws.specs.Good.{IsPlayableHand, IsGoodPlay}
use Rattle.core_steps.specs.declared.values.Stepped.{Stepped}
use Rattle.core_steps.specs.declared.values.Stepped.TheVariants.{Going, Ended, Refused}
use Rattle.core_steps.specs.Values.{CoreValue}
use Rattle.play_runner.specs.declared.turns.Playing.{Playing}
use Rattle.play_runner.specs.Hands.{as_hands}
use Rattle.play_runner.specs.Told.{AreTold, play_with}

-- the call that came with the event was refused
abbrev pub was_refused : Stepped → Bool
was_refused Going = false
was_refused (Ended r) = false
was_refused (Refused full) = true

-- with these events more
abbrev pub with_all : CoreValue → List Event → CoreValue
with_all core events = record {
  setup = core.setup;
  events = core.events ++ events;
  world = fold (happens core.setup) core.world events;
}

-- a seat of this hand, which may be played on
pub record IsAtSlot (core : CoreValue) (seat : ℕ) (hand : S.Hand) : Type 0 where
  pub inside : seat < seats_of core.setup
  pub long : length core.world.seats ≡ seats_of core.setup
  pub dealt : IsPlayableHand core.setup (seat_in core.world seat) hand

-- the seat is between two calls
abbrev pub IsIdleAt : CoreValue → (seat : ℕ) → Type 0
IsIdleAt core seat = (seat_in core.world seat).stand ≡ Idle

-- one slot of a seat took it from the one to the other, and left it this hand
pub record TookSlot (before after : CoreValue) (seat : ℕ) (hand left : S.Hand) : Type 0 where
  pub after_is : after ≡ with_all before (events_of_slot before.setup seat (seat_in before.world seat).account hand
      (seat_in before.world seat).stand)
  pub left_is : left ≡ hand_after_slot before.setup seat (seat_in before.world seat).account hand
      (seat_in before.world seat).stand

-- the play so far
abbrev pub play_in : Playing → Play
play_in p = play_with p.core (as_hands p.hands.items)

-- its events are a run, a record has room for each number of a call, and the calls that ended are told
pub record IsPlaying (p : Playing) : Type 0 where
  pub good : IsGoodPlay p.core.setup (play_in p)
  pub limited : p.core.setup.shape.limit ≤ record_limit
  pub told : AreTold p.core p.outcomes.items

-- the same table, whose play has come to this one
pub record HasCome (before after : Playing) (play : Play) : Type 0 where
  pub setup_is : after.core.setup ≡ before.core.setup
  pub play_is : play_in after ≡ play
  pub stands : IsPlaying after
