-- What holds of a play at each of its slots.
use Rattle.std.specs.Prelude.{◌≡◌, ℕ, ◌+◌, ◌-◌, ◌^◌, ◌<◌, ◌≤◌, List, [], ◌∷◌, length}
use Rattle.plain_map.specs.declared.calls.Call.{Call}
use Rattle.table_model.specs.Setup.{Setup, seats_of}
use Rattle.table_model.specs.SeatStates.{Stand, Idle, InFlight, SeatState}
use Rattle.table_model.specs.Worlds.{IsRun, world_after, seat_in}
use Rattle.table_model.specs.Schedules.{Hand, Play, IsPlayable, hand_of}

-- calls that can be played, one by one
abbrev pub ArePlayable : List (ℕ × Call) → Type 0
ArePlayable [] = Unit {0}
ArePlayable (begin ∷ calls) = IsPlayable begin × ArePlayable calls

-- one where a call is under way
abbrev pub under_way : Stand → ℕ
under_way Idle = 0
under_way (InFlight flight phase) = 1

-- so many calls can still be counted
abbrev pub CanCountOn : Setup → SeatState → (calls : ℕ) → Type 0
CanCountOn setup state calls = length state.account.records + under_way state.stand + calls ≤ setup.shape.limit - 1

-- what is dealt to a seat can be played on
pub record IsPlayableHand (setup : Setup) (state : SeatState) (hand : Hand) : Type 0 where
  pub calls : ArePlayable hand.calls
  pub few : CanCountOn setup state (length hand.calls)

-- a play whose events are a run
pub record IsGoodPlay (setup : Setup) (play : Play) : Type 0 where
  pub run : IsRun setup play.events
  pub world_is : play.world ≡ world_after setup play.events
  pub long : length play.world.seats ≡ seats_of setup
  pub hands : length play.hands ≡ seats_of setup
  pub dealt : (seat : ℕ) → seat < seats_of setup → IsPlayableHand setup (seat_in play.world seat) (hand_of play seat)
