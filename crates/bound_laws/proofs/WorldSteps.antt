-- What a step of one seat does to the states of the seats.
use Rattle.std.proofs.Common.{◌≡◌, ◌≢◌, ℕ, ◌<◌, length, refl, get_or-set_same, get_or-set_other}
use Rattle.std.specs.Prelude.{Option, Some, None}
use Rattle.plain_map.specs.declared.calls.Call.{Call}
use Rattle.plain_map.specs.declared.full.Full.{Full}
use Rattle.table_model.specs.Setup.{Setup}
use Rattle.table_model.specs.Phases.{Phase, SeeDone}
use Rattle.table_model.specs.SeatStates.{Account, Flight, Stand, Idle, InFlight, fresh_seat, begun}
use Rattle.table_model.specs.Goes.{state_after}
use Rattle.table_model.specs.Asks.{ask_in}
use Rattle.table_model.specs.Worlds.{World, seat_in, act, begin_or_refuse, refusal_of, step_of, found_by}

-- the states after a step of one seat
pub step_same : (setup : Setup) (w : World) (me : ℕ) (account : Account) (flight : Flight) (phase : Phase) →
    me < length w.seats →
    seat_in (step_of setup w me account flight phase) me ≡ state_after setup me account flight phase
    (found_by setup (ask_in setup me account.used flight phase) w.words)
step_same setup w me account flight phase h =
    get_or-set_same w.seats me
    (state_after setup me account flight phase (found_by setup (ask_in setup me account.used flight phase) w.words))
    fresh_seat h

-- of another seat
pub step_other : (setup : Setup) (w : World) (me seat : ℕ) (account : Account) (flight : Flight) (phase : Phase) →
    seat ≢ me → seat_in (step_of setup w me account flight phase) seat ≡ seat_in w seat
step_other setup w me seat account flight phase n =
    get_or-set_other w.seats me seat
    (state_after setup me account flight phase (found_by setup (ask_in setup me account.used flight phase) w.words))
    fresh_seat n

-- an event of one seat leaves the others as they are
pub act_other : (setup : Setup) (w : World) (me seat : ℕ) (account : Account) (stand : Stand)
    (begin : Option (ℕ × Call)) → seat ≢ me → seat_in (act setup w me account stand begin) seat ≡ seat_in w seat
act_other setup w me seat account Idle None n = refl
act_other setup w me seat account Idle (Some begin) n = go (refusal_of setup me account begin.1)
  where
    go : (r : Option Full) → seat_in (begin_or_refuse setup w me account begin.0 begin.1 r) seat ≡ seat_in w seat
    go (Some full) = refl
    go None = step_other setup w me seat account (begun account begin.0 begin.1) SeeDone n
act_other setup w me seat account (InFlight flight phase) begin n = step_other setup w me seat account flight phase n
