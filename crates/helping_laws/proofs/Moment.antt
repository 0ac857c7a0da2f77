-- A moment of a run: its history, and what each seat keeps.
use Rattle.std.proofs.Common.{◌≡◌, ℕ, ◌<◌, List, subst}
use Rattle.table_model.specs.declared.events.Event.{Event}
use Rattle.table_model.specs.Setup.{Setup, seats_of}
use Rattle.table_model.specs.Phases.{Phase}
use Rattle.table_model.specs.SeatStates.{Flight, InFlight}
use Rattle.table_model.specs.Worlds.{World, IsRun, world_after, seat_in}
use Rattle.run_invariant.proofs.Invariant.{Common, Local, Keeps, KeepsStand}
use Rattle.run_laws.proofs.Induction.{Follows, Holds}
use Rattle.run_laws.proofs.Opened.{all_holds}

-- what a seat in flight keeps
pub keeps_in : (setup : Setup) (w : World) (c : Common) (locals : ℕ → Local) → Follows setup w c locals →
    (seat : ℕ) (flight : Flight) (phase : Phase) → seat < seats_of setup →
    (seat_in w seat).stand ≡ InFlight flight phase →
    Keeps setup c seat (seat_in w seat).account.used flight (locals seat) phase
keeps_in setup w c locals a seat flight phase h is =
    subst (KeepsStand setup c seat (seat_in w seat).account.used (locals seat)) is (a.seats seat h)

module _ (setup : Setup) (events : List Event) (run : IsRun setup events) where
  -- the history at the end of a run
  abbrev pub moment : Holds setup (world_after setup events)
  moment = all_holds setup events run

  -- what a seat in flight keeps at the end of a run
  pub keeps : (seat : ℕ) (flight : Flight) (phase : Phase) → seat < seats_of setup →
      (seat_in (world_after setup events) seat).stand ≡ InFlight flight phase →
      Keeps setup moment.common seat (seat_in (world_after setup events) seat).account.used flight
      (moment.locals seat) phase
  keeps = keeps_in setup (world_after setup events) moment.common moment.locals moment.follows
