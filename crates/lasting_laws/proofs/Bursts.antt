-- Steps of one seat that follow each other in a run of the ghost, while no other seat goes on.
use Rattle.std.proofs.Common.{ℕ, List, [], ◌∷◌, ◌++◌}
use Rattle.std.specs.Prelude.{None, fold}
use Rattle.table_model.specs.declared.events.Event.{Event}
use Rattle.table_model.specs.Setup.{Setup}
use Rattle.table_model.specs.Worlds.{World, IsRun, AreEvents, world_after, opening_world, happens}

-- the event by which a seat in a call goes on
abbrev pub step_event : ℕ → Event
step_event seat = record { seat = seat; begin = None }

-- a run goes on by what may follow
pub run_on : (setup : Setup) (events more : List Event) → IsRun setup events →
    AreEvents setup (world_after setup events) more → IsRun setup (events ++ more)
run_on setup events more run follow = record {
  opened = run.opened;
  follow = on (opening_world setup) events run.follow follow;
}
  where
    on : (w : World) (front : List Event) → AreEvents setup w front →
        AreEvents setup (fold (happens setup) w front) more → AreEvents setup w (front ++ more)
    on w [] a b = b
    on w (event ∷ front) a b = (a.0, on (happens setup w event) front a.1 b)
