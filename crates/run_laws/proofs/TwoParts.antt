-- Runs in two parts.
use Rattle.std.proofs.Common.{◌≡◌, List, [], ◌∷◌, refl}
use Rattle.std.specs.Prelude.{fold, ◌++◌}
use Rattle.table_model.specs.declared.events.Event.{Event}
use Rattle.table_model.specs.Setup.{Setup}
use Rattle.table_model.specs.Worlds.{World, happens, AreEvents, IsRun, opening_world}

-- events one after the other
pub happen_both : (setup : Setup) (w : World) (events later : List Event) →
    fold (happens setup) w (events ++ later) ≡ fold (happens setup) (fold (happens setup) w events) later
happen_both setup w [] later = refl
happen_both setup w (event ∷ events) later = happen_both setup (happens setup w event) events later

-- the first part of events that may come
pub events_first : (setup : Setup) (w : World) (events later : List Event) → AreEvents setup w (events ++ later) →
    AreEvents setup w events
events_first setup w [] later a = tt
events_first setup w (event ∷ events) later a = (a.0, events_first setup (happens setup w event) events later a.1)

-- and the rest
pub events_then : (setup : Setup) (w : World) (events later : List Event) → AreEvents setup w (events ++ later) →
    AreEvents setup (fold (happens setup) w events) later
events_then setup w [] later a = a
events_then setup w (event ∷ events) later a = events_then setup (happens setup w event) events later a.1

-- the first part of a run is a run
pub run_first : (setup : Setup) (events later : List Event) → IsRun setup (events ++ later) → IsRun setup events
run_first setup events later run = record {
  opened = run.opened;
  follow = events_first setup (opening_world setup) events later run.follow;
}
