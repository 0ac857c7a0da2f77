-- How the fields of the core give what contracts see of it.
use Rattle.std.specs.Prelude.{◌≡◌, map}
use Rattle.word_rows.specs.LayoutView.{shape_of}
use Rattle.table_model.specs.Setup.{Setup}
use Rattle.table_model.specs.SeatStates.{SeatState}
use Rattle.table_model.specs.Worlds.{IsRun, world_after}
use Rattle.core_steps.specs.declared.one_world.CoreWorld.TheInside as core
use Rattle.core_steps.specs.Values.{CoreValue}
use Rattle.core_steps.specs.Moments.{StandsIn}

-- what the table was opened with
abbrev pub setup_in : core.Inside → Setup
setup_in c = record { shape = shape_of c.layout; hashing = c.hashing; first = c.first.items }

-- what contracts see
abbrev pub value_of : core.Inside → CoreValue
value_of c = record {
  setup = setup_in c;
  events = c.events.items;
  world = world_after (setup_in c) c.events.items;
}

-- words, programs and records are those of the world after the events, which are a run
pub record Stands (c : core.Inside) : Type 0 where
  pub run : IsRun (setup_in c) c.events.items
  pub stands : StandsIn (setup_in c) (world_after (setup_in c) c.events.items) c.words.items c.seats.items
  pub logs_are : map (λ log. log.items) c.logs.items
      ≡ map (λ (state : SeatState). state.account.records) (world_after (setup_in c) c.events.items).seats
