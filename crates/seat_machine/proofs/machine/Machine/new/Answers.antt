-- Each buffer has its room.
use Rattle.std.proofs.Common.{rules, subst}
use Rattle.std.specs.Prelude.{All}
use Rattle.step_counts.specs.declared.settings.Settings.{Settings}
use Rattle.seat_machine.specs.Room.{HasLoadedRoom}
use Rattle.seat_machine.proofs.machine.Machine.new.Goals as goal

pub returns-clause-kept : goal.returns-clause-kept
returns-clause-kept c = record {
  room = record {
    seat = search rules;
    used = search rules;
    words = search rules;
    ops = search rules;
    seen = search rules;
    row = search rules;
    directory = search rules;
    base = search rules;
    made = search rules;
    found = search rules;
    out = search rules;
    loaded = record {
      each = subst (λ (s : Settings). All (HasLoadedRoom s) c.in_ok-loaded_room.field-0.items) c.requires.settings
          c.in_ok-loaded_room.ensures.each;
      all = search rules;
    };
    change = search rules;
    puts = search rules;
  };
  call = tt;
  stage = tt;
}
