-- No bucket is left, and the change is made.
use Rattle.std.proofs.Common.{rules}
use Rattle.dir_states.specs.Views.{as_directory}
use Rattle.seat_machine.specs.Stages.{directory_try_of}
use Rattle.seat_machine.specs.View.{loaded_in, setup_of}
use Rattle.seat_machine.proofs.ChangeLemmas.{change_next}
use Rattle.seat_machine.proofs.machine.Machine.load_next.Goals as goal

pub make_change-requires-clause-makes : goal.make_change-requires-clause-makes
make_change-requires-clause-makes c =
    let m = c.args.self.now in
    change_next (setup_of m) c.args.round
    (directory_try_of c.args.turn c.args.first c.args.root (as_directory m.directory))
    m.found.items (loaded_in m) (search rules) c.requires.makes
