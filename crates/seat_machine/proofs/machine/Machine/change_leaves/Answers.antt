-- Leaves that can be spelled are fit.
use Rattle.std.proofs.Common.{rules}
use Rattle.dir_states.specs.Views.{as_directory}
use Rattle.seat_machine.specs.Stages.{directory_try_of}
use Rattle.seat_machine.specs.View.{loaded_in, setup_of}
use Rattle.seat_machine.proofs.ChangeLemmas.{unfit_change}
use Rattle.seat_machine.proofs.machine.Machine.change_leaves.Goals as goal

pub unreachable-requires : goal.unreachable-requires
unreachable-requires c =
    let m = c.args.self.now in
    unfit_change (setup_of m) (directory_try_of c.args.turn c.args.first c.args.root (as_directory m.directory))
    m.found.items (loaded_in m) (search rules) c.requires.makes
