use Rattle.std.proofs.Common.{None, get_or, map, sym, subst}
use Rattle.table_model.specs.DirectoryChange.{change_leaves, leaves_after_seat}
use Rattle.dir_states.specs.Views.{as_directory, as_leaf, as_loaded}
use Rattle.dir_states.specs.Fit.{AreFit}
use Rattle.dir_states.proofs.FitLemmas.{none_made}
use Rattle.dir_states.proofs.ChangeLemmas.{AreFit-seat}
use Rattle.dir_states.proofs.changes.walk.Goals as goal

pub returns-then-not-after_seat-clause-made : goal.returns-then-not-after_seat-clause-made
unfolding change_leaves
returns-then-not-after_seat-clause-made c = λ fit.
    none_made c.args.table.now.rules.depth c.args.table.now.seats
    (leaves_after_seat c.args.table.now.rules (as_directory c.args.directory.now)
    (map as_loaded c.args.loaded.now) c.loop-seat.seat
    (get_or c.args.ops.now c.loop-seat.seat None) (map as_leaf c.loop-seat.leaves.made.items))
    c.after_seat.new.leaves.made.items c.after_seat.result c.after_seat.ensures.made c.if-not-after_seat.true
    (AreFit-seat c.args.table.now.rules.depth c.args.table.now.seats c.args.table.now.rules
    (as_directory c.args.directory.now)
    (map as_loaded c.args.loaded.now) c.loop-seat.seat c.args.ops.now
    (map as_leaf c.loop-seat.leaves.made.items) c.loop-seat-test.true
    (subst (AreFit c.args.table.now.rules.depth c.args.table.now.seats) (sym c.loop-seat.invariant.rest) fit))
