use Rattle.std.proofs.Common.{◌≡◌, List, map, sym, subst, ◌∙◌}
use Rattle.table_model.specs.DirectoryChange.{with_parts}
use Rattle.table_model.specs.Leaves.{NewLeaf}
use Rattle.dir_states.specs.Views.{as_leaf, as_loaded}
use Rattle.dir_states.specs.Fit.{AreFit}
use Rattle.dir_states.proofs.FitLemmas.{AreFit-split_for, AreFit-apply, none_made, some_made}
use Rattle.dir_states.proofs.ChangeLemmas.{after_op_in-here, split_leaves}
use Rattle.dir_states.proofs.steps.after_op.Goals as goal

pub returns-then-not-with_parts-clause-made : goal.returns-then-not-with_parts-clause-made
returns-then-not-with_parts-clause-made c = λ fit.
    let was : List NewLeaf = map as_leaf c.args.leaves.now.made.items in
    let parts : List NewLeaf = with_parts c.args.table.now.rules (as_loaded c.args.loaded.now) was in
    let whole : List NewLeaf = split_leaves c.args.table.now.rules c.args.seat c.args.op.now was
    (as_loaded c.args.loaded.now) in
    none_made c.args.table.now.rules.depth c.args.table.now.seats parts c.with_parts.new.leaves.made.items
    c.with_parts.result c.with_parts.ensures.made
    c.if-not-with_parts.true
    (AreFit-split_for c.args.table.now.rules.depth c.args.table.now.seats c.args.table.now.rules c.args.op.now.call
    c.args.table.now.rules.depth parts
    (AreFit-apply c.args.table.now.rules.depth c.args.table.now.seats c.args.table.now.rules c.args.seat
    c.args.op.now whole
    (subst (AreFit c.args.table.now.rules.depth c.args.table.now.seats)
    (after_op_in-here c.args.table.now.rules c.args.seat c.args.op.now was (as_loaded c.args.loaded.now)
    (sym c.is_frozen_without.ensures ∙ c.if-not-is_frozen_without.false)) fit)))

pub returns-then-not-split_for-clause-made : goal.returns-then-not-split_for-clause-made
returns-then-not-split_for-clause-made c = λ fit.
    let was : List NewLeaf = map as_leaf c.args.leaves.now.made.items in
    let parts : List NewLeaf = with_parts c.args.table.now.rules (as_loaded c.args.loaded.now) was in
    let whole : List NewLeaf = split_leaves c.args.table.now.rules c.args.seat c.args.op.now was
    (as_loaded c.args.loaded.now) in
    let made : map as_leaf c.with_parts.new.leaves.made.items ≡ parts =
    some_made c.args.table.now.rules.depth c.args.table.now.seats parts c.with_parts.new.leaves.made.items
    c.with_parts.result c.with_parts.ensures.made
    c.if-not-with_parts.false in
    none_made c.args.table.now.rules.depth c.args.table.now.seats whole c.split_for.new.leaves.made.items
    c.split_for.result
    (rw made at c.split_for.ensures.made) c.if-not-split_for.true
    (AreFit-apply c.args.table.now.rules.depth c.args.table.now.seats c.args.table.now.rules c.args.seat
    c.args.op.now whole
    (subst (AreFit c.args.table.now.rules.depth c.args.table.now.seats)
    (after_op_in-here c.args.table.now.rules c.args.seat c.args.op.now was (as_loaded c.args.loaded.now)
    (sym c.is_frozen_without.ensures ∙ c.if-not-is_frozen_without.false)) fit))
