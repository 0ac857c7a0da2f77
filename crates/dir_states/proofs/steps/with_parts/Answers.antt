use Rattle.std.proofs.Common.{◌≡◌, List, false, map, sym, subst, ◌∙◌}
use Rattle.std.specs.List.{list_any}
use Rattle.table_model.specs.DirectoryChange.{comes_from}
use Rattle.dir_states.specs.declared.values.NewLeaf.{NewLeaf}
use Rattle.dir_states.specs.Views.{as_leaf, as_loaded}
use Rattle.dir_states.specs.Fit.{AreFit}
use Rattle.std.proofs.lemmas.Bool.{false≢true}
use Rattle.dir_states.proofs.ChangeLemmas.{CanSplit-both, with_parts-new}
use Rattle.dir_states.proofs.steps.with_parts.Goals as goal

pub returns-then-not-can_split-clause-made : goal.returns-then-not-can_split-clause-made
returns-then-not-can_split-clause-made c = λ fit.
    let new : list_any (comes_from c.args.loaded.now.bucket) (map as_leaf c.args.leaves.now.made.items) ≡ false =
    subst (λ (l : List NewLeaf). list_any (comes_from c.args.loaded.now.bucket) (map as_leaf l) ≡ false)
    c.deref.ensures.value
    (sym c.is_split.ensures ∙ c.if-is_split.false) in
    false≢true (c.if-not-can_split.ensures.1
    (CanSplit-both c.args.table.now.rules (as_loaded c.args.loaded.now)
    (map as_leaf c.args.leaves.now.made.items) c.args.table.now.rules.depth c.args.table.now.seats
    (subst (AreFit c.args.table.now.rules.depth c.args.table.now.seats)
    (with_parts-new c.args.table.now.rules (as_loaded c.args.loaded.now)
    (map as_leaf c.args.leaves.now.made.items) new) fit)))
