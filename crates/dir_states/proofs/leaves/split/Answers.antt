use Rattle.std.proofs.Common.{List, map, sym, ap, subst, ◌∙◌, arith}
use Rattle.table_model.specs.Leaves.{split, halves}
use Rattle.bucket_states.specs.States.{state_of}
use Rattle.dir_states.specs.declared.values.NewLeaf.{NewLeaf}
use Rattle.dir_states.specs.Views.{as_leaf}
use Rattle.dir_states.specs.Fit.{CanSplit, IsFirst, NonePasses}
use Rattle.dir_states.proofs.LeafLemmas.{at_leaf-none, at_leaf-two, has}
use Rattle.dir_states.proofs.FitLemmas.{CanSplit-fit}
use Rattle.dir_states.proofs.leaves.split.Goals as goal

pub returns-in_default-clause-made : goal.returns-in_default-clause-made
unfolding split
returns-in_default-clause-made c =
    sym (at_leaf-none c.args.table.now.rules c.args.key.now (halves c.args.table.now.rules) c.args.leaves.now.made.items
    (subst (λ (l : List NewLeaf). NonePasses
    (has c.args.table.now.rules c.args.key.now (halves c.args.table.now.rules)) l) c.deref.ensures.value
    c.in_default.ensures))

pub returns-then-index-table-clause-made : goal.returns-then-index-table-clause-made
returns-then-index-table-clause-made c = λ fit.
    let first : IsFirst (has c.args.table.now.rules c.args.key.now (halves c.args.table.now.rules))
    c.args.leaves.now.made.items c.in-Some.place =
    subst (λ (l : List NewLeaf). IsFirst (has c.args.table.now.rules c.args.key.now (halves c.args.table.now.rules))
    l c.in-Some.place) c.deref.ensures.value c.in-Some.ensures in
    let can = CanSplit-fit c.args.table.now.rules.depth c.args.table.now.seats c.args.table.now.rules c.args.key.now
    c.args.leaves.now.made.items c.in-Some.place first fit c.index.result.now in
    let here : CanSplit c.args.table.now.rules.depth c.args.table.now.seats (state_of c.index.result.now.bucket) =
    subst (λ (leaf : NewLeaf). CanSplit c.args.table.now.rules.depth c.args.table.now.seats (state_of leaf.bucket))
    (sym c.index.ensures) can in
    omega (arith, here.depth, c.if-index-table.true)

pub returns-clause-made : goal.returns-clause-made
unfolding split
returns-clause-made c =
    let first : IsFirst (has c.args.table.now.rules c.args.key.now (halves c.args.table.now.rules))
    c.args.leaves.now.made.items c.in-Some.place =
    subst (λ (l : List NewLeaf). IsFirst (has c.args.table.now.rules c.args.key.now (halves c.args.table.now.rules))
    l c.in-Some.place) c.deref.ensures.value c.in-Some.ensures in
    ap (λ leaves. map as_leaf leaves) c.halve.ensures.parts.now_are
    ∙ sym (at_leaf-two c.args.table.now.rules c.args.key.now
    (halves c.args.table.now.rules) c.args.leaves.now.made.items c.in-Some.place
    c.halve.ensures.parts.lower c.halve.ensures.parts.upper first c.halve.ensures.parts.parts)
