use Rattle.std.proofs.Common.{◌≡◌, List, true, map, sym, ap, subst, ◌∙◌, ◌-◌, arith}
use Rattle.plain_map.specs.Calls.{key_in}
use Rattle.table_model.specs.Leaves.{NewLeaf, must_split, split, split_for}
use Rattle.dir_states.specs.declared.values.NewLeaf.{NewLeaf as Leaf}
use Rattle.dir_states.specs.Views.{as_leaf}
use Rattle.dir_states.specs.Fit.{AreFit, MakesLeaves}
use Rattle.dir_states.proofs.FitLemmas.{AreFit-split_for, none_made, some_made}
use Rattle.dir_states.proofs.ChangeLemmas.{split_for-more}
use Rattle.dir_states.proofs.leaves.+split_for.Goals as goal

pub returns-then-not-split-clause-made : goal.returns-then-not-split-clause-made
returns-then-not-split-clause-made t c = λ fit.
    let must : must_split c.args.table.now.rules c.args.call.now (map as_leaf c.args.leaves.now.made.items) ≡ true =
    subst (λ (l : List Leaf). must_split c.args.table.now.rules c.args.call.now (map as_leaf l) ≡ true)
    c.deref.ensures.value
    (sym c.must_split.ensures ∙ c.if-not-must_split.false) in
    let whole : List NewLeaf = split c.args.table.now.rules (key_in c.args.call.now)
    (map as_leaf c.args.leaves.now.made.items) in
    none_made c.args.table.now.rules.depth c.args.table.now.seats whole c.split.new.leaves.made.items c.split.result
    (rw c.key.ensures at c.split.ensures.made) c.if-not-split.true
    (AreFit-split_for c.args.table.now.rules.depth c.args.table.now.seats c.args.table.now.rules c.args.call.now
    (c.args.most - 1) whole
    (subst (AreFit c.args.table.now.rules.depth c.args.table.now.seats)
    (split_for-more c.args.table.now.rules c.args.call.now c.args.most (map as_leaf c.args.leaves.now.made.items)
    (omega arith) must) fit))

pub returns-clause-made : goal.returns-clause-made
returns-clause-made t c =
    let must : must_split c.args.table.now.rules c.args.call.now (map as_leaf c.args.leaves.now.made.items) ≡ true =
    subst (λ (l : List Leaf). must_split c.args.table.now.rules c.args.call.now (map as_leaf l) ≡ true)
    c.deref.ensures.value
    (sym c.must_split.ensures ∙ c.if-not-must_split.false) in
    let whole : List NewLeaf = split c.args.table.now.rules (key_in c.args.call.now)
    (map as_leaf c.args.leaves.now.made.items) in
    let made : map as_leaf c.split.new.leaves.made.items ≡ whole =
    some_made c.args.table.now.rules.depth c.args.table.now.seats whole c.split.new.leaves.made.items c.split.result
    (rw c.key.ensures at c.split.ensures.made) c.if-not-split.false in
    subst (λ (l : List NewLeaf). MakesLeaves c.args.table.now.rules.depth c.args.table.now.seats l
    c.split_for.new.leaves.made.items c.split_for.result)
    (ap (split_for c.args.table.now.rules c.args.call.now (c.args.most - 1)) made
    ∙ sym (split_for-more c.args.table.now.rules c.args.call.now c.args.most
    (map as_leaf c.args.leaves.now.made.items) (omega arith) must))
    c.split_for.ensures.made
