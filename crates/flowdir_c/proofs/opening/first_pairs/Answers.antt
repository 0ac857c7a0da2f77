use Rattle.std.proofs.Common.{List, refl, sym, subst}
use Rattle.std.specs.Prelude.{All}
use Rattle.std.proofs.lemmas.List.Sorted.{All-permutation}
use Rattle.plain_map.specs.declared.keys.Pair.{Pair}
use Rattle.bucket_states.specs.Parts.{HasDistinctKeys}
use Rattle.table_model.specs.Setup.{IsPair}
use Rattle.flowdir_c.specs.Fit.{AreFitPairs}
use Rattle.flowdir_c.proofs.FitLemmas.{fit_moved}
use Rattle.flowdir_c.proofs.opening.first_pairs.Goals as goal

-- in the order of their keys the pairs would fit too
pub returns-then-not-are_apart-clause-bad : goal.returns-then-not-are_apart-clause-bad
returns-then-not-are_apart-clause-bad c = λ is fit.
    let sorted = fit_moved c.in-Ok.pairs.items c.in_order-pairs.result.items c.in_order-pairs.ensures.all
    (subst AreFitPairs (sym c.in-Ok.ensures) fit) in
    c.if-not-are_apart.ensures.twice refl (subst HasDistinctKeys (sym c.deref.ensures.value) sorted.distinct)

-- and each of them can be kept
pub returns-clause-pairs : goal.returns-clause-pairs
returns-clause-pairs c = All-permutation IsPair c.in-Ok.pairs.items c.in_order-pairs.result.items
    c.in_order-pairs.ensures.all
    (subst (λ (ps : List Pair). All IsPair ps) (sym c.in-Ok.ensures) (c.if-not-can_be_kept.ensures.kept refl))
