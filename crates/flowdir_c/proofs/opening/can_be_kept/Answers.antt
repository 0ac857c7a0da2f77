use Rattle.std.proofs.Common.{◌+◌, [], ◌∷◌, ◌++◌, get_or, map, take, sym, ap, ◌∙◌, subst, arith}
use Rattle.std.proofs.lemmas.List.{get_or-map, length-map, take_all, take_more}
use Rattle.std.proofs.lemmas.List.Elements.{All-push, All-same}
use Rattle.plain_map.specs.Keys.{no_pair}
use Rattle.plain_map.specs.Updates.{IsSmallPair}
use Rattle.table_model.specs.Setup.{IsPair}
use Rattle.flowdir_c.specs.Told.{pair_of}
use Rattle.flowdir_c.proofs.FitLemmas.{map_more, no_flow_pair}
use Rattle.flowdir_c.proofs.opening.can_be_kept.Goals.{then-pair-ge-VALUE_LIMIT-via-then-pair-ge-VALUE_LIMIT, then-pair-ge-VALUE_LIMIT-via-else-pair-ge-VALUE_LIMIT+then-pair-ge-VALUE_LIMIT-2}
use Rattle.flowdir_c.proofs.opening.can_be_kept.Goals as goal

-- the pair that was reached can be kept
pub loop-given-preserved : goal.loop-given-preserved
loop-given-preserved c =
    let i = c.loop-given.given-index in
    let xs = c.args.first.now in
    All-same IsPair (map pair_of (take (i + 1) xs)) (map pair_of (take i xs) ++ pair_of (get_or xs i no_flow_pair) ∷ [])
    (ap (map pair_of) (take_more xs i no_flow_pair c.loop-given-test.true)
    ∙ map_more pair_of (take i xs) (get_or xs i no_flow_pair))
    (All-push IsPair (map pair_of (take i xs)) (pair_of (get_or xs i no_flow_pair)) c.loop-given.invariant
    (subst IsPair c.to_pair-pair.ensures
    (record { key = c.has_words.ensures; small = (c.if-pair-ge-VALUE_LIMIT.false, c.if-pair-ge-VALUE_LIMIT-2.false) })))

pub returns-clause-kept : goal.returns-clause-kept
returns-clause-kept c = λ is. All-same IsPair (map pair_of c.args.first.now)
    (map pair_of (take c.loop-given.given-index c.args.first.now))
    (ap (map pair_of) (sym (take_all c.loop-given.given-index c.args.first.now
    (omega (arith, c.loop-given-test.false, c.loop-given.auto.given-index-end))))) c.loop-given.invariant

-- one that is too large is among those that were given
pub returns-then-pair-ge-VALUE_LIMIT-clause-lost : goal.returns-then-pair-ge-VALUE_LIMIT-clause-lost
returns-then-pair-ge-VALUE_LIMIT-clause-lost c = λ is small.
    let i = c.loop-given.given-index in
    let xs = c.args.first.now in
    let here : IsSmallPair c.to_pair-pair.result = subst IsSmallPair
    (get_or-map pair_of xs i no_flow_pair no_pair c.loop-given-test.true ∙ sym c.to_pair-pair.ensures)
    (small i no_pair (omega (arith, c.loop-given-test.true, length-map xs pair_of))) in
    elim c.then-pair-ge-VALUE_LIMIT.branch [
      | then-pair-ge-VALUE_LIMIT-via-then-pair-ge-VALUE_LIMIT w ↦ omega (arith, here.0, w.if-pair-ge-VALUE_LIMIT.true)
      | then-pair-ge-VALUE_LIMIT-via-else-pair-ge-VALUE_LIMIT+then-pair-ge-VALUE_LIMIT-2 w ↦
          omega (arith, here.1, w.if-pair-ge-VALUE_LIMIT-2.true)
    ]
