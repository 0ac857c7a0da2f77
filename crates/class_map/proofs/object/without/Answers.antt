use Rattle.std.proofs.Common.{refl, subst}
use Rattle.std.proofs.lemmas.Option.{same_Some}
use Rattle.std.specs.List.{remove}
use Rattle.class_map.specs.ClassCounts.{AreCountsOf}
use Rattle.class_map.proofs.CountLemmas.{AreCountsOf-lose}
use Rattle.class_map.proofs.object.without.Goals as goal

-- the counts are of the pairs but one
pub returns-in-Some : goal.returns-in-Some
returns-in-Some c now is =
    let was = c.in-Some.counts in
    let were = c.requires.held was c.in-Some.is in
    subst (AreCountsOf (remove c.args.pairs.now c.args.at)) (same_Some _ _ is)
    (AreCountsOf-lose was.rules c.args.pairs.now was c.class_of.result refl were c.class_of.ensures.within
    c.args.at _ c.requires.within c.class_of.ensures.value c.lose.new.self c.lose.ensures.rules c.lose.ensures.counts)
