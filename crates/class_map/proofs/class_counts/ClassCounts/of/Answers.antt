use Rattle.std.proofs.Common.{ℕ, ◌^◌, ◌<◌, ◌∙◌, subst, take}
use Rattle.plain_map.specs.declared.rules.Rules.{Rules}
use Rattle.class_map.specs.ClassCounts.{AreCounts}
use Rattle.class_map.proofs.CountLemmas.{AreCounts-take}
use Rattle.class_map.proofs.class_counts.ClassCounts.of.Goals as goal

-- one pair more has been counted
pub loop-pair-preserved : goal.loop-pair-preserved
loop-pair-preserved c =
    let rules = c.args.rules.now in
    let ps = c.args.pairs.now in
    let at = c.loop-pair.pair-index in
    let counts = c.loop-pair.counts.counts.items in
    let of = c.class_of.ensures.value in
    let were : AreCounts rules (take at ps) counts =
    subst (λ (r : Rules). AreCounts r (take at ps) counts) c.loop-pair.invariant.rules
    c.loop-pair.invariant.counts in
    record {
      counts = rw (c.gain.ensures.rules, c.loop-pair.invariant.rules, c.gain.ensures.counts, of)
          (AreCounts-take rules ps at _ counts c.loop-pair-test.true
          (subst (λ (n : ℕ). n < 2 ^ rules.depth) of c.class_of.ensures.within) were);
      rules = c.gain.ensures.rules ∙ c.loop-pair.invariant.rules;
    }
