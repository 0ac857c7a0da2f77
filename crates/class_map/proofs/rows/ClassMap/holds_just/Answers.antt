use Rattle.class_map.proofs.PairLemmas.{all_held, just_so}
use Rattle.class_map.proofs.rows.ClassMap.holds_just.Goals as goal

pub returns-then-not-holds_all : goal.returns-then-not-holds_all
returns-then-not-holds_all c = λ sessions holds ordered is.
    c.if-not-holds_all.ensures sessions holds (all_held sessions c.args.pairs.now ordered is)

pub returns : goal.returns
returns c = λ sessions holds ordered.
    just_so c.prefix_laws.ensures.within c.args.self.now c.args.rules.now sessions c.args.pairs.now
    c.holds_no_other.result c.requires.range holds ordered (c.if-not-holds_all.ensures sessions holds)
    (c.holds_no_other.ensures ordered)
