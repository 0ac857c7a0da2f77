-- What the chain of the class tells, and how it grows.
use Rattle.std.proofs.Common.{ℕ, ◌<◌, ◌^◌, subst}
use Rattle.exchange_opening.proofs.Chains.{brings_held, brings_new, brings_none, chain_of}
use Rattle.exchange_opening.proofs.first_pairs.bring.Goals as goal

pub others-requires-clause-chain : goal.others-requires-clause-chain
others-requires-clause-chain c =
    let is = c.class_of-class.ensures.value in
    chain_of c.args.rules.now c.requires.range c.args.pairs.now c.args.place c.requires.place c.args.lasts.now
    c.args.links.now c.requires.linked.0 c.requires.linked.1
    (subst (λ (n : ℕ). n < 2 ^ c.args.rules.now.depth) is c.class_of-class.ensures.within) c.class_of-class.result is

pub returns-in-None : goal.returns-in-None
returns-in-None c sessions linked =
    let is = c.class_of-class.ensures.value in
    brings_held c.args.rules.now c.requires.range c.args.pairs.now c.args.place c.requires.place c.args.lasts.now
    c.args.links.now sessions linked
    (subst (λ (n : ℕ). n < 2 ^ c.args.rules.now.depth) is c.class_of-class.ensures.within) c.class_of-class.result is
    c.others.result c.others.ensures c.in-None.is

pub returns-then-many-rules : goal.returns-then-many-rules
returns-then-many-rules c sessions linked =
    let is = c.class_of-class.ensures.value in
    brings_new c.args.rules.now c.requires.range c.args.pairs.now c.args.place c.requires.place c.args.lasts.now
    c.args.links.now sessions linked
    (subst (λ (n : ℕ). n < 2 ^ c.args.rules.now.depth) is c.class_of-class.ensures.within) c.class_of-class.result is
    c.others.result c.others.ensures c.in-Some.many c.in-Some.is c.if-many-rules.true

pub returns-else-many-rules : goal.returns-else-many-rules
returns-else-many-rules c sessions linked =
    let is = c.class_of-class.ensures.value in
    brings_none c.args.rules.now c.requires.range c.args.pairs.now c.args.place c.requires.place c.args.lasts.now
    c.args.links.now sessions linked
    (subst (λ (n : ℕ). n < 2 ^ c.args.rules.now.depth) is c.class_of-class.ensures.within) c.class_of-class.result is
    c.others.result c.others.ensures c.in-Some.many c.in-Some.is c.if-many-rules.false
