-- The walk along the chain.
use Rattle.std.proofs.Common.{◌∙◌, length, sym, arith}
use Rattle.exchange_opening.proofs.Chains.{chain_below, walk_begins, walk_ends, walk_falls, walk_finds, walk_on}
use Rattle.exchange_opening.proofs.first_pairs.others.Goals as goal

pub loop-link-init : goal.loop-link-init
loop-link-init c = record {
  left = λ places chain. walk_begins c.args.pairs.now c.args.links.now c.args.key.now places c.args.last chain;
  inside = chain_below c.args.links.now (length c.args.pairs.now) c.args.last c.requires.chain.0 c.requires.chain.1;
  falls = omega arith;
}

pub returns-then-has_key : goal.returns-then-has_key
returns-then-has_key c places chain =
    walk_finds c.args.pairs.now c.args.links.now c.args.key.now places c.loop-link.link c.loop-link.many
    (c.loop-link.invariant.left places chain) c.loop-link-test.true (sym c.has_key.ensures ∙ c.if-has_key.true)

pub loop-link-smaller : goal.loop-link-smaller
loop-link-smaller c =
    let places = c.requires.chain.0 in
    let falls = walk_falls c.args.pairs.now c.args.links.now c.args.key.now places c.loop-link.link c.loop-link.many
    (c.loop-link.invariant.left places c.requires.chain.1) c.loop-link-test.true in
    let some = c.loop-link-test.true in
    omega (arith, falls, some)

pub loop-link-preserved : goal.loop-link-preserved
loop-link-preserved c =
    let places = c.requires.chain.0 in
    let falls = walk_falls c.args.pairs.now c.args.links.now c.args.key.now places c.loop-link.link c.loop-link.many
    (c.loop-link.invariant.left places c.requires.chain.1) c.loop-link-test.true in
    let some = c.loop-link-test.true in
    let before = c.loop-link.invariant.falls in
    record {
      left = λ places chain. walk_on c.args.pairs.now c.args.links.now c.args.key.now places c.loop-link.link
          c.loop-link.many (c.loop-link.invariant.left places chain) c.loop-link-test.true
          (sym c.has_key.ensures ∙ c.if-has_key.false);
      inside = omega (arith, falls, some, c.loop-link.invariant.inside);
      falls = omega (arith, falls, some, before);
    }

pub returns : goal.returns
returns c places chain =
    walk_ends c.args.pairs.now c.args.links.now c.args.key.now places c.loop-link.link c.loop-link.many
    c.loop-link-test.false (c.loop-link.invariant.left places chain)
