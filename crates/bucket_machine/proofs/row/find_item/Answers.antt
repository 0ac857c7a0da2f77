use Rattle.std.proofs.Common.{◌≡◌, ◌∙◌, ap, sym, arith, get_or, List, ℕ, length}
use Rattle.bucket_machine.proofs.WordLemmas.{placed_here, none_more}
use Rattle.bucket_machine.proofs.row.find_item.Goals as goal
use Rattle.plain_map.specs.Keys.{no_pair}

pub returns-then-has_key : goal.returns-then-has_key
returns-then-has_key c = record {
  inside = c.loop-i-test.true;
  found = λ b spells.
      let count : get_or c.args.row.now 4 0 ≡ length b.items = ap (λ (ws : List ℕ). get_or ws 4 0) spells.words in
      placed_here c.args.key.now b.items c.loop-i.i no_pair (omega (arith, count)) (c.loop-i.invariant.none b spells)
      (sym (c.has_key.ensures.same b spells (omega (arith, count)) no_pair) ∙ c.if-has_key.true);
}

pub loop-i-preserved : goal.loop-i-preserved
loop-i-preserved c = record {
  none = λ b spells.
      let count : get_or c.args.row.now 4 0 ≡ length b.items = ap (λ (ws : List ℕ). get_or ws 4 0) spells.words in
      none_more c.args.key.now b.items c.loop-i.i no_pair (omega (arith, count)) (c.loop-i.invariant.none b spells)
      (sym (c.has_key.ensures.same b spells (omega (arith, count)) no_pair) ∙ c.if-has_key.false);
}
