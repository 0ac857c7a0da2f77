use Rattle.std.proofs.Common.{ℕ, List, [], ◌∷◌, ◌++◌, sym, ap, ◌∙◌, rules, arith}
use Rattle.std.specs.Mem.Slots.{slots_items}
use Rattle.list_laws.proofs.Cuts.{take_at}
use Rattle.sim_totals.proofs.table.read_all.Goals as goal

pub loop-i-preserved : goal.loop-i-preserved
loop-i-preserved c = record {
  items = c.push_reserved.ensures.items ∙ ap (λ (l : List ℕ). l ++ c.word.result ∷ []) c.loop-i.invariant.items
      ∙ sym (take_at (slots_items c.args.closed.now.words) c.loop-i.i c.word.result c.word.ensures);
  len = omega arith;
  room = search rules;
}
