-- The words so far are loaded: items, and then entries.
use Rattle.std.proofs.Common.{◌≡◌, ◌∷◌, ◌++◌, length}
use Rattle.exchange_model.specs.Codes.{pair_words}
use Rattle.exchange_calls.specs.Marks.{mark_words}
use Rattle.exchange_calls.proofs.RowLemmas.{row_family}
use Rattle.exchange_calls.proofs.rows.load_row.Given as goal

abbrev pub invariant-loop-i : goal.invariant-loop-i
invariant-loop-i g l = record {
  many : length l.hand.items.items ≡ l.i;
  goes : g.S.Steps.now l.steps ≡ row_family (g.S.Steps.now l.fn.steps) l.fn.own.call l.fn.turn l.fn.word
      (l.head ∷ pair_words l.hand.items.items);
}

abbrev pub invariant-loop-j : goal.invariant-loop-j
invariant-loop-j g l = record {
  items : length l.hand.items.items ≡ l.count;
  many : length l.hand.marks.items ≡ l.j;
  goes : g.S.Steps.now l.steps ≡ row_family (g.S.Steps.now l.fn.steps) l.fn.own.call l.fn.turn l.fn.word
      (l.head ∷ (pair_words l.hand.items.items ++ mark_words l.hand.marks.items));
}
