-- So many rows are looked at.
use Rattle.std.proofs.Common.{◌≡◌, length}
use Rattle.exchange_calls.proofs.KeepLemmas.{Keeping}
use Rattle.exchange_calls.proofs.own_rows.OwnRows.keep.Given as goal

abbrev pub invariant-loop-turn : goal.invariant-loop-turn
invariant-loop-turn l = record {
  next : l.self.next ≡ 0;
  end : l._turn-end ≡ length l.fn.self.free.items;
  keeping : Keeping l.row l.fn.self.free.items l.fn.self.kept.items l.self.free.items l.self.kept.items l.i l._turn;
}
