use Rattle.std.proofs.Common.{◌≡◌, ◌++◌, map}
use Rattle.std.specs.List.{range_with_len}
use Rattle.word_rows.specs.LayoutView.{shape_of}
use Rattle.closed_words.proofs.ItemLemmas.{item_of}
use Rattle.closed_words.proofs.held.push_items.Given as goal

abbrev pub invariant-loop-i : goal.invariant-loop-i
invariant-loop-i g l =
    l.pairs.items ≡ l.fn.pairs.items ++ map (item_of (shape_of l.starts.layout) (g.W.Words.words l.words) l.row)
    (range_with_len 0 l.i)
