use Rattle.std.proofs.Common.{◌≡◌, take}
use Rattle.word_rows.specs.LayoutView.{shape_of}
use Rattle.table_model.specs.Reading.{directory_at}
use Rattle.closed_words.proofs.published.entries.Given as goal

abbrev pub invariant-loop-i : goal.invariant-loop-i
invariant-loop-i g l =
    l.all.items ≡ take l.i (directory_at (shape_of l.starts.layout) (g.W.Words.words l.words) l.row).entries
