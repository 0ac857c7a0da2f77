use Rattle.std.proofs.Common.{◌≡◌, ◌++◌, ◌-◌, ℕ, List, drop, reverse}
use Rattle.word_rows.specs.LayoutView.{shape_of}
use Rattle.closed_words.specs.Marks.{AreMet}
use Rattle.history_order.specs.Filling.{entries_of}
use Rattle.history_order.proofs.Loops.{picked}
use Rattle.history_order.proofs.leaves.new_leaves.Given as goal

abbrev pub invariant-loop-i : goal.invariant-loop-i
invariant-loop-i g l =
    (known : List ℕ) → AreMet l.fn.met.items known →
    (let rest = drop (l.count - l.i) (entries_of (shape_of l.starts.layout) (g.W.Words.words l.words) l.row) in
    (reverse l.leaves.items ≡ picked known rest) × AreMet l.met.items (known ++ rest))
