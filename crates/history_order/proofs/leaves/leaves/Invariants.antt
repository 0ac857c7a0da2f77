use Rattle.std.proofs.Common.{◌≡◌, ◌++◌, [], List, ℕ, drop, map}
use Rattle.word_rows.specs.LayoutView.{shape_of}
use Rattle.closed_words.specs.Marks.{AreMet}
use Rattle.history_order.specs.Filling.{leaves_from}
use Rattle.history_order.proofs.leaves.leaves.Given as goal

abbrev pub invariant-loop-row : goal.invariant-loop-row
invariant-loop-row g l =
    (known : List ℕ) × AreMet l.met.items known
    × (map (λ buckets. buckets.items) l.leaves.items
    ++ leaves_from (shape_of l.starts.layout) (g.W.Words.words l.words) known (drop l.row-index l.rows)
    ≡ leaves_from (shape_of l.starts.layout) (g.W.Words.words l.words) [] l.rows)
