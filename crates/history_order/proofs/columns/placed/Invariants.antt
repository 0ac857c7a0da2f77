use Rattle.std.proofs.Common.{◌≡◌, ℕ, drop, length, slice_index_or, Some, true, false}
use Rattle.word_rows.specs.Shape.{count_of}
use Rattle.plain_map.specs.declared.full.FullKind.TheVariants.{BucketRows}
use Rattle.word_rows.specs.LayoutView.{shape_of}
use Rattle.history_order.specs.Columns.{after_all}
use Rattle.history_order.proofs.columns.placed.Given as goal

abbrev pub invariant-loop-row : goal.invariant-loop-row
invariant-loop-row l =
    (length l.placed.items ≡ count_of (shape_of l.starts.layout) BucketRows)
    × ((place : ℕ) → after_all (λ row. Some row) (λ row. true) place
    (count_of (shape_of l.starts.layout) BucketRows) (drop l.row-index l.rows)
    (slice_index_or l.placed.items place false)
    ≡ after_all (λ row. Some row) (λ row. true) place
    (count_of (shape_of l.starts.layout) BucketRows) l.rows false)
