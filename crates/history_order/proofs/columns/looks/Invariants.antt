use Rattle.std.proofs.Common.{◌≡◌, ◌+◌, ◌<◌, ℕ, drop, length, slice_index_or, flat_map}
use Rattle.word_rows.specs.Shape.{count_of}
use Rattle.plain_map.specs.declared.full.FullKind.TheVariants.{BucketRows}
use Rattle.word_rows.specs.LayoutView.{shape_of}
use Rattle.table_model.specs.Closing.{records_there}
use Rattle.history_order.specs.Columns.{looks_in}
use Rattle.history_order.proofs.columns.looks.Given as goal

abbrev pub invariant-loop-log : goal.invariant-loop-log
invariant-loop-log l =
    (length l.looks.items ≡ count_of (shape_of l.starts.layout) BucketRows)
    × ((place : ℕ) → place < count_of (shape_of l.starts.layout) BucketRows →
    slice_index_or l.looks.items place 0
    + looks_in (flat_map (λ log. records_there log.items) (drop l.log-index l.logs)) place
    ≡ looks_in (flat_map (λ log. records_there log.items) l.logs) place)
