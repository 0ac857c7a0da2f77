use Rattle.std.proofs.Common.{◌≡◌, ℕ, drop, length, slice_index_or, Some, None}
use Rattle.word_rows.specs.LayoutView.{shape_of}
use Rattle.history_order.specs.Columns.{after_all, version_place, numbered_from}
use Rattle.history_order.specs.declared.tables.Unit.TheVariants.{Version as VersionAt}
use Rattle.history_order.proofs.unit_lists.write_versions.Given as goal

abbrev pub invariant-loop-at : goal.invariant-loop-at
invariant-loop-at g l =
    (length l.units ≡ length l.fn.units)
    × ((place : ℕ) → after_all (version_place (shape_of l.starts.layout) (g.W.Words.words l.words) l.seat)
    (λ numbered. Some (VersionAt numbered.0)) place (length l.fn.units) (numbered_from l.at (drop l.at l.versions))
    (slice_index_or l.units place None)
    ≡ after_all (version_place (shape_of l.starts.layout) (g.W.Words.words l.words) l.seat)
    (λ numbered. Some (VersionAt numbered.0)) place (length l.fn.units) (numbered_from 0 l.versions)
    (slice_index_or l.fn.units place None))
