use Rattle.std.proofs.Common.{◌≡◌, ℕ, drop, length, slice_index_or, Some, None}
use Rattle.table_model.specs.Closing.{records_there}
use Rattle.history_order.specs.Columns.{after_all, look_place}
use Rattle.history_order.specs.declared.tables.Unit.TheVariants.{Lookup}
use Rattle.history_order.proofs.unit_lists.write_lookups.Given as goal

abbrev pub invariant-loop-record : goal.invariant-loop-record
invariant-loop-record l =
    (length l.units ≡ length l.fn.units)
    × ((place : ℕ) → after_all look_place (λ r. Some Lookup) place (length l.fn.units)
    (records_there (drop l.record-index l.log)) (slice_index_or l.units place None)
    ≡ after_all look_place (λ r. Some Lookup) place (length l.fn.units) (records_there l.log)
    (slice_index_or l.fn.units place None))
