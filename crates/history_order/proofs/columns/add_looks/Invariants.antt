use Rattle.std.proofs.Common.{◌≡◌, ◌+◌, ◌<◌, ℕ, drop, length, slice_index_or}
use Rattle.table_model.specs.Closing.{records_there}
use Rattle.history_order.specs.Columns.{looks_in}
use Rattle.history_order.proofs.columns.add_looks.Given as goal

abbrev pub invariant-loop-record : goal.invariant-loop-record
invariant-loop-record l =
    (length l.looks.items ≡ length l.fn.looks.items)
    × ((place : ℕ) → place < length l.fn.looks.items →
    slice_index_or l.looks.items place 0 + looks_in (records_there (drop l.record-index l.log)) place
    ≡ slice_index_or l.fn.looks.items place 0 + looks_in (records_there l.log) place)
