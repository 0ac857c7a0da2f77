use Rattle.std.proofs.Common.{◌≡◌, ◌+◌, ◌<◌, ℕ, [], length, map, None, slice_index_or}
use Rattle.table_model.specs.Closing.{log_of, read_in}
use Rattle.history_order.proofs.row_columns.lists.Given as goal

abbrev pub invariant-loop-seat : goal.invariant-loop-seat
invariant-loop-seat l =
    (length l.lists.items ≡ l.seat)
    × ((seat : ℕ) → seat < l.seat → length (slice_index_or (map (λ list. list.items) l.lists.items) seat [])
    ≡ length (log_of (read_in l.logs) seat) + 1)
    × ((seat place : ℕ) → seat < l.seat →
    slice_index_or (slice_index_or (map (λ list. list.items) l.lists.items) seat []) place None ≡ None)
