use Rattle.std.proofs.Common.{◌≡◌, ◌++◌, List, vec_len}
use Rattle.std.specs.Prelude.{All}
use Rattle.shared_table.specs.Rule.{plain}
use Rattle.shared_table.specs.SeatValues.{SeatValue}
use Rattle.shared_table.specs.Values.{TableValue, IsOf}
use Rattle.shared_table.specs.Gathered.{HasAll}
use Rattle.shared_table.proofs.directory.gather.Given as goal

abbrev pub invariant-loop-seat : goal.invariant-loop-seat
invariant-loop-seat l =
    let t : TableValue = record { table_id = l.fn.words.table_id; setup = plain l.fn.words.key } in
    (done : List SeatValue) × (l.fn.seats.items ≡ l.seats.items ++ done) × All (IsOf t) l.seats.items
    × HasAll t done l.token

abbrev pub decreases-loop-seat : goal.decreases-loop-seat
decreases-loop-seat l = vec_len l.seats
