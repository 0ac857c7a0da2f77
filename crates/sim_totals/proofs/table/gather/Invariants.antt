use Rattle.std.proofs.Common.{◌≡◌, ◌++◌, List, vec_len}
use Rattle.std.specs.Prelude.{All}
use Rattle.sim_totals.specs.Rule.{plain}
use Rattle.sim_totals.specs.Values.{AdderValue, TableValue, IsOf}
use Rattle.sim_totals.specs.Insides.{HasAll}
use Rattle.sim_totals.proofs.table.gather.Given as goal

abbrev pub invariant-loop-adder : goal.invariant-loop-adder
invariant-loop-adder l =
    let d : TableValue = record { table_id = l.fn.words.table_id; settings = plain l.fn.words.key } in
    (done : List AdderValue) × (l.fn.adders.items ≡ l.adders.items ++ done) × All (IsOf d) l.adders.items
    × HasAll d done l.token

abbrev pub decreases-loop-adder : goal.decreases-loop-adder
decreases-loop-adder l = vec_len l.adders
