use Rattle.lasting_table.specs.Tables.{table_value}
use Rattle.lasting_table.specs.Values.{IsPartyOf}
use Rattle.lasting_uses.proofs.put_often.Given as goal

-- the seat is one of the table's
abbrev pub invariant-loop-value : goal.invariant-loop-value
invariant-loop-value l = IsPartyOf (table_value l.table-inside) l.seat
