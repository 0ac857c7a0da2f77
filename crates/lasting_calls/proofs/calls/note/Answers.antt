-- As it is told.
use Rattle.std.proofs.Common.{Bool, sym, subst}
use Rattle.own_rows.specs.Rows.{HasRows}
use Rattle.lasting_calls.specs.Seats.{row_put}
use Rattle.lasting_calls.proofs.calls.note.Goals as goal

pub returns-then-put-clause-rows : goal.returns-then-put-clause-rows
returns-then-put-clause-rows c r row free g has is then others =
    subst (λ (b : Bool). HasRows c.publish.new.self (row_put b r row free c.args.bucket g)) (sym c.if-put.true)
    (c.publish.ensures.rows r row free g has is then others)
