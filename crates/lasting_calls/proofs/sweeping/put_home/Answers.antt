-- As the test says.
use Rattle.std.proofs.Common.{Bool, sym, subst}
use Rattle.own_rows.specs.Rows.{HasRows}
use Rattle.lasting_calls.specs.Sweeps.{home_put}
use Rattle.lasting_calls.proofs.sweeping.put_home.Goals as goal

pub returns-then-stands-clause-rows : goal.returns-then-stands-clause-rows
returns-then-stands-clause-rows c r row todo has is =
    subst (λ (b : Bool). HasRows c.keep_home.new.self (home_put b r row todo)) (sym c.if-stands.true)
    (c.keep_home.ensures.rows r row todo has is)

pub returns-else-stands-clause-rows : goal.returns-else-stands-clause-rows
returns-else-stands-clause-rows c r row todo has is =
    subst (λ (b : Bool). HasRows c.lose_home.new.self (home_put b r row todo)) (sym c.if-stands.false)
    (c.lose_home.ensures.rows r row todo has is)
