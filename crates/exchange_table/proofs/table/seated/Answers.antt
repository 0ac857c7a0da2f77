use Rattle.exchange_table.specs.Tables.{plan_at}
use Rattle.exchange_table.proofs.Seated.{seat_holding, seat_stands}
use Rattle.exchange_table.proofs.table.seated.Goals as goal

pub invariant_of-result : goal.invariant_of-result
invariant_of-result c = seat_stands c.args.desk c.into_badge.result.views c.args.token.me c.args.state
    c.into_badge.ensures.2 c.requires.token c.requires.plan c.requires.seat c.requires.state

pub returns-clause-holding : goal.returns-clause-holding
returns-clause-holding c = seat_holding (plan_at c.args.desk) c.args.desk c.into_badge.result.views c.args.token.me
    c.args.desk.holder c.into_badge.ensures.2 c.requires.token
