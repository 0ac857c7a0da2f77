use Rattle.exchange_table.specs.Tables.{plan_at}
use Rattle.exchange_table.proofs.Seated.{reader_holds, seat_holding}
use Rattle.exchange_table.proofs.table.holding.Goals as goal

pub invariant_of-result : goal.invariant_of-result
invariant_of-result c = reader_holds c.args.desk c.into_badge.result.views c.args.token.me c.into_badge.ensures.2
    c.requires.token c.requires.plan

pub returns-clause-holding : goal.returns-clause-holding
returns-clause-holding c = seat_holding (plan_at c.args.desk) c.args.desk c.into_badge.result.views c.args.token.me
    c.args.desk.holder c.into_badge.ensures.2 c.requires.token
