use Rattle.exchange_table.proofs.OnTheWay.{on_table}
use Rattle.exchange_table.proofs.running.RunningSteps.stands.Goals as goal

pub returns : goal.returns
returns g c = on_table g.B.Asked.asked g.B.Asked.tries g.B.Asked.since c.self.inside.words.now.key
    c.self.inside.words.now.table_id c.self.inside.token c.self.inside.stage c.self.invariant _ c.self.view_is
