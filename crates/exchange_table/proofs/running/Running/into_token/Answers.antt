use Rattle.exchange_table.proofs.OnTheWay.{has_ended, has_waited, is_taken}
use Rattle.exchange_table.proofs.running.Running.into_token.Goals as goal

pub returns-clause-ended : goal.returns-clause-ended
returns-clause-ended g c = has_ended g.B.Asked.asked g.B.Asked.tries g.B.Asked.since c.self.inside.words.now.key
    c.self.inside.words.now.table_id c.self.inside.token c.self.inside.stage c.self.invariant _ c.self.view_is

pub returns-clause-waited : goal.returns-clause-waited
returns-clause-waited g c = has_waited g.B.Asked.asked g.B.Asked.tries g.B.Asked.since c.self.inside.words.now.key
    c.self.inside.words.now.table_id c.self.inside.token c.self.inside.stage c.self.invariant _ c.self.view_is

pub returns-clause-taken : goal.returns-clause-taken
returns-clause-taken g c = is_taken g.B.Asked.asked g.B.Asked.tries g.B.Asked.since c.self.inside.words.now.key
    c.self.inside.words.now.table_id c.self.inside.token c.self.inside.stage c.self.invariant _ c.self.view_is
