use Rattle.std.proofs.Common.{◌<◌, subst}
use Rattle.exchange_model.specs.Plans.{Plan, buckets_of}
use Rattle.exchange_model.specs.Goes.{Copied}
use Rattle.exchange_model.specs.Worlds.{world_after}
use Rattle.exchange_table.specs.Parties.{party}
use Rattle.exchange_table.specs.Calls.{holding_of}
use Rattle.exchange_table.proofs.OnTheWay.{begins, can_copy, copy_begins, now_plan, now_tries}
use Rattle.exchange_table.proofs.running.RunningSteps.begin_copy.Goals as goal

pub invariant_of-self : goal.invariant_of-self
invariant_of-self g c =
    let h = holding_of c.self.inside.words.now.key c.self.inside.token.me in
    begins g.B.Asked.asked g.B.Asked.tries g.B.Asked.since c.self.inside.words.now.key
    c.self.inside.words.now.table_id c.self.inside.token c.self.inside.stage c.self.invariant _ c.self.view_is
    (Copied c.args._bucket) c.args._tries c.requires.may c.requires.idle
    (can_copy h.plan h.who (party (world_after h.plan h.known) h.who) c.args._bucket c.args._tries
    (subst (λ (p : Plan). c.args._bucket < buckets_of p.settings)
    (now_plan g.B.Asked.asked g.B.Asked.tries g.B.Asked.since c.self.inside.words.now.key
    c.self.inside.words.now.table_id c.self.inside.token c.self.inside.stage c.self.invariant _ c.self.view_is
    (Copied c.args._bucket) c.args._tries c.requires.may) c.requires.bucket)
    (now_tries g.B.Asked.asked g.B.Asked.tries g.B.Asked.since c.self.inside.words.now.key
    c.self.inside.words.now.table_id c.self.inside.token c.self.inside.stage c.self.invariant _ c.self.view_is
    (Copied c.args._bucket) c.args._tries c.requires.may c.requires.tries))

pub returns : goal.returns
returns g c = copy_begins g.B.Asked.asked g.B.Asked.tries g.B.Asked.since c.self.inside.words.now.key
    c.self.inside.words.now.table_id c.self.inside.token c.self.inside.stage c.self.invariant _ c.self.view_is
    c.args._bucket c.args._tries c.requires.may
