use Rattle.std.proofs.Common.{◌<◌, Bool, subst}
use Rattle.lasting_model.specs.Plans.{Plan, buckets_of}
use Rattle.lasting_model.specs.Goes.{Copied}
use Rattle.lasting_model.specs.Worlds.{world_after}
use Rattle.lasting_calls.specs.Going.{HasTries}
use Rattle.lasting_table.specs.Parties.{party}
use Rattle.lasting_table.specs.Calls.{holding_of}
use Rattle.lasting_table.proofs.OnTheWay.{begins, can_copy, copy_begins, now_holds, now_plan}
use Rattle.lasting_table.proofs.running.RunningSteps.begin_copy.Goals as goal

pub invariant_of-self : goal.invariant_of-self
invariant_of-self g c =
    let h = holding_of c.self.inside.words.now.key c.self.inside.token.me in
    begins g.B.Asked.asked g.B.Asked.tries g.B.Asked.since c.self.inside.words.now.key
    c.self.inside.words.now.table_id c.self.inside.token c.self.inside.stage c.self.invariant _ c.self.view_is
    (Copied c.args._bucket) c.args._tries c.requires.may c.requires.idle
    (can_copy h.plan h.who (party (world_after h.plan h.known) h.who) c.args._bucket c.args._tries
    (subst (λ (p : Plan). c.args._bucket < buckets_of p.settings)
    (now_plan g.B.Asked.asked g.B.Asked.tries g.B.Asked.since c.self.inside.words.now.key
    c.self.inside.words.now.table_id c.self.inside.token c.self.inside.stage c.self.invariant _ c.self.view_is
    (Copied c.args._bucket) c.args._tries c.requires.may) c.requires.bucket)
    (subst (λ (b : Bool). HasTries b c.args._tries)
    (now_holds g.B.Asked.asked g.B.Asked.tries g.B.Asked.since c.self.inside.words.now.key
    c.self.inside.words.now.table_id c.self.inside.token c.self.inside.stage c.self.invariant _ c.self.view_is
    (Copied c.args._bucket) c.args._tries c.requires.may) c.requires.tries))

pub returns : goal.returns
returns g c = copy_begins g.B.Asked.asked g.B.Asked.tries g.B.Asked.since c.self.inside.words.now.key
    c.self.inside.words.now.table_id c.self.inside.token c.self.inside.stage c.self.invariant _ c.self.view_is
    c.args._bucket c.args._tries c.requires.may
