use Rattle.std.proofs.Common.{sym, subst, ◌∙◌}
use Rattle.lasting_model.specs.Steps.{SeatNow}
use Rattle.lasting_model.specs.Goes.{Called}
use Rattle.lasting_model.specs.Worlds.{CanBegin, world_after}
use Rattle.lasting_table.specs.Parties.{party}
use Rattle.lasting_table.specs.Calls.{holding_of}
use Rattle.lasting_table.proofs.OnTheWay.{begins, can_update, clean_begins, now_holds, now_own, update_begins}
use Rattle.lasting_table.proofs.running.RunningSteps.begin.Goals as goal

pub invariant_of-self : goal.invariant_of-self
invariant_of-self g c =
    let h = holding_of c.self.inside.words.now.key c.self.inside.token.me in
    begins g.B.Asked.asked g.B.Asked.tries g.B.Asked.since c.self.inside.words.now.key
    c.self.inside.words.now.table_id c.self.inside.token c.self.inside.stage c.self.invariant _ c.self.view_is
    (Called c.args._call.now) 0 c.requires.may c.requires.idle
    (can_update h.plan h.who (party (world_after h.plan h.known) h.who) c.args._call.now 0
    (sym (now_holds g.B.Asked.asked g.B.Asked.tries g.B.Asked.since c.self.inside.words.now.key
    c.self.inside.words.now.table_id c.self.inside.token c.self.inside.stage c.self.invariant _ c.self.view_is
    (Called c.args._call.now) 0 c.requires.may) ∙ c.requires.seat) c.requires.may.fitting
    (clean_begins c.args._call.now (party (world_after h.plan h.known) h.who) c.requires.may.fitting
    (subst (λ (k : SeatNow). CanBegin k c.args._call.now)
    (now_own g.B.Asked.asked g.B.Asked.tries g.B.Asked.since c.self.inside.words.now.key
    c.self.inside.words.now.table_id c.self.inside.token c.self.inside.stage c.self.invariant _ c.self.view_is
    (Called c.args._call.now) 0 c.requires.may) c.requires.can)))

pub returns : goal.returns
returns g c = update_begins g.B.Asked.asked g.B.Asked.tries g.B.Asked.since c.self.inside.words.now.key
    c.self.inside.words.now.table_id c.self.inside.token c.self.inside.stage c.self.invariant _ c.self.view_is
    c.args._call.now c.requires.may
