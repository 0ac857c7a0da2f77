use Rattle.std.proofs.Common.{sym, ◌∙◌}
use Rattle.exchange_model.specs.Goes.{Called}
use Rattle.exchange_model.specs.Worlds.{world_after}
use Rattle.exchange_table.specs.Parties.{party, seat_no}
use Rattle.exchange_table.specs.Calls.{holding_of}
use Rattle.exchange_table.proofs.OnTheWay.{begins, can_update, clean_begins, now_can, now_holds, update_begins}
use Rattle.exchange_table.proofs.running.RunningSteps.begin.Goals as goal

pub invariant_of-self : goal.invariant_of-self
invariant_of-self g c =
    let h = holding_of c.self.inside.words.now.key c.self.inside.token.me in
    begins g.B.Asked.asked g.B.Asked.tries g.B.Asked.since c.self.inside.words.now.key
    c.self.inside.words.now.table_id c.self.inside.token c.self.inside.stage c.self.invariant _ c.self.view_is
    (Called c.args._call.now) 0 c.requires.may c.requires.idle
    (can_update h.plan h.who (party (world_after h.plan h.known) h.who) c.args._call.now 0
    (sym (now_holds g.B.Asked.asked g.B.Asked.tries g.B.Asked.since c.self.inside.words.now.key
    c.self.inside.words.now.table_id c.self.inside.token c.self.inside.stage c.self.invariant _ c.self.view_is
    (Called c.args._call.now) 0 c.requires.may) ∙ c.requires.seat) c.requires.may.fitting
    (clean_begins h.plan (seat_no h.who) c.args._call.now (party (world_after h.plan h.known) h.who)
    c.requires.may.fitting
    (now_can g.B.Asked.asked g.B.Asked.tries g.B.Asked.since c.self.inside.words.now.key
    c.self.inside.words.now.table_id c.self.inside.token c.self.inside.stage c.self.invariant _ c.self.view_is
    c.args._call.now c.requires.may c.requires.can)))

pub returns : goal.returns
returns g c = update_begins g.B.Asked.asked g.B.Asked.tries g.B.Asked.since c.self.inside.words.now.key
    c.self.inside.words.now.table_id c.self.inside.token c.self.inside.stage c.self.invariant _ c.self.view_is
    c.args._call.now c.requires.may
