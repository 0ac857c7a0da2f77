use Rattle.plain_map.specs.declared.calls.Call.TheVariants.{Lookup}
use Rattle.exchange_model.specs.Goes.{Called}
use Rattle.exchange_model.specs.Worlds.{world_after}
use Rattle.exchange_table.specs.Parties.{party}
use Rattle.exchange_table.specs.Calls.{holding_of}
use Rattle.exchange_table.proofs.OnTheWay.{begins, can_look, look_begins, now_tries}
use Rattle.exchange_table.proofs.running.RunningSteps.begin_look.Goals as goal

pub invariant_of-self : goal.invariant_of-self
invariant_of-self g c =
    let h = holding_of c.self.inside.words.now.key c.self.inside.token.me in
    begins g.B.Asked.asked g.B.Asked.tries g.B.Asked.since c.self.inside.words.now.key
    c.self.inside.words.now.table_id c.self.inside.token c.self.inside.stage c.self.invariant _ c.self.view_is
    (Called (Lookup c.args.key.now)) c.args._tries c.requires.may c.requires.idle
    (can_look h.plan h.who (party (world_after h.plan h.known) h.who) c.args.key.now c.args._tries c.has_words.ensures
    (now_tries g.B.Asked.asked g.B.Asked.tries g.B.Asked.since c.self.inside.words.now.key
    c.self.inside.words.now.table_id c.self.inside.token c.self.inside.stage c.self.invariant _ c.self.view_is
    (Called (Lookup c.args.key.now)) c.args._tries c.requires.may c.requires.tries))

pub returns : goal.returns
returns g c = look_begins g.B.Asked.asked g.B.Asked.tries g.B.Asked.since c.self.inside.words.now.key
    c.self.inside.words.now.table_id c.self.inside.token c.self.inside.stage c.self.invariant _ c.self.view_is
    c.args.key.now c.args._tries c.requires.may
