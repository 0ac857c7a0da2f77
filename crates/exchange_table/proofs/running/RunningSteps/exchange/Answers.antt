use Rattle.std.proofs.Common.{arith}
use Rattle.exchange_calls.specs.Going.Task.{Exchange}
use Rattle.exchange_table.proofs.OnTheWay.{fits_then, goes_then, still, swap_ready}
use Rattle.exchange_table.proofs.running.RunningSteps.exchange.Goals as goal

pub compare_exchange-found-requires : goal.compare_exchange-found-requires
compare_exchange-found-requires g c = swap_ready g.B.Asked.asked g.B.Asked.tries g.B.Asked.since
    c.self.inside.words.now.key
    c.self.inside.words.now.table_id c.self.inside.token c.self.inside.stage c.self.invariant _ c.self.view_is _ _
    c.args.at c.args.old c.args.new c.requires.asked

pub invariant_of-self : goal.invariant_of-self
invariant_of-self g c = still g.B.Asked.asked g.B.Asked.tries g.B.Asked.since c.self.inside.words.now.key
    c.self.inside.words.now.table_id c.self.inside.token c.self.inside.stage c.self.invariant _ c.self.view_is
    (Exchange c.args.at c.args.old c.args.new) c.requires.asked (omega arith) c.compare_exchange-found.new.seat
    c.compare_exchange-found.result c.compare_exchange-found.ensures.2 c.compare_exchange-found.ensures.0

pub returns-clause-goes : goal.returns-clause-goes
returns-clause-goes g c = goes_then g.B.Asked.asked g.B.Asked.tries g.B.Asked.since c.self.inside.words.now.key
    c.self.inside.words.now.table_id c.self.inside.token c.self.inside.stage c.self.invariant _ c.self.view_is
    (Exchange c.args.at c.args.old c.args.new) c.requires.asked (omega arith) c.compare_exchange-found.new.seat
    c.compare_exchange-found.result c.compare_exchange-found.ensures.2

pub returns-clause-fits : goal.returns-clause-fits
returns-clause-fits g c = fits_then g.B.Asked.asked g.B.Asked.tries g.B.Asked.since c.self.inside.words.now.key
    c.self.inside.words.now.table_id c.self.inside.token c.self.inside.stage c.self.invariant _ c.self.view_is
    (Exchange c.args.at c.args.old c.args.new) c.requires.asked (omega arith) c.compare_exchange-found.new.seat
    c.compare_exchange-found.result c.compare_exchange-found.ensures.2
