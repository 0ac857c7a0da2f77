use Rattle.std.proofs.Common.{arith}
use Rattle.exchange_calls.specs.Going.Task.{Store}
use Rattle.exchange_table.proofs.OnTheWay.{fits_then, goes_then, still, store_ready}
use Rattle.exchange_table.proofs.running.RunningSteps.store.Goals as goal

pub store-requires : goal.store-requires
store-requires g c = store_ready g.B.Asked.asked g.B.Asked.tries g.B.Asked.since c.self.inside.words.now.key
    c.self.inside.words.now.table_id c.self.inside.token c.self.inside.stage c.self.invariant _ c.self.view_is _ _
    c.args.at c.args.word c.requires.asked

pub invariant_of-self : goal.invariant_of-self
invariant_of-self g c = still g.B.Asked.asked g.B.Asked.tries g.B.Asked.since c.self.inside.words.now.key
    c.self.inside.words.now.table_id c.self.inside.token c.self.inside.stage c.self.invariant _ c.self.view_is
    (Store c.args.at c.args.word) c.requires.asked (omega arith) c.store.new.seat 0 c.store.ensures.2
    c.store.ensures.0

pub returns-clause-goes : goal.returns-clause-goes
returns-clause-goes g c = goes_then g.B.Asked.asked g.B.Asked.tries g.B.Asked.since c.self.inside.words.now.key
    c.self.inside.words.now.table_id c.self.inside.token c.self.inside.stage c.self.invariant _ c.self.view_is
    (Store c.args.at c.args.word) c.requires.asked (omega arith) c.store.new.seat 0 c.store.ensures.2

pub returns-clause-fits : goal.returns-clause-fits
returns-clause-fits g c = fits_then g.B.Asked.asked g.B.Asked.tries g.B.Asked.since c.self.inside.words.now.key
    c.self.inside.words.now.table_id c.self.inside.token c.self.inside.stage c.self.invariant _ c.self.view_is
    (Store c.args.at c.args.word) c.requires.asked (omega arith) c.store.new.seat 0 c.store.ensures.2
