use Rattle.shared_table.proofs.StepLemmas.{exchange_inside, exchange_allowed, exchange_runs, exchange_goes_on, exchange_fits}
use Rattle.shared_table.proofs.running.RunningSteps.exchange.Goals as goal

pub exchange-requires-clause-inside : goal.exchange-requires-clause-inside
exchange-requires-clause-inside g c = exchange_inside g.B.Asked.asked g.B.Asked.was c.self.inside.words.now.key
    c.self.inside.words.now.table_id c.self.inside.token c.self.inside.late c.self.inside.zeros c.self.inside.done
    c.self.invariant _ c.self.view_is
    c.args.at c.args.old c.args.new c.requires.asked c.place_laws.ensures.within

pub exchange-requires-clause-allowed : goal.exchange-requires-clause-allowed
exchange-requires-clause-allowed g c = exchange_allowed g.B.Asked.asked g.B.Asked.was c.self.inside.words.now.key
    c.self.inside.words.now.table_id c.self.inside.token c.self.inside.late c.self.inside.zeros c.self.inside.done
    c.self.invariant _ c.self.view_is
    c.args.at c.args.old c.args.new c.requires.asked _ _

pub invariant_of-self : goal.invariant_of-self
invariant_of-self g c = exchange_runs g.B.Asked.asked g.B.Asked.was c.self.inside.words.now.key
    c.self.inside.words.now.table_id c.self.inside.token c.self.inside.late c.self.inside.zeros c.self.inside.done
    c.self.invariant _ c.self.view_is
    c.args.at c.args.old c.args.new c.requires.asked c.exchange.new.token c.exchange.result c.exchange.ensures.moved
    c.exchange.ensures.table

pub returns-clause-goes : goal.returns-clause-goes
returns-clause-goes g c = exchange_goes_on g.B.Asked.asked g.B.Asked.was c.self.inside.words.now.key
    c.self.inside.words.now.table_id c.self.inside.token c.self.inside.late c.self.inside.zeros c.self.inside.done
    c.self.invariant _ c.self.view_is
    c.args.at c.args.old c.args.new c.requires.asked c.exchange.new.token c.exchange.result c.exchange.ensures.moved

pub returns-clause-fits : goal.returns-clause-fits
returns-clause-fits g c = exchange_fits g.B.Asked.asked g.B.Asked.was c.self.inside.words.now.key
    c.self.inside.words.now.table_id c.self.inside.token c.self.inside.late c.self.inside.zeros c.self.inside.done
    c.self.invariant _ c.self.view_is
    c.args.at c.args.old c.args.new c.requires.asked c.exchange.new.token c.exchange.result c.exchange.ensures.moved
