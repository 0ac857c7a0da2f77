use Rattle.shared_table.proofs.StepLemmas.{load_inside, load_allowed, load_runs, load_goes_on, load_fits}
use Rattle.shared_table.proofs.running.RunningSteps.load.Goals as goal

pub load-requires-clause-inside : goal.load-requires-clause-inside
load-requires-clause-inside g c = load_inside g.B.Asked.asked g.B.Asked.was c.self.inside.words.now.key
    c.self.inside.words.now.table_id c.self.inside.token c.self.inside.late c.self.inside.zeros c.self.inside.done
    c.self.invariant _ c.self.view_is
    c.args.at c.requires.asked c.place_laws.ensures.within

pub load-requires-clause-allowed : goal.load-requires-clause-allowed
load-requires-clause-allowed g c = load_allowed g.B.Asked.asked g.B.Asked.was c.self.inside.words.now.key
    c.self.inside.words.now.table_id c.self.inside.token c.self.inside.late c.self.inside.zeros c.self.inside.done
    c.self.invariant _ c.self.view_is
    c.args.at c.requires.asked _ _

pub invariant_of-self : goal.invariant_of-self
invariant_of-self g c = load_runs g.B.Asked.asked g.B.Asked.was c.self.inside.words.now.key
    c.self.inside.words.now.table_id c.self.inside.token c.self.inside.late c.self.inside.zeros c.self.inside.done
    c.self.invariant _ c.self.view_is
    c.args.at c.requires.asked c.load.new.token c.load.result c.load.ensures.moved c.load.ensures.table

pub returns-clause-goes : goal.returns-clause-goes
returns-clause-goes g c = load_goes_on g.B.Asked.asked g.B.Asked.was c.self.inside.words.now.key
    c.self.inside.words.now.table_id c.self.inside.token c.self.inside.late c.self.inside.zeros c.self.inside.done
    c.self.invariant _ c.self.view_is
    c.args.at c.requires.asked c.load.new.token c.load.result c.load.ensures.moved

pub returns-clause-fits : goal.returns-clause-fits
returns-clause-fits g c = load_fits g.B.Asked.asked g.B.Asked.was c.self.inside.words.now.key
    c.self.inside.words.now.table_id c.self.inside.token c.self.inside.late c.self.inside.zeros c.self.inside.done
    c.self.invariant _ c.self.view_is
    c.args.at c.requires.asked c.load.new.token c.load.result c.load.ensures.moved
