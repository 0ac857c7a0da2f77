use Rattle.shared_table.proofs.StepLemmas.{store_inside, store_allowed, finish_ends, finish_answers}
use Rattle.shared_table.proofs.running.RunningSteps.finish.Goals as goal

pub store-requires-clause-inside : goal.store-requires-clause-inside
store-requires-clause-inside g c = store_inside g.B.Asked.asked g.B.Asked.was c.self.inside.words.now.key
    c.self.inside.words.now.table_id c.self.inside.token c.self.inside.late c.self.inside.zeros c.self.inside.done
    c.self.invariant _ c.self.view_is
    c.args.at c.args.word c.requires.asked c.place_laws.ensures.within

pub store-requires-clause-allowed : goal.store-requires-clause-allowed
store-requires-clause-allowed g c = store_allowed g.B.Asked.asked g.B.Asked.was c.self.inside.words.now.key
    c.self.inside.words.now.table_id c.self.inside.token c.self.inside.late c.self.inside.zeros c.self.inside.done
    c.self.invariant _ c.self.view_is
    c.args.at c.args.word c.requires.asked _ _

pub invariant_of-self : goal.invariant_of-self
invariant_of-self g c = finish_ends g.B.Asked.asked g.B.Asked.was c.self.inside.words.now.key
    c.self.inside.words.now.table_id c.self.inside.token c.self.inside.late c.self.inside.zeros c.self.inside.done
    c.self.invariant _ c.self.view_is
    c.args.at c.args.word c.requires.asked c.leave_out.new.self c.leave_out.ensures c.store.new.token
    c.store.ensures.moved c.store.ensures.table

pub returns : goal.returns
returns g c = record {
  answered = finish_answers g.B.Asked.asked g.B.Asked.was c.self.inside.words.now.key
      c.self.inside.words.now.table_id c.self.inside.token c.self.inside.late c.self.inside.zeros c.self.inside.done
      c.self.invariant _ c.self.view_is
      c.args.at c.args.word c.requires.asked c.leave_out.new.self c.leave_out.ensures c.store.new.token
      c.store.ensures.moved c.store.ensures.table;
}
