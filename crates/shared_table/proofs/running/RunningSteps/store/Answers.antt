use Rattle.std.proofs.Common.{◌<◌, ◌^◌, ◌∙◌, arith, sym}
use Rattle.shared_table.proofs.ZerosLemmas.{is_zero}
use Rattle.shared_table.proofs.StepLemmas.{store_inside, store_allowed, store_runs, store_goes_on, store_fits, late_runs, late_goes_on, late_fits, late_few}
use Rattle.shared_table.proofs.running.RunningSteps.store.Goals as goal

-- ---- a store that says nothing new

pub overflow_add-self : goal.overflow_add-self
overflow_add-self g c =
    let few : c.self.inside.late < 2 ^ 62 = late_few g.B.Asked.asked g.B.Asked.was c.self.inside.words.now.key
    c.self.inside.words.now.table_id c.self.inside.token c.self.inside.late c.self.inside.zeros c.self.inside.done
    c.self.invariant _ c.self.view_is c.args.at c.args.word c.requires.asked
    c.if-word-eq0.true (is_zero c.self.inside.zeros c.args.at (sym c.has.ensures ∙ c.if-has.true)) in
    omega (arith, few)

pub invariant_of-self : goal.invariant_of-self
invariant_of-self g c = late_runs g.B.Asked.asked g.B.Asked.was c.self.inside.words.now.key
    c.self.inside.words.now.table_id c.self.inside.token c.self.inside.late c.self.inside.zeros c.self.inside.done
    c.self.invariant _ c.self.view_is c.args.at c.args.word c.requires.asked
    c.if-word-eq0.true (is_zero c.self.inside.zeros c.args.at (sym c.has.ensures ∙ c.if-has.true)) c.requires.goes_on

pub returns-then-has-clause-goes : goal.returns-then-has-clause-goes
returns-then-has-clause-goes g c = late_goes_on g.B.Asked.asked g.B.Asked.was c.self.inside.words.now.key
    c.self.inside.words.now.table_id c.self.inside.token c.self.inside.late c.self.inside.zeros c.self.inside.done
    c.self.invariant _ c.self.view_is c.args.at c.args.word c.requires.asked
    c.if-word-eq0.true (is_zero c.self.inside.zeros c.args.at (sym c.has.ensures ∙ c.if-has.true)) c.requires.goes_on

pub returns-then-has-clause-fits : goal.returns-then-has-clause-fits
returns-then-has-clause-fits g c = late_fits g.B.Asked.asked g.B.Asked.was c.self.inside.words.now.key
    c.self.inside.words.now.table_id c.self.inside.token c.self.inside.late c.self.inside.zeros c.self.inside.done
    c.self.invariant _ c.self.view_is c.args.at c.args.word c.requires.asked
    c.if-word-eq0.true (is_zero c.self.inside.zeros c.args.at (sym c.has.ensures ∙ c.if-has.true))

-- ---- any other

pub store-requires-clause-inside : goal.store-requires-clause-inside
store-requires-clause-inside g c = store_inside g.B.Asked.asked g.B.Asked.was c.self.inside.words.now.key
    c.self.inside.words.now.table_id c.self.inside.token c.self.inside.late c.self.inside.zeros c.self.inside.done
    c.self.invariant _ c.self.view_is c.args.at c.args.word c.requires.asked
    c.place_laws.ensures.within

pub store-requires-clause-allowed : goal.store-requires-clause-allowed
store-requires-clause-allowed g c = store_allowed g.B.Asked.asked g.B.Asked.was c.self.inside.words.now.key
    c.self.inside.words.now.table_id c.self.inside.token c.self.inside.late c.self.inside.zeros c.self.inside.done
    c.self.invariant _ c.self.view_is c.args.at c.args.word c.requires.asked _ _

pub invariant_of-self-2 : goal.invariant_of-self-2
invariant_of-self-2 g c = store_runs g.B.Asked.asked g.B.Asked.was c.self.inside.words.now.key
    c.self.inside.words.now.table_id c.self.inside.token c.self.inside.late c.self.inside.zeros c.self.inside.done
    c.self.invariant _ c.self.view_is c.args.at c.args.word c.requires.asked
    c.leave_out.new.self c.leave_out.ensures c.store.new.token c.store.ensures.moved c.requires.goes_on
    c.store.ensures.table

pub returns-clause-goes : goal.returns-clause-goes
returns-clause-goes g c = store_goes_on g.B.Asked.asked g.B.Asked.was c.self.inside.words.now.key
    c.self.inside.words.now.table_id c.self.inside.token c.self.inside.late c.self.inside.zeros c.self.inside.done
    c.self.invariant _ c.self.view_is c.args.at c.args.word c.requires.asked
    c.leave_out.new.self c.leave_out.ensures c.store.new.token c.store.ensures.moved c.requires.goes_on

pub returns-clause-fits : goal.returns-clause-fits
returns-clause-fits g c = store_fits g.B.Asked.asked g.B.Asked.was c.self.inside.words.now.key
    c.self.inside.words.now.table_id c.self.inside.token c.self.inside.late c.self.inside.zeros c.self.inside.done
    c.self.invariant _ c.self.view_is c.args.at c.args.word c.requires.asked
    c.leave_out.new.self c.leave_out.ensures c.store.new.token c.store.ensures.moved
