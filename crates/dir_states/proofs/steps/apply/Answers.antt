use Rattle.dir_states.proofs.LeafLemmas.{apply-none, apply-one}
use Rattle.dir_states.proofs.steps.apply.Goals as goal

pub returns-in-Some-clause-applied : goal.returns-in-Some-clause-applied
returns-in-Some-clause-applied c =
    apply-one c.args.table.now.rules c.args.seat c.args.op.now c.args.leaves.now.items c.in-Some.place
    c.index_mut.result.now c.answer_in.new.leaf
    (rw (c.deref.ensures.value, c.key.ensures) at c.in-Some.ensures) c.index_mut.ensures.value
    c.answer_in.ensures.answered

pub returns-in_default-clause-applied : goal.returns-in_default-clause-applied
returns-in_default-clause-applied c =
    apply-none c.args.table.now.rules c.args.seat c.args.op.now c.args.leaves.now.items
    (rw (c.deref.ensures.value, c.key.ensures) at c.in_default.ensures)
