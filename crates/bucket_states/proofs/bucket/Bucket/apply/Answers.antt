use Rattle.std.proofs.Common.{refl, sym, ◌∙◌}
use Rattle.bucket_states.specs.States.{state_of}
use Rattle.bucket_states.proofs.StepLemmas.{after_op-frozen, after_op-not_due, after_op-IsReply, after_op-IsOverflow}
use Rattle.bucket_states.proofs.bucket.Bucket.apply.Goals as goal
use Rattle.bucket_states.proofs.bucket.Bucket.apply.Goals.{then-self-via-then-self, then-self-via-else-self+then-not-is_due}

pub returns-then-self-clause-state : goal.returns-then-self-clause-state
returns-then-self-clause-state c =
    elim c.then-self.branch [
      | then-self-via-then-self w ↦ sym
          (after_op-frozen c.args.rules.now c.args.seat c.args.op.now (state_of c.args.self.now) w.if-self.true)
      | then-self-via-else-self+then-not-is_due w ↦
          sym (after_op-not_due c.args.rules.now c.args.seat c.args.op.now (state_of c.args.self.now)
          (sym w.is_due.ensures ∙ w.if-not-is_due.true))
    ]

pub returns-in-Some-clause-state : goal.returns-in-Some-clause-state
returns-in-Some-clause-state c =
    after_op-IsReply c.args.rules.now c.args.seat c.args.op.now (state_of c.args.self.now) c.if-self.false
    (sym c.is_due.ensures ∙ c.if-not-is_due.false)
    c.answer.new.items.items c.in-Some.reply (c.in-Some.ensures.answer) _ refl

pub returns-in-None-clause-state : goal.returns-in-None-clause-state
returns-in-None-clause-state c =
    after_op-IsOverflow c.args.rules.now c.args.seat c.args.op.now (state_of c.args.self.now) c.if-self.false
    (sym c.is_due.ensures ∙ c.if-not-is_due.false)
    c.answer.new.items.items (c.in-None.ensures.answer) _ refl
