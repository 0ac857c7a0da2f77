use Rattle.std.proofs.Common.{◌∙◌, sym, ap, subst}
use Rattle.bucket_states.specs.States.{state_of, KeepsShape}
use Rattle.bucket_states.specs.Change.{change}
use Rattle.bucket_states.proofs.StepLemmas.{KeepsShape-after_op, KeepsShape-trans, after_seats-Some, after_seats-None, after_seats-end}
use Rattle.bucket_states.proofs.bucket.Bucket.apply_all.Goals as goal
use Rattle.bucket_states.proofs.bucket.Bucket.apply_all.Goals.{in-Some, in_default}

pub loop-seat-preserved : goal.loop-seat-preserved
loop-seat-preserved c =
    elim c.match-op.branch [
      | in-Some w ↦ (
          let made = ap state_of w.self-is ∙ w.apply.ensures.state in
          let were = c.loop-seat.invariant in
          record {
            rest = after_seats-Some c.args.rules.now c.loop-seat.seat c.args.ops.now (state_of c.loop-seat.self)
                (state_of c.match-op.self) c.loop-seat-test.true w.in-Some.op w.in-Some.is made ∙ were.rest;
            shape = KeepsShape-trans _ (state_of c.loop-seat.self) _ were.shape
                (subst (KeepsShape (state_of c.loop-seat.self)) (sym made)
                (KeepsShape-after_op c.args.rules.now c.loop-seat.seat w.in-Some.op (state_of c.loop-seat.self)));
            room = rw w.self-is (record {
              of_items = w.apply.ensures.room.of_items ∙ were.room.of_items;
              of_applied = w.apply.ensures.room.of_applied ∙ were.room.of_applied;
              of_replies = w.apply.ensures.room.of_replies ∙ were.room.of_replies;
            });
          })
      | in_default w ↦ (
          let made = ap state_of w.self-is in
          let were = c.loop-seat.invariant in
          record {
            rest = after_seats-None c.args.rules.now c.loop-seat.seat c.args.ops.now (state_of c.loop-seat.self)
                (state_of c.match-op.self) c.loop-seat-test.true w.in_default.is made ∙ were.rest;
            shape = subst (KeepsShape (state_of c.args.self.now)) (sym made) were.shape;
            room = rw w.self-is were.room;
          })
    ]

pub returns-clause-state : goal.returns-clause-state
unfolding change
returns-clause-state c =
    sym (after_seats-end c.args.rules.now c.loop-seat.seat c.args.ops.now (state_of c.loop-seat.self)
    c.loop-seat-test.false) ∙ c.loop-seat.invariant.rest
