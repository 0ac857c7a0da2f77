-- Seat by seat.
use Rattle.std.proofs.Common.{◌∙◌, ◌<◌, length, ap, arith, length-set}
use Rattle.lasting_calls.specs.Going.{Going}
use Rattle.lasting_calls.specs.Updates.{trying}
use Rattle.lasting_calls.proofs.OpsLemmas.{all_kept, other_kept, other_stands, own_kept}
use Rattle.lasting_calls.proofs.ops.find_ops.Goals as goal

pub loop-i-preserved-then-i-desk : goal.loop-i-preserved-then-i-desk
loop-i-preserved-then-i-desk g c = record {
  len = length-set c.loop-i.ops c.loop-i.i _ ∙ c.loop-i.invariant.len;
  found = own_kept (g.S.Steps.now c.args.steps.now) c.args.own.now
      (trying c.args.desk.now.settings c.args.attempt.now) c.args.desk.now c.requires.desk
      (g.S.Steps.now c.loop-i.steps) c.loop-i.ops c.loop-i.i c.loop-i.invariant.found
      (omega (arith, c.loop-i-test.true, c.loop-i.invariant.len)) c.if-i-desk.true c.requires.own.update
      (omega (arith, c.requires.own.small_number));
}

pub find_op-op-requires-clause-phase : goal.find_op-op-requires-clause-phase
find_op-op-requires-clause-phase g c =
    ap (λ (h : Going). h.now.stand)
    (other_stands (g.S.Steps.now c.args.steps.now) c.args.own.now
    (trying c.args.desk.now.settings c.args.attempt.now) c.args.desk.now c.requires.desk
    (g.S.Steps.now c.loop-i.steps) c.loop-i.ops c.loop-i.i c.loop-i.invariant.found
    (omega (arith, c.loop-i-test.true, c.loop-i.invariant.len)) (c.loop-i.invariant.len ∙ c.requires.seats)
    c.if-i-desk.false)

pub loop-i-preserved : goal.loop-i-preserved
loop-i-preserved g c =
    let inside : c.loop-i.i < length c.loop-i.ops = omega (arith, c.loop-i-test.true, c.loop-i.invariant.len) in
    record {
      len = length-set c.loop-i.ops c.loop-i.i _ ∙ c.loop-i.invariant.len;
      found = other_kept (g.S.Steps.now c.args.steps.now) c.args.own.now
          (trying c.args.desk.now.settings c.args.attempt.now) c.args.desk.now c.requires.desk
          (g.S.Steps.now c.loop-i.steps) (g.S.Steps.now c.find_op-op.new.steps) c.loop-i.ops c.loop-i.i
          c.find_op-op.result c.loop-i.invariant.found inside
          (other_stands (g.S.Steps.now c.args.steps.now) c.args.own.now
          (trying c.args.desk.now.settings c.args.attempt.now) c.args.desk.now c.requires.desk
          (g.S.Steps.now c.loop-i.steps) c.loop-i.ops c.loop-i.i c.loop-i.invariant.found inside
          (c.loop-i.invariant.len ∙ c.requires.seats) c.if-i-desk.false)
          c.find_op-op.ensures.goes c.find_op-op.ensures.small;
    }

pub returns-clause-goes : goal.returns-clause-goes
returns-clause-goes g c =
    (all_kept (g.S.Steps.now c.args.steps.now) c.args.own.now
    (trying c.args.desk.now.settings c.args.attempt.now) c.args.desk.now c.requires.desk
    (g.S.Steps.now c.loop-i.steps) c.loop-i.ops c.loop-i.i c.loop-i.invariant.found (omega
    (arith, c.loop-i-test.false, c.loop-i.invariant.len))
    (c.loop-i.invariant.len ∙ c.requires.seats)).0

pub returns-clause-updates : goal.returns-clause-updates
returns-clause-updates g c =
    (all_kept (g.S.Steps.now c.args.steps.now) c.args.own.now
    (trying c.args.desk.now.settings c.args.attempt.now) c.args.desk.now c.requires.desk
    (g.S.Steps.now c.loop-i.steps) c.loop-i.ops c.loop-i.i c.loop-i.invariant.found (omega
    (arith, c.loop-i-test.false, c.loop-i.invariant.len))
    (c.loop-i.invariant.len ∙ c.requires.seats)).1

pub returns-clause-all : goal.returns-clause-all
returns-clause-all g c = c.loop-i.invariant.len ∙ c.requires.seats
