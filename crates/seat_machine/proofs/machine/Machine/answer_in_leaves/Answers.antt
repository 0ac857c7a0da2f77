-- The leaf at this place is passed.
use Rattle.std.proofs.Common.{◌∙◌, sym}
use Rattle.table_model.specs.Leaves.{is_in}
use Rattle.table_model.specs.Setup.{rules_of}
use Rattle.bucket_states.specs.States.{state_of}
use Rattle.seat_machine.specs.View.{flight_of, setup_of}
use Rattle.seat_machine.proofs.PutLemmas.{leaf_passed}
use Rattle.seat_machine.proofs.machine.Machine.answer_in_leaves.Goals as goal

pub loop-i-preserved : goal.loop-i-preserved
loop-i-preserved c =
    let m = c.args.self.now in
    let leaf = c.index-leaves-i.result in
    record {
      rest = c.loop-i.invariant.rest
          ∙ leaf_passed (rules_of (setup_of m)) m.seat (flight_of m) c.args.row c.leaves-leaves.result.now c.loop-i.i
          leaf
          c.loop-i-test.true c.index-leaves-i.is
          ((λ j. is_in (sym c.rules-rules.ensures.value j) (sym c.key.ensures j) (state_of leaf.bucket))
          ∙ sym c.is_in.ensures ∙ c.if-is_in.false);
    }
