use Rattle.std.proofs.Common.{arith, sym, ap, ◌∙◌, subst}
use Rattle.table_model.specs.SeatStates.{Stand}
use Rattle.table_model.specs.Steps.{flight_in}
use Rattle.table_model.specs.Shown.{Holding}
use Rattle.shared_table.specs.SeatValues.{SeatValue}
use Rattle.shared_table.specs.Zeros.{HasZeros}
use Rattle.shared_table.specs.Calls.{Ended, going_of, holding_of}
use Rattle.shared_table.proofs.Learning.{learned_none}
use Rattle.shared_table.proofs.StepLemmas.{begins_under}
use Rattle.shared_table.proofs.running.run_lookup.Goals as goal

pub invariant_of-running : goal.invariant_of-running
invariant_of-running g c =
    let h = holding_of c.args.words.now.key c.args.hand.token.me in
    record {
      table = c.requires.table;
      size = c.requires.size;
      one = c.requires.rests.one;
      setup = c.requires.setup;
      here = c.requires.rests.reached;
      has_zeros = c.requires.zeros;
      are_late = λ k lt. absurd (omega (arith, lt));
      began = λ still. record {
        first = record { table_id = c.args.hand.token.table_id; holding = h };
        is = c.requires.was;
        table = sym c.requires.table;
        under =
            begins_under g.B.Asked.asked h c.args.hand.token.me c.requires.rests;
        own = 0;
        since = learned_none h.seat h.known;
        all = ap (λ (s : Stand). (flight_in h.state.account s g.B.Asked.asked).steps) c.requires.rests.idle;
      };
    }

pub returns-clause-table : goal.returns-clause-table
returns-clause-table g c =
    let first : SeatValue = record {
      table_id = c.args.hand.token.table_id;
      holding = holding_of c.args.words.now.key c.args.hand.token.me;
    } in
    c.into_hand.ensures.table ∙ (c.lookup-made.ensures.answered first c.requires.was).0

pub returns-clause-ended : goal.returns-clause-ended
returns-clause-ended g c =
    let key = c.args.words.now.key in
    let first : SeatValue = record {
      table_id = c.args.hand.token.table_id;
      holding = holding_of key c.args.hand.token.me;
    } in
    let answered = c.lookup-made.ensures.answered first c.requires.was in
    subst (λ (x : Holding). Ended g.B.Asked.asked first.holding x c.lookup-made.result
    (going_of g.B.Asked.asked first.holding).account.used)
    (sym (ap (holding_of key) c.into_hand.ensures.me)) answered.1

pub returns-clause-zeros : goal.returns-clause-zeros
returns-clause-zeros g c =
    subst (λ (x : Holding). HasZeros x c.into_hand.result.zeros)
    (sym (ap (holding_of c.args.words.now.key) c.into_hand.ensures.me)) c.into_hand.ensures.zeros
