use Rattle.sim_steps.proofs.laws.order.Goals as goal
use Rattle.sim_steps.proofs.LawProofs.{is_whole, are_answered, is_pending, are_totals, is_short_order}

pub returns : goal.returns
returns c = record {
  whole = is_whole;
  answered = are_answered;
  pending = is_pending;
  totals = are_totals;
  short = is_short_order;
}
