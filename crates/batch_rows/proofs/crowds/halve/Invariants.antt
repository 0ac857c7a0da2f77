use Rattle.std.proofs.Common.{◌≡◌, ◌≤◌}
use Rattle.batch_rows.proofs.CountLemmas.{AreHalved, above_most}
use Rattle.batch_rows.proofs.crowds.halve.Given as goal

abbrev pub invariant-loop-place : goal.invariant-loop-place
invariant-loop-place l = record {
  halved : AreHalved l.fn.counts l.counts l.place;
  above : l.above ≡ above_most l.fn.most l.fn.counts l.place;
  few : l.above ≤ l.place;
}
