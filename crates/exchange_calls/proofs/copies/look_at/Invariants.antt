-- So many tries were disturbed.
use Rattle.std.proofs.Common.{◌≡◌, ◌-◌, length}
use Rattle.exchange_model.specs.Steps.{OfBucket}
use Rattle.exchange_model.specs.Goes.{glance_lost}
use Rattle.exchange_calls.specs.Items.{looking}
use Rattle.exchange_calls.proofs.copies.look_at.Given as goal

abbrev pub invariant-loop-i : goal.invariant-loop-i
invariant-loop-i g l = record {
  len : length l.out ≡ length l.fn.out;
  goes : g.S.Steps.now l.steps ≡ looking (g.S.Steps.now l.initial.steps) (OfBucket l.fn.bucket)
      (glance_lost (l.tries - l.i));
}
