-- The items so far are copied.
use Rattle.std.proofs.Common.{◌≡◌, length, take}
use Rattle.exchange_model.specs.Steps.{OfBucket}
use Rattle.exchange_model.specs.Goes.{pass_on}
use Rattle.exchange_calls.specs.Items.{looking, pass_at, source_of}
use Rattle.exchange_calls.proofs.looks.copy_items.Given as goal

abbrev pub invariant-loop-i : goal.invariant-loop-i
invariant-loop-i g l = record {
  len : length l.out ≡ length l.fn.out;
  goes : g.S.Steps.now l.steps ≡ looking (g.S.Steps.now l.fn.steps) (OfBucket l.fn.bucket)
      (pass_on (source_of l.fn.source) (pass_at l.count l.i (take l.i l.out)));
}
