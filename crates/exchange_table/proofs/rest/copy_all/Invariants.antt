use Rattle.exchange_table.specs.Values.{IsSame}
use Rattle.exchange_table.specs.Rests.{HasCopied}
use Rattle.exchange_table.proofs.rest.copy_all.Given as goal

abbrev pub invariant-loop-bucket : goal.invariant-loop-bucket
invariant-loop-bucket l = record {
  same : IsSame l.fn.seat l.seat;
  copied : HasCopied l.bucket l.fn.seat l.seat l.pairs.items;
}
