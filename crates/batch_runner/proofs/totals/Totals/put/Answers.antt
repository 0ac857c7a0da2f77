use Rattle.std.proofs.Common.{ap, arith}
use Rattle.batch_runner.specs.declared.totals.Totals.{Totals}
use Rattle.batch_runner.proofs.TotalLemmas.{replies_fit}
use Rattle.batch_runner.proofs.totals.Totals.put.Goals as goal

pub put-requires : goal.put-requires
put-requires c =
    replies_fit c.requires.0 _ _ (ap (λ (t : Totals). t.replies) c.requires.1) (omega (arith, c.requires.2))
