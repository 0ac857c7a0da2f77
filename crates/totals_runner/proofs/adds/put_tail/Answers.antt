use Rattle.std.proofs.Common.{append_assoc, rules}
use Rattle.totals_runner.specs.Adds.{totals_tail}
use Rattle.totals_runner.proofs.adds.put_tail.Goals as goal

pub returns : goal.returns
unfolding totals_tail
returns c = search (rules, append_assoc)
