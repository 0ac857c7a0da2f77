use Rattle.std.proofs.lemmas.List.Filters.{dedup_is}
use Rattle.batch_rows.proofs.KeyLemmas.{once_same}
use Rattle.batch_rows.proofs.OrderLemmas.{once_in_order}
use Rattle.batch_rows.proofs.keys.keep_once.Goals as goal

pub returns-clause-same : goal.returns-clause-same
returns-clause-same c = once_same _ _ _ c.sort_unstable.ensures.permutation (dedup_is _ _ _ c.dedup.ensures.filtered)

pub returns-clause-in_order : goal.returns-clause-in_order
returns-clause-in_order c = once_in_order _ _ c.sort_unstable.ensures.sorted (dedup_is _ _ _ c.dedup.ensures.filtered)
