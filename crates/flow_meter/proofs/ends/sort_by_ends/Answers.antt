use Rattle.std.proofs.Common.{rules}
use Rattle.std.proofs.lemmas.List.Sorted.{answers_always}
use Rattle.flow_meter.proofs.EndLemmas.{is_less, less_order, sorted_by_ends}
use Rattle.flow_meter.proofs.ends.sort_by_ends.Goals as goal

pub returns-clause-sorted : goal.returns-clause-sorted
returns-clause-sorted c =
    sorted_by_ends _
    (c.sort_unstable_by.ensures.sorted is_less less_order (answers_always _ _ _ (λ f a r h k. search rules)))
