use Rattle.std.proofs.Common.{rules}
use Rattle.std.proofs.lemmas.List.Sorted.{answers_always}
use Rattle.plain_map.specs.declared.keys.Pair.{Pair}
use Rattle.core_steps.proofs.reading.pairs_of.Goals as goal

pub returns-clause-sorted : goal.returns-clause-sorted
returns-clause-sorted c = c.sort_unstable_by_key.ensures.sorted (λ (p : Pair). p.key)
    (answers_always _ _ _ (λ f a r h k. search rules))
