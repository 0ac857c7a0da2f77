-- The sort is by the packets.
use Rattle.std.proofs.Common.{rules}
use Rattle.std.proofs.lemmas.List.Sorted.{answers_always}
use Rattle.plain_map.specs.declared.records.Pending.{Pending}
use Rattle.report_check.proofs.verdicts.sort_by_packet.Goals as goal

pub returns-clause-sorted : goal.returns-clause-sorted
returns-clause-sorted c =
    c.sort_unstable_by_key.ensures.sorted (λ (u : Pending). u.packet) (answers_always _ _ _ (λ f a r h k. search rules))
