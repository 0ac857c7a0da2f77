-- The sort is by the packets.
use Rattle.std.proofs.Common.{rules}
use Rattle.std.proofs.lemmas.List.Sorted.{answers_always}
use Rattle.play_runner.specs.Played.{packet_in}
use Rattle.play_runner.proofs.ending.by_packet.Goals as goal

pub returns-clause-in_order : goal.returns-clause-in_order
returns-clause-in_order c =
    c.in_ok-sort_by_key.ensures.sorted packet_in (answers_always _ _ _ (λ f a r h k. search rules))
