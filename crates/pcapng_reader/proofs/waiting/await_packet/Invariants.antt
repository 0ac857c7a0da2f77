use Rattle.std.proofs.Common.{◌≡◌, ◌+◌, ◌-◌, ◌*◌, ◌≤◌}
use Rattle.pcap_reader.specs.Reading.{Took}
use Rattle.pcapng_reader.specs.Reading.{HoldsPacket, OfBlocks}
use Rattle.pcapng_reader.proofs.PassFacts.{PassesHeld}
use Rattle.pcapng_reader.proofs.waiting.await_packet.Given as goal

abbrev pub invariant-passed : goal.invariant-passed
invariant-passed g l =
    record {
      passed : Took (g.S.Source.left l.initial.source) (g.S.Source.left l.source)
          (PassesHeld l.initial.section l.initial.offset l.initial.window.unread l.section l.window.unread l.offset);
      counted : g.S.Source.faults l.initial.source ≤ g.S.Source.faults l.source;
      none_failed : g.S.Source.failed l.source ≡ g.S.Source.failed l.initial.source;
      unasked : HoldsPacket (OfBlocks l.initial.section) l.initial.offset l.initial.window.unread →
          (l.source ≡ l.initial.source) × (l.window.unread ≡ l.initial.window.unread)
          × (l.section ≡ l.initial.section) × (l.offset ≡ l.initial.offset);
      more : l.initial.section.others ≤ l.section.others;
      few : l.section.others ≤ 4000000;
      near : l.offset ≤ l.initial.offset + (l.section.others - l.initial.section.others) * 16777216;
    }

abbrev pub decreases-passed : goal.decreases-passed
decreases-passed g l = 4000000 - l.section.others
