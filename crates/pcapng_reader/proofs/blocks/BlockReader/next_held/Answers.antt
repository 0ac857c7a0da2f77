use Rattle.std.proofs.Common.{◌≡◌, ◌≤◌, List, ℕ, [], length, sym, ap, ◌∙◌, subst, append-nil, refl, false, arith}
use Rattle.pcap_reader.specs.Reading.{buffer_length}
use Rattle.pcapng_reader.specs.declared.block.Seen.TheVariants as seen
use Rattle.pcapng_reader.specs.Blocks.{Sees}
use Rattle.pcapng_reader.specs.Stamps.{stamp_told}
use Rattle.pcap_reader.specs.declared.stamp.Fraction.TheVariants.{Microseconds}
use Rattle.pcapng_reader.specs.Reading.{GivesPacket, OfBlocks, Reading}
use Rattle.pcapng_reader.proofs.NextFacts.{behind_packet, gives_packet, held_by, packet_lies, packet_starts}
use Rattle.pcapng_reader.proofs.OneInput.{same_sees}
use Rattle.pcapng_reader.proofs.blocks.BlockReader.next_held.Goals as goal

pub returns-in-Packet-clause-packet : goal.returns-in-Packet-clause-packet
returns-in-Packet-clause-packet c = λ _.
    let w = c.self.inside in
    let size = c.in-Packet.size in
    let at = c.in-Packet.at in
    let count = c.in-Packet.count in
    let bytes = w.window.unread in
    let old : Reading = record {
      form = OfBlocks w.section;
      fraction = Microseconds;
      pending = bytes;
      packet = w.window.last;
      stamp = stamp_told w.told;
      offset = w.offset;
      start = w.start;
      given = w.given;
      ended = w.ended;
    } in
    let going : w.ended ≡ false = ap (λ (r : Reading). r.ended) c.self.view_is ∙ c.requires.going in
    let room : length bytes ≤ buffer_length =
    subst (λ (l : List ℕ). length l ≤ buffer_length) c.unread.ensures.bytes c.unread.ensures.room in
    let shows : Sees w.section w.offset bytes (seen.Packet size at count) =
    subst (λ (l : List ℕ). Sees w.section w.offset l (seen.Packet size at count)) c.unread.ensures.bytes
    c.in-Packet.ensures in
    let gives = gives_packet old w.section bytes [] size at count refl going (append-nil bytes) room shows in
    subst (λ (new : Reading). GivesPacket c.args.self.now new []) (sym c.give.ensures)
    (subst (λ (r : Reading). GivesPacket r (behind_packet r r.form r.pending size at count) []) c.self.view_is gives)

pub give-requires : goal.give-requires
give-requires c =
    let lies = packet_lies c.self.inside.section c.self.inside.offset c.unread.result.now c.in-Packet.size
    c.in-Packet.at
    c.in-Packet.count c.in-Packet.ensures in
    let here = ap length c.unread.ensures.bytes in
    let seen = ap (λ (r : Reading). length r.pending) c.self.view_is in
    record {
      held = omega (arith, lies.there, here, seen);
      part = lies.part;
      place = packet_starts c.self.inside.section c.self.inside.offset c.unread.result.now c.in-Packet.size
          c.in-Packet.at c.in-Packet.count c.in-Packet.ensures;
      block = lies.limit;
      few = c.requires.few;
    }

pub returns : goal.returns
returns c =
    let w = c.self.inside in
    record {
      packet = λ given. absurd (cc);
      none = λ _. refl;
      not_whole = λ _ holds.
          let here = held_by _ c.args.self.now c.self.view_is holds in
          let shows : Sees w.section w.offset c.unread.result.now (seen.Packet here.0 here.1 here.2) =
          subst (λ (l : List ℕ). Sees w.section w.offset l (seen.Packet here.0 here.1 here.2))
          (sym c.unread.ensures.bytes)
          here.3 in
          c.in_default.not-Packet here.0 here.1 here.2
          (same_sees w.section w.offset c.unread.result.now c.look.result (seen.Packet here.0 here.1 here.2)
          c.look.ensures shows);
    }
