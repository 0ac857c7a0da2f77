use Rattle.std.proofs.Common.{◌≡◌, ◌+◌, ℕ, length, false, IfSome, Ok, Err, sym, ap, ◌∙◌, subst, refl, arith}
use Rattle.pcap_reader.specs.Reading.{Took}
use Rattle.pcapng_reader.specs.declared.block.Seen.{Seen}
use Rattle.pcapng_reader.specs.declared.block.Seen.TheVariants as seen
use Rattle.pcapng_reader.specs.Waiting.{PassesTo}
use Rattle.pcapng_reader.specs.Stamps.{stamp_told}
use Rattle.pcap_reader.specs.declared.stamp.Fraction.TheVariants.{Microseconds}
use Rattle.pcapng_reader.specs.Reading.{Answers, GivesPacket, MeetsEnding, OfBlocks, Reading}
use Rattle.pcapng_reader.proofs.AnswerFacts.{HasEnded, awaited_lies, behind_awaited, took_failed, took_fault, took_packet, took_rest}
use Rattle.pcapng_reader.proofs.NextFacts.{held_by}
use Rattle.pcapng_reader.proofs.blocks.BlockReader.next.Goals as goal

pub give-requires-clause-held : goal.give-requires-clause-held
give-requires-clause-held g c =
    let before = g.S.Source.left c.args.source.now in
    let after = g.S.Source.left c.await_packet.new.source in
    let w = c.self.inside in
    let held = c.await_packet.new.window.unread in
    let last = c.await_packet.new.section in
    let block = c.in-Ok.field-0 in
    let passes : Took before after (PassesTo w.section w.offset w.window.unread last held block.offset
    (seen.Packet c.in-Packet.size c.in-Packet.at c.in-Packet.count) block.dropped before) =
    subst (λ (x : Seen). Took before after (PassesTo w.section w.offset w.window.unread last held block.offset x
    block.dropped before)) c.in-Packet.is c.in-Ok.ensures.passes in
    let lies = awaited_lies last block.offset _ held _ c.in-Packet.size c.in-Packet.at c.in-Packet.count block.dropped
    passes.2.0.awaits in
    lies.there

pub give-requires-clause-place : goal.give-requires-clause-place
give-requires-clause-place g c =
    let before = g.S.Source.left c.args.source.now in
    let after = g.S.Source.left c.await_packet.new.source in
    let w = c.self.inside in
    let held = c.await_packet.new.window.unread in
    let last = c.await_packet.new.section in
    let block = c.in-Ok.field-0 in
    let passes : Took before after (PassesTo w.section w.offset w.window.unread last held block.offset
    (seen.Packet c.in-Packet.size c.in-Packet.at c.in-Packet.count) block.dropped before) =
    subst (λ (x : Seen). Took before after (PassesTo w.section w.offset w.window.unread last held block.offset x
    block.dropped before)) c.in-Packet.is c.in-Ok.ensures.passes in
    let lies = awaited_lies last block.offset _ held _ c.in-Packet.size c.in-Packet.at c.in-Packet.count block.dropped
    passes.2.0.awaits in
    lies.place

pub returns-in-Packet-clause-answers : goal.returns-in-Packet-clause-answers
returns-in-Packet-clause-answers g c =
    let before = g.S.Source.left c.args.source.now in
    let after = g.S.Source.left c.await_packet.new.source in
    let w = c.self.inside in
    let old : Reading = record {
      form = OfBlocks w.section;
      fraction = Microseconds;
      pending = w.window.unread;
      packet = w.window.last;
      stamp = stamp_told w.told;
      offset = w.offset;
      start = w.start;
      given = w.given;
      ended = w.ended;
    } in
    let going : w.ended ≡ false = ap (λ (r : Reading). r.ended) c.self.view_is ∙ c.requires.going in
    let held = c.await_packet.new.window.unread in
    let last = c.await_packet.new.section in
    let block = c.in-Ok.field-0 in
    let size = c.in-Packet.size in
    let at = c.in-Packet.at in
    let count = c.in-Packet.count in
    let passes : Took before after (PassesTo w.section w.offset w.window.unread last held block.offset
    (seen.Packet size at count) block.dropped before) =
    subst (λ (x : Seen). Took before after (PassesTo w.section w.offset w.window.unread last held block.offset x
    block.dropped before)) c.in-Packet.is c.in-Ok.ensures.passes in
    let took = took_packet old w.section last held block.offset size at count block.dropped before after refl going
    c.in-Ok.ensures.room passes in
    let given : Reading = behind_awaited old last block.offset held size at count block.dropped in
    let same : c.give.new.self ≡ given = c.give.ensures in
    subst (λ (r : Reading). Took before after (GivesPacket r c.give.new.self)) c.self.view_is
    (subst (λ (r : Reading). Took before after (GivesPacket old r)) (sym {b = given} same) took)

pub returns-in-Fault-clause-answers : goal.returns-in-Fault-clause-answers
returns-in-Fault-clause-answers g c =
    let before = g.S.Source.left c.args.source.now in
    let after = g.S.Source.left c.await_packet.new.source in
    let w = c.self.inside in
    let old : Reading = record {
      form = OfBlocks w.section;
      fraction = Microseconds;
      pending = w.window.unread;
      packet = w.window.last;
      stamp = stamp_told w.told;
      offset = w.offset;
      start = w.start;
      given = w.given;
      ended = w.ended;
    } in
    let held = c.await_packet.new.window.unread in
    let last = c.await_packet.new.section in
    let block = c.in-Ok.field-0 in
    let passes : Took before after (PassesTo w.section w.offset w.window.unread last held block.offset
    (seen.Fault c.in-Fault.fault) block.dropped before) =
    subst (λ (x : Seen). Took before after (PassesTo w.section w.offset w.window.unread last held block.offset x
    block.dropped before)) c.in-Fault.is c.in-Ok.ensures.passes in
    let ended : HasEnded old c.end.new.self = record {
      packet = ap (λ (r : Reading). r.packet) c.end.ensures;
      given = ap (λ (r : Reading). r.given) c.end.ensures;
      ended = ap (λ (r : Reading). r.ended) c.end.ensures;
    } in
    subst (λ (r : Reading). Answers r c.end.new.self before after (Err c.in-Fault.fault)) c.self.view_is
    (took_fault old c.end.new.self w.section last held block.offset block.dropped c.in-Fault.fault before after refl
    c.in-Ok.ensures.room ended passes)

pub returns-then-rest-eq0-clause-answers : goal.returns-then-rest-eq0-clause-answers
returns-then-rest-eq0-clause-answers g c =
    let before = g.S.Source.left c.args.source.now in
    let after = g.S.Source.left c.await_packet.new.source in
    let w = c.self.inside in
    let old : Reading = record {
      form = OfBlocks w.section;
      fraction = Microseconds;
      pending = w.window.unread;
      packet = w.window.last;
      stamp = stamp_told w.told;
      offset = w.offset;
      start = w.start;
      given = w.given;
      ended = w.ended;
    } in
    let held = c.await_packet.new.window.unread in
    let last = c.await_packet.new.section in
    let block = c.in-Ok.field-0 in
    let ended : HasEnded old c.end-in_default.new.self = record {
      packet = ap (λ (r : Reading). r.packet) c.end-in_default.ensures;
      given = ap (λ (r : Reading). r.given) c.end-in_default.ensures;
      ended = ap (λ (r : Reading). r.ended) c.end-in_default.ensures;
    } in
    let size : 0 ≡ block.dropped + length held =
    omega (arith, c.if-rest-eq0.true, ap length c.unread.ensures.bytes) in
    subst (λ (r : Reading). Took before after
    (λ taken. MeetsEnding r c.end-in_default.new.self (Ok 0) taken × IfSome before (λ bytes. bytes ≡ taken)))
    c.self.view_is
    (took_rest old c.end-in_default.new.self w.section last held block.offset block.dropped 0 block.seen before after
    refl
    c.in-Ok.ensures.room ended c.in-Ok.ensures.last c.in_default.not-Packet c.in_default.not-Fault size
    c.in-Ok.ensures.passes)

pub returns-else-rest-eq0-clause-answers : goal.returns-else-rest-eq0-clause-answers
returns-else-rest-eq0-clause-answers g c =
    let before = g.S.Source.left c.args.source.now in
    let after = g.S.Source.left c.await_packet.new.source in
    let w = c.self.inside in
    let old : Reading = record {
      form = OfBlocks w.section;
      fraction = Microseconds;
      pending = w.window.unread;
      packet = w.window.last;
      stamp = stamp_told w.told;
      offset = w.offset;
      start = w.start;
      given = w.given;
      ended = w.ended;
    } in
    let held = c.await_packet.new.window.unread in
    let last = c.await_packet.new.section in
    let block = c.in-Ok.field-0 in
    let ended : HasEnded old c.end-in_default.new.self = record {
      packet = ap (λ (r : Reading). r.packet) c.end-in_default.ensures;
      given = ap (λ (r : Reading). r.given) c.end-in_default.ensures;
      ended = ap (λ (r : Reading). r.ended) c.end-in_default.ensures;
    } in
    let left : ℕ = block.dropped + length c.unread.result.now in
    let size : left ≡ block.dropped + length held = omega (arith, ap length c.unread.ensures.bytes) in (
      omega (arith, c.if-rest-eq0.false),
      subst (λ (r : Reading). Took before after
          (λ taken. MeetsEnding r c.end-in_default.new.self (Ok left) taken × IfSome before (λ bytes. bytes ≡ taken)))
          c.self.view_is
          (took_rest old c.end-in_default.new.self w.section last held block.offset block.dropped left block.seen before
          after refl c.in-Ok.ensures.room ended c.in-Ok.ensures.last c.in_default.not-Packet c.in_default.not-Fault size
          c.in-Ok.ensures.passes),
    )

pub returns-in-Err-clause-answers : goal.returns-in-Err-clause-answers
returns-in-Err-clause-answers g c =
    let before = g.S.Source.left c.args.source.now in
    let after = g.S.Source.left c.await_packet.new.source in
    let w = c.self.inside in
    let old : Reading = record {
      form = OfBlocks w.section;
      fraction = Microseconds;
      pending = w.window.unread;
      packet = w.window.last;
      stamp = stamp_told w.told;
      offset = w.offset;
      start = w.start;
      given = w.given;
      ended = w.ended;
    } in
    let held = c.await_packet.new.window.unread in
    let last = c.await_packet.new.section in
    let ended : HasEnded old c.end-in-Err.new.self = record {
      packet = ap (λ (r : Reading). r.packet) c.end-in-Err.ensures;
      given = ap (λ (r : Reading). r.given) c.end-in-Err.ensures;
      ended = ap (λ (r : Reading). r.ended) c.end-in-Err.ensures;
    } in subst (λ (r : Reading). Took before after
    (λ taken. (left : ℕ) × MeetsEnding r c.end-in-Err.new.self (Ok left) taken))
    c.self.view_is
    (took_failed old c.end-in-Err.new.self w.section last held before after refl c.in-Err.ensures.room ended
    c.in-Err.ensures.none)

pub returns-in-Packet-clause-unasked : goal.returns-in-Packet-clause-unasked
returns-in-Packet-clause-unasked g c =
    λ holds. c.await_packet.ensures.unasked (held_by _ c.args.self.now c.self.view_is holds)

pub returns-in-Fault-clause-unasked : goal.returns-in-Fault-clause-unasked
returns-in-Fault-clause-unasked g c =
    λ holds. c.await_packet.ensures.unasked (held_by _ c.args.self.now c.self.view_is holds)

pub returns-then-rest-eq0-clause-unasked : goal.returns-then-rest-eq0-clause-unasked
returns-then-rest-eq0-clause-unasked g c =
    λ holds. c.await_packet.ensures.unasked (held_by _ c.args.self.now c.self.view_is holds)

pub returns-else-rest-eq0-clause-unasked : goal.returns-else-rest-eq0-clause-unasked
returns-else-rest-eq0-clause-unasked g c =
    λ holds. c.await_packet.ensures.unasked (held_by _ c.args.self.now c.self.view_is holds)

pub returns-in-Err-clause-unasked : goal.returns-in-Err-clause-unasked
returns-in-Err-clause-unasked g c =
    λ holds. c.await_packet.ensures.unasked (held_by _ c.args.self.now c.self.view_is holds)
