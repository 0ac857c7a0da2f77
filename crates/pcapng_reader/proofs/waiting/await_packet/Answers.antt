use Rattle.std.proofs.Common.{◌≡◌, ◌+◌, ◌-◌, ℕ, List, drop, sym, ap, ◌∙◌, subst, arith}
use Rattle.byte_window.specs.Window.{Held}
use Rattle.pcap_reader.specs.Reading.{Took}
use Rattle.edge_traits.proofs.EdgeLemmas.{on_err}
use Rattle.pcapng_reader.specs.Section.{State}
use Rattle.pcapng_reader.specs.Blocks.{after}
use Rattle.pcapng_reader.specs.Waiting.{PassesTo}
use Rattle.pcapng_reader.proofs.PassFacts.{PassesHeld, holds_last, holds_still, holds_whole, last_after, lies_passed, others_after, passed_others, room_for, took_more, took_none, took_to}
use Rattle.pcapng_reader.proofs.waiting.await_packet.Goals as goal

pub returns-in_err-awaited-clause-none : goal.returns-in_err-awaited-clause-none
returns-in_err-awaited-clause-none g c =
    on_err c.from_residual.result (took_none c.args.section.now c.args.offset c.args.window.now.unread c.passed.section
    c.passed.window.unread c.await_block.new.window.unread c.passed.offset _ _ _ c.passed.invariant.passed
    c.in_err-awaited.ensures.none)

pub returns-in_default-clause-passes : goal.returns-in_default-clause-passes
returns-in_default-clause-passes g c =
    let before = g.S.Source.left c.args.source.now in
    let after_it = g.S.Source.left c.await_block.new.source in
    let old = c.args.window.now.unread in
    let new = c.await_block.new.window.unread in
    let awaited = c.in_ok-awaited.awaited in
    let section : c.set_by.new.section ≡ c.passed.section =
    c.set_by.ensures.set ∙ last_after c.passed.section awaited.seen c.in_default.ensures.last in
    subst (λ (n : ℕ). Took before after_it
    (PassesTo c.args.section.now c.args.offset old c.set_by.new.section new n awaited.seen awaited.dropped before))
    (sym c.in_ok-awaited.ensures.place)
    (subst (λ (s : State). Took before after_it
    (PassesTo c.args.section.now c.args.offset old s new c.passed.offset awaited.seen awaited.dropped before))
    (sym section)
    (took_to c.args.section.now c.args.offset old c.passed.section c.passed.window.unread new c.passed.offset
    awaited.seen
    awaited.dropped before _ after_it c.passed.invariant.passed c.in_ok-awaited.ensures.awaits))

pub returns-in_err-awaited-clause-unasked : goal.returns-in_err-awaited-clause-unasked
returns-in_err-awaited-clause-unasked g c = λ holds.
    let same = c.passed.invariant.unasked holds in
    let here = holds_still c.passed.section c.args.section.now c.passed.offset c.args.offset c.passed.window.unread
    c.args.window.now.unread same.1 same.2 same.3 holds in
    c.in_err-awaited.ensures.unasked (holds_whole c.passed.section c.passed.offset c.passed.window.unread here) ∙ same.0

pub returns-in_default-clause-unasked : goal.returns-in_default-clause-unasked
returns-in_default-clause-unasked g c = λ holds.
    let same = c.passed.invariant.unasked holds in
    let here = holds_still c.passed.section c.args.section.now c.passed.offset c.args.offset c.passed.window.unread
    c.args.window.now.unread same.1 same.2 same.3 holds in
    c.in_ok-awaited.ensures.unasked (holds_whole c.passed.section c.passed.offset c.passed.window.unread here) ∙ same.0

pub set_by-requires : goal.set_by-requires
set_by-requires g c =
    room_for c.passed.section c.passed.offset _ c.in_ok-awaited.awaited.seen c.in_ok-awaited.ensures.awaits.2.0.shows

pub skip-requires : goal.skip-requires
skip-requires g c =
    let lies = lies_passed c.passed.section c.passed.offset c.passed.window.unread c.await_block.new.window.unread _
    c.in_ok-awaited.awaited.seen c.in-Some.size c.in_ok-awaited.awaited.dropped c.in-Some.ensures.passed
    c.in_ok-awaited.ensures.awaits.2.0 in
    lies.there

pub passed-preserved : goal.passed-preserved
passed-preserved g c =
    let before = g.S.Source.left c.args.source.now in
    let after_it = g.S.Source.left c.await_block.new.source in
    let old = c.args.window.now.unread in
    let new = c.await_block.new.window.unread in
    let awaited = c.in_ok-awaited.awaited in
    let size = c.in-Some.size in
    let passed = c.in-Some.ensures.passed in let left : c.skip.new.self.unread ≡ drop (size - awaited.dropped) new =
    ap (λ (h : Held). h.unread) c.skip.ensures in
    let took = took_more c.args.section.now c.args.offset old c.passed.section c.passed.window.unread new
    c.passed.offset
    awaited.seen size awaited.dropped before _ after_it passed c.passed.invariant.passed
    c.in_ok-awaited.ensures.awaits in
    let count : c.set_by.new.section.others ≡ c.passed.section.others + 1 =
    ap (λ (s : State). s.others) c.set_by.ensures.set ∙ others_after c.passed.section awaited.seen size passed in
    let lies = lies_passed c.passed.section c.passed.offset c.passed.window.unread new _ awaited.seen size
    awaited.dropped
    passed c.in_ok-awaited.ensures.awaits.2.0 in
    let below = passed_others c.passed.section c.passed.offset _ awaited.seen size passed
    c.in_ok-awaited.ensures.awaits.2.0.shows in
    record {
      passed = subst (λ (s : State). Took before after_it (PassesHeld c.args.section.now c.args.offset old s
          c.skip.new.self.unread (c.passed.offset + size))) (sym c.set_by.ensures.set)
          (subst (λ (l : List ℕ). Took before after_it (PassesHeld c.args.section.now c.args.offset old
          (after c.passed.section awaited.seen) l (c.passed.offset + size))) (sym left) took);
      counted = omega (arith, c.passed.invariant.counted, c.in_ok-awaited.ensures.counted);
      none_failed = c.in_ok-awaited.ensures.none_failed ∙ c.passed.invariant.none_failed;
      unasked = λ holds.
          let same = c.passed.invariant.unasked holds in
          let here = holds_still c.passed.section c.args.section.now c.passed.offset c.args.offset
          c.passed.window.unread c.args.window.now.unread same.1 same.2 same.3 holds in
          absurd (holds_last c.passed.section c.passed.offset c.passed.window.unread new _ awaited.seen size
          awaited.dropped here c.in_ok-awaited.ensures.awaits.2.0 passed);
      more = omega (arith, c.passed.invariant.more, count);
      few = omega (arith, below, count);
      near = omega (arith, c.passed.invariant.near, c.passed.invariant.more, count, lies.limit);
    }
