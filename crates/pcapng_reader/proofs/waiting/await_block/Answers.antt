use Rattle.std.proofs.Common.{◌≡◌, ◌≤◌, ℕ, ◌+◌, List, length, sym, ◌∙◌, subst, refl, arith}
use Rattle.byte_window.proofs.WindowFacts.{gathered_none, gathers_more}
use Rattle.edge_traits.proofs.EdgeLemmas.{on_err}
use Rattle.pcapng_reader.specs.declared.block.Seen.TheVariants as seen
use Rattle.pcapng_reader.specs.Blocks.{Sees}
use Rattle.pcapng_reader.proofs.WaitFacts.{awaits_behind, awaits_end, awaits_failed, awaits_none_behind, awaits_seen, cut_before, cut_held}
use Rattle.pcapng_reader.proofs.waiting.await_block.Goals as goal

pub returns-then-not-is_cut-clause-awaits : goal.returns-then-not-is_cut-clause-awaits
returns-then-not-is_cut-clause-awaits g c =
    awaits_seen c.args.section.now c.args.offset c.args.window.now.unread c.held.window.unread _ _ c.look-seen.result
    c.held.invariant.bytes
    (subst (λ (l : List ℕ). Sees c.args.section.now c.args.offset l c.look-seen.result) c.unread.ensures.bytes
    c.look-seen.ensures) (c.if-not-is_cut.ensures.other refl)

pub returns-in_err-awaited-in-Some-clause-none : goal.returns-in_err-awaited-in-Some-clause-none
returns-in_err-awaited-in-Some-clause-none g c =
    on_err c.from_residual.result (awaits_none_behind c.args.section.now c.args.offset c.args.window.now.unread
    c.held.window.unread c.await_long.new.window.unread _ _ _ c.held.invariant.bytes
    c.in_err-awaited-in-Some.ensures.none)

pub returns-in_err-awaited-in-Some-clause-unasked : goal.returns-in_err-awaited-in-Some-clause-unasked
returns-in_err-awaited-in-Some-clause-unasked g c =
    let here = cut_held c.args.section.now c.args.offset c.unread.result.now c.held.window.unread c.look-seen.result
    c.unread.ensures.bytes c.look-seen.ensures (c.if-not-is_cut.ensures.cut refl) in
    cut_before c.args.section.now c.args.offset c.args.window.now.unread c.held.window.unread here
    c.held.invariant.unasked

pub returns-in-Some-clause-awaits : goal.returns-in-Some-clause-awaits
returns-in-Some-clause-awaits g c =
    awaits_behind c.args.section.now c.args.offset c.args.window.now.unread c.held.window.unread
    c.await_long.new.window.unread _ _ _ c.in_ok-awaited-in-Some.awaited.seen c.in_ok-awaited-in-Some.awaited.dropped
    c.held.invariant.bytes c.in_ok-awaited-in-Some.ensures.awaits

pub returns-in-Some-clause-unasked : goal.returns-in-Some-clause-unasked
returns-in-Some-clause-unasked g c =
    let here = cut_held c.args.section.now c.args.offset c.unread.result.now c.held.window.unread c.look-seen.result
    c.unread.ensures.bytes c.look-seen.ensures (c.if-not-is_cut.ensures.cut refl) in
    cut_before c.args.section.now c.args.offset c.args.window.now.unread c.held.window.unread here
    c.held.invariant.unasked

pub fill-requires : goal.fill-requires
fill-requires g c =
    let here = cut_held c.args.section.now c.args.offset c.unread.result.now c.held.window.unread c.look-seen.result
    c.unread.ensures.bytes c.look-seen.ensures (c.if-not-is_cut.ensures.cut refl) in
    subst (λ (l : List ℕ). length l ≤ 4128768) c.unread-in-held.ensures.bytes
    (c.in-None.ensures.none c.args.offset
    (subst (λ (l : List ℕ). Sees c.args.section.now c.args.offset l seen.Cut) (sym c.unread-in-held.ensures.bytes)
    here))

pub returns-in_err-fill-in-None-clause-none : goal.returns-in_err-fill-in-None-clause-none
returns-in_err-fill-in-None-clause-none g c =
    let here = cut_held c.args.section.now c.args.offset c.unread.result.now c.held.window.unread c.look-seen.result
    c.unread.ensures.bytes c.look-seen.ensures (c.if-not-is_cut.ensures.cut refl) in
    on_err c.from_residual-in_err-fill-in-None.result (awaits_failed c.args.section.now c.args.offset
    c.args.window.now.unread c.held.window.unread c.fill.new.self.unread _ _ _ c.held.invariant.bytes
    c.in_err-fill-in-None.ensures.bytes c.in_err-fill-in-None.ensures.unread here)

pub returns-in_err-fill-in-None-clause-unasked : goal.returns-in_err-fill-in-None-clause-unasked
returns-in_err-fill-in-None-clause-unasked g c =
    let here = cut_held c.args.section.now c.args.offset c.unread.result.now c.held.window.unread c.look-seen.result
    c.unread.ensures.bytes c.look-seen.ensures (c.if-not-is_cut.ensures.cut refl) in
    cut_before c.args.section.now c.args.offset c.args.window.now.unread c.held.window.unread here
    c.held.invariant.unasked

pub returns-then-branch-eq0-clause-awaits : goal.returns-then-branch-eq0-clause-awaits
returns-then-branch-eq0-clause-awaits g c =
    let here = cut_held c.args.section.now c.args.offset c.unread.result.now c.held.window.unread c.look-seen.result
    c.unread.ensures.bytes c.look-seen.ensures (c.if-not-is_cut.ensures.cut refl) in
    let size : length c.held.window.unread + 0 ≡ length c.fill.new.self.unread =
    omega (arith, c.in_ok-fill-in-None.ensures.count, c.if-branch-eq0.true) in
    awaits_end c.args.section.now c.args.offset c.args.window.now.unread c.held.window.unread c.fill.new.self.unread
    _ _ _ c.held.invariant.bytes c.in_ok-fill-in-None.ensures.bytes size
    (c.in_ok-fill-in-None.ensures.end c.if-branch-eq0.true)
    (gathered_none c.held.window.unread c.fill.new.self.unread _ _ c.in_ok-fill-in-None.ensures.bytes size) here

pub returns-then-branch-eq0-clause-unasked : goal.returns-then-branch-eq0-clause-unasked
returns-then-branch-eq0-clause-unasked g c =
    let here = cut_held c.args.section.now c.args.offset c.unread.result.now c.held.window.unread c.look-seen.result
    c.unread.ensures.bytes c.look-seen.ensures (c.if-not-is_cut.ensures.cut refl) in
    cut_before c.args.section.now c.args.offset c.args.window.now.unread c.held.window.unread here
    c.held.invariant.unasked

pub held-preserved : goal.held-preserved
held-preserved g c =
    let here = cut_held c.args.section.now c.args.offset c.unread.result.now c.held.window.unread c.look-seen.result
    c.unread.ensures.bytes c.look-seen.ensures (c.if-not-is_cut.ensures.cut refl) in
    record {
      bytes = gathers_more c.args.window.now.unread c.held.window.unread c.fill.new.self.unread _ _ _
          c.held.invariant.bytes c.in_ok-fill-in-None.ensures.bytes;
      unasked = cut_before c.args.section.now c.args.offset c.args.window.now.unread c.held.window.unread here
          c.held.invariant.unasked;
      counted = omega (arith, c.held.invariant.counted, c.in_ok-fill-in-None.ensures.counted);
      none_failed = c.in_ok-fill-in-None.ensures.none_failed ∙ c.held.invariant.none_failed;
    }

pub held-smaller : goal.held-smaller
held-smaller g c =
    let here = cut_held c.args.section.now c.args.offset c.unread.result.now c.held.window.unread c.look-seen.result
    c.unread.ensures.bytes c.look-seen.ensures (c.if-not-is_cut.ensures.cut refl) in
    let room : length c.held.window.unread ≤ 4128768 =
    subst (λ (l : List ℕ). length l ≤ 4128768) c.unread-in-held.ensures.bytes
    (c.in-None.ensures.none c.args.offset
    (subst (λ (l : List ℕ). Sees c.args.section.now c.args.offset l seen.Cut) (sym c.unread-in-held.ensures.bytes)
    here)) in
    omega (arith, room, c.in_ok-fill-in-None.ensures.count, c.if-branch-eq0.false)
