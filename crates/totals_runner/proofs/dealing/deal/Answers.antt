-- One frame more is dealt to its seat.
use Rattle.std.proofs.Common.{◌≡◌, ◌%◌, ◌<◌, ℕ, List, Vec, Global, length, map, take, sym, ap, ◌∙◌, arith}
use Rattle.std.proofs.Math.Nat.{mod-lt}
use Rattle.std.proofs.lemmas.List.{get_or_default, length-map}
use Rattle.std.proofs.lemmas.List.FromFn.{length-map-range_with_len}
use Rattle.packet_adders.specs.declared.classes.Class.TheVariants.{Passed}
use Rattle.packet_adders.specs.declared.frames.Frame.{Frame}
use Rattle.totals_runner.specs.Frames.{frames_by, shares_in}
use Rattle.totals_runner.proofs.FrameLemmas.{deal_more, pushed, shares_none}
use Rattle.totals_runner.proofs.dealing.deal.Goals as goal

-- there is a list for each seat
many : (seats : ℕ) (frames : List Frame) (lists : List (Vec Frame Global)) →
    map (λ (share : Vec Frame Global). share.items) lists ≡ shares_in seats frames → length lists ≡ seats
many seats frames lists are =
    sym (length-map lists (λ (share : Vec Frame Global). share.items))
    ∙ ap (λ (xs : List (List Frame)). length xs) are
    ∙ length-map-range_with_len (λ (seat : ℕ). frames_by seats seat frames) 0 seats

pub loop-frame-init : goal.loop-frame-init
loop-frame-init c = c.in_ok-shares.ensures ∙ shares_none c.args.seats

pub index_mut-requires : goal.index_mut-requires
index_mut-requires c =
    let some : 0 < c.args.seats = omega (arith, c.requires.some) in
    let below = mod-lt c.saturating_sub.result some in
    omega (
      arith,
      below,
      many c.args.seats (take c.loop-frame.frame-index c.args.frames.now) c.loop-frame.shares.items
          c.loop-frame.invariant,
      c.loop-frame.shares.ok.0,
    )

pub loop-frame-preserved : goal.loop-frame-preserved
loop-frame-preserved c =
    let seats : ℕ = c.args.seats in
    let frames : List Frame = c.args.frames.now in
    let lists : List (Vec Frame Global) = c.loop-frame.shares.items in
    let seat : ℕ = c.saturating_sub.result % seats in
    let some : 0 < seats = omega (arith, c.requires.some) in
    let below : seat < seats = mod-lt c.saturating_sub.result some in
    let inside : seat < length lists =
    omega (arith, below, many seats (take c.loop-frame.frame-index frames) lists c.loop-frame.invariant) in
    let none : Frame = record { packet = 0; length = 0; class = Passed } in
    deal_more seats frames c.loop-frame.frame-index _ none seat (map (λ (share : Vec Frame Global). share.items) lists)
    _ c.loop-frame-test.true (get_or_default frames c.loop-frame.frame-index none _ c.loop-frame-test.true)
    (ap (λ (n : ℕ). n % seats) c.saturating_sub.ensures) below c.loop-frame.invariant
    (pushed lists seat c.index_mut.result.now c.push.new.self _ inside c.index_mut.ensures.value
    c.in_ok-push.ensures.items)
