-- What is kept of a batch's packets, as one more is taken, and as they are dealt to the seats.
use Rattle.std.proofs.Common.{◌≡◌, ◌==◌, ℕ, suc, ◌+◌, ◌<◌, true, false, cond, List, [], ◌∷◌, ◌++◌, Vec, Global, length, map, take, get_or, set, replicate, inl, inr, refl, sym, ap, subst, ◌∙◌, arith, append-nil, get_or-set_same, get_or-set_other}
use Rattle.std.proofs.lemmas.Bool.{cases_eq, cond-true, cond-false, eq-eqb, ne_eqb}
use Rattle.std.proofs.lemmas.List.{get_or-map, get_or-replicate, length-replicate, length-set, map-set, take_more}
use Rattle.std.proofs.lemmas.List.Elements.{filter-append}
use Rattle.std.proofs.lemmas.List.FromFn.{fill_by_all, get_or-map-range_with_len, length-map-range_with_len}
use Rattle.packet_heads.specs.declared.framing.Framing.{Framing}
use Rattle.packet_adders.specs.declared.frames.Frame.{Frame}
use Rattle.packet_adders.specs.Frames.{IsFrameOf}
use Rattle.totals_runner.specs.Frames.{AreFrames, frames_by, shares_in}
use Rattle.totals_runner.specs.PacketAdds.{seat_for}

-- one packet more
pub AreFrames-more : (framing : Framing) (number : ℕ) (packets : List (List ℕ)) (frames : List Frame)
    (packet : List ℕ) (frame : Frame)
    (last : ℕ) → AreFrames framing number packets frames → IsFrameOf framing last packet frame →
    last ≡ number + length packets →
    AreFrames framing number (packets ++ packet ∷ []) (frames ++ frame ∷ [])
AreFrames-more framing number [] frames packet frame last are is at =
    let here : last ≡ number = omega (arith, at) in (
      frame,
      [],
      subst (λ (n : ℕ). IsFrameOf framing n packet frame) here is,
      refl,
      ap (λ (fs : List Frame). fs ++ frame ∷ []) are,
    )
AreFrames-more framing number (p ∷ packets) frames packet frame last are is at = (
  are.0,
  are.1 ++ frame ∷ [],
  are.2,
  AreFrames-more framing (suc number) packets are.1 packet frame last are.3 is (omega (arith, at)),
  ap (λ (fs : List Frame). fs ++ frame ∷ []) are.4,
)

-- a frame more is one of its seat's, and of no other's
frames_by_more : (seats seat : ℕ) (frames : List Frame) (frame : Frame) →
    frames_by seats seat (frames ++ frame ∷ [])
    ≡ frames_by seats seat frames ++ cond (seat_for seats frame.packet == seat) (frame ∷ []) []
frames_by_more seats seat frames frame =
    filter-append (λ (f : Frame). seat_for seats f.packet == seat) frames (frame ∷ [])

pub shares_more : (seats : ℕ) (frames : List Frame) (frame : Frame) (seat : ℕ) → seat ≡ seat_for seats frame.packet →
    seat < seats →
    set (shares_in seats frames) seat (get_or (shares_in seats frames) seat [] ++ frame ∷ [])
    ≡ shares_in seats (frames ++ frame ∷ [])
shares_more seats frames frame seat is less =
    fill_by_all (λ (s : ℕ). frames_by seats s (frames ++ frame ∷ []))
    (set (shares_in seats frames) seat (get_or (shares_in seats frames) seat [] ++ frame ∷ [])) seats []
    (length-set (shares_in seats frames) seat (get_or (shares_in seats frames) seat [] ++ frame ∷ []) ∙ long) each
  where
    old : ℕ → List Frame
    old s = frames_by seats s frames

    long : length (shares_in seats frames) ≡ seats
    long = length-map-range_with_len (λ (s : ℕ). frames_by seats s frames) 0 seats

    there : (s : ℕ) → s < seats → get_or (shares_in seats frames) s [] ≡ frames_by seats s frames
    there s inside =
        get_or-map-range_with_len (λ (r : ℕ). frames_by seats r frames) 0 seats s s [] inside (omega arith)

    each : (s : ℕ) → s < seats →
        get_or (set (shares_in seats frames) seat (get_or (shares_in seats frames) seat [] ++ frame ∷ [])) s []
        ≡ frames_by seats s (frames ++ frame ∷ [])
    each s inside = elim (cases_eq s seat) [
      | inl same ↦
          let within : seat < length (shares_in seats frames) = omega (arith, long, less) in
          let own : (seat_for seats frame.packet == s) ≡ true =
          eq-eqb (seat_for seats frame.packet) s (sym is ∙ sym same) in
          ap (λ (r : ℕ). get_or (set (shares_in seats frames) seat
          (get_or (shares_in seats frames) seat [] ++ frame ∷ [])) r []) same
          ∙ get_or-set_same (shares_in seats frames) seat
          (get_or (shares_in seats frames) seat [] ++ frame ∷ []) [] within
          ∙ ap (λ (fs : List Frame). fs ++ frame ∷ []) (there seat less)
          ∙ ap (λ (r : ℕ). frames_by seats r frames ++ frame ∷ []) (sym same)
          ∙ ap (λ (fs : List Frame). frames_by seats s frames ++ fs)
          (sym (cond-true (seat_for seats frame.packet == s) (frame ∷ []) [] own))
          ∙ sym (frames_by_more seats s frames frame)
      | inr other ↦
          let none : (seat_for seats frame.packet == s) ≡ false =
          ne_eqb (seat_for seats frame.packet) s (λ eq. other (sym eq ∙ sym is)) in
          get_or-set_other (shares_in seats frames) seat s
          (get_or (shares_in seats frames) seat [] ++ frame ∷ []) [] other
          ∙ there s inside ∙ sym (append-nil (frames_by seats s frames))
          ∙ ap (λ (fs : List Frame). frames_by seats s frames ++ fs)
          (sym (cond-false (seat_for seats frame.packet == s) (frame ∷ []) [] none))
          ∙ sym (frames_by_more seats s frames frame)
    ]

-- a push to one of the lists, seen as lists
pub pushed : (lists : List (Vec Frame Global)) (seat : ℕ) (was now : Vec Frame Global) (frame : Frame) →
    seat < length lists → was ≡ get_or lists seat was → now.items ≡ was.items ++ frame ∷ [] →
    map (λ (own : Vec Frame Global). own.items) (set lists seat now)
    ≡ set (map (λ (own : Vec Frame Global). own.items) lists) seat
    (get_or (map (λ (own : Vec Frame Global). own.items) lists) seat [] ++ frame ∷ [])
pushed lists seat was now frame inside is push =
    map-set (λ (own : Vec Frame Global). own.items) lists seat now
    ∙ ap (λ (items : List Frame). set (map (λ (own : Vec Frame Global). own.items) lists) seat items)
    (push
    ∙ ap (λ (items : List Frame). items ++ frame ∷ [])
    (ap (λ (own : Vec Frame Global). own.items) is
    ∙ sym (get_or-map (λ (own : Vec Frame Global). own.items) lists seat was [] inside)))

-- no frames, of so many seats
pub shares_none : (seats : ℕ) → replicate seats [] ≡ shares_in seats []
shares_none seats =
    fill_by_all (λ (s : ℕ). frames_by seats s []) (replicate seats []) seats [] (length-replicate seats [])
    (λ s inside. get_or-replicate seats s [] [] inside)

-- one frame more is dealt
pub deal_more : (seats : ℕ) (frames : List Frame) (place : ℕ) (frame other : Frame) (seat : ℕ)
    (old now : List (List Frame)) → place < length frames → get_or frames place other ≡ frame →
    seat ≡ seat_for seats frame.packet → seat < seats → old ≡ shares_in seats (take place frames) →
    now ≡ set old seat (get_or old seat [] ++ frame ∷ []) → now ≡ shares_in seats (take (place + 1) frames)
deal_more seats frames place frame other seat old now less is own below are more =
    let front : List Frame = take place frames in
    let next : take (place + 1) frames ≡ front ++ frame ∷ [] =
    take_more frames place other less ∙ ap (λ (f : Frame). front ++ f ∷ []) is in
    more ∙ ap (λ (xs : List (List Frame)). set xs seat (get_or xs seat [] ++ frame ∷ [])) are
    ∙ shares_more seats front frame seat own below ∙ ap (shares_in seats) (sym next)
