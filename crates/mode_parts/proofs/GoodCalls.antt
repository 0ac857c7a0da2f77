-- The calls that packets make rise by packet, and are no more than the packets.
use Rattle.std.proofs.Common.{◌≡◌, ◌≤◌, ℕ, suc, List, [], ◌∷◌, ◌++◌, map, length, Option, Some, None, sym, ap, subst, arith, inl, inr, refl}
use Rattle.mode_parts.specs.declared.calling.Calling.{Calling}
use Rattle.plain_map.specs.declared.calls.Call.{Call}
use Rattle.mode_parts.specs.PacketCalls.{MakeCalls, numbered}
use Rattle.report_told.specs.Rules.{Rise, part_of}
use Rattle.step_counts.specs.declared.rows.SeatRows.{SeatRows}
use Rattle.plain_map.specs.declared.full.Full.{Full}
use Rattle.plain_map.specs.Room.{margins}
use Rattle.list_laws.proofs.Lists.{In}

-- each is greater than the one before, and the first is at least this one
abbrev RiseFrom : (least : ℕ) → List ℕ → Type 0
RiseFrom least [] = Unit {0}
RiseFrom least (n ∷ numbers) = (least ≤ n) × RiseFrom (suc n) numbers

-- so it is from any lesser number
rise_below : (least below : ℕ) (numbers : List ℕ) → below ≤ least → RiseFrom least numbers → RiseFrom below numbers
rise_below least below [] less rise = tt
rise_below least below (n ∷ numbers) less rise = (omega (arith, less, rise.0), rise.1)

-- such numbers rise
rise_of : (least : ℕ) (numbers : List ℕ) → RiseFrom least numbers → Rise numbers
rise_of least [] rise = tt
rise_of least (n ∷ []) rise = tt
rise_of least (n ∷ m ∷ numbers) rise = (omega (arith, rise.1.0), rise_of (suc n) (m ∷ numbers) rise.1)

-- the packets of calls
abbrev packets_of : List (ℕ × Call) → List ℕ
packets_of calls = map (λ (call : ℕ × Call). call.0) calls

-- those of the calls that packets make rise, from the first packet's number on
risen_from : (calling : Calling) (number : ℕ) (packets : List (List ℕ)) (calls : List (ℕ × Call)) →
    MakeCalls calling number packets calls →
    RiseFrom number (packets_of calls)
risen_from calling number [] calls made = subst (λ (cs : List (ℕ × Call)). RiseFrom number (packets_of cs)) (sym made)
    tt
risen_from calling number (packet ∷ packets) calls made =
    subst (λ (cs : List (ℕ × Call)). RiseFrom number (packets_of cs)) (sym made.4)
    (go made.0 (risen_from calling (suc number) packets made.1 made.3))
  where
    go : (call : Option Call) → RiseFrom (suc number) (packets_of made.1) →
        RiseFrom number (packets_of (numbered number call ++ made.1))
    go (Some call) rest = (omega arith, rest)
    go None rest = rise_below (suc number) number (packets_of made.1) (omega arith) rest

-- so they rise
pub calls_rise : (calling : Calling) (number : ℕ) (packets : List (List ℕ)) (calls : List (ℕ × Call)) →
    MakeCalls calling number packets calls →
    Rise (map (λ (call : ℕ × Call). call.0) calls)
calls_rise calling number packets calls made = rise_of number (packets_of calls)
    (risen_from calling number packets calls made)

-- there are no more of them than packets
pub calls_few : (calling : Calling) (number : ℕ) (packets : List (List ℕ)) (calls : List (ℕ × Call)) →
    MakeCalls calling number packets calls →
    length calls ≤ length packets
calls_few calling number [] calls made = omega (arith, ap length made)
calls_few calling number (packet ∷ packets) calls made =
    go made.0 made.4 (calls_few calling (suc number) packets made.1 made.3)
  where
    go : (call : Option Call) → calls ≡ numbered number call ++ made.1 → length made.1 ≤ length packets →
        length calls ≤ suc (length packets)
    go (Some call) is rest = omega (arith, ap length is, rest)
    go None is rest = omega (arith, ap length is, rest)

-- what is short is told with what is needed of it
pub need_told : (left need : SeatRows) (full : Full) → In full (margins left need) → full.need ≡ part_of need full.what
need_told left need full (inl is) = subst (λ (m : Full). m.need ≡ part_of need m.what) (sym is) refl
need_told left need full (inr (inl is)) = subst (λ (m : Full). m.need ≡ part_of need m.what) (sym is) refl
need_told left need full (inr (inr (inl is))) = subst (λ (m : Full). m.need ≡ part_of need m.what) (sym is) refl
need_told left need full (inr (inr (inr (inl is)))) =
    subst (λ (m : Full). m.need ≡ part_of need m.what) (sym is) refl
need_told left need full (inr (inr (inr (inr none)))) = elim none [ ]
