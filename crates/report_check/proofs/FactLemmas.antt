-- The calls of a packet.
use Rattle.std.proofs.Common.{◌≡◌, inl, inr, ℕ, suc, ◌+◌, ◌<◌, ◌≤◌, ◌==◌, Bool, true, false, cond, List, [], ◌∷◌, ◌++◌, length, length-append, get_or, take, drop, Some, None, refl, sym, ap, ◌∙◌, append-nil, subst, arith}
use Rattle.std.specs.Prelude.{map, filter, flat_map, Contains}
use Rattle.std.proofs.lemmas.List.{length-map, take_more, nil_from_length}
use Rattle.std.proofs.Math.Seq.{take-length}
use Rattle.std.proofs.lemmas.List.Concat.{flat_map-append}
use Rattle.std.proofs.lemmas.List.Elements.{Contains-get_or, filter-append}
use Rattle.std.proofs.lemmas.List.Sorted.{IsPermutation-sym, Contains-permutation}
use Rattle.std.proofs.lemmas.Bool.{cases_eq, eq-eqb, ne_eqb}
use Rattle.plain_map.specs.declared.records.Record.{Record}
use Rattle.plain_map.specs.declared.records.Pending.{Pending}
use Rattle.plain_map.specs.History.{Placed, answered, pending as waiting, packet_of}
use Rattle.report_told.specs.Told.{Told}
use Rattle.report_told.specs.Rules.{times}
use Rattle.plain_map.specs.Calls.{is_update}
use Rattle.report_told.specs.Points.{IsWhole, pending_told, placed_told, records_told, standing}
use Rattle.report_told.proofs.TimesLemmas.{filter_within, filter_one, some_times, filter_none, filter_step, times-other}
use Rattle.report_reading.proofs.PacketLemmas.{stands_at}
use Rattle.list_laws.proofs.Cuts.{cut_at}
use Rattle.report_check.specs.Facts.{Facts, placed_at, IsCallOf}

-- One element with a number.

-- a test after a map is a test before it
filter_mapped : {A B : Type 0} (made : A → B) (test : B → Bool) (xs : List A) →
    filter test (map made xs) ≡ map made (filter (λ x. test (made x)) xs)
filter_mapped made test [] = refl
filter_mapped made test (x ∷ xs) = go (test (made x)) (filter_mapped made test xs)
  where
    go : (b : Bool) → filter test (map made xs) ≡ map made (filter (λ x. test (made x)) xs) →
        cond b (made x ∷ filter test (map made xs)) (filter test (map made xs))
        ≡ map made (cond b (x ∷ filter (λ x. test (made x)) xs) (filter (λ x. test (made x)) xs))
    go true later = ap (λ ys. made x ∷ ys) later
    go false later = later

-- The calls of a report with a packet.

-- the calls of a packet are its answered ones, then its pending ones
both_filtered : (told : Told) (packet : ℕ) →
    placed_at told packet
    ≡ map answered (filter (λ r. r.packet == packet) (records_told told))
    ++ map waiting (filter (λ u. u.packet == packet) (pending_told told))
both_filtered told packet =
    filter-append (λ placed. packet_of placed == packet) (map answered (records_told told))
    (map waiting (pending_told told))
    ∙ ap (λ xs. xs ++ filter (λ placed. packet_of placed == packet) (map waiting (pending_told told)))
    (filter_mapped answered (λ placed. packet_of placed == packet) (records_told told))
    ∙ ap (λ xs. map answered (filter (λ r. r.packet == packet) (records_told told)) ++ xs)
    (filter_mapped waiting (λ placed. packet_of placed == packet) (pending_told told))

-- an answered call is the one call of its packet
pub answered_at : (told : Told) (calls : List Record) (pending : List Pending) (order : List ℕ) (packet : ℕ)
    (call : Record) →
    Facts told calls pending order → IsCallOf (λ (r : Record). r.packet) calls packet (Some call) →
    placed_at told packet ≡ answered call ∷ []
answered_at told calls pending order packet call facts (i, inside, is, number) =
    let some : 1 ≤ times packet (map (λ (r : Record). r.packet) calls) =
    some_times (λ (r : Record). r.packet) packet calls i call inside (ap (λ (r : Record). r.packet) is ∙ number) in
    let once = facts.once packet in
    let one : filter (λ (r : Record). r.packet == packet) calls ≡ call ∷ [] =
    filter_one (λ (r : Record). r.packet) packet calls i call (omega (arith, once)) inside
    (ap (λ (r : Record). r.packet) is ∙ number)
    ∙ ap (λ (r : Record). r ∷ []) is in
    let none : filter (λ (u : Pending). u.packet == packet) (pending_told told) ≡ [] =
    filter_none (λ (u : Pending). u.packet) packet (pending_told told) (omega (arith, once, some)) in
    both_filtered told packet
    ∙ ap (λ rs. map answered (filter (λ (r : Record). r.packet == packet) rs) ++ map waiting
    (filter (λ (u : Pending). u.packet == packet) (pending_told told))) (sym facts.calls_are)
    ∙ ap (λ rs. map answered rs ++ map waiting (filter (λ (u : Pending). u.packet == packet) (pending_told told))) one
    ∙ ap (λ us. answered call ∷ map waiting us) none

-- where no element has the number, none is counted
pub no_times : {A : Type 0} (key : A → ℕ) (packet : ℕ) (xs : List A) →
    ((i : ℕ) (d : A) → i < length xs → key (get_or xs i d) ≡ packet → ⊥) → times packet (map key xs) ≡ 0
no_times key packet [] none = refl
no_times key packet (x ∷ xs) none =
    times-other packet (key x) (map key xs) (none 0 x (omega arith))
    ∙ no_times key packet xs (λ i d inside. none (suc i) d (omega arith))

-- a packet without an answered call has pending ones at most
pub no_answer : (told : Told) (calls : List Record) (pending : List Pending) (order : List ℕ) (packet : ℕ) →
    Facts told calls pending order → IsCallOf (λ (r : Record). r.packet) calls packet None →
    placed_at told packet ≡ map waiting (filter (λ (u : Pending). u.packet == packet) (pending_told told))
no_answer told calls pending order packet facts none =
    let nothing : filter (λ (r : Record). r.packet == packet) calls ≡ [] =
    filter_none (λ (r : Record). r.packet) packet calls (no_times (λ (r : Record). r.packet) packet calls none) in
    both_filtered told packet
    ∙ ap (λ rs. map answered (filter (λ (r : Record). r.packet == packet) rs) ++ map waiting
    (filter (λ (u : Pending). u.packet == packet) (pending_told told))) (sym facts.calls_are)
    ∙ ap (λ rs. map answered rs ++ map waiting (filter (λ (u : Pending). u.packet == packet) (pending_told told)))
    nothing

-- then a pending call is the one call of its packet
pub waiting_at : (told : Told) (calls : List Record) (pending : List Pending) (order : List ℕ) (packet : ℕ)
    (call : Pending) →
    Facts told calls pending order → IsCallOf (λ (r : Record). r.packet) calls packet None →
    IsCallOf (λ (u : Pending). u.packet) pending packet (Some call) → placed_at told packet ≡ waiting call ∷ []
waiting_at told calls pending order packet call facts none (i, inside, is, number) =
    let there : Contains (pending_told told) call =
    Contains-permutation pending (pending_told told) call
    (IsPermutation-sym (pending_told told) pending facts.pending_are) (i, inside, is) in
    let named : (get_or (pending_told told) there.0 call).packet ≡ packet =
    ap (λ (u : Pending). u.packet) there.2 ∙ number in
    no_answer told calls pending order packet facts none
    ∙ ap (map waiting)
    (filter_one (λ (u : Pending). u.packet) packet (pending_told told) there.0 call
    (omega (arith, facts.once packet)) there.1 named
    ∙ ap (λ (u : Pending). u ∷ []) there.2)

-- What stands in the order has a call, where the list is whole.

-- where none stays, none is counted
filter_empty : {A : Type 0} (key : A → ℕ) (packet : ℕ) (xs : List A) → filter (λ x. key x == packet) xs ≡ [] →
    times packet (map key xs) ≡ 0
filter_empty key packet [] is = refl
filter_empty key packet (x ∷ xs) is = elim (cases_eq (key x) packet) [
  | inl same ↦ absurd (omega (
    arith,
    ap length
        (sym (filter_step (λ y. key y == packet) x xs true (eq-eqb (key x) packet same)) ∙ is),
  ))
  | inr other ↦
      times-other packet (key x) (map key xs) other
      ∙ filter_empty key packet xs (sym
      (filter_step (λ y. key y == packet) x xs false (ne_eqb (key x) packet other)) ∙ is)
]

-- two lists that make an empty one are empty
both_empty : {A : Type 0} (xs ys : List A) → xs ++ ys ≡ [] → (length xs ≡ 0) × (length ys ≡ 0)
both_empty xs ys is =
    let none : length xs + length ys ≡ 0 = sym (length-append xs ys) ∙ ap length is in
    (omega (arith, none), omega (arith, none))

-- a packet that stands in a whole order has a call
pub some_call : (told : Told) (packet : ℕ) → IsWhole told → 1 ≤ standing told packet → placed_at told packet ≡ [] → ⊥
some_call told packet whole stands nothing =
    let both = both_empty (map answered (filter (λ (r : Record). r.packet == packet) (records_told told)))
    (map waiting (filter (λ (u : Pending). u.packet == packet) (pending_told told)))
    (sym (both_filtered told packet) ∙ nothing) in
    let no_record : times packet (map (λ (r : Record). r.packet) (records_told told)) ≡ 0 =
    filter_empty (λ (r : Record). r.packet) packet (records_told told)
    (nil_from_length _ (sym (length-map (filter (λ (r : Record). r.packet == packet) (records_told told)) answered)
    ∙ both.0)) in
    let no_pending : times packet (map (λ (u : Pending). u.packet) (pending_told told)) ≡ 0 =
    filter_empty (λ (u : Pending). u.packet) packet (pending_told told)
    (nil_from_length _ (sym (length-map (filter (λ (u : Pending). u.packet == packet) (pending_told told)) waiting)
    ∙ both.1)) in
    omega (
      arith,
      (whole packet).known stands,
      no_record,
      no_pending,
      filter_within (λ (u : Pending). u.packet) packet (λ (u : Pending). is_update u.call) (pending_told told),
    )

-- a packet without an answered or a pending call has none
pub no_call : (told : Told) (calls : List Record) (pending : List Pending) (order : List ℕ) (packet : ℕ) →
    Facts told calls pending order → IsCallOf (λ (r : Record). r.packet) calls packet None →
    IsCallOf (λ (u : Pending). u.packet) pending packet None → placed_at told packet ≡ []
no_call told calls pending order packet facts no_record no_pending =
    let nothing : filter (λ (u : Pending). u.packet == packet) (pending_told told) ≡ [] =
    filter_none (λ (u : Pending). u.packet) packet (pending_told told)
    (no_times (λ (u : Pending). u.packet) packet (pending_told told) (λ i d inside is.
    (let there : Contains pending (get_or (pending_told told) i d) =
    Contains-permutation (pending_told told) pending (get_or (pending_told told) i d) facts.pending_are
    (Contains-get_or (pending_told told) i d inside) in
    no_pending there.0 (get_or (pending_told told) i d) there.1 (ap (λ (u : Pending). u.packet) there.2 ∙ is)))) in
    no_answer told calls pending order packet facts no_record ∙ ap (map waiting) nothing

-- Places in the order.

-- a packet of the order stands in it
pub stands_here : (told : Told) (calls : List Record) (pending : List Pending) (order : List ℕ) (i : ℕ) →
    Facts told calls pending order → i < length order → 1 ≤ standing told (get_or order i 0)
stands_here told calls pending order i facts inside =
    subst (λ (xs : List ℕ). 1 ≤ times (get_or order i 0) xs) facts.order_is
    (stands_at (get_or order i 0) order i inside refl)

-- with one packet more, one call more stands
pub front_more : (told : Told) (order : List ℕ) (i : ℕ) (p : Placed) → i < length order →
    placed_at told (get_or order i 0) ≡ p ∷ [] →
    flat_map (placed_at told) (take (i + 1) order) ≡ flat_map (placed_at told) (take i order) ++ p ∷ []
front_more told order i p inside at =
    ap (flat_map (placed_at told)) (take_more order i 0 inside)
    ∙ flat_map-append (placed_at told) (take i order) (get_or order i 0 ∷ [])
    ∙ ap (λ xs. flat_map (placed_at told) (take i order) ++ xs) (append-nil (placed_at told (get_or order i 0)) ∙ at)

-- the order, cut at the call of a packet
pub order_cut : (told : Told) (calls : List Record) (pending : List Pending) (order : List ℕ) (i : ℕ) (p : Placed) →
    Facts told calls pending order → i < length order → placed_at told (get_or order i 0) ≡ p ∷ [] →
    placed_told told
    ≡ flat_map (placed_at told) (take i order) ++ p ∷ flat_map (placed_at told) (drop (suc i) order)
order_cut told calls pending order i p facts inside at =
    ap (flat_map (placed_at told)) (sym facts.order_is ∙ cut_at order i 0 inside)
    ∙ flat_map-append (placed_at told) (take i order) (get_or order i 0 ∷ drop (suc i) order)
    ∙ ap (λ xs. flat_map (placed_at told) (take i order) ++ (xs ++ flat_map (placed_at told) (drop (suc i) order))) at

-- the calls of all packets are the order
pub order_whole : (told : Told) (calls : List Record) (pending : List Pending) (order : List ℕ) (i : ℕ) →
    Facts told calls pending order → i ≡ length order → flat_map (placed_at told) (take i order) ≡ placed_told told
order_whole told calls pending order i facts all =
    ap (λ (n : ℕ). flat_map (placed_at told) (take n order)) all
    ∙ ap (flat_map (placed_at told)) (take-length order ∙ facts.order_is)

-- Seats.

-- the seat of an answered call is one of the eight
pub low_seat : (told : Told) (calls : List Record) (pending : List Pending) (order : List ℕ) (packet : ℕ)
    (call : Record) →
    Facts told calls pending order → IsCallOf (λ (r : Record). r.packet) calls packet (Some call) → call.seat < 8
low_seat told calls pending order packet call facts (i, inside, is, number) =
    subst (λ (r : Record). r.seat < 8) is (facts.call_seats i call inside)

-- so is that of a pending one
pub low_pending : (told : Told) (calls : List Record) (pending : List Pending) (order : List ℕ) (packet : ℕ)
    (call : Pending) →
    Facts told calls pending order → IsCallOf (λ (u : Pending). u.packet) pending packet (Some call) → call.seat < 8
low_pending told calls pending order packet call facts (i, inside, is, number) =
    subst (λ (u : Pending). u.seat < 8) is (facts.pending_seats i call inside)
