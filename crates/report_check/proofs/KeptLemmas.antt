-- What was read of a report, as it is judged.
use Rattle.std.proofs.Common.{◌≡◌, inl, inr, ℕ, zero, suc, ◌+◌, ◌<◌, ◌≤◌, false, List, [], ◌∷◌, ◌++◌, length, get_or, Vec, Global, refl, sym, ap, ◌∙◌, subst, arith}
use Rattle.std.specs.Prelude.{map, flat_map, All, IsPermutation, IsSortedByKey}
use Rattle.std.specs.Ordering.{nat_cmp, is_lt}
use Rattle.std.specs.List.{AllByRecursion}
use Rattle.std.specs.List.Sorted.{IsNonDecreasingBy}
use Rattle.std.proofs.lemmas.Bool.{cases_eq}
use Rattle.std.proofs.lemmas.List.Elements.{All-from_recursion, recursion_from_All}
use Rattle.std.proofs.lemmas.List.Sorted.{All-permutation}
use Rattle.plain_map.specs.declared.records.Record.{Record}
use Rattle.plain_map.specs.declared.records.Pending.{Pending}
use Rattle.plain_map.specs.Places.{IsInKeyOrder}
use Rattle.report_text.specs.declared.parts.Head.{Head}
use Rattle.report_told.specs.declared.told.Ended.{Ended}
use Rattle.report_told.specs.declared.told.Ended.TheVariants.{Answered, Refused}
use Rattle.report_told.specs.Told.{Entry, call, pending, order, Told}
use Rattle.report_told.specs.Rules.{IsEntry, IsInGrammar, Rise, ended_packets, times, waiting_packets}
use Rattle.report_told.specs.Points.{answers_of, pending_in, pending_told, record_of, records_behind, records_told}
use Rattle.report_told.proofs.TimesLemmas.{times-other, times-same, times-cons}
use Rattle.report_reading.specs.declared.kept.Kept.{Kept}
use Rattle.report_reading.specs.Kept.{IsKept}
use Rattle.report_check.specs.Facts.{Facts, HasFacts}

-- Packets that rise.

-- each is above all before it
abbrev RiseAbove : List ℕ → Type 0
RiseAbove [] = Unit {0}
RiseAbove (x ∷ xs) = AllByRecursion (λ y. x < y) xs × RiseAbove xs

-- what is above a greater one is above a lesser one
above_on : (x y : ℕ) (xs : List ℕ) → x < y → AllByRecursion (λ z. y < z) xs → AllByRecursion (λ z. x < z) xs
above_on x y [] less all = tt
above_on x y (z ∷ xs) less all = (omega (arith, less, all.0), above_on x y xs less all.1)

-- packets that rise are each above all before it
rise_above : (xs : List ℕ) → Rise xs → RiseAbove xs
rise_above [] rise = tt
rise_above (x ∷ []) rise = (tt, tt)
rise_above (x ∷ y ∷ xs) rise = both rise.0 (rise_above (y ∷ xs) rise.1)
  where
    both : x < y → RiseAbove (y ∷ xs) → RiseAbove (x ∷ y ∷ xs)
    both less later = ((less, above_on x y xs less later.0), later)

-- a packet below all does not stand
below_all : (packet : ℕ) (xs : List ℕ) → AllByRecursion (λ y. packet < y) xs → times packet xs ≡ 0
below_all packet [] all = refl
below_all packet (x ∷ xs) all =
    times-other packet x xs (λ same. absurd (omega (arith, all.0))) ∙ below_all packet xs all.1

-- packets that rise stand once at most
rise_once : (packet : ℕ) (xs : List ℕ) → RiseAbove xs → times packet xs ≤ 1
rise_once packet [] rise = omega arith
rise_once packet (x ∷ xs) rise = elim (cases_eq x packet) [
  | inl same ↦
      (let all : times packet (x ∷ xs) ≡ suc (times packet xs) =
      subst (λ (p : ℕ). times p (x ∷ xs) ≡ suc (times p xs)) same (times-same x x xs refl) in
      let none : times packet xs ≡ 0 = subst (λ (p : ℕ). times p xs ≡ 0) same (below_all x xs rise.0) in
      omega (arith, all, none))
  | inr other ↦ omega (arith, times-other packet x xs other, rise_once packet xs rise.1)
]

-- elements whose numbers rise do not fall
first_below : {A : Type 0} (key : A → ℕ) (n : ℕ) (xs : List A) → AllByRecursion (λ y. n < y) (map key xs) →
    (j : ℕ) (d : A) → j < length xs → n ≤ key (get_or xs j d)
first_below key n [] all j d inside = absurd (omega arith)
first_below key n (x ∷ xs) all zero d inside = omega (arith, all.0)
first_below key n (x ∷ xs) all (suc j) d inside = first_below key n xs all.1 j d (omega arith)

-- where each is above those before it, none falls
never_fall : {A : Type 0} (key : A → ℕ) (xs : List A) → RiseAbove (map key xs) → IsNonDecreasingBy key xs
never_fall key [] rise i j d before inside = absurd (omega arith)
never_fall key (x ∷ xs) rise zero zero d before inside = omega arith
never_fall key (x ∷ xs) rise zero (suc j) d before inside = first_below key (key x) xs rise.0 j d (omega arith)
never_fall key (x ∷ xs) rise (suc i) zero d before inside = absurd (omega arith)
never_fall key (x ∷ xs) rise (suc i) (suc j) d before inside =
    never_fall key xs rise.1 i j d (omega arith) (omega arith)

-- a number that is no less does not compare as less
not_less : (a b : ℕ) → b ≤ a → is_lt (nat_cmp a b) ≡ false
not_less a b le = grind arith

-- and are sorted
rise_sorted : {A : Type 0} (key : A → ℕ) (xs : List A) → RiseAbove (map key xs) → IsSortedByKey key nat_cmp xs
rise_sorted key xs rise k d low inside =
    not_less (key (get_or xs (k + 1) d)) (key (get_or xs k d)) (never_fall key xs rise k (k + 1) d (omega arith) inside)

-- The records of lines.

-- the packets of the records of these lines
abbrev record_packets : List Entry → List Entry → List ℕ
record_packets before entries = map (λ (r : Record). r.packet) (records_behind before entries)

-- a record's packet is that of its line
above_records : (x : ℕ) (before entries : List Entry) → AllByRecursion (λ y. x < y) (ended_packets entries) →
    AllByRecursion (λ y. x < y) (record_packets before entries)
above_records x before [] all = tt
above_records x before (pending told ∷ entries) all = above_records x (before ++ pending told ∷ []) entries all
above_records x before (order packets ∷ entries) all = above_records x (before ++ order packets ∷ []) entries all
above_records x before (call told ∷ entries) all =
    go told.ended all.0 (above_records x (before ++ call told ∷ []) entries all.1)
  where
    go : (ended : Ended) → x < told.packet →
        AllByRecursion (λ y. x < y) (record_packets (before ++ call told ∷ []) entries) →
        AllByRecursion (λ y. x < y) (map (λ (r : Record). r.packet)
        (record_of (suc (answers_of told.seat before)) told ended ++ records_behind (before ++ call told ∷ []) entries))
    go (Answered reply steps seen) less later = (less, later)
    go (Refused full) less later = later

-- so they rise as those of the lines do
records_rise : (before entries : List Entry) → RiseAbove (ended_packets entries) →
    RiseAbove (record_packets before entries)
records_rise before [] rise = tt
records_rise before (pending told ∷ entries) rise = records_rise (before ++ pending told ∷ []) entries rise
records_rise before (order packets ∷ entries) rise = records_rise (before ++ order packets ∷ []) entries rise
records_rise before (call told ∷ entries) rise =
    go told.ended (above_records told.packet (before ++ call told ∷ []) entries rise.0)
    (records_rise (before ++ call told ∷ []) entries rise.1)
  where
    go : (ended : Ended) → AllByRecursion (λ y. told.packet < y) (record_packets (before ++ call told ∷ []) entries) →
        RiseAbove (record_packets (before ++ call told ∷ []) entries) →
        RiseAbove (map (λ (r : Record). r.packet)
        (record_of (suc (answers_of told.seat before)) told ended ++ records_behind (before ++ call told ∷ []) entries))
    go (Answered reply steps seen) above later = (above, later)
    go (Refused full) above later = later

-- and none stands more often
fewer_records : (packet : ℕ) (before entries : List Entry) →
    times packet (record_packets before entries) ≤ times packet (ended_packets entries)
fewer_records packet before [] = omega arith
fewer_records packet before (pending told ∷ entries) = fewer_records packet (before ++ pending told ∷ []) entries
fewer_records packet before (order packets ∷ entries) = fewer_records packet (before ++ order packets ∷ []) entries
fewer_records packet before (call told ∷ entries) =
    go told.ended (fewer_records packet (before ++ call told ∷ []) entries)
  where
    go : (ended : Ended) →
        times packet (record_packets (before ++ call told ∷ []) entries) ≤ times packet (ended_packets entries) →
        times packet (map (λ (r : Record). r.packet)
        (record_of (suc (answers_of told.seat before)) told ended ++ records_behind (before ++ call told ∷ []) entries))
        ≤ times packet (told.packet ∷ ended_packets entries)
    go (Answered reply steps seen) later =
        omega (
          arith,
          later,
          times-cons packet told.packet (record_packets (before ++ call told ∷ []) entries),
          times-cons packet told.packet (ended_packets entries),
        )
    go (Refused full) later = omega (arith, later, times-cons packet told.packet (ended_packets entries))

-- The packets of pending calls are those of their lines.
waiting_are : (all entries : List Entry) →
    map (λ (u : Pending). u.packet) (flat_map (pending_in all) entries) ≡ waiting_packets entries
waiting_are all [] = refl
waiting_are all (call told ∷ entries) = waiting_are all entries
waiting_are all (order packets ∷ entries) = waiting_are all entries
waiting_are all (pending told ∷ entries) = ap (λ (xs : List ℕ). told.packet ∷ xs) (waiting_are all entries)

-- no packet is of two calls
one_call : (answers waits ended : ℕ) → answers ≤ ended → ended ≤ 1 → (1 ≤ waits → waits + ended ≡ 1) →
    answers + waits ≤ 1
one_call answers zero ended fewer once apart = omega arith
one_call answers (suc waits) ended fewer once apart = omega (arith, apart (omega arith))

-- each packet is of one call at most
calls_once : (head : Head) (told : Told) → IsInGrammar told → (packet : ℕ) →
    times packet (map (λ (r : Record). r.packet) (records_told told))
    + times packet (map (λ (u : Pending). u.packet) (pending_told told)) ≤ 1
calls_once head told in_grammar packet =
    let waits : times packet (map (λ (u : Pending). u.packet) (pending_told told)) ≡ times packet
    (waiting_packets told.entries) =
    ap (λ (xs : List ℕ). times packet xs) (waiting_are told.entries told.entries) in
    let few = one_call (times packet (record_packets [] told.entries)) (times packet (waiting_packets told.entries))
    (times packet (ended_packets told.entries)) (fewer_records packet [] told.entries)
    (rise_once packet (ended_packets told.entries) (rise_above (ended_packets told.entries) in_grammar.entries.rise))
    (in_grammar.entries.apart packet) in
    omega (arith, waits, few)

-- Seats.

-- the seats of answered calls are among the eight
record_seats : (head : Head) (before entries : List Entry) → head.seats ≤ 8 → AllByRecursion (IsEntry head) entries →
    AllByRecursion (λ (r : Record). r.seat < 8) (records_behind before entries)
record_seats head before [] low each = tt
record_seats head before (pending told ∷ entries) low each =
    record_seats head (before ++ pending told ∷ []) entries low each.1
record_seats head before (order packets ∷ entries) low each =
    record_seats head (before ++ order packets ∷ []) entries low each.1
record_seats head before (call told ∷ entries) low each =
    go told.ended (omega (arith, low, each.0.0.seat_is))
    (record_seats head (before ++ call told ∷ []) entries low each.1)
  where
    go : (ended : Ended) → told.seat < 8 →
        AllByRecursion (λ (r : Record). r.seat < 8) (records_behind (before ++ call told ∷ []) entries) →
        AllByRecursion (λ (r : Record). r.seat < 8)
        (record_of (suc (answers_of told.seat before)) told ended ++ records_behind (before ++ call told ∷ []) entries)
    go (Answered reply steps seen) seat later = (seat, later)
    go (Refused full) seat later = later

-- and those of pending calls
pending_seats : (head : Head) (all entries : List Entry) → head.seats ≤ 8 → AllByRecursion (IsEntry head) entries →
    AllByRecursion (λ (u : Pending). u.seat < 8) (flat_map (pending_in all) entries)
pending_seats head all [] low each = tt
pending_seats head all (call told ∷ entries) low each = pending_seats head all entries low each.1
pending_seats head all (order packets ∷ entries) low each = pending_seats head all entries low each.1
pending_seats head all (pending told ∷ entries) low each =
    (omega (arith, low, each.0.1.seat_is), pending_seats head all entries low each.1)

-- What was read are the facts, with the pending calls in the order of their packets.

-- answered calls, pending calls in their order, and the order
pub facts_are : (kept : Kept) (told : Told) (sorted : List Pending) → IsKept kept told → IsInGrammar told →
    IsPermutation kept.pending.items sorted → IsSortedByKey (λ (u : Pending). u.packet) nat_cmp sorted →
    Facts told kept.calls.items sorted kept.order.items
facts_are kept told sorted is in_grammar same rises = record {
  calls_are = is.calls;
  calls_sorted = subst (IsSortedByKey (λ (r : Record). r.packet) nat_cmp) (sym is.calls)
      (rise_sorted (λ (r : Record). r.packet) (records_told told)
      (records_rise [] told.entries (rise_above (ended_packets told.entries) in_grammar.entries.rise)));
  pending_are = moved;
  pending_sorted = rises;
  order_is = is.order;
  once = λ packet.
      subst (λ (rs : List Record). times packet (map (λ (r : Record). r.packet) rs)
      + times packet (map (λ (u : Pending). u.packet) (pending_told told)) ≤ 1) (sym is.calls)
      (calls_once told.head told in_grammar packet);
  call_seats = subst (All (λ (r : Record). r.seat < 8)) (sym is.calls)
      (All-from_recursion (λ (r : Record). r.seat < 8) (records_told told)
      (record_seats told.head [] told.entries low each));
  pending_seats = All-permutation (λ (u : Pending). u.seat < 8) (pending_told told) sorted moved
      (All-from_recursion (λ (u : Pending). u.seat < 8) (pending_told told)
      (pending_seats told.head told.entries told.entries low each));
}
  where
    low : told.head.seats ≤ 8
    low = in_grammar.head.settings.seats_in_range.1

    each : AllByRecursion (IsEntry told.head) told.entries
    each = recursion_from_All (IsEntry told.head) told.entries in_grammar.entries.each

    moved : IsPermutation (pending_told told) sorted
    moved = subst (λ (us : List Pending). IsPermutation us sorted) is.pending same

-- the same of all that was read
pub has_facts : (kept : Kept) (sorted : Vec Pending Global) (told : Told) → IsKept kept told → IsInGrammar told →
    IsPermutation kept.pending.items sorted.items → IsSortedByKey (λ (u : Pending). u.packet) nat_cmp sorted.items →
    HasFacts (record kept { pending = sorted }) told
has_facts kept sorted told is in_grammar same rises = record {
  head_is = is.head;
  bound_is = is.bound;
  pairs_are = is.pairs;
  pairs_ordered = subst IsInKeyOrder (sym is.pairs) in_grammar.sessions.ordered;
  facts = facts_are kept told sorted.items is in_grammar same rises;
}
