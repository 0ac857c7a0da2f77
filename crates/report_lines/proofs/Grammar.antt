-- The reports that the machine reads are those of the grammar.
use Rattle.std.proofs.Common.{◌≡◌, ℕ, ◌+◌, ◌^◌, ◌<◌, ◌≤◌, Bool, true, false, List, [], ◌∷◌, ◌++◌, refl, sym, ap, ◌∙◌, append_assoc, append-nil, subst, arith}
use Rattle.std.specs.Prelude.{flat_map, map, T}
use Rattle.std.proofs.lemmas.List.Concat.{flat_map-append}
use Rattle.std.proofs.lemmas.Bool.{and_parts, and_from}
use Rattle.std.specs.FinMap.{is_sorted}
use Rattle.std.specs.FinMap.Entries.{below_all}
use Rattle.std.specs.Ordering.{is_lt}
use Rattle.step_counts.specs.StepCounts.{step_bound}
use Rattle.std.proofs.lemmas.List.Elements.{All-from_recursion, recursion_from_All}
use Rattle.plain_map.specs.declared.keys.Key.{Key}
use Rattle.plain_map.specs.declared.keys.Pair.{Pair}
use Rattle.plain_map.specs.Keys.{key_cmp, entry_of}
use Rattle.capture_faults.specs.declared.fault.CaptureFault.{CaptureFault}
use Rattle.capture_faults.specs.declared.fault.CaptureFault.TheVariants.{ReadFault as NoRead, ShortHeader, Magic, Version, LinkType, RecordLength, Memory}
use Rattle.capture_faults.specs.declared.any_fault.AnyFault.{AnyFault}
use Rattle.capture_faults.specs.declared.any_fault.AnyFault.TheVariants.{Capture, ByteOrder, BlockLength, Trailer, SectionVersion, Interface, CapturedLength, Interfaces, Blocks}
use Rattle.line_fields.proofs.Scan.{Spells, spells_append}
use Rattle.flow_reading.specs.Flows.{IsFlow}
use Rattle.report_text.specs.Report.{session_line, input_line, leaves_line, count_line, steps_line, tail_lines}
use Rattle.report_text.specs.declared.parts.Head.{Head}
use Rattle.report_text.specs.declared.parts.Tail.{Tail}
use Rattle.capture_faults.specs.declared.ending.Ending.{Ending}
use Rattle.capture_faults.specs.declared.ending.Ending.TheVariants.{Done, ReadFault, Limit, Fault}
use Rattle.report_told.specs.Told.{Entry, Told, entry_line, told_text}
use Rattle.report_told.specs.Rules.{IsHead, IsEntry, AreEntries, AreSessions, IsTail, IsInGrammar, IsEndingTold, IsFaultTold, IsAnyFaultTold, Rise, ended_packets, waiting_packets, packet_ended, packet_pending, times}
use Rattle.report_told.proofs.TimesLemmas.{times-append}
use Rattle.list_laws.proofs.Places.{All-left}
use Rattle.report_lines.specs.declared.tails.Leaves.{Leaves}
use Rattle.report_lines.specs.declared.tails.Counts.{Counts}
use Rattle.report_lines.specs.declared.tails.Steps.{Steps}
use Rattle.report_lines.proofs.InputFields.{EndingFits}
use Rattle.report_lines.proofs.FaultFields.{CaptureFits, FaultFits}
use Rattle.report_lines.proofs.Bounds.{small_bound}
use Rattle.report_lines.proofs.Machine.{Line, head, entry, session, leaves, input, count, steps, Body, State, start, body, left, ended, counted, whole, Next, IsWholeState, text_of, line_at, told_of, begun_with}
use Rattle.report_lines.proofs.MachineLaws.{report_machine, settings_of, settings_are}

-- lines that lead from one state to another, and their text
abbrev pub Spelled : State → List Line → State → List ℕ → Type 0
Spelled s ls t bytes = Spells Next IsWholeState text_of line_at s ls t bytes

-- Fronts of entries and of sessions that may stand so.

rise_front : (xs ys : List ℕ) → Rise (xs ++ ys) → Rise xs
rise_front [] ys rise = tt
rise_front (x ∷ []) ys rise = tt
rise_front (x ∷ y ∷ xs) ys rise = (rise.0, rise_front (y ∷ xs) ys rise.1)

entries_front : (h : Head) (xs ys : List Entry) → AreEntries h (xs ++ ys) → AreEntries h xs
entries_front h xs ys are =
    let waits : waiting_packets (xs ++ ys) ≡ waiting_packets xs ++ waiting_packets ys =
    flat_map-append packet_pending xs ys in
    let ends : ended_packets (xs ++ ys) ≡ ended_packets xs ++ ended_packets ys =
    flat_map-append packet_ended xs ys in
    record {
      each = All-left (IsEntry h) xs ys are.each;
      rise = rise_front (ended_packets xs) (ended_packets ys) (subst Rise ends are.rise);
      apart = λ packet some.
          (let more_waits : times packet (waiting_packets (xs ++ ys)) ≡ times packet (waiting_packets xs) + times
          packet (waiting_packets ys) =
          ap (times packet) waits ∙ times-append packet (waiting_packets xs) (waiting_packets ys) in
          let more_ends : times packet (ended_packets (xs ++ ys)) ≡ times packet (ended_packets xs) + times packet
          (ended_packets ys) =
          ap (times packet) ends ∙ times-append packet (ended_packets xs) (ended_packets ys) in
          let once : times packet (waiting_packets (xs ++ ys)) + times packet (ended_packets (xs ++ ys)) ≡ 1 =
          are.apart packet (omega (arith, more_waits, some)) in
          omega (arith, more_waits, more_ends, once, some));
    }

below_front : (key : Key) (xs ys : List Pair) → below_all key_cmp key (map entry_of (xs ++ ys)) ≡ true →
    below_all key_cmp key (map entry_of xs) ≡ true
below_front key [] ys below = refl
below_front key (x ∷ xs) ys below =
    let parts = and_parts (is_lt (key_cmp key x.key)) (below_all key_cmp key (map entry_of (xs ++ ys))) below in
    and_from (is_lt (key_cmp key x.key)) (below_all key_cmp key (map entry_of xs)) parts.0
    (below_front key xs ys parts.1)

sorted_front : (xs ys : List Pair) → is_sorted key_cmp (map entry_of (xs ++ ys)) ≡ true →
    is_sorted key_cmp (map entry_of xs) ≡ true
sorted_front [] ys sorted = refl
sorted_front (x ∷ xs) ys sorted =
    let parts = and_parts (below_all key_cmp x.key (map entry_of (xs ++ ys)))
    (is_sorted key_cmp (map entry_of (xs ++ ys))) sorted in
    and_from (below_all key_cmp x.key (map entry_of xs)) (is_sorted key_cmp (map entry_of xs))
    (below_front x.key xs ys parts.0) (sorted_front xs ys parts.1)

-- a test that holds is `true`
pub is_true : (b : Bool) → T b → b ≡ true
is_true true t = refl
is_true false t = absurd t

-- and one that is `true` holds
pub true_is : (b : Bool) → b ≡ true → T b
true_is b is = subst T (sym is) tt

sessions_front : (xs ys : List Pair) → AreSessions (xs ++ ys) → AreSessions xs
sessions_front xs ys are = record {
  each = All-left (λ pair. IsFlow pair.key × (pair.value < 2 ^ 64) × (pair.bytes < 2 ^ 64)) xs ys are.each;
  ordered = true_is (is_sorted key_cmp (map entry_of xs))
      (sorted_front xs ys (is_true (is_sorted key_cmp (map entry_of (xs ++ ys))) are.ordered));
}

-- A report of the grammar is read.

entries_spelled : (h : Head) → IsHead h → (front back : List Entry) → AreEntries h (front ++ back) →
    Spelled (body (record { head = h; entries = front; pairs = [] })) (map (λ e. entry e) back)
    (body (record { head = h; entries = front ++ back; pairs = [] })) (flat_map (entry_line h.seats) back)
entries_spelled h is front [] are =
    (ap (λ (es : List Entry). body (record { head = h; entries = es; pairs = [] })) (sym (append-nil front)), refl)
entries_spelled h is front (e ∷ back) are =
    let regroup : (front ++ e ∷ []) ++ back ≡ front ++ e ∷ back = append_assoc front (e ∷ []) back in
    let later = entries_spelled h is (front ++ e ∷ []) back (subst (AreEntries h) (sym regroup) are) in (
      body (record { head = h; entries = front ++ e ∷ []; pairs = [] }),
      flat_map (entry_line h.seats) back,
      (is, refl, entries_front h (front ++ e ∷ []) back (subst (AreEntries h) (sym regroup) are), refl),
      refl,
      subst (λ (es : List Entry). Spelled (body (record { head = h; entries = front ++ e ∷ []; pairs = [] }))
          (map (λ x. entry x) back) (body (record { head = h; entries = es; pairs = [] }))
          (flat_map (entry_line h.seats) back))
          regroup later,
    )

sessions_spelled : (h : Head) → IsHead h → (es : List Entry) (front back : List Pair) → AreSessions (front ++ back) →
    Spelled (body (record { head = h; entries = es; pairs = front })) (map (λ p. session p) back)
    (body (record { head = h; entries = es; pairs = front ++ back })) (flat_map session_line back)
sessions_spelled h is es front [] are =
    (ap (λ (ps : List Pair). body (record { head = h; entries = es; pairs = ps })) (sym (append-nil front)), refl)
sessions_spelled h is es front (p ∷ back) are =
    let regroup : (front ++ p ∷ []) ++ back ≡ front ++ p ∷ back = append_assoc front (p ∷ []) back in
    let later = sessions_spelled h is es (front ++ p ∷ []) back (subst AreSessions (sym regroup) are) in (
      body (record { head = h; entries = es; pairs = front ++ p ∷ [] }),
      flat_map session_line back,
      (is, sessions_front (front ++ p ∷ []) back (subst AreSessions (sym regroup) are), refl),
      refl,
      subst (λ (ps : List Pair). Spelled (body (record { head = h; entries = es; pairs = front ++ p ∷ [] }))
          (map (λ x. session x) back) (body (record { head = h; entries = es; pairs = ps }))
          (flat_map session_line back))
          regroup later,
    )

-- The tail.

capture_fits : (fault : CaptureFault) → IsFaultTold fault → CaptureFits fault
capture_fits (ShortHeader have) is = omega (arith, is)
capture_fits (Magic bytes) is = (is.0, recursion_from_All (λ byte. byte < 2 ^ 8) bytes is.1)
capture_fits (Version major minor) is = (omega (arith, is.0), omega (arith, is.1))
capture_fits (LinkType found) is = omega (arith, is)
capture_fits (RecordLength offset found) is = (omega (arith, is.0), omega (arith, is.1))
capture_fits NoRead is = absurd is
capture_fits Memory is = absurd is

fault_fits : (fault : AnyFault) → IsAnyFaultTold fault → FaultFits fault
fault_fits (Capture fault) is = capture_fits fault is
fault_fits (ByteOrder offset bytes) is =
    (omega (arith, is.0), (is.1, recursion_from_All (λ byte. byte < 2 ^ 8) bytes is.2))
fault_fits (BlockLength offset found) is = (omega (arith, is.0), omega (arith, is.1))
fault_fits (Trailer offset found) is = (omega (arith, is.0), omega (arith, is.1))
fault_fits (SectionVersion offset major minor) is =
    (omega (arith, is.0), (omega (arith, is.1), omega (arith, is.2)))
fault_fits (Interface offset found) is = (omega (arith, is.0), omega (arith, is.1))
fault_fits (CapturedLength offset found) is = (omega (arith, is.0), omega (arith, is.1))
fault_fits (Interfaces offset) is = omega (arith, is)
fault_fits (Blocks offset) is = omega (arith, is)

pub ending_fits : (e : Ending) → IsEndingTold e → EndingFits e
ending_fits (Done rest) is = omega (arith, is)
ending_fits ReadFault is = tt
ending_fits (Limit limit) is = omega (arith, is)
ending_fits (Fault fault) is = fault_fits fault is

capture_told : (fault : CaptureFault) → CaptureFits fault → IsFaultTold fault
capture_told (ShortHeader have) is = omega (arith, is)
capture_told (Magic bytes) is = (is.0, All-from_recursion (λ byte. byte < 2 ^ 8) bytes is.1)
capture_told (Version major minor) is = (omega (arith, is.0), omega (arith, is.1))
capture_told (LinkType found) is = omega (arith, is)
capture_told (RecordLength offset found) is = (omega (arith, is.0), omega (arith, is.1))
capture_told NoRead is = absurd is
capture_told Memory is = absurd is

fault_told : (fault : AnyFault) → FaultFits fault → IsAnyFaultTold fault
fault_told (Capture fault) is = capture_told fault is
fault_told (ByteOrder offset bytes) is =
    (omega (arith, is.0), is.1.0, All-from_recursion (λ byte. byte < 2 ^ 8) bytes is.1.1)
fault_told (BlockLength offset found) is = (omega (arith, is.0), omega (arith, is.1))
fault_told (Trailer offset found) is = (omega (arith, is.0), omega (arith, is.1))
fault_told (SectionVersion offset major minor) is =
    (omega (arith, is.0), omega (arith, is.1.0), omega (arith, is.1.1))
fault_told (Interface offset found) is = (omega (arith, is.0), omega (arith, is.1))
fault_told (CapturedLength offset found) is = (omega (arith, is.0), omega (arith, is.1))
fault_told (Interfaces offset) is = omega (arith, is)
fault_told (Blocks offset) is = omega (arith, is)

pub ending_told : (e : Ending) → EndingFits e → IsEndingTold e
ending_told (Done rest) is = omega (arith, is)
ending_told ReadFault is = tt
ending_told (Limit limit) is = omega (arith, is)
ending_told (Fault fault) is = fault_told fault is

abbrev leaves_in : Tail → Leaves
leaves_in t = record { leaves = t.leaves; depth = t.depth }

abbrev counts_in : Tail → Counts
counts_in t = record {
  packets = t.packets;
  calls = t.calls;
  passed = t.passed;
  full = t.full;
  pending = t.pending;
  unbegun = t.unbegun;
}

abbrev steps_in : Tail → Steps
steps_in t = record { update = t.update; bound = t.bound; lookup = t.lookup }

pub bound_small : (h : Head) (is : IsHead h) → step_bound (settings_of h is) ≤ 18446744073709551615
bound_small h is =
    small_bound (settings_of h is) is.settings.seats_in_range.1 is.settings.items_in_range.1
    is.settings.depth_in_range.1

tail_spelled : (b : Body) → IsHead b.head → (t : Tail) → IsTail b.head t →
    Spelled (body b)
    (leaves (leaves_in t) ∷ input t.ending ∷ count (counts_in t) ∷ steps (steps_in t) ∷ [])
    (whole (told_of b t)) (tail_lines t)
unfolding tail_lines leaves_line count_line steps_line
tail_spelled b is t fits =
    let bound : t.bound ≡ step_bound (settings_of b.head is) = fits.bound (settings_of b.head is)
    (settings_are b.head is) in
    let small : t.bound ≤ 18446744073709551615 = omega (arith, bound, bound_small b.head is) in (
      left b (leaves_in t),
      input_line t.ending ++ (count_line t ++ steps_line t),
      (is, (omega (arith, fits.leaves), (omega (arith, fits.depth), tt)), refl),
      refl,
      (
        ended b (leaves_in t) t.ending,
        count_line t ++ steps_line t,
        (ending_fits t.ending fits.ending, refl),
        refl,
        (
          counted b (leaves_in t) t.ending (counts_in t),
          steps_line t,
          (
            (
              omega (arith, fits.packets),
              (
                omega (arith, fits.calls),
                (
                  omega (arith, fits.passed),
                  (
                    omega (arith, fits.full),
                    (omega (arith, fits.pending), (omega (arith, fits.unbegun), tt)),
                  ),
                ),
              ),
            ),
            refl,
          ),
          refl,
          (
            whole (told_of b t),
            [],
            ((omega (arith, fits.update), (small, (omega (arith, fits.lookup), tt))), fits.bound, refl),
            sym (append-nil (steps_line t)),
            (refl, refl),
          ),
        ),
      ),
    )

abbrev last_lines : Tail → List Line
last_lines t = leaves (leaves_in t) ∷ input t.ending ∷ count (counts_in t) ∷ steps (steps_in t) ∷ []

abbrev body_lines : Told → List Line
body_lines told = (map (λ e. entry e) told.entries ++ map (λ p. session p) told.pairs) ++ last_lines told.tail

abbrev pub told_lines : Told → List Line
told_lines told = head told.head ∷ body_lines told

pub told_spelled : (told : Told) → IsInGrammar told → Spelled start (told_lines told) (whole told) (told_text told)
unfolding told_text
told_spelled told is =
    let h : Head = told.head in
    let es : List ℕ = flat_map (entry_line told.head.seats) told.entries in
    let ps : List ℕ = flat_map session_line told.pairs in
    let one = entries_spelled told.head is.head [] told.entries is.entries in
    let two = sessions_spelled told.head is.head told.entries [] told.pairs is.sessions in
    let full : Body = record { head = told.head; entries = told.entries; pairs = told.pairs } in
    let three = tail_spelled full is.head told.tail is.tail in
    let both = spells_append Next IsWholeState text_of line_at report_machine
    (map (λ e. entry e) told.entries) (map (λ p. session p) told.pairs)
    (body (begun_with told.head)) (body (record { head = told.head; entries = told.entries; pairs = [] }))
    (body full) es ps one two in
    let all = spells_append Next IsWholeState text_of line_at report_machine
    (map (λ e. entry e) told.entries ++ map (λ p. session p) told.pairs) (last_lines told.tail)
    (body (begun_with told.head)) (body full) (whole told) (es ++ ps) (tail_lines told.tail) both three in (
      body (begun_with told.head),
      es ++ (ps ++ tail_lines told.tail),
      (is.head, refl),
      refl,
      subst (λ (b : List ℕ). Spelled (body (begun_with told.head)) (body_lines told) (whole told) b)
          (append_assoc es ps (tail_lines told.tail)) all,
    )
