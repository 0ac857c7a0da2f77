-- Which entry may stand behind others, and what is then taken in.
use Rattle.std.proofs.Common.{◌≡◌, inl, inr, ℕ, zero, suc, ◌+◌, ◌^◌, ◌<◌, ◌≤◌, ◌==◌, ◌&&◌, nat_lt, Bool, true, List, [], ◌∷◌, ◌++◌, refl, sym, ap, ◌∙◌, append-nil, subst, arith}
use Rattle.std.proofs.lemmas.List.Elements.{All-push, All-from_recursion}
use Rattle.std.proofs.lemmas.List.Concat.{flat_map-append}
use Rattle.std.proofs.lemmas.Bool.{eqb-true, eq-eqb, ltb-true, lt-ltb, cases_eq, and_parts}
use Rattle.step_counts.specs.declared.settings.Settings.{Settings}
use Rattle.step_counts.specs.declared.rows.SeatRows.{SeatRows}
use Rattle.step_counts.specs.StepCounts.{need_of}
use Rattle.plain_map.specs.declared.calls.Call.{Call}
use Rattle.plain_map.specs.declared.calls.Call.TheVariants.{Insert, Remove, Lookup, Tally, Count, Put}
use Rattle.key_texts.specs.Inserts.{IsOfRule}
use Rattle.plain_map.specs.declared.calls.Reply.{Reply}
use Rattle.plain_map.specs.declared.calls.Reply.TheVariants.{New, Old, NoRoom, Gone, Found, Absent, Sum}
use Rattle.plain_map.specs.declared.full.Full.{Full}
use Rattle.plain_map.specs.declared.records.Seen.{Seen}
use Rattle.report_text.specs.declared.parts.Head.{Head}
use Rattle.report_told.specs.Told.{Entry, call, pending, order}
use Rattle.report_told.specs.Rules.{IsHead, IsAsked, IsEnd, IsEntry, IsReply, IsShort, IsSettingsOf, AreEntries, IsApart, Rise, amount_in, amount_limit, ended_packets, waiting_packets, packet_ended, packet_pending, times, part_of}
use Rattle.report_told.specs.declared.told.Ended.TheVariants.{Answered, Refused}
use Rattle.report_told.specs.declared.told.CallLine.{CallLine}
use Rattle.report_told.specs.declared.told.PendingLine.{PendingLine}
use Rattle.report_told.proofs.TimesLemmas.{times-append, times-other, times-same}
use Rattle.report_lines.proofs.CallFields.{HasWord, most_amount}
use Rattle.report_lines.proofs.CallLines.{AskedFits, EndedFits}
use Rattle.report_lines.proofs.EntryLines.{CallFits, PendingFits, OrderFits, asked_of}
use Rattle.report_lines.proofs.MachineLaws.{settings_of, settings_are, at_last}
use Rattle.report_reading.specs.Packets.{AllBelow, CanEnd, CanWait}

-- the packets of entries, one entry more
pub ended-push : (es : List Entry) (e : Entry) → ended_packets (es ++ e ∷ []) ≡ ended_packets es ++ packet_ended e
ended-push es e =
    flat_map-append packet_ended es (e ∷ []) ∙ ap (λ (xs : List ℕ). ended_packets es ++ xs)
    (append-nil (packet_ended e))

pub waits-push : (es : List Entry) (e : Entry) → waiting_packets (es ++ e ∷ []) ≡ waiting_packets es ++ packet_pending e
waits-push es e =
    flat_map-append packet_pending es (e ∷ [])
    ∙ ap (λ (xs : List ℕ). waiting_packets es ++ xs) (append-nil (packet_pending e))

-- What a last entry asks of those before.

rise_below : (xs : List ℕ) (packet : ℕ) → Rise (xs ++ packet ∷ []) → AllBelow xs packet
rise_below [] packet rise = tt
rise_below (x ∷ []) packet rise = (rise.0, tt)
rise_below (x ∷ y ∷ xs) packet rise =
    let later : AllBelow (y ∷ xs) packet = rise_below (y ∷ xs) packet rise.1 in
    (omega (arith, rise.0, later.0), later)

once-own : (packet : ℕ) → times packet (packet ∷ []) ≡ 1
once-own packet = times-same packet packet [] refl

pub can_end : (h : Head) (es : List Entry) (told : CallLine) → AreEntries h (es ++ call told ∷ []) →
    CanEnd (ended_packets es) (waiting_packets es) told.packet
can_end h es told are =
    let rise : Rise (ended_packets es ++ told.packet ∷ []) = subst Rise (ended-push es (call told)) are.rise in
    let waits : times told.packet (waiting_packets (es ++ call told ∷ [])) ≡ times told.packet (waiting_packets es) =
    ap (times told.packet) (waits-push es (call told) ∙ append-nil (waiting_packets es)) in
    let ends : times told.packet (ended_packets (es ++ call told ∷ [])) ≡ times told.packet (ended_packets es) + times
    told.packet (told.packet ∷ []) =
    ap (times told.packet) (ended-push es (call told)) ∙ times-append told.packet (ended_packets es)
    (told.packet ∷ []) in
    record {
      above = rise_below (ended_packets es) told.packet rise;
      apart = none (times told.packet (waiting_packets es)) refl (are.apart told.packet) waits ends;
    }
  where
    none : (n : ℕ) → times told.packet (waiting_packets es) ≡ n → IsApart (es ++ call told ∷ []) told.packet →
        times told.packet (waiting_packets (es ++ call told ∷ [])) ≡ times told.packet (waiting_packets es) →
        times told.packet (ended_packets (es ++ call told ∷ [])) ≡ times told.packet (ended_packets es) + times
        told.packet (told.packet ∷ []) →
        times told.packet (waiting_packets es) ≡ 0
    none zero is apart waits ends = is
    none (suc n) is apart waits ends =
        let sum : times told.packet (waiting_packets (es ++ call told ∷ [])) + times told.packet
        (ended_packets (es ++ call told ∷ [])) ≡ 1 =
        apart (omega (arith, waits, is)) in
        absurd (omega (arith, sum, waits, ends, is, once-own told.packet))

pub can_wait : (h : Head) (es : List Entry) (told : PendingLine) → AreEntries h (es ++ pending told ∷ []) →
    (h.play ≡ true) × CanWait (ended_packets es) (waiting_packets es) told.packet
can_wait h es told are =
    let own : IsEntry h (pending told) = at_last (IsEntry h) es (pending told) are.each in
    let waits : times told.packet (waiting_packets (es ++ pending told ∷ [])) ≡ times told.packet (waiting_packets es)
    + times told.packet (told.packet ∷ []) =
    ap (times told.packet) (waits-push es (pending told)) ∙ times-append told.packet (waiting_packets es)
    (told.packet ∷ []) in
    let ends : times told.packet (ended_packets (es ++ pending told ∷ [])) ≡ times told.packet (ended_packets es) =
    ap (times told.packet) (ended-push es (pending told) ∙ append-nil (ended_packets es)) in
    let sum : times told.packet (waiting_packets (es ++ pending told ∷ [])) + times told.packet
    (ended_packets (es ++ pending told ∷ [])) ≡ 1 =
    are.apart told.packet (omega (arith, waits, once-own told.packet)) in
    (own.0, omega (arith, sum, waits, ends, once-own told.packet))

-- the last call is one that the rule makes
pub call_by_rule : (h own : Head) (es : List Entry) (told : CallLine) → own ≡ h → AreEntries h (es ++ call told ∷ []) →
    IsOfRule own.calls told.call
call_by_rule h own es told same are =
    subst (λ (x : Head). IsOfRule x.calls told.call) (sym same) (at_last (IsEntry h) es (call told) are.each).0.rule

pub pending_by_rule : (h own : Head) (es : List Entry) (told : PendingLine) → own ≡ h →
    AreEntries h (es ++ pending told ∷ []) → IsOfRule own.calls told.call
pending_by_rule h own es told same are =
    subst (λ (x : Head). IsOfRule x.calls told.call) (sym same) (at_last (IsEntry h) es (pending told) are.each).1.rule

-- the test of a refusal
abbrev pub short_test : SeatRows → Full → Bool
short_test rows full = (full.need == part_of rows full.what) && nat_lt full.left full.need

pub test_short : (h : Head) (is : IsHead h) (rows : SeatRows) (asked : Call) (full : Full) →
    ((s : Settings) → IsSettingsOf h s → rows ≡ need_of s) → IsShort h asked full → short_test rows full ≡ true
test_short h is rows asked full need short =
    let own : rows ≡ need_of (settings_of h is) = need (settings_of h is) (settings_are h is) in
    let same : full.need ≡ part_of rows full.what =
    short.need (settings_of h is) (settings_are h is) ∙ ap (λ (r : SeatRows). part_of r full.what) (sym own) in
    rw (eq-eqb full.need (part_of rows full.what) same, lt-ltb full.left full.need short.short) refl

pub can_be_refused : (h : Head) (is : IsHead h) (rows : SeatRows) (es : List Entry) (told : CallLine) (full : Full) →
    ((s : Settings) → IsSettingsOf h s → rows ≡ need_of s) → told.ended ≡ Refused full →
    AreEntries h (es ++ call told ∷ []) → short_test rows full ≡ true
can_be_refused h is rows es told full need ends are =
    let own : IsEntry h (call told) = at_last (IsEntry h) es (call told) are.each in
    let short : IsShort h told.call full = subst (IsEnd h told.call) ends own.1 in
    test_short h is rows told.call full need short

-- What a line tells is an entry.

reply_is : (told : Reply) → HasWord told → IsReply told
reply_is New fits = tt
reply_is (Old value) fits = omega (arith, fits)
reply_is NoRoom fits = tt
reply_is (Gone value) fits = omega (arith, fits)
reply_is (Found value) fits = omega (arith, fits)
reply_is Absent fits = tt
reply_is (Sum total) fits = omega (arith, fits)

amount_is : (asked : Call) → amount_in asked ≤ most_amount asked → amount_in asked < amount_limit asked
amount_is (Insert key value) fits = omega arith
amount_is (Remove key) fits = omega arith
amount_is (Lookup key) fits = omega arith
amount_is (Tally key amount) fits = omega (arith, fits)
amount_is (Count key value amount) fits = omega (arith, fits)
amount_is (Put key value) fits = omega arith

asked_is : (h : Head) (packet seat : ℕ) (asked : Call) → IsOfRule h.calls asked →
    AskedFits h.seats (asked_of packet seat asked) → IsAsked h packet seat asked
asked_is h packet seat asked rule fits = record {
  packet_fits = omega (arith, fits.packet);
  seat_is = fits.seat;
  flow = fits.verb.flow;
  rule = rule;
  value = fits.verb.value;
  amount = amount_is asked fits.verb.amount;
}

pub answered_entry : (h : Head) (told : CallLine) (reply : Reply) (steps : ℕ) (seen : Seen) →
    IsOfRule h.calls told.call → CallFits h.seats told → told.ended ≡ Answered reply steps seen → IsEntry h (call told)
answered_entry h told reply steps seen rule fits ends =
    let ended : EndedFits h.seats told.call (Answered reply steps seen) =
    subst (EndedFits h.seats told.call) ends fits.ended in (
      asked_is h told.packet told.seat told.call rule fits.asked,
      subst (IsEnd h told.call) (sym ends) (reply_is reply ended.0, omega (arith, ended.1), ended.2.0),
    )

same_need : (s t : Settings) → s.seats ≡ t.seats → s.depth ≡ t.depth → need_of s ≡ need_of t
same_need s t seats depth = rw (seats, depth) refl

pub refused_entry : (h : Head) (rows : SeatRows) (told : CallLine) (full : Full) →
    ((s : Settings) → IsSettingsOf h s → rows ≡ need_of s) → IsOfRule h.calls told.call → CallFits h.seats told →
    told.ended ≡ Refused full → short_test rows full ≡ true → IsEntry h (call told)
refused_entry h rows told full need rule fits ends test =
    let ended : EndedFits h.seats told.call (Refused full) = subst (EndedFits h.seats told.call) ends fits.ended in
    let parts = and_parts (full.need == part_of rows full.what) (nat_lt full.left full.need) test in (
      asked_is h told.packet told.seat told.call rule fits.asked,
      subst (IsEnd h told.call) (sym ends) (record {
        update = ended.update;
        need = λ s of_head.
            eqb-true full.need (part_of rows full.what) parts.0 ∙ ap (λ (r : SeatRows). part_of r full.what)
            (need s of_head);
        short = ltb-true full.left full.need parts.1;
      }),
    )

pub pending_entry : (h : Head) (told : PendingLine) → h.play ≡ true → IsOfRule h.calls told.call →
    PendingFits h.seats told → IsEntry h (pending told)
pending_entry h told play rule fits =
    (play, asked_is h told.packet told.seat told.call rule fits.asked, fits.seen.0)

pub order_entry : (h : Head) (packets : List ℕ) → OrderFits packets → IsEntry h (order packets)
order_entry h packets fits =
    (fits.some, fits.few, All-from_recursion (λ packet. packet < 2 ^ 32) packets fits.small)

-- Entries with one more.

pub call_follows : (h : Head) (es : List Entry) (told : CallLine) → AreEntries h es → IsEntry h (call told) →
    CanEnd (ended_packets es) (waiting_packets es) told.packet → Rise (ended_packets es ++ told.packet ∷ []) →
    AreEntries h (es ++ call told ∷ [])
call_follows h es told are own can rise = record {
  each = All-push (IsEntry h) es (call told) are.each own;
  rise = subst Rise (sym (ended-push es (call told))) rise;
  apart = λ packet some.
      (let waits : times packet (waiting_packets (es ++ call told ∷ [])) ≡ times packet (waiting_packets es) =
      ap (times packet) (waits-push es (call told) ∙ append-nil (waiting_packets es)) in
      let before : times packet (waiting_packets es) + times packet (ended_packets es) ≡ 1 =
      are.apart packet (omega (arith, waits, some)) in
      let other : told.packet ≡ packet → ⊥ = λ same.
      (let none : times packet (waiting_packets es) ≡ 0 = subst (λ (p : ℕ). times p (waiting_packets es) ≡ 0) same
      can.apart in
      omega (arith, none, waits, some)) in
      let ends : times packet (ended_packets (es ++ call told ∷ [])) ≡ times packet (ended_packets es) + times packet
      (told.packet ∷ []) =
      ap (times packet) (ended-push es (call told)) ∙ times-append packet (ended_packets es) (told.packet ∷ []) in
      omega (arith, before, waits, ends, times-other packet told.packet [] other));
}

pub pending_follows : (h : Head) (es : List Entry) (told : PendingLine) → AreEntries h es → IsEntry h (pending told) →
    CanWait (ended_packets es) (waiting_packets es) told.packet → AreEntries h (es ++ pending told ∷ [])
pending_follows h es told are own can = record {
  each = All-push (IsEntry h) es (pending told) are.each own;
  rise = subst Rise (sym (ended-push es (pending told) ∙ append-nil (ended_packets es))) are.rise;
  apart = λ packet some.
      (let waits : times packet (waiting_packets (es ++ pending told ∷ [])) ≡ times packet (waiting_packets es) +
      times packet (told.packet ∷ []) =
      ap (times packet) (waits-push es (pending told)) ∙ times-append packet (waiting_packets es) (told.packet ∷ []) in
      let ends : times packet (ended_packets (es ++ pending told ∷ [])) ≡ times packet (ended_packets es) =
      ap (times packet) (ended-push es (pending told) ∙ append-nil (ended_packets es)) in
      elim (cases_eq told.packet packet) [
        | inl same ↦
            (let none : times packet (waiting_packets es) + times packet (ended_packets es) ≡ 0 =
            subst (λ (p : ℕ). CanWait (ended_packets es) (waiting_packets es) p) same can in
            let own : times packet (told.packet ∷ []) ≡ 1 =
            subst (λ (p : ℕ). times p (told.packet ∷ []) ≡ 1) same (once-own told.packet) in
            omega (arith, waits, ends, none, own))
        | inr other ↦
            (let none : times packet (told.packet ∷ []) ≡ 0 = times-other packet told.packet [] other in
            let before : times packet (waiting_packets es) + times packet (ended_packets es) ≡ 1 =
            are.apart packet (omega (arith, waits, some, none)) in
            omega (arith, waits, ends, none, before))
      ]);
}

pub order_follows : (h : Head) (es : List Entry) (packets : List ℕ) → AreEntries h es → IsEntry h (order packets) →
    AreEntries h (es ++ order packets ∷ [])
order_follows h es packets are own = record {
  each = All-push (IsEntry h) es (order packets) are.each own;
  rise = subst Rise (sym (ended-push es (order packets) ∙ append-nil (ended_packets es))) are.rise;
  apart = λ packet some.
      (let waits : times packet (waiting_packets (es ++ order packets ∷ [])) ≡ times packet (waiting_packets es) =
      ap (times packet) (waits-push es (order packets) ∙ append-nil (waiting_packets es)) in
      let ends : times packet (ended_packets (es ++ order packets ∷ [])) ≡ times packet (ended_packets es) =
      ap (times packet) (ended-push es (order packets) ∙ append-nil (ended_packets es)) in
      omega (arith, waits, ends, are.apart packet (omega (arith, waits, some))));
}
