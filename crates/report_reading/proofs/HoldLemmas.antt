-- What is taken in of a line, and when it is not.
use Rattle.std.proofs.Common.{◌≡◌, ℕ, suc, ◌<◌, Bool, true, false, List, [], ◌∷◌, ◌++◌, Option, Some, None, refl, sym, ap, ◌∙◌, append-nil, subst, arith}
use Rattle.std.specs.Prelude.{MatchBool, flat_map}
use Rattle.std.proofs.lemmas.List.Concat.{flat_map-append}
use Rattle.std.proofs.lemmas.Bool.{true≢false}
use Rattle.plain_map.specs.declared.records.Record.{Record}
use Rattle.plain_map.specs.declared.full.Full.{Full}
use Rattle.report_text.specs.declared.parts.Head.{Head}
use Rattle.report_told.specs.Told.{Entry, call, pending, order}
use Rattle.report_told.specs.Rules.{IsHead, IsEntry, ended_packets, waiting_packets}
use Rattle.report_told.specs.Points.{packets_told, records_behind, record_told, record_of, is_answered_by, is_answer_of, answers_of}
use Rattle.report_told.specs.declared.told.Ended.{Ended}
use Rattle.report_told.specs.declared.told.Ended.TheVariants.{Refused}
use Rattle.report_told.specs.declared.told.CallLine.{CallLine}
use Rattle.report_told.specs.declared.told.PendingLine.{PendingLine}
use Rattle.report_lines.specs.Lines.{call_at, pending_at, order_at, AddsOrder}
use Rattle.report_lines.proofs.EntryLines.{CallFits, PendingFits, OrderFits, call_is_line, pending_is_line, order_is_line}
use Rattle.report_reading.specs.declared.answers.Answers.{Answers}
use Rattle.report_reading.specs.declared.entries.Entries.{Entries}
use Rattle.report_reading.specs.Packets.{ArePackets, CanEnd, CanWait}
use Rattle.report_reading.specs.Answers.{AreAnswers}
use Rattle.report_reading.specs.Entries.{Holds, TakesOrder, unnumbered}
use Rattle.report_reading.proofs.AnswerLemmas.{one_if, answers-push, records-push}
use Rattle.report_reading.proofs.EntryLemmas.{call_follows, pending_follows, order_follows, ended-push, waits-push, order_entry}

-- Tests.

pub of_true : (b : Bool) (P Q : Type 0) → b ≡ true → MatchBool b P Q → P
of_true true P Q is match = match
of_true false P Q is match = absurd (true≢false (sym is))

pub of_false : (b : Bool) (P Q : Type 0) → b ≡ false → MatchBool b P Q → Q
of_false true P Q is match = absurd (true≢false is)
of_false false P Q is match = match

pub match_along : (b : Bool) (P Q R S : Type 0) → (P → R) → (Q → S) → MatchBool b P Q → MatchBool b R S
match_along true P Q R S f g match = f match
match_along false P Q R S f g match = g match

-- What was read.

pub call_fits : (kept : Entries) (h : Head) (es : List Entry) (bytes : List ℕ) (told : CallLine) (rest : List ℕ) →
    Holds kept h es → call_at h.seats bytes ≡ Some (told, rest) → CallFits h.seats told
call_fits kept h es bytes told rest holds read =
    ((call_is_line h.seats holds.in_range.settings.seats_in_range.0 holds.in_range.settings.seats_in_range.1).takes
    bytes told rest read).fits

pub pending_fits : (kept : Entries) (h : Head) (es : List Entry) (bytes : List ℕ) (told : PendingLine) (rest : List ℕ) →
    Holds kept h es → pending_at h.seats bytes ≡ Some (told, rest) → PendingFits h.seats told
pending_fits kept h es bytes told rest holds read =
    ((pending_is_line h.seats holds.in_range.settings.seats_in_range.0 holds.in_range.settings.seats_in_range.1).takes
    bytes told rest read).fits

pub low_seat : (h : Head) → IsHead h → (told : CallLine) → CallFits h.seats told → told.seat < 8
low_seat h is told fits = omega (arith, fits.asked.seat, is.settings.seats_in_range.1)

-- No answered call more.

pub answers_same : (kept : Answers) (es : List Entry) (e : Entry) → AreAnswers kept es → record_told es e ≡ [] →
    ((seat : ℕ) → is_answered_by seat e ≡ false) → AreAnswers kept (es ++ e ∷ [])
answers_same kept es e are none never = record {
  calls =
      are.calls ∙ sym (append-nil (records_behind [] es))
      ∙ ap (λ (rs : List Record). records_behind [] es ++ rs) (sym none) ∙ sym (records-push [] es e);
  counts = λ seat inside.
      (let same : one_if (is_answered_by seat e) ≡ 0 = ap one_if (never seat) in
      omega (arith, are.counts seat inside, answers-push seat es e, same));
  long = are.long;
}

pub refused_same : (kept : Answers) (es : List Entry) (told : CallLine) (full : Full) → told.ended ≡ Refused full →
    AreAnswers kept es → AreAnswers kept (es ++ call told ∷ [])
refused_same kept es told full ends are =
    answers_same kept es (call told) are
    (ap (λ (e : Ended). record_of (suc (answers_of told.seat es)) told e) ends)
    (λ seat. ap (λ (e : Ended). is_answer_of seat told e) ends)

-- One entry more.

more_same : {B : Type 0} (f : Entry → List B) (es : List Entry) (e : Entry) (items made : List B) → f e ≡ [] →
    items ≡ flat_map f es → made ≡ items → made ≡ flat_map f (es ++ e ∷ [])
more_same {B} f es e items made none are same =
    same ∙ are ∙ sym (append-nil (flat_map f es))
    ∙ ap (λ (xs : List B). flat_map f es ++ xs) (sym (append-nil []) ∙ ap (λ (xs : List B). xs ++ []) (sym none))
    ∙ sym (flat_map-append f es (e ∷ []))

more_items : {B : Type 0} (f : Entry → List B) (es : List Entry) (e : Entry) (items made : List B) →
    items ≡ flat_map f es → made ≡ items ++ f e → made ≡ flat_map f (es ++ e ∷ [])
more_items {B} f es e items made are more =
    more ∙ ap (λ (xs : List B). xs ++ f e) are
    ∙ ap (λ (xs : List B). flat_map f es ++ xs) (sym (append-nil (f e)))
    ∙ sym (flat_map-append f es (e ∷ []))

pub call_taken : (kept made : Entries) (h : Head) (es : List Entry) (told : CallLine) → Holds kept h es →
    IsEntry h (call told) → CanEnd (ended_packets es) (waiting_packets es) told.packet →
    ArePackets made.packets (ended_packets es ++ told.packet ∷ []) (waiting_packets es) →
    AreAnswers made.answers (es ++ call told ∷ []) → made.head ≡ kept.head → made.need ≡ kept.need →
    made.pending.items ≡ kept.pending.items → made.order.items ≡ kept.order.items →
    Holds made h (es ++ call told ∷ [])
call_taken kept made h es told holds own can packets answers heads needs pendings orders = record {
  head_is = heads ∙ holds.head_is;
  in_range = holds.in_range;
  need = λ s of_head. needs ∙ holds.need s of_head;
  are = call_follows h es told holds.are own can packets.rise;
  packets =
      subst (λ (ws : List ℕ). ArePackets made.packets (ended_packets (es ++ call told ∷ [])) ws)
      (sym (waits-push es (call told) ∙ append-nil (waiting_packets es)))
      (subst (λ (xs : List ℕ). ArePackets made.packets xs (waiting_packets es)) (sym (ended-push es (call told)))
      packets);
  answers = answers;
  pending = more_same unnumbered es (call told) kept.pending.items made.pending.items refl holds.pending pendings;
  order = more_same packets_told es (call told) kept.order.items made.order.items refl holds.order orders;
}

pub pending_taken : (kept made : Entries) (h : Head) (es : List Entry) (told : PendingLine) → Holds kept h es →
    IsEntry h (pending told) → CanWait (ended_packets es) (waiting_packets es) told.packet →
    ArePackets made.packets (ended_packets es) (waiting_packets es ++ told.packet ∷ []) →
    made.answers ≡ kept.answers → made.head ≡ kept.head → made.need ≡ kept.need →
    made.pending.items ≡ kept.pending.items ++ unnumbered (pending told) → made.order.items ≡ kept.order.items →
    Holds made h (es ++ pending told ∷ [])
pending_taken kept made h es told holds own can packets same heads needs pendings orders = record {
  head_is = heads ∙ holds.head_is;
  in_range = holds.in_range;
  need = λ s of_head. needs ∙ holds.need s of_head;
  are = pending_follows h es told holds.are own can;
  packets =
      subst (λ (xs : List ℕ). ArePackets made.packets xs (waiting_packets (es ++ pending told ∷ [])))
      (sym (ended-push es (pending told) ∙ append-nil (ended_packets es)))
      (subst (λ (ws : List ℕ). ArePackets made.packets (ended_packets es) ws) (sym (waits-push es (pending told)))
      packets);
  answers = subst (λ (a : Answers). AreAnswers a (es ++ pending told ∷ [])) (sym same)
      (answers_same kept.answers es (pending told) holds.answers refl (λ seat. refl));
  pending = more_items unnumbered es (pending told) kept.pending.items made.pending.items holds.pending pendings;
  order = more_same packets_told es (pending told) kept.order.items made.order.items refl holds.order orders;
}

pub order_taken : (kept made : Entries) (h : Head) (es : List Entry) (packets : List ℕ) → Holds kept h es →
    OrderFits packets → made.packets ≡ kept.packets → made.answers ≡ kept.answers → made.head ≡ kept.head →
    made.need ≡ kept.need → made.pending.items ≡ kept.pending.items → made.order.items ≡ kept.order.items ++ packets →
    Holds made h (es ++ order packets ∷ [])
order_taken kept made h es packets holds fits same answers heads needs pendings orders = record {
  head_is = heads ∙ holds.head_is;
  in_range = holds.in_range;
  need = λ s of_head. needs ∙ holds.need s of_head;
  are = order_follows h es packets holds.are (order_entry h packets fits);
  packets =
      subst (λ p. ArePackets p (ended_packets (es ++ order packets ∷ [])) (waiting_packets (es ++ order packets ∷ [])))
      (sym same)
      (subst (λ (xs : List ℕ). ArePackets kept.packets xs (waiting_packets (es ++ order packets ∷ [])))
      (sym (ended-push es (order packets) ∙ append-nil (ended_packets es)))
      (subst (λ (ws : List ℕ). ArePackets kept.packets (ended_packets es) ws)
      (sym (waits-push es (order packets) ∙ append-nil (waiting_packets es))) holds.packets));
  answers = subst (λ (a : Answers). AreAnswers a (es ++ order packets ∷ [])) (sym answers)
      (answers_same kept.answers es (order packets) holds.answers refl (λ seat. refl));
  pending = more_same unnumbered es (order packets) kept.pending.items made.pending.items refl holds.pending pendings;
  order = more_items packets_told es (order packets) kept.order.items made.order.items holds.order orders;
}

-- an order, as its line was read
pub order_taken_at : (kept made : Entries) (h : Head) (es : List Entry) (bytes : List ℕ)
    (read : Option (List ℕ × List ℕ)) (found : Option (List ℕ)) → order_at bytes ≡ read → Holds kept h es →
    made.packets ≡ kept.packets → made.answers ≡ kept.answers → made.head ≡ kept.head →
    made.need ≡ kept.need → made.pending.items ≡ kept.pending.items →
    AddsOrder read kept.order.items made.order.items found → TakesOrder read made h es found
order_taken_at kept made h es bytes (Some (packets, rest)) found is holds same answers heads needs pendings adds = (
  adds.0,
  order_taken kept made h es packets holds ((order_is_line.takes bytes packets rest is).fits) same answers heads needs
      pendings adds.1,
)
order_taken_at kept made h es bytes None found is holds same answers heads needs pendings adds = adds
