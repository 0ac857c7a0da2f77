-- The answered calls of entries, one entry more.
use Rattle.std.proofs.Common.{◌≡◌, inl, inr, ℕ, suc, ◌+◌, ◌-◌, ◌^◌, ◌<◌, ◌≤◌, ◌==◌, Bool, cond, List, [], ◌∷◌, ◌++◌, length, refl, sym, ap, ◌∙◌, append_assoc, append-nil, subst, arith}
use Rattle.std.proofs.Math.ListN.{set, length-set}
use Rattle.std.proofs.lemmas.List.{get_or-set_same, get_or-set_other}
use Rattle.std.specs.Prelude.{slice_index, slice_set}
use Rattle.std.proofs.lemmas.List.Sums.{sum_by_push, count_by-le-length}
use Rattle.std.proofs.lemmas.Bool.{cases_eq, eq-eqb, ne_eqb}
use Rattle.plain_map.specs.declared.records.Record.{Record}
use Rattle.plain_map.specs.declared.calls.Reply.{Reply}
use Rattle.plain_map.specs.declared.records.Seen.{Seen}
use Rattle.report_told.specs.Told.{Entry, call}
use Rattle.report_told.specs.declared.told.Ended.{Ended}
use Rattle.report_told.specs.declared.told.Ended.TheVariants.{Answered}
use Rattle.report_told.specs.declared.told.CallLine.{CallLine}
use Rattle.report_told.specs.Points.{is_answer_of, is_answered_by, answers_of, record_of, record_told, records_behind}
use Rattle.report_reading.specs.declared.answers.Answers.{Answers}
use Rattle.report_reading.specs.Answers.{AreAnswers}

abbrev pub one_if : Bool → ℕ
one_if b = cond b 1 0

pub answers-push : (seat : ℕ) (es : List Entry) (e : Entry) →
    answers_of seat (es ++ e ∷ []) ≡ answers_of seat es + one_if (is_answered_by seat e)
answers-push seat es e = sum_by_push (λ x. one_if (is_answered_by seat x)) es e

pub few_answers : (seat : ℕ) (es : List Entry) → answers_of seat es ≤ length es
few_answers seat es = count_by-le-length (is_answered_by seat) es

pub records-push : (before es : List Entry) (e : Entry) →
    records_behind before (es ++ e ∷ []) ≡ records_behind before es ++ record_told (before ++ es) e
records-push before [] e =
    append-nil (record_told before e) ∙ ap (λ (b : List Entry). record_told b e) (sym (append-nil before))
records-push before (x ∷ es) e =
    ap (λ (rs : List Record). record_told before x ++ rs) (records-push (before ++ x ∷ []) es e)
    ∙ sym (append_assoc (record_told before x) (records_behind (before ++ x ∷ []) es)
    (record_told ((before ++ x ∷ []) ++ es) e))
    ∙ ap (λ (b : List Entry). (record_told before x ++ records_behind (before ++ x ∷ []) es) ++ record_told b e)
    (append_assoc before (x ∷ []) es)

answer_counts : (other : ℕ) (es : List Entry) (told : CallLine) (reply : Reply) (steps : ℕ) (seen : Seen) →
    told.ended ≡ Answered reply steps seen →
    answers_of other (es ++ call told ∷ []) ≡ answers_of other es + one_if (told.seat == other)
answer_counts other es told reply steps seen ends =
    answers-push other es (call told)
    ∙ ap (λ (e : Ended). answers_of other es + one_if (is_answer_of other told e)) ends

own_counts : (counts made : List ℕ) (es : List Entry) (told : CallLine) (reply : Reply) (steps : ℕ) (seen : Seen) →
    length counts ≡ 8 → told.seat < 8 → told.ended ≡ Answered reply steps seen →
    slice_index counts told.seat ≡ answers_of told.seat es →
    made ≡ slice_set counts told.seat (slice_index counts told.seat + 1) →
    slice_index made told.seat ≡ answers_of told.seat (es ++ call told ∷ [])
own_counts counts made es told reply steps seen long seat ends own is =
    let one : one_if (told.seat == told.seat) ≡ 1 = ap one_if (eq-eqb told.seat told.seat refl) in
    let read : slice_index made told.seat ≡ slice_index counts told.seat + 1 =
    ap (λ (c : List ℕ). slice_index c told.seat) is
    ∙ get_or-set_same counts told.seat (slice_index counts told.seat + 1) 0 (omega arith) in
    omega (arith, read, own, answer_counts told.seat es told reply steps seen ends, one)

other_counts : (other : ℕ) (counts made : List ℕ) (es : List Entry) (told : CallLine) (reply : Reply) (steps : ℕ)
    (seen : Seen) →
    (told.seat ≡ other → ⊥) → told.ended ≡ Answered reply steps seen → slice_index counts other ≡ answers_of other es →
    made ≡ slice_set counts told.seat (slice_index counts told.seat + 1) →
    slice_index made other ≡ answers_of other (es ++ call told ∷ [])
other_counts other counts made es told reply steps seen apart ends before is =
    let none : one_if (told.seat == other) ≡ 0 = ap one_if (ne_eqb told.seat other apart) in
    let read : slice_index made other ≡ slice_index counts other =
    ap (λ (c : List ℕ). slice_index c other) is
    ∙ get_or-set_other counts told.seat other (slice_index counts told.seat + 1) 0 (λ same. apart (sym same)) in
    omega (arith, read, before, answer_counts other es told reply steps seen ends, none)

-- an answered call with this number
abbrev pub numbered : CallLine → Reply → (steps : ℕ) → Seen → (number : ℕ) → Record
numbered told reply steps seen number = record {
  seat = told.seat;
  number = number;
  packet = told.packet;
  call = told.call;
  reply = reply;
  steps = steps;
  seen = seen;
  place = 0;
}

-- with one answered call more
pub answers_more : (kept made : Answers) (es : List Entry) (told : CallLine) (reply : Reply) (steps : ℕ) (seen : Seen)
    (number : ℕ) → AreAnswers kept es → told.seat < 8 → length es < 2 ^ 32 - 1 → told.ended ≡ Answered reply steps
    seen →
    made.calls.items ≡ kept.calls.items ++ numbered told reply steps seen number ∷ [] →
    (slice_index kept.counts told.seat < 2 ^ 32 - 1 → number ≡ slice_index kept.counts told.seat + 1) →
    (slice_index kept.counts told.seat < 2 ^ 32 - 1 →
    made.counts ≡ slice_set kept.counts told.seat (slice_index kept.counts told.seat + 1)) →
    AreAnswers made (es ++ call told ∷ [])
answers_more kept made es told reply steps seen number are seat few ends calls numbers counts =
    let own : slice_index kept.counts told.seat ≡ answers_of told.seat es = are.counts told.seat seat in
    let fits : slice_index kept.counts told.seat < 2 ^ 32 - 1 = omega (arith, own, few_answers told.seat es) in
    let next : number ≡ suc (answers_of told.seat es) = omega (arith, numbers fits, own) in
    record {
      calls =
          calls
          ∙ ap (λ (rs : List Record). rs ++ numbered told reply steps seen number ∷ []) are.calls
          ∙ ap (λ (n : ℕ). records_behind [] es ++ numbered told reply steps seen n ∷ []) next
          ∙ ap (λ (e : Ended). records_behind [] es ++ record_of (suc (answers_of told.seat es)) told e) (sym ends)
          ∙ sym (records-push [] es (call told));
      counts = λ other inside. elim (cases_eq told.seat other) [
        | inl same ↦ subst (λ (s : ℕ). slice_index made.counts s ≡ answers_of s (es ++ call told ∷ [])) same
            (own_counts kept.counts made.counts es told reply steps seen are.long seat ends own (counts fits))
        | inr apart ↦ other_counts other kept.counts made.counts es told reply steps seen apart ends
            (are.counts other inside) (counts fits)
      ];
      long = ap length (counts fits) ∙ length-set kept.counts told.seat (slice_index kept.counts told.seat + 1) ∙
          are.long;
    }
