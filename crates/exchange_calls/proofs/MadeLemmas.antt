-- What a try makes of a row, with one seat more.
use Rattle.std.proofs.Common.{◌≡◌, ◌≢◌, ℕ, zero, suc, ◌+◌, ◌<◌, ◌≤◌, inl, inr, Bool, true, false, cond, List, [], ◌∷◌, ◌++◌, length, Option, Some, None, refl, sym, ap, ◌∙◌, subst, arith}
use Rattle.std.specs.Prelude.{◌==◌, if◌then◌else◌, All}
use Rattle.std.proofs.lemmas.Bool.{cases_eq, cond-true, cond-false}
use Rattle.std.proofs.lemmas.List.{length-append}
use Rattle.plain_map.specs.declared.calls.Call.{Call}
use Rattle.plain_map.specs.declared.calls.Reply.{Reply}
use Rattle.plain_map.specs.declared.keys.Pair.{Pair}
use Rattle.plain_map.specs.declared.rules.Rules.{Rules}
use Rattle.plain_map.specs.Updates.{IsSmallPair, IsUpdate}
use Rattle.bucket_states.specs.Items.{items_after, reply_in}
use Rattle.bucket_states.proofs.ValueLemmas.{items_small}
use Rattle.exchange_model.specs.Plans.{Plan, more, rules_of}
use Rattle.exchange_model.specs.Codes.{Entry, all_entry_words, entry_words}
use Rattle.exchange_model.specs.Steps.{Change, Found, Keeps, MadeBySeat, NoOp, Try, applied, made, with_all, with_found}
use Rattle.exchange_model.specs.Goes.{found_alone, reply_for}
use Rattle.exchange_calls.specs.Found.{IsMade}
use Rattle.exchange_calls.specs.Marks.{entries_of, mark_words}
use Rattle.exchange_calls.specs.declared.hand.Hand.{Hand}
use Rattle.exchange_calls.specs.declared.marks.Mark.{Mark}
use Rattle.exchange_calls.proofs.ChangeLemmas.{after_few}
use Rattle.exchange_calls.proofs.FindLemmas.{words_differ, words_same}

-- ---- seats one after the other

module _ (rules : Rules) where
  with_both : (c : Change) (seat : ℕ) (front back : List Found) →
      with_all rules c seat (front ++ back) ≡ with_all rules (with_all rules c seat front) (seat + length front) back
  with_both c seat [] back =
      (let e : seat ≡ seat + 0 = omega arith in ap (λ (k : ℕ). with_all rules c k back) e)
  with_both c seat (f ∷ front) back =
      let e : suc seat + length front ≡ seat + suc (length front) = omega arith in
      with_both (with_found rules c seat f) (suc seat) front back
      ∙ ap (λ (k : ℕ). with_all rules (with_all rules (with_found rules c seat f) (suc seat) front) k back) e

  -- one more, from the first seat on
  pub with_one : (c : Change) (found : List Found) (one : Found) →
      with_all rules c 0 (more found one) ≡ with_found rules (with_all rules c 0 found) (length found) one
  with_one c found one =
      let e : 0 + length found ≡ length found = omega arith in
      with_both c 0 found (one ∷ [])
      ∙ ap (λ (k : ℕ). with_found rules (with_all rules c 0 found) k one) e

-- ---- entries

entry_words-append : (es fs : List Entry) → all_entry_words (es ++ fs) ≡ all_entry_words es ++ all_entry_words fs
entry_words-append [] fs = refl
entry_words-append (e ∷ es) fs =
    ap (λ (ws : List ℕ). entry_words e ++ ws) (entry_words-append es fs)

mark_words-append : (ms ns : List Mark) → mark_words (ms ++ ns) ≡ mark_words ms ++ mark_words ns
mark_words-append [] ns = refl
mark_words-append (m ∷ ms) ns = ap (λ (ws : List ℕ). m.word ∷ m.reply ∷ ws) (mark_words-append ms ns)

-- ---- the reply of a seat

reply_other : (seat q : ℕ) (all : List MadeBySeat) (call : Call) (reply : Reply) → q ≢ seat →
    reply_for seat (all ++ (q, (call, reply)) ∷ []) ≡ reply_for seat all
reply_other seat q [] call reply other =
    cond-false (q == seat) (Some reply) None (words_differ q seat other)
reply_other seat q (one ∷ later) call reply other =
    ap (λ (o : Option Reply). if one.0 == seat then Some one.1.1 else o) (reply_other seat q later call reply other)

reply_own : (seat : ℕ) (all : List MadeBySeat) (call : Call) (reply : Reply) → reply_for seat all ≡ None →
    reply_for seat (all ++ (seat, (call, reply)) ∷ []) ≡ Some reply
reply_own seat [] call reply none = cond-true (seat == seat) (Some reply) None (words_same seat seat refl)
reply_own seat (one ∷ later) call reply none =
    by (one.0 == seat) none (λ rest. reply_own seat later call reply rest)
  where
    by : (b : Bool) → cond b (Some one.1.1) (reply_for seat later) ≡ None →
        (reply_for seat later ≡ None → reply_for seat (later ++ (seat, (call, reply)) ∷ []) ≡ Some reply) →
        cond b (Some one.1.1) (reply_for seat (later ++ (seat, (call, reply)) ∷ [])) ≡ Some reply
    by true none rest = cc
    by false none rest = rest none

-- ---- one seat more

module _ (plan : Plan) (seat : ℕ) (attempt : Try) (found : List Found) (hand : Hand) (reply : Option Reply)
    (v : IsMade plan seat attempt found hand reply) where
  made_one : (one : Found) → made plan attempt (more found one)
      ≡ with_found (rules_of plan) (made plan attempt found) (length found) one
  made_one one =
      with_one (rules_of plan) (record { row = record { items = attempt.row.items; entries = [] }; made = [] })
      found one

  more_few : (one : Found) → length hand.next.items ≤ length found + 1
  more_few one = omega (arith, v.few)

  -- nothing of it is here
  pub made_none : IsMade plan seat attempt (more found NoOp) hand reply
  made_none =
      let e = made_one NoOp in
      let long = length-append found (NoOp ∷ []) in
      record {
        items = ap (λ (c : Change). c.row.items) e ∙ v.items;
        entries = ap (λ (c : Change). all_entry_words c.row.entries) e ∙ v.entries;
        many = ap (λ (c : Change). length c.row.entries) e ∙ v.many;
        replied = ap (λ (c : Change). reply_for seat c.made) e ∙ v.replied;
        marks = v.marks;
        spelled = v.spelled;
        small = v.small;
        few_items = v.few_items;
        few = omega (arith, v.few, long);
      }

  -- its entry stays
  pub made_kept : (next : Hand) (mark : Mark) (entry : Entry) → entry_words entry ≡ mark.word ∷ mark.reply ∷ [] →
      next.items.items ≡ hand.items.items → next.marks.items ≡ hand.marks.items →
      next.next.items ≡ hand.next.items ++ mark ∷ [] → IsMade plan seat attempt (more found (Keeps entry)) next reply
  made_kept next mark entry same items marks pushed =
      let e = made_one (Keeps entry) in
      let old = made plan attempt found in
      let long = length-append found (Keeps entry ∷ []) in
      let a = length-append old.row.entries (entry ∷ []) in
      let b = length-append hand.next.items (mark ∷ []) in
      record {
        items = ap (λ (c : Change). c.row.items) e ∙ v.items ∙ sym items;
        entries = ap (λ (c : Change). all_entry_words c.row.entries) e
            ∙ entry_words-append old.row.entries (entry ∷ [])
            ∙ (λ i. v.entries i ++ same i)
            ∙ sym (mark_words-append hand.next.items (mark ∷ [])) ∙ ap mark_words (sym pushed);
        many = ap (λ (c : Change). length c.row.entries) e ∙ omega (arith, a, b, v.many, ap length pushed);
        replied = ap (λ (c : Change). reply_for seat c.made) e ∙ v.replied;
        marks = v.marks ∙ ap entries_of (sym marks);
        spelled = subst (λ (ms : List Mark). all_entry_words (entries_of ms) ≡ mark_words ms) (sym marks) v.spelled;
        small = subst (λ (ps : List Pair). All IsSmallPair ps) (sym items) v.small;
        few_items = omega (arith, v.few_items, ap length items);
        few = omega (arith, v.few, long, b, ap length pushed);
      }

  -- a call of a seat is applied to it, which makes what the try makes of all these
  pub made_by : (all : List Found) (q : ℕ) (next : Hand) (call : Call) (entries : Reply → List Entry)
      (marks : List Mark) (told : Option Reply) →
      made plan attempt all ≡ applied (rules_of plan) (made plan attempt found) q call entries → IsUpdate call →
      all_entry_words (entries (reply_in (rules_of plan) hand.items.items call)) ≡ mark_words marks →
      length (entries (reply_in (rules_of plan) hand.items.items call)) ≡ length marks →
      length hand.next.items + length marks ≤ length all →
      next.items.items ≡ items_after (rules_of plan) hand.items.items call → next.marks.items ≡ hand.marks.items →
      next.next.items ≡ hand.next.items ++ marks →
      reply_for seat ((made plan attempt found).made
      ++ (q, (call, reply_in (rules_of plan) hand.items.items call)) ∷ []) ≡ told →
      IsMade plan seat attempt all next told
  made_by all q next call entries marks told e update words many few items same pushed replied =
      let rules = rules_of plan in
      let old = made plan attempt found in
      let r : reply_in rules old.row.items call ≡ reply_in rules hand.items.items call =
      ap (λ (ps : List Pair). reply_in rules ps call) v.items in
      let a = length-append old.row.entries (entries (reply_in rules hand.items.items call)) in
      let b = length-append hand.next.items marks in
      record {
        items = ap (λ (c : Change). c.row.items) e ∙ ap (λ (ps : List Pair). items_after rules ps call) v.items
            ∙ sym items;
        entries = ap (λ (c : Change). all_entry_words c.row.entries) e
            ∙ ap (λ (x : Reply). all_entry_words (old.row.entries ++ entries x)) r
            ∙ entry_words-append old.row.entries (entries (reply_in rules hand.items.items call))
            ∙ (λ i. v.entries i ++ words i)
            ∙ sym (mark_words-append hand.next.items marks) ∙ ap mark_words (sym pushed);
        many = ap (λ (c : Change). length c.row.entries) e
            ∙ ap (λ (x : Reply). length (old.row.entries ++ entries x)) r
            ∙ omega (arith, a, b, v.many, many, ap length pushed);
        replied = ap (λ (c : Change). reply_for seat c.made) e
            ∙ ap (λ (x : Reply). reply_for seat (old.made ++ (q, (call, x)) ∷ [])) r ∙ replied;
        marks = v.marks ∙ ap entries_of (sym same);
        spelled = subst (λ (ms : List Mark). all_entry_words (entries_of ms) ≡ mark_words ms) (sym same) v.spelled;
        small = subst (λ (ps : List Pair). All IsSmallPair ps) (sym items)
            (items_small rules hand.items.items v.small call update);
        few_items = omega (arith, after_few rules hand.items.items call v.few_items, ap length items);
        few = omega (arith, b, few, ap length pushed);
      }

  -- that of the next seat
  pub made_applied : (next : Hand) (one : Found) (call : Call) (entries : Reply → List Entry) (marks : List Mark)
      (told : Option Reply) →
      with_found (rules_of plan) (made plan attempt found) (length found) one
      ≡ applied (rules_of plan) (made plan attempt found) (length found) call entries → IsUpdate call →
      all_entry_words (entries (reply_in (rules_of plan) hand.items.items call)) ≡ mark_words marks →
      length (entries (reply_in (rules_of plan) hand.items.items call)) ≡ length marks → length marks ≤ 1 →
      next.items.items ≡ items_after (rules_of plan) hand.items.items call → next.marks.items ≡ hand.marks.items →
      next.next.items ≡ hand.next.items ++ marks →
      reply_for seat ((made plan attempt found).made
      ++ (length found, (call, reply_in (rules_of plan) hand.items.items call)) ∷ []) ≡ told →
      IsMade plan seat attempt (more found one) next told
  made_applied next one call entries marks told is update words many few items same pushed replied =
      let long = length-append found (one ∷ []) in
      made_by (more found one) (length found) next call entries marks told (made_one one ∙ is) update words many
      (omega (arith, v.few, long, few)) items same pushed replied

  -- another seat's
  pub replied_other : (call : Call) (r : Reply) → length found ≢ seat →
      reply_for seat ((made plan attempt found).made ++ (length found, (call, r)) ∷ []) ≡ reply
  replied_other call r other =
      reply_other seat (length found) (made plan attempt found).made call r other ∙ v.replied

  -- or the own one
  pub replied_own : (call : Call) (r : Reply) → length found ≡ seat → reply ≡ None →
      reply_for seat ((made plan attempt found).made ++ (length found, (call, r)) ∷ []) ≡ Some r
  replied_own call r same none =
      ap (λ (q : ℕ). reply_for seat ((made plan attempt found).made ++ (q, (call, r)) ∷ [])) same
      ∙ reply_own seat (made plan attempt found).made call r (v.replied ∙ none)

-- ---- no other op is due

module _ (rules : Rules) where
  none_after : (c : Change) (seat : ℕ) (own : Found) (many : ℕ) (found : List Found) → seat < length found →
      with_all rules c 0 (found_alone seat own many found) ≡ with_all rules c 0 found
  none_after c seat own zero found past = refl
  none_after c seat own (suc many) found past =
      let one : Found = if length found == seat then own else NoOp in
      let long = length-append found (one ∷ []) in
      let is : one ≡ NoOp =
      cond-false (length found == seat) own NoOp (words_differ (length found) seat (λ e. omega (arith, e, past))) in
      none_after c seat own many (more found one) (omega (arith, past, long)) ∙ with_one rules c found one
      ∙ ap (with_found rules (with_all rules c 0 found) (length found)) is

  -- the own op is applied, and no other
  pub own_alone : (c : Change) (seat : ℕ) (own : Found) (many : ℕ) (found : List Found) → length found ≤ seat →
      seat < length found + many →
      with_all rules c 0 (found_alone seat own many found) ≡ with_found rules (with_all rules c 0 found) seat own
  own_alone c seat own zero found low high = absurd (omega (arith, low, high))
  own_alone c seat own (suc many) found low high =
      let one : Found = if length found == seat then own else NoOp in
      let long = length-append found (one ∷ []) in
      elim (cases_eq (length found) seat) [
        | inl e ↦
            let is : one ≡ own = cond-true (length found == seat) own NoOp (words_same (length found) seat e) in
            none_after c seat own many (more found one) (omega (arith, long, e)) ∙ with_one rules c found one
            ∙ ap (λ (k : ℕ). with_found rules (with_all rules c 0 found) k one) e
            ∙ ap (with_found rules (with_all rules c 0 found) seat) is
        | inr n ↦
            let is : one ≡ NoOp =
            cond-false (length found == seat) own NoOp (words_differ (length found) seat n) in
            own_alone c seat own many (more found one) (omega (arith, low, long, n)) (omega (arith, high, long))
            ∙ ap (λ (d : Change). with_found rules d seat own)
            (with_one rules c found one ∙ ap (with_found rules (with_all rules c 0 found) (length found)) is)
      ]

-- how many there are
pub alone_many : (seat : ℕ) (own : Found) (many : ℕ) (found : List Found) →
    length (found_alone seat own many found) ≡ many + length found
alone_many seat own zero found = omega arith
alone_many seat own (suc many) found =
    let one : Found = if length found == seat then own else NoOp in
    let rest = alone_many seat own many (more found one) in
    let long = length-append found (one ∷ []) in omega (arith, rest, long)
