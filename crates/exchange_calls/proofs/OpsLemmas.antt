-- What the other seats announce, one after the other.
use Rattle.std.proofs.Common.{◌≡◌, ◌≢◌, ℕ, ◌+◌, ◌*◌, ◌/◌, ◌%◌, ◌^◌, ◌<◌, inl, inr, Bool, true, false, cond, List, [], ◌∷◌, ◌++◌, length, Option, Some, None, refl, sym, ap, ◌∙◌, subst, arith}
use Rattle.std.specs.Prelude.{◌==◌, ◌&&◌, nat_lt, if◌then◌else◌}
use Rattle.std.proofs.lemmas.Bool.{cases_eq, cond-true, cond-false, lt-ltb}
use Rattle.std.proofs.lemmas.List.{length-append}
use Rattle.bucket_states.proofs.AnswerLemmas.{lt_false}
use Rattle.plain_map.specs.declared.calls.Call.{Call}
use Rattle.plain_map.specs.declared.calls.Reply.{Reply}
use Rattle.word_rows.specs.ReplyWords.{word_of_reply}
use Rattle.exchange_model.specs.Plans.{more, rules_of}
use Rattle.plain_map.specs.declared.rules.Rules.{Rules}
use Rattle.plain_map.specs.Updates.{IsUpdate}
use Rattle.bucket_states.specs.Items.{items_after, reply_in}
use Rattle.exchange_model.specs.Codes.{Entry, SLOT_WORDS, all_entry_words, entry_in, entry_words, number_in}
use Rattle.exchange_model.specs.Words.{OpWord, place}
use Rattle.exchange_model.specs.Steps.{Found, Goes, Keeps, LoadAnnounced, LoadOp, NoOp, StoreRow, Takes, Try, bucket_of_call, entry_of}
use Rattle.exchange_model.specs.Goes.{On, after_announced, after_entry, entry_for, found_so_far, is_here, op_in, ops_or_row, own_op}
use Rattle.exchange_calls.specs.Going.{Going, Reads, goes, goes_by, on, task}
use Rattle.exchange_calls.specs.Going.Task.{Load}
use Rattle.exchange_calls.specs.Desks.{IsOf}
use Rattle.exchange_calls.specs.Found.{HasFound, HasLoadedOp, IsLoadingOp, IsTaking}
use Rattle.exchange_calls.specs.Hands.{making}
use Rattle.exchange_calls.specs.Marks.{entries_of, mark_of, mark_words}
use Rattle.exchange_calls.specs.declared.desk.Desk.{Desk}
use Rattle.exchange_calls.specs.declared.hand.Hand.{Hand}
use Rattle.exchange_calls.specs.declared.marks.Mark.{Mark}
use Rattle.exchange_calls.proofs.FindLemmas.{words_differ, words_same}
use Rattle.exchange_calls.proofs.GoesLemmas.{making_on, plain_goes, step_asks}
use Rattle.exchange_calls.proofs.MadeLemmas.{made_applied, made_kept, made_none, replied_other}
use Rattle.exchange_calls.proofs.PlaceLemmas.{of_same, op_at, rules_same}
use Rattle.exchange_calls.proofs.RunLemmas.{Leads, leads_goes, leads_reads, length-more}

-- ---- an entry by its first word

both_false : (a b : Bool) → a ≡ false → (a && b) ≡ false
both_false a b e = ap (λ (x : Bool). x && b) e

second_false : (a b : Bool) → b ≡ false → (a && b) ≡ false
second_false true b e = e
second_false false b e = refl

test_same : (w q number : ℕ) → q < 64 → ((w % 2 ^ 6 == q) && (w / 2 ^ 6 == number)) ≡ (w == q + number * 2 ^ 6)
test_same w q number low = elim (cases_eq w (q + number * 2 ^ 6)) [
  | inl e ↦
      let a : w % 64 ≡ q = omega (arith, e, low) in
      let b : w / 64 ≡ number = omega (arith, e, low) in
      (λ i. words_same (w % 64) q a i && words_same (w / 64) number b i)
      ∙ sym (words_same w (q + number * 64) e)
  | inr n ↦ elim (cases_eq (w % 64) q) [
    | inl a ↦
        second_false (w % 64 == q) (w / 64 == number)
        (words_differ (w / 64) number (λ b. n (omega (arith, a, b))))
        ∙ sym (words_differ w (q + number * 64) n)
    | inr a ↦
        both_false (w % 64 == q) (w / 64 == number) (words_differ (w % 64) q a)
        ∙ sym (words_differ w (q + number * 64) n)
  ]
]

-- what it tells
abbrev pub entry_by : Option Mark → Option Entry
entry_by None = None
entry_by (Some mark) = Some (entry_in mark.word mark.reply)

pub found_entry : (marks : List Mark) (q number : ℕ) → q < 64 →
    entry_for q number (entries_of marks) ≡ entry_by (mark_of (q + number * 2 ^ 6) marks)
found_entry [] q number low = refl
found_entry (m ∷ ms) q number low =
    ap (λ (b : Bool). if b then Some (entry_in m.word m.reply) else entry_for q number (entries_of ms))
    (test_same m.word q number low)
    ∙ by (found_entry ms q number low) (m.word == q + number * 2 ^ 6)
  where
    by : entry_for q number (entries_of ms) ≡ entry_by (mark_of (q + number * 2 ^ 6) ms) → (b : Bool) →
        cond b (Some (entry_in m.word m.reply)) (entry_for q number (entries_of ms))
        ≡ entry_by (cond b (Some m) (mark_of (q + number * 2 ^ 6) ms))
    by rest true = refl
    by rest false = rest

-- it is spelled as entries are
pub mark_spelled : (marks : List Mark) (word : ℕ) (mark : Mark) →
    all_entry_words (entries_of marks) ≡ mark_words marks → mark_of word marks ≡ Some mark →
    entry_words (entry_in mark.word mark.reply) ≡ mark.word ∷ mark.reply ∷ []
mark_spelled [] word mark all is = cc
mark_spelled (m ∷ ms) word mark all is =
    let rest : all_entry_words (entries_of ms) ≡ mark_words ms = cc in
    by (m.word == word) is (λ later. mark_spelled ms word mark rest later)
  where
    first : entry_words (entry_in m.word m.reply) ≡ m.word ∷ m.reply ∷ []
    first = cc

    by : (b : Bool) → cond b (Some m) (mark_of word ms) ≡ Some mark →
        (mark_of word ms ≡ Some mark → entry_words (entry_in mark.word mark.reply) ≡ mark.word ∷ mark.reply ∷ []) →
        entry_words (entry_in mark.word mark.reply) ≡ mark.word ∷ mark.reply ∷ []
    by true e later =
        let same : m ≡ mark = cc in
        subst (λ (x : Mark). entry_words (entry_in x.word x.reply) ≡ x.word ∷ x.reply ∷ []) same first
    by false e later = later e

-- ---- one op

module _ (f : Going) (call : Call) (attempt : Try) (found : List Found) (announced : ℕ) where
  -- so many words of it are loaded
  abbrev pub op_words : List ℕ → Going
  op_words ws = making f call (if nat_lt (length ws) SLOT_WORDS then On (LoadOp attempt found announced ws)
      else found_so_far f.plan f.seat f.now call attempt (more found (Takes (op_in announced ws))))

  few : (ws : List ℕ) → length ws < SLOT_WORDS → op_words ws ≡ on f (Goes call (LoadOp attempt found announced ws))
  few ws h = ap (making f call) (cond-true (nat_lt (length ws) SLOT_WORDS) (On (LoadOp attempt found announced ws))
      (found_so_far f.plan f.seat f.now call attempt (more found (Takes (op_in announced ws))))
      (lt-ltb (length ws) SLOT_WORDS h))

  op_lead : (start : ℕ) → start ≡ place f.plan (OpWord (length found) 0) → Leads op_words [] start SLOT_WORDS
  op_lead start at = record {
    asked = λ ws h. ap task (few ws h)
        ∙ (let e : place f.plan (OpWord (length found) (length ws)) ≡ start + length ws = omega
        (arith, at) in ap Load e);
    next = λ ws w h.
        let vs : List ℕ = ws ++ w ∷ [] in
        plain_goes f (op_words ws) (goes (op_words ws) w) call (LoadOp attempt found announced ws) w (few ws h) refl
        refl
        ∙ ap (λ (n : ℕ). making f call (if nat_lt n SLOT_WORDS then On (LoadOp attempt found announced vs)
        else found_so_far f.plan f.seat f.now call attempt (more found (Takes (op_in announced vs)))))
        (sym (length-more ws w));
  }

  module _ (stand : f.now.stand ≡ Goes call (LoadOp attempt found announced [])) (desk : Desk) (is : IsOf f desk)
      (seat start : ℕ) (many : length found ≡ seat) (start_is : start ≡ desk.ops + SLOT_WORDS * seat) where
    starts : f ≡ op_words []
    starts = ap (on f) stand ∙ sym (few [] (omega arith))

    at : start ≡ place f.plan (OpWord (length found) 0)
    at = omega (arith, start_is, many, op_at f desk is (length found) 0)

    pub op_reads : Reads f start SLOT_WORDS
    op_reads = leads_reads op_words [] start SLOT_WORDS (op_lead start at) f starts

    pub op_loaded : (now : Going) (ws : List ℕ) → length ws ≡ SLOT_WORDS → now ≡ goes_by f ws →
        now ≡ making f call (found_so_far f.plan f.seat f.now call attempt (more found (Takes (op_in announced ws))))
    op_loaded now ws long goes_is =
        leads_goes op_words [] start SLOT_WORDS (op_lead start at) f now ws starts long goes_is
        ∙ ap (making f call) (cond-false (nat_lt (length ws) SLOT_WORDS) (On (LoadOp attempt found announced ws))
        (found_so_far f.plan f.seat f.now call attempt (more found (Takes (op_in announced ws))))
        (lt_false (length ws) SLOT_WORDS (omega (arith, long))))

-- ---- what the next seat announces

module _ (f now : Going) (call : Call) (attempt : Try) (q : ℕ) (hand : Hand) (reply : Option Reply)
    (h : HasFound f now call attempt q hand reply) (desk : Desk) (is : IsOf now desk) (within : q < desk.sizes.seats)
    (other : q ≢ desk.holder) where
  is_first : IsOf f desk
  is_first = of_same now f desk (sym (ap (λ (g : Going). g.plan) h.goes)) (sym (ap (λ (g : Going). g.seat) h.goes)) is

  not_own : length h.found ≢ f.seat
  not_own e = other (sym h.many ∙ e ∙ is_first.seat)

  other_next : found_so_far f.plan f.seat f.now call attempt h.found ≡ On (LoadAnnounced attempt h.found)
  other_next =
      ap (ops_or_row f.plan attempt)
      (cond-false (length h.found == f.seat) (more h.found (own_op f.now.posted attempt.turn call)) h.found
      (words_differ (length h.found) f.seat not_own))
      ∙ ap On (cond-true (nat_lt (length h.found) f.plan.settings.seats) (LoadAnnounced attempt h.found)
      (StoreRow attempt h.found 0) (lt-ltb (length h.found) f.plan.settings.seats
      (omega (arith, h.many, within, is_first.seats))))

  here : now ≡ on f (Goes call (LoadAnnounced attempt h.found))
  here = h.goes ∙ ap (making f call) other_next

  -- its announcement is loaded
  pub announced_asked : (at : ℕ) → at ≡ 1 + q → task now ≡ Load at
  announced_asked at at_is =
      step_asks f now call (LoadAnnounced attempt h.found) here ∙ ap Load (omega (arith, h.many, at_is))

  more_many : (one : Found) → length (more h.found one) ≡ q + 1
  more_many one = omega (arith, h.many, length-append h.found (one ∷ []))

  module _ (next : Going) (word bucket : ℕ) (step : next ≡ goes now word)
      (bucket_is : bucket ≡ bucket_of_call now.plan call) where
    told : next ≡ making f call (after_announced f.plan f.seat f.now call attempt h.found word)
    told = plain_goes f now next call (LoadAnnounced attempt h.found) word here refl step

    same_bucket : bucket ≡ bucket_of_call f.plan call
    same_bucket = bucket_is ∙ ap (λ (g : Going). bucket_of_call g.plan call) h.goes

    -- whether it is pending, and for this bucket
    abbrev pub is_for : Bool
    is_for = (word / 2 ^ 20 % 2 == 1) && (word % 2 ^ 20 == bucket)

    for_is : is_for ≡ is_here f.plan (bucket_of_call f.plan call) word
    for_is = ap (λ (b : ℕ). (word / 2 ^ 20 % 2 == 1) && (word % 2 ^ 20 == b)) same_bucket

    -- it is not
    pub none_here : is_for ≡ false → HasFound f next call attempt (q + 1) hand reply
    none_here off = record {
      found = more h.found NoOp;
      many = more_many NoOp;
      goes = told ∙ ap (making f call)
          (cond-false (is_here f.plan (bucket_of_call f.plan call) word)
          (after_entry f.plan f.seat f.now call attempt h.found word
          (entry_for (length h.found) (number_in word) attempt.row.entries))
          (found_so_far f.plan f.seat f.now call attempt (more h.found NoOp)) (sym for_is ∙ off));
      is_made = made_none f.plan f.seat attempt h.found hand reply h.is_made;
    }

    module _ (on_ : is_for ≡ true) (low : q < 64) (first : ℕ) (first_is : first ≡ q + number_in word * 2 ^ 6) where
      entry_is : entry_for (length h.found) (number_in word) attempt.row.entries
          ≡ entry_by (mark_of first hand.marks.items)
      entry_is =
          (λ i. entry_for (h.many i) (number_in word) (h.is_made.marks i))
          ∙ found_entry hand.marks.items q (number_in word) low
          ∙ ap (λ (w : ℕ). entry_by (mark_of w hand.marks.items)) (sym first_is)

      pub by_entry_is : next ≡ making f call (after_entry f.plan f.seat f.now call attempt h.found word
          (entry_by (mark_of first hand.marks.items)))
      by_entry_is =
          told ∙ ap (making f call)
          (cond-true (is_here f.plan (bucket_of_call f.plan call) word)
          (after_entry f.plan f.seat f.now call attempt h.found word
          (entry_for (length h.found) (number_in word) attempt.row.entries))
          (found_so_far f.plan f.seat f.now call attempt (more h.found NoOp)) (sym for_is ∙ on_))
          ∙ ap (λ (o : Option Entry). making f call (after_entry f.plan f.seat f.now call attempt h.found word o))
          entry_is

      -- the row has its entry
      pub kept_here : (mark : Mark) → Some mark ≡ mark_of first hand.marks.items → (new : Hand) →
          new.items.items ≡ hand.items.items → new.marks.items ≡ hand.marks.items →
          new.next.items ≡ hand.next.items ++ mark ∷ [] → HasFound f next call attempt (q + 1) new reply
      kept_here mark is_it new items marks pushed =
          let entry : Entry = entry_in mark.word mark.reply in
          record {
            found = more h.found (Keeps entry);
            many = more_many (Keeps entry);
            goes = by_entry_is
                ∙ ap (λ (o : Option Mark). making f call
                (after_entry f.plan f.seat f.now call attempt h.found word (entry_by o))) (sym is_it);
            is_made = made_kept f.plan f.seat attempt h.found hand reply h.is_made new mark entry
                (mark_spelled hand.marks.items first mark h.is_made.spelled (sym is_it)) items marks pushed;
          }

      -- or it is due
      abbrev pub due_here : None ≡ mark_of first hand.marks.items → IsTaking next call q first hand
      due_here none = record {
        first = f;
        attempt = attempt;
        found = h.found;
        announced = word;
        reply = reply;
        many = h.many;
        goes = by_entry_is
            ∙ ap (λ (o : Option Mark). making f call
            (after_entry f.plan f.seat f.now call attempt h.found word (entry_by o))) (sym none);
        word_is = first_is;
        is_made = h.is_made;
      }

-- ---- an op that is due is loaded, and applied

module _ (now : Going) (call : Call) (seat word : ℕ) (hand : Hand) (t : IsTaking now call seat word hand) where
  -- its words are loaded
  abbrev pub loading : IsLoadingOp now call seat
  loading = record {
    attempt = t.attempt;
    found = t.found;
    announced = t.announced;
    many = t.many;
    stand = ap (λ (g : Going). g.now.stand) t.goes;
  }

  module _ (desk : Desk) (is : IsOf now desk) (other : seat ≢ desk.holder) (end : Going) (op : Call) (r : Reply)
      (spelled : ℕ) (new : Hand) (update : IsUpdate op) (loaded : HasLoadedOp now end call seat loading op)
      (r_is : r ≡ reply_in desk.rules hand.items.items op) (spelled_is : spelled ≡ word_of_reply (Some r))
      (items : new.items.items ≡ items_after desk.rules hand.items.items op)
      (marks : new.marks.items ≡ hand.marks.items)
      (pushed : new.next.items ≡ hand.next.items ++ record { word = word; reply = spelled } ∷ []) where
    taken_first : IsOf t.first desk
    taken_first =
        of_same now t.first desk (sym (ap (λ (g : Going). g.plan) t.goes)) (sym (ap (λ (g : Going). g.seat) t.goes)) is

    rules_are : desk.rules ≡ rules_of t.first.plan
    rules_are = rules_same t.first desk taken_first

    taken_other : length t.found ≢ t.first.seat
    taken_other e = other (sym t.many ∙ e ∙ taken_first.seat)

    mark : Mark
    mark = record { word = word; reply = spelled }

    reply_is : r ≡ reply_in (rules_of t.first.plan) hand.items.items op
    reply_is = r_is ∙ ap (λ (rules : Rules). reply_in rules hand.items.items op) rules_are

    pub taken : HasFound t.first end call t.attempt (seat + 1) new t.reply
    taken =
        let one : Found = Takes (record { number = number_in t.announced; call = op }) in
        let q : ℕ = length t.found in
        let first : q + number_in t.announced * 2 ^ 6 ≡ word = omega (arith, t.word_is, t.many) in
        let second : word_of_reply (Some (reply_in (rules_of t.first.plan) hand.items.items op)) ≡ spelled =
        ap (λ (x : Reply). word_of_reply (Some x)) (sym reply_is) ∙ sym spelled_is in
        record {
          found = more t.found one;
          many = omega (arith, t.many, length-append t.found (one ∷ []));
          goes = loaded
              ∙ ap (λ (g : Going). making g call
              (found_so_far g.plan g.seat g.now call t.attempt (more t.found one))) t.goes
              ∙ making_on t.first call (LoadOp t.attempt t.found t.announced [])
              (found_so_far t.first.plan t.first.seat t.first.now call t.attempt (more t.found one));
          is_made = made_applied t.first.plan t.first.seat t.attempt t.found hand t.reply t.is_made new one op
              (entry_of q (number_in t.announced)) (record { word = word; reply = spelled } ∷ []) t.reply refl update
              (λ i. first i ∷ second i ∷ []) refl (omega arith)
              (items ∙ ap (λ (rules : Rules). items_after rules hand.items.items op) rules_are) marks pushed
              (replied_other t.first.plan t.first.seat t.attempt t.found hand t.reply t.is_made op
              (reply_in (rules_of t.first.plan) hand.items.items op) taken_other);
        }
