-- Finding ops is the same for both kinds of try.
use Rattle.std.proofs.Common.{◌≡◌, ℕ, ◌+◌, ◌-◌, ◌<◌, ◌≤◌, ◌≢◌, true, false, List, [], ◌∷◌, ◌++◌, length, Option, Some, None, refl, sym, ap, ◌∙◌, subst, arith}
use Rattle.std.proofs.lemmas.Bool.{cond-true, cond-false, lt-ltb}
use Rattle.std.proofs.lemmas.Bool.Decides.{nat_tests}
use Rattle.std.specs.Prelude.{nat_lt, if◌then◌else◌, ◌==◌}
use Rattle.step_counts.specs.declared.TheConstants.{OP_WORDS}
use Rattle.word_rows.specs.Places.{place}
use Rattle.word_rows.specs.declared.addresses.Address.TheVariants.{Announcement, OpWord}
use Rattle.bucket_states.specs.declared.ops.Op.{Op}
use Rattle.table_model.specs.declared.events.Ask.TheVariants as Ask
use Rattle.table_model.specs.declared.events.Action.TheVariants.{Load}
use Rattle.table_model.specs.declared.rounds.Round.{Round}
use Rattle.table_model.specs.Setup.{seats_of}
use Rattle.table_model.specs.Phases.{Phase}
use Rattle.table_model.specs.Goes.{more, op_in_words}
use Rattle.table_model.specs.Fits.{Finds, IsOpSoFar, Makes}
use Rattle.seat_calls.specs.Going.{Going, Leads, action, asks, goes, later, on}
use Rattle.seat_calls.specs.Tries.{AnyTry, OfBucket, OfDirectory, after_all_ops, after_ops, announcing, reading}
use Rattle.seat_calls.proofs.RunLemmas.{counted, counted_leads, length-more, plus, Last}
use Rattle.bucket_states.proofs.AnswerLemmas.{lt_false}

-- where an announcement stands, the try goes on to its op row, and else to the next seat
abbrev pub after_word : Going → Round → AnyTry → List (Option Op) → (word : ℕ) → Phase
after_word g round attempt found word =
    if word == 0 then after_ops g.setup round attempt (more found None) else reading round attempt found (word - 1) []

-- the next word is an announcement
module _ (g : Going) (round : Round) (attempt : AnyTry) (found : List (Option Op))
    (at : g.phase ≡ announcing round attempt found) where
  announcement_asks_of : (t : AnyTry) → asks (on g (announcing round t found)) ≡ Ask.Load (Announcement (length found))
  announcement_asks_of (OfBucket t) = refl
  announcement_asks_of (OfDirectory t) = refl

  pub announcement_asks : asks g ≡ Ask.Load (Announcement (length found))
  announcement_asks = ap (λ (p : Phase). asks (on g p)) at ∙ announcement_asks_of attempt

  announcement_goes_of : (t : AnyTry) (word : ℕ) →
      goes (on g (announcing round t found)) word ≡ later g 1 (after_word g round t found word)
  announcement_goes_of (OfBucket t) word = refl
  announcement_goes_of (OfDirectory t) word = refl

  pub announcement_goes : (word : ℕ) → goes g word ≡ later g 1 (after_word g round attempt found word)
  announcement_goes word = ap (λ (p : Phase). goes (on g p) word) at ∙ announcement_goes_of attempt word

-- no op stands there
pub none_announced : (g : Going) (round : Round) (attempt : AnyTry) (found : List (Option Op)) (word : ℕ) → word ≡ 0 →
    after_word g round attempt found word ≡ after_ops g.setup round attempt (more found None)
none_announced g round attempt found word is =
    (let zero : (word == 0) ≡ true = grind (arith, nat_tests) in
    cond-true (word == 0) (after_ops g.setup round attempt (more found None))
    (reading round attempt found (word - 1) []) zero)

-- one does
pub one_announced : (g : Going) (round : Round) (attempt : AnyTry) (found : List (Option Op)) (word : ℕ) → word ≢ 0 →
    after_word g round attempt found word ≡ reading round attempt found (word - 1) []
one_announced g round attempt found word is =
    (let zero : (word == 0) ≡ false = grind (arith, nat_tests) in
    cond-false (word == 0) (after_ops g.setup round attempt (more found None))
    (reading round attempt found (word - 1) []) zero)

-- the next words are those of an op row
module _ (g : Going) (round : Round) (attempt : AnyTry) (found : List (Option Op)) (op : ℕ) where
  -- the phase after the whole op row
  abbrev pub whole_op : List ℕ → Phase
  whole_op words = after_ops g.setup round attempt (more found (Some (op_in_words (length found) words)))

  pub reading_asks : (k : ℕ) (words : List ℕ) →
      asks (later g k (reading round attempt found op words)) ≡ Ask.Load (OpWord op (length words))
  reading_asks k words = by attempt
    where
      by : (t : AnyTry) → asks (later g k (reading round t found op words)) ≡ Ask.Load (OpWord op (length words))
      by (OfBucket t) = refl
      by (OfDirectory t) = refl

  reading_action : (k : ℕ) (words : List ℕ) →
      action (later g k (reading round attempt found op words)) ≡ Load (place g.setup.shape (OpWord op (length words)))
  reading_action k words = by attempt
    where
      by : (t : AnyTry) → action (later g k (reading round t found op words)) ≡ Load
          (place g.setup.shape (OpWord op (length words)))
      by (OfBucket t) = refl
      by (OfDirectory t) = refl

  reading_goes : (words : List ℕ) (word : ℕ) → length words < OP_WORDS →
      goes (later g (length words) (reading round attempt found op words)) word
      ≡ plus g (length words) (if nat_lt (length (words ++ word ∷ [])) OP_WORDS then reading round attempt found op
      (words ++ word ∷ []) else whole_op (words ++ word ∷ []))
  reading_goes words word h =
      by attempt ∙ ap (λ (m : ℕ). plus g (length words)
      (if nat_lt m OP_WORDS then reading round attempt found op (words ++ word ∷ []) else whole_op
      (words ++ word ∷ []))) (sym (length-more words word))
    where
      by : (t : AnyTry) → goes (later g (length words) (reading round t found op words)) word
          ≡ plus g (length words) (if nat_lt (length words + 1) OP_WORDS then reading round t found op
          (words ++ word ∷ []) else after_ops g.setup round t
          (more found (Some (op_in_words (length found) (words ++ word ∷ [])))))
      by (OfBucket t) = refl
      by (OfDirectory t) = refl

  pub op_leads : (start : ℕ) → start ≡ place g.setup.shape (OpWord op 0) →
      Leads (counted g OP_WORDS (reading round attempt found op) whole_op) start OP_WORDS
  op_leads start at =
      counted_leads g OP_WORDS (reading round attempt found op) whole_op start reading_goes
      (λ words h. reading_action (length words) words ∙ ap Load (omega (arith, at)))

  pub op_finds : (words : List ℕ) (word : ℕ) → Finds g.setup (reading round attempt found op words) word →
      IsOpSoFar (more words word)
  op_finds words word finds = by attempt finds
    where
      by : (t : AnyTry) → Finds g.setup (reading round t found op words) word → IsOpSoFar (more words word)
      by (OfBucket t) f = f
      by (OfDirectory t) f = f

  pub op_makes : (words : List ℕ) → length words ≡ OP_WORDS → Last g (reading round attempt found op) words →
      Makes g.setup (whole_op words)
  op_makes words is last =
      let long : length words ≡ length last.front + 1 =
      ap (λ (ws : List ℕ). length ws) last.cut ∙ length-more last.front last.word in
      let all = last.front ++ last.word ∷ [] in
      let few : length last.front < OP_WORDS = omega (arith, long, is) in
      subst (Makes g.setup)
      (ap (λ (h : Going). h.phase) (reading_goes last.front last.word few)
      ∙ cond-false (nat_lt (length all) OP_WORDS) (reading round attempt found op all) (whole_op all)
      (lt_false (length all) OP_WORDS (omega (arith, length-more last.front last.word, long, is)))
      ∙ ap whole_op (sym last.cut)) last.fits.makes

-- the ops of fewer than all seats are found, or of all
module _ (g : Going) (round : Round) (found : List (Option Op)) where
  -- a seat is left
  pub some_left : (attempt : AnyTry) → length found < seats_of g.setup →
      after_ops g.setup round attempt found ≡ announcing round attempt found
  some_left (OfBucket t) h = cond-true (nat_lt (length found) (seats_of g.setup)) _ _ (lt-ltb _ _ h)
  some_left (OfDirectory t) h = cond-true (nat_lt (length found) (seats_of g.setup)) _ _ (lt-ltb _ _ h)

  pub none_left : (attempt : AnyTry) → seats_of g.setup ≤ length found →
      after_ops g.setup round attempt found ≡ after_all_ops g.setup round attempt found
  none_left (OfBucket t) h = cond-false (nat_lt (length found) (seats_of g.setup)) _ _ (lt_false _ _ h)
  none_left (OfDirectory t) h = cond-false (nat_lt (length found) (seats_of g.setup)) _ _ (lt_false _ _ h)
