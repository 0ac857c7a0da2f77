-- Rows as words: an op row and a bucket row that are stored are sound.
use Rattle.std.proofs.Common.{◌≡◌, ◌≢◌, ℕ, ◌+◌, ◌^◌, ◌<◌, ◌≤◌, ◌⊎◌, List, length, get_or, inl, inr, refl, sym, ap, ◌∙◌, subst, arith}
use Rattle.std.proofs.lemmas.Bool.{cases_eq}
use Rattle.plain_map.specs.declared.calls.Call.{Call}
use Rattle.word_rows.specs.declared.ops.OpRow.{OpRow}
use Rattle.word_rows.specs.Memory.{put_at}
use Rattle.word_rows.proofs.MemoryLemmas.{put_at_same, put_at_row, put_at_place}
use Rattle.word_rows.proofs.OpLemmas.{op_read}
use Rattle.bucket_states.specs.declared.ops.Op.{Op}
use Rattle.bucket_states.specs.Values.{IsUpdate}
use Rattle.std.specs.Prelude.{Option, Some, None}
use Rattle.plain_map.specs.declared.calls.Reply.{Reply}
use Rattle.plain_map.specs.PlainObject.{InRange}
use Rattle.plain_map.specs.Calls.{key_in}
use Rattle.word_rows.specs.BaseWords.{IsBase}
use Rattle.word_rows.specs.BucketWords.{IsBucket, bucket_of_words}
use Rattle.word_rows.proofs.BucketLemmas.{bucket_read, length-bucket}
use Rattle.bucket_states.specs.States.{BucketState, row_of_state, state_in_row}
use Rattle.bucket_states.specs.Laws.{OnlyAnnounced, SamePrefix, StaysGood, Covers, IsGood, reply_at, HasSeats, applied_of}
use Rattle.bucket_states.specs.Values.{StaysSmall, IsSmall, AreUpdates}
use Rattle.table_model.specs.Setup.{Setup, seats_of, rules_of}
use Rattle.step_counts.specs.declared.rows.SeatRows.{SeatRows}
use Rattle.table_model.specs.Phases.{BucketTry}
use Rattle.table_model.specs.SeatStates.{Flight}
use Rattle.table_model.specs.Goes.{answered_by, answered_with}
use Rattle.table_model.specs.Stores.{bucket_words, made_bucket}
use Rattle.run_invariant.proofs.Invariant.{Common, Local, Keeps, Flies, IsOpRow, op_words_of, IsRow, HasOp, width, made_words, bits}
use Rattle.plain_map.specs.Updates.{number_limit}

-- the row that an update stores says its op
pub op_row_sound : (p number : ℕ) (call : Call) → 1 ≤ number → number < number_limit → IsUpdate call →
    IsOpRow p (op_words_of number call) (record { seat = p; number = number; call = call })
unfolding op_words_of
op_row_sound p number call some few update =
    let read = op_read (record { number = number; call = call })
    (record { numbered = some; few = few; update = update }) in
    record {
      long = read.0;
      spells = (record { numbered = some; few = few; update = update }, refl);
      says = ap (λ (row : OpRow). record { seat = p; number = row.number; call = row.call }) read.1;
      update = update;
      few = few;
    }

-- two tables that change at one place: what holds at that place, and what holds at each other
pub put_at_each : {A : Type 0} {B : Type 0} →
    (f : ℕ → ℕ → A) (g : ℕ → ℕ → B) (r i : ℕ) (x : A) (y : B) (P : A → B → Type 0) (q j : ℕ) →
    ((q ≢ r) ⊎ (j ≢ i) → P (f q j) (g q j)) → (q ≡ r → j ≡ i → P x y) → P (put_at f r i x q j) (put_at g r i y q j)
put_at_each f g r i x y P q j old new = elim (cases_eq q r) [
  | inr n ↦ subst (λ v. P v (put_at g r i y q j)) (sym (put_at_row f r i x q j n))
      (subst (P (f q j)) (sym (put_at_row g r i y q j n)) (old (inl n)))
  | inl e ↦ elim (cases_eq j i) [
    | inr m ↦ subst (λ v. P v (put_at g r i y q j)) (sym (put_at_place f r i x q j m))
        (subst (P (f q j)) (sym (put_at_place g r i y q j m)) (old (inr m)))
    | inl d ↦ subst (λ k. P (put_at f r i x k j) (put_at g r i y k j)) (sym e)
        (subst (λ k. P (put_at f r i x r k) (put_at g r i y r k)) (sym d)
        (subst (λ v. P v (put_at g r i y r i)) (sym (put_at_same f r i x))
        (subst (P x) (sym (put_at_same g r i y)) (new e d))))
  ]
]

-- and three tables that change there
pub put_at_all : {A : Type 0} {B : Type 0} {C : Type 0} →
    (f : ℕ → ℕ → A) (g : ℕ → ℕ → B) (h : ℕ → ℕ → C) (r i : ℕ) (x : A) (y : B) (z : C) (P : A → B → C → Type 0)
    (q j : ℕ) →
    ((q ≢ r) ⊎ (j ≢ i) → P (f q j) (g q j) (h q j)) → (q ≡ r → j ≡ i → P x y z) →
    P (put_at f r i x q j) (put_at g r i y q j) (put_at h r i z q j)
put_at_all f g h r i x y z P q j old new =
    put_at_each f g r i x y (λ a b. P a b (put_at h r i z q j)) q j
    (λ o. put_at_each h h r i z z (λ c _. P (f q j) (g q j) c) q j (λ _. old o)
    (λ e d. absurd (elim o [ inl n ↦ n e | inr n ↦ n d ])))
    (λ e d. put_at_each h h r i z z (λ c _. P x y c) q j (λ o. absurd (elim o [ inl n ↦ n e | inr n ↦ n d ])) new)

-- the settings of a table are in range
pub in_range : (setup : Setup) → InRange (rules_of setup)
in_range setup = record { some_room = omega arith; items = omega arith; depth = omega arith }

-- a good bucket can be spelled
pub is_bucket : (setup : Setup) (base : Option ℕ) (state : BucketState) → IsBase base →
    IsGood (rules_of setup) (seats_of setup) state → IsSmall state →
    IsBucket setup.shape.settings (row_of_state base state)
is_bucket setup base state few good small = record {
  prefix = good.below;
  depth = good.within;
  base = few;
  items = record { fit = good.few; values = small.values };
  seats = record {
    each_number = good.numbers;
    each_reply = good.answers;
    answered = λ seat h. record {
      few = small.numbers seat;
      answer = small.replies seat;
      paired = good.answered seat;
    };
  };
}

-- the row that is stored of a good bucket says that bucket
pub bucket_row_sound : (setup : Setup) (pre deep : ℕ) (base : Option ℕ) (state : BucketState) → IsBase base →
    IsGood (rules_of setup) (seats_of setup) state → IsSmall state → state.prefix ≡ pre → state.depth ≡ deep →
    IsRow setup base pre deep (bucket_words setup base state) state
unfolding width
bucket_row_sound setup pre deep base state few good small p d = record {
  long = length-bucket setup.shape.settings (row_of_state base state);
  spells = (is_bucket setup base state few good small, refl);
  says = ap state_in_row (bucket_read setup.shape.settings (row_of_state base state)
      (is_bucket setup base state few good small));
  count = good.few;
  good = good;
  small = small;
  prefix_is = p;
  depth_is = d;
}

-- the words of a row say its base too
pub row_says : (setup : Setup) (base : Option ℕ) (pre deep : ℕ) (words : List ℕ) (state : BucketState) →
    IsRow setup base pre deep words state →
    bucket_of_words setup.shape.settings words ≡ row_of_state base state
row_says setup base pre deep words state row =
    ap (bucket_of_words setup.shape.settings) row.spells.1
    ∙ bucket_read setup.shape.settings (row_of_state base state) row.spells.0

-- what bucket_states promises
pub record BucketLaws : Type 0 where
  pub same_prefix_after : SamePrefix
  pub stays_good : StaysGood
  pub stays_small : StaysSmall
  pub covers : Covers
  pub only_announced : OnlyAnnounced

-- the row that a bucket try makes
module _ (laws : BucketLaws) (setup : Setup) (attempt : BucketTry) (found : List (Option Op)) (pre deep : ℕ)
    (words : List ℕ) (base : Option ℕ) (was : IsRow setup base pre deep words attempt.state)
    (all : length found ≡ seats_of setup) (updates : AreUpdates found) where
  -- there are as many seats in the bucket as were looked at
  seats : HasSeats attempt.state found
  seats = (omega (arith, was.good.numbers, all), omega (arith, was.good.answers, all))

  -- it is sound
  pub made_sound : attempt.row + 1 < 2 ^ 64 →
      IsRow setup (Some attempt.row) pre deep (made_words setup attempt found) (made_bucket setup attempt found)
  unfolding made_words
  made_sound few =
      let same = laws.same_prefix_after (rules_of setup) found attempt.state in
      bucket_row_sound setup pre deep (Some attempt.row) (made_bucket setup attempt found) few
      (laws.stays_good (rules_of setup) (seats_of setup) found attempt.state (in_range setup) was.good (omega arith))
      (laws.stays_small (rules_of setup) found attempt.state seats updates was.small) (same.0 ∙ was.prefix_is)
      (same.1 ∙ was.depth_is)

  -- an op that was found, and whose key has the prefix, is in it, or it is frozen
  pub made_has : (p : ℕ) (op : Op) → get_or found p None ≡ Some op → bits setup deep (key_in op.call) ≡ pre →
      HasOp (made_bucket setup attempt found) p op
  made_has p op e f = laws.covers (rules_of setup) found attempt.state p op seats e
      (ap (λ d. bits setup d (key_in op.call)) was.depth_is ∙ f ∙ sym was.prefix_is)

  -- no number falls
  pub made_rises : (p : ℕ) → applied_of attempt.state p ≤ applied_of (made_bucket setup attempt found) p
  made_rises p = elim (laws.only_announced (rules_of setup) found attempt.state p seats) [
    | inl u ↦ omega (arith, u.applied)
    | inr t ↦ omega (arith, t.above, t.applied)
  ]

-- where a call is applied in a good bucket, it has its reply there
pub answered : (setup : Setup) (c : Common) (me : ℕ) (used : SeatRows) (flight : Flight) (local : Local)
    (state : BucketState) (row : ℕ) → Flies setup c me used flight.number →
    IsGood (rules_of setup) (seats_of setup) state → flight.number ≤ applied_of state me →
    Keeps setup c me used flight local (answered_by me state row)
answered setup c me used flight local state row f good has = go (reply_at state me) refl
  where
    go : (r : Option Reply) → reply_at state me ≡ r → Keeps setup c me used flight local (answered_with row r)
    go (Some reply) e = f
    go None e = absurd (omega (arith, (good.answered me).1 e, has, f.some))
