-- The words that a table opens with: all are 0 but those of the buckets, which name the first rows.
use Rattle.std.proofs.Common.{◌≡◌, ℕ, zero, suc, ◌+◌, ◌*◌, ◌^◌, ◌<◌, ◌≤◌, ◌⊎◌, inl, inr, Bool, true, false, cond, List, [], ◌∷◌, ◌++◌, length, map, get_or, set, replicate, Option, None, refl, sym, ap, ◌∙◌, subst, arith, length-set, lt-ltb, get_or-set_same, get_or-set_other}
use Rattle.std.specs.Prelude.{nat_lt, slice_index_or}
use Rattle.std.specs.List.{range_with_len}
use Rattle.std.proofs.lemmas.Bool.{cases_eq}
use Rattle.std.proofs.lemmas.List.{length-replicate}
use Rattle.plain_map.specs.declared.calls.Reply.{Reply}
use Rattle.word_rows.specs.Blocks.{blocks}
use Rattle.word_rows.specs.BucketWords.{item_place, item_words, seat_place, seat_words}
use Rattle.bucket_states.specs.States.{BucketState, empty_state}
use Rattle.word_rows.specs.ReplyWords.{word_of_reply}
use Rattle.table_model.specs.Setup.{rules_of, seats_of}
use Rattle.table_model.specs.Leaves.{NewLeaf}
use Rattle.table_model.specs.Opening.{empty_leaf, opening_leaves}
use Rattle.lasting_model.specs.Plans.{Plan, ample, buckets_of}
use Rattle.lasting_model.specs.Codes.{row_words, tag}
use Rattle.lasting_model.specs.Words.{Announced, Want, Hold, OpWord, Bucket, RowWord, most_words, place, rows_start, word_count}
use Rattle.lasting_model.specs.Worlds.{bucket_of_row, opening_row, opening_state, opening_store}
use Rattle.lasting_table.specs.Rule.{HasWords}
use Rattle.lasting_table.specs.Tables.{IsOpened}

-- ---- zeros

zero_of : (n i : ℕ) → get_or {A = ℕ} (replicate n 0) i 0 ≡ 0
zero_of zero i = refl
zero_of (suc n) zero = refl
zero_of (suc n) (suc i) = zero_of n i

none_of : (n i : ℕ) → get_or {A = Option Reply} (replicate n None) i None ≡ None
none_of zero i = refl
none_of (suc n) zero = refl
none_of (suc n) (suc i) = none_of n i

abbrev AreZero : List ℕ → Type 0
AreZero [] = Unit {0}
AreZero (x ∷ xs) = (x ≡ 0) × AreZero xs

zero_at : (xs : List ℕ) (i : ℕ) → AreZero xs → get_or xs i 0 ≡ 0
zero_at [] i k = refl
zero_at (x ∷ xs) zero k = k.0
zero_at (x ∷ xs) (suc i) k = zero_at xs i k.1

zero_both : (xs ys : List ℕ) → AreZero xs → AreZero ys → AreZero (xs ++ ys)
zero_both [] ys a b = b
zero_both (x ∷ xs) ys a b = (a.0, zero_both xs ys a.1 b)

zero_blocks : (part : ℕ → List ℕ) (n : ℕ) → ((i : ℕ) → AreZero (part i)) → AreZero (blocks part n)
unfolding blocks
zero_blocks part zero each = tt
zero_blocks part (suc n) each = zero_both (blocks part n) (part n) (zero_blocks part n each) (each n)

-- ---- an empty bucket

record IsBlank (seats : ℕ) (state : BucketState) : Type 0 where
  items : state.items ≡ []
  applied : state.applied ≡ replicate seats 0
  replies : state.replies ≡ replicate seats None

no_blocks : (part : ℕ → List ℕ) → blocks part 0 ≡ []
unfolding blocks
no_blocks part = refl

-- its row has zeros alone
blank_words : (plan : Plan) (state : BucketState) → IsBlank plan.settings.seats state →
    AreZero (row_words (ample plan) 0 state)
blank_words plan state b = (
  refl,
  zero_both (seat_words (seats_of (ample plan)) state.applied state.replies)
      (length state.items ∷ item_words (length state.items) state.items)
      (zero_blocks (seat_place state.applied state.replies) (seats_of (ample plan)) (λ q. (
        ap (λ xs. get_or xs q 0) b.applied ∙ zero_of plan.settings.seats q,
        (
          ap (λ xs. word_of_reply (get_or xs q None)) b.replies ∙ ap word_of_reply (none_of plan.settings.seats q),
          tt,
        ),
      ))) (
        ap (λ xs. length xs) b.items,
        subst AreZero (sym (ap (λ xs. item_words (length xs) xs) b.items ∙ no_blocks (item_place []))) tt,
      ),
)

-- so are all buckets of a table that opens without pairs
empties : (seats depth n i j : ℕ) →
    IsBlank seats (get_or (map (λ leaf. leaf.bucket) (map (empty_leaf seats depth) (range_with_len i n))) j
    (empty_state seats))
empties seats depth zero i j = record { items = refl; applied = refl; replies = refl }
empties seats depth (suc n) i zero = record { items = refl; applied = refl; replies = refl }
empties seats depth (suc n) i (suc j) = empties seats depth n (i + 1) j

all_blank : (plan : Plan) → plan.first ≡ [] → (b : ℕ) → IsBlank plan.settings.seats (opening_state plan b)
unfolding ample opening_leaves
all_blank plan none b =
    subst (λ first. IsBlank plan.settings.seats (get_or (map (λ (leaf : NewLeaf). leaf.bucket)
    (opening_leaves (rules_of (ample plan)) plan.settings.seats plan.settings.start first))
    b (empty_state plan.settings.seats)))
    (sym none) (empties plan.settings.seats plan.settings.start (2 ^ plan.settings.start) 0 b)

-- ---- the words

module _ (plan : Plan) where
  abbrev n : ℕ
  n = plan.settings.seats

  abbrev first : ℕ
  first = 10 * n

  -- so many buckets have their words
  pub record Named (ws : List ℕ) (upto : ℕ) : Type 0 where
    pub long : length ws ≡ word_count plan
    pub few : upto ≤ buckets_of plan.settings
    pub done : (b : ℕ) → b < upto → get_or ws (first + b) 0 ≡ opening_row plan b
    pub rest : (i : ℕ) → (i < first) ⊎ (first + upto ≤ i) → get_or ws i 0 ≡ 0

  pub none_named : Named (replicate (word_count plan) 0) 0
  none_named = record {
    long = length-replicate (word_count plan) 0;
    few = omega arith;
    done = λ b less. absurd (omega (arith, less));
    rest = λ i out. zero_of (word_count plan) i;
  }

  pub inside : (ws : List ℕ) (b : ℕ) → length ws ≡ word_count plan → b < buckets_of plan.settings → first + b <
      length ws
  inside ws b long less = omega (arith, long, less)

  pub one_named : (ws : List ℕ) (b : ℕ) → Named ws b → b < buckets_of plan.settings →
      Named (set ws (first + b) (opening_row plan b)) (b + 1)
  one_named ws b k less = record {
    long = length-set ws (first + b) (opening_row plan b) ∙ k.long;
    few = omega (arith, less);
    done = λ c few. elim (cases_eq c b) [
      | inl e ↦ ap (λ j. get_or (set ws (first + b) (opening_row plan b)) (first + j) 0) e
          ∙ get_or-set_same ws (first + b) (opening_row plan b) 0 (inside ws b k.long less)
          ∙ ap (opening_row plan) (sym e)
      | inr d ↦ get_or-set_other ws (first + b) (first + c) (opening_row plan b) 0
          (λ same. d (let z : c ≡ b = omega (arith, same) in z))
          ∙ k.done c (omega (arith, few, d))
    ];
    rest = λ i out. get_or-set_other ws (first + b) i (opening_row plan b) 0 (λ same. off i out same)
        ∙ k.rest i (wider i out);
  }
    where
      off : (i : ℕ) → (i < first) ⊎ (first + (b + 1) ≤ i) → i ≡ first + b → ⊥
      off i (inl a) same = omega (arith, a, same)
      off i (inr a) same = omega (arith, a, same)

      wider : (i : ℕ) → (i < first) ⊎ (first + (b + 1) ≤ i) → (i < first) ⊎ (first + b ≤ i)
      wider i (inl a) = inl a
      wider i (inr a) = inr (omega (arith, a))

  module _ (none : plan.first ≡ []) (ws : List ℕ) (k : Named ws (buckets_of plan.settings)) where
    row_zero : (row i : ℕ) → (opening_store plan).row row i ≡ 0
    unfolding opening_store
    row_zero row i = go (nat_lt (bucket_of_row plan row) (buckets_of plan.settings))
      where
        go : (c : Bool) →
            cond {A = ℕ} c (slice_index_or (row_words (ample plan) 0 (opening_state plan (bucket_of_row plan row))) i
            0) 0 ≡ 0
        go true = zero_at (row_words (ample plan) 0 (opening_state plan (bucket_of_row plan row))) i
            (blank_words plan (opening_state plan (bucket_of_row plan row)) (all_blank plan none (bucket_of_row plan
            row)))
        go false = refl

    bucket_is : (b : ℕ) → b < buckets_of plan.settings → opening_row plan b ≡ (opening_store plan).bucket b
    unfolding opening_store
    bucket_is b less =
        let plain : opening_row plan b ≡ tag 0 (opening_row plan b) = omega arith in
        plain ∙ sym (ap (λ (c : Bool). cond {A = ℕ} c (tag 0 (opening_row plan b)) 0)
        (lt-ltb b (buckets_of plan.settings) less))

    others_zero : ((q : ℕ) → (opening_store plan).announced q ≡ 0) × ((q : ℕ) → (opening_store plan).want q ≡ 0)
        × ((q : ℕ) → (opening_store plan).hold q ≡ 0) × ((q i : ℕ) → (opening_store plan).op q i ≡ 0)
    unfolding opening_store
    others_zero = ((λ q. refl), (λ q. refl), (λ q. refl), λ q i. refl)

    words_are : HasWords plan ws (opening_store plan)
    words_are (Announced q) at = k.rest q (inl (omega (arith, at))) ∙ sym (others_zero.0 q)
    words_are (Want q) at = k.rest (place plan (Want q)) (inl (omega (arith, at))) ∙ sym (others_zero.1 q)
    words_are (Hold q) at = k.rest (place plan (Hold q)) (inl (omega (arith, at))) ∙ sym (others_zero.2 q)
    words_are (OpWord q i) at =
        k.rest (place plan (OpWord q i)) (inl (omega (arith, at.0, at.1))) ∙ sym (others_zero.3 q i)
    words_are (Bucket b) at =
        let there : place plan (Bucket b) ≡ first + b = omega arith in
        ap (λ p. get_or ws p 0) there ∙ k.done b at ∙ bucket_is b at
    words_are (RowWord row i) at =
        let past : first + buckets_of plan.settings ≤ place plan (RowWord row i) = behind (row * most_words plan) in
        k.rest (place plan (RowWord row i)) (inr past) ∙ sym (row_zero row i)
      where
        behind : (before : ℕ) → first + buckets_of plan.settings ≤ rows_start plan + before + i
        behind before = omega arith

    all_words : IsOpened plan ws
    all_words = record { count = k.long; are = words_are }

  -- THE RESULT
  pub all_named : plan.first ≡ [] → (ws : List ℕ) (upto : ℕ) → buckets_of plan.settings ≤ upto → Named ws upto →
      IsOpened plan ws
  all_named none ws upto past k = all_words none ws
      (subst (Named ws) (let f = k.few in let same : upto ≡ buckets_of plan.settings = omega (arith, past, f) in
      same) k)
