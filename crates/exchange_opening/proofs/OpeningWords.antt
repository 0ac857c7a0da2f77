-- The words that a table opens with: all are 0 but those of the buckets, which name the first rows.
use Rattle.std.proofs.Common.{◌≡◌, ℕ, zero, suc, ◌+◌, ◌*◌, ◌<◌, ◌≤◌, ◌⊎◌, inl, inr, Bool, cond, List, length, get_or, set, replicate, refl, sym, ap, ◌∙◌, subst, arith, length-set, lt-ltb, get_or-set_same, get_or-set_other}
use Rattle.std.proofs.lemmas.Bool.{cases_eq}
use Rattle.std.proofs.lemmas.List.{length-replicate}
use Rattle.exchange_model.specs.Plans.{Plan, buckets_of}
use Rattle.exchange_model.specs.Codes.{born_word}
use Rattle.exchange_model.specs.Words.{Announced, Bucket, Hold, OpWord, Pending, RowWord, Want, buckets_start, most_words, place, rows_start, word_count}
use Rattle.exchange_model.specs.Worlds.{opening_store}
use Rattle.exchange_opening.specs.Openings.{HasWords, IsOpened}

-- each word of zeros is 0
pub zero_of : (n i : ℕ) → get_or {A = ℕ} (replicate n 0) i 0 ≡ 0
zero_of zero i = refl
zero_of (suc n) zero = refl
zero_of (suc n) (suc i) = zero_of n i

module _ (plan : Plan) where
  -- so many buckets have their words
  pub record Named (ws : List ℕ) (upto : ℕ) : Type 0 where
    pub long : length ws ≡ word_count plan
    pub few : upto ≤ buckets_of plan.settings
    pub done : (b : ℕ) → b < upto → get_or ws (buckets_start plan + b) 0 ≡ born_word plan b
    pub rest : (i : ℕ) → (i < buckets_start plan) ⊎ (buckets_start plan + upto ≤ i) → get_or ws i 0 ≡ 0

  -- none has
  pub none_named : (ws : List ℕ) → ws ≡ replicate (word_count plan) 0 → Named ws 0
  none_named ws zeros = record {
    long = ap (λ (xs : List ℕ). length xs) zeros ∙ length-replicate (word_count plan) 0;
    few = omega arith;
    done = λ b less. absurd (omega (arith, less));
    rest = λ i out. ap (λ (xs : List ℕ). get_or xs i 0) zeros ∙ zero_of (word_count plan) i;
  }

  -- the place of its word is one of the table
  pub inside : (ws : List ℕ) (b : ℕ) → length ws ≡ word_count plan → b < buckets_of plan.settings →
      buckets_start plan + b < length ws
  inside ws b long less = omega (arith, long, less)

  -- one more has
  pub one_named : (ws : List ℕ) (b word : ℕ) → word ≡ born_word plan b → b < buckets_of plan.settings →
      Named ws b → Named (set ws (buckets_start plan + b) word) (b + 1)
  one_named ws b word is less k = record {
    long = length-set ws (buckets_start plan + b) word ∙ k.long;
    few = omega (arith, less);
    done = λ c few. elim (cases_eq c b) [
      | inl e ↦ ap (λ j. get_or (set ws (buckets_start plan + b) word) (buckets_start plan + j) 0) e
          ∙ get_or-set_same ws (buckets_start plan + b) word 0 (inside ws b k.long less) ∙ is
          ∙ ap (born_word plan) (sym e)
      | inr d ↦ get_or-set_other ws (buckets_start plan + b) (buckets_start plan + c) word 0
          (λ same. d (let z : c ≡ b = omega (arith, same) in z))
          ∙ k.done c (omega (arith, few, d))
    ];
    rest = λ i out. get_or-set_other ws (buckets_start plan + b) i word 0 (λ same. off i out same)
        ∙ k.rest i (wider i out);
  }
    where
      off : (i : ℕ) → (i < buckets_start plan) ⊎ (buckets_start plan + (b + 1) ≤ i) → i ≡ buckets_start plan + b → ⊥
      off i (inl a) same = omega (arith, a, same)
      off i (inr a) same = omega (arith, a, same)

      wider : (i : ℕ) → (i < buckets_start plan) ⊎ (buckets_start plan + (b + 1) ≤ i) →
          (i < buckets_start plan) ⊎ (buckets_start plan + b ≤ i)
      wider i (inl a) = inl a
      wider i (inr a) = inr (omega (arith, a))

  module _ (ws : List ℕ) (k : Named ws (buckets_of plan.settings)) where
    words_are : HasWords plan ws (opening_store plan)
    unfolding opening_store
    words_are Pending at = k.rest 0 (inl (omega arith))
    words_are (Announced seat) at = k.rest (place plan (Announced seat)) (inl (omega (arith, at)))
    words_are (Want holder) at = k.rest (place plan (Want holder)) (inl (omega (arith, at)))
    words_are (Hold holder) at = k.rest (place plan (Hold holder)) (inl (omega (arith, at)))
    words_are (OpWord seat i) at = k.rest (place plan (OpWord seat i)) (inl (omega (arith, at.0, at.1)))
    words_are (Bucket b) at = k.done b at ∙ sym (ap (λ (c : Bool). cond {A = ℕ} c (born_word plan b) 0)
        (lt-ltb b (buckets_of plan.settings) at))
    words_are (RowWord row i) at = k.rest (place plan (RowWord row i)) (inr (behind (row * most_words plan)))
      where
        behind : (before : ℕ) → buckets_start plan + buckets_of plan.settings ≤ rows_start plan + before + i
        behind before = omega arith

  -- all have: these are the words of the opening
  pub all_named : (ws : List ℕ) (upto : ℕ) → buckets_of plan.settings ≤ upto → Named ws upto → IsOpened plan ws
  all_named ws upto past k = record { count = k.long; are = words_are ws whole }
    where
      whole : Named ws (buckets_of plan.settings)
      whole = subst (Named ws) (let f = k.few in let same : upto ≡ buckets_of plan.settings = omega (arith, past, f) in
          same) k
