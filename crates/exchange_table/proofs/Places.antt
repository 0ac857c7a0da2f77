-- Where each word of a table stands: no two stand in one place.
use Rattle.std.proofs.Common.{◌≡◌, ◌≢◌, ℕ, ◌+◌, ◌*◌, ◌/◌, ◌%◌, ◌<◌, ◌≤◌, inl, inr, Bool, true, false, cond, eqb, List, length, get_or, set, refl, sym, ap, ◌∙◌, subst, arith, get_or-set_same, get_or-set_other}
use Rattle.std.specs.Prelude.{◌==◌}
use Rattle.std.proofs.lemmas.Bool.{cases_eq}
use Rattle.std.proofs.lemmas.List.{set-get_or}
use Rattle.std.proofs.lemmas.Nat.{div-mul-add, mod-mul-add}
use Rattle.std.proofs.Math.Nat.{mul-le-mul}
use prog.Atomic.{either}
use Rattle.word_rows.proofs.MemoryLemmas.{put_same, put_other, put_at_same, put_at_row, put_at_place}
use Rattle.exchange_model.specs.Plans.{Plan, rows_of}
use Rattle.exchange_model.specs.Words.{At, Pending, Announced, Want, Hold, OpWord, Bucket, RowWord, IsAt, Store, held_at, with_word, most_words, rows_start, word_count, place}
use Rattle.exchange_model.specs.Steps as S
use Rattle.exchange_model.specs.Worlds.{store_after}
use Rattle.exchange_opening.specs.Openings.{HasWords}

module _ (plan : Plan) where
  abbrev n : ℕ
  n = plan.settings.seats

  -- a row stands behind those before it
  row_below : (most row rows i : ℕ) → row < rows → i < most → row * most + i < rows * most
  row_below most row rows i less few =
      let all : (row + 1) * most ≤ rows * most =
      mul-le-mul (let up : row + 1 ≤ rows = omega (arith, less) in up) (let same : most ≤ most = omega arith in same) in
      let next : (row + 1) * most ≡ row * most + most = next_row most row in
      omega (arith, all, next, few)
    where
      next_row : (m k : ℕ) → (k + 1) * m ≡ k * m + m
      next_row m k = omega arith

  same_row : (most row other i j : ℕ) → i < most → j < most → row * most + i ≡ other * most + j → row ≡ other
  same_row most row other i j few less e =
      sym (div-mul-add row most i few) ∙ ap (λ k. k / most) e ∙ div-mul-add other most j less

  same_word : (most row other i j : ℕ) → i < most → j < most → row * most + i ≡ other * most + j → i ≡ j
  same_word most row other i j few less e =
      sym (mod-mul-add row most i few) ∙ ap (λ k. k % most) e ∙ mod-mul-add other most j less

  rows_at : (row i : ℕ) → place plan (RowWord row i) ≡ rows_start plan + (row * most_words plan + i)
  rows_at row i = behind (rows_start plan) (row * most_words plan) i
    where
      behind : (a b c : ℕ) → a + b + c ≡ a + (b + c)
      behind a b c = omega arith

  -- each is one of the table's
  pub place_small : (at : At) → IsAt plan at → place plan at < word_count plan
  place_small Pending k = omega arith
  place_small (Announced q) k = omega (arith, k)
  place_small (Want q) k = omega (arith, k)
  place_small (Hold q) k = omega (arith, k)
  place_small (OpWord q i) k = omega (arith, k.0, k.1)
  place_small (Bucket b) k = omega (arith, k)
  place_small (RowWord row i) k =
      let below = row_below (most_words plan) row (rows_of plan) i k.0 k.1 in
      omega (arith, rows_at row i, below)

  -- no two are one
  pub place_once : (a b : At) → IsAt plan a → IsAt plan b → place plan a ≡ place plan b → a ≡ b
  place_once Pending Pending j k e = refl
  place_once Pending (Announced q2) j k e = absurd (omega (arith, e))
  place_once Pending (Want q2) j k e = absurd (omega (arith, e))
  place_once Pending (Hold q2) j k e = absurd (omega (arith, e))
  place_once Pending (OpWord q2 i2) j k e = absurd (omega (arith, e))
  place_once Pending (Bucket b2) j k e = absurd (omega (arith, e))
  place_once Pending (RowWord r2 i2) j k e = absurd (omega (arith, e, rows_at r2 i2))
  place_once (Announced q) Pending j k e = absurd (omega (arith, e))
  place_once (Announced q) (Announced q2) j k e = ap Announced (let same : q ≡ q2 = omega (arith, e) in same)
  place_once (Announced q) (Want q2) j k e = absurd (omega (arith, e, j, k))
  place_once (Announced q) (Hold q2) j k e = absurd (omega (arith, e, j, k))
  place_once (Announced q) (OpWord q2 i2) j k e = absurd (omega (arith, e, j, k.0, k.1))
  place_once (Announced q) (Bucket b2) j k e = absurd (omega (arith, e, j, k))
  place_once (Announced q) (RowWord r2 i2) j k e = absurd (omega (arith, e, j, rows_at r2 i2))
  place_once (Want q) Pending j k e = absurd (omega (arith, e))
  place_once (Want q) (Announced q2) j k e = absurd (omega (arith, e, j, k))
  place_once (Want q) (Want q2) j k e = ap Want (let same : q ≡ q2 = omega (arith, e) in same)
  place_once (Want q) (Hold q2) j k e = absurd (omega (arith, e, j, k))
  place_once (Want q) (OpWord q2 i2) j k e = absurd (omega (arith, e, j, k.0, k.1))
  place_once (Want q) (Bucket b2) j k e = absurd (omega (arith, e, j, k))
  place_once (Want q) (RowWord r2 i2) j k e = absurd (omega (arith, e, j, rows_at r2 i2))
  place_once (Hold q) Pending j k e = absurd (omega (arith, e))
  place_once (Hold q) (Announced q2) j k e = absurd (omega (arith, e, j, k))
  place_once (Hold q) (Want q2) j k e = absurd (omega (arith, e, j, k))
  place_once (Hold q) (Hold q2) j k e = ap Hold (let same : q ≡ q2 = omega (arith, e) in same)
  place_once (Hold q) (OpWord q2 i2) j k e = absurd (omega (arith, e, j, k.0, k.1))
  place_once (Hold q) (Bucket b2) j k e = absurd (omega (arith, e, j, k))
  place_once (Hold q) (RowWord r2 i2) j k e = absurd (omega (arith, e, j, rows_at r2 i2))
  place_once (OpWord q i) Pending j k e = absurd (omega (arith, e))
  place_once (OpWord q i) (Announced q2) j k e = absurd (omega (arith, e, j.0, j.1, k))
  place_once (OpWord q i) (Want q2) j k e = absurd (omega (arith, e, j.0, j.1, k))
  place_once (OpWord q i) (Hold q2) j k e = absurd (omega (arith, e, j.0, j.1, k))
  place_once (OpWord q i) (OpWord q2 i2) j k e =
      let seat : q ≡ q2 = omega (arith, e, j.1, k.1) in
      let word : i ≡ i2 = omega (arith, e, j.1, k.1) in
      λ t. OpWord (seat t) (word t)
  place_once (OpWord q i) (Bucket b2) j k e = absurd (omega (arith, e, j.0, j.1, k))
  place_once (OpWord q i) (RowWord r2 i2) j k e = absurd (omega (arith, e, j.0, j.1, rows_at r2 i2))
  place_once (Bucket b) Pending j k e = absurd (omega (arith, e))
  place_once (Bucket b) (Announced q2) j k e = absurd (omega (arith, e, j, k))
  place_once (Bucket b) (Want q2) j k e = absurd (omega (arith, e, j, k))
  place_once (Bucket b) (Hold q2) j k e = absurd (omega (arith, e, j, k))
  place_once (Bucket b) (OpWord q2 i2) j k e = absurd (omega (arith, e, j, k.0, k.1))
  place_once (Bucket b) (Bucket b2) j k e = ap Bucket (let same : b ≡ b2 = omega (arith, e) in same)
  place_once (Bucket b) (RowWord r2 i2) j k e = absurd (omega (arith, e, j, rows_at r2 i2))
  place_once (RowWord r i) Pending j k e = absurd (omega (arith, e, rows_at r i))
  place_once (RowWord r i) (Announced q2) j k e = absurd (omega (arith, e, k, rows_at r i))
  place_once (RowWord r i) (Want q2) j k e = absurd (omega (arith, e, k, rows_at r i))
  place_once (RowWord r i) (Hold q2) j k e = absurd (omega (arith, e, k, rows_at r i))
  place_once (RowWord r i) (OpWord q2 i2) j k e = absurd (omega (arith, e, k.0, k.1, rows_at r i))
  place_once (RowWord r i) (Bucket b2) j k e = absurd (omega (arith, e, k, rows_at r i))
  place_once (RowWord r i) (RowWord r2 i2) j k e =
      let inner : r * most_words plan + i ≡ r2 * most_words plan + i2 = omega (arith, e, rows_at r i, rows_at r2 i2) in
      let row = same_row (most_words plan) r r2 i i2 j.1 k.1 inner in
      let word = same_word (most_words plan) r r2 i i2 j.1 k.1 inner in
      λ t. RowWord (row t) (word t)

-- ---- a store

-- at its own word, and at others
pub held_same : (s : Store) (to : At) (word : ℕ) → held_at (with_word s to word) to ≡ word
held_same s Pending word = refl
held_same s (Announced q) word = put_same s.announced q word
held_same s (Want q) word = put_same s.want q word
held_same s (Hold q) word = put_same s.hold q word
held_same s (OpWord q i) word = put_at_same s.op q i word
held_same s (Bucket b) word = put_same s.bucket b word
held_same s (RowWord r i) word = put_at_same s.row r i word

-- in another row, or at another place of this one
other_at : (f : ℕ → ℕ → ℕ) (r i word k j : ℕ) → ((k ≡ r) → j ≢ i) →
    Rattle.word_rows.specs.Memory.put_at f r i word k j ≡ f k j
other_at f r i word k j n = elim (cases_eq k r) [
  | inl e ↦ ap (λ m. Rattle.word_rows.specs.Memory.put_at f r i word m j) e
      ∙ put_at_place f r i word r j (n e) ∙ ap (λ m. f m j) (sym e)
  | inr d ↦ put_at_row f r i word k j d
]

pub held_other : (s : Store) (to : At) (word : ℕ) (at : At) → at ≢ to → held_at (with_word s to word) at ≡ held_at s at
held_other s Pending word Pending n = absurd (n refl)
held_other s Pending word (Announced q2) n = refl
held_other s Pending word (Want q2) n = refl
held_other s Pending word (Hold q2) n = refl
held_other s Pending word (OpWord q2 i2) n = refl
held_other s Pending word (Bucket b2) n = refl
held_other s Pending word (RowWord r2 i2) n = refl
held_other s (Announced q) word Pending n = refl
held_other s (Announced q) word (Announced q2) n = put_other s.announced q word q2 (λ e. n (ap Announced e))
held_other s (Announced q) word (Want q2) n = refl
held_other s (Announced q) word (Hold q2) n = refl
held_other s (Announced q) word (OpWord q2 i2) n = refl
held_other s (Announced q) word (Bucket b2) n = refl
held_other s (Announced q) word (RowWord r2 i2) n = refl
held_other s (Want q) word Pending n = refl
held_other s (Want q) word (Announced q2) n = refl
held_other s (Want q) word (Want q2) n = put_other s.want q word q2 (λ e. n (ap Want e))
held_other s (Want q) word (Hold q2) n = refl
held_other s (Want q) word (OpWord q2 i2) n = refl
held_other s (Want q) word (Bucket b2) n = refl
held_other s (Want q) word (RowWord r2 i2) n = refl
held_other s (Hold q) word Pending n = refl
held_other s (Hold q) word (Announced q2) n = refl
held_other s (Hold q) word (Want q2) n = refl
held_other s (Hold q) word (Hold q2) n = put_other s.hold q word q2 (λ e. n (ap Hold e))
held_other s (Hold q) word (OpWord q2 i2) n = refl
held_other s (Hold q) word (Bucket b2) n = refl
held_other s (Hold q) word (RowWord r2 i2) n = refl
held_other s (OpWord q i) word Pending n = refl
held_other s (OpWord q i) word (Announced q2) n = refl
held_other s (OpWord q i) word (Want q2) n = refl
held_other s (OpWord q i) word (Hold q2) n = refl
held_other s (OpWord q i) word (OpWord q2 i2) n =
    other_at s.op q i word q2 i2 (λ e f. n (λ t. OpWord (e t) (f t)))
held_other s (OpWord q i) word (Bucket b2) n = refl
held_other s (OpWord q i) word (RowWord r2 i2) n = refl
held_other s (Bucket b) word Pending n = refl
held_other s (Bucket b) word (Announced q2) n = refl
held_other s (Bucket b) word (Want q2) n = refl
held_other s (Bucket b) word (Hold q2) n = refl
held_other s (Bucket b) word (OpWord q2 i2) n = refl
held_other s (Bucket b) word (Bucket b2) n = put_other s.bucket b word b2 (λ e. n (ap Bucket e))
held_other s (Bucket b) word (RowWord r2 i2) n = refl
held_other s (RowWord r i) word Pending n = refl
held_other s (RowWord r i) word (Announced q2) n = refl
held_other s (RowWord r i) word (Want q2) n = refl
held_other s (RowWord r i) word (Hold q2) n = refl
held_other s (RowWord r i) word (OpWord q2 i2) n = refl
held_other s (RowWord r i) word (Bucket b2) n = refl
held_other s (RowWord r i) word (RowWord r2 i2) n =
    other_at s.row r i word r2 i2 (λ e f. n (λ t. RowWord (e t) (f t)))

module _ (plan : Plan) (ws : List ℕ) (s : Store) (has : HasWords plan ws s) (long : length ws ≡ word_count plan) (to
    : At)
    (there : IsAt plan to) where
  abbrev p : ℕ
  p = place plan to

  -- what is found there
  pub found : get_or ws p 0 ≡ held_at s to
  found = has to there

  inside : p < length ws
  inside = (let less = place_small plan to there in omega (arith, less, long))

  -- a load
  pub after_load : HasWords plan (set ws p (get_or ws p 0)) s
  after_load = subst (λ (xs : List ℕ). HasWords plan xs s) (sym (set-get_or ws p 0)) has

  -- a store
  pub after_store : (word : ℕ) → HasWords plan (set ws p word) (with_word s to word)
  after_store word at is_at = elim (cases_eq (place plan at) p) [
    | inl e ↦
        let same : at ≡ to = place_once plan at to is_at there e in
        ap (λ k. get_or (set ws p word) k 0) e ∙ get_or-set_same ws p word 0 inside
        ∙ sym (ap (held_at (with_word s to word)) same ∙ held_same s to word)
    | inr n ↦ get_or-set_other ws p (place plan at) word 0 n ∙ has at is_at
        ∙ sym (held_other s to word at (λ e. n (ap (place plan) e)))
  ]

  -- an exchange
  pub after_swap : (old new : ℕ) →
      HasWords plan (set ws p (either (eqb (get_or ws p 0) old) new (get_or ws p 0))) (store_after (S.Swap to old
      new) s)
  after_swap old new = go (held_at s to == old) (ap (λ k. eqb k old) found)
    where
      go : (b : Bool) → eqb (get_or ws p 0) old ≡ b →
          HasWords plan (set ws p (either (eqb (get_or ws p 0) old) new (get_or ws p 0)))
          (cond b (with_word s to new) s)
      go true e = subst (λ (c : Bool). HasWords plan (set ws p (either c new (get_or ws p 0))) (with_word s to new))
          (sym e)
          (after_store new)
      go false e = subst (λ (c : Bool). HasWords plan (set ws p (either c new (get_or ws p 0))) s) (sym e) after_load
