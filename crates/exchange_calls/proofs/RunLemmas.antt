-- Words that are found one after the other.
use Rattle.std.proofs.Common.{◌≡◌, ℕ, zero, suc, ◌+◌, ◌<◌, ◌≤◌, List, [], ◌∷◌, ◌++◌, length, take, set, replicate, refl, sym, ap, ◌∙◌, arith, append_assoc}
use Rattle.std.proofs.lemmas.List.{append-nil, length-append, replicate-append-replicate}
use Rattle.exchange_calls.specs.Going.{Going, Reads, goes, goes_by, task}
use Rattle.exchange_calls.specs.Going.Task.{Load}

-- after one word more
pub goes_by-more : (g : Going) (words : List ℕ) (word : ℕ) →
    goes_by g (words ++ word ∷ []) ≡ goes (goes_by g words) word
goes_by-more g [] word = refl
goes_by-more g (w ∷ ws) word = goes_by-more (goes g w) ws word

-- one element more is taken, and is the one that was set
pub take_more : {A : Type 0} → (xs : List A) (i j : ℕ) (x : A) → j ≡ suc i → i < length xs →
    take j (set xs i x) ≡ take i xs ++ x ∷ []
take_more [] i j x e h = absurd (omega arith)
take_more {A} (y ∷ ys) zero j x e h = ap (λ (k : ℕ). take k (set (y ∷ ys) 0 x)) e
take_more {A} (y ∷ ys) (suc i) j x e h = ap (λ (k : ℕ). take k (set (y ∷ ys) (suc i) x)) e
    ∙ ap (λ (zs : List A). y ∷ zs) (take_more ys i (suc i) x refl (omega arith))

-- one word more is loaded
pub loaded_more : (first : Going) {now next : Going} (row : List ℕ) (i word : ℕ) → i < length row →
    now ≡ goes_by first (take i row) → next ≡ goes now word →
    next ≡ goes_by first (take (i + 1) (set row i word))
loaded_more first row i word inside was step =
    let so_far : List ℕ = take i row in
    let one = take_more row i (i + 1) word (omega arith) inside in
    step ∙ ap (λ (h : Going). goes h word) was ∙ sym (goes_by-more first so_far word) ∙ ap (goes_by first) (sym one)

-- a list with one word more
pub length-more : (words : List ℕ) (word : ℕ) → length (words ++ word ∷ []) ≡ length words + 1
length-more words word = length-append words (word ∷ [])

-- a family of states, by the words found so far, leads from word to word: from some words on, so many more are loaded,
-- the first of them at this place
pub record Leads (family : List ℕ → Going) (was : List ℕ) (start n : ℕ) : Type 0 where
  pub asked : (words : List ℕ) → length words < n → task (family (was ++ words)) ≡ Load (start + length words)
  pub next : (words : List ℕ) (word : ℕ) → length words < n →
      goes (family (was ++ words)) word ≡ family (was ++ words ++ word ∷ [])

module _ (family : List ℕ → Going) (was : List ℕ) (start n : ℕ) (l : Leads family was start n) where
  -- after these words more
  leads_from : (some words : List ℕ) → length some + length words ≤ n →
      goes_by (family (was ++ some)) words ≡ family (was ++ (some ++ words))
  leads_from some [] h = ap (λ (ws : List ℕ). family (was ++ ws)) (sym (append-nil some))
  leads_from some (w ∷ ws) h =
      let one = length-more some w in
      ap (λ (g : Going). goes_by g ws) (l.next some w (omega (arith, h)))
      ∙ ap (λ (vs : List ℕ). goes_by (family vs) ws) (append_assoc was some (w ∷ []))
      ∙ leads_from (some ++ w ∷ []) ws (omega (arith, h, one))
      ∙ ap (λ (vs : List ℕ). family (was ++ vs)) (append_assoc some (w ∷ []) ws)

  leads_all : (words : List ℕ) → length words ≤ n → goes_by (family was) words ≡ family (was ++ words)
  leads_all words h =
      ap (λ (ws : List ℕ). goes_by (family ws) words) (sym (append-nil was)) ∙ leads_from [] words (omega (arith, h))

  -- they are loaded
  pub leads_goes : (first now : Going) (words : List ℕ) → first ≡ family was → length words ≡ n →
      now ≡ goes_by first words → now ≡ family (was ++ words)
  leads_goes first now words at is goes_is =
      goes_is ∙ ap (λ (g : Going). goes_by g words) at ∙ leads_all words (omega (arith, is))

  -- and each of them is asked for
  pub leads_reads : (first : Going) → first ≡ family was → Reads first start n
  leads_reads first at words h =
      ap (λ (g : Going). task (goes_by g words)) at ∙ ap task (leads_all words (omega (arith, h))) ∙ l.asked words h

-- ---- words that are stored

-- one word more is stored
pub stored_more : (first : Going) {now next : Going} (i : ℕ) → now ≡ goes_by first (replicate i 0) →
    next ≡ goes now 0 → next ≡ goes_by first (replicate (i + 1) 0)
stored_more first i was step =
    step ∙ ap (λ (g : Going). goes g 0) was ∙ sym (goes_by-more first (replicate i 0) 0)
    ∙ ap (goes_by first) (replicate-append-replicate i 1 0)

-- a family of states by how many words are stored
module _ (family : ℕ → Going) (n : ℕ) (next : (k : ℕ) → k < n → goes (family k) 0 ≡ family (k + 1)) where
  -- so it goes
  pub stores_go : (k : ℕ) → k ≤ n → goes_by (family 0) (replicate k 0) ≡ family k
  stores_go zero h = refl
  stores_go (suc k) h =
      let one : suc k ≡ k + 1 = omega arith in
      ap (λ (m : ℕ). goes_by (family 0) (replicate m 0)) one
      ∙ ap (goes_by (family 0)) (sym (replicate-append-replicate k 1 0))
      ∙ goes_by-more (family 0) (replicate k 0) 0
      ∙ ap (λ (g : Going). goes g 0) (stores_go k (omega (arith, h))) ∙ next k (omega (arith, h))
      ∙ ap family (sym one)
