-- The words of a row, stored one after the other.
use Rattle.std.proofs.Common.{◌≡◌, ℕ, zero, suc, ◌+◌, ◌*◌, ◌<◌, ◌≤◌, ◌∙◌, List, [], ◌∷◌, ◌++◌, length, get_or, replicate, refl, sym, ap, arith}
use Rattle.std.proofs.lemmas.Bool.{cond-true, cond-false, lt-ltb}
use Rattle.std.proofs.lemmas.List.{length-append}
use Rattle.std.specs.Prelude.{nat_lt, if◌then◌else◌, slice_index}
use Rattle.bucket_states.proofs.AnswerLemmas.{lt_false}
use Rattle.plain_map.specs.declared.calls.Call.{Call}
use Rattle.plain_map.specs.declared.keys.Pair.{Pair}
use Rattle.word_rows.specs.KeyWords.{words_of_pair}
use Rattle.exchange_model.specs.Codes.{pair_words}
use Rattle.exchange_model.specs.Words.{RowWord, place}
use Rattle.exchange_model.specs.Steps.{Exchange, Found, Goes, Step, StoreRow, Try, new_words, next_row}
use Rattle.exchange_calls.specs.Going.{Going, goes, goes_by, on, task}
use Rattle.exchange_calls.specs.Going.Task.{Store}
use Rattle.exchange_calls.specs.Writes.{Writes}
use Rattle.exchange_calls.specs.Desks.{IsOf}
use Rattle.exchange_calls.specs.Hands.{words_at_hand}
use Rattle.exchange_calls.specs.Marks.{mark_words}
use Rattle.exchange_calls.specs.declared.desk.Desk.{Desk}
use Rattle.exchange_calls.specs.declared.hand.Hand.{Hand}
use Rattle.exchange_calls.specs.declared.marks.Mark.{Mark}
use Rattle.exchange_calls.proofs.GoesLemmas.{plain_goes, stands_here, step_asks}
use Rattle.exchange_calls.proofs.PlaceLemmas.{row_at}
use Rattle.exchange_calls.proofs.RowLemmas.{mark_words-length, pair_words-length}
use Rattle.exchange_calls.proofs.RunLemmas.{stores_go}

-- ---- words by their places

-- a word of an item
pub pair_word : (items : List Pair) (rest : List ℕ) (i j : ℕ) (p : Pair) → i < length items → j < 7 →
    p ≡ get_or items i p → get_or (pair_words items ++ rest) (7 * i + j) 0 ≡ get_or (words_of_pair p) j 0
pair_word [] rest i j p inside low is = absurd (omega arith)
pair_word (q ∷ qs) rest zero j p inside low is =
    let e : 7 * 0 + j ≡ j = omega arith in
    ap (λ (n : ℕ). get_or (pair_words (q ∷ qs) ++ rest) n 0) e
    ∙ first j low
    ∙ ap (λ (x : Pair). get_or (words_of_pair x) j 0) (sym is)
  where
    first : (j : ℕ) → j < 7 → get_or (pair_words (q ∷ qs) ++ rest) j 0 ≡ get_or (words_of_pair q) j 0
    first zero h = refl
    first (suc zero) h = refl
    first (suc (suc zero)) h = refl
    first (suc (suc (suc zero))) h = refl
    first (suc (suc (suc (suc zero)))) h = refl
    first (suc (suc (suc (suc (suc zero))))) h = refl
    first (suc (suc (suc (suc (suc (suc zero)))))) h = refl
    first (suc (suc (suc (suc (suc (suc (suc j))))))) h = absurd (omega (arith, h))
pair_word (q ∷ qs) rest (suc i) j p inside low is =
    let e : 7 * suc i + j ≡ suc (suc (suc (suc (suc (suc (suc (7 * i + j))))))) = omega arith in
    ap (λ (n : ℕ). get_or (pair_words (q ∷ qs) ++ rest) n 0) e ∙ pair_word qs rest i j p (omega (arith, inside)) low is

-- a word of an entry, behind other words
mark_word_at : (marks : List Mark) (i j : ℕ) (m : Mark) → i < length marks → j < 2 → m ≡ get_or marks i m →
    get_or (mark_words marks) (2 * i + j) 0 ≡ get_or (mark_words (m ∷ [])) j 0
mark_word_at [] i j m inside low is = absurd (omega arith)
mark_word_at (q ∷ qs) zero j m inside low is =
    let e : 2 * 0 + j ≡ j = omega arith in
    ap (λ (n : ℕ). get_or (mark_words (q ∷ qs)) n 0) e ∙ first j low
    ∙ ap (λ (x : Mark). get_or (mark_words (x ∷ [])) j 0) (sym is)
  where
    first : (j : ℕ) → j < 2 → get_or (mark_words (q ∷ qs)) j 0 ≡ get_or (mark_words (q ∷ [])) j 0
    first zero h = refl
    first (suc zero) h = refl
    first (suc (suc j)) h = absurd (omega (arith, h))
mark_word_at (q ∷ qs) (suc i) j m inside low is =
    let e : 2 * suc i + j ≡ suc (suc (2 * i + j)) = omega arith in
    ap (λ (n : ℕ). get_or (mark_words (q ∷ qs)) n 0) e ∙ mark_word_at qs i j m (omega (arith, inside)) low is

behind : (front back : List ℕ) (n i : ℕ) → n ≡ length front → get_or (front ++ back) (n + i) 0 ≡ get_or back i 0
behind [] back n i e = (let same : n + i ≡ i = omega (arith, e) in ap (λ (k : ℕ). get_or back k 0) same)
behind (x ∷ xs) back zero i e = absurd (omega (arith, e))
behind (x ∷ xs) back (suc n) i e =
    let same : suc n + i ≡ suc (n + i) = omega arith in
    ap (λ (k : ℕ). get_or (x ∷ (xs ++ back)) k 0) same ∙ behind xs back n i (omega (arith, e))

-- ---- the states

module _ (f : Going) (call : Call) (attempt : Try) (found : List Found) where
  abbrev pub store_step : (stored : ℕ) → Step
  store_step k =
      if nat_lt k (length (new_words f.plan attempt found)) then StoreRow attempt found k else Exchange attempt found

  abbrev pub store_family : (stored : ℕ) → Going
  store_family k = on f (Goes call (store_step k))

  short_store : (k : ℕ) → k < length (new_words f.plan attempt found) → store_step k ≡ StoreRow attempt found k
  short_store k h =
      cond-true (nat_lt k (length (new_words f.plan attempt found))) (StoreRow attempt found k)
      (Exchange attempt found) (lt-ltb _ _ h)

  -- one word more
  store_next : (k : ℕ) → k < length (new_words f.plan attempt found) → goes (store_family k) 0 ≡ store_family (k + 1)
  store_next k h =
      plain_goes f (store_family k) _ call (StoreRow attempt found k) 0
      (ap (λ (s : Step). on f (Goes call s)) (short_store k h)) refl refl

  -- it begins with the first one
  pub store_begins : f.now.stand ≡ Goes call (StoreRow attempt found 0) →
      0 < length (new_words f.plan attempt found) → f ≡ store_family 0
  store_begins stand some =
      stands_here f (Goes call (StoreRow attempt found 0)) stand
      ∙ ap (λ (s : Step). on f (Goes call s)) (sym (short_store 0 some))

  -- then so many
  pub store_goes : (now next : Going) (k n m : ℕ) → now ≡ store_family k →
      k + n ≤ length (new_words f.plan attempt found) → m ≡ k + n → next ≡ goes_by now (replicate n 0) →
      next ≡ store_family m
  store_goes now next k n m here room is step =
      let none : k ≡ k + 0 = omega arith in
      step ∙ ap (λ (g : Going). goes_by g (replicate n 0)) (here ∙ ap store_family none)
      ∙ stores_go (λ j. store_family (k + j)) n
      (λ j h. store_next (k + j) (omega (arith, room, h))
      ∙ (let e : k + j + 1 ≡ k + (j + 1) = omega arith in ap store_family e)) n (omega arith)
      ∙ ap store_family (sym is)

  -- and the exchange
  pub store_ends : (now : Going) (k : ℕ) → now ≡ store_family k → length (new_words f.plan attempt found) ≤ k →
      now ≡ on f (Goes call (Exchange attempt found))
  store_ends now k here all =
      here ∙ ap (λ (s : Step). on f (Goes call s))
      (cond-false (nat_lt k (length (new_words f.plan attempt found))) (StoreRow attempt found k)
      (Exchange attempt found) (lt_false _ _ all))

  module _ (desk : Desk) (is : IsOf f desk) (row first : ℕ) (row_is : row ≡ next_row f.now)
      (first_is : first ≡ desk.first_row + row * desk.row_words) (hand : Hand)
      (words_are : new_words f.plan attempt found ≡ words_at_hand hand) where
    -- where it is stored
    stored_at : (k at : ℕ) → at ≡ first + k → place f.plan (RowWord (next_row f.now) k) ≡ at
    stored_at k at at_is =
        row_at f desk is (next_row f.now) k
        ∙ ap (λ (r : ℕ). desk.first_row + r * desk.row_words + k) (sym row_is) ∙ omega (arith, first_is, at_is)

    -- each of them is asked for
    store_asks : (k at word : ℕ) → k < length (new_words f.plan attempt found) → at ≡ first + k →
        word ≡ slice_index (words_at_hand hand) k → task (store_family k) ≡ Store at word
    store_asks k at word h at_is word_is =
        step_asks f (store_family k) call (StoreRow attempt found k)
        (ap (λ (s : Step). on f (Goes call s)) (short_store k h))
        ∙ (λ i. Store (stored_at k at at_is i)
        ((ap (λ (ws : List ℕ). slice_index ws k) words_are ∙ sym word_is) i))

    -- the head first
    pub head_store_asked : (at word : ℕ) → f.now.stand ≡ Goes call (StoreRow attempt found 0) → at ≡ first →
        word ≡ slice_index (words_at_hand hand) 0 → task f ≡ Store at word
    head_store_asked at word stand at_is word_is =
        let some : 0 < length (new_words f.plan attempt found) = omega (arith, ap length words_are) in
        ap task (store_begins stand some) ∙ store_asks 0 at word some (omega (arith, at_is)) word_is

    -- and then words one after the other
    store_writes : (now : Going) (k at : ℕ) (ws : List ℕ) → now ≡ store_family k →
        k + length ws ≤ length (new_words f.plan attempt found) → at ≡ first + k →
        ((j : ℕ) → j < length ws → slice_index ws j ≡ slice_index (words_at_hand hand) (k + j)) → Writes now at ws
    store_writes now k at ws here room at_is same j h =
        ap task (store_goes now (goes_by now (replicate j 0)) k j (k + j) here (omega (arith, room, h)) refl refl)
        ∙ store_asks (k + j) (at + j) (slice_index ws j) (omega (arith, room, h)) (omega (arith, at_is)) (same j h)

    -- how many there are
    pub store_length : length (new_words f.plan attempt found)
        ≡ 1 + 7 * length hand.items.items + 2 * length hand.next.items
    store_length =
        let a = length-append (pair_words hand.items.items) (mark_words hand.next.items) in
        let b = pair_words-length hand.items.items in
        let c = mark_words-length hand.next.items in
        omega (arith, ap length words_are, a, b, c)

    -- an item
    pub pair_writes : (now : Going) (i at : ℕ) (p : Pair) → now ≡ store_family (1 + 7 * i) →
        i < length hand.items.items → at ≡ first + 1 + 7 * i → p ≡ get_or hand.items.items i p →
        Writes now at (words_of_pair p)
    pair_writes now i at p here inside at_is p_is =
        store_writes now (1 + 7 * i) at (words_of_pair p) here (omega (arith, store_length, inside))
        (omega (arith, at_is))
        (λ j h. sym ((let e : 1 + 7 * i + j ≡ suc (7 * i + j) = omega arith in
        ap (λ (n : ℕ). slice_index (words_at_hand hand) n) e)
        ∙ pair_word hand.items.items (mark_words hand.next.items) i j p inside h p_is))

    -- an entry
    pub mark_writes : (now : Going) (i at : ℕ) (m : Mark) →
        now ≡ store_family (1 + 7 * length hand.items.items + 2 * i) →
        i < length hand.next.items → at ≡ first + 1 + 7 * length hand.items.items + 2 * i →
        m ≡ get_or hand.next.items i m → Writes now at (mark_words (m ∷ []))
    mark_writes now i at m here inside at_is m_is =
        let before : ℕ = 7 * length hand.items.items in
        let long : before ≡ length (pair_words hand.items.items) = sym (pair_words-length hand.items.items) in
        store_writes now (1 + before + 2 * i) at (mark_words (m ∷ [])) here (omega (arith, store_length, inside))
        (omega (arith, at_is))
        (λ j h. sym ((let e : 1 + before + 2 * i + j ≡ suc (before + (2 * i + j)) = omega arith in
        ap (λ (n : ℕ). slice_index (words_at_hand hand) n) e)
        ∙ behind (pair_words hand.items.items) (mark_words hand.next.items) before (2 * i + j) long
        ∙ mark_word_at hand.next.items i j m inside h m_is))
