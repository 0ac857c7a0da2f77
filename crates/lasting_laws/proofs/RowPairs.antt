-- A row whose words say its bucket has the items of the bucket.
use Rattle.std.proofs.Common.{◌≡◌, ℕ, zero, suc, ◌+◌, ◌*◌, ◌<◌, false, List, ◌∷◌, length, map, get_or, refl, sym, ap, ◌∙◌, subst, arith}
use Rattle.std.specs.List.{range_with_len}
use Rattle.std.proofs.lemmas.List.{get_or-drop, get_or-take}
use Rattle.step_counts.specs.declared.TheConstants.{ITEM_WORDS, SEAT_WORDS}
use Rattle.bucket_states.specs.States.{BucketState}
use Rattle.word_rows.specs.Blocks.{block}
use Rattle.word_rows.specs.KeyWords.{pair_of_words}
use Rattle.word_rows.specs.BucketWords.{AreItems, AreAnswered, item_words}
use Rattle.word_rows.proofs.BlockLemmas.{get_or-block}
use Rattle.table_model.specs.Setup.{Setup, settings_of, seats_of}
use Rattle.lasting_model.specs.Codes.{state_words, count_in, count_place, items_start, pair_at, pairs_of_row}
use Rattle.lasting_laws.proofs.Spelled.{count_is, cut, state_is_long, rest, items_are}

-- the same function on a range
same_range : {A : Type 0} (f g : ℕ → A) (a n : ℕ) → ((i : ℕ) → i < n → f (a + i) ≡ g (a + i)) →
    map f (range_with_len a n) ≡ map g (range_with_len a n)
same_range f g a zero same = refl
same_range {A} f g a (suc n) same =
    let first : f a ≡ g a =
    (let here : a + 0 ≡ a = omega arith in
    subst (λ k. f k ≡ g k) here (same 0 (omega arith))) in
    (λ i. first i ∷ same_range f g (a + 1) n (λ k less.
    (let next : a + (k + 1) ≡ a + 1 + k = omega arith in
    subst (λ j. f j ≡ g j) next (same (k + 1) (omega (arith, less))))) i)

module _ (setup : Setup) (bucket : ℕ) (state : BucketState) (prefix : state.prefix ≡ bucket)
    (depth : state.depth ≡ (settings_of setup).depth) (open_ : state.frozen ≡ false)
    (small : AreItems (settings_of setup).items state.items)
    (answered : AreAnswered (seats_of setup) state.applied state.replies) (row : ℕ → ℕ)
    (says : (j : ℕ) → j < length (state_words setup state) → row (j + 1) ≡ get_or (state_words setup state) j 0) where
  abbrev start : ℕ
  start = SEAT_WORDS * seats_of setup

  abbrev count : ℕ
  count = length state.items

  abbrev all : List ℕ
  all = state_words setup state

  abbrev items : List ℕ
  items = item_words count state.items

  long : length all ≡ start + 1 + ITEM_WORDS * count
  long = state_is_long setup bucket state prefix depth open_ small answered

  count_here : count_in setup (row (count_place setup)) ≡ count
  count_here =
      let place : count_place setup ≡ start + 1 = omega arith in
      ap (count_in setup) (ap row place ∙ says start (let l = long in omega (arith, l))
      ∙ count_is setup bucket state prefix depth open_ small answered)
      ∙ cut setup bucket state prefix depth open_ small answered

  -- a word of an item
  word_here : (i m : ℕ) → i < count → m < 7 → row (items_start setup + (ITEM_WORDS * i + m)) ≡ get_or
      (block ITEM_WORDS i items) m 0
  word_here i m less within =
      let place : items_start setup + (ITEM_WORDS * i + m) ≡ start + 1 + (i * 7 + m) + 1 = omega arith in
      let l = long in
      ap row place ∙ says (start + 1 + (i * 7 + m)) (omega (arith, l, less, within))
      ∙ sym (get_or-drop (start + 1) all (i * 7 + m) 0)
      ∙ ap (λ (ws : List ℕ). get_or ws (i * 7 + m) 0) (rest setup bucket state prefix depth open_ small answered)
      ∙ sym (get_or-block 7 i m items within)

  pair_here : (i : ℕ) → i < count → pair_at setup row i ≡ pair_of_words (block ITEM_WORDS i items)
  pair_here i less =
      let w = block ITEM_WORDS i items in
      (λ e. record {
        key = record {
          k0 = (word_here i 0 less (omega arith) ∙ sym (get_or-take 5 w 0 0 (omega arith))) e;
          k1 = (word_here i 1 less (omega arith) ∙ sym (get_or-take 5 w 1 0 (omega arith))) e;
          k2 = (word_here i 2 less (omega arith) ∙ sym (get_or-take 5 w 2 0 (omega arith))) e;
          k3 = (word_here i 3 less (omega arith) ∙ sym (get_or-take 5 w 3 0 (omega arith))) e;
          k4 = (word_here i 4 less (omega arith) ∙ sym (get_or-take 5 w 4 0 (omega arith))) e;
        };
        value = word_here i 5 less (omega arith) e;
        bytes = word_here i 6 less (omega arith) e;
      })

  -- THE RESULT
  pub pairs_are : pairs_of_row setup row ≡ state.items
  pairs_are =
      ap (λ n. map (pair_at setup row) (range_with_len 0 n)) count_here
      ∙ same_range (pair_at setup row) (λ i. pair_of_words (block ITEM_WORDS i items)) 0 count (λ i less.
      (let here : 0 + i ≡ i = omega arith in
      subst (λ k. pair_at setup row k ≡ pair_of_words (block ITEM_WORDS k items)) (sym here) (pair_here i less)))
      ∙ items_are setup bucket state prefix depth open_ small answered
