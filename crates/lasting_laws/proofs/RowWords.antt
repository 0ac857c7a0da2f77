-- A row that is loaded word by word: how many are to be loaded is told by those that were, and the whole row is its
-- bucket.
use Rattle.std.proofs.Common.{◌≡◌, ℕ, ◌+◌, ◌*◌, ◌<◌, ◌≤◌, ◌⊎◌, inl, inr, Bool, false, cond, List, [], ◌∷◌, ◌++◌, length, get_or, take, sym, ap, ◌∙◌, arith, lt-ltb}
use Rattle.std.specs.Prelude.{slice_index, min}
use Rattle.std.proofs.lemmas.Bool.{cases_lt}
use Rattle.std.proofs.lemmas.List.{length-take, take_all, take_more, get_or-take, length-append}
use Rattle.step_counts.specs.declared.TheConstants.{ITEM_WORDS, SEAT_WORDS}
use Rattle.bucket_states.specs.States.{BucketState}
use Rattle.bucket_states.proofs.AnswerLemmas.{lt_false}
use Rattle.word_rows.specs.BucketWords.{AreItems, AreAnswered}
use Rattle.table_model.specs.Setup.{Setup, settings_of, seats_of}
use Rattle.table_model.specs.Goes.{more}
use Rattle.lasting_model.specs.Codes.{state_words, state_in, count_in, length_by}
use Rattle.lasting_laws.proofs.Spelled.{count_is, cut, state_is_long, state_spells}

-- one word more of a list
pub longer : (words all : List ℕ) (word : ℕ) → words ≡ take (length words) all → length words < length all →
    word ≡ get_or all (length words) 0 → more words word ≡ take (length (more words word)) all
longer words all word e less is =
    let many : length (more words word) ≡ length words + 1 = length-append words (word ∷ []) in
    (λ i. e i ++ is i ∷ []) ∙ sym (take_more all (length words) 0 less) ∙ ap (λ (n : ℕ). take n all) (sym many)

-- a part is no longer than the whole
pub part_short : (words all : List ℕ) → words ≡ take (length words) all → length words ≤ length all
part_short words all e =
    (let l : length words ≡ min (length words) (length all) = ap (λ (ws : List ℕ). length ws) e
    ∙ length-take (length words) all in omega (arith, l))

module _ (setup : Setup) (bucket : ℕ) (state : BucketState) (prefix : state.prefix ≡ bucket)
    (depth : state.depth ≡ (settings_of setup).depth) (open_ : state.frozen ≡ false)
    (small : AreItems (settings_of setup).items state.items)
    (answered : AreAnswered (seats_of setup) state.applied state.replies) where
  abbrev start : ℕ
  start = SEAT_WORDS * seats_of setup

  abbrev all : List ℕ
  all = state_words setup state

  long : length all ≡ start + 1 + ITEM_WORDS * length state.items
  long = state_is_long setup bucket state prefix depth open_ small answered

  -- until the count is loaded, so many; and then all
  by_words : (words : List ℕ) → words ≡ take (length words) all →
      ((length words ≤ start) × (length_by setup words ≡ start + 1)) ⊎ ((start < length words)
      × (length_by setup words ≡ length all))
  by_words words e = elim (cases_lt start (length words)) [
    | inl less ↦
        let count : slice_index words start ≡ length state.items =
        ap (λ (ws : List ℕ). slice_index ws start) e ∙ get_or-take (length words) all start 0 less
        ∙ count_is setup bucket state prefix depth open_ small answered in
        inr (
          less,
          ap (λ (b : Bool). start + 1 + cond b (ITEM_WORDS * count_in setup (slice_index words start)) 0)
              (lt-ltb start (length words) less)
              ∙ ap (λ n. start + 1 + ITEM_WORDS * count_in setup n) count
              ∙ ap (λ n. start + 1 + ITEM_WORDS * n) (cut setup bucket state prefix depth open_ small answered)
              ∙ sym long,
        )
    | inr past ↦
        let none : start + 1 + 0 ≡ start + 1 = omega arith in
        inl (
          past,
          ap (λ (b : Bool). start + 1 + cond b (ITEM_WORDS * count_in setup (slice_index words start)) 0)
              (lt_false start (length words) past)
              ∙ none,
        )
  ]

  -- there is a next word
  pub short_said : (words : List ℕ) → words ≡ take (length words) all → length words < length_by setup words →
      length words < length all
  short_said words e less = elim (by_words words e) [
    | inl z ↦ (let l = long in let k = z.1 in omega (arith, less, l, k, z.0))
    | inr z ↦ (let k = z.1 in omega (arith, less, k))
  ]

  -- there is none
  pub whole_said : (words : List ℕ) → words ≡ take (length words) all → length_by setup words ≤ length words →
      words ≡ all
  whole_said words e past = elim (by_words words e) [
    | inl z ↦ absurd (let k = z.1 in omega (arith, past, k, z.0))
    | inr z ↦ (let k = z.1 in e ∙ take_all (length words) all (omega (arith, past, k)))
  ]

  -- and then it is the bucket
  pub whole_is : (words : List ℕ) → words ≡ take (length words) all → length_by setup words ≤ length words →
      state_in setup bucket words ≡ state
  whole_is words e past = ap (state_in setup bucket) (whole_said words e past)
      ∙ state_spells setup bucket state prefix depth open_ small answered
