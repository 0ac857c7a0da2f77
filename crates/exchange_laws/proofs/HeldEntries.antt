-- What a seat finds in the row that it reads under its hold: the words that it goes through are those of entries. So
-- where it finds its own one the row has it.
use Rattle.std.proofs.Common.{◌≡◌, ◌≢◌, inl, inr, true, false, Option, Some, None, ℕ, zero, suc, ◌+◌, ◌*◌, ◌/◌, ◌%◌, ◌^◌, ◌<◌, ◌≤◌, max, Bool, cond, List, [], ◌∷◌, drop, get_or, refl, sym, ap, ◌∙◌, subst, arith}
use Rattle.std.specs.Prelude.{◌==◌, ◌&&◌, slice_index}
use Rattle.std.proofs.lemmas.Bool.{cond_both, cases_eq, eq-eqb, ne_eqb}
use Rattle.exchange_model.specs.Plans.{Plan}
use Rattle.exchange_model.specs.Codes.{Entry, entry_in, entries_of_words, row_at, row_length, words_at, count_in, entries_in, entries_start}
use Rattle.exchange_model.specs.Goes.{entry_word, is_entry, entry_for}
use Rattle.exchange_laws.proofs.Entries.{most}
use Rattle.exchange_laws.proofs.TrueReads.{at_words}

-- the word of an entry tells its seat and its number
seat_of_word : (q n : ℕ) → q < 64 → entry_word q n % 2 ^ 6 ≡ q
seat_of_word q n less = omega (arith, less)

number_of_word : (q n : ℕ) → q < 64 → entry_word q n / 2 ^ 6 ≡ n
number_of_word q n less = omega (arith, less)

-- an entry that stands among these words counts
among_words : (many : ℕ) (words : List ℕ) (j q n : ℕ) → q < 64 → j < many → get_or words (2 * j) 0 ≡ entry_word q n →
    n + 1 ≤ most q (entries_of_words many words)
among_words zero words j q n small less is = absurd (omega (arith, less))
among_words (suc many) words zero q n small less is =
    let seat : get_or words 0 0 % 2 ^ 6 ≡ q = ap (λ w. w % 2 ^ 6) is ∙ seat_of_word q n small in
    let number : get_or words 0 0 / 2 ^ 6 ≡ n = ap (λ w. w / 2 ^ 6) is ∙ number_of_word q n small in
    subst (λ (c : Bool). n + 1 ≤ cond c (max (get_or words 0 0 / 2 ^ 6 + 1)
    (most q (entries_of_words many (drop 2 words))))
    (most q (entries_of_words many (drop 2 words)))) (sym (eq-eqb (get_or words 0 0 % 2 ^ 6) q seat))
    (omega (arith, number))
among_words (suc many) words (suc j) q n small less is =
    let later = among_words many (drop 2 words) j q n small (omega (arith, less)) (two_on words j ∙ is) in
    cond_both (get_or words 0 0 % 2 ^ 6 ==
    q) (max (get_or words 0 0 / 2 ^ 6 + 1) (most q (entries_of_words many (drop 2 words))))
    (most q (entries_of_words many (drop 2 words))) (λ k. n + 1 ≤ k) (λ _. omega (arith, later)) (λ _. later)
  where
    two_on : (words : List ℕ) (j : ℕ) → get_or (drop 2 words) (2 * j) 0 ≡ get_or words (2 * suc j) 0
    two_on [] j = refl
    two_on (a ∷ []) j = (let e : 2 * suc j ≡ suc (suc (2 * j)) = omega arith in sym (ap (λ i. get_or (a ∷ []) i 0) e))
    two_on (a ∷ c ∷ words) j =
        (let e : 2 * suc j ≡ suc (suc (2 * j)) = omega arith in sym (ap (λ i. get_or (a ∷ c ∷ words) i 0) e))

pub dropped : (words : List ℕ) (k i : ℕ) → get_or (drop k words) i 0 ≡ get_or words (k + i) 0
dropped words zero i = (let e : i ≡ 0 + i = omega arith in ap (λ j. get_or words j 0) e)
dropped [] (suc k) i = refl
dropped (w ∷ words) (suc k) i = dropped words k i ∙ (let e : suc (k + i) ≡ suc k + i = omega arith in
    ap (λ j. get_or (w ∷ words) j 0) e)

-- THE RESULT: of a row
pub in_row : (plan : Plan) (row : ℕ → ℕ) (j q n : ℕ) → q < 64 → j < entries_in plan (row 0) →
    row (entries_start (count_in plan (row 0)) + 2 * j) ≡ entry_word q n → n + 1 ≤ most q (row_at plan row).entries
in_row plan row j q n small less is =
    let start = entries_start (count_in plan (row 0)) in
    let many = entries_in plan (row 0) in
    let long = row_length (count_in plan (row 0)) many in
    let words = words_at long row in
    let head : slice_index words 0 ≡ row 0 = at_words long row 0 (omega arith) in
    subst (λ (h : ℕ). n + 1 ≤ most q (entries_of_words (entries_in plan h)
    (drop (entries_start (count_in plan h)) words)))
    (sym head)
    (among_words many (drop start words) j q n small less
    (dropped words start (2 * j) ∙ at_words long row (start + 2 * j) (omega (arith, less)) ∙ is))

-- ---- which entry is found

abbrev pub how_many : Option Entry → ℕ
how_many None = 0
how_many (Some e) = 1

-- whether a word is that of this entry
is_word : (q n w reply : ℕ) → q < 64 → w ≡ entry_word q n → is_entry q n (entry_in w reply) ≡ true
is_word q n w reply less e =
    let seat : w % 2 ^ 6 ≡ q = ap (λ k. k % 2 ^ 6) e ∙ seat_of_word q n less in
    let number : w / 2 ^ 6 ≡ n = ap (λ k. k / 2 ^ 6) e ∙ number_of_word q n less in
    ap (λ (c : Bool). c && (w / 2 ^ 6 == n)) (eq-eqb (w % 2 ^ 6) q seat) ∙ eq-eqb (w / 2 ^ 6) n number

word_is : (q n w : ℕ) → w % 2 ^ 6 ≡ q → w / 2 ^ 6 ≡ n → w ≡ entry_word q n
word_is q n w seat number = omega (arith, seat, number)

no_word : (q n w reply : ℕ) → w ≢ entry_word q n → is_entry q n (entry_in w reply) ≡ false
no_word q n w reply other = elim (cases_eq (w % 2 ^ 6) q) [
  | inr m ↦ ap (λ (c : Bool). c && (w / 2 ^ 6 == n)) (ne_eqb (w % 2 ^ 6) q m)
  | inl e ↦ elim (cases_eq (w / 2 ^ 6) n) [
    | inl k ↦ absurd (other (word_is q n w e k))
    | inr m ↦ ap (λ (c : Bool). c && (w / 2 ^ 6 == n)) (eq-eqb (w % 2 ^ 6) q e) ∙ ne_eqb (w / 2 ^ 6) n m
  ]
]

pub first_among : (many : ℕ) (words : List ℕ) (j q n : ℕ) → q < 64 → j < many →
    ((i : ℕ) → i < j → get_or words (2 * i) 0 ≢ entry_word q n) → get_or words (2 * j) 0 ≡ entry_word q n →
    entry_for q n (entries_of_words many words)
    ≡ Some (entry_in (get_or words (2 * j) 0) (get_or words (2 * j + 1) 0))
first_among zero words j q n small less none is = absurd (omega (arith, less))
first_among (suc many) words zero q n small less none is =
    ap (λ (c : Bool). cond c (Some (entry_in (get_or words 0 0) (get_or words 1 0)))
    (entry_for q n (entries_of_words many (drop 2 words)))) (is_word q n (get_or words 0 0) (get_or words 1 0) small is)
first_among (suc many) words (suc j) q n small less none is =
    ap (λ (c : Bool). cond c (Some (entry_in (get_or words 0 0) (get_or words 1 0)))
    (entry_for q n (entries_of_words many (drop 2 words))))
    (no_word q n (get_or words 0 0) (get_or words 1 0) (none 0 (omega arith)))
    ∙ first_among many (drop 2 words) j q n small (omega (arith, less))
    (λ i low e. none (suc i) (omega (arith, low)) (sym (first i) ∙ e)) (first j ∙ is)
    ∙ ap Some (λ k. entry_in (first j k) (at j 1 k))
  where
    first : (i : ℕ) → get_or (drop 2 words) (2 * i) 0 ≡ get_or words (2 * suc i) 0
    first i = dropped words 2 (2 * i) ∙ (let e : 2 + 2 * i ≡ 2 * suc i = omega arith in ap (λ m. get_or words m 0) e)

    at : (i k : ℕ) → get_or (drop 2 words) (2 * i + k) 0 ≡ get_or words (2 * suc i + k) 0
    at i k = dropped words 2 (2 * i + k) ∙ (let e : 2 + (2 * i + k) ≡ 2 * suc i + k = omega arith in
        ap (λ m. get_or words m 0) e)

pub none_among : (many : ℕ) (words : List ℕ) (q n : ℕ) →
    ((i : ℕ) → i < many → get_or words (2 * i) 0 ≢ entry_word q n) → entry_for q n (entries_of_words many words) ≡ None
none_among zero words q n none = refl
none_among (suc many) words q n none =
    ap (λ (c : Bool). cond c (Some (entry_in (get_or words 0 0) (get_or words 1 0)))
    (entry_for q n (entries_of_words many (drop 2 words))))
    (no_word q n (get_or words 0 0) (get_or words 1 0) (none 0 (omega arith)))
    ∙ none_among many (drop 2 words) q n (λ i less e. none (suc i) (omega (arith, less)) (sym (at i) ∙ e))
  where
    at : (i : ℕ) → get_or (drop 2 words) (2 * i) 0 ≡ get_or words (2 * suc i) 0
    at i = dropped words 2 (2 * i) ∙ (let e : 2 + 2 * i ≡ 2 * suc i = omega arith in ap (λ m. get_or words m 0) e)

module _ (plan : Plan) (row : ℕ → ℕ) where
  abbrev start : ℕ
  start = entries_start (count_in plan (row 0))

  abbrev many : ℕ
  many = entries_in plan (row 0)

  abbrev long : ℕ
  long = row_length (count_in plan (row 0)) many

  entries_are : (row_at plan row).entries ≡ entries_of_words many (drop start (words_at long row))
  entries_are =
      ap (λ (h : ℕ). entries_of_words (entries_in plan h) (drop (entries_start (count_in plan h)) (words_at long row)))
      (at_words long row 0 (omega arith))

  first_word : (i : ℕ) → i < many → get_or (drop start (words_at long row)) (2 * i) 0 ≡ row (start + 2 * i)
  first_word i less =
      dropped (words_at long row) start (2 * i) ∙ at_words long row (start + 2 * i) (omega (arith, less))

  word_at : (i k : ℕ) → i < many → k < 2 →
      get_or (drop start (words_at long row)) (2 * i + k) 0 ≡ row (start + 2 * i + k)
  word_at i k less few =
      dropped (words_at long row) start (2 * i + k)
      ∙ (let e : start + (2 * i + k) ≡ start + 2 * i + k = omega arith in ap (λ m. get_or (words_at long row) m 0) e)
      ∙ at_words long row (start + 2 * i + k) (omega (arith, less, few))

  -- THE RESULT: the first entry with this word is the one that the row has for that seat and number
  pub first_in_row : (j q n : ℕ) → q < 64 → j < many → ((i : ℕ) → i < j → row (start + 2 * i) ≢ entry_word q n) →
      row (start + 2 * j) ≡ entry_word q n →
      entry_for q n (row_at plan row).entries ≡ Some (entry_in (row (start + 2 * j)) (row (start + 2 * j + 1)))
  first_in_row j q n small less none is =
      ap (entry_for q n) entries_are
      ∙ first_among many (drop start (words_at long row)) j q n small less
      (λ i low e. none i low (sym (first_word i (omega (arith, low, less))) ∙ e)) (first_word j less ∙ is)
      ∙ ap Some (λ k. entry_in (first_word j less k) (word_at j 1 less (omega arith) k))

  -- and where there is none with it the row has none
  pub none_in_row : (q n : ℕ) → ((i : ℕ) → i < many → row (start + 2 * i) ≢ entry_word q n) →
      entry_for q n (row_at plan row).entries ≡ None
  none_in_row q n none =
      ap (entry_for q n) entries_are
      ∙ none_among many (drop start (words_at long row)) q n (λ i less e. none i less (sym (first_word i less) ∙ e))
