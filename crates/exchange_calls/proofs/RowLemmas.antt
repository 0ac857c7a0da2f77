-- The words of a row, loaded one after the other.
use Rattle.std.proofs.Common.{◌≡◌, ℕ, suc, ◌+◌, ◌*◌, ◌/◌, ◌%◌, ◌^◌, ◌<◌, ◌≤◌, ◌∙◌, List, [], ◌∷◌, ◌++◌, length, drop, refl, sym, ap, arith, append_assoc}
use Rattle.std.proofs.lemmas.Bool.{cond-true, cond-false, lt-ltb}
use Rattle.std.proofs.lemmas.List.{length-append}
use Rattle.std.specs.Prelude.{nat_lt, min, if◌then◌else◌}
use Rattle.bucket_states.proofs.AnswerLemmas.{lt_false}
use Rattle.plain_map.specs.declared.calls.Call.{Call}
use Rattle.plain_map.specs.declared.keys.Pair.{Pair}
use Rattle.word_rows.specs.KeyWords.{words_of_pair}
use Rattle.exchange_model.specs.Codes.{Entry, count_in, entries_in, entries_of_words, entries_start, entry_in, length_by, pair_words, pairs_of_words, row_in, row_length}
use Rattle.exchange_model.specs.Words.{RowWord, place}
use Rattle.exchange_model.specs.Steps.{CheckWord, Goes, LoadRow, Step}
use Rattle.exchange_calls.specs.Going.{Going, Reads, goes, goes_by, on, task}
use Rattle.exchange_calls.specs.Going.Task.{Load}
use Rattle.exchange_calls.specs.Desks.{IsOf}
use Rattle.exchange_calls.specs.Hands.{HasLoaded}
use Rattle.exchange_calls.specs.Marks.{entries_of, mark_words}
use Rattle.exchange_calls.specs.declared.desk.Desk.{Desk}
use Rattle.exchange_calls.specs.declared.hand.Hand.{Hand}
use Rattle.exchange_calls.specs.declared.marks.Mark.{Mark}
use Rattle.exchange_calls.proofs.GoesLemmas.{plain_goes, stands_here, step_asks}
use Rattle.exchange_calls.proofs.PlaceLemmas.{row_at}
use Rattle.exchange_calls.proofs.RunLemmas.{Leads, leads_goes, leads_reads, length-more}

-- ---- lists of words

-- one pair more
pub pair_words-more : (pairs : List Pair) (pair : Pair) →
    pair_words (pairs ++ pair ∷ []) ≡ pair_words pairs ++ words_of_pair pair
pair_words-more [] pair = refl
pair_words-more (p ∷ ps) pair =
    ap (λ (ws : List ℕ). words_of_pair p ++ ws) (pair_words-more ps pair)
    ∙ sym (append_assoc (words_of_pair p) (pair_words ps) (words_of_pair pair))

pub pair_words-length : (pairs : List Pair) → length (pair_words pairs) ≡ 7 * length pairs
pair_words-length [] = refl
pair_words-length (p ∷ ps) =
    let rest = pair_words-length ps in
    let one = length-append (words_of_pair p) (pair_words ps) in
    omega (arith, rest, one)

-- one entry more
pub mark_words-more : (marks : List Mark) (mark : Mark) →
    mark_words (marks ++ mark ∷ []) ≡ mark_words marks ++ mark_words (mark ∷ [])
mark_words-more [] mark = refl
mark_words-more (m ∷ ms) mark = ap (λ (ws : List ℕ). m.word ∷ m.reply ∷ ws) (mark_words-more ms mark)

pub mark_words-length : (marks : List Mark) → length (mark_words marks) ≡ 2 * length marks
mark_words-length [] = refl
mark_words-length (m ∷ ms) = let rest = mark_words-length ms in omega (arith, rest)

-- what was spelled is read
pairs_read : (pairs : List Pair) (rest : List ℕ) → pairs_of_words (length pairs) (pair_words pairs ++ rest) ≡ pairs
pairs_read [] rest = refl
pairs_read (p ∷ ps) rest = ap (λ (qs : List Pair). p ∷ qs) (pairs_read ps rest)

pairs_past : (pairs : List Pair) (rest : List ℕ) → drop (7 * length pairs) (pair_words pairs ++ rest) ≡ rest
pairs_past [] rest = refl
pairs_past (p ∷ ps) rest =
    let e : 7 * length (p ∷ ps) ≡ suc (suc (suc (suc (suc (suc (suc (7 * length ps))))))) = omega arith in
    ap (λ (n : ℕ). drop n (pair_words (p ∷ ps) ++ rest)) e ∙ pairs_past ps rest

marks_read : (marks : List Mark) → entries_of_words (length marks) (mark_words marks) ≡ entries_of marks
marks_read [] = refl
marks_read (m ∷ ms) = ap (λ (es : List Entry). entry_in m.word m.reply ∷ es) (marks_read ms)

-- ---- the states

module _ (f : Going) (call : Call) (turn word : ℕ) where
  abbrev pub row_step : List ℕ → Step
  row_step words =
      if nat_lt (length words) (length_by f.plan words) then LoadRow turn word words else CheckWord turn word words

  abbrev pub row_family : List ℕ → Going
  row_family words = on f (Goes call (row_step words))

  -- so many words say something
  abbrev pub long_by : (head : ℕ) → ℕ
  long_by head = row_length (count_in f.plan head) (entries_in f.plan head)

  short_row : (words : List ℕ) → length words < length_by f.plan words → row_step words ≡ LoadRow turn word words
  short_row words h = cond-true (nat_lt (length words) (length_by f.plan words)) _ _ (lt-ltb _ _ h)

  -- one word more
  row_goes : (now next : Going) (words : List ℕ) (one : ℕ) → now ≡ on f (Goes call (LoadRow turn word words)) →
      next ≡ goes now one → next ≡ row_family (words ++ one ∷ [])
  row_goes now next words one at step =
      plain_goes f now next call (LoadRow turn word words) one at refl step
      ∙ ap (λ (n : ℕ). on f (Goes call (if nat_lt n (length_by f.plan (words ++ one ∷ []))
      then LoadRow turn word (words ++ one ∷ []) else CheckWord turn word (words ++ one ∷ []))))
      (sym (length-more words one))

  -- the head
  pub head_goes : (next : Going) (head : ℕ) → f.now.stand ≡ Goes call (LoadRow turn word []) → next ≡ goes f head →
      next ≡ row_family (head ∷ [])
  head_goes next head stand step =
      row_goes f next [] head (stands_here f (Goes call (LoadRow turn word [])) stand) step

  -- the words behind it
  row_leads : (head : ℕ) (rest : List ℕ) (start n : ℕ) → suc (length rest) + n ≤ long_by head →
      place f.plan (RowWord (row_in f.plan word) (suc (length rest))) ≡ start →
      Leads row_family (head ∷ rest) start n
  row_leads head rest start n room at = record {
    asked = λ words h.
        let long = length-append rest words in
        let short = short_row (head ∷ (rest ++ words)) (omega (arith, room, h, long)) in
        step_asks f (row_family (head ∷ (rest ++ words))) call (LoadRow turn word (head ∷ (rest ++ words)))
        (ap (λ (s : Step). on f (Goes call s)) short)
        ∙ ap Load (omega (arith, at, long));
    next = λ words one h.
        let long = length-append rest words in
        let short = short_row (head ∷ (rest ++ words)) (omega (arith, room, h, long)) in
        row_goes (row_family (head ∷ (rest ++ words))) _ (head ∷ (rest ++ words)) one
        (ap (λ (s : Step). on f (Goes call s)) short) refl;
  }

  module _ (desk : Desk) (is : IsOf f desk) (row first : ℕ) (row_is : row ≡ row_in f.plan word)
      (first_is : first ≡ desk.first_row + row * desk.row_words) where
    -- where a word of it stands
    word_at : (i at : ℕ) → at ≡ first + i → place f.plan (RowWord (row_in f.plan word) i) ≡ at
    word_at i at at_is =
        row_at f desk is (row_in f.plan word) i
        ∙ ap (λ (r : ℕ). desk.first_row + r * desk.row_words + i) (sym row_is)
        ∙ omega (arith, first_is, at_is)

    -- the head is loaded first
    pub head_asked : f.now.stand ≡ Goes call (LoadRow turn word []) → task f ≡ Load first
    head_asked stand =
        step_asks f f call (LoadRow turn word []) (stands_here f (Goes call (LoadRow turn word [])) stand)
        ∙ ap Load (word_at 0 first (omega arith))

    -- then the words that follow some of them
    module _ (head : ℕ) (rest : List ℕ) (now : Going) (here : now ≡ row_family (head ∷ rest)) (at n : ℕ)
        (at_is : at ≡ first + 1 + length rest) (room : suc (length rest) + n ≤ long_by head) where
      leads : Leads row_family (head ∷ rest) at n
      leads = row_leads head rest at n room (word_at (suc (length rest)) at (omega (arith, at_is)))

      pub more_asked : Reads now at n
      more_asked = leads_reads row_family (head ∷ rest) at n leads now here

      pub more_loaded : (next : Going) (words : List ℕ) → length words ≡ n → next ≡ goes_by now words →
          next ≡ row_family (head ∷ (rest ++ words))
      more_loaded next words long step = leads_goes row_family (head ∷ rest) at n leads now next words here long step

    -- the counts are those of the head
    pub count_same : (head count : ℕ) → count ≡ min (head % 2 ^ 8) desk.sizes.items → count ≡ count_in f.plan head
    count_same head count e = e ∙ ap (λ (n : ℕ). min (head % 2 ^ 8) n) (sym is.items)

    pub entries_same : (head entries : ℕ) → entries ≡ min (head / 2 ^ 8 % 2 ^ 8) desk.sizes.seats →
        entries ≡ entries_in f.plan head
    entries_same head entries e = e ∙ ap (λ (n : ℕ). min (head / 2 ^ 8 % 2 ^ 8) n) (sym is.seats)

  -- all are
  pub row_loaded : (now : Going) (head : ℕ) (hand : Hand) →
      now ≡ row_family (head ∷ (pair_words hand.items.items ++ mark_words hand.marks.items)) →
      length hand.items.items ≡ count_in f.plan head → length hand.marks.items ≡ entries_in f.plan head →
      HasLoaded f now call turn word hand
  row_loaded now head hand here items marks =
      let pairs : List ℕ = pair_words hand.items.items in
      let entries : List ℕ = mark_words hand.marks.items in
      let words : List ℕ = head ∷ (pairs ++ entries) in
      let long : length words ≡ long_by head =
      (let a = length-append pairs entries in let b = pair_words-length hand.items.items in
      let c = mark_words-length hand.marks.items in omega (arith, a, b, c, items, marks)) in
      let start_is : entries_start (count_in f.plan head) ≡ suc (7 * length hand.items.items) =
      omega (arith, items) in
      record {
        head = head;
        words = words;
        words_are = refl;
        goes = here ∙ ap (λ (s : Step). on f (Goes call s))
            (cond-false (nat_lt (length words) (long_by head)) (LoadRow turn word words) (CheckWord turn word words)
            (lt_false (length words) (long_by head) (omega (arith, long))));
        row = λ i. record {
          items = (ap (λ (n : ℕ). pairs_of_words n (pairs ++ entries)) (sym items)
              ∙ pairs_read hand.items.items entries) i;
          entries = ((λ j. entries_of_words (sym marks j) (drop (start_is j) words))
              ∙ ap (entries_of_words (length hand.marks.items)) (pairs_past hand.items.items entries)
              ∙ marks_read hand.marks.items) i;
        };
        few_items = omega (arith, items);
        few_marks = omega (arith, marks);
      }
