-- The words of a row say what was spelled.
use Rattle.std.proofs.Common.{◌≡◌, ℕ, suc, ◌+◌, ◌*◌, ◌/◌, ◌%◌, ◌^◌, ◌<◌, ◌≤◌, List, [], ◌∷◌, ◌++◌, length, drop, refl, sym, ap, ◌∙◌, arith}
use Rattle.std.specs.Prelude.{min}
use Rattle.std.specs.List.{AllByRecursion as Each}
use Rattle.std.proofs.lemmas.List.{length-append, append-nil, drop_at}
use Rattle.std.proofs.lemmas.Nat.{div-mul-add, mod-mul-add}
use Rattle.plain_map.specs.declared.keys.Pair.{Pair}
use Rattle.word_rows.specs.ReplyWords.{word_of_reply, reply_of_word}
use Rattle.exchange_model.specs.Plans.{Plan, IsPlan}
use Rattle.exchange_model.specs.Codes.{Entry, Row, pair_words, pairs_of_words, all_entry_words, entries_of_words, entry_in, head_word, row_words, row_of_words, row_at, words_at, row_length, count_in, entries_in, entries_start}
use Rattle.exchange_laws.proofs.TrueReads.{IsFront, front_is}

-- an entry that can be spelled
pub record IsEntry (entry : Entry) : Type 0 where
  pub seat : entry.seat < 64
  pub reply : reply_of_word (word_of_reply entry.reply) ≡ entry.reply

-- a row that can be
pub record IsRow (plan : Plan) (row : Row) : Type 0 where
  pub items : length row.items ≤ plan.settings.items
  pub few : length row.entries ≤ plan.settings.seats
  pub entries : Each IsEntry row.entries

-- ---- items

pairs_read : (pairs : List Pair) (rest : List ℕ) → pairs_of_words (length pairs) (pair_words pairs ++ rest) ≡ pairs
pairs_read [] rest = refl
pairs_read (pair ∷ pairs) rest = ap (λ (ps : List Pair). pair ∷ ps) (pairs_read pairs rest)

pairs_long : (pairs : List Pair) → length (pair_words pairs) ≡ 7 * length pairs
pairs_long [] = refl
pairs_long (pair ∷ pairs) = (let rest = pairs_long pairs in omega (arith, rest))

-- ---- entries

entry_read : (entry : Entry) → IsEntry entry →
    entry_in (entry.seat + entry.number * 2 ^ 6) (word_of_reply entry.reply) ≡ entry
entry_read entry is =
    let turned : entry.seat + entry.number * 64 ≡ entry.number * 64 + entry.seat = omega arith in
    let seat : (entry.seat + entry.number * 64) % 64 ≡ entry.seat =
    ap (λ k. k % 64) turned ∙ mod-mul-add entry.number 64 entry.seat is.seat in
    let number : (entry.seat + entry.number * 64) / 64 ≡ entry.number =
    ap (λ k. k / 64) turned ∙ div-mul-add entry.number 64 entry.seat is.seat in
    λ i. record { seat = seat i; number = number i; reply = is.reply i }

entries_read : (entries : List Entry) (rest : List ℕ) → Each IsEntry entries →
    entries_of_words (length entries) (all_entry_words entries ++ rest) ≡ entries
entries_read [] rest is = refl
entries_read (entry ∷ entries) rest is =
    (λ i. entry_read entry is.0 i ∷ entries_of_words (length entries) (all_entry_words entries ++ rest))
    ∙ ap (λ (es : List Entry). entry ∷ es) (entries_read entries rest is.1)

entries_long : (entries : List Entry) → length (all_entry_words entries) ≡ 2 * length entries
entries_long [] = refl
entries_long (entry ∷ entries) = (let rest = entries_long entries in omega (arith, rest))

-- ---- a row

module _ (plan : Plan) (is_plan : IsPlan plan) (row : Row) (is : IsRow plan row) where
  abbrev items : ℕ
  items = length row.items

  abbrev entries : ℕ
  entries = length row.entries

  few_items : items < 256
  few_items = omega (arith, is.items, is_plan.items)

  few_entries : entries < 256
  few_entries = omega (arith, is.few, is_plan.seats)

  turned : items + entries * 256 ≡ entries * 256 + items
  turned = omega arith

  -- its head tells how many there are, and neither is cut
  pub count_is : count_in plan (head_word items entries) ≡ items
  count_is =
      let e : (items + entries * 256) % 256 ≡ items =
      ap (λ k. k % 256) turned ∙ mod-mul-add entries 256 items few_items in
      ap (λ k. min k plan.settings.items) e ∙ omega (arith, is.items)

  pub entries_is : entries_in plan (head_word items entries) ≡ entries
  entries_is =
      let most : entries % 256 ≡ entries = omega (arith, few_entries) in
      let e : (items + entries * 256) / 256 % 256 ≡ entries =
      ap (λ k. k / 256 % 256) turned ∙ ap (λ k. k % 256) (div-mul-add entries 256 items few_items) ∙ most in
      ap (λ k. min k plan.settings.seats) e ∙ omega (arith, is.few)

  pub row_long : length (row_words row) ≡ row_length items entries
  row_long =
      let a = pairs_long row.items in
      let b = entries_long row.entries in
      let c = length-append (pair_words row.items) (all_entry_words row.entries) in
      omega (arith, a, b, c)

  -- its words are read as the row
  pub row_read : row_of_words plan (row_words row) ≡ row
  row_read =
      let words = pair_words row.items ++ all_entry_words row.entries in
      let start : entries_start items ≡ suc (7 * items) = omega arith in
      let behind : drop (entries_start items) (row_words row) ≡ all_entry_words row.entries =
      ap (λ k. drop k (row_words row)) start
      ∙ drop_at (pair_words row.items) (all_entry_words row.entries) (7 * items) (pairs_long row.items) in
      let first : pairs_of_words (count_in plan (head_word items entries)) words ≡ row.items =
      ap (λ k. pairs_of_words k words) count_is ∙ pairs_read row.items (all_entry_words row.entries) in
      let then : entries_of_words (entries_in plan (head_word items entries))
      (drop (entries_start (count_in plan (head_word items entries))) (row_words row)) ≡ row.entries =
      (λ i. entries_of_words (entries_is i) (drop (entries_start (count_is i)) (row_words row)))
      ∙ ap (entries_of_words entries) (behind ∙ sym (append-nil (all_entry_words row.entries)))
      ∙ entries_read row.entries [] is.entries in
      λ i. record { items = first i; entries = then i }

  -- THE RESULT: where they stand, the row says so
  pub row_stands : (words : ℕ → ℕ) → IsFront (row_words row) words → row_at plan words ≡ row
  row_stands words front =
      let head : head_word items entries ≡ words 0 = front 0 (omega (arith, row_long)) in
      let long : row_length (count_in plan (words 0)) (entries_in plan (words 0)) ≡ length (row_words row) =
      ap (λ h. row_length (count_in plan h) (entries_in plan h)) (sym head)
      ∙ (λ i. row_length (count_is i) (entries_is i)) ∙ sym row_long in
      ap (λ m. row_of_words plan (words_at m words)) long ∙ ap (row_of_words plan)
      (sym (front_is (row_words row) words front))
      ∙ row_read
