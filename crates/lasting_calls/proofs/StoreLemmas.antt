-- Words that an update stores: its op, and its row.
use Rattle.std.proofs.Common.{◌≡◌, ℕ, ◌+◌, ◌<◌, List, ◌∷◌, ◌++◌, length, take, drop, get_or, replicate, Option, refl, sym, ap, ◌∙◌, arith}
use Rattle.std.proofs.lemmas.Bool.{cond-true, cond-false, lt-ltb}
use Rattle.std.proofs.lemmas.List.{get_or-append-add, get_or_append_left, length-append}
use Rattle.std.specs.Prelude.{nat_lt, if◌then◌else◌, slice_index}
use Rattle.bucket_states.proofs.AnswerLemmas.{lt_false}
use Rattle.bucket_states.specs.declared.ops.Op.{Op}
use Rattle.plain_map.specs.declared.calls.Call.{Call}
use Rattle.plain_map.specs.declared.calls.Call.TheVariants.{Insert, Remove, Lookup, Tally, Count, Put}
use Rattle.plain_map.specs.Updates.{IsUpdate}
use Rattle.word_rows.specs.OpWords.{words_of_call}
use Rattle.lasting_model.specs.Plans.{ample}
use Rattle.lasting_model.specs.Codes.{SLOT_WORDS}
use Rattle.lasting_model.specs.Words.{OpWord, RowWord, place}
use Rattle.lasting_model.specs.Steps.{Announce, Exchange, Goes, Step, StoreOp, StoreRow, Try, Update, new_words, next_row}
use Rattle.lasting_calls.specs.Going.{Going, goes, goes_by, on, task}
use Rattle.lasting_calls.specs.Going.Task.{Store}
use Rattle.lasting_calls.specs.Updates.{storing}
use Rattle.lasting_calls.specs.Writes.{Writes}
use Rattle.lasting_calls.proofs.RunLemmas.{stores_go}

-- ---- any words

module _ (family : ℕ → Going) (start : ℕ) (words : List ℕ)
    (next : (k : ℕ) → k < length words → goes (family k) 0 ≡ family (k + 1))
    (asked : (k : ℕ) → k < length words → task (family k) ≡ Store (start + k) (slice_index words k)) where
  -- they are stored one after the other
  pub family_writes : (first : Going) → first ≡ family 0 → Writes first start words
  family_writes first at i h =
      ap (λ (g : Going). task (goes_by g (replicate i 0))) at
      ∙ ap task (stores_go family (length words) next i (omega (arith, h))) ∙ asked i h

  pub family_stored : (first now : Going) → first ≡ family 0 → now ≡ goes_by first (replicate (length words) 0) →
      now ≡ family (length words)
  family_stored first now at goes_is =
      goes_is ∙ ap (λ (g : Going). goes_by g (replicate (length words) 0)) at
      ∙ stores_go family (length words) next (length words) (omega arith)

-- ---- the op

-- a call's words are so many, and an op row has its number before them
pub call_long : (call : Call) → IsUpdate call → length (words_of_call call) ≡ SLOT_WORDS
call_long (Insert key value) is = refl
call_long (Remove key) is = refl
call_long (Lookup key) is = absurd is
call_long (Tally key amount) is = refl
call_long (Count key value amount) is = refl
call_long (Put key value) is = refl

pub call_behind : (call : Call) (number : ℕ) → IsUpdate call →
    take 7 (drop 1 (number ∷ words_of_call call)) ≡ words_of_call call
call_behind (Insert key value) number is = refl
call_behind (Remove key) number is = refl
call_behind (Lookup key) number is = absurd is
call_behind (Tally key amount) number is = refl
call_behind (Count key value amount) number is = refl
call_behind (Put key value) number is = refl

module _ (f : Going) (u : Update) where
  -- so many words of it are stored
  abbrev op_stored : ℕ → Going
  op_stored k = on f (Goes u (if nat_lt k SLOT_WORDS then StoreOp k else Announce))

  op_still : (k : ℕ) → k < SLOT_WORDS → op_stored k ≡ on f (Goes u (StoreOp k))
  op_still k h = ap (λ (s : Step). on f (Goes u s))
      (cond-true (nat_lt k SLOT_WORDS) (StoreOp k) Announce (lt-ltb k SLOT_WORDS h))

  module _ (stand : f.now.stand ≡ Goes u (StoreOp 0)) (start : ℕ) (at : start ≡ place f.plan (OpWord f.seat 0))
      (words : List ℕ) (words_are : words ≡ words_of_call u.call) (update : IsUpdate u.call) where
    long : length words ≡ 7
    long = ap {A = List ℕ} {B = ℕ} length words_are ∙ call_long u.call update

    starts : f ≡ op_stored 0
    starts = ap (on f) stand

    next : (k : ℕ) → k < length words → goes (op_stored k) 0 ≡ op_stored (k + 1)
    next k h = ap (λ (g : Going). goes g 0) (op_still k (omega (arith, h, long)))

    asked : (k : ℕ) → k < length words → task (op_stored k) ≡ Store (start + k) (slice_index words k)
    asked k h =
        let there : place f.plan (OpWord f.seat k) ≡ start + k = omega (arith, at) in
        ap task (op_still k (omega (arith, h, long)))
        ∙ (λ i. Store (there i) (slice_index (sym words_are i) k))

    pub op_writes : Writes f start words
    op_writes = family_writes op_stored start words next asked f starts

    pub op_goes : (now : Going) → now ≡ goes_by f (replicate (length words) 0) → now ≡ on f (Goes u Announce)
    op_goes now goes_is = family_stored op_stored start words next asked f now starts goes_is ∙ ap op_stored long

-- ---- the row

module _ (f : Going) (u : Update) (attempt : Try) (found : List (Option Op)) where
  -- all words of it
  abbrev pub all_words : List ℕ
  all_words = new_words (ample f.plan) f.now attempt found

  -- so many words of it are stored
  abbrev pub row_stored : ℕ → Going
  row_stored k = on f (Goes u (storing f attempt found k))

  still : (k : ℕ) → k < length all_words → row_stored k ≡ on f (Goes u (StoreRow attempt found k))
  still k h = ap (λ (s : Step). on f (Goes u s))
      (cond-true (nat_lt k (length all_words)) (StoreRow attempt found k) (Exchange attempt found)
      (lt-ltb k (length all_words) h))

  pub row_more : (k : ℕ) → k < length all_words → goes (row_stored k) 0 ≡ row_stored (k + 1)
  row_more k h = ap (λ (g : Going). goes g 0) (still k h)

  pub row_asked : (k : ℕ) → k < length all_words →
      task (row_stored k) ≡ Store (place f.plan (RowWord (next_row f.now) k)) (slice_index all_words k)
  row_asked k h = ap task (still k h)

  -- when all are stored, the exchange comes
  pub row_ends : row_stored (length all_words) ≡ on f (Goes u (Exchange attempt found))
  row_ends = ap (λ (s : Step). on f (Goes u s))
      (cond-false (nat_lt (length all_words) (length all_words)) (StoreRow attempt found (length all_words))
      (Exchange attempt found) (lt_false (length all_words) (length all_words) (omega arith)))

  -- some of them, one after the other
  module _ (front words back : List ℕ) (was start : ℕ) (cut : all_words ≡ front ++ (words ++ back))
      (before : length front ≡ was) (at : start ≡ place f.plan (RowWord (next_row f.now) was)) where
    inside : (k : ℕ) → k < length words → was + k < length all_words
    inside k h = omega (
      arith,
      h,
      before,
      ap {A = List ℕ} {B = ℕ} length cut,
      length-append front (words ++ back),
      length-append words back,
    )

    word_is : (k : ℕ) → k < length words → slice_index all_words (was + k) ≡ slice_index words k
    word_is k h =
        ap (λ (ws : List ℕ). get_or ws (was + k) 0) cut
        ∙ ap (λ (m : ℕ). get_or (front ++ (words ++ back)) (m + k) 0) (sym before)
        ∙ get_or-append-add front (words ++ back) k 0 ∙ get_or_append_left words back 0 k h

    -- so many words of these
    abbrev some : ℕ → Going
    some k = row_stored (was + k)

    next_word : (k : ℕ) → k < length words → goes (some k) 0 ≡ some (k + 1)
    next_word k h =
        let same : was + k + 1 ≡ was + (k + 1) = omega arith in
        row_more (was + k) (inside k h) ∙ ap row_stored same

    word_asked : (k : ℕ) → k < length words → task (some k) ≡ Store (start + k) (slice_index words k)
    word_asked k h =
        let there : place f.plan (RowWord (next_row f.now) (was + k)) ≡ start + k = omega (arith, at) in
        row_asked (was + k) (inside k h) ∙ (λ i. Store (there i) (word_is k h i))

    here : (first : Going) → first ≡ row_stored was → first ≡ some 0
    here first is = let same : was ≡ was + 0 = omega arith in is ∙ ap row_stored same

    pub part_writes : (first : Going) → first ≡ row_stored was → Writes first start words
    part_writes first is = family_writes some start words next_word word_asked first (here first is)

    pub part_stored : (first now : Going) → first ≡ row_stored was →
        now ≡ goes_by first (replicate (length words) 0) → now ≡ row_stored (was + length words)
    part_stored first now is = family_stored some start words next_word word_asked first now (here first is)
