-- The loops over a bucket row's items and seats, one turn at a time.
use Rattle.std.proofs.Common.{◌≡◌, ℕ, zero, suc, ◌+◌, ◌-◌, ◌*◌, ◌<◌, ◌≤◌, List, [], ◌∷◌, ◌++◌, length, take, drop, get_or, set, replicate, sym, ap, ◌∙◌, subst, arith, add-one}
use Rattle.std.proofs.lemmas.List.{length-append, length-take-le, length-drop, append_assoc, take_more_set, length-set, drop_all, append-nil, replicate-append-replicate}
use Rattle.std.proofs.lemmas.List.FromFn.{map-range_with_len_more, length-map-range_with_len}
use Rattle.std.proofs.lemmas.Option.{slice_get-get_or, slice_get_past}
use Rattle.std.proofs.lemmas.Slice.{take-put_mid}
use borrow.Rule.Slice.PartMut.{put_mid}
use Rattle.step_counts.specs.declared.TheConstants.{ITEM_WORDS}
use Rattle.plain_map.specs.declared.keys.Pair.{Pair}
use Rattle.plain_map.specs.declared.keys.TheConstants.{KEY_WORDS}
use Rattle.word_rows.specs.Blocks.{blocks, block, first_values}
use Rattle.word_rows.specs.KeyWords.{words_of_pair, pair_of_words}
use Rattle.plain_map.specs.Updates.{IsSmallPair}
use Rattle.word_rows.specs.BucketPlaces.{ItemStands}
use Rattle.word_rows.specs.BucketWords.{item_place, item_words}
use Rattle.word_rows.proofs.BlockLemmas.{blocks_more, get_or-block}

-- with one part more
pub blocks_next : (part : ℕ → List ℕ) (n : ℕ) → blocks part (n + 1) ≡ blocks part n ++ part n
blocks_next part n = ap (blocks part) (add-one n) ∙ blocks_more part n

-- with one value more
pub first_values_next : {A : Type 0} → (f : ℕ → A) (n : ℕ) → first_values f (n + 1) ≡ first_values f n ++ f n ∷ []
first_values_next f n = map-range_with_len_more f 0 n n (omega arith)

-- the first values are that many
pub length-first_values : {A : Type 0} → (f : ℕ → A) (n : ℕ) → length (first_values f n) ≡ n
length-first_values f n = length-map-range_with_len f 0 n

-- a place where there is an item has its words, and zeros where there is none
pub item_place_within : (items : List Pair) (i : ℕ) (d : Pair) → i < length items →
    item_place items i ≡ words_of_pair (get_or items i d)
item_place_within items i d h = rw (slice_get-get_or items i d h)

-- behind the last item stand zeros
pub item_place_past : (items : List Pair) (i : ℕ) → length items ≤ i → item_place items i ≡ replicate ITEM_WORDS 0
item_place_past items i h = rw (slice_get_past items i h)

-- what was written before a part and what is written there
pub put_part : (a k : ℕ) (out new : List ℕ) (n : ℕ) → length new ≡ k → a + k ≡ n → n ≤ length out →
    (length (put_mid a k out new) ≡ length out) × (take n (put_mid a k out new) ≡ take a out ++ new)
put_part a k out new n wide ends inside = (
  omega (
    arith,
    length-append (take a out) (new ++ drop k (drop a out)),
    length-append new (drop k (drop a out)),
    length-take-le a out (omega arith),
    length-drop k (drop a out),
    length-drop a out,
  ),
  take-put_mid a k out new n (omega arith) (omega arith),
)

-- one more item is written
pub item_written : (items : List Pair) (out new : List ℕ) (i k : ℕ) (d : Pair) →
    take (i * ITEM_WORDS) out ≡ blocks (item_place items) i → i < length items →
    new ≡ words_of_pair (get_or items i d) → i * ITEM_WORDS + k ≡ (i + 1) * ITEM_WORDS →
    (i + 1) * ITEM_WORDS ≤ length out → (length (put_mid (i * ITEM_WORDS) k out new) ≡ length out)
    × (take ((i + 1) * ITEM_WORDS) (put_mid (i * ITEM_WORDS) k out new) ≡ blocks (item_place items) (i + 1))
item_written items out new i k d before h is ends inside =
    let wide : length new ≡ k = omega (arith, ap length is) in
    let both = put_part (i * ITEM_WORDS) k out new ((i + 1) * ITEM_WORDS) wide ends inside in
    let place : new ≡ item_place items i = is ∙ sym (item_place_within items i d h) in (
      both.0,
      both.1 ∙ ap (λ xs. xs ++ new) before ∙ ap (λ xs. blocks (item_place items) i ++ xs) place
          ∙ sym (blocks_next (item_place items) i),
    )

-- the places after the items
pub places_padded : (items : List Pair) (m : ℕ) →
    blocks (item_place items) (length items + m) ≡ blocks (item_place items) (length items)
    ++ replicate (m * ITEM_WORDS) 0
places_padded items zero = ap (blocks (item_place items)) (omega arith)
    ∙ sym (append-nil (blocks (item_place items) (length items)))
places_padded items (suc m) =
    let part = item_place items in
    let count = length items in
    let more : blocks part (count + suc m) ≡ blocks part (count + m) ++ part (count + m) =
    (let e : count + suc m ≡ suc (count + m) = omega arith in ap (blocks part) e ∙ blocks_more part (count + m)) in
    let last : part (count + m) ≡ replicate ITEM_WORDS 0 = item_place_past items (count + m) (omega arith) in
    let joined : replicate (m * ITEM_WORDS) 0 ++ replicate ITEM_WORDS 0 ≡ replicate (suc m * ITEM_WORDS) 0 =
    (let e : m * ITEM_WORDS + ITEM_WORDS ≡ suc m * ITEM_WORDS = omega arith in
    replicate-append-replicate (m * ITEM_WORDS) ITEM_WORDS 0 ∙ ap (λ n. replicate n 0) e) in
    more ∙ ap (λ xs. xs ++ part (count + m)) (places_padded items m)
    ∙ ap (λ xs. (blocks part count ++ replicate (m * ITEM_WORDS) 0) ++ xs) last
    ∙ append_assoc (blocks part count) (replicate (m * ITEM_WORDS) 0) (replicate ITEM_WORDS 0)
    ∙ ap (λ xs. blocks part count ++ xs) joined

-- after the last item come zeros
pub items_written : (items : List Pair) (room : ℕ) (out zeros : List ℕ) →
    take (length items * ITEM_WORDS) out ≡ blocks (item_place items) (length items) → length items ≤ room →
    length out ≡ room * ITEM_WORDS → zeros ≡ replicate (length out - length items * ITEM_WORDS) 0 →
    put_mid (length items * ITEM_WORDS) (length out - length items * ITEM_WORDS) out zeros ≡ item_words room items
items_written items room out zeros before fit long is =
    let count = length items in
    let a : ℕ = count * ITEM_WORDS in
    let m : ℕ = room - count in
    let rest : length out - a ≡ m * ITEM_WORDS = omega arith in
    let none : drop (length out - a) (drop a out) ≡ [] =
    drop_all (length out - a) (drop a out) (omega (arith, length-drop a out)) in
    let whole : count + m ≡ room = omega arith in
    let front : List ℕ = blocks (item_place items) count in
    let cut : put_mid a (length out - a) out zeros ≡ take a out ++ zeros =
    ap (λ (xs : List ℕ). take a out ++ (zeros ++ xs)) none
    ∙ ap (λ (xs : List ℕ). take a out ++ xs) (append-nil zeros) in
    let filled : zeros ≡ replicate (m * ITEM_WORDS) 0 = is ∙ ap (λ (n : ℕ). replicate n 0) rest in
    let joined : take a out ++ zeros ≡ front ++ replicate (m * ITEM_WORDS) 0 =
    ap (λ (xs : List ℕ). xs ++ zeros) before ∙ ap (λ (xs : List ℕ). front ++ xs) filled in
    cut ∙ joined ∙ sym (places_padded items m) ∙ ap (blocks (item_place items)) whole

-- one more seat is written
pub seat_written : (part : ℕ → List ℕ) (out : List ℕ) (s a r : ℕ) → take (s * 2) out ≡ blocks part s →
    part s ≡ a ∷ r ∷ [] → (s + 1) * 2 ≤ length out →
    take ((s + 1) * 2) (set (set out (s * 2) a) (s * 2 + 1) r) ≡ blocks part (s + 1)
seat_written part out s a r before is inside =
    let with_number : List ℕ = set out (s * 2) a in
    let number : take (s * 2 + 1) with_number ≡ take (s * 2) out ++ a ∷ [] =
    take_more_set out (s * 2) a (omega arith) in
    let reply : take (s * 2 + 1 + 1) (set with_number (s * 2 + 1) r) ≡ take (s * 2 + 1) with_number ++ r ∷ [] =
    take_more_set with_number (s * 2 + 1) r (omega (arith, length-set out (s * 2) a)) in
    let places : (s + 1) * 2 ≡ s * 2 + 1 + 1 = omega arith in
    ap (λ n. take n (set with_number (s * 2 + 1) r)) places ∙ reply ∙ ap (λ xs. xs ++ r ∷ []) number
    ∙ append_assoc (take (s * 2) out) (a ∷ []) (r ∷ [])
    ∙ ap (λ xs. xs ++ a ∷ r ∷ []) before ∙ ap (λ xs. blocks part s ++ xs) (sym is) ∙ sym (blocks_next part s)

-- one more item is read
pub item_read : (words : List ℕ) (i k : ℕ) (pair : Pair) → i * ITEM_WORDS + k ≡ (i + 1) * ITEM_WORDS →
    take k (drop (i * ITEM_WORDS) words) ≡ words_of_pair pair →
    (pair ≡ pair_of_words (block ITEM_WORDS i words)) × (get_or words (i * ITEM_WORDS + KEY_WORDS) 0 ≡ pair.value)
    × (get_or words (i * ITEM_WORDS + (KEY_WORDS + 1)) 0 ≡ pair.bytes)
item_read words i k pair ends is =
    let wide : k ≡ ITEM_WORDS = omega arith in
    let part : block ITEM_WORDS i words ≡ words_of_pair pair =
    subst (λ n. take n (drop (i * ITEM_WORDS) words) ≡ words_of_pair pair) wide is in (
      sym (ap pair_of_words part),
      sym (get_or-block ITEM_WORDS i KEY_WORDS words (omega arith)) ∙ ap (λ xs. get_or xs KEY_WORDS 0) part,
      sym (get_or-block ITEM_WORDS i (KEY_WORDS + 1) words (omega arith))
          ∙ ap (λ xs. get_or xs (KEY_WORDS + 1) 0) part,
    )

-- an item that is read can be kept exactly where its words stand
pub item_stands : (words : List ℕ) (i : ℕ) (pair : Pair) → get_or words (i * ITEM_WORDS + KEY_WORDS) 0 ≡ pair.value →
    get_or words (i * ITEM_WORDS + (KEY_WORDS + 1)) 0 ≡ pair.bytes →
    (IsSmallPair pair → ItemStands words i) × (ItemStands words i → IsSmallPair pair)
item_stands words i pair value bytes = (
  λ small. (omega (arith, value, small.0), omega (arith, bytes, small.1)),
  λ stands. (omega (arith, value, stands.0), omega (arith, bytes, stands.1)),
)
