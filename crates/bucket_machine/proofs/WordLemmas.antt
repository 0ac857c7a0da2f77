-- The words of a row, cut where something is written.
use Rattle.std.proofs.Common.{◌≡◌, ℕ, zero, suc, ◌+◌, ◌-◌, ◌*◌, ◌^◌, ◌<◌, ◌≤◌, List, [], ◌∷◌, ◌++◌, length, take, drop, get_or, set, replicate, Option, Some, None, Bool, true, false, cond, refl, sym, ap, ◌∙◌, arith}
use Rattle.std.proofs.lemmas.List.{length-append, append_assoc, append-nil, set-append_right, take_at, drop_at, drop-drop, get_or-drop, length-drop, length-take-le, take-append-drop, replicate-append-replicate, set_split}
use Rattle.std.proofs.Math.Seq.{drop-cons}
use borrow.Rule.Slice.PartMut.{put_mid}
use Rattle.std.specs.List.{remove}
use Rattle.std.proofs.lemmas.List.Elements.{All-append, All-cons, All-nil, All-set, All-take, All-drop}
use Rattle.std.proofs.lemmas.List.Edits.{length-remove}
use Rattle.std.specs.Prelude.{◌&&◌, ◌≢◌}
use Rattle.step_counts.specs.declared.TheConstants.{ITEM_WORDS}
use Rattle.step_counts.specs.declared.settings.Settings.{Settings}
use Rattle.plain_map.specs.declared.calls.Reply.{Reply}
use Rattle.plain_map.specs.declared.keys.Pair.{Pair}
use Rattle.plain_map.specs.Rows.{BucketContent}
use Rattle.plain_map.specs.declared.keys.Key.{Key}
use Rattle.plain_map.specs.declared.keys.TheConstants.{KEY_WORDS}
use Rattle.plain_map.specs.Keys.{held_in, no_pair}
use Rattle.plain_map.specs.Updates.{IsSmallPair}
use Rattle.std.proofs.Math.ListN.{length-set}
use Rattle.bucket_states.specs.Items.{same_key, changed_in, value_at, with_change, without}
use Rattle.bucket_states.specs.Places.{IsPlaceOf}
use Rattle.word_rows.specs.Blocks.{blocks}
use Rattle.word_rows.specs.KeyWords.{words_of_pair, pair_of_words}
use Rattle.word_rows.specs.ReplyWords.{word_of_reply}
use Rattle.word_rows.specs.BucketWords.{AreItems, word_of_flag, item_place, item_words, seat_place, seat_words, head_words, words_of_bucket}
use Rattle.word_rows.proofs.BlockLemmas.{blocks_zero, blocks_more, block-blocks, get_or-block}
use Rattle.word_rows.specs.Blocks.{block}
use Rattle.word_rows.proofs.PartLemmas.{places_padded}
use Rattle.word_rows.proofs.BucketLemmas.{length-item_words}
use Rattle.bucket_machine.specs.Rows.{bytes_set, value_set, with_bytes, with_value, with_pair, with_answer, with_items, without_place, HasPlaces, Spell}

-- a word is written behind the front
pub set_in : (front ys : List ℕ) (n k i v : ℕ) → length front ≡ n → i ≡ n + k →
    set (front ++ ys) i v ≡ front ++ set ys k v
set_in front ys n k i v long at =
    let rest : i - n ≡ k = omega (arith, at) in
    set-append_right front ys n i v long (omega (arith, at)) ∙ ap (λ (j : ℕ). front ++ set ys j v) rest

-- a part that is written over
put_over : (front rest back new : List ℕ) (a k : ℕ) → length front ≡ a → drop k rest ≡ back →
    put_mid a k (front ++ rest) new ≡ front ++ (new ++ back)
put_over front rest back new a k long is =
    let before : take a (front ++ rest) ≡ front = take_at front rest a long in
    let after : drop k (drop a (front ++ rest)) ≡ back = ap (drop k) (drop_at front rest a long) ∙ is in
    λ i. before i ++ (new ++ after i)

-- the first part stands first
pub blocks_cons : (part : ℕ → List ℕ) (n : ℕ) → blocks part (suc n) ≡ part 0 ++ blocks (λ i. part (suc i)) n
blocks_cons part zero = blocks_more part 0 ∙ ap (λ (xs : List ℕ). xs ++ part 0) (blocks_zero part)
    ∙ sym (append-nil (part 0)) ∙ ap (λ (xs : List ℕ). part 0 ++ xs) (sym (blocks_zero (λ i. part (suc i))))
blocks_cons part (suc n) =
    blocks_more part (suc n) ∙ ap (λ (xs : List ℕ). xs ++ part (suc n)) (blocks_cons part n)
    ∙ append_assoc (part 0) (blocks (λ i. part (suc i)) n) (part (suc n))
    ∙ ap (λ (xs : List ℕ). part 0 ++ xs) (sym (blocks_more (λ i. part (suc i)) n))

-- the words of items, with nothing after them
abbrev pub flat : List Pair → List ℕ
flat [] = []
flat (p ∷ ps) = words_of_pair p ++ flat ps

-- each item has so many words
pub length-flat : (items : List Pair) → length (flat items) ≡ ITEM_WORDS * length items
length-flat [] = refl
length-flat (p ∷ ps) = omega (arith, length-flat ps)

-- the words of two lists
pub flat-append : (xs ys : List Pair) → flat (xs ++ ys) ≡ flat xs ++ flat ys
flat-append [] ys = refl
flat-append (p ∷ xs) ys = ap (λ (ws : List ℕ). words_of_pair p ++ ws) (flat-append xs ys)

-- all places that have items
items_all : (items : List Pair) → blocks (item_place items) (length items) ≡ flat items
items_all [] = blocks_zero (item_place [])
items_all (p ∷ ps) = blocks_cons (item_place (p ∷ ps)) (length ps)
    ∙ ap (λ (ws : List ℕ). words_of_pair p ++ ws) (items_all ps)

-- the places of a row: items, and then zeros
pub items_flat : (items : List Pair) (m room : ℕ) → room ≡ length items + m →
    item_words room items ≡ flat items ++ replicate (m * ITEM_WORDS) 0
items_flat items m room is =
    ap (blocks (item_place items)) is ∙ places_padded items m
    ∙ ap (λ (ws : List ℕ). ws ++ replicate (m * ITEM_WORDS) 0) (items_all items)

-- a row: head, items, zeros, seats
pub words_flat : (settings : Settings) (b : BucketContent) (m : ℕ) → settings.items ≡ length b.items + m
    → words_of_bucket settings b ≡ head_words b
    ++ (flat b.items ++ (replicate (m * ITEM_WORDS) 0 ++ seat_words settings.seats b.applied b.replies))
words_flat settings b m is =
    let seats = seat_words settings.seats b.applied b.replies in
    ap (λ (ws : List ℕ). head_words b ++ (ws ++ seats)) (items_flat b.items m settings.items is)
    ∙ ap (λ (ws : List ℕ). head_words b ++ ws) (append_assoc (flat b.items) (replicate (m * ITEM_WORDS) 0) seats)

-- a seat's two words
pub seat_set : (n s k : ℕ) (applied : List ℕ) (replies : List (Option Reply)) (number : ℕ) (reply : Reply) → s < n →
    length applied ≡ n → length replies ≡ n → k ≡ s * 2
    → set (set (seat_words n applied replies) k number) (k + 1) (word_of_reply (Some reply)) ≡ seat_words n
    (set applied s number) (set replies s (Some reply))
seat_set zero s k applied replies number reply h a r e = absurd (omega (arith, h))
seat_set (suc n) s k [] replies number reply h a r e = absurd (omega (arith, a))
seat_set (suc n) s k (x ∷ xs) [] number reply h a r e = absurd (omega (arith, r))
seat_set (suc n) zero k (x ∷ xs) (y ∷ ys) number reply h a r e =
    let w = word_of_reply (Some reply) in
    let first : k ≡ 0 = omega (arith, e) in
    ap (λ (j : ℕ). set (set (seat_words (suc n) (x ∷ xs) (y ∷ ys)) j number) (j + 1) w) first
    ∙ ap (λ (ws : List ℕ). set (set ws 0 number) 1 w) (blocks_cons (seat_place (x ∷ xs) (y ∷ ys)) n)
    ∙ sym (blocks_cons (seat_place (number ∷ xs) (Some reply ∷ ys)) n)
seat_set (suc n) (suc s) k (x ∷ xs) (y ∷ ys) number reply h a r e =
    let w = word_of_reply (Some reply) in
    let j : ℕ = s * 2 in
    let next : k ≡ suc (suc j) = omega (arith, e) in
    ap (λ (i : ℕ). set (set (seat_words (suc n) (x ∷ xs) (y ∷ ys)) i number) (i + 1) w) next
    ∙ ap (λ (ws : List ℕ). set (set ws (suc (suc j)) number) (suc (suc j) + 1) w)
    (blocks_cons (seat_place (x ∷ xs) (y ∷ ys)) n)
    ∙ (let more : suc (suc j) + 1 ≡ suc (suc (j + 1)) = omega arith in
    ap (λ (i : ℕ). set (x ∷ word_of_reply y ∷ set (seat_words n xs ys) j number) i w) more)
    ∙ ap (λ (ws : List ℕ). x ∷ word_of_reply y ∷ ws)
    (seat_set n s j xs ys number reply (omega (arith, h)) (omega (arith, a)) (omega (arith, r)) refl)
    ∙ sym (blocks_cons (seat_place (x ∷ set xs s number) (y ∷ set ys s (Some reply))) n)

-- a seat's words in the row
pub answered_in : (settings : Settings) (b : BucketContent) (seat at : ℕ) (number : ℕ) (reply : Reply)
    (row : List ℕ) → row ≡ words_of_bucket settings b
    → seat < settings.seats → length b.applied ≡ settings.seats → length b.replies ≡ settings.seats →
    at ≡ 5 + ITEM_WORDS * settings.items + 2 * seat
    → set (set row at number) (at + 1) (word_of_reply (Some reply)) ≡ words_of_bucket settings
    (with_answer seat number reply b)
answered_in settings b seat at number reply row is h a r e =
    let w = word_of_reply (Some reply) in
    let seats = seat_words settings.seats b.applied b.replies in
    let items = item_words settings.items b.items in
    let front : List ℕ = head_words b ++ items in
    let n : ℕ = 5 + settings.items * ITEM_WORDS in
    let long : length front ≡ n = omega (arith, length-item_words settings.items b.items) in
    let k : ℕ = seat * 2 in
    ap (λ (ws : List ℕ). set (set ws at number) (at + 1) w) is
    ∙ ap (λ (ws : List ℕ). set ws (at + 1) w) (set_in front seats n k at number long (omega (arith, e)))
    ∙ set_in front (set seats k number) n (k + 1) (at + 1) w long (omega (arith, e))
    ∙ ap (λ (ws : List ℕ). front ++ ws) (seat_set settings.seats seat k b.applied b.replies number reply h a r refl)

-- room for one item more, and the rest
zeros_more : (m : ℕ) (seats : List ℕ) →
    replicate (suc m * ITEM_WORDS) 0 ++ seats ≡ replicate ITEM_WORDS 0 ++ (replicate (m * ITEM_WORDS) 0 ++ seats)
zeros_more m seats =
    let e : suc m * ITEM_WORDS ≡ ITEM_WORDS + m * ITEM_WORDS = omega arith in
    ap (λ (n : ℕ). replicate n 0 ++ seats) e
    ∙ ap (λ (ws : List ℕ). ws ++ seats) (sym (replicate-append-replicate ITEM_WORDS (m * ITEM_WORDS) 0))
    ∙ append_assoc (replicate ITEM_WORDS 0) (replicate (m * ITEM_WORDS) 0) seats

-- one more item
pub pushed : (settings : Settings) (b : BucketContent) (pair : Pair) (row new : List ℕ) (at k : ℕ) →
    row ≡ words_of_bucket settings b → length b.items < settings.items → at ≡ 5 + ITEM_WORDS * length b.items →
    k ≡ ITEM_WORDS → new ≡ words_of_pair pair
    → (let more = put_mid at k row new in set more 4 (get_or more 4 0 + 1)) ≡ words_of_bucket settings
    (with_pair pair b)
pushed settings b pair row new at k is few e wide are =
    let count : ℕ = length b.items in
    let m : ℕ = settings.items - count - 1 in
    let seats = seat_words settings.seats b.applied b.replies in
    let room : settings.items ≡ count + suc m = omega (arith, few) in
    let back : List ℕ = replicate (m * ITEM_WORDS) 0 ++ seats in
    let front : List ℕ = head_words b ++ flat b.items in
    let zeros : List ℕ = replicate ITEM_WORDS 0 in
    let whole : row ≡ front ++ (zeros ++ back) =
    is ∙ words_flat settings b (suc m) room ∙ ap (λ (ws : List ℕ). front ++ ws) (zeros_more m seats) in
    let long : length front ≡ at = omega (arith, e, length-flat b.items) in
    let written : put_mid at k row new ≡ front ++ (words_of_pair pair ++ back) =
    (λ i. put_mid at (wide i) (whole i) (are i))
    ∙ put_over front (zeros ++ back) back (words_of_pair pair) at ITEM_WORDS long refl in
    let now = with_pair pair b in
    let counted : count + 1 ≡ length (b.items ++ pair ∷ []) = omega (arith, length-append b.items (pair ∷ [])) in
    let left : settings.items ≡ length (b.items ++ pair ∷ []) + m =
    omega (arith, room, length-append b.items (pair ∷ [])) in
    let tail : flat (b.items ++ pair ∷ []) ++ back ≡ flat b.items ++ (words_of_pair pair ++ back) =
    ap (λ (ws : List ℕ). ws ++ back) (flat-append b.items (pair ∷ []))
    ∙ append_assoc (flat b.items) (words_of_pair pair) back in
    ap (λ (ws : List ℕ). set ws 4 (get_or ws 4 0 + 1)) written
    ∙ ap (λ (n : ℕ). set front 4 n ++ (words_of_pair pair ++ back)) counted
    ∙ ap (λ (ws : List ℕ). head_words now ++ ws) (sym tail)
    ∙ sym (words_flat settings now m left)

-- a list that is cut at an item
parts_at : (items : List Pair) (at : ℕ) → at < length items →
    (p : Pair) × (items ≡ take at items ++ p ∷ drop (suc at) items)
parts_at [] at h = absurd (omega (arith, h))
parts_at (p ∷ ps) zero h = (p, refl)
parts_at (p ∷ ps) (suc at) h = let r = parts_at ps at (omega (arith, h)) in (r.0, ap (λ (qs : List Pair). p ∷ qs) r.1)

-- one item less: what stands behind it is moved up over it, and zeros come after the last
closed_up : (settings : Settings) (b : BucketContent) (p : Pair) (xs ys : List Pair) (row : List ℕ)
    (start n m : ℕ) → row ≡ words_of_bucket settings b
    → b.items ≡ xs ++ p ∷ ys → settings.items ≡ length b.items + m → start ≡ 5 + ITEM_WORDS * length xs →
    n ≡ ITEM_WORDS * length ys
    → put_mid (start + n) ITEM_WORDS ((take start row ++ take n (drop (start + ITEM_WORDS) row))
    ++ drop (start + n) row) (replicate ITEM_WORDS 0)
    ≡ head_words b ++ (flat (xs ++ ys) ++ (replicate (suc m * ITEM_WORDS) 0
    ++ seat_words settings.seats b.applied b.replies))
closed_up settings b p xs ys row start n m is parts room e f =
    let seats = seat_words settings.seats b.applied b.replies in
    let back : List ℕ = replicate (m * ITEM_WORDS) 0 ++ seats in
    let front : List ℕ = head_words b ++ flat xs in
    let mid : List ℕ = words_of_pair p in
    let zeros : List ℕ = replicate ITEM_WORDS 0 in
    let cut : flat b.items ≡ flat xs ++ (mid ++ flat ys) = ap flat parts ∙ flat-append xs (p ∷ ys) in
    let whole : row ≡ front ++ (mid ++ (flat ys ++ back)) =
    is ∙ words_flat settings b m room ∙ ap (λ (ws : List ℕ). head_words b ++ (ws ++ back)) cut
    ∙ ap (λ (ws : List ℕ). head_words b ++ ws) (append_assoc (flat xs) (mid ++ flat ys) back) in
    let long : length front ≡ start = omega (arith, e, length-flat xs) in
    let wide : length (flat ys) ≡ n = omega (arith, f, length-flat ys) in
    let before : take start row ≡ front = ap (take start) whole ∙ take_at front (mid ++ (flat ys ++ back)) start long in
    let shift : front ++ (mid ++ (flat ys ++ back)) ≡ (front ++ mid) ++ (flat ys ++ back) =
    sym (append_assoc front mid (flat ys ++ back)) in
    let next : ℕ = start + ITEM_WORDS in
    let over : length (front ++ mid) ≡ next = omega (arith, long, length-append front mid) in
    let behind : drop next row ≡ flat ys ++ back =
    ap (drop next) (whole ∙ shift) ∙ drop_at (front ++ mid) (flat ys ++ back) next over in
    let moved : take n (drop next row) ≡ flat ys = ap (take n) behind ∙ take_at (flat ys) back n wide in
    let rest : List ℕ = drop (start + n) row in
    let end : drop ITEM_WORDS rest ≡ back =
    drop-drop ITEM_WORDS (start + n) row
    ∙ (let j : start + n + ITEM_WORDS ≡ next + n = omega arith in ap (λ (k : ℕ). drop k row) j)
    ∙ sym (drop-drop n next row) ∙ ap (drop n) behind ∙ drop_at (flat ys) back n wide in
    let joined : length (front ++ flat ys) ≡ start + n = omega (arith, long, wide, length-append front (flat ys)) in
    (λ i. put_mid (start + n) ITEM_WORDS ((before i ++ moved i) ++ rest) zeros)
    ∙ put_over (front ++ flat ys) rest back zeros (start + n) ITEM_WORDS joined end
    ∙ ap (λ (ws : List ℕ). (front ++ flat ys) ++ ws) (sym (zeros_more m seats))
    ∙ ap (λ (ws : List ℕ). head_words b ++ (ws ++ (replicate (suc m * ITEM_WORDS) 0 ++ seats)))
    (sym (flat-append xs ys))

-- an item is taken out of a row
pub removed : (settings : Settings) (b : BucketContent) (at count : ℕ) (row copied new : List ℕ) (from k j : ℕ) →
    row ≡ words_of_bucket settings b → length b.items ≤ settings.items → at < length b.items → count ≡ length b.items
    → (let start = 5 + ITEM_WORDS * at in let n = 5 + ITEM_WORDS * count - (start + ITEM_WORDS) in
    copied ≡ (take start row ++ take n (drop (start + ITEM_WORDS) row)) ++ drop (start + n) row)
    → from ≡ 5 + ITEM_WORDS * count - ITEM_WORDS → k ≡ ITEM_WORDS → j ≡ ITEM_WORDS →
    new ≡ replicate j 0
    → (let less = put_mid from k copied new in
    set less 4 (get_or less 4 0 - 1)) ≡ words_of_bucket settings (without_place at b)
removed settings b at count row copied new from k j is fit inside counted made there wide long nothing =
    let start : ℕ = 5 + ITEM_WORDS * at in
    let n : ℕ = 5 + ITEM_WORDS * count - (start + ITEM_WORDS) in
    let r = parts_at b.items at inside in
    let xs : List Pair = take at b.items in
    let ys : List Pair = drop (suc at) b.items in
    let m : ℕ = settings.items - length b.items in
    let seats = seat_words settings.seats b.applied b.replies in
    let few : length xs ≡ at = length-take-le at b.items (omega (arith, inside)) in
    let rest : length ys ≡ length b.items - suc at = length-drop (suc at) b.items in
    let last : from ≡ start + n = omega (arith, inside, counted, there) in
    let zeros : new ≡ replicate ITEM_WORDS 0 = nothing ∙ ap (λ (n : ℕ). replicate n 0) long in
    let closed : put_mid from k copied new
    ≡ head_words b ++ (flat (xs ++ ys) ++ (replicate (suc m * ITEM_WORDS) 0 ++ seats)) =
    (λ i. put_mid (last i) (wide i) (made i) (zeros i))
    ∙ closed_up settings b r.0 xs ys row start n m is r.1 (omega (arith, fit)) (omega (arith, few))
    (omega (arith, rest, counted, inside)) in
    let less : length b.items - 1 ≡ length (xs ++ ys) = omega (arith, length-append xs ys, few, rest, inside) in
    ap (λ (ws : List ℕ). set ws 4 (get_or ws 4 0 - 1)) closed
    ∙ ap (λ (k : ℕ). set (head_words b) 4 k ++ (flat (xs ++ ys) ++ (replicate (suc m * ITEM_WORDS) 0 ++ seats))) less
    ∙ sym (words_flat settings (without_place at b) (suc m) (omega (arith, fit, less, inside)))

-- a row from an item on
item_in : (settings : Settings) (b : BucketContent) (row : List ℕ) (i at : ℕ) (d : Pair) →
    row ≡ words_of_bucket settings b → length b.items ≤ settings.items → i < length b.items → at ≡ 5 + ITEM_WORDS * i
    → (rest : List ℕ) × (drop at row ≡ words_of_pair (get_or b.items i d) ++ rest)
item_in settings b row i at d is fit h e =
    let m : ℕ = settings.items - length b.items in
    let back : List ℕ = replicate (m * ITEM_WORDS) 0 ++ seat_words settings.seats b.applied b.replies in
    let xs : List Pair = take i b.items in
    let ys : List Pair = drop i b.items in
    let front : List ℕ = head_words b ++ flat xs in
    let few : length xs ≡ i = length-take-le i b.items (omega (arith, h)) in
    let cut : flat b.items ≡ flat xs ++ flat ys = ap flat (sym (take-append-drop i b.items)) ∙ flat-append xs ys in
    let whole : row ≡ front ++ (flat ys ++ back) =
    is ∙ words_flat settings b m (omega (arith, fit)) ∙ ap (λ (ws : List ℕ). head_words b ++ (ws ++ back)) cut
    ∙ ap (λ (ws : List ℕ). head_words b ++ ws) (append_assoc (flat xs) (flat ys) back) in
    let long : length front ≡ at = omega (arith, e, few, length-flat xs) in (
      flat (drop (suc i) b.items) ++ back,
      ap (drop at) whole ∙ drop_at front (flat ys ++ back) at long
          ∙ ap (λ (zs : List Pair). flat zs ++ back) (drop-cons b.items i d h),
    )

-- it, by the words that spell it
pub pair_in_row : (settings : Settings) (b : BucketContent) (row : List ℕ) (i at k : ℕ) (d : Pair) (pair : Pair) →
    row ≡ words_of_bucket settings b → length b.items ≤ settings.items → i < length b.items →
    at ≡ 5 + ITEM_WORDS * i → k ≡ ITEM_WORDS → take k (drop at row) ≡ words_of_pair pair → pair ≡ get_or b.items i d
pair_in_row settings b row i at k d pair is fit h e wide read =
    let r = item_in settings b row i at d is fit h e in
    ap pair_of_words (sym read ∙ (λ j. take (wide j) (r.1 j)))

-- a word of an item is written
word_in_row : (settings : Settings) (b : BucketContent) (row : List ℕ) (i at k v : ℕ) (q : Pair) →
    ((tail : List ℕ) → set (words_of_pair (get_or b.items i no_pair) ++ tail) k v ≡ words_of_pair q ++ tail) →
    row ≡ words_of_bucket settings b → length b.items ≤ settings.items → i < length b.items →
    at ≡ 5 + ITEM_WORDS * i + k → set row at v ≡ words_of_bucket settings (with_items (set b.items i q) b)
word_in_row settings b row i at k v q writes is fit h e =
    let m : ℕ = settings.items - length b.items in
    let back : List ℕ = replicate (m * ITEM_WORDS) 0 ++ seat_words settings.seats b.applied b.replies in
    let xs : List Pair = take i b.items in
    let p : Pair = get_or b.items i no_pair in
    let zs : List Pair = drop (suc i) b.items in
    let front : List ℕ = head_words b ++ flat xs in
    let few : length xs ≡ i = length-take-le i b.items (omega (arith, h)) in
    let items_are : b.items ≡ xs ++ p ∷ zs =
    sym (take-append-drop i b.items) ∙ ap (λ (ys : List Pair). xs ++ ys) (drop-cons b.items i no_pair h) in
    let cut : flat b.items ≡ flat xs ++ flat (p ∷ zs) = ap flat items_are ∙ flat-append xs (p ∷ zs) in
    let whole : row ≡ front ++ (flat (p ∷ zs) ++ back) =
    is ∙ words_flat settings b m (omega (arith, fit)) ∙ ap (λ (ws : List ℕ). head_words b ++ (ws ++ back)) cut
    ∙ ap (λ (ws : List ℕ). head_words b ++ ws) (append_assoc (flat xs) (flat (p ∷ zs)) back) in
    let n : ℕ = 5 + ITEM_WORDS * i in
    let long : length front ≡ n = omega (arith, few, length-flat xs) in
    let written : set row at v ≡ front ++ (flat (q ∷ zs) ++ back) =
    ap (λ (ws : List ℕ). set ws at v) whole
    ∙ set_in front (flat (p ∷ zs) ++ back) n k at v long (omega (arith, e))
    ∙ ap (λ (ws : List ℕ). front ++ ws) (writes (flat zs ++ back)) in
    let now : set b.items i q ≡ xs ++ q ∷ zs = set_split b.items i q h in
    let same : flat (set b.items i q) ≡ flat xs ++ flat (q ∷ zs) = ap flat now ∙ flat-append xs (q ∷ zs) in
    let many : length (set b.items i q) ≡ length b.items = length-set b.items i q in
    written ∙ ap (λ (ws : List ℕ). head_words b ++ ws) (sym (append_assoc (flat xs) (flat (q ∷ zs)) back))
    ∙ ap (λ (ws : List ℕ). head_words b ++ (ws ++ back)) (sym same)
    ∙ ap (λ (k : ℕ). set (head_words b) 4 k ++ (flat (set b.items i q) ++ back)) (sym many)
    ∙ sym (words_flat settings (with_items (set b.items i q) b) m (omega (arith, fit, many)))

-- its bytes
pub bytes_in_row : (settings : Settings) (b : BucketContent) (row : List ℕ) (i at bytes : ℕ) →
    row ≡ words_of_bucket settings b → length b.items ≤ settings.items → i < length b.items →
    at ≡ 5 + ITEM_WORDS * i + (KEY_WORDS + 1) → set row at bytes ≡ words_of_bucket settings (with_bytes i bytes b)
bytes_in_row settings b row i at bytes is fit h e = word_in_row settings b row i at (KEY_WORDS + 1) bytes
    (bytes_set (get_or b.items i no_pair) bytes) (λ tail. refl) is fit h e

-- and its value
pub value_in_row : (settings : Settings) (b : BucketContent) (row : List ℕ) (i at value : ℕ) →
    row ≡ words_of_bucket settings b → length b.items ≤ settings.items → i < length b.items →
    at ≡ 5 + ITEM_WORDS * i + KEY_WORDS → set row at value ≡ words_of_bucket settings (with_value i value b)
value_in_row settings b row i at value is fit h e = word_in_row settings b row i at KEY_WORDS value
    (value_set (get_or b.items i no_pair) value) (λ tail. refl) is fit h e

-- ---- a key among items that are gone through one by one

-- the key was not among the items before, and is here
pub placed_here : (key : Key) (items : List Pair) (i : ℕ) (d : Pair) → i < length items →
    value_at key (take i items) ≡ None → same_key (get_or items i d).key key ≡ true → IsPlaceOf key items i
placed_here key [] i d h none is = absurd (omega (arith, h))
placed_here key (p ∷ ps) zero d h none is = record {
  in_range = omega arith;
  value = λ d. ap (λ (t : Bool). cond t (Some (held_in p)) (value_at key ps)) is;
  rest = ap (λ (t : Bool). cond t ps (p ∷ without key ps)) is;
  other = λ d change. ap (λ (t : Bool). cond t (with_change change p ∷ ps) (p ∷ changed_in key change ps)) is;
}
placed_here key (p ∷ ps) (suc i) d h none is =
    by (same_key p.key key) refl none (λ none. placed_here key ps i d (omega (arith, h)) none is)
  where
    by : (t : Bool) → same_key p.key key ≡ t → cond t (Some (held_in p)) (value_at key (take i ps)) ≡ None →
        (value_at key (take i ps) ≡ None → IsPlaceOf key ps i) → IsPlaceOf key (p ∷ ps) (suc i)
    by true e none more = cc
    by false e none more =
        let there = more none in
        record {
          in_range = omega (arith, there.in_range);
          value = λ d. ap (λ (t : Bool). cond t (Some (held_in p)) (value_at key ps)) e ∙ there.value d;
          rest = ap (λ (t : Bool). cond t ps (p ∷ without key ps)) e ∙ ap (λ (qs : List Pair). p ∷ qs) there.rest;
          other = λ d change.
              ap (λ (t : Bool). cond t (with_change change p ∷ ps) (p ∷ changed_in key change ps)) e
              ∙ ap (λ (qs : List Pair). p ∷ qs) (there.other d change);
        }

-- it is not among one item more
pub none_more : (key : Key) (items : List Pair) (i : ℕ) (d : Pair) → i < length items →
    value_at key (take i items) ≡ None → same_key (get_or items i d).key key ≡ false →
    value_at key (take (i + 1) items) ≡ None
none_more key [] i d h none is = absurd (omega (arith, h))
none_more key (p ∷ ps) zero d h none is = ap (λ (t : Bool). cond t (Some (held_in p)) None) is
none_more key (p ∷ ps) (suc i) d h none is =
    let e : suc i + 1 ≡ suc (i + 1) = omega arith in
    ap (λ (n : ℕ). value_at key (take n (p ∷ ps))) e
    ∙ by (same_key p.key key) none (λ none. none_more key ps i d (omega (arith, h)) none is)
  where
    by : (t : Bool) → cond t (Some (held_in p)) (value_at key (take i ps)) ≡ None →
        (value_at key (take i ps) ≡ None → value_at key (take (i + 1) ps) ≡ None) →
        cond t (Some (held_in p)) (value_at key (take (i + 1) ps)) ≡ None
    by true none more = cc
    by false none more = more none

-- two tests, the second of which is known
pub both_true : (s t : Bool) → t ≡ true → s ≡ (s && t)
both_true true t is = sym is
both_true false t is = refl

-- and where the second fails
pub both_false : (s t : Bool) → t ≡ false → t ≡ (s && t)
both_false true t is = refl
both_false false t is = is

-- ---- the places after a change

-- a bucket with other items
pub with_places : (settings : Settings) (b : BucketContent) (left : List Pair) → HasPlaces settings b →
    AreItems settings.items left → HasPlaces settings (with_items left b)
with_places settings b left h items = record {
  depth = h.depth;
  items = items;
  applied = h.applied;
  replies = h.replies;
}

-- one item more can be kept
pub items_pushed : (room : ℕ) (items : List Pair) (pair : Pair) → AreItems room items → length items < room →
    IsSmallPair pair → AreItems room (items ++ pair ∷ [])
items_pushed room items pair h few small = record {
  fit = omega (arith, few, length-append items (pair ∷ []));
  values = All-append IsSmallPair items (pair ∷ []) h.values
      (All-cons IsSmallPair pair [] small (All-nil IsSmallPair));
}

-- so can one less
pub items_removed : (room : ℕ) (items : List Pair) (at : ℕ) → AreItems room items → at < length items →
    AreItems room (remove items at)
items_removed room items at h inside = record {
  fit = omega (arith, h.fit, length-remove items at inside);
  values = All-append IsSmallPair (take at items) (drop (suc at) items)
      (All-take IsSmallPair at items h.values)
      (All-drop IsSmallPair (suc at) items h.values);
}

-- and so can the items with another in the place of one
items_set : (room : ℕ) (items : List Pair) (at : ℕ) (q : Pair) → AreItems room items → IsSmallPair q →
    AreItems room (set items at q)
items_set room items at q h small = record {
  fit = omega (arith, h.fit, length-set items at q);
  values = All-set IsSmallPair items at q small h.values;
}

-- as with so many bytes in one
pub items_counted : (room : ℕ) (items : List Pair) (at bytes : ℕ) → AreItems room items → at < length items →
    bytes < 2 ^ 61 → AreItems room (set items at (bytes_set (get_or items at no_pair) bytes))
items_counted room items at bytes h inside small =
    items_set room items at (bytes_set (get_or items at no_pair) bytes) h ((h.values at no_pair inside).0, small)

-- or with another value
pub items_valued : (room : ℕ) (items : List Pair) (at value : ℕ) → AreItems room items → at < length items →
    value < 2 ^ 61 → AreItems room (set items at (value_set (get_or items at no_pair) value))
items_valued room items at value h inside small =
    items_set room items at (value_set (get_or items at no_pair) value) h (small, (h.values at no_pair inside).1)

-- a value that stands in the items is small
pub small_at : (room : ℕ) (items : List Pair) (at v : ℕ) (d : Pair) → AreItems room items → at < length items →
    v ≡ (get_or items at d).value → v < 2 ^ 61
small_at room items at v d h inside is = let small = h.values at d inside in omega (arith, is, small.0)

-- ---- what a row's words tell

-- a seat's number among the words of the seats
seat_get : (n s k : ℕ) (applied : List ℕ) (replies : List (Option Reply)) → s < n → k ≡ s * 2 →
    get_or (seat_words n applied replies) k 0 ≡ get_or applied s 0
seat_get n s k applied replies h e =
    let words : List ℕ = seat_words n applied replies in
    let part : block 2 s words ≡ seat_place applied replies s =
    block-blocks 2 (seat_place applied replies) n s (λ i. refl) h in
    let at : k ≡ s * 2 + 0 = omega (arith, e) in
    ap (λ (j : ℕ). get_or words j 0) at ∙ sym (get_or-block 2 s 0 words (omega arith))
    ∙ ap (λ (xs : List ℕ). get_or xs 0 0) part

-- and in a row
pub number_in : (settings : Settings) (b : BucketContent) (row : List ℕ) (seat at : ℕ) →
    row ≡ words_of_bucket settings b → seat < settings.seats → at ≡ 5 + ITEM_WORDS * settings.items + 2 * seat →
    get_or row at 0 ≡ get_or b.applied seat 0
number_in settings b row seat at is h e =
    let seats : List ℕ = seat_words settings.seats b.applied b.replies in
    let front : List ℕ = head_words b ++ item_words settings.items b.items in
    let n : ℕ = 5 + settings.items * ITEM_WORDS in
    let k : ℕ = seat * 2 in
    let long : length front ≡ n = omega (arith, length-item_words settings.items b.items) in
    let there : at ≡ n + k = omega (arith, e) in
    ap (λ (ws : List ℕ). get_or ws at 0) is ∙ ap (λ (j : ℕ). get_or (front ++ seats) j 0) there
    ∙ sym (get_or-drop n (front ++ seats) k 0)
    ∙ ap (λ (ws : List ℕ). get_or ws k 0) (drop_at front seats n long)
    ∙ seat_get settings.seats seat k b.applied b.replies h refl

-- the mark is 1 where it is frozen
flag_true : (f : Bool) → word_of_flag f ≡ 1 → f ≡ true
flag_true true e = refl
flag_true false e = absurd (omega (arith, e))

-- and else not
flag_false : (f : Bool) → word_of_flag f ≢ 1 → f ≡ false
flag_false true e = absurd (e refl)
flag_false false e = refl

-- a frozen row
pub frozen_in : (settings : Settings) (b : BucketContent) (row : List ℕ) → row ≡ words_of_bucket settings b →
    get_or row 3 0 ≡ 1 → b.frozen ≡ true
frozen_in settings b row is e = flag_true b.frozen (sym (ap (λ (ws : List ℕ). get_or ws 3 0) is) ∙ e)

-- a row that is not frozen
pub live_in : (settings : Settings) (b : BucketContent) (row : List ℕ) → row ≡ words_of_bucket settings b →
    get_or row 3 0 ≢ 1 → b.frozen ≡ false
live_in settings b row is e = flag_false b.frozen (λ f. e (ap (λ (ws : List ℕ). get_or ws 3 0) is ∙ f))

-- the count of a row is at most the room
pub few_in : (settings : Settings) (b : BucketContent) (row : List ℕ) → Spell settings b row →
    get_or row 4 0 ≤ settings.items
few_in settings b row spells = (let e : get_or row 4 0 ≡ length b.items = ap
    (λ (ws : List ℕ). get_or ws 4 0) spells.words in omega (arith, e, spells.places.items.fit))

-- its depth is at most the greatest
pub depth_in : (settings : Settings) (b : BucketContent) (row : List ℕ) → Spell settings b row →
    get_or row 1 0 ≤ settings.depth
depth_in settings b row spells = (let e : get_or row 1 0 ≡ b.depth = ap
    (λ (ws : List ℕ). get_or ws 1 0) spells.words in omega (arith, e, spells.places.depth))
