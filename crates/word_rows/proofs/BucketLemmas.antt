-- A bucket row's words: what stands at each place spells the row, and what is spelled stands at each place.
use Rattle.std.proofs.Common.{◌≡◌, ℕ, zero, suc, ◌+◌, ◌-◌, ◌*◌, ◌/◌, ◌%◌, ◌^◌, ◌<◌, ◌≤◌, eqb, ◌↔◌, Bool, true, false, List, [], ◌∷◌, ◌++◌, length, take, drop, get_or, replicate, refl, sym, ap, ◌∙◌, subst, arith, inl, inr, Option, Some, None}
use Rattle.std.specs.List.{All}
use Rattle.std.proofs.lemmas.Bool.{cases_lt, cond_both}
use Rattle.std.proofs.lemmas.List.{length-append, length-take-le, length-drop, take_at, drop_at, drop-drop, get_or-drop, get_or-replicate, length-replicate, ext_get_or, same_lists, take-append-drop, append_assoc, get_or_default, take_rest, take-append-le}
use Rattle.std.proofs.lemmas.List.FromFn.{get_or-map-range_with_len}
use Rattle.step_counts.specs.declared.TheConstants.{ITEM_WORDS}
use Rattle.step_counts.specs.declared.settings.Settings.{Settings}
use Rattle.step_counts.specs.StepCounts.{bucket_row_words}
use Rattle.plain_map.specs.declared.calls.Reply.{Reply}
use Rattle.plain_map.specs.declared.calls.Reply.TheVariants.{New, Old, NoRoom, Gone, Found, Absent, Sum}
use Rattle.plain_map.specs.declared.keys.Pair.{Pair}
use Rattle.plain_map.specs.Rows.{BucketContent}
use Rattle.plain_map.specs.declared.keys.TheConstants.{KEY_WORDS}
use Rattle.plain_map.specs.Keys.{no_key}
use Rattle.word_rows.specs.Blocks.{blocks, block, first_values}
use Rattle.word_rows.specs.KeyWords.{words_of_pair, pair_of_words}
use Rattle.word_rows.specs.BaseWords.{word_of_base, base_of_word}
use Rattle.plain_map.specs.Updates.{IsUpdateReply, value_limit}
use Rattle.word_rows.specs.ReplyWords.{word_of_reply, reply_of_word, reply_of_kind}
use Rattle.word_rows.specs.BucketWords.{IsBucket, IsAnswered, AreItems, AreAnswered, SpellsBucket, word_of_flag, item_place, item_words, seat_place, seat_words, head_words, words_of_bucket, bucket_of_words, items_of_words, applied_of_words, replies_of_words, item_part, seat_part}
use Rattle.word_rows.specs.BucketPlaces.{BucketStands, HeadStands, ItemsStand, SeatStands, SeatsStand}
use Rattle.word_rows.proofs.BlockLemmas.{length-blocks, block-blocks, blocks_from_parts, get_or-block, block-append}
use Rattle.word_rows.proofs.DirectoryLemmas.{base_read, base_spelled, base_fits}
use Rattle.word_rows.proofs.PartLemmas.{length-first_values, item_place_within, item_place_past, places_padded}

-- no value at a place that is read past the end
no_pair : Pair
no_pair = record { key = no_key; value = 0; bytes = 0 }

-- a reply's word spells it
pub reply_read : (reply : Option Reply) → IsUpdateReply reply → reply_of_word (word_of_reply reply) ≡ reply
reply_read None h = refl
reply_read (Some New) h = refl
reply_read (Some (Old value)) h =
    let kind : (2 + 8 * value) % 8 ≡ 2 = omega arith in
    let rest : (2 + 8 * value) / 8 ≡ value = omega arith in
    ap (λ k. reply_of_kind k ((2 + 8 * value) / 8)) kind ∙ ap (λ (v : ℕ). Some (Old v)) rest
reply_read (Some NoRoom) h = refl
reply_read (Some (Gone value)) h =
    let kind : (4 + 8 * value) % 8 ≡ 4 = omega arith in
    let rest : (4 + 8 * value) / 8 ≡ value = omega arith in
    ap (λ k. reply_of_kind k ((4 + 8 * value) / 8)) kind ∙ ap (λ (v : ℕ). Some (Gone v)) rest
reply_read (Some (Found value)) h = absurd h
reply_read (Some Absent) h = refl
reply_read (Some (Sum total)) h =
    let kind : (6 + 8 * total) % 8 ≡ 6 = omega arith in
    let rest : (6 + 8 * total) / 8 ≡ total = omega arith in
    ap (λ k. reply_of_kind k ((6 + 8 * total) / 8)) kind ∙ ap (λ (v : ℕ). Some (Sum v)) rest

-- a reply that a word spells is one that a row may hold
pub reply_of_word_fits : (word : ℕ) → word < 2 ^ 64 → IsUpdateReply (reply_of_word word)
reply_of_word_fits word h =
    let kind : ℕ = word % 8 in
    let small : word / 8 < value_limit = omega arith in
    cond_both (eqb kind 1) _ _ IsUpdateReply (λ _. tt) (λ _.
    cond_both (eqb kind 2) _ _ IsUpdateReply (λ _. small) (λ _.
    cond_both (eqb kind 3) _ _ IsUpdateReply (λ _. tt) (λ _.
    cond_both (eqb kind 4) _ _ IsUpdateReply (λ _. small) (λ _.
    cond_both (eqb kind 5) _ _ IsUpdateReply (λ _. tt) (λ _.
    cond_both (eqb kind 6) _ _ IsUpdateReply (λ _. small) (λ _. tt))))))

-- a mark that is spelled is read
flag_read : (flag : Bool) → eqb (word_of_flag flag) 1 ≡ flag
flag_read true = refl
flag_read false = refl

-- a word of at most 1 spells the mark that it is read as
flag_spelled : (word : ℕ) → word ≤ 1 → word_of_flag (eqb word 1) ≡ word
flag_spelled zero h = refl
flag_spelled (suc zero) h = refl
flag_spelled (suc (suc word)) h = absurd (omega arith)

-- two words by their places
two_words : (words : List ℕ) → length words ≡ 2 → words ≡ get_or words 0 0 ∷ get_or words 1 0 ∷ []
two_words [] h = absurd (omega arith)
two_words (a ∷ []) h = absurd (omega arith)
two_words (a ∷ b ∷ []) h = refl
two_words (a ∷ b ∷ x ∷ words) h = absurd (omega arith)

-- an item by its words
pub pair_spelled : (words : List ℕ) → length words ≡ ITEM_WORDS → words_of_pair (pair_of_words words) ≡ words
pair_spelled [] h = absurd (omega arith)
pair_spelled (a ∷ []) h = absurd (omega arith)
pair_spelled (a ∷ b ∷ []) h = absurd (omega arith)
pair_spelled (a ∷ b ∷ c ∷ []) h = absurd (omega arith)
pair_spelled (a ∷ b ∷ c ∷ d ∷ []) h = absurd (omega arith)
pair_spelled (a ∷ b ∷ c ∷ d ∷ e ∷ []) h = absurd (omega arith)
pair_spelled (a ∷ b ∷ c ∷ d ∷ e ∷ f ∷ []) h = absurd (omega arith)
pair_spelled (a ∷ b ∷ c ∷ d ∷ e ∷ f ∷ g ∷ []) h = refl
pair_spelled (a ∷ b ∷ c ∷ d ∷ e ∷ f ∷ g ∷ x ∷ words) h = absurd (omega arith)

-- the head by its words
five_words : (words : List ℕ) → 5 ≤ length words →
    words ≡ get_or words 0 0 ∷ get_or words 1 0 ∷ get_or words 2 0 ∷ get_or words 3 0 ∷ get_or words 4 0 ∷ drop 5 words
five_words [] h = absurd (omega arith)
five_words (a ∷ []) h = absurd (omega arith)
five_words (a ∷ b ∷ []) h = absurd (omega arith)
five_words (a ∷ b ∷ c ∷ []) h = absurd (omega arith)
five_words (a ∷ b ∷ c ∷ d ∷ []) h = absurd (omega arith)
five_words (a ∷ b ∷ c ∷ d ∷ e ∷ words) h = refl

-- the value of a function at a place
first_values_at : {A : Type 0} → (f : ℕ → A) (n i : ℕ) (d : A) → i < n → get_or (first_values f n) i d ≡ f i
first_values_at f n i d h = get_or-map-range_with_len f 0 n i i d h (omega arith)

-- each place for an item has the words of one
item_place_wide : (items : List Pair) (i : ℕ) → length (item_place items i) ≡ ITEM_WORDS
item_place_wide items i = elim (cases_lt i (length items)) [
  | inl within ↦ ap length (item_place_within items i no_pair within)
  | inr past ↦ ap length (item_place_past items i past)
]

-- each seat has two words
seat_place_wide : (applied : List ℕ) (replies : List (Option Reply)) (seat : ℕ) →
    length (seat_place applied replies seat) ≡ 2
seat_place_wide applied replies seat = refl

-- the places for items have so many words
pub length-item_words : (room : ℕ) (items : List Pair) → length (item_words room items) ≡ room * ITEM_WORDS
length-item_words room items = length-blocks ITEM_WORDS (item_place items) room (item_place_wide items)

-- the seats have so many words
pub length-seat_words : (seats : ℕ) (applied : List ℕ) (replies : List (Option Reply)) →
    length (seat_words seats applied replies) ≡ seats * 2
length-seat_words seats applied replies = length-blocks 2 (seat_place applied replies) seats
    (seat_place_wide applied replies)

-- a part that lies where all words are 0
zero_block : (words : List ℕ) (from width i : ℕ) → All (λ word. word ≡ 0) (drop from words) → from ≤ i * width →
    i * width + width ≤ length words → block width i words ≡ replicate width 0
zero_block words from width i zeros after inside =
    let long : length (block width i words) ≡ width =
    length-take-le width (drop (i * width) words) (omega (arith, length-drop (i * width) words)) in
    ext_get_or 0 (block width i words) (replicate width 0) (long ∙ sym (length-replicate width 0)) (λ j h.
    let within : j < width = omega arith in
    let place : from + (i * width + j - from) ≡ i * width + j = omega arith in
    let zero_there : get_or (drop from words) (i * width + j - from) 0 ≡ 0 =
    zeros (i * width + j - from) 0 (omega (arith, length-drop from words)) in
    get_or-block width i j words within ∙ sym (ap (λ k. get_or words k 0) place)
    ∙ sym (get_or-drop from words (i * width + j - from) 0) ∙ zero_there
    ∙ sym (get_or-replicate width j 0 0 within))

-- items that stand are spelled
items_spelled : (room count : ℕ) (words : List ℕ) → count ≤ room → length words ≡ room * ITEM_WORDS →
    ItemsStand count words → words ≡ item_words room (items_of_words count words)
items_spelled room count words fit long stands =
    let items : List Pair = items_of_words count words in
    let counted : length items ≡ count = length-first_values (λ i. pair_of_words (block ITEM_WORDS i words)) count in
    blocks_from_parts ITEM_WORDS (item_place items) room words long (λ i h.
    let inside : i * ITEM_WORDS + ITEM_WORDS ≤ length words = omega arith in
    elim (cases_lt i count) [
      | inl within ↦
          let long_part : length (block ITEM_WORDS i words) ≡ ITEM_WORDS =
          length-take-le ITEM_WORDS (drop (i * ITEM_WORDS) words)
          (omega (arith, length-drop (i * ITEM_WORDS) words)) in
          let item : get_or items i no_pair ≡ pair_of_words (block ITEM_WORDS i words) =
          first_values_at (λ k. pair_of_words (block ITEM_WORDS k words)) count i no_pair within in
          sym (item_place_within items i no_pair (omega arith) ∙ ap words_of_pair item
          ∙ pair_spelled (block ITEM_WORDS i words) long_part)
      | inr past ↦ zero_block words (count * ITEM_WORDS) ITEM_WORDS i stands.zeros (omega arith) inside
          ∙ sym (item_place_past items i (omega arith))
    ])

-- words that stand for items give items that can be spelled
items_fit : (room count : ℕ) (words : List ℕ) → count ≤ room → ItemsStand count words →
    AreItems room (items_of_words count words)
items_fit room count words fit stands =
    let items : List Pair = items_of_words count words in
    let counted : length items ≡ count = length-first_values (λ i. pair_of_words (block ITEM_WORDS i words)) count in
    record {
      fit = omega arith;
      values = λ i d h.
          let within : i < count = omega arith in
          let item : get_or items i d ≡ pair_of_words (block ITEM_WORDS i words) =
          first_values_at (λ k. pair_of_words (block ITEM_WORDS k words)) count i d within in
          let small = stands.values i within in (
            omega (
              arith,
              ap (λ (p : Pair). p.value) item,
              get_or-block ITEM_WORDS i KEY_WORDS words (omega arith),
              small.0,
            ),
            omega (
              arith,
              ap (λ (p : Pair). p.bytes) item,
              get_or-block ITEM_WORDS i (KEY_WORDS + 1) words (omega arith),
              small.1,
            ),
          );
    }

-- seats that stand are spelled
seats_spelled : (seats : ℕ) (words : List ℕ) → length words ≡ seats * 2 → SeatsStand seats words →
    words ≡ seat_words seats (applied_of_words seats words) (replies_of_words seats words)
seats_spelled seats words long stands =
    let applied : List ℕ = applied_of_words seats words in
    let replies : List (Option Reply) = replies_of_words seats words in
    blocks_from_parts 2 (seat_place applied replies) seats words long (λ s h.
    let part : List ℕ = block 2 s words in
    let long_part : length part ≡ 2 = length-take-le 2 (drop (s * 2) words)
    (omega (arith, length-drop (s * 2) words)) in
    let number : get_or part 0 0 ≡ get_or applied s 0 =
    get_or-block 2 s 0 words (omega arith) ∙ ap (λ k. get_or words k 0) (omega arith)
    ∙ sym (first_values_at (λ k. get_or words (k * 2) 0) seats s 0 h) in
    let reply : get_or replies s None ≡ reply_of_word (get_or words (s * 2 + 1) 0) =
    first_values_at (λ k. reply_of_word (get_or words (k * 2 + 1) 0)) seats s None h in
    let word : get_or part 1 0 ≡ word_of_reply (get_or replies s None) =
    get_or-block 2 s 1 words (omega arith) ∙ sym (stands s h).spelled ∙ ap word_of_reply (sym reply) in
    two_words part long_part ∙ ap (λ (n : ℕ). n ∷ get_or part 1 0 ∷ []) number
    ∙ ap (λ (w : ℕ). get_or applied s 0 ∷ w ∷ []) word)

-- and words that stand for seats numbers and replies
seats_fit : (seats : ℕ) (words : List ℕ) → ((i : ℕ) → get_or words i 0 < 2 ^ 64) → SeatsStand seats words →
    AreAnswered seats (applied_of_words seats words) (replies_of_words seats words)
seats_fit seats words fits stands = record {
  each_number = length-first_values (λ k. get_or words (k * 2) 0) seats;
  each_reply = length-first_values (λ k. reply_of_word (get_or words (k * 2 + 1) 0)) seats;
  answered = λ s h.
      let number : get_or (applied_of_words seats words) s 0 ≡ get_or words (s * 2) 0 =
      first_values_at (λ k. get_or words (k * 2) 0) seats s 0 h in
      let reply : get_or (replies_of_words seats words) s None ≡ reply_of_word (get_or words (s * 2 + 1) 0) =
      first_values_at (λ k. reply_of_word (get_or words (k * 2 + 1) 0)) seats s None h in
      rw number (rw reply (record {
        few = (stands s h).few;
        answer = reply_of_word_fits (get_or words (s * 2 + 1) 0) (fits (s * 2 + 1));
        paired = (stands s h).paired;
      }));
}

-- words of which every part stands are the spelling of the row that they spell
pub bucket_spelled : (settings : Settings) (words : List ℕ) → length words ≡ bucket_row_words settings →
    ((i : ℕ) → get_or words i 0 < 2 ^ 64) → BucketStands settings words →
    SpellsBucket settings (bucket_of_words settings words) words
bucket_spelled settings words long fits stands =
    let count : ℕ = get_or words 4 0 in
    let tail : List ℕ = drop 5 words in
    let items : List ℕ = item_part settings words in
    let seats : List ℕ = seat_part settings words in
    let m : ℕ = ITEM_WORDS * settings.items in
    let items_long : length items ≡ settings.items * ITEM_WORDS =
    omega (arith, length-take-le m tail (omega (arith, length-drop 5 words)), length-drop 5 words) in
    let seats_long : length seats ≡ settings.seats * 2 = omega (arith, length-drop (5 + m) words) in
    let items_are : items ≡ item_words settings.items (items_of_words count items) =
    items_spelled settings.items count items stands.head.count items_long stands.items in
    let seats_are : seats ≡ seat_words settings.seats (applied_of_words settings.seats seats)
    (replies_of_words settings.seats seats) = seats_spelled settings.seats seats seats_long stands.seats in
    let seat_fits : (i : ℕ) → get_or seats i 0 < 2 ^ 64 = λ i. rw (get_or-drop (5 + m) words i 0) (fits (5 + m + i)) in
    let row : BucketContent = bucket_of_words settings words in
    let counted : length row.items ≡ count =
    length-first_values (λ i. pair_of_words (block ITEM_WORDS i items)) count in
    let head : words ≡ head_words row ++ tail = five_words words (omega arith)
    ∙ ap (λ (w : ℕ). get_or words 0 0 ∷ get_or words 1 0 ∷ w ∷ get_or words 3 0 ∷ get_or words 4 0 ∷ tail)
    (sym (base_spelled (get_or words 2 0)))
    ∙ ap (λ (w : ℕ). get_or words 0 0 ∷ get_or words 1 0 ∷ word_of_base row.base ∷ w ∷ get_or words 4 0 ∷ tail)
    (sym (flag_spelled (get_or words 3 0) stands.head.frozen))
    ∙ ap (λ (w : ℕ). get_or words 0 0 ∷ get_or words 1 0 ∷ word_of_base row.base ∷ word_of_flag
    row.frozen ∷ w ∷ tail) (sym counted) in
    let parts : tail ≡ items ++ seats = sym (take-append-drop m tail)
    ∙ ap (λ xs. items ++ xs) (drop-drop m 5 words) in (
      record {
        prefix = stands.head.prefix;
        depth = stands.head.depth;
        base = base_fits (get_or words 2 0) (fits 2);
        items = items_fit settings.items count items stands.head.count stands.items;
        seats = seats_fit settings.seats seats seat_fits stands.seats;
      },
      head ∙ ap (λ xs. head_words row ++ xs)
          (parts ∙ ap (λ xs. xs ++ seats) items_are ∙ ap (λ xs. item_words settings.items row.items ++ xs) seats_are)
          ∙ sym (append_assoc (head_words row) (item_words settings.items row.items)
          (seat_words settings.seats row.applied row.replies)),
    )

-- the parts of a row's words
item_part_is : (settings : Settings) (row : BucketContent) →
    item_part settings (words_of_bucket settings row) ≡ item_words settings.items row.items
item_part_is settings row =
    let items : List ℕ = item_words settings.items row.items in
    let seats : List ℕ = seat_words settings.seats row.applied row.replies in
    take_at items seats (ITEM_WORDS * settings.items) (omega (arith, length-item_words settings.items row.items))

-- the last part of a row's words is that of the seats
seat_part_is : (settings : Settings) (row : BucketContent) →
    seat_part settings (words_of_bucket settings row) ≡ seat_words settings.seats row.applied row.replies
seat_part_is settings row =
    let items : List ℕ = item_words settings.items row.items in
    let seats : List ℕ = seat_words settings.seats row.applied row.replies in
    sym (drop-drop (ITEM_WORDS * settings.items) 5 (words_of_bucket settings row))
    ∙ drop_at items seats (ITEM_WORDS * settings.items) (omega (arith, length-item_words settings.items row.items))

-- a bucket row has the words of one
pub length-bucket : (settings : Settings) (row : BucketContent) →
    length (words_of_bucket settings row) ≡ bucket_row_words settings
length-bucket settings row =
    omega (
      arith,
      length-append (item_words settings.items row.items) (seat_words settings.seats row.applied row.replies),
      length-item_words settings.items row.items,
      length-seat_words settings.seats row.applied row.replies,
    )

-- the words of an item, by their place
item_word : (room : ℕ) (items : List Pair) (i : ℕ) → i < room →
    block ITEM_WORDS i (item_words room items) ≡ item_place items i
item_word room items i h = block-blocks ITEM_WORDS (item_place items) room i (item_place_wide items) h

-- and of a seat
seat_word : (seats : ℕ) (applied : List ℕ) (replies : List (Option Reply)) (s : ℕ) → s < seats →
    (get_or (seat_words seats applied replies) (s * 2) 0 ≡ get_or applied s 0)
    × (get_or (seat_words seats applied replies) (s * 2 + 1) 0 ≡ word_of_reply (get_or replies s None))
seat_word seats applied replies s h =
    let words : List ℕ = seat_words seats applied replies in
    let part : block 2 s words ≡ seat_place applied replies s =
    block-blocks 2 (seat_place applied replies) seats s (seat_place_wide applied replies) h in (
      ap (λ k. get_or words k 0) (omega arith) ∙ sym (get_or-block 2 s 0 words (omega arith))
          ∙ ap (λ xs. get_or xs 0 0) part,
      sym (get_or-block 2 s 1 words (omega arith)) ∙ ap (λ xs. get_or xs 1 0) part,
    )

-- zeros after the items
items_then_zeros : (room : ℕ) (items : List Pair) → length items ≤ room →
    drop (length items * ITEM_WORDS) (item_words room items) ≡ replicate ((room - length items) * ITEM_WORDS) 0
items_then_zeros room items fit =
    let count : ℕ = length items in
    let m : ℕ = room - count in
    let whole : room ≡ count + m = omega arith in
    ap (λ n. drop (count * ITEM_WORDS) (item_words n items)) whole
    ∙ ap (drop (count * ITEM_WORDS)) (places_padded items m)
    ∙ drop_at (blocks (item_place items) count) (replicate (m * ITEM_WORDS) 0) (count * ITEM_WORDS)
    (length-item_words count items)

-- the words of items stand for items
items_stand : (room : ℕ) (items : List Pair) → AreItems room items → ItemsStand (length items) (item_words room items)
items_stand room items h = record {
  values = λ i within.
      let part : block ITEM_WORDS i (item_words room items) ≡ words_of_pair (get_or items i no_pair) =
      item_word room items i (omega (arith, h.fit)) ∙ item_place_within items i no_pair within in
      let small = h.values i no_pair within in (
        omega (
          arith,
          get_or-block ITEM_WORDS i KEY_WORDS (item_words room items) (omega arith),
          ap (λ xs. get_or xs KEY_WORDS 0) part,
          small.0,
        ),
        omega (
          arith,
          get_or-block ITEM_WORDS i (KEY_WORDS + 1) (item_words room items) (omega arith),
          ap (λ xs. get_or xs (KEY_WORDS + 1) 0) part,
          small.1,
        ),
      );
  zeros = λ k d inside.
      let m : ℕ = (room - length items) * ITEM_WORDS in
      let zeros : List ℕ = replicate m 0 in
      let rest : drop (length items * ITEM_WORDS) (item_words room items) ≡ zeros = items_then_zeros room items h.fit in
      let nothing : ℕ = 0 in
      let long : length zeros ≡ m = length-replicate m nothing in
      let within : k < m = omega (arith, ap length rest, long) in
      ap (λ (xs : List ℕ). get_or xs k d) rest ∙ get_or-replicate m k 0 d within;
}

-- and those of seats for seats
seats_stand : (seats : ℕ) (applied : List ℕ) (replies : List (Option Reply)) → AreAnswered seats applied replies →
    SeatsStand seats (seat_words seats applied replies)
seats_stand seats applied replies h = λ s within.
    let both = seat_word seats applied replies s within in
    let answer : IsAnswered (get_or applied s 0) (get_or replies s None) = h.answered s within in
    let read : reply_of_word (word_of_reply (get_or replies s None)) ≡ get_or replies s None =
    reply_read (get_or replies s None) answer.answer in
    subst (λ n. SeatStands n (get_or (seat_words seats applied replies) (s * 2 + 1) 0)) (sym both.0)
    (subst (λ w. SeatStands (get_or applied s 0) w) (sym both.1)
    (record {
      few = answer.few;
      spelled = ap word_of_reply read;
      paired = subst (λ r. (get_or applied s 0 ≡ 0) ↔ (r ≡ None)) (sym read) answer.paired;
    }))

-- of the spelling of a row every part stands
pub bucket_stands : (settings : Settings) (row : BucketContent) (words : List ℕ) → SpellsBucket settings row words →
    BucketStands settings words
bucket_stands settings row words spells = subst (BucketStands settings) (sym spells.1) (record {
  head = record {
    depth = spells.0.depth;
    prefix = spells.0.prefix;
    frozen = flag_small row.frozen;
    count = spells.0.items.fit;
  };
  items = subst (ItemsStand (length row.items)) (sym (item_part_is settings row))
      (items_stand settings.items row.items spells.0.items);
  seats = subst (SeatsStand settings.seats) (sym (seat_part_is settings row))
      (seats_stand settings.seats row.applied row.replies spells.0.seats);
})
  where
    flag_small : (flag : Bool) → word_of_flag flag ≤ 1
    flag_small true = omega arith
    flag_small false = omega arith

-- a row's words spell it
pub bucket_read : (settings : Settings) (row : BucketContent) → IsBucket settings row →
    bucket_of_words settings (words_of_bucket settings row) ≡ row
bucket_read settings row h =
    let items : List ℕ = item_words settings.items row.items in
    let seats : List ℕ = seat_words settings.seats row.applied row.replies in
    let part = item_part_is settings row in
    let rest = seat_part_is settings row in
    let items_are : items_of_words (length row.items) items ≡ row.items =
    same_lists (items_of_words (length row.items) items) row.items
    (length-first_values (λ i. pair_of_words (block ITEM_WORDS i items)) (length row.items)) (λ k d inside.
    let within : k < length row.items = omega (
      arith,
      length-first_values
          (λ i. pair_of_words (block ITEM_WORDS i items)) (length row.items),
    ) in
    first_values_at (λ i. pair_of_words (block ITEM_WORDS i items)) (length row.items) k d within
    ∙ ap pair_of_words (item_word settings.items row.items k (omega (arith, h.items.fit))
    ∙ item_place_within row.items k d within)) in
    let applied_are : applied_of_words settings.seats seats ≡ row.applied =
    same_lists (applied_of_words settings.seats seats) row.applied
    (length-first_values (λ s. get_or seats (s * 2) 0) settings.seats ∙ sym h.seats.each_number) (λ k d inside.
    let within : k < settings.seats = omega (arith, length-first_values (λ s. get_or seats (s * 2) 0) settings.seats) in
    let there : k < length row.applied = omega (arith, h.seats.each_number) in
    first_values_at (λ s. get_or seats (s * 2) 0) settings.seats k d within
    ∙ (seat_word settings.seats row.applied row.replies k within).0 ∙ get_or_default row.applied k 0 d there) in
    let replies_are : replies_of_words settings.seats seats ≡ row.replies =
    same_lists (replies_of_words settings.seats seats) row.replies
    (length-first_values (λ s. reply_of_word (get_or seats (s * 2 + 1) 0)) settings.seats
    ∙ sym h.seats.each_reply) (λ k d inside.
    let within : k < settings.seats = omega (
      arith,
      length-first_values
          (λ s. reply_of_word (get_or seats (s * 2 + 1) 0)) settings.seats,
    ) in
    let there : k < length row.replies = omega (arith, h.seats.each_reply) in
    first_values_at (λ s. reply_of_word (get_or seats (s * 2 + 1) 0)) settings.seats k d within
    ∙ ap reply_of_word (seat_word settings.seats row.applied row.replies k within).1
    ∙ reply_read (get_or row.replies k None) (h.seats.answered k within).answer
    ∙ get_or_default row.replies k None d there) in
    ap (λ (b : Option ℕ). record (bucket_of_words settings (words_of_bucket settings row)) { base = b })
    (base_read row.base)
    ∙ ap (λ (f : Bool). record (bucket_of_words settings (words_of_bucket settings row)) {
      base = row.base;
      frozen = f;
    }) (flag_read row.frozen)
    ∙ ap (λ (xs : List Pair). record row {
      items = xs;
      applied = applied_of_words settings.seats
          (seat_part settings (words_of_bucket settings row));
      replies =
          replies_of_words settings.seats (seat_part settings (words_of_bucket settings row));
    })
    (ap (items_of_words (length row.items)) part ∙ items_are)
    ∙ ap (λ (xs : List ℕ). record row {
      applied = xs;
      replies = replies_of_words settings.seats
          (seat_part settings (words_of_bucket settings row));
    }) (ap (applied_of_words settings.seats) rest ∙ applied_are)
    ∙ ap (λ (xs : List (Option Reply)). record row { replies = xs })
    (ap (replies_of_words settings.seats) rest ∙ replies_are)

-- rows that hold the same are the same
pub same_content : (a b : BucketContent) → a.prefix ≡ b.prefix → a.depth ≡ b.depth → a.base ≡ b.base →
    a.frozen ≡ b.frozen → a.items ≡ b.items → a.applied ≡ b.applied → a.replies ≡ b.replies → a ≡ b
same_content a b prefix depth base frozen items applied replies =
    ap (λ (x : ℕ). record a { prefix = x }) prefix
    ∙ ap (λ (x : ℕ). record a { prefix = b.prefix; depth = x }) depth
    ∙ ap (λ (x : Option ℕ). record a { prefix = b.prefix; depth = b.depth; base = x }) base
    ∙ ap (λ (x : Bool). record a { prefix = b.prefix; depth = b.depth; base = b.base; frozen = x }) frozen
    ∙ ap (λ (x : List Pair). record b { items = x; applied = a.applied; replies = a.replies }) items
    ∙ ap (λ (x : List ℕ). record b { applied = x; replies = a.replies }) applied
    ∙ ap (λ (x : List (Option Reply)). record b { replies = x }) replies

-- the parts of the words as they are cut
pub item_part_cut : (settings : Settings) (words : List ℕ) →
    take (5 + ITEM_WORDS * settings.items - 5) (drop 5 words) ≡ item_part settings words
item_part_cut settings words = ap (λ n. take n (drop 5 words)) (omega arith)

-- what the three parts of the words say is what all of them say
pub parts_stand : (settings : Settings) (words : List ℕ) → HeadStands settings words →
    ItemsStand (get_or words 4 0) (take (5 + ITEM_WORDS * settings.items - 5) (drop 5 words))
    → SeatsStand settings.seats (take (length words - (5 + ITEM_WORDS * settings.items))
    (drop (5 + ITEM_WORDS * settings.items) words)) → BucketStands settings words
parts_stand settings words head items seats = record {
  head = head;
  items = subst (ItemsStand (get_or words 4 0)) (item_part_cut settings words) items;
  seats = subst (SeatsStand settings.seats) (take_rest words (5 + ITEM_WORDS * settings.items)) seats;
}

-- and of a spelling each part stands
pub seat_part_stands : (settings : Settings) (words : List ℕ) → BucketStands settings words →
    SeatsStand settings.seats (take (length words - (5 + ITEM_WORDS * settings.items))
    (drop (5 + ITEM_WORDS * settings.items) words))
seat_part_stands settings words stands = subst (SeatsStand settings.seats)
    (sym (take_rest words (5 + ITEM_WORDS * settings.items))) stands.seats

-- the items' part of words that stand for a row stands for items
pub item_part_stands : (settings : Settings) (words : List ℕ) → BucketStands settings words →
    ItemsStand (get_or words 4 0) (take (5 + ITEM_WORDS * settings.items - 5) (drop 5 words))
item_part_stands settings words stands = subst (ItemsStand (get_or words 4 0))
    (sym (item_part_cut settings words)) stands.items

-- a row that was read part by part is the one that is spelled
pub parts_read : (settings : Settings) (words : List ℕ) (row : BucketContent) →
    length words ≡ bucket_row_words settings → ((i : ℕ) → get_or words i 0 < 2 ^ 64) → BucketStands settings words
    → row.prefix ≡ get_or words 0 0 → row.depth ≡ get_or words 1 0 → row.base ≡ base_of_word (get_or words 2 0) →
    row.frozen ≡ eqb (get_or words 3 0) 1
    → row.items ≡ items_of_words (get_or words 4 0) (take (5 + ITEM_WORDS * settings.items - 5) (drop 5 words))
    → row.applied ≡ applied_of_words settings.seats
    (take (length words - (5 + ITEM_WORDS * settings.items)) (drop (5 + ITEM_WORDS * settings.items) words))
    → row.replies ≡ replies_of_words settings.seats
    (take (length words - (5 + ITEM_WORDS * settings.items)) (drop (5 + ITEM_WORDS * settings.items) words))
    → SpellsBucket settings row words
parts_read settings words row long fits stands prefix depth base frozen items applied replies =
    let rest = take_rest words (5 + ITEM_WORDS * settings.items) in
    let same : row ≡ bucket_of_words settings words =
    same_content row (bucket_of_words settings words) prefix depth base frozen
    (items ∙ ap (items_of_words (get_or words 4 0)) (item_part_cut settings words))
    (applied ∙ ap (applied_of_words settings.seats) rest) (replies ∙ ap (replies_of_words settings.seats) rest) in
    subst (λ (r : BucketContent). SpellsBucket settings r words) (sym same)
    (bucket_spelled settings words long fits stands)

-- the items from their own words
pub items_read : (settings : Settings) (row : BucketContent) → IsBucket settings row →
    items_of_words (length row.items) (take (length row.items * ITEM_WORDS)
    (drop 5 (words_of_bucket settings row))) ≡ row.items
items_read settings row h =
    let count : ℕ = length row.items in
    let places : List ℕ = item_words settings.items row.items in
    let seats : List ℕ = seat_words settings.seats row.applied row.replies in
    let a : ℕ = count * ITEM_WORDS in
    let room : a ≤ length places = omega (arith, h.items.fit, length-item_words settings.items row.items) in
    let cut : take a (places ++ seats) ≡ take a places = take-append-le a places seats room in
    let front : List ℕ = take a places in
    let long : length front ≡ count * ITEM_WORDS = length-take-le a places room in
    let value : ℕ → Pair = λ i. pair_of_words (block ITEM_WORDS i front) in
    ap (items_of_words count) cut
    ∙ same_lists (items_of_words count front) row.items (length-first_values value count) (λ k d inside.
    let within : k < count = omega (arith, length-first_values value count) in
    let part : block ITEM_WORDS k front ≡ block ITEM_WORDS k places =
    sym (block-append ITEM_WORDS k count front (drop a places) long within)
    ∙ ap (block ITEM_WORDS k) (take-append-drop a places) in
    first_values_at value count k d within
    ∙ ap pair_of_words (part ∙ item_word settings.items row.items k (omega (arith, h.items.fit))
    ∙ item_place_within row.items k d within))
