-- The words of a row of a lasting table spell its bucket.
use Rattle.std.proofs.Common.{◌≡◌, ℕ, ◌+◌, ◌-◌, ◌*◌, false, List, ◌∷◌, ◌++◌, length, take, drop, sym, ap, ◌∙◌, arith, append_assoc, replicate, None}
use Rattle.std.proofs.Math.Seq.{get_or-append_seam}
use Rattle.std.specs.Prelude.{slice_index}
use Rattle.std.proofs.lemmas.List.{take_at, drop_at, drop-drop, length-append}
use Rattle.step_counts.specs.declared.TheConstants.{ITEM_WORDS, SEAT_WORDS}
use Rattle.plain_map.specs.Rows.{BucketContent}
use Rattle.bucket_states.specs.States.{BucketState}
use Rattle.word_rows.specs.BucketWords.{IsBucket, AreItems, AreAnswered, item_words, seat_words, words_of_bucket, bucket_of_words, items_of_words, applied_of_words, replies_of_words, seat_part}
use Rattle.word_rows.proofs.BucketLemmas.{bucket_read, items_read, length-item_words, length-seat_words}
use Rattle.word_rows.proofs.PartLemmas.{places_padded}
use Rattle.table_model.specs.Setup.{Setup, settings_of, seats_of}
use Rattle.lasting_model.specs.Codes.{state_words, state_in, count_in, items_part}

module _ (setup : Setup) (bucket : ℕ) (state : BucketState) (prefix : state.prefix ≡ bucket)
    (depth : state.depth ≡ (settings_of setup).depth) (open_ : state.frozen ≡ false)
    (small : AreItems (settings_of setup).items state.items)
    (answered : AreAnswered (seats_of setup) state.applied state.replies) where
  abbrev count : ℕ
  count = length state.items

  -- the same items and answers in a row of today's
  abbrev content : BucketContent
  content = record {
    prefix = 0;
    depth = 0;
    base = None;
    frozen = false;
    items = state.items;
    applied = state.applied;
    replies = state.replies;
  }

  can : IsBucket (settings_of setup) content
  can = record { prefix = omega arith; depth = omega arith; base = tt; items = small; seats = answered }

  abbrev items : List ℕ
  items = item_words count state.items

  abbrev padded : List ℕ
  padded = item_words (settings_of setup).items state.items

  abbrev seats : List ℕ
  seats = seat_words (seats_of setup) state.applied state.replies

  abbrev zeros : List ℕ
  zeros = replicate (((settings_of setup).items - count) * ITEM_WORDS) 0

  spelled : bucket_of_words (settings_of setup) (words_of_bucket (settings_of setup) content) ≡ content
  spelled = bucket_read (settings_of setup) content can

  padded_is : padded ≡ items ++ zeros
  padded_is =
      (let e : (settings_of setup).items ≡ count + ((settings_of setup).items - count) = omega (arith, small.fit) in
      ap (λ n. item_words n state.items) e ∙ places_padded state.items ((settings_of setup).items - count))

  items_long : length items ≡ count * ITEM_WORDS
  items_long = length-item_words count state.items

  pub items_are : items_of_words count items ≡ state.items
  items_are =
      ap (items_of_words count)
      (sym (ap (λ xs. take (count * ITEM_WORDS) (xs ++ seats)) padded_is
      ∙ ap (take (count * ITEM_WORDS)) (append_assoc items zeros seats)
      ∙ take_at items (zeros ++ seats) (count * ITEM_WORDS) items_long))
      ∙ items_read (settings_of setup) content can

  seats_part : seat_part (settings_of setup) (words_of_bucket (settings_of setup) content) ≡ seats
  seats_part =
      (let e : length padded ≡ (settings_of setup).items * ITEM_WORDS =
      length-item_words (settings_of setup).items state.items in
      sym (drop-drop (ITEM_WORDS * (settings_of setup).items) 5 (words_of_bucket (settings_of setup) content))
      ∙ drop_at padded seats (ITEM_WORDS * (settings_of setup).items) (omega (arith, e)))

  applied_are : applied_of_words (seats_of setup) seats ≡ state.applied
  applied_are = ap (applied_of_words (seats_of setup)) (sym seats_part) ∙ ap (λ (b : BucketContent). b.applied) spelled

  replies_are : replies_of_words (seats_of setup) seats ≡ state.replies
  replies_are = ap (replies_of_words (seats_of setup)) (sym seats_part) ∙ ap (λ (b : BucketContent). b.replies) spelled

  wide : length seats ≡ SEAT_WORDS * seats_of setup
  wide =
      (let e : length seats ≡ seats_of setup * 2 = length-seat_words (seats_of setup) state.applied state.replies in
      omega (arith, e))

  abbrev start : ℕ
  start = SEAT_WORDS * seats_of setup

  abbrev all : List ℕ
  all = state_words setup state

  front : take start all ≡ seats
  front = take_at seats (count ∷ items) start wide

  -- the words behind the seats' are the count and the items
  behind : drop start all ≡ count ∷ items
  behind = drop_at seats (count ∷ items) start wide

  pub count_is : slice_index all start ≡ count
  count_is = ap (slice_index all) (sym wide) ∙ get_or-append_seam seats count items 0

  pub rest : items_part setup all ≡ items
  rest = sym (drop-drop 1 start all) ∙ ap (drop 1) behind

  -- a true count is not cut
  pub cut : count_in setup count ≡ count
  cut = omega (arith, small.fit)

  -- so many words
  pub state_is_long : length all ≡ start + 1 + ITEM_WORDS * count
  state_is_long = omega (arith, length-append seats (count ∷ items), wide, items_long)

  -- THE RESULT
  pub state_spells : state_in setup bucket all ≡ state
  state_spells i = record {
    prefix = sym prefix i;
    depth = sym depth i;
    frozen = sym open_ i;
    items = (ap (λ n. items_of_words (count_in setup n) (items_part setup all)) count_is
        ∙ (λ j. items_of_words (cut j) (rest j)) ∙ items_are) i;
    applied = (ap (applied_of_words (seats_of setup)) front ∙ applied_are) i;
    replies = (ap (replies_of_words (seats_of setup)) front ∙ replies_are) i;
  }
