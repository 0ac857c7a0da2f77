-- A row at hand, and how its words are stored.
use Rattle.std.proofs.Common.{◌≡◌, ℕ, ◌+◌, ◌*◌, ◌-◌, ◌<◌, ◌≤◌, List, [], ◌∷◌, ◌++◌, length, take, drop, replicate, Option, refl, sym, ap, subst, ◌∙◌, arith, append_assoc}
use Rattle.std.proofs.lemmas.Bool.{cond-true, lt-ltb}
use Rattle.std.proofs.lemmas.List.{append-nil, drop_at, get_or-append-add, length-append, take_at, take_rest}
use Rattle.std.specs.Prelude.{slice_index}
use Rattle.step_counts.specs.declared.TheConstants.{ITEM_WORDS, SEAT_WORDS}
use Rattle.step_counts.specs.declared.settings.Settings.{Settings}
use Rattle.word_rows.specs.BaseWords.{word_of_base}
use Rattle.word_rows.specs.BucketWords.{item_words, seat_words, word_of_flag}
use Rattle.word_rows.proofs.BucketLemmas.{length-item_words, length-seat_words}
use Rattle.bucket_machine.proofs.WordLemmas.{flat, items_flat, length-flat}
use Rattle.bucket_states.specs.States.{BucketState}
use Rattle.lasting_model.specs.Plans.{ample}
use Rattle.lasting_model.specs.Words.{RowWord, place}
use Rattle.lasting_model.specs.Steps.{Exchange, Goes, StoreRow, made, next_generation, next_row}
use Rattle.table_model.specs.Setup.{seats_of}
use Rattle.lasting_calls.specs.Desks.{IsOf}
use Rattle.lasting_calls.specs.Going.{Going, goes, goes_by, on, task}
use Rattle.lasting_calls.specs.Going.Task.{Store}
use Rattle.lasting_calls.specs.Updates.{IsOwn, IsStoring, at_hand, update_of}
use Rattle.lasting_calls.specs.Writes.{Writes}
use Rattle.lasting_calls.specs.declared.desk.Desk.{Desk}
use Rattle.lasting_calls.specs.declared.own.Own.{Own}
use Rattle.lasting_calls.proofs.PlaceLemmas.{ample_seats_are, row_at}
use Rattle.lasting_calls.proofs.StoreLemmas.{all_words, part_stored, part_writes, row_asked, row_ends, row_more, row_stored}

-- ---- the words at hand

module _ (settings : Settings) (base : Option ℕ) (state : BucketState) where
  abbrev hand : List ℕ
  hand = at_hand settings base state

  abbrev places : List ℕ
  places = item_words settings.items state.items

  abbrev seats : List ℕ
  seats = seat_words settings.seats state.applied state.replies

  -- the words of the seats stand last
  pub hand_seats : drop (5 + ITEM_WORDS * settings.items) hand ≡ seats
  hand_seats =
      let front : List ℕ = state.prefix ∷ state.depth ∷ word_of_base base ∷ word_of_flag state.frozen
      ∷ length state.items ∷ places in
      drop_at front seats (5 + ITEM_WORDS * settings.items)
      (omega (arith, length-item_words settings.items state.items))

  -- the count, and the items before the zeros
  pub hand_count : slice_index hand 4 ≡ length state.items
  hand_count = refl

  pub hand_items : (long : ℕ) → long ≡ ITEM_WORDS * length state.items → length state.items ≤ settings.items →
      take long (drop 5 hand) ≡ item_words (length state.items) state.items
  hand_items long is fit =
      let m : ℕ = settings.items - length state.items in
      let zeros : List ℕ = replicate (m * ITEM_WORDS) 0 in
      let items : List ℕ = flat state.items in
      ap (λ (ws : List ℕ). take long (ws ++ seats)) (items_flat state.items m settings.items (omega (arith, fit)))
      ∙ ap (take long) (append_assoc items zeros seats)
      ∙ take_at items (zeros ++ seats) long (omega (arith, is, length-flat state.items))
      ∙ sym (append-nil items)
      ∙ sym (items_flat state.items 0 (length state.items) (omega arith))

-- ---- its words are stored

module _ (f : Going) (desk : Desk) (own : Own) (is : IsOf f desk) (at : IsOwn f own) (words : List ℕ)
    (s : IsStoring f desk own words) (fits : slice_index words 4 ≤ desk.settings.items) (first : ℕ)
    (first_is : first ≡ desk.first_row + own.row * desk.row_words) where
  abbrev state : BucketState
  state = made (ample f.plan) s.attempt s.found

  abbrev all : List ℕ
  all = all_words f (update_of own) s.attempt s.found

  abbrev stored : ℕ → Going
  stored k = row_stored f (update_of own) s.attempt s.found k

  -- the words of the seats, and of the items
  abbrev own_seats : List ℕ
  own_seats = seat_words (seats_of (ample f.plan)) state.applied state.replies

  abbrev own_items : List ℕ
  own_items = item_words (length state.items) state.items

  wide : length own_seats ≡ SEAT_WORDS * desk.settings.seats
  wide = omega (
    arith,
    length-seat_words (seats_of (ample f.plan)) state.applied state.replies,
    ample_seats_are f
        desk is,
  )

  fit : length state.items ≤ desk.settings.items
  fit = subst (λ (ws : List ℕ). slice_index ws 4 ≤ desk.settings.items) s.words_are fits

  there : (i : ℕ) → place f.plan (RowWord (next_row f.now) i) ≡ first + i
  there i =
      row_at f desk is (next_row f.now) i
      ∙ ap (λ (r : ℕ). desk.first_row + r * desk.row_words + i) (sym at.row) ∙ omega (arith, first_is)

  -- the generation first
  starts : f ≡ stored 0
  starts = ap (on f) s.stand ∙ ap (λ step. on f (Goes (update_of own) step))
      (sym (cond-true _ (StoreRow s.attempt s.found 0) (Exchange s.attempt s.found) (lt-ltb 0 (length all)
      (omega arith))))

  pub generation_asked : task f ≡ Store first own.generation
  generation_asked =
      ap task starts ∙ row_asked f (update_of own) s.attempt s.found 0 (omega arith)
      ∙ (let e : place f.plan (RowWord (next_row f.now) 0) ≡ first = omega (arith, there 0) in
      λ i. Store (e i) (sym at.generation i))

  module _ (a : Going) (one : a ≡ goes f 0) where
    generation_stored : a ≡ stored 1
    generation_stored = one ∙ ap (λ (g : Going). goes g 0) starts
        ∙ row_more f (update_of own) s.attempt s.found 0 (omega arith)

    -- then the words of the seats
    module _ (part : List ℕ) (part_is : part ≡ take (length words - (5 + ITEM_WORDS * desk.settings.items))
        (drop (5 + ITEM_WORDS * desk.settings.items) words)) where
      part_seats : part ≡ own_seats
      part_seats =
          part_is ∙ take_rest words (5 + ITEM_WORDS * desk.settings.items)
          ∙ ap (drop (5 + ITEM_WORDS * desk.settings.items)) s.words_are ∙ hand_seats desk.settings s.base state
          ∙ ap (λ (n : ℕ). seat_words n state.applied state.replies) (sym (ample_seats_are f desk is))

      cut_seats : all ≡ (own.generation ∷ []) ++ (part ++ (length state.items ∷ own_items))
      cut_seats = λ i. sym at.generation i ∷ (sym part_seats i ++ length state.items ∷ own_items)

      part_long : length part ≡ SEAT_WORDS * desk.settings.seats
      part_long = ap {A = List ℕ} {B = ℕ} length part_seats ∙ wide

      pub seats_write : (start : ℕ) → start ≡ first + 1 → Writes a start part
      seats_write start start_is =
          part_writes f (update_of own) s.attempt s.found (own.generation ∷ []) part (length state.items ∷ own_items)
          1 start cut_seats refl (start_is ∙ sym (there 1)) a generation_stored

      module _ (b : Going) (two : b ≡ goes_by a (replicate (length part) 0)) where
        seats_stored : b ≡ stored (1 + SEAT_WORDS * desk.settings.seats)
        seats_stored =
            part_stored f (update_of own) s.attempt s.found (own.generation ∷ []) part
            (length state.items ∷ own_items) 1 (first + 1) cut_seats refl (sym (there 1)) a b generation_stored two
            ∙ ap (λ (n : ℕ). stored (1 + n)) part_long

        -- then the count
        inside : 1 + SEAT_WORDS * desk.settings.seats < length all
        inside = omega (arith, wide, length-append own_seats (length state.items ∷ own_items))

        count_word : slice_index all (1 + SEAT_WORDS * desk.settings.seats) ≡ slice_index words 4
        count_word =
            (let e : 1 + SEAT_WORDS * desk.settings.seats ≡ length (next_generation f.now ∷ own_seats) + 0 =
            omega (arith, wide) in
            ap (λ (n : ℕ). slice_index all n) e)
            ∙ get_or-append-add (next_generation f.now ∷ own_seats) (length state.items ∷ own_items) 0 0
            ∙ sym (ap (λ (ws : List ℕ). slice_index ws 4) s.words_are)

        pub count_asked : (place : ℕ) → place ≡ first + desk.count → task b ≡ Store place (slice_index words 4)
        count_asked place place_is =
            ap task seats_stored ∙ row_asked f (update_of own) s.attempt s.found
            (1 + SEAT_WORDS * desk.settings.seats) inside
            ∙ (let e : first + (1 + SEAT_WORDS * desk.settings.seats) ≡ place = omega
            (arith, place_is, desk.starts.count_is) in
            λ i. Store ((there (1 + SEAT_WORDS * desk.settings.seats) ∙ e) i) (count_word i))

        module _ (c : Going) (three : c ≡ goes b 0) where
          abbrev done : ℕ
          done = 1 + SEAT_WORDS * desk.settings.seats + 1

          count_stored : c ≡ stored done
          count_stored = three ∙ ap (λ (g : Going). goes g 0) seats_stored
              ∙ row_more f (update_of own) s.attempt s.found (1 + SEAT_WORDS * desk.settings.seats) inside

          -- and the items
          module _ (rest : List ℕ) (rest_is : rest ≡ take (5 + ITEM_WORDS * slice_index words 4 - 5)
              (drop 5 words)) where
            rest_items : rest ≡ own_items
            rest_items =
                rest_is
                ∙ (λ i. take (5 + ITEM_WORDS * slice_index (s.words_are i) 4 - 5) (drop 5 (s.words_are i)))
                ∙ hand_items desk.settings s.base state (5 + ITEM_WORDS * length state.items - 5) (omega arith) fit

            abbrev front : List ℕ
            front = own.generation ∷ (own_seats ++ length state.items ∷ [])

            front_long : length front ≡ done
            front_long = omega (arith, wide, length-append own_seats (length state.items ∷ []))

            cut_items : all ≡ front ++ (rest ++ [])
            cut_items =
                (λ i. sym at.generation i ∷ (own_seats ++ length state.items ∷ sym rest_items i))
                ∙ ap (λ (ws : List ℕ). own.generation ∷ ws)
                (sym (append_assoc own_seats (length state.items ∷ []) rest))
                ∙ ap (λ (ws : List ℕ). front ++ ws) (sym (append-nil rest))

            all_long : length all ≡ done + length rest
            all_long = omega (
              arith,
              ap {A = List ℕ} {B = ℕ} length cut_items,
              length-append front (rest ++ []),
              length-append rest [],
              front_long,
            )

            pub items_write : (start : ℕ) → start ≡ first + desk.count + 1 → Writes c start rest
            items_write start start_is =
                part_writes f (update_of own) s.attempt s.found front rest [] done start cut_items front_long
                (omega (arith, start_is, there done, desk.starts.count_is)) c count_stored

            pub items_stored : (d : Going) → d ≡ goes_by c (replicate (length rest) 0) →
                d ≡ on f (Goes (update_of own) (Exchange s.attempt s.found))
            items_stored d four =
                part_stored f (update_of own) s.attempt s.found front rest [] done (first + done) cut_items front_long
                (sym (there done)) c d count_stored four
                ∙ ap stored (sym all_long) ∙ row_ends f (update_of own) s.attempt s.found
