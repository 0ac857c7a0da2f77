-- The words of a row, one part after the other.
use Rattle.std.proofs.Common.{◌≡◌, ℕ, ◌+◌, ◌*◌, ◌-◌, ◌<◌, ◌≤◌, List, [], ◌∷◌, ◌++◌, length, take, drop, set, replicate, refl, sym, ap, subst, ◌∙◌, arith, append_assoc}
use Rattle.std.proofs.lemmas.Bool.{cond-true, cond-false, lt-ltb}
use Rattle.table_model.specs.Setup.{seats_of}
use Rattle.std.proofs.lemmas.List.{append-nil, drop_at, take_at, drop-take, get_or-append-add, length-append, length-drop, length-take-le, take-append-drop, drop-drop, drop_all}
use Rattle.std.proofs.lemmas.Slice.{drop-put_mid, take-put_mid}
use borrow.Rule.Slice.PartMut.{put_mid}
use Rattle.std.specs.Prelude.{nat_lt, if◌then◌else◌, min, slice_index}
use Rattle.step_counts.specs.declared.TheConstants.{ITEM_WORDS, SEAT_WORDS}
use Rattle.step_counts.specs.declared.settings.Settings.{Settings}
use Rattle.step_counts.specs.StepCounts.{bucket_row_words}
use Rattle.bucket_states.proofs.AnswerLemmas.{lt_false}
use Rattle.lasting_model.specs.Plans.{ample}
use Rattle.lasting_model.specs.Codes.{count_in, length_by, row_in}
use Rattle.lasting_model.specs.Words.{RowWord, place}
use Rattle.lasting_model.specs.Steps.{CheckRow, Goes, LoadRow, Step, Update}
use Rattle.lasting_calls.specs.Desks.{IsOf}
use Rattle.lasting_calls.specs.Going.{Going, Reads, goes, goes_by, on, task}
use Rattle.lasting_calls.specs.Going.Task.{Load}
use Rattle.lasting_calls.specs.declared.desk.Desk.{Desk}
use Rattle.lasting_calls.proofs.PlaceLemmas.{ample_seats_are, ample_settings, row_at}
use Rattle.lasting_calls.proofs.RunLemmas.{Leads, leads_goes, leads_reads, length-more}

-- ---- the words at hand

-- a part that is written over, and how long all is then
put_over : (front rest back new : List ℕ) (a k : ℕ) → length front ≡ a → drop k rest ≡ back →
    put_mid a k (front ++ rest) new ≡ front ++ (new ++ back)
put_over front rest back new a k long is =
    let before : take a (front ++ rest) ≡ front = take_at front rest a long in
    let after : drop k (drop a (front ++ rest)) ≡ back = ap (drop k) (drop_at front rest a long) ∙ is in
    λ i. before i ++ (new ++ after i)

length-put : (a k : ℕ) (words new : List ℕ) → length new ≡ k → a + k ≤ length words →
    length (put_mid a k words new) ≡ length words
length-put a k words new wide inside = omega (
  arith,
  length-append (take a words) (new ++ drop k (drop a words)),
  length-append new (drop k (drop a words)),
  length-take-le a words (omega (arith, inside)),
  length-drop k (drop a words),
  length-drop a words,
  wide,
  inside,
)

-- the first five words are written over
pub head_set : (front rest : List ℕ) (a b c d e : ℕ) → length front ≡ 5 →
    set (set (set (set (set (front ++ rest) 0 a) 1 b) 2 c) 3 d) 4 e ≡ a ∷ b ∷ c ∷ d ∷ e ∷ rest
head_set (v ∷ w ∷ x ∷ y ∷ z ∷ []) rest a b c d e h = refl
head_set (v ∷ w ∷ x ∷ y ∷ z ∷ q ∷ front) rest a b c d e h = absurd (omega (arith, h))
head_set (v ∷ w ∷ x ∷ y ∷ []) rest a b c d e h = absurd (omega (arith, h))
head_set (v ∷ w ∷ x ∷ []) rest a b c d e h = absurd (omega (arith, h))
head_set (v ∷ w ∷ []) rest a b c d e h = absurd (omega (arith, h))
head_set (v ∷ []) rest a b c d e h = absurd (omega (arith, h))
head_set [] rest a b c d e h = absurd (omega (arith, h))

-- zeros are written, and then the head
pub words_filled : (words zeros : List ℕ) (a b c d e end seats : ℕ) → 5 ≤ end → end ≤ seats → seats ≤ length words →
    zeros ≡ replicate (seats - end) 0
    → set (set (set (set (set (put_mid end (seats - end) words zeros) 0 a) 1 b) 2 c) 3 d) 4 e
    ≡ a ∷ b ∷ c ∷ d ∷ e ∷ (take (end - 5) (drop 5 words) ++ (replicate (seats - end) 0 ++ drop seats words))
words_filled words zeros a b c d e end seats low inside long are =
    let front : List ℕ = take 5 words in
    let rest : List ℕ = drop 5 words in
    let part : List ℕ = take (end - 5) rest in
    let back : List ℕ = drop (end - 5) rest in
    let front_long : length front ≡ 5 = length-take-le 5 words (omega (arith, low, inside, long)) in
    let part_long : length part ≡ end - 5 =
    length-take-le (end - 5) rest (omega (arith, length-drop 5 words, low, inside, long)) in
    let cut : words ≡ (front ++ part) ++ back =
    sym (take-append-drop 5 words) ∙ ap (λ (ws : List ℕ). front ++ ws) (sym (take-append-drop (end - 5) rest))
    ∙ sym (append_assoc front part back) in
    let behind : drop (seats - end) back ≡ drop seats words =
    drop-drop (seats - end) (end - 5) rest ∙ drop-drop (end - 5 + (seats - end)) 5 words
    ∙ (let e : 5 + (end - 5 + (seats - end)) ≡ seats = omega (arith, low, inside) in
    ap (λ (n : ℕ). drop n words) e) in
    let over : put_mid end (seats - end) words zeros ≡ (front ++ part) ++ (zeros ++ drop seats words) =
    ap (λ (ws : List ℕ). put_mid end (seats - end) ws zeros) cut
    ∙ put_over (front ++ part) back (drop seats words) zeros end (seats - end)
    (omega (arith, length-append front part, front_long, part_long, low)) behind in
    ap (λ (ws : List ℕ). set (set (set (set (set ws 0 a) 1 b) 2 c) 3 d) 4 e)
    (over ∙ append_assoc front part (zeros ++ drop seats words))
    ∙ head_set front (part ++ (zeros ++ drop seats words)) a b c d e front_long
    ∙ ap (λ (ws : List ℕ). a ∷ b ∷ c ∷ d ∷ e ∷ (part ++ (ws ++ drop seats words))) are

-- the parts of a row are put to their places, one after the other
pub parts_put : (words seats items : List ℕ) (at wide long : ℕ) → 5 + long ≤ at → at + wide ≡ length words →
    length seats ≡ wide → length items ≡ long
    → (take long (drop 5 (put_mid 5 long (put_mid at wide words seats) items)) ≡ items)
    × (drop at (put_mid 5 long (put_mid at wide words seats) items) ≡ seats)
    × (length (put_mid 5 long (put_mid at wide words seats) items) ≡ length words)
parts_put words seats items at wide long room whole seats_are items_are =
    let one : List ℕ = put_mid at wide words seats in
    let two : List ℕ = put_mid 5 long one items in
    let one_long : length one ≡ length words = length-put at wide words seats seats_are (omega (arith, whole)) in
    let two_long : length two ≡ length one =
    length-put 5 long one items items_are (omega (arith, whole, room, one_long)) in (
      sym (drop-take 5 long two)
          ∙ ap (λ (ws : List ℕ). drop 5 ws) (take-put_mid 5 long one items (5 + long) (omega (arith, items_are))
          (omega (arith, whole, room, one_long)))
          ∙ drop_at (take 5 one) items 5 (length-take-le 5 one (omega (arith, whole, room, one_long))),
      drop-put_mid 5 long one items at room (omega (arith, whole, room, one_long)) items_are
          ∙ (ap (λ (ws : List ℕ). drop at (take at words ++ (seats ++ ws))) (drop_all wide (drop at words) (omega
          (arith, length-drop at words, whole)))
          ∙ drop_at (take at words) (seats ++ []) at (length-take-le at words (omega (arith, whole)))
          ∙ append-nil seats),
      two_long ∙ one_long,
    )

-- the words behind the items are those of the seats
pub part_wide : (settings : Settings) (words : List ℕ) → length words ≡ bucket_row_words settings →
    length (take (length words - (5 + ITEM_WORDS * settings.items)) (drop (5 + ITEM_WORDS * settings.items) words))
    ≡ SEAT_WORDS * settings.seats
part_wide settings words long =
    length-take-le (length words - (5 + ITEM_WORDS * settings.items)) (drop (5 + ITEM_WORDS * settings.items) words)
    (omega (arith, length-drop (5 + ITEM_WORDS * settings.items) words))
    ∙ omega (arith, long)

-- so are zeros, between the items and the seats
pub zeros_are : (settings : Settings) (words : List ℕ) (end : ℕ) → length words ≡ bucket_row_words settings →
    replicate {A = ℕ} (length (take (5 + ITEM_WORDS * settings.items - end) (drop end words))) 0
    ≡ replicate {A = ℕ} (5 + ITEM_WORDS * settings.items - end) 0
zeros_are settings words end long =
    ap {A = ℕ} {B = List ℕ} (λ (n : ℕ). replicate n 0)
    (length-take-le (5 + ITEM_WORDS * settings.items - end) (drop end words) (omega (
      arith,
      length-drop end words,
      long,
    )))

-- and the items
pub items_wide : (settings : Settings) (words seats : List ℕ) (count k : ℕ) →
    length words ≡ bucket_row_words settings →
    count ≤ settings.items → k ≡ length words - (5 + ITEM_WORDS * settings.items) → length seats ≡ k →
    length (take (5 + ITEM_WORDS * count - 5) (drop 5 (put_mid (5 + ITEM_WORDS * settings.items) k words seats)))
    ≡ ITEM_WORDS * count
items_wide settings words seats count k long few k_is seats_are =
    let one : List ℕ = put_mid (5 + ITEM_WORDS * settings.items) k words seats in
    let one_long = length-put (5 + ITEM_WORDS * settings.items) k words seats seats_are (omega (arith, long, k_is)) in
    length-take-le (5 + ITEM_WORDS * count - 5) (drop 5 one) (omega (arith, length-drop 5 one, one_long, long, few))
    ∙ omega arith

-- the words at hand, when all parts are in their places
pub parts_laid : (settings : Settings) (words seats items new : List ℕ) (bucket most count k j end : ℕ) →
    length words ≡ bucket_row_words settings → count ≤ settings.items →
    k ≡ length words - (5 + ITEM_WORDS * settings.items) → length seats ≡ k → j ≡ ITEM_WORDS * count →
    length items ≡ j → end ≡ 5 + ITEM_WORDS * count
    → new ≡ bucket ∷ settings.depth ∷ 0 ∷ 0 ∷ most
    ∷ (take (end - 5) (drop 5 (put_mid 5 j (put_mid (5 + ITEM_WORDS * settings.items) k words seats) items))
    ++ (replicate (5 + ITEM_WORDS * settings.items - end) 0
    ++ drop (5 + ITEM_WORDS * settings.items)
    (put_mid 5 j (put_mid (5 + ITEM_WORDS * settings.items) k words seats) items)))
    → new ≡ bucket ∷ settings.depth ∷ 0 ∷ 0 ∷ most
    ∷ (items ++ (replicate (ITEM_WORDS * (settings.items - count)) 0 ++ seats))
parts_laid settings words seats items new bucket most count k j end long few k_is seats_are j_is items_are end_is
    new_is =
    let two : List ℕ = put_mid 5 j (put_mid (5 + ITEM_WORDS * settings.items) k words seats) items in
    let put = parts_put words seats items (5 + ITEM_WORDS * settings.items) k j (omega (arith, j_is, few))
    (omega (arith, k_is, long)) seats_are items_are in
    let at : end - 5 ≡ j = omega (arith, end_is, j_is) in
    let wide : 5 + ITEM_WORDS * settings.items - end ≡ ITEM_WORDS * (settings.items - count) =
    omega (arith, end_is, few) in
    new_is ∙ (λ i. bucket ∷ settings.depth ∷ 0 ∷ 0 ∷ most
    ∷ ((ap (λ (n : ℕ). take n (drop 5 two)) at ∙ put.0) i ++ (replicate (wide i) 0 ++ put.1 i)))

-- ---- a row that is loaded

module _ (f : Going) (u : Update) (turn word : ℕ) where
  -- so many words of the seats there are
  abbrev pub seats_wide : ℕ
  seats_wide = SEAT_WORDS * seats_of (ample f.plan)

  -- these words are loaded
  abbrev pub row_loaded : List ℕ → Going
  row_loaded ws = on f (Goes u (if nat_lt (length ws) (length_by (ample f.plan) ws) then LoadRow turn word ws
      else CheckRow turn word ws))

  loads_on : (ws : List ℕ) → length ws < length_by (ample f.plan) ws → row_loaded ws ≡ on f (Goes u
      (LoadRow turn word ws))
  loads_on ws h = ap (λ (s : Step). on f (Goes u s))
      (cond-true (nat_lt (length ws) (length_by (ample f.plan) ws)) (LoadRow turn word ws) (CheckRow turn word ws)
      (lt-ltb (length ws) (length_by (ample f.plan) ws) h))

  word_loaded : (ws : List ℕ) (w : ℕ) → length ws < length_by (ample f.plan) ws →
      goes (row_loaded ws) w ≡ row_loaded (ws ++ w ∷ [])
  word_loaded ws w h =
      let vs : List ℕ = ws ++ w ∷ [] in
      ap (λ (g : Going). goes g w) (loads_on ws h)
      ∙ ap (λ (n : ℕ). on f (Goes u (if nat_lt n (length_by (ample f.plan) vs) then LoadRow turn word vs
      else CheckRow turn word vs))) (sym (length-more ws w))

  word_asked : (ws : List ℕ) → length ws < length_by (ample f.plan) ws →
      task (row_loaded ws) ≡ Load (place f.plan (RowWord (row_in word) (length ws + 1)))
  word_asked ws h = ap task (loads_on ws h)

  -- the words of the seats first
  seats_short : (ws : List ℕ) → length ws ≤ seats_wide → length ws < length_by (ample f.plan) ws
  seats_short ws h = omega (arith, h)

  module _ (start : ℕ) (at : start ≡ place f.plan (RowWord (row_in word) 1)) where
    pub seats_lead : (n : ℕ) → n ≡ seats_wide → Leads row_loaded [] start n
    seats_lead n is = record {
      asked = λ ws h. word_asked ws (seats_short ws (omega (arith, h, is)))
          ∙ (let e : place f.plan (RowWord (row_in word) (length ws + 1)) ≡ start + length ws = omega (arith, at) in
          ap Load e);
      next = λ ws w h. word_loaded ws w (seats_short ws (omega (arith, h, is)));
    }

    -- the count, and the items
    module _ (seats : List ℕ) (seats_are : length seats ≡ seats_wide) where
      pub count_asked : (there : ℕ) → there ≡ start + seats_wide → task (row_loaded seats) ≡ Load there
      count_asked there is = word_asked seats (seats_short seats (omega (arith, seats_are)))
          ∙ (let e : place f.plan (RowWord (row_in word) (length seats + 1)) ≡ there = omega
          (arith, at, is, seats_are) in
          ap Load e)

      pub count_loaded : (most : ℕ) → goes (row_loaded seats) most ≡ row_loaded (seats ++ most ∷ [])
      count_loaded most = word_loaded seats most (seats_short seats (omega (arith, seats_are)))

      module _ (most count : ℕ) (count_is : count ≡ count_in (ample f.plan) most) where
        -- how many words there are, now that the count is known
        whole_is : (items : List ℕ) → length_by (ample f.plan) (seats ++ most ∷ items) ≡ seats_wide + 1 +
            ITEM_WORDS * count
        whole_is items =
            let ws : List ℕ = seats ++ most ∷ items in
            let long : length ws ≡ seats_wide + 1 + length items = length-append seats (most ∷ items)
            ∙ omega (arith, seats_are) in
            let there : slice_index ws seats_wide ≡ most =
            ap (λ (n : ℕ). slice_index ws n) (omega (arith, seats_are))
            ∙ get_or-append-add seats (most ∷ items) 0 0 in
            ap (λ (n : ℕ). seats_wide + 1 + n)
            (cond-true (nat_lt seats_wide (length ws)) (ITEM_WORDS * count_in (ample f.plan)
            (slice_index ws seats_wide)) 0
            (lt-ltb seats_wide (length ws) (omega (arith, long)))
            ∙ ap (λ (n : ℕ). ITEM_WORDS * count_in (ample f.plan) n) there
            ∙ ap (λ (n : ℕ). ITEM_WORDS * n) (sym count_is))

        part : (ws : List ℕ) → (seats ++ most ∷ []) ++ ws ≡ seats ++ most ∷ ws
        part ws = append_assoc seats (most ∷ []) ws

        few : (ws : List ℕ) → length ws < ITEM_WORDS * count →
            length ((seats ++ most ∷ []) ++ ws) < length_by (ample f.plan) ((seats ++ most ∷ []) ++ ws)
        few ws h = subst (λ (vs : List ℕ). length vs < length_by (ample f.plan) vs) (sym (part ws))
            (omega (arith, h, whole_is ws, seats_are, length-append seats (most ∷ ws)))

        pub items_lead : (there n : ℕ) → there ≡ start + seats_wide + 1 → n ≡ ITEM_WORDS * count →
            Leads row_loaded (seats ++ most ∷ []) there n
        items_lead there n is all = record {
          asked = λ ws h. word_asked ((seats ++ most ∷ []) ++ ws) (few ws (omega (arith, h, all)))
              ∙ (let e : place f.plan (RowWord (row_in word) (length ((seats ++ most ∷ []) ++ ws) + 1)) ≡ there +
              length ws =
              omega (
                arith,
                at,
                is,
                seats_are,
                ap {A = List ℕ} {B = ℕ} length (part ws),
                length-append seats
                    (most ∷ ws),
              ) in
              ap Load e);
          next = λ ws w h. word_loaded ((seats ++ most ∷ []) ++ ws) w (few ws (omega (arith, h, all)));
        }

        -- all are loaded
        pub all_loaded : (items : List ℕ) → length items ≡ ITEM_WORDS * count →
            row_loaded ((seats ++ most ∷ []) ++ items) ≡ on f (Goes u (CheckRow turn word (seats ++ most ∷ items)))
        all_loaded items long =
            let ws : List ℕ = seats ++ most ∷ items in
            ap row_loaded (part items)
            ∙ ap (λ (s : Step). on f (Goes u s)) (cond-false (nat_lt (length ws) (length_by (ample f.plan) ws))
            (LoadRow turn word ws) (CheckRow turn word ws)
            (lt_false (length ws) (length_by (ample f.plan) ws)
            (omega (arith, whole_is items, long, seats_are, length-append seats (most ∷ items)))))

-- how many items are looked at
pub count_here : (f : Going) (desk : Desk) → IsOf f desk → (most count : ℕ) → count ≡ min most desk.settings.items →
    count ≡ count_in (ample f.plan) most
count_here f desk is most count count_is =
    count_is ∙ ap (λ (s : Settings). min most s.items) (sym (ample_settings f.plan ∙ is.settings))

-- the words of a row are loaded one after the other
module _ (f : Going) (desk : Desk) (is : IsOf f desk) (u : Update) (turn word : ℕ)
    (stand : f.now.stand ≡ Goes u (LoadRow turn word [])) (first : ℕ)
    (first_is : first ≡ desk.first_row + row_in word * desk.row_words) where
  wide_is : SEAT_WORDS * seats_of (ample f.plan) ≡ SEAT_WORDS * desk.settings.seats
  wide_is = ap (λ (n : ℕ). SEAT_WORDS * n) (ample_seats_are f desk is)

  at : first + 1 ≡ place f.plan (RowWord (row_in word) 1)
  at = omega (arith, row_at f desk is (row_in word) 1, first_is)

  starts : f ≡ row_loaded f u turn word []
  starts = ap (on f) stand ∙ sym (loads_on f u turn word [] (seats_short f u turn word [] (omega arith)))

  pub seats_read : (n : ℕ) → n ≡ SEAT_WORDS * desk.settings.seats → Reads f (first + 1) n
  seats_read n is_wide =
      leads_reads (row_loaded f u turn word) [] (first + 1) n
      (seats_lead f u turn word (first + 1) at n (omega (arith, is_wide, wide_is))) f starts

  module _ (seats : List ℕ) (long : length seats ≡ SEAT_WORDS * desk.settings.seats) (a : Going)
      (one : a ≡ goes_by f seats) where
    seats_are : length seats ≡ SEAT_WORDS * seats_of (ample f.plan)
    seats_are = omega (arith, long, wide_is)

    at_seats : a ≡ row_loaded f u turn word seats
    at_seats =
        leads_goes (row_loaded f u turn word) [] (first + 1) (length seats)
        (seats_lead f u turn word (first + 1) at (length seats) seats_are) f a seats starts refl one

    pub most_asked : (there : ℕ) → there ≡ first + desk.count → task a ≡ Load there
    most_asked there there_is =
        ap task at_seats
        ∙ count_asked f u turn word (first + 1) at seats seats_are there
        (omega (arith, there_is, desk.starts.count_is, wide_is))

    module _ (b : Going) (most : ℕ) (two : b ≡ goes a most) (count : ℕ) (count_is : count ≡ min most
        desk.settings.items)
      where
        at_count : b ≡ row_loaded f u turn word (seats ++ most ∷ [])
        at_count = two ∙ ap (λ (g : Going). goes g most) at_seats
            ∙ count_loaded f u turn word (first + 1) at seats seats_are most

        pub items_read : (start n : ℕ) → start ≡ first + desk.count + 1 → n ≡ ITEM_WORDS * count → Reads b start n
        items_read start n start_is n_is =
            leads_reads (row_loaded f u turn word) (seats ++ most ∷ []) start n
            (items_lead f u turn word (first + 1) at seats seats_are most count (count_here f desk is most count
            count_is) start n
            (omega (arith, start_is, desk.starts.count_is, wide_is)) n_is) b at_count

        pub items_done : (c : Going) (items : List ℕ) → length items ≡ ITEM_WORDS * count → c ≡ goes_by b items →
            c ≡ on f (Goes u (CheckRow turn word (seats ++ most ∷ items)))
        items_done c items items_long three =
            leads_goes (row_loaded f u turn word) (seats ++ most ∷ []) (first + desk.count + 1) (length items)
            (items_lead f u turn word (first + 1) at seats seats_are most count (count_here f desk is most count
            count_is) (first + desk.count + 1)
            (length items) (omega (arith, desk.starts.count_is, wide_is)) items_long) b c items at_count refl three
            ∙ all_loaded f u turn word (first + 1) at seats seats_are most count (count_here f desk is most count
            count_is) items items_long
