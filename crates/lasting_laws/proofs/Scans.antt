-- What a lookup or a copy has gone through of a row: by these items it tells what all items tell.
use Rattle.std.proofs.Common.{◌≡◌, ◌≢◌, ℕ, zero, suc, ◌+◌, ◌<◌, ◌≤◌, ◌⊎◌, inl, inr, Bool, true, false, cond, not, List, [], ◌∷◌, ◌++◌, length, map, get_or, take, drop, Some, None, refl, sym, ap, ◌∙◌, subst, arith, true≢false}
use Rattle.std.specs.Prelude.{◌==◌, ◌&&◌, nat_lt}
use Rattle.std.specs.List.{range_with_len}
use Rattle.std.specs.Option.{option_map_or}
use Rattle.std.proofs.lemmas.Bool.{cases_lt, eqb-true, eqb-false, ne_eqb, ltb-true, ltb-false}
use Rattle.std.proofs.lemmas.List.{length-append, get_or_append_left, get_or-append-add}
use Rattle.step_counts.specs.declared.TheConstants.{ITEM_WORDS}
use Rattle.plain_map.specs.declared.keys.Key.{Key}
use Rattle.plain_map.specs.declared.keys.Pair.{Pair}
use Rattle.plain_map.specs.declared.calls.Reply.TheVariants.{Absent}
use Rattle.plain_map.specs.Keys.{Session, held_in}
use Rattle.plain_map.specs.PlainObject.{found_in}
use Rattle.bucket_states.specs.Items.{same_key, value_at, reply_in}
use Rattle.table_model.specs.Setup.{Setup}
use Rattle.table_model.specs.Goes.{more}
use Rattle.lasting_model.specs.Codes.{count_in, count_place, item_place, pair_in, pair_at, pairs_of_row}
use Rattle.lasting_model.specs.Steps.{Aim, OfKey, OfBucket, Source, Scan, GlanceItem}
use Rattle.lasting_model.specs.Goes.{GlanceFate, Looks, gone_through, scan_on, scan_of, passed, with_pair, may_be, is_aimed, scan_pair, scan_fate, Replied, Pairs, told_by_items}
use Rattle.lasting_laws.proofs.Lists.{take_one, take_all}
use Rattle.lasting_laws.proofs.PoolsOpen.{at_range, length_range}

-- ---- keys

-- where the last word is another the keys are not one
and_false : (x : Bool) → (x && false) ≡ false
and_false true = refl
and_false false = refl

pub other_key : (a b : Key) → a.k4 ≢ b.k4 → same_key a b ≡ false
other_key a b other =
    let none : (a.k4 == b.k4) ≡ false = ne_eqb (a.k4) (b.k4) other in
    ap (λ (z : Bool). (a.k0 == b.k0) && ((a.k1 == b.k1) && ((a.k2 == b.k2) && ((a.k3 == b.k3) && z)))) none
    ∙ ap (λ (z : Bool). (a.k0 == b.k0) && ((a.k1 == b.k1) && ((a.k2 == b.k2) && z))) (and_false (a.k3 == b.k3))
    ∙ ap (λ (z : Bool). (a.k0 == b.k0) && ((a.k1 == b.k1) && z)) (and_false (a.k2 == b.k2))
    ∙ ap (λ (z : Bool). (a.k0 == b.k0) && z) (and_false (a.k1 == b.k1)) ∙ and_false (a.k0 == b.k0)

-- what the first pair with the key holds, in a list with one more
value_one : (key : Key) (kept : List Pair) (pair : Pair) → value_at key kept ≡ None →
    value_at key (kept ++ pair ∷ []) ≡ value_at key (pair ∷ [])
value_one key [] pair none = refl
value_one key (k ∷ kept) pair none = go (same_key k.key key) none (value_one key kept pair)
  where
    go : (b : Bool) → cond b (Some (held_in k)) (value_at key kept) ≡ None →
        (value_at key kept ≡ None → value_at key (kept ++ pair ∷ []) ≡ value_at key (pair ∷ [])) →
        cond b (Some (held_in k)) (value_at key (kept ++ pair ∷ [])) ≡ value_at key (pair ∷ [])
    go true e rest = absurd (some_none (held_in k) e)
      where
        some_none : (s : Session) → Some s ≡ None → ⊥
        some_none s f = cc
    go false e rest = rest e

-- a list from a place on
from_place : {A : Type 0} (xs : List A) (i : ℕ) (d : A) → i < length xs → drop i xs ≡ get_or xs i d ∷ drop (suc i) xs
from_place [] i d h = absurd (omega (arith, h))
from_place (x ∷ xs) zero d h = refl
from_place (x ∷ xs) (suc i) d h = from_place xs i d (omega (arith, h))

past_all : {A : Type 0} (xs : List A) (i : ℕ) → length xs ≤ i → drop i xs ≡ []
past_all [] zero h = refl
past_all [] (suc i) h = refl
past_all (x ∷ xs) zero h = absurd (omega (arith, h))
past_all (x ∷ xs) (suc i) h = past_all xs i (omega (arith, h))

-- what is kept of the items before this one: by a copy all of them; by a lookup none that has the key
abbrev pub IsKept : Aim → (items : List Pair) (item : ℕ) (kept : List Pair) → Type 0
IsKept (OfKey key) items item kept =
    (value_at key kept ≡ None) × (value_at key items ≡ value_at key (drop item items))
IsKept (OfBucket bucket) items item kept = kept ≡ take item items

module _ (setup : Setup) (aim : Aim) (row : ℕ → ℕ) where
  abbrev items : List Pair
  items = pairs_of_row setup row

  abbrev count : ℕ
  count = count_in setup (row (count_place setup))

  items_long : length items ≡ count
  items_long = mapped (range_with_len 0 count) ∙ length_range 0 count
    where
      mapped : (xs : List ℕ) → length (map (pair_at setup row) xs) ≡ length xs
      mapped [] = refl
      mapped (x ∷ xs) = ap suc (mapped xs)

  item_is : (i : ℕ) (d : Pair) → i < count → get_or items i d ≡ pair_at setup row i
  item_is i d less =
      (let e : 0 + i ≡ i = omega arith in at_range (pair_at setup row) 0 count i d less ∙ ap (pair_at setup row) e)

  -- a look has gone through these items so far
  pub record Scans (scan : Scan) : Type 0 where
    pub count_is : scan.count ≡ count
    pub within : scan.item ≤ count
    pub kept_is : IsKept aim items scan.item scan.kept
    pub part_is : (i : ℕ) → i < length scan.part → get_or scan.part i 0 ≡ row (item_place setup scan.item i)

  -- what is kept tells what all items tell
  abbrev pub Tells : List Pair → Type 0
  Tells kept = told_by_items setup aim kept ≡ told_by_items setup aim items

-- the same value tells the same
same_value : (setup : Setup) (key : Key) (a b : List Pair) → value_at key a ≡ value_at key b →
    told_by_items setup (OfKey key) a ≡ told_by_items setup (OfKey key) b
unfolding reply_in
same_value setup key a b e = ap (λ v. Replied (option_map_or found_in v Absent)) e

module _ (setup : Setup) (row : ℕ → ℕ) where
  -- none is gone through
  pub begins : (aim : Aim) → Scans setup aim row (scan_of (count_in setup (row (count_place setup))))
  begins aim = record {
    count_is = refl;
    within = omega arith;
    kept_is = first aim;
    part_is = λ i h. absurd (omega (arith, h));
  }
    where
      first : (a : Aim) → IsKept a (items setup aim row) 0 []
      first (OfKey key) = (refl, refl)
      first (OfBucket bucket) = refl

  -- all are gone through
  ends_all : (aim : Aim) (scan : Scan) → Scans setup aim row scan → scan.count ≤ scan.item →
      Tells setup aim row scan.kept
  ends_all (OfKey key) scan s all =
      same_value setup key scan.kept (items setup (OfKey key) row)
      (s.kept_is.0 ∙ sym (s.kept_is.1
      ∙ ap (value_at key) (past_all (items setup (OfKey key) row) scan.item
      (omega (arith, items_long setup (OfKey key) row, s.count_is, all)))))
  ends_all (OfBucket bucket) scan s all =
      let most : length (items setup (OfBucket bucket) row) ≡ scan.item =
      omega (arith, items_long setup (OfBucket bucket) row, s.count_is, all, s.within) in
      ap Pairs (s.kept_is ∙ take_all (items setup (OfBucket bucket) row) scan.item most)

  -- an item is gone past by one word of its key
  passes : (aim : Aim) (scan : Scan) → Scans setup aim row scan → scan.item < scan.count →
      may_be aim (row (item_place setup scan.item 0)) ≡ false → Scans setup aim row (passed scan)
  passes (OfKey key) scan s less other = record {
    count_is = s.count_is;
    within = omega (arith, s.count_is, less);
    kept_is = (
      s.kept_is.0,
      s.kept_is.1 ∙ ap (value_at key) (from_place all scan.item d here)
          ∙ (λ i. cond (not_it i) (Some (held_in (get_or all scan.item d))) (value_at key (drop (suc scan.item) all)))
          ∙ ap (λ k. value_at key (drop k all)) up,
    );
    part_is = λ i h. absurd (omega (arith, h));
  }
    where
      up : suc scan.item ≡ scan.item + 1
      up = omega arith

      all : List Pair
      all = items setup (OfKey key) row

      d : Pair
      d = pair_at setup row 0

      here : scan.item < length all
      here = omega (arith, items_long setup (OfKey key) row, s.count_is, less)

      not_it : same_key (get_or all scan.item d).key key ≡ false
      not_it =
          ap (λ (p : Pair). same_key p.key key)
          (item_is setup (OfKey key) row scan.item d (omega (arith, s.count_is, less)))
          ∙ other_key (pair_at setup row scan.item).key key
          (eqb-false (row (item_place setup scan.item 0)) (key.k4) other)
  passes (OfBucket bucket) scan s less other = absurd (true≢false other)

  -- a whole item is one more that is kept
  keeps : (aim : Aim) (scan : Scan) → Scans setup aim row scan → scan.item < scan.count →
      is_aimed aim (pair_at setup row scan.item) ≡ false →
      Scans setup aim row (with_pair scan (pair_at setup row scan.item))
  keeps (OfKey key) scan s less other = record {
    count_is = s.count_is;
    within = omega (arith, s.count_is, less);
    kept_is = (
      value_one key scan.kept (pair_at setup row scan.item) s.kept_is.0
          ∙ (λ i. cond (other i) (Some (held_in (pair_at setup row scan.item))) None),
      s.kept_is.1 ∙ ap (value_at key) (from_place all scan.item d here)
          ∙ (λ i. cond (not_it i) (Some (held_in (get_or all scan.item d))) (value_at key (drop (suc scan.item) all)))
          ∙ ap (λ k. value_at key (drop k all)) up,
    );
    part_is = λ i h. absurd (omega (arith, h));
  }
    where
      up : suc scan.item ≡ scan.item + 1
      up = omega arith

      all : List Pair
      all = items setup (OfKey key) row

      d : Pair
      d = pair_at setup row 0

      here : scan.item < length all
      here = omega (arith, items_long setup (OfKey key) row, s.count_is, less)

      not_it : same_key (get_or all scan.item d).key key ≡ false
      not_it =
          ap (λ (p : Pair). same_key p.key key)
          (item_is setup (OfKey key) row scan.item d (omega (arith, s.count_is, less))) ∙ other
  keeps (OfBucket bucket) scan s less other = record {
    count_is = s.count_is;
    within = omega (arith, s.count_is, less);
    kept_is =
        (λ i. s.kept_is i ++ sym (item_is setup (OfBucket bucket) row scan.item d
        (omega (arith, s.count_is, less))) i ∷ [])
        ∙ sym (take_one all scan.item (scan.item + 1) d (omega arith) here);
    part_is = λ i h. absurd (omega (arith, h));
  }
    where
      all : List Pair
      all = items setup (OfBucket bucket) row

      d : Pair
      d = pair_at setup row 0

      here : scan.item < length all
      here = omega (arith, items_long setup (OfBucket bucket) row, s.count_is, less)

  -- the item is what is looked for
  found_one : (aim : Aim) (scan : Scan) → Scans setup aim row scan → scan.item < scan.count →
      is_aimed aim (pair_at setup row scan.item) ≡ true →
      Tells setup aim row (more scan.kept (pair_at setup row scan.item))
  found_one (OfKey key) scan s less is =
      same_value setup key (more scan.kept (pair_at setup row scan.item)) all
      (value_one key scan.kept (pair_at setup row scan.item) s.kept_is.0
      ∙ (λ i. cond (is i) (Some (held_in (pair_at setup row scan.item))) None)
      ∙ sym (s.kept_is.1 ∙ ap (value_at key) (from_place all scan.item d here)
      ∙ (λ i. cond (it i) (Some (held_in (get_or all scan.item d))) (value_at key (drop (suc scan.item) all)))
      ∙ ap (λ (p : Pair). Some (held_in p)) same))
    where
      all : List Pair
      all = items setup (OfKey key) row

      d : Pair
      d = pair_at setup row 0

      here : scan.item < length all
      here = omega (arith, items_long setup (OfKey key) row, s.count_is, less)

      same : get_or all scan.item d ≡ pair_at setup row scan.item
      same = item_is setup (OfKey key) row scan.item d (omega (arith, s.count_is, less))

      it : same_key (get_or all scan.item d).key key ≡ true
      it = ap (λ (p : Pair). same_key p.key key) same ∙ is
  found_one (OfBucket bucket) scan s less is = absurd (true≢false (sym is))

  -- the words of a whole item tell its pair
  whole_pair : (item : ℕ) (words : List ℕ) → ((i : ℕ) → i < 7 → get_or words i 0 ≡ row (item_place setup item i)) →
      pair_in words ≡ pair_at setup row item
  whole_pair item words e i = record {
    key = record {
      k0 = e 1 (omega arith) i;
      k1 = e 2 (omega arith) i;
      k2 = e 3 (omega arith) i;
      k3 = e 4 (omega arith) i;
      k4 = e 0 (omega arith) i;
    };
    value = e 5 (omega arith) i;
    bytes = e 6 (omega arith) i;
  }

  module _ (aim : Aim) (source : Source) (T : GlanceFate → Type 0)
      (on : (scan : Scan) → Scans setup aim row scan → scan.item < scan.count → length scan.part < 7 →
      T (Looks (GlanceItem source scan)))
      (end : (kept : List Pair) → Tells setup aim row kept → T (gone_through source kept)) where
    -- the next item
    pub next_item : (scan : Scan) → Scans setup aim row scan → length scan.part ≡ 0 → T (scan_on source scan)
    next_item scan s none = go (nat_lt scan.item scan.count) refl
      where
        go : (b : Bool) → nat_lt scan.item scan.count ≡ b →
            T (cond b (Looks (GlanceItem source scan)) (gone_through source scan.kept))
        go true e = on scan s (ltb-true scan.item scan.count e) (omega (arith, none))
        go false e = end scan.kept (ends_all aim scan s (ltb-false scan.item scan.count e))

    -- THE RESULT: one word more
    pub next_word : (scan : Scan) (word : ℕ) → Scans setup aim row scan → scan.item < scan.count →
        length scan.part < 7 →
        word ≡ row (item_place setup scan.item (length scan.part)) → T (scan_fate source aim scan word)
    next_word scan word s less short is = first (length scan.part == 0) (may_be aim word) refl refl
      where
        longer : length (more scan.part word) ≡ length scan.part + 1
        longer = length-append scan.part (word ∷ [])

        parts : (i : ℕ) → i < length scan.part + 1 → get_or (more scan.part word) i 0 ≡ row
            (item_place setup scan.item i)
        parts i h = elim (cases i h) [
          | inl l ↦ get_or_append_left scan.part (word ∷ []) 0 i l ∙ s.part_is i l
          | inr e ↦
              let at : length scan.part + 0 ≡ i = omega (arith, e) in
              ap (λ k. get_or (more scan.part word) k 0) (sym at) ∙ get_or-append-add scan.part (word ∷ []) 0 0 ∙ is
              ∙ ap (λ k. row (item_place setup scan.item k)) (sym e)
        ]
          where
            cases : (j : ℕ) → j < length scan.part + 1 → (j < length scan.part) ⊎ (j ≡ length scan.part)
            cases j k = elim (cases_lt j (length scan.part)) [ inl l ↦ inl l | inr g ↦ inr (omega (arith, g, k)) ]

        pair : Pair
        pair = pair_in (more scan.part word)

        whole : ITEM_WORDS ≤ length scan.part + 1 → (b : Bool) → is_aimed aim pair ≡ b →
            T (cond b (gone_through source (more scan.kept pair)) (scan_on source (with_pair scan pair)))
        whole all b e =
            let same : pair ≡ pair_at setup row scan.item =
            whole_pair scan.item (more scan.part word) (λ i h. parts i (omega (arith, h, all))) in
            go b (ap (is_aimed aim) (sym same) ∙ e) same
          where
            go : (c : Bool) → is_aimed aim (pair_at setup row scan.item) ≡ c → pair ≡ pair_at setup row scan.item →
                T (cond c (gone_through source (more scan.kept pair)) (scan_on source (with_pair scan pair)))
            go true f same = end (more scan.kept pair)
                (subst (λ (p : Pair). Tells setup aim row (more scan.kept p)) (sym same) (found_one aim scan s less f))
            go false f same =
                subst (λ (p : Pair). T (scan_on source (with_pair scan p))) (sym same)
                (next_item (with_pair scan (pair_at setup row scan.item)) (keeps aim scan s less f) refl)

        second : (b : Bool) → nat_lt (length scan.part + 1) ITEM_WORDS ≡ b →
            T (cond b (Looks (GlanceItem source (record scan { part = more scan.part word })))
            (scan_pair source aim scan pair))
        second true e =
            let few : length scan.part + 1 < 7 = ltb-true (length scan.part + 1) ITEM_WORDS e in
            on (record scan { part = more scan.part word })
            (record {
              count_is = s.count_is;
              within = s.within;
              kept_is = s.kept_is;
              part_is = λ i h. parts i (omega (arith, h, longer));
            }) less (omega (arith, few, longer))
        second false e = whole (ltb-false (length scan.part + 1) ITEM_WORDS e) (is_aimed aim pair) refl

        first : (b c : Bool) → (length scan.part == 0) ≡ b → may_be aim word ≡ c → T (cond (b && not c)
            (scan_on source (passed scan)) (cond (nat_lt (length scan.part + 1) ITEM_WORDS)
            (Looks (GlanceItem source (record scan { part = more scan.part word }))) (scan_pair source aim scan pair)))
        first true false e f =
            let none : length scan.part ≡ 0 = eqb-true (length scan.part) 0 e in
            let here : word ≡ row (item_place setup scan.item 0) =
            is ∙ ap (λ k. row (item_place setup scan.item k)) none in
            next_item (passed scan) (passes aim scan s less (ap (may_be aim) (sym here) ∙ f)) refl
        first true true e f = second (nat_lt (length scan.part + 1) ITEM_WORDS) refl
        first false c e f = second (nat_lt (length scan.part + 1) ITEM_WORDS) refl
