-- The leaves of an opening are those that the numbers of its pairs give.
use Rattle.std.proofs.Common.{◌≡◌, ℕ, zero, suc, ◌+◌, ◌-◌, ◌^◌, ◌<◌, ◌≤◌, ◌⊎◌, inl, inr, List, [], ◌∷◌, ◌++◌, map, None, refl, sym, ap, subst, ◌∙◌, arith}
use Rattle.std.specs.Prelude.{fold}
use Rattle.std.specs.List.{range_with_len}
use Rattle.std.proofs.lemmas.Bool.{cases_lt}
use Rattle.std.proofs.lemmas.List.{append_assoc, append-nil}
use Rattle.hash_bits.proofs.PrefixLemmas.{first_bits-within}
use Rattle.plain_map.specs.declared.keys.Pair.{Pair}
use Rattle.plain_map.specs.declared.rules.Rules.{Rules}
use Rattle.plain_map.specs.PlainObject.{InRange, class_of}
use Rattle.bucket_states.specs.Items.{prefix_of, value_at}
use Rattle.bucket_states.specs.Parts.{HasDistinctKeys}
use Rattle.bucket_states.proofs.KeyTests.{new_key}
use Rattle.table_model.specs.Setup.{HaveRoom}
use Rattle.table_model.specs.Opening.{empty_leaf, with_pair, opening_leaves}
use Rattle.list_laws.proofs.Totals.{one_if, many, total-append}
use Rattle.change_laws.proofs.Bits.{hash_in, hash_in-small, prefix_of-hash}
use Rattle.change_laws.proofs.Steps.{has_key}
use Rattle.dir_states.specs.Cuts.{held, below, below_each, cut_leaves}
use Rattle.dir_states.proofs.TreeLemmas.{put_after, put-front, put-back, below-none, below-other}
use Rattle.dir_states.proofs.GrowLemmas.{grows, below-small}
use Rattle.plain_map.specs.Keys.{no_pair}

-- ---- a key that is new

-- ---- one pair more

module _ (rules : Rules) (seats start : ℕ) (range : InRange rules) (within : start ≤ rules.depth) where
  module _ (front : List Pair) (pair : Pair) (new : value_at pair.key front ≡ None)
      (free : held rules front rules.depth (prefix_of rules rules.depth pair.key) < rules.items) where
    -- the pairs with the new one
    abbrev now : List Pair
    now = front ++ pair ∷ []

    -- the prefix that it has
    abbrev own : ℕ
    own = prefix_of rules start pair.key

    -- the leaves below other prefixes have not its key, and stay
    others-none : (from count : ℕ) → own < from →
        many (has_key rules pair.key) (below_each rules seats front front start from count) ≡ 0
    others-none from zero past = refl
    others-none from (suc count) past =
        omega (
          arith,
          total-append (one_if (has_key rules pair.key))
              (below rules seats front front (rules.depth - start) start from)
              (below_each rules seats front front start (suc from) count),
          below-none rules seats pair front front (rules.depth - start) start from (omega (arith, within, range.depth))
              (λ e. omega (arith, past, e)),
          others-none (suc from) count (omega (arith, past)),
        )

    -- they are the same leaves
    others-stay : (from count : ℕ) → own < from →
        below_each rules seats now now start from count ≡ below_each rules seats front front start from count
    others-stay from zero past = refl
    others-stay from (suc count) past =
        ap (λ l. l ++ below_each rules seats now now start (suc from) count)
        (below-other rules seats pair front (rules.depth - start) start from (omega (arith, within, range.depth))
        (λ e. omega (arith, past, e)))
        ∙ ap (λ l. below rules seats front front (rules.depth - start) start from ++ l)
        (others-stay (suc from) count (omega (arith, past)))

    -- the definitions' step is one pair more
    each-grows : (from count : ℕ) → from ≤ own → own < from + count
        → put_after rules pair rules.depth (below_each rules seats front front start from count) ≡ below_each rules
        seats now now start from count
    each-grows from zero low high = absurd (omega (arith, low, high))
    each-grows from (suc count) low high = go (cases_lt from own)
        (λ less. each-grows (suc from) count (omega (arith, less)) (omega (arith, high)))
      where
        go : (from < own) ⊎ (own ≤ from)
            → (from < own → put_after rules pair rules.depth
            (below_each rules seats front front start (suc from) count) ≡ below_each rules seats now now start
            (suc from) count)
            → put_after rules pair rules.depth
            (below_each rules seats front front start from (suc count)) ≡ below_each rules seats now now start
            from (suc count)
        go (inl less) rest =
            let other : own ≡ from → ⊥ = λ e. omega (arith, less, e) in
            put-front rules pair rules.depth (below rules seats front front (rules.depth - start) start from)
            (below_each rules seats front front start (suc from) count)
            (below-none rules seats pair front front (rules.depth - start) start from
            (omega (arith, within, range.depth)) other)
            ∙ ap (λ l. below rules seats front front (rules.depth - start) start from ++ l) (rest less)
            ∙ ap (λ l. l ++ below_each rules seats now now start (suc from) count)
            (sym (below-other rules seats pair front (rules.depth - start) start from
            (omega (arith, within, range.depth)) other))
        go (inr ge) rest =
            let here : own ≡ from = omega (arith, ge, low) in
            let past : own < suc from = omega (arith, here) in
            put-back rules pair rules.depth (below rules seats front front (rules.depth - start) start from)
            (below_each rules seats front front start (suc from) count)
            (others-none (suc from) count past)
            ∙ ap (λ l. l ++ below_each rules seats front front start (suc from) count)
            (grows rules seats range front pair new free rules.depth (rules.depth - start) start from
            (omega (arith, within)) (omega arith) here)
            ∙ ap (λ l. below rules seats now now (rules.depth - start) start from ++ l)
            (sym (others-stay (suc from) count past))

    -- so one pair more makes the leaves of one pair more
    pub one-grows : with_pair rules (cut_leaves rules seats front front start) pair ≡ cut_leaves rules seats now now
        start
    one-grows =
        each-grows 0 (2 ^ start) (omega arith)
        (omega (
          arith,
          first_bits-within (hash_in rules pair.key) start (hash_in-small rules pair.key)
              (omega (arith, within, range.depth)),
          prefix_of-hash rules start pair.key,
        ))

  -- ---- all pairs

  none-yet : (from count : ℕ) → map (empty_leaf seats start)
      (range_with_len from count) ≡ below_each rules seats [] [] start from count
  none-yet from zero = refl
  none-yet from (suc count) =
      ap (λ l. empty_leaf seats start from ∷ l)
      (none-yet (from + 1) count ∙ ap (λ n. below_each rules seats [] [] start n count) (omega arith))
      ∙ ap (λ l. l ++ below_each rules seats [] [] start (suc from) count)
      (sym (below-small rules seats range [] some new free [] [] (rules.depth - start) start from (omega arith)))
    where
      some : Pair
      some = no_pair

      new : value_at some.key [] ≡ None
      new = refl

      free : held rules [] rules.depth (prefix_of rules rules.depth some.key) < rules.items
      free = omega (arith, range.some_room)

  module _ (first : List Pair) (distinct : HasDistinctKeys first) (room : HaveRoom rules first) where
    -- and all further pairs do
    rest-grows : (front back : List Pair) → first ≡ front ++ back →
        fold (with_pair rules) (cut_leaves rules seats front front start) back ≡ cut_leaves rules seats first first
        start
    unfolding prefix_of class_of
    rest-grows front [] is = ap (λ l. cut_leaves rules seats l l start) (sym (is ∙ append-nil front))
    rest-grows front (pair ∷ back) is =
        let new = new_key front back pair (subst HasDistinctKeys is distinct) in
        let free = room front back pair is in
        ap (λ l. fold (with_pair rules) l back) (one-grows front pair new free)
        ∙ rest-grows (front ++ pair ∷ []) back (is ∙ sym (append_assoc front (pair ∷ []) back))

    -- the leaves of the opening
    pub opening-cuts : opening_leaves rules seats start first ≡ cut_leaves rules seats first first start
    unfolding opening_leaves
    opening-cuts = ap (λ l. fold (with_pair rules) l first) (none-yet 0 (2 ^ start)) ∙ rest-grows [] first refl
