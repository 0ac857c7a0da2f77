-- One pair more in the leaves below a prefix: splitting step by step as the definitions say gives the leaves that the
-- numbers of pairs give.
use Rattle.std.proofs.Common.{◌≡◌, ℕ, zero, suc, ◌+◌, ◌-◌, ◌*◌, ◌/◌, ◌<◌, ◌≤◌, ◌⊎◌, inl, inr, Bool, true, false, cond, not, List, [], ◌∷◌, ◌++◌, length, Option, None, refl, sym, ap, subst, ◌∙◌, arith}
use Rattle.std.specs.Prelude.{◌==◌, ◌&&◌, ◌||◌, nat_lt, is_some, filter}
use Rattle.std.proofs.lemmas.Bool.{cases_lt, eqb-true, eq-eqb, lt-ltb, le-ltb}
use Rattle.std.proofs.lemmas.List.Elements.{filter-append}
use Rattle.hash_bits.specs.Prefix.{first_bits}
use Rattle.hash_bits.proofs.PrefixLemmas.{first_bits-suc, div-first_bits_suc}
use Rattle.plain_map.specs.declared.keys.Key.{Key}
use Rattle.plain_map.specs.declared.keys.Pair.{Pair}
use Rattle.plain_map.specs.declared.rules.Rules.{Rules}
use Rattle.plain_map.specs.Keys.{Session}
use Rattle.plain_map.specs.PlainObject.{InRange}
use Rattle.bucket_states.specs.Halves.{half}
use Rattle.bucket_states.specs.Items.{prefix_of, value_at, appended, overflows, has_place}
use Rattle.table_model.specs.Leaves.{halves, split, must_split, split_for}
use Rattle.table_model.specs.Opening.{insert_of, put_in}
use Rattle.list_laws.proofs.Totals.{many, many-count}
use Rattle.change_laws.proofs.Bits.{hash_in, prefix_of-hash}
use Rattle.change_laws.proofs.Parts.{kept-value}
use Rattle.dir_states.specs.Cuts.{held, leaf_with, below}
use Rattle.dir_states.proofs.ChangeLemmas.{split_for-done}
use Rattle.dir_states.proofs.TreeLemmas.{put_after, put-front, put-back, held-more, held-length, below-none, below-other}
use Rattle.list_laws.proofs.Truths.{not_both}
use Rattle.std.proofs.Math.Bool.{or-false}

module _ (rules : Rules) (seats : ℕ) (range : InRange rules) (front : List Pair) (pair : Pair)
    (new : value_at pair.key front ≡ None)
    (free : held rules front rules.depth (prefix_of rules rules.depth pair.key) < rules.items) where
  -- the pairs with the new one
  abbrev now : List Pair
  now = front ++ pair ∷ []

  -- the pairs that have the prefix
  abbrev of : (depth prefix : ℕ) → List Pair
  of depth prefix = filter (λ (p : Pair). prefix_of rules depth p.key == prefix) front

  -- the key is new in every leaf
  new-in : (depth prefix : ℕ) → value_at pair.key (of depth prefix) ≡ None
  new-in depth prefix =
      kept-value (λ key. prefix_of rules depth key == prefix) pair.key front
      ∙ ap (λ o. cond (prefix_of rules depth pair.key == prefix) o None) new
      ∙ either (prefix_of rules depth pair.key == prefix)
    where
      nothing : Option Session
      nothing = None

      either : (b : Bool) → cond b nothing None ≡ None
      either true = refl
      either false = refl

  module _ (depth prefix : ℕ) (has : prefix_of rules depth pair.key ≡ prefix) where
    -- the test of the prefix is passed
    inside : (prefix_of rules depth pair.key == prefix) ≡ true
    inside = eq-eqb (prefix_of rules depth pair.key) prefix has

    -- one more pair has the prefix
    one-more : held rules now depth prefix ≡ held rules front depth prefix + 1
    one-more = held-more rules seats front pair depth prefix
        ∙ ap (λ b. held rules front depth prefix + cond b 1 0) inside

    -- and the leaf has the pair last
    items-now : filter (λ (p : Pair). prefix_of rules depth p.key == prefix) now ≡ of depth prefix ++ pair ∷ []
    items-now =
        filter-append (λ (p : Pair). prefix_of rules depth p.key == prefix) front (pair ∷ [])
        ∙ ap (λ b. of depth prefix ++ cond b (pair ∷ []) []) inside

    -- the leaf takes the pair, where there is a place
    put-here : held rules front depth prefix < rules.items →
        put_in rules pair (leaf_with rules seats front depth prefix ∷ []) ≡ leaf_with rules seats now depth prefix ∷ []
    put-here room =
        ap (λ b. cond b (record (leaf_with rules seats front depth prefix) {
          bucket = record
              (leaf_with rules seats front depth prefix).bucket {
                items = appended (of depth prefix)
                    pair (value_at pair.key (of depth prefix))
                    (has_place rules (of depth prefix));
              };
        } ∷ []) ((leaf_with rules seats front depth prefix) ∷ [])) inside
        ∙ ap (λ o. record (leaf_with rules seats front depth prefix) {
          bucket = record
              (leaf_with rules seats front depth prefix).bucket {
                items = appended (of depth prefix)
                    pair o (has_place rules (of depth prefix));
              };
        } ∷ [])
        (new-in depth prefix)
        ∙ ap (λ b. record (leaf_with rules seats front depth prefix) {
          bucket = record
              (leaf_with rules seats front depth prefix).bucket {
                items = appended (of depth prefix)
                    pair None b;
              };
        } ∷ []) place
        ∙ ap (λ l. record (leaf_with rules seats front depth prefix) {
          bucket = record
              (leaf_with rules seats front depth prefix).bucket { items = l };
        } ∷ []) (sym items-now)
      where
        place : has_place rules (of depth prefix) ≡ true
        place = lt-ltb (length (of depth prefix)) rules.items
            (omega (arith, room, held-length rules seats front depth prefix))

    -- whether it must be split
    must-here : (b c : Bool) → has_place rules (of depth prefix) ≡ b → nat_lt depth rules.depth ≡ c →
        must_split rules (insert_of pair) (leaf_with rules seats front depth prefix ∷ []) ≡ (not b && c)
    unfolding overflows
    must-here b c e f =
        ap (λ x. (x && (not (is_some (value_at pair.key (of depth prefix))) && (not
        (has_place rules (of depth prefix)) && nat_lt depth rules.depth))) || false) inside
        ∙ ap (λ o. (not (is_some o) && (not (has_place rules (of depth prefix)) && nat_lt depth
        rules.depth)) || false) (new-in depth prefix)
        ∙ ap (λ x. (not x && nat_lt depth rules.depth) || false) e ∙ ap (λ x. (not b && x) || false) f
        ∙ or-false (not b && c)

  -- ---- the two parts of a full leaf

  -- what has more bits of the prefix has the prefix
  shorter : (depth prefix bit : ℕ) (key : Key) → bit < 2 → depth < 64 →
      prefix_of rules (suc depth) key ≡ 2 * prefix + bit → prefix_of rules depth key ≡ prefix
  shorter depth prefix bit key small deep e =
      let up : prefix_of rules (suc depth) key / 2 ≡ prefix_of rules depth key =
      ap (λ n. n / 2) (prefix_of-hash rules (suc depth) key) ∙ div-first_bits_suc (hash_in rules key) depth deep
      ∙ sym (prefix_of-hash rules depth key) in
      sym up ∙ ap (λ n. n / 2) e ∙ omega (arith, small)

  module _ (depth prefix bit : ℕ) (small : bit < 2) (deep : depth < 64) where
    -- the pair has the prefix
    abbrev whole : Pair → Bool
    whole p = prefix_of rules depth p.key == prefix

    -- and one more bit of it
    abbrev half_of : Pair → Bool
    half_of p = prefix_of rules (suc depth) p.key == 2 * prefix + bit

    -- who has more bits has the fewer
    half-whole : (p : Pair) → half_of p ≡ true → whole p ≡ true
    half-whole p e = eq-eqb (prefix_of rules depth p.key) prefix
        (shorter depth prefix bit p.key small deep (eqb-true (prefix_of rules (suc depth) p.key) (2 * prefix + bit) e))

    -- so no more pairs have them
    fewer-many : (all : List Pair) → many half_of all ≤ many whole all
    fewer-many [] = omega arith
    fewer-many (p ∷ all) = go (half_of p) (half-whole p) (whole p) refl (fewer-many all)
      where
        go : (b : Bool) → (b ≡ true → whole p ≡ true) → (c : Bool) → whole p ≡ c →
            many half_of all ≤ many whole all → cond b 1 0 + many half_of all ≤ cond c 1 0 + many whole all
        go true h true e rest = omega (arith, rest)
        go true h false e rest = absurd (neither (h refl) e)
          where
            neither : whole p ≡ true → whole p ≡ false → ⊥
            neither t f = not_both (whole p) t f
        go false h true e rest = omega (arith, rest)
        go false h false e rest = omega (arith, rest)

    -- no more pairs have more bits of the prefix
    fewer : (all : List Pair) → held rules all (suc depth) (2 * prefix + bit) ≤ held rules all depth prefix
    fewer all = omega (arith, fewer-many all, many-count half_of all, many-count whole all)

    -- and those that have more are those of the fewer which have more
    filter-twice : (all : List Pair) → filter half_of (filter whole all) ≡ filter half_of all
    filter-twice [] = refl
    filter-twice (p ∷ all) = go (half_of p) refl (whole p) refl (filter-twice all)
      where
        go : (b : Bool) → half_of p ≡ b → (c : Bool) → whole p ≡ c →
            filter half_of (filter whole all) ≡ filter half_of all →
            filter half_of (cond c (p ∷ filter whole all) (filter whole all)) ≡ cond b (p ∷ filter half_of all)
            (filter half_of all)
        go true t true e rest = ap (λ x. cond x (p ∷ filter half_of (filter whole all))
            (filter half_of (filter whole all))) t ∙ ap (λ l. p ∷ l) rest
        go true t false e rest = absurd (not_both (whole p) (half-whole p t) e)
        go false t true e rest = ap (λ x. cond x (p ∷ filter half_of (filter whole all))
            (filter half_of (filter whole all))) t ∙ rest
        go false t false e rest = rest

    -- a part of a leaf is the leaf of one more bit
    half-leaf : record (leaf_with rules seats front depth prefix) {
      bucket = half rules bit
          (leaf_with rules seats front depth prefix).bucket;
    } ≡ leaf_with rules seats front (suc depth) (2 * prefix + bit)
    unfolding half
    half-leaf = ap (λ (l : List Pair). record
        (leaf_with rules seats front (suc depth) (2 * prefix + bit)) {
          bucket = record
              (leaf_with rules seats front (suc depth) (2 * prefix + bit)).bucket { items = l };
        }) (filter-twice front)

  -- few pairs have one leaf
  pub below-small : (all pairs : List Pair) (more depth prefix : ℕ) → held rules all depth prefix ≤ rules.items →
      below rules seats all pairs more depth prefix ≡ leaf_with rules seats pairs depth prefix ∷ []
  below-small all pairs zero depth prefix few = refl
  below-small all pairs (suc more) depth prefix few =
      ap (λ b. cond b (below rules seats all pairs more (suc depth) (2 * prefix + 0)
      ++ below rules seats all pairs more (suc depth) (2 * prefix + 1))
      (leaf_with rules seats pairs depth prefix ∷ []))
      (le-ltb rules.items (held rules all depth prefix) few)

  -- many have those of both parts
  pub below-large : (all pairs : List Pair) (more depth prefix : ℕ) → rules.items < held rules all depth prefix
      → below rules seats all pairs (suc more) depth prefix ≡ below rules seats all pairs more (suc depth)
      (2 * prefix + 0) ++ below rules seats all pairs more (suc depth) (2 * prefix + 1)
  below-large all pairs more depth prefix large =
      ap (λ b. cond b (below rules seats all pairs more (suc depth) (2 * prefix + 0)
      ++ below rules seats all pairs more (suc depth) (2 * prefix + 1))
      (leaf_with rules seats pairs depth prefix ∷ []))
      (lt-ltb rules.items (held rules all depth prefix) large)

  -- ---- the pair below a prefix that it has

  -- so many splits may be made, and the leaves are then these
  abbrev Grows : (most more depth prefix : ℕ) → Type 0
  Grows most more depth prefix = put_after rules pair most (below rules seats front front more depth prefix) ≡ below
      rules seats now now more depth prefix

  -- the pair goes below one of two parts
  both : (most more depth prefix : ℕ) → suc depth + more ≤ 64 → prefix_of rules depth pair.key ≡ prefix
      → (prefix_of rules (suc depth) pair.key ≡ 2 * prefix + 0 → Grows most more (suc depth) (2 * prefix + 0))
      → (prefix_of rules (suc depth) pair.key ≡ 2 * prefix + 1 → Grows most more (suc depth) (2 * prefix + 1))
      → put_after rules pair most (below rules seats front front more (suc depth) (2 * prefix + 0)
      ++ below rules seats front front more (suc depth) (2 * prefix + 1))
      ≡ below rules seats now now more (suc depth) (2 * prefix + 0)
      ++ below rules seats now now more (suc depth) (2 * prefix + 1)
  both most more depth prefix deep has low high =
      go (first_bits-suc (hash_in rules pair.key) depth (omega (arith, deep)))
    where
      at : first_bits (hash_in rules pair.key) depth ≡ prefix
      at = sym (prefix_of-hash rules depth pair.key) ∙ has

      go : (first_bits (hash_in rules pair.key) (suc depth) ≡ 2 * first_bits (hash_in rules pair.key) depth)
          ⊎ (first_bits (hash_in rules pair.key) (suc depth) ≡ 2 * first_bits (hash_in rules pair.key) depth + 1)
          → put_after rules pair most (below rules seats front front more (suc depth) (2 * prefix + 0)
          ++ below rules seats front front more (suc depth) (2 * prefix + 1))
          ≡ below rules seats now now more (suc depth) (2 * prefix + 0)
          ++ below rules seats now now more (suc depth) (2 * prefix + 1)
      go (inl e) =
          let here : prefix_of rules (suc depth) pair.key ≡ 2 * prefix + 0 =
          prefix_of-hash rules (suc depth) pair.key ∙ e ∙ ap (λ n. 2 * n) at ∙ omega arith in
          let other : prefix_of rules (suc depth) pair.key ≡ 2 * prefix + 1 → ⊥ = λ f. omega (arith, here, f) in
          put-back rules pair most (below rules seats front front more (suc depth) (2 * prefix + 0))
          (below rules seats front front more (suc depth) (2 * prefix + 1))
          (below-none rules seats pair front front more (suc depth) (2 * prefix + 1) deep other)
          ∙ ap (λ l. l ++ below rules seats front front more (suc depth) (2 * prefix + 1)) (low here)
          ∙ ap (λ l. below rules seats now now more (suc depth) (2 * prefix + 0) ++ l)
          (sym (below-other rules seats pair front more (suc depth) (2 * prefix + 1) deep other))
      go (inr e) =
          let here : prefix_of rules (suc depth) pair.key ≡ 2 * prefix + 1 =
          prefix_of-hash rules (suc depth) pair.key ∙ e ∙ ap (λ n. 2 * n + 1) at in
          let other : prefix_of rules (suc depth) pair.key ≡ 2 * prefix + 0 → ⊥ = λ f. omega (arith, here, f) in
          put-front rules pair most (below rules seats front front more (suc depth) (2 * prefix + 0))
          (below rules seats front front more (suc depth) (2 * prefix + 1))
          (below-none rules seats pair front front more (suc depth) (2 * prefix + 0) deep other)
          ∙ ap (λ l. below rules seats front front more (suc depth) (2 * prefix + 0) ++ l) (high here)
          ∙ ap (λ l. l ++ below rules seats now now more (suc depth) (2 * prefix + 1))
          (sym (below-other rules seats pair front more (suc depth) (2 * prefix + 0) deep other))

  -- a leaf with a place, or of the greatest depth, takes the pair
  takes : (most more depth prefix : ℕ) → prefix_of rules depth pair.key ≡ prefix →
      held rules front depth prefix < rules.items → Grows most more depth prefix
  takes most more depth prefix has room =
      let place : has_place rules (of depth prefix) ≡ true =
      lt-ltb (length (of depth prefix)) rules.items
      (omega (arith, room, held-length rules seats front depth prefix)) in
      let stays : must_split rules (insert_of pair) (leaf_with rules seats front depth prefix ∷ []) ≡ false =
      must-here depth prefix has true (nat_lt depth rules.depth) place refl in
      ap (put_after rules pair most) (below-small front front more depth prefix (omega (arith, room)))
      ∙ ap (put_in rules pair) (split_for-done rules (insert_of pair) most
      (leaf_with rules seats front depth prefix ∷ []) stays)
      ∙ put-here depth prefix has room
      ∙ sym (below-small now now more depth prefix (omega (arith, room, one-more depth prefix has)))

  -- a full leaf is split once
  splits : (most depth prefix : ℕ) → depth < rules.depth → prefix_of rules depth pair.key ≡ prefix →
      held rules front depth prefix ≡ rules.items → (more : ℕ)
      → split_for rules (insert_of pair) (suc most) (leaf_with rules seats front depth prefix ∷ [])
      ≡ split_for rules (insert_of pair) most
      (below rules seats front front more (suc depth) (2 * prefix + 0)
      ++ below rules seats front front more (suc depth) (2 * prefix + 1))
  unfolding split
  splits most depth prefix deep has full more =
      let wide : depth < 64 = omega (arith, deep, range.depth) in
      let no_place : has_place rules (of depth prefix) ≡ false =
      le-ltb (length (of depth prefix)) rules.items
      (omega (arith, full, held-length rules seats front depth prefix)) in
      let must : must_split rules (insert_of pair) (leaf_with rules seats front depth prefix ∷ []) ≡ true =
      must-here depth prefix has false true no_place (lt-ltb depth rules.depth deep) in
      ap (λ b. cond b (split_for rules (insert_of pair) most
      (split rules pair.key (leaf_with rules seats front depth prefix ∷ [])))
      (leaf_with rules seats front depth prefix ∷ [])) must
      ∙ ap (λ b. split_for rules (insert_of pair) most
      (cond b (halves rules (leaf_with rules seats front depth prefix) ++ [])
      (leaf_with rules seats front depth prefix ∷ []))) (inside depth prefix has)
      ∙ ap (λ l. split_for rules (insert_of pair) most
      (l ∷ record (leaf_with rules seats front depth prefix) {
        bucket = half rules 1
            (leaf_with rules seats front depth prefix).bucket;
      } ∷ [])) (half-leaf depth prefix 0 (omega arith) wide)
      ∙ ap (λ l. split_for rules (insert_of pair) most
      (leaf_with rules seats front (suc depth) (2 * prefix + 0) ∷ l ∷ []))
      (half-leaf depth prefix 1 (omega arith) wide)
      ∙ ap (λ l. split_for rules (insert_of pair) most
      (l ++ leaf_with rules seats front (suc depth) (2 * prefix + 1) ∷ []))
      (sym (below-small front front more (suc depth) (2 * prefix + 0)
      (omega (arith, full, fewer depth prefix 0 (omega arith) wide front))))
      ∙ ap (λ l. split_for rules (insert_of pair) most
      (below rules seats front front more (suc depth) (2 * prefix + 0) ++ l))
      (sym (below-small front front more (suc depth) (2 * prefix + 1)
      (omega (arith, full, fewer depth prefix 1 (omega arith) wide front))))

  -- so the definitions' steps make the leaves of one pair more
  pub grows : (most more depth prefix : ℕ) → depth + more ≡ rules.depth → more ≤ most →
      prefix_of rules depth pair.key ≡ prefix → Grows most more depth prefix
  grows most zero depth prefix deep enough has =
      takes most zero depth prefix has (subst (λ p. held rules front depth p < rules.items) has
      (subst (λ d. held rules front d (prefix_of rules d pair.key) < rules.items) (omega (arith, deep)) free))
  grows most (suc more) depth prefix deep enough has =
      go (cases_lt (held rules front depth prefix) rules.items) (cases_lt rules.items (held rules front depth prefix))
      (λ m less. both m more depth prefix (omega (arith, deep, range.depth)) has
      (grows m more (suc depth) (2 * prefix + 0) (omega (arith, deep)) less)
      (grows m more (suc depth) (2 * prefix + 1) (omega (arith, deep)) less))
    where
      go : (held rules front depth prefix < rules.items) ⊎ (rules.items ≤ held rules front depth prefix) →
          (rules.items < held rules front depth prefix) ⊎ (held rules front depth prefix ≤ rules.items)
          → ((m : ℕ) → more ≤ m
          → put_after rules pair m (below rules seats front front more (suc depth) (2 * prefix + 0)
          ++ below rules seats front front more (suc depth) (2 * prefix + 1))
          ≡ below rules seats now now more (suc depth) (2 * prefix + 0)
          ++ below rules seats now now more (suc depth) (2 * prefix + 1))
          → Grows most (suc more) depth prefix
      go (inl room) other rest = takes most (suc more) depth prefix has room
      go (inr full) (inl large) rest =
          ap (put_after rules pair most) (below-large front front more depth prefix large)
          ∙ rest most (omega (arith, enough))
          ∙ sym (below-large now now more depth prefix (omega (arith, large, one-more depth prefix has)))
      go (inr full) (inr few) rest =
          let one : suc (most - 1) ≡ most = omega (arith, enough) in
          ap (put_after rules pair most) (below-small front front (suc more) depth prefix few)
          ∙ ap (λ m. put_after rules pair m (leaf_with rules seats front depth prefix ∷ [])) (sym one)
          ∙ ap (put_in rules pair) (splits (most - 1) depth prefix (omega (arith, deep)) has
          (omega (arith, full, few)) more)
          ∙ rest (most - 1) (omega (arith, enough))
          ∙ sym (below-large now now more depth prefix (omega (arith, full, one-more depth prefix has)))
