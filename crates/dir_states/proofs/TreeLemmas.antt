-- The leaves below a prefix: how one pair more changes them, step by step as the definitions say and all at once.
use Rattle.std.proofs.Common.{◌≡◌, ℕ, zero, suc, ◌+◌, ◌*◌, ◌/◌, ◌<◌, ◌≤◌, Bool, true, false, cond, List, [], ◌∷◌, ◌++◌, length, refl, sym, ap, ◌∙◌, arith}
use Rattle.std.specs.Prelude.{◌==◌, ◌&&◌, ◌||◌, nat_lt, filter}
use Rattle.std.proofs.lemmas.Bool.{eqb-true}
use Rattle.std.proofs.lemmas.List.{append_assoc, append-nil}
use Rattle.std.proofs.lemmas.List.Elements.{filter-append}
use Rattle.std.proofs.lemmas.List.Sums.{length-filter}
use Rattle.hash_bits.proofs.PrefixLemmas.{div-first_bits_suc}
use Rattle.plain_map.specs.declared.keys.Key.{Key}
use Rattle.plain_map.specs.declared.keys.Pair.{Pair}
use Rattle.plain_map.specs.declared.rules.Rules.{Rules}
use Rattle.plain_map.specs.declared.calls.Call.{Call}
use Rattle.bucket_states.specs.Items.{prefix_of, items_with, overflows}
use Rattle.table_model.specs.Leaves.{NewLeaf, is_in, at_leaf, halves, split, must_split, split_for}
use Rattle.table_model.specs.Opening.{insert_of, put_in}
use Rattle.list_laws.proofs.Totals.{one_if, many, many-count, total-append}
use Rattle.change_laws.proofs.Bits.{hash_in, prefix_of-hash}
use Rattle.change_laws.proofs.Steps.{has_key, any-append}
use Rattle.dir_states.specs.Cuts.{held, leaf_with, below}
use Rattle.std.proofs.Math.Bool.{or-false}

-- ---- the leaf of a key among others

module _ (rules : Rules) (key : Key) (f : NewLeaf → List NewLeaf) where
  -- what stands in front of it stays
  at-front : (xs ys : List NewLeaf) → many (has_key rules key) xs ≡ 0 →
      at_leaf rules key f (xs ++ ys) ≡ xs ++ at_leaf rules key f ys
  at-front [] ys none = refl
  at-front (x ∷ xs) ys none = go (is_in rules key x.bucket) none (at-front xs ys)
    where
      go : (b : Bool) → cond b 1 0 + many (has_key rules key) xs ≡ 0 →
          (many (has_key rules key) xs ≡ 0 → at_leaf rules key f (xs ++ ys) ≡ xs ++ at_leaf rules key f ys)
          → cond b (f x ++ (xs ++ ys)) (x ∷ at_leaf rules key f (xs ++ ys)) ≡ x ∷ (xs ++ at_leaf rules key f ys)
      go true n rest = absurd (omega (arith, n))
      go false n rest = ap (λ l. x ∷ l) (rest (omega (arith, n)))

  -- nothing changes where none has the key
  at-none : (xs : List NewLeaf) → many (has_key rules key) xs ≡ 0 → at_leaf rules key f xs ≡ xs
  at-none [] none = refl
  at-none (x ∷ xs) none = go (is_in rules key x.bucket) none (at-none xs)
    where
      go : (b : Bool) → cond b 1 0 + many (has_key rules key) xs ≡ 0 →
          (many (has_key rules key) xs ≡ 0 → at_leaf rules key f xs ≡ xs) →
          cond b (f x ++ xs) (x ∷ at_leaf rules key f xs) ≡ x ∷ xs
      go true n rest = absurd (omega (arith, n))
      go false n rest = ap (λ l. x ∷ l) (rest (omega (arith, n)))

  -- what stands behind it stays
  at-back : (xs ys : List NewLeaf) → many (has_key rules key) ys ≡ 0 →
      at_leaf rules key f (xs ++ ys) ≡ at_leaf rules key f xs ++ ys
  at-back [] ys none = at-none ys none
  at-back (x ∷ xs) ys none = go (is_in rules key x.bucket) (at-back xs ys none)
    where
      go : (b : Bool) → at_leaf rules key f (xs ++ ys) ≡ at_leaf rules key f xs ++ ys
          → cond b (f x ++ (xs ++ ys)) (x ∷ at_leaf rules key f (xs ++ ys)) ≡ cond b (f x ++ xs)
          (x ∷ at_leaf rules key f xs) ++ ys
      go true rest = sym (append_assoc (f x) xs ys)
      go false rest = ap (λ l. x ∷ l) rest

module _ (rules : Rules) (pair : Pair) where
  -- the insert of the pair
  abbrev call : Call
  call = insert_of pair

  -- its key
  abbrev key : Key
  key = pair.key

  -- nothing has to be split where no leaf has the key
  must-none : (xs : List NewLeaf) → many (has_key rules key) xs ≡ 0 → must_split rules call xs ≡ false
  must-none [] none = refl
  must-none (x ∷ xs) none = go (is_in rules key x.bucket) none (must-none xs)
    where
      go : (b : Bool) → cond b 1 0 + many (has_key rules key) xs ≡ 0 →
          (many (has_key rules key) xs ≡ 0 → must_split rules call xs ≡ false)
          → ((b && overflows rules x.bucket.depth x.bucket.items call) || must_split rules call xs) ≡ false
      go true n rest = absurd (omega (arith, n))
      go false n rest = rest (omega (arith, n))

  -- leaves in front that have not the key need no split
  must-front : (xs ys : List NewLeaf) → many (has_key rules key) xs ≡ 0 →
      must_split rules call (xs ++ ys) ≡ must_split rules call ys
  must-front xs ys none =
      any-append (λ leaf. is_in rules key leaf.bucket && overflows rules leaf.bucket.depth leaf.bucket.items call) xs ys
      ∙ ap (λ b. b || must_split rules call ys) (must-none xs none)

  -- nor leaves behind
  must-back : (xs ys : List NewLeaf) → many (has_key rules key) ys ≡ 0 →
      must_split rules call (xs ++ ys) ≡ must_split rules call xs
  must-back xs ys none =
      any-append (λ leaf. is_in rules key leaf.bucket && overflows rules leaf.bucket.depth leaf.bucket.items call) xs ys
      ∙ ap (λ b. must_split rules call xs || b) (must-none ys none) ∙ or-false (must_split rules call xs)

  -- the splits for the pair, and its place
  abbrev pub put_after : (most : ℕ) → List NewLeaf → List NewLeaf
  put_after most leaves = put_in rules pair (split_for rules call most leaves)

  -- the splits leave what stands in front
  split-front : (most : ℕ) (xs ys : List NewLeaf) → many (has_key rules key) xs ≡ 0 →
      split_for rules call most (xs ++ ys) ≡ xs ++ split_for rules call most ys
  unfolding split
  split-front zero xs ys none = refl
  split-front (suc most) xs ys none =
      ap (λ b. cond b (split_for rules call most (split rules key (xs ++ ys))) (xs ++ ys)) (must-front xs ys none)
      ∙ go (must_split rules call ys) (split-front most xs (split rules key ys) none)
    where
      go : (b : Bool) → split_for rules call most (xs ++ split rules key ys) ≡ xs
          ++ split_for rules call most (split rules key ys) →
          cond b (split_for rules call most (split rules key (xs ++ ys))) (xs ++ ys) ≡ xs
          ++ cond b (split_for rules call most (split rules key ys)) ys
      go true rest = ap (split_for rules call most) (at-front rules key (halves rules) xs ys none) ∙ rest
      go false rest = refl

  -- and what stands behind
  split-back : (most : ℕ) (xs ys : List NewLeaf) → many (has_key rules key) ys ≡ 0 →
      split_for rules call most (xs ++ ys) ≡ split_for rules call most xs ++ ys
  unfolding split
  split-back zero xs ys none = refl
  split-back (suc most) xs ys none =
      ap (λ b. cond b (split_for rules call most (split rules key (xs ++ ys))) (xs ++ ys)) (must-back xs ys none)
      ∙ go (must_split rules call xs) (split-back most (split rules key xs) ys none)
    where
      go : (b : Bool) → split_for rules call most (split rules key xs ++ ys) ≡ split_for rules call most
          (split rules key xs) ++ ys → cond b (split_for rules call most (split rules key (xs ++ ys)))
          (xs ++ ys) ≡ cond b (split_for rules call most (split rules key xs)) xs ++ ys
      go true rest = ap (split_for rules call most) (at-back rules key (halves rules) xs ys none) ∙ rest
      go false rest = refl

  -- the leaf with the pair
  abbrev pub with_item : NewLeaf → List NewLeaf
  with_item leaf = record leaf { bucket = record leaf.bucket { items = items_with rules leaf.bucket.items pair } } ∷ []

  -- leaves without the key in front of it, and behind it, stay
  pub put-front : (most : ℕ) (xs ys : List NewLeaf) → many (has_key rules key) xs ≡ 0 →
      put_after most (xs ++ ys) ≡ xs ++ put_after most ys
  put-front most xs ys none = ap (put_in rules pair) (split-front most xs ys none)
      ∙ at-front rules key with_item xs (split_for rules call most ys) none

  -- and behind
  pub put-back : (most : ℕ) (xs ys : List NewLeaf) → many (has_key rules key) ys ≡ 0 →
      put_after most (xs ++ ys) ≡ put_after most xs ++ ys
  put-back most xs ys none = ap (put_in rules pair) (split-back most xs ys none)
      ∙ at-back rules key with_item (split_for rules call most xs) ys none

-- ---- one pair more

same_lt : (m n k : ℕ) → n ≡ k → nat_lt m n ≡ nat_lt m k
same_lt m n k e = ap (nat_lt m) e

module _ (rules : Rules) (seats : ℕ) where
  -- the pairs of a prefix, and one more
  pub held-more : (pairs : List Pair) (pair : Pair) (depth prefix : ℕ) →
      held rules (pairs ++ pair ∷ []) depth prefix ≡ held rules pairs depth prefix + cond
      (prefix_of rules depth pair.key == prefix) 1 0
  held-more pairs pair depth prefix =
      let test : Pair → Bool = λ (p : Pair). prefix_of rules depth p.key == prefix in
      omega (
        arith,
        many-count test (pairs ++ pair ∷ []),
        many-count test pairs,
        total-append (one_if test) pairs (pair ∷ []),
      )

  -- a leaf has as many items as pairs have its prefix
  pub held-length : (pairs : List Pair) (depth prefix : ℕ) →
      length (leaf_with rules seats pairs depth prefix).bucket.items ≡ held rules pairs depth prefix
  held-length pairs depth prefix = length-filter (λ (p : Pair). prefix_of rules depth p.key == prefix) pairs

  -- a key without the prefix
  module _ (pair : Pair) where
    -- has none of the leaves below it
    pub below-none : (all pairs : List Pair) (more depth prefix : ℕ) → depth + more ≤ 64 →
        (prefix_of rules depth pair.key ≡ prefix → ⊥) →
        many (has_key rules pair.key) (below rules seats all pairs more depth prefix) ≡ 0
    below-none all pairs zero depth prefix deep other = one (prefix_of rules depth pair.key == prefix) refl
      where
        one : (b : Bool) → (prefix_of rules depth pair.key == prefix) ≡ b → cond b 1 0 + 0 ≡ 0
        one true e = absurd (other (eqb-true (prefix_of rules depth pair.key) prefix e))
        one false e = refl
    below-none all pairs (suc more) depth prefix deep other =
        go (nat_lt rules.items (held rules all depth prefix))
        (below-none all pairs more (suc depth) (2 * prefix + 0) (omega (arith, deep)) (child 0 (omega arith)))
        (below-none all pairs more (suc depth) (2 * prefix + 1) (omega (arith, deep)) (child 1 (omega arith)))
      where
        one : (b : Bool) → (prefix_of rules depth pair.key == prefix) ≡ b → cond b 1 0 + 0 ≡ 0
        one true e = absurd (other (eqb-true (prefix_of rules depth pair.key) prefix e))
        one false e = refl

        child : (bit : ℕ) → bit < 2 → prefix_of rules (suc depth) pair.key ≡ 2 * prefix + bit → ⊥
        child bit small e =
            let up : prefix_of rules (suc depth) pair.key / 2 ≡ prefix_of rules depth pair.key =
            ap (λ n. n / 2) (prefix_of-hash rules (suc depth) pair.key)
            ∙ div-first_bits_suc (hash_in rules pair.key) depth (omega (arith, deep))
            ∙ sym (prefix_of-hash rules depth pair.key) in
            other (sym up ∙ ap (λ n. n / 2) e ∙ omega (arith, small))

        none_in : List NewLeaf → Type 0
        none_in leaves = many (has_key rules pair.key) leaves ≡ 0

        go : (b : Bool) → none_in (below rules seats all pairs more (suc depth) (2 * prefix + 0)) →
            none_in (below rules seats all pairs more (suc depth) (2 * prefix + 1))
            → many (has_key rules pair.key) (cond b (below rules seats all pairs more (suc depth) (2 * prefix + 0)
            ++ below rules seats all pairs more (suc depth) (2 * prefix + 1))
            (leaf_with rules seats pairs depth prefix ∷ [])) ≡ 0
        go true low high =
            omega (
              arith,
              total-append (one_if (has_key rules pair.key))
                  (below rules seats all pairs more (suc depth) (2 * prefix + 0))
                  (below rules seats all pairs more (suc depth) (2 * prefix + 1)),
              low,
              high,
            )
        go false low high = one (prefix_of rules depth pair.key == prefix) refl

    -- a leaf without the key stays as it is
    leaf-other : (pairs : List Pair) (depth prefix : ℕ) → (prefix_of rules depth pair.key ≡ prefix → ⊥) →
        leaf_with rules seats (pairs ++ pair ∷ []) depth prefix ≡ leaf_with rules seats pairs depth prefix
    leaf-other pairs depth prefix other =
        ap (λ (items : List Pair). record (leaf_with rules seats [] depth prefix) {
          bucket = record
              (leaf_with rules seats [] depth prefix).bucket { items = items };
        })
        (filter-append (λ (p : Pair). prefix_of rules depth p.key == prefix) pairs (pair ∷ [])
        ∙ ap (λ l. filter (λ (p : Pair). prefix_of rules depth p.key == prefix) pairs ++ l)
        (none (prefix_of rules depth pair.key == prefix) refl)
        ∙ append-nil (filter (λ (p : Pair). prefix_of rules depth p.key == prefix) pairs))
      where
        none : (b : Bool) → (prefix_of rules depth pair.key == prefix) ≡ b → cond b (pair ∷ []) [] ≡ []
        none true e = absurd (other (eqb-true (prefix_of rules depth pair.key) prefix e))
        none false e = refl

    -- and leaves them as they are
    pub below-other : (pairs : List Pair) (more depth prefix : ℕ) → depth + more ≤ 64 →
        (prefix_of rules depth pair.key ≡ prefix → ⊥)
        → below rules seats (pairs ++ pair ∷ []) (pairs ++ pair ∷ []) more depth prefix ≡ below rules seats pairs
        pairs more depth prefix
    below-other pairs zero depth prefix deep other = ap (λ l. l ∷ []) (leaf-other pairs depth prefix other)
    below-other pairs (suc more) depth prefix deep other =
        ap (λ b. cond b (below rules seats (pairs ++ pair ∷ []) (pairs ++ pair ∷ []) more (suc depth)
        (2 * prefix + 0) ++ below rules seats (pairs ++ pair ∷ []) (pairs ++ pair ∷ []) more (suc depth)
        (2 * prefix + 1)) (leaf_with rules seats (pairs ++ pair ∷ []) depth prefix ∷ []))
        (same_lt rules.items _ _ (held-more pairs pair depth prefix
        ∙ none (prefix_of rules depth pair.key == prefix) refl))
        ∙ go (nat_lt rules.items (held rules pairs depth prefix))
        (below-other pairs more (suc depth) (2 * prefix + 0) (omega (arith, deep)) (child 0 (omega arith)))
        (below-other pairs more (suc depth) (2 * prefix + 1) (omega (arith, deep)) (child 1 (omega arith)))
      where
        none : (b : Bool) → (prefix_of rules depth pair.key == prefix) ≡ b →
            held rules pairs depth prefix + cond b 1 0 ≡ held rules pairs depth prefix
        none true e = absurd (other (eqb-true (prefix_of rules depth pair.key) prefix e))
        none false e = omega arith

        child : (bit : ℕ) → bit < 2 → prefix_of rules (suc depth) pair.key ≡ 2 * prefix + bit → ⊥
        child bit small e =
            let up : prefix_of rules (suc depth) pair.key / 2 ≡ prefix_of rules depth pair.key =
            ap (λ n. n / 2) (prefix_of-hash rules (suc depth) pair.key)
            ∙ div-first_bits_suc (hash_in rules pair.key) depth (omega (arith, deep))
            ∙ sym (prefix_of-hash rules depth pair.key) in
            other (sym up ∙ ap (λ n. n / 2) e ∙ omega (arith, small))

        same_at : ℕ → Type 0
        same_at place = below rules seats (pairs ++ pair ∷ []) (pairs ++ pair ∷ []) more
            (suc depth) place ≡ below rules seats pairs pairs more (suc depth) place

        go : (b : Bool) → same_at (2 * prefix + 0) → same_at (2 * prefix + 1)
            → cond b (below rules seats (pairs ++ pair ∷ []) (pairs ++ pair ∷ []) more (suc depth) (2 * prefix + 0)
            ++ below rules seats (pairs ++ pair ∷ []) (pairs ++ pair ∷ []) more (suc depth) (2 * prefix + 1))
            (leaf_with rules seats (pairs ++ pair ∷ []) depth prefix ∷ [])
            ≡ cond b (below rules seats pairs pairs more (suc depth) (2 * prefix + 0)
            ++ below rules seats pairs pairs more (suc depth) (2 * prefix + 1))
            (leaf_with rules seats pairs depth prefix ∷ [])
        go true low high =
            ap (λ l. l ++ below rules seats (pairs ++ pair ∷ []) (pairs ++ pair ∷ []) more (suc depth)
            (2 * prefix + 1)) low
            ∙ ap (λ l. below rules seats pairs pairs more (suc depth) (2 * prefix + 0) ++ l) high
        go false low high = ap (λ l. l ∷ []) (leaf-other pairs depth prefix other)
