-- The small steps on a list of leaves: what they keep of each leaf, and of sums over the leaves.
use Rattle.std.proofs.Common.{◌≡◌, ℕ, zero, suc, ◌+◌, ◌≤◌, Bool, true, false, cond, ◌||◌, List, [], ◌∷◌, ◌++◌, Some, refl, sym, ap, ◌∙◌, subst, arith}
use Rattle.std.specs.Prelude.{nat_lt, ◌&&◌}
use Rattle.std.specs.List.{list_any, AllByRecursion as Each}
use Rattle.plain_map.specs.declared.keys.Key.{Key}
use Rattle.plain_map.specs.declared.rules.Rules.{Rules}
use Rattle.plain_map.specs.declared.calls.Call.{Call}
use Rattle.plain_map.specs.Calls.{key_in}
use Rattle.bucket_states.specs.Items.{overflows}
use Rattle.table_model.specs.Leaves.{NewLeaf, is_in, leaf_of, at_leaf, split, must_split, split_for, add_leaf, first_class}
use Rattle.list_laws.proofs.Totals.{total, many, total-append, each-append}

-- the leaf has the key
abbrev pub has_key : Rules → Key → NewLeaf → Bool
has_key rules key leaf = is_in rules key leaf.bucket

-- ---- in place of the leaf of a key

-- where no leaf has the key
pub others-each : (rules : Rules) (key : Key) (P Q : NewLeaf → Type 0) →
    ((leaf : NewLeaf) → is_in rules key leaf.bucket ≡ false → P leaf → Q leaf)
    → (rest : List NewLeaf) → many (has_key rules key) rest ≡ 0 → Each P rest → Each Q rest
others-each rules key P Q miss [] none ps = tt
others-each rules key P Q miss (x ∷ xs) none ps =
    by_test (is_in rules key x.bucket) refl none (λ n. others-each rules key P Q miss xs n ps.1)
  where
    by_test : (b : Bool) → is_in rules key x.bucket ≡ b → cond b 1 0 + many (has_key rules key) xs ≡ 0 →
        (many (has_key rules key) xs ≡ 0 → Each Q xs) → Each Q (x ∷ xs)
    by_test true e n rest = absurd (omega (arith, n))
    by_test false e n rest = (miss x e ps.0, rest (omega (arith, n)))

module _ (rules : Rules) (key : Key) (f : NewLeaf → List NewLeaf) where
  -- facts of each leaf, where at most one has the key
  pub at-each : (P Q : NewLeaf → Type 0) (all leaves : List NewLeaf) → many (has_key rules key) leaves ≤ 1 →
      leaf_of rules key leaves ≡ leaf_of rules key all
      → ((leaf : NewLeaf) → is_in rules key leaf.bucket ≡ true → leaf_of rules key all ≡ Some leaf → P leaf →
      Each Q (f leaf))
      → ((leaf : NewLeaf) → is_in rules key leaf.bucket ≡ false → P leaf → Q leaf)
      → Each P leaves → Each Q (at_leaf rules key f leaves)
  at-each P Q all [] one same hit miss each = tt
  at-each P Q all (leaf ∷ leaves) one same hit miss each =
      go (is_in rules key leaf.bucket) refl one same (λ n e. at-each P Q all leaves n e hit miss each.1)
    where
      go : (b : Bool) → is_in rules key leaf.bucket ≡ b → cond b 1 0 + many (has_key rules key) leaves ≤ 1 →
          cond b (Some leaf) (leaf_of rules key leaves) ≡ leaf_of rules key all
          → (many (has_key rules key) leaves ≤ 1 → leaf_of rules key leaves ≡ leaf_of rules key all →
          Each Q (at_leaf rules key f leaves))
          → Each Q (cond b (f leaf ++ leaves) (leaf ∷ at_leaf rules key f leaves))
      go true e n is rest = each-append Q (f leaf) leaves (hit leaf e (sym is) each.0)
          (others-each rules key P Q miss leaves (omega (arith, n)) each.1)
      go false e n is rest = (miss leaf e each.0, rest (omega (arith, n)) is)

  -- and sums over all leaves
  pub at-total : (P : NewLeaf → Type 0) (g : NewLeaf → ℕ) (leaves : List NewLeaf) →
      ((leaf : NewLeaf) → is_in rules key leaf.bucket ≡ true → P leaf → total g (f leaf) ≡ g leaf) → Each P leaves
      → total g (at_leaf rules key f leaves) ≡ total g leaves
  at-total P g [] hit each = refl
  at-total P g (leaf ∷ leaves) hit each = go (is_in rules key leaf.bucket) refl (at-total P g leaves hit each.1)
    where
      go : (b : Bool) → is_in rules key leaf.bucket ≡ b → total g (at_leaf rules key f leaves) ≡ total g leaves
          → total g (cond b (f leaf ++ leaves) (leaf ∷ at_leaf rules key f leaves)) ≡ g leaf + total g leaves
      go true e rest = omega (arith, total-append g (f leaf) leaves, hit leaf e each.0)
      go false e rest = omega (arith, rest)

  -- which grow by one at most
  pub at-grows : (g : NewLeaf → ℕ) (leaves : List NewLeaf) →
      ((leaf : NewLeaf) → (g leaf ≤ total g (f leaf)) × (total g (f leaf) ≤ g leaf + 1))
      → (total g leaves ≤ total g (at_leaf rules key f leaves))
      × (total g (at_leaf rules key f leaves) ≤ total g leaves + 1)
  at-grows g [] hit = (omega arith, omega arith)
  at-grows g (leaf ∷ leaves) hit = go (is_in rules key leaf.bucket) (at-grows g leaves hit)
    where
      go : (b : Bool) → (total g leaves ≤ total g (at_leaf rules key f leaves))
          × (total g (at_leaf rules key f leaves) ≤ total g leaves + 1)
          → (g leaf + total g leaves ≤ total g (cond b (f leaf ++ leaves) (leaf ∷ at_leaf rules key f leaves)))
          × (total g (cond b (f leaf ++ leaves) (leaf ∷ at_leaf rules key f leaves)) ≤ g leaf + total g leaves + 1)
      go true rest = (
        omega (arith, total-append g (f leaf) leaves, (hit leaf).0),
        omega (arith, total-append g (f leaf) leaves, (hit leaf).1),
      )
      go false rest = (omega (arith, rest.0), omega (arith, rest.1))

-- ---- whether a leaf passes a test

pub any-append : (test : NewLeaf → Bool) (xs ys : List NewLeaf) →
    list_any test (xs ++ ys) ≡ (list_any test xs || list_any test ys)
any-append test [] ys = refl
any-append test (x ∷ xs) ys = go (test x) (any-append test xs ys)
  where
    go : (b : Bool) → list_any test (xs ++ ys) ≡ (list_any test xs || list_any test ys) →
        (b || list_any test (xs ++ ys)) ≡ ((b || list_any test xs) || list_any test ys)
    go true rest = refl
    go false rest = rest

-- a test that the new leaves pass as the old one did is passed by as many
pub at-any : (rules : Rules) (key : Key) (f : NewLeaf → List NewLeaf) (test : NewLeaf → Bool) →
    ((leaf : NewLeaf) → list_any test (f leaf) ≡ test leaf)
    → (leaves : List NewLeaf) → list_any test (at_leaf rules key f leaves) ≡ list_any test leaves
at-any rules key f test hit [] = refl
at-any rules key f test hit (leaf ∷ leaves) = go (is_in rules key leaf.bucket) (at-any rules key f test hit leaves)
  where
    go : (b : Bool) → list_any test (at_leaf rules key f leaves) ≡ list_any test leaves →
        list_any test (cond b (f leaf ++ leaves) (leaf ∷ at_leaf rules key f leaves)) ≡ (test leaf || list_any test
        leaves)
    go true rest = any-append test (f leaf) leaves ∙ ap (λ b. b || list_any test leaves) (hit leaf)
    go false rest = ap (λ b. test leaf || b) rest

-- one more leaf passes or another does
pub add-any : (rules : Rules) (leaf : NewLeaf) (test : NewLeaf → Bool) (leaves : List NewLeaf) →
    list_any test (add_leaf rules leaf leaves) ≡ (test leaf || list_any test leaves)
add-any rules leaf test [] = refl
add-any rules leaf test (other ∷ leaves) =
    go (nat_lt (first_class rules leaf.bucket) (first_class rules other.bucket)) (add-any rules leaf test leaves)
  where
    turned : (a b c : Bool) → (b || (a || c)) ≡ (a || (b || c))
    turned true true c = refl
    turned true false c = refl
    turned false b c = refl

    go : (b : Bool) → list_any test (add_leaf rules leaf leaves) ≡ (test leaf || list_any test leaves) →
        list_any test (cond b (leaf ∷ other ∷ leaves) (other ∷ add_leaf rules leaf leaves)) ≡ (test leaf ||
        (test other || list_any test leaves))
    go true rest = refl
    go false rest = ap (λ x. test other || x) rest ∙ turned (test leaf) (test other) (list_any test leaves)

-- ---- one more leaf

module _ (rules : Rules) (leaf : NewLeaf) where
  -- what holds of it and of each leaf holds of each
  pub add-each : (P : NewLeaf → Type 0) (leaves : List NewLeaf) → P leaf → Each P leaves →
      Each P (add_leaf rules leaf leaves)
  add-each P [] p each = (p, tt)
  add-each P (other ∷ leaves) p each =
      go (nat_lt (first_class rules leaf.bucket) (first_class rules other.bucket)) (add-each P leaves p each.1)
    where
      go : (b : Bool) → Each P (add_leaf rules leaf leaves) →
          Each P (cond b (leaf ∷ other ∷ leaves) (other ∷ add_leaf rules leaf leaves))
      go true rest = (p, each)
      go false rest = (each.0, rest)

  -- a sum grows by its own
  pub add-total : (g : NewLeaf → ℕ) (leaves : List NewLeaf) →
      total g (add_leaf rules leaf leaves) ≡ g leaf + total g leaves
  add-total g [] = refl
  add-total g (other ∷ leaves) =
      go (nat_lt (first_class rules leaf.bucket) (first_class rules other.bucket)) (add-total g leaves)
    where
      go : (b : Bool) → total g (add_leaf rules leaf leaves) ≡ g leaf + total g leaves
          → total g (cond b (leaf ∷ other ∷ leaves) (other ∷ add_leaf rules leaf leaves)) ≡ g
          leaf + (g other + total g leaves)
      go true rest = refl
      go false rest = omega (arith, rest)

-- ---- splits

module _ (rules : Rules) (call : Call) where
  -- the key of the call
  abbrev key : Key
  key = key_in call

  -- the leaf of the key can be split, and overflows
  abbrev pub MustSplit : NewLeaf → Type 0
  MustSplit leaf = overflows rules leaf.bucket.depth leaf.bucket.items call ≡ true

  -- no split must be where no leaf has the key
  pub nowhere : (rest : List NewLeaf) → many (has_key rules key) rest ≡ 0 → must_split rules call rest ≡ true → ⊥
  nowhere [] none m = cc
  nowhere (y ∷ rest) none m = by_test (is_in rules key y.bucket) none m (nowhere rest)
    where
      by_test : (b : Bool) → cond b 1 0 + many (has_key rules key) rest ≡ 0 →
          ((b && overflows rules y.bucket.depth y.bucket.items call) || must_split rules call rest) ≡ true
          → (many (has_key rules key) rest ≡ 0 → must_split rules call rest ≡ true → ⊥) → ⊥
      by_test true n m next = omega (arith, n)
      by_test false n m next = next (omega (arith, n)) m

  -- where a split must be, the leaf of the key is there, and overflows
  pub splits-one : (leaves : List NewLeaf) → many (has_key rules key) leaves ≤ 1 →
      must_split rules call leaves ≡ true → (leaf : NewLeaf) → leaf_of rules key leaves ≡ Some leaf → MustSplit leaf
  splits-one [] one must leaf e = cc
  splits-one (x ∷ leaves) one must leaf e =
      go (is_in rules key x.bucket) refl one must e (λ n m f. splits-one leaves n m leaf f)
    where
      some : Some x ≡ Some leaf → x ≡ leaf
      some e = cc

      here : (o : Bool) → overflows rules x.bucket.depth x.bucket.items call ≡ o →
          many (has_key rules key) leaves ≡ 0 → (o || must_split rules call leaves) ≡ true → MustSplit x
      here true e n m = e
      here false e n m = absurd (nowhere leaves n m)

      go : (b : Bool) → is_in rules key x.bucket ≡ b → cond b 1 0 + many (has_key rules key) leaves ≤ 1 →
          ((b && overflows rules x.bucket.depth x.bucket.items call) || must_split rules call leaves) ≡ true
          → cond b (Some x) (leaf_of rules key leaves) ≡ Some leaf
          → (many (has_key rules key) leaves ≤ 1 → must_split rules call leaves ≡ true →
          leaf_of rules key leaves ≡ Some leaf → MustSplit leaf) → MustSplit leaf
      go true t n m f rest = subst MustSplit (some f) (here (overflows rules x.bucket.depth x.bucket.items call) refl
          (omega (arith, n)) m)
      go false t n m f rest = rest (omega (arith, n)) m f

  -- and where none must be, no leaf of the key overflows
  pub splits-none : (leaves : List NewLeaf) → must_split rules call leaves ≡ false →
      Each (λ leaf. is_in rules key leaf.bucket ≡ true →
      overflows rules leaf.bucket.depth leaf.bucket.items call ≡ false) leaves
  splits-none [] none = tt
  splits-none (x ∷ leaves) none =
      go (is_in rules key x.bucket) (overflows rules x.bucket.depth x.bucket.items call) none (splits-none leaves)
    where
      go : (b o : Bool) → ((b && o) || must_split rules call leaves) ≡ false →
          (must_split rules call leaves ≡ false →
          Each (λ leaf. is_in rules key leaf.bucket ≡ true →
          overflows rules leaf.bucket.depth leaf.bucket.items call ≡ false) leaves)
          → (b ≡ true → o ≡ false) × Each (λ leaf. is_in rules key leaf.bucket ≡ true →
          overflows rules leaf.bucket.depth leaf.bucket.items call ≡ false) leaves
      go true true m rest = cc
      go true false m rest = (λ _. refl, rest m)
      go false o m rest = (λ e. cc, rest m)

  -- what each split keeps is kept
  pub splits-keep : (Inv : List NewLeaf → Type 0) →
      ((leaves : List NewLeaf) → must_split rules call leaves ≡ true → Inv leaves → Inv (split rules key leaves)) →
      (most : ℕ) (leaves : List NewLeaf) → Inv leaves → Inv (split_for rules call most leaves)
  splits-keep Inv step zero leaves inv = inv
  splits-keep Inv step (suc most) leaves inv =
      go (must_split rules call leaves) refl (λ e. splits-keep Inv step most (split rules key leaves)
      (step leaves e inv))
    where
      go : (b : Bool) → must_split rules call leaves ≡ b →
          (must_split rules call leaves ≡ true → Inv (split_for rules call most (split rules key leaves))) →
          Inv (cond b (split_for rules call most (split rules key leaves)) leaves)
      go true e next = next e
      go false e next = inv
