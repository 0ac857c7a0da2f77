-- What becomes of a list of leaves where its first leaf of a key is replaced, and where a leaf is added.
use Rattle.std.proofs.Common.{◌≡◌, ℕ, zero, suc, ◌+◌, ◌<◌, ◌≤◌, Bool, true, false, cond, List, [], ◌∷◌, ◌++◌, length, map, set, get_or, refl, sym, ap, ◌∙◌, arith, add-one}
use Rattle.std.specs.List.{insert}
use Rattle.plain_map.specs.declared.keys.Key.{Key}
use Rattle.plain_map.specs.declared.rules.Rules.{Rules}
use Rattle.bucket_states.specs.States.{state_of}
use Rattle.bucket_states.specs.declared.ops.Op.{Op}
use Rattle.bucket_states.specs.Change.{answered}
use Rattle.bucket_states.specs.Halves.{half}
use Rattle.plain_map.specs.Calls.{key_in}
use Rattle.table_model.specs.Leaves.{NewLeaf, is_in, at_leaf, add_leaf, apply, halves}
use Rattle.dir_states.specs.declared.values.NewLeaf.{NewLeaf as Leaf}
use Rattle.dir_states.specs.Views.{as_leaf}
use Rattle.dir_states.specs.Fit.{IsFirst, NonePasses, is_before}
use Rattle.std.proofs.lemmas.List.{get_or_default}

module _ (rules : Rules) (key : Key) (f : NewLeaf → List NewLeaf) where
  -- the leaf has the key
  abbrev pub has : Leaf → Bool
  has leaf = is_in rules key (state_of leaf.bucket)

  -- the leaves with these in place of the leaf of the key
  abbrev pub changed : List Leaf → List NewLeaf
  changed leaves = at_leaf rules key f (map as_leaf leaves)

  -- where the first stands behind another, it is the first of the rest
  pub later : (leaf : Leaf) (leaves : List Leaf) (at : ℕ) → IsFirst has (leaf ∷ leaves) (suc at) → IsFirst has leaves at
  later leaf leaves at first = record {
    in_range = omega (arith, first.in_range);
    passes = λ d. first.passes d;
    before = λ k d below. first.before (suc k) d (omega arith);
  }

  -- the first leaf has the key
  pub here : (leaf : Leaf) (leaves : List Leaf) → has leaf ≡ true →
      changed (leaf ∷ leaves) ≡ f (as_leaf leaf) ++ map as_leaf leaves
  here leaf leaves is = ap (λ b. cond b (f (as_leaf leaf) ++ map as_leaf leaves) (as_leaf leaf ∷ changed leaves)) is

  -- or it has not
  pub not_here : (leaf : Leaf) (leaves : List Leaf) → has leaf ≡ false →
      changed (leaf ∷ leaves) ≡ as_leaf leaf ∷ changed leaves
  not_here leaf leaves is = ap (λ b. cond b (f (as_leaf leaf) ++ map as_leaf leaves) (as_leaf leaf ∷ changed leaves)) is

  -- no leaf has the key
  pub at_leaf-none : (leaves : List Leaf) → NonePasses has leaves → changed leaves ≡ map as_leaf leaves
  at_leaf-none [] none = refl
  at_leaf-none (leaf ∷ leaves) none =
      not_here leaf leaves (none 0 leaf (omega arith))
      ∙ ap (λ rest. as_leaf leaf ∷ rest) (at_leaf-none leaves (λ k d below. none (suc k) d (omega arith)))

  -- another leaf in its place
  pub at_leaf-one : (leaves : List Leaf) (at : ℕ) (new : Leaf) → IsFirst has leaves at
      → ((d : Leaf) → f (as_leaf (get_or leaves at d)) ≡ as_leaf new ∷ [])
      → changed leaves ≡ map as_leaf (set leaves at new)
  at_leaf-one [] at new first is = absurd (omega (arith, first.in_range))
  at_leaf-one (leaf ∷ leaves) zero new first is =
      here leaf leaves (first.passes leaf) ∙ ap (λ front. front ++ map as_leaf leaves) (is leaf)
  at_leaf-one (leaf ∷ leaves) (suc at) new first is =
      not_here leaf leaves (first.before 0 leaf (omega arith))
      ∙ ap (λ rest. as_leaf leaf ∷ rest) (at_leaf-one leaves at new (later leaf leaves at first) is)

  -- two leaves in place of one, place by place
  two : (leaves : List Leaf) (at : ℕ) (lower upper : Leaf) → IsFirst has leaves at
      → ((d : Leaf) → f (as_leaf (get_or leaves at d)) ≡ as_leaf lower ∷ as_leaf upper ∷ [])
      → changed leaves ≡ map as_leaf (insert (set leaves at lower) (suc at) upper)
  two [] at lower upper first is = absurd (omega (arith, first.in_range))
  two (leaf ∷ leaves) zero lower upper first is =
      here leaf leaves (first.passes leaf) ∙ ap (λ front. front ++ map as_leaf leaves) (is leaf)
  two (leaf ∷ leaves) (suc at) lower upper first is =
      not_here leaf leaves (first.before 0 leaf (omega arith))
      ∙ ap (λ rest. as_leaf leaf ∷ rest) (two leaves at lower upper (later leaf leaves at first) is)

  -- two leaves in its place
  pub at_leaf-two : (leaves : List Leaf) (at : ℕ) (lower upper : Leaf) → IsFirst has leaves at
      → ((d : Leaf) → f (as_leaf (get_or leaves at d)) ≡ as_leaf lower ∷ as_leaf upper ∷ [])
      → changed leaves ≡ map as_leaf (insert (set leaves at lower) (at + 1) upper)
  at_leaf-two leaves at lower upper first is = rw add-one (two leaves at lower upper first is)

module _ (rules : Rules) (leaf : Leaf) where
  -- the leaves with this one among them
  abbrev added : List Leaf → List NewLeaf
  added leaves = add_leaf rules (as_leaf leaf) (map as_leaf leaves)

  -- a leaf is added before the first leaf that it comes before, and else at the end
  pub add_leaf-at : (leaves : List Leaf) (at : ℕ) → at ≤ length leaves
      → ((k : ℕ) (d : Leaf) → k < at → is_before rules leaf (get_or leaves k d) ≡ false)
      → (at < length leaves → (d : Leaf) → is_before rules leaf (get_or leaves at d) ≡ true)
      → added leaves ≡ map as_leaf (insert leaves at leaf)
  add_leaf-at [] zero within before here = refl
  add_leaf-at [] (suc at) within before here = absurd (omega arith)
  add_leaf-at (other ∷ leaves) zero within before here =
      ap (λ b. cond b (as_leaf leaf ∷ as_leaf other ∷ map as_leaf leaves) (as_leaf other ∷ added leaves))
      (here (omega arith) other)
  add_leaf-at (other ∷ leaves) (suc at) within before here =
      ap (λ b. cond b (as_leaf leaf ∷ as_leaf other ∷ map as_leaf leaves) (as_leaf other ∷ added leaves))
      (before 0 other (omega arith))
      ∙ ap (λ rest. as_leaf other ∷ rest)
      (add_leaf-at leaves at (omega arith) (λ k d below. before (suc k) d (omega arith))
      (λ inside d. here (omega arith) d))

-- the two parts of the leaf at a place
pub halves-at : (rules : Rules) (leaves : List Leaf) (at : ℕ) (leaf lower upper : Leaf) → at < length leaves →
    leaf ≡ get_or leaves at leaf
    → as_leaf lower ≡ record { from = leaf.from; bucket = half rules 0 (state_of leaf.bucket) }
    → as_leaf upper ≡ record { from = leaf.from; bucket = half rules 1 (state_of leaf.bucket) }
    → (d : Leaf) → halves rules (as_leaf (get_or leaves at d)) ≡ as_leaf lower ∷ as_leaf upper ∷ []
halves-at rules leaves at leaf lower upper inside is low high d =
    ap (λ (l : Leaf). halves rules (as_leaf l)) (get_or_default leaves at d leaf inside ∙ sym is)
    ∙ ap (λ (l : NewLeaf). l ∷ record { from = leaf.from; bucket = half rules 1 (state_of leaf.bucket) } ∷ []) (sym low)
    ∙ ap (λ (l : NewLeaf). as_leaf lower ∷ l ∷ []) (sym high)

-- the leaf with the op answered
abbrev pub answer_leaf : Rules → (seat : ℕ) → Op → NewLeaf → List NewLeaf
answer_leaf rules seat op leaf = record leaf { bucket = answered rules leaf.bucket seat op } ∷ []

module _ (rules : Rules) (seat : ℕ) (op : Op) (leaves : List Leaf) where
  -- an op whose key no leaf has
  pub apply-none : NonePasses (has rules (key_in op.call) (answer_leaf rules seat op)) leaves →
      map as_leaf leaves ≡ apply rules seat op (map as_leaf leaves)
  unfolding apply
  apply-none none = sym (at_leaf-none rules (key_in op.call) (answer_leaf rules seat op) leaves none)

  -- an op that is answered in a leaf
  pub apply-one : (at : ℕ) (old new : Leaf) →
      IsFirst (has rules (key_in op.call) (answer_leaf rules seat op)) leaves at → old ≡ get_or leaves at old
      → as_leaf new ≡ record { from = old.from; bucket = answered rules (state_of old.bucket) seat op }
      → map as_leaf (set leaves at new) ≡ apply rules seat op (map as_leaf leaves)
  unfolding apply
  apply-one at old new first is made =
      sym (at_leaf-one rules (key_in op.call) (answer_leaf rules seat op) leaves at new first
      (λ d. ap (λ (l : Leaf). answer_leaf rules seat op (as_leaf l))
      (get_or_default leaves at d old first.in_range ∙ sym is)
      ∙ ap (λ (l : NewLeaf). l ∷ []) (sym made)))
