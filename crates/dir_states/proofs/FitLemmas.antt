-- Where leaves are fit after a step, they were fit before it.
use Rattle.std.proofs.Common.{◌≡◌, ℕ, zero, suc, ◌+◌, ◌*◌, ◌^◌, ◌<◌, ◌≤◌, Bool, true, false, cond, List, [], ◌∷◌, ◌++◌, map, get_or, sym, subst, ◌∙◌, arith}
use Rattle.std.specs.Prelude.{nat_lt, All, Option}
use Rattle.std.proofs.Math.ListN.{length-set}
use Rattle.step_counts.specs.declared.settings.Settings.{Settings}
use Rattle.plain_map.specs.declared.keys.Key.{Key}
use Rattle.plain_map.specs.declared.rules.Rules.{Rules}
use Rattle.plain_map.specs.declared.calls.Call.{Call}
use Rattle.plain_map.specs.Calls.{key_in}
use Rattle.bucket_states.specs.Change.{answered}
use Rattle.bucket_states.specs.declared.ops.Op.{Op}
use Rattle.word_rows.specs.BucketWords.{IsBucket}
use Rattle.bucket_states.specs.States.{state_of, row_of_state}
use Rattle.bucket_states.specs.Halves.{half}
use Rattle.table_model.specs.Leaves.{NewLeaf, is_in, halves, at_leaf, split, apply, must_split, split_for, add_leaf, first_class}
use Rattle.dir_states.specs.declared.values.NewLeaf.{NewLeaf as Leaf}
use Rattle.dir_states.specs.Views.{as_leaf}
use Rattle.dir_states.specs.Fit.{CanSplit, IsFirst, IsFit, AreFit, MakesLeaves}
use Rattle.dir_states.proofs.LeafLemmas.{has, later, here, not_here}

module _ (depth seats : ℕ) where
  -- a part that is fit is that of a leaf that is fit, and can be split
  pub IsFit-half : (rules : Rules) (bit : ℕ) (leaf : NewLeaf) →
      IsFit depth seats (record { from = leaf.from; bucket = half rules bit leaf.bucket })
      → (leaf.bucket.depth < depth) × IsFit depth seats leaf
  unfolding half
  IsFit-half rules bit leaf fit =
      let below : 2 * leaf.bucket.prefix + bit < 2 ^ suc leaf.bucket.depth = fit.prefix in
      let few : suc leaf.bucket.depth ≤ depth = fit.depth in
      (omega arith, record { depth = omega arith; prefix = omega arith; applied = fit.applied; replies = fit.replies })

  -- leaves in front and behind are fit, where all are
  AreFit-front : (front back : List NewLeaf) → AreFit depth seats (front ++ back) →
      AreFit depth seats front × AreFit depth seats back
  AreFit-front [] back fit = (tt, fit)
  AreFit-front (leaf ∷ front) back fit = let rest = AreFit-front front back fit.1 in ((fit.0, rest.0), rest.1)

  -- what stands for the leaf of a key is fit, where all are
  at_leaf-by : (rules : Rules) (key : Key) (f : NewLeaf → List NewLeaf) →
      ((leaf : NewLeaf) → AreFit depth seats (f leaf) → IsFit depth seats leaf)
      → (leaf : NewLeaf) (leaves : List NewLeaf) (b : Bool)
      → (AreFit depth seats (at_leaf rules key f leaves) → AreFit depth seats leaves)
      → AreFit depth seats (cond b (f leaf ++ leaves) (leaf ∷ at_leaf rules key f leaves)) →
      AreFit depth seats (leaf ∷ leaves)
  at_leaf-by rules key f back leaf leaves true rest fit =
      let parts = AreFit-front (f leaf) leaves fit in (back leaf parts.0, parts.1)
  at_leaf-by rules key f back leaf leaves false rest fit = (fit.0, rest fit.1)

  -- so are all leaves before a change of one
  pub AreFit-at_leaf : (rules : Rules) (key : Key) (f : NewLeaf → List NewLeaf) →
      ((leaf : NewLeaf) → AreFit depth seats (f leaf) → IsFit depth seats leaf)
      → (leaves : List NewLeaf) → AreFit depth seats (at_leaf rules key f leaves) → AreFit depth seats leaves
  AreFit-at_leaf rules key f back [] fit = tt
  AreFit-at_leaf rules key f back (leaf ∷ leaves) fit =
      at_leaf-by rules key f back leaf leaves (is_in rules key leaf.bucket) (AreFit-at_leaf rules key f back leaves) fit

  -- the small steps
  pub AreFit-split : (rules : Rules) (key : Key) (leaves : List NewLeaf) →
      AreFit depth seats (split rules key leaves) → AreFit depth seats leaves
  unfolding split
  AreFit-split rules key leaves fit =
      AreFit-at_leaf rules key (halves rules) (λ leaf parts. (IsFit-half rules 0 leaf parts.0).1) leaves fit

  -- the answer to an op
  pub AreFit-apply : (rules : Rules) (seat : ℕ) (op : Op) (leaves : List NewLeaf) →
      AreFit depth seats (apply rules seat op leaves) → AreFit depth seats leaves
  unfolding apply
  AreFit-apply rules seat op leaves fit =
      AreFit-at_leaf rules (key_in op.call) (λ leaf. record leaf { bucket = answered rules leaf.bucket seat op } ∷ [])
      (λ (leaf : NewLeaf) (parts : AreFit depth seats (record leaf { bucket = answered rules leaf.bucket seat op } ∷
      [])). record {
        depth = parts.0.depth;
        prefix = parts.0.prefix;
        applied = sym (length-set leaf.bucket.applied seat op.number) ∙ parts.0.applied;
        replies = sym (length-set leaf.bucket.replies seat _) ∙ parts.0.replies;
      }) leaves fit

  -- one more split or none
  split_for-by : (rules : Rules) (call : Call) (most : ℕ) (leaves : List NewLeaf) (b : Bool)
      → (AreFit depth seats (split_for rules call most (split rules (key_in call) leaves)) → AreFit depth seats leaves)
      → AreFit depth seats (cond b (split_for rules call most (split rules (key_in call) leaves)) leaves) →
      AreFit depth seats leaves
  split_for-by rules call most leaves true rest fit = rest fit
  split_for-by rules call most leaves false rest fit = fit

  -- all splits
  pub AreFit-split_for : (rules : Rules) (call : Call) (most : ℕ) (leaves : List NewLeaf)
      → AreFit depth seats (split_for rules call most leaves) → AreFit depth seats leaves
  AreFit-split_for rules call zero leaves fit = fit
  AreFit-split_for rules call (suc most) leaves fit =
      split_for-by rules call most leaves (must_split rules call leaves)
      (λ after. AreFit-split rules (key_in call) leaves
      (AreFit-split_for rules call most (split rules (key_in call) leaves) after)) fit

  -- one more leaf, here or later
  add_leaf-by : (rules : Rules) (leaf other : NewLeaf) (leaves : List NewLeaf) (b : Bool)
      → (AreFit depth seats (add_leaf rules leaf leaves) → IsFit depth seats leaf × AreFit depth seats leaves)
      → AreFit depth seats (cond b (leaf ∷ other ∷ leaves) (other ∷ add_leaf rules leaf leaves))
      → IsFit depth seats leaf × AreFit depth seats (other ∷ leaves)
  add_leaf-by rules leaf other leaves true rest fit = fit
  add_leaf-by rules leaf other leaves false rest fit = let parts = rest fit.1 in (parts.0, (fit.0, parts.1))

  -- one more leaf
  pub AreFit-add_leaf : (rules : Rules) (leaf : NewLeaf) (leaves : List NewLeaf)
      → AreFit depth seats (add_leaf rules leaf leaves) → IsFit depth seats leaf × AreFit depth seats leaves
  AreFit-add_leaf rules leaf [] fit = fit
  AreFit-add_leaf rules leaf (other ∷ leaves) fit =
      add_leaf-by rules leaf other leaves (nat_lt (first_class rules leaf.bucket) (first_class rules other.bucket))
      (AreFit-add_leaf rules leaf leaves) fit

  -- what stands in place of the first leaf of a key
  pub AreFit-in_place : (rules : Rules) (key : Key) (f : NewLeaf → List NewLeaf) (leaves : List Leaf) (at : ℕ) →
      IsFirst (has rules key f) leaves at
      → AreFit depth seats (at_leaf rules key f (map as_leaf leaves)) → (d : Leaf) →
      AreFit depth seats (f (as_leaf (get_or leaves at d)))
  AreFit-in_place rules key f [] at first fit d = absurd (omega (arith, first.in_range))
  AreFit-in_place rules key f (leaf ∷ leaves) zero first fit d =
      (AreFit-front (f (as_leaf leaf)) (map as_leaf leaves)
      (subst (AreFit depth seats) (here rules key f leaf leaves (first.passes leaf)) fit)).0
  AreFit-in_place rules key f (leaf ∷ leaves) (suc at) first fit d =
      let rest : AreFit depth seats (as_leaf leaf ∷ at_leaf rules key f (map as_leaf leaves)) =
      subst (AreFit depth seats) (not_here rules key f leaf leaves (first.before 0 leaf (omega arith))) fit in
      AreFit-in_place rules key f leaves at (later rules key f leaf leaves at first) rest.1 d

  -- a leaf whose parts are fit can be split
  pub CanSplit-fit : (rules : Rules) (key : Key) (leaves : List Leaf) (at : ℕ) →
      IsFirst (has rules key (halves rules)) leaves at
      → AreFit depth seats (split rules key (map as_leaf leaves)) → (d : Leaf) →
      CanSplit depth seats (state_of (get_or leaves at d).bucket)
  unfolding split
  CanSplit-fit rules key leaves at first fit d =
      let parts : AreFit depth seats (halves rules (as_leaf (get_or leaves at d))) =
      AreFit-in_place rules key (halves rules) leaves at first fit d in
      let whole = IsFit-half rules 0 (as_leaf (get_or leaves at d)) parts.0 in
      record { depth = whole.0; prefix = whole.1.prefix; applied = whole.1.applied; replies = whole.1.replies }

  -- what a step says of what it made
  pub none_made : (due : List NewLeaf) (leaves : List Leaf) (done : Bool) → MakesLeaves depth seats due leaves done →
      done ≡ false → ¬ AreFit depth seats due
  none_made due leaves done makes is = subst (MakesLeaves depth seats due leaves) is makes

  -- and where it made them
  pub some_made : (due : List NewLeaf) (leaves : List Leaf) (done : Bool) → MakesLeaves depth seats due leaves done →
      done ≡ true → map as_leaf leaves ≡ due
  some_made due leaves done makes is = subst (MakesLeaves depth seats due leaves) is makes

-- leaves that can be spelled are fit
pub AreFit-spelled : (settings : Settings) (base : NewLeaf → Option ℕ) (leaves : List NewLeaf)
    → All (λ leaf. IsBucket settings (row_of_state (base leaf) leaf.bucket)) leaves →
    AreFit settings.depth settings.seats leaves
AreFit-spelled settings base [] all = tt
AreFit-spelled settings base (leaf ∷ leaves) all =
    let one : IsBucket settings (row_of_state (base leaf) leaf.bucket) = all 0 leaf (omega arith) in (
      record {
        depth = one.depth;
        prefix = one.prefix;
        applied = one.seats.each_number;
        replies = one.seats.each_reply;
      },
      AreFit-spelled settings base leaves (λ k d below. all (suc k) d (omega arith)),
    )
