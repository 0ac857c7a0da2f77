-- The change of a directory, step by step.
use Rattle.std.proofs.Common.{◌≡◌, ℕ, zero, suc, ◌-◌, ◌<◌, Bool, true, false, cond, List, [], ◌∷◌, length, drop, drop-cons, get_or, Option, Some, None, refl, ap, subst, arith, ◌+◌, take, set, map, ◌∙◌}
use native.Mathlib.Numerals.{unary_clauses}
use Rattle.std.specs.List.{list_any}
use Rattle.std.proofs.lemmas.List.{map-append, take_more_set}
use Rattle.plain_map.specs.declared.rules.Rules.{Rules}
use Rattle.plain_map.specs.declared.calls.Call.{Call}
use Rattle.plain_map.specs.Calls.{key_in}
use Rattle.bucket_states.specs.declared.ops.Op.{Op}
use Rattle.bucket_states.specs.Halves.{half}
use Rattle.table_model.specs.Directories.{DirectoryState, bucket_of}
use Rattle.table_model.specs.DirectoryChange.{LoadedBucket, loaded_of, comes_from, with_parts, is_frozen_without, after_op_in, leaves_after_seat, leaves_after}
use Rattle.table_model.specs.Leaves.{NewLeaf, add_leaf, split, split_for, must_split, apply}
use Rattle.table_model.specs.Goes.{more}
use Rattle.dir_states.specs.Fit.{CanSplit, AreFit}
use Rattle.dir_states.proofs.FitLemmas.{IsFit-half, AreFit-split_for, AreFit-apply, AreFit-add_leaf}
use Rattle.dir_states.specs.declared.values.Loaded.{Loaded}
use Rattle.dir_states.specs.Views.{as_loaded}

-- no more is split where nothing must be
pub split_for-done : (rules : Rules) (call : Call) (most : ℕ) (leaves : List NewLeaf) →
    must_split rules call leaves ≡ false → split_for rules call most leaves ≡ leaves
split_for-done rules call zero leaves done = refl
split_for-done rules call (suc most) leaves done =
    ap (λ b. cond b (split_for rules call most (split rules (key_in call) leaves)) leaves) done

-- and else the leaf is split once, and then as long as it must be
pub split_for-more : (rules : Rules) (call : Call) (most : ℕ) (leaves : List NewLeaf) → 0 < most →
    must_split rules call leaves ≡ true
    → split_for rules call most leaves ≡ split_for rules call (most - 1) (split rules (key_in call) leaves)
split_for-more rules call zero leaves some must = absurd (omega arith)
split_for-more rules call (suc most) leaves some must =
    simp unary_clauses
    (ap (λ b. cond b (split_for rules call most (split rules (key_in call) leaves)) leaves) must)

module _ (rules : Rules) (loaded : LoadedBucket) (leaves : List NewLeaf) where
  -- the two parts as leaves
  abbrev pub part : ℕ → NewLeaf
  part bit = record { from = Some loaded.bucket; bucket = half rules bit loaded.state }

  -- the leaves with both parts
  abbrev pub both : List NewLeaf
  both = add_leaf rules (part 1) (add_leaf rules (part 0) leaves)

  -- a bucket that was not split gives both parts
  pub with_parts-new : list_any (comes_from loaded.bucket) leaves ≡ false → with_parts rules loaded leaves ≡ both
  with_parts-new new = ap (λ b. cond b leaves both) new

  module _ (depth seats : ℕ) where
    -- a frozen bucket whose parts are fit can be split
    pub CanSplit-both : AreFit depth seats both → CanSplit depth seats loaded.state
    CanSplit-both fit =
        let upper = AreFit-add_leaf depth seats rules (part 1) (add_leaf rules (part 0) leaves) fit in
        let whole = IsFit-half depth seats rules 1 (record { from = Some loaded.bucket; bucket = loaded.state })
        upper.0 in
        record { depth = whole.0; prefix = whole.1.prefix; applied = whole.1.applied; replies = whole.1.replies }

    -- where the leaves with both parts are fit, they were without
    with_parts-by : (b : Bool) → AreFit depth seats (cond b leaves both) → AreFit depth seats leaves
    with_parts-by true fit = fit
    with_parts-by false fit =
        (AreFit-add_leaf depth seats rules (part 0) leaves
        (AreFit-add_leaf depth seats rules (part 1) (add_leaf rules (part 0) leaves) fit).1).1

    -- so they were before the split
    pub AreFit-with_parts : AreFit depth seats (with_parts rules loaded leaves) → AreFit depth seats leaves
    AreFit-with_parts fit = with_parts-by (list_any (comes_from loaded.bucket) leaves) fit

module _ (rules : Rules) (seat : ℕ) (op : Op) (leaves : List NewLeaf) (loaded : LoadedBucket) where
  -- the leaves in which the op is answered
  abbrev pub split_leaves : List NewLeaf
  split_leaves = split_for rules op.call rules.depth (with_parts rules loaded leaves)

  -- an op that is taken is answered there
  pub after_op_in-here : is_frozen_without seat op loaded ≡ true →
      after_op_in rules seat op leaves (Some loaded) ≡ apply rules seat op split_leaves
  after_op_in-here is = ap (λ b. cond b (apply rules seat op split_leaves) leaves) is

module _ (depth seats : ℕ) (rules : Rules) where
  -- where the leaves are fit after an op, taken or not, they were before
  after_op-by : (seat : ℕ) (op : Op) (leaves : List NewLeaf) (loaded : LoadedBucket) (b : Bool)
      → AreFit depth seats (cond b (apply rules seat op (split_leaves rules seat op leaves loaded)) leaves) →
      AreFit depth seats leaves
  after_op-by seat op leaves loaded true fit =
      AreFit-with_parts rules loaded leaves depth seats
      (AreFit-split_for depth seats rules op.call rules.depth (with_parts rules loaded leaves)
      (AreFit-apply depth seats rules seat op (split_leaves rules seat op leaves loaded) fit))
  after_op-by seat op leaves loaded false fit = fit

  -- and so where its bucket may not be loaded
  AreFit-after_op : (seat : ℕ) (op : Op) (leaves : List NewLeaf) (one : Option LoadedBucket) →
      AreFit depth seats (after_op_in rules seat op leaves one) → AreFit depth seats leaves
  AreFit-after_op seat op leaves None fit = fit
  AreFit-after_op seat op leaves (Some loaded) fit =
      after_op-by seat op leaves loaded (is_frozen_without seat op loaded) fit

  module _ (directory : DirectoryState) (loaded : List LoadedBucket) where
    -- and where the seat may have announced nothing
    AreFit-after_seat : (seat : ℕ) (op : Option Op) (leaves : List NewLeaf) →
        AreFit depth seats (leaves_after_seat rules directory loaded seat op leaves) → AreFit depth seats leaves
    AreFit-after_seat seat None leaves fit = fit
    AreFit-after_seat seat (Some op) leaves fit =
        AreFit-after_op seat op leaves (loaded_of loaded (bucket_of rules directory (key_in op.call))) fit

    -- where all leaves of a change are fit, they were at each step
    pub AreFit-leaves_after : (seat : ℕ) (ops : List (Option Op)) (leaves : List NewLeaf) →
        AreFit depth seats (leaves_after rules directory loaded seat ops leaves) → AreFit depth seats leaves
    AreFit-leaves_after seat [] leaves fit = fit
    AreFit-leaves_after seat (op ∷ ops) leaves fit =
        AreFit-after_seat seat op leaves (AreFit-leaves_after (suc seat) ops
        (leaves_after_seat rules directory loaded seat op leaves) fit)

-- where all leaves of the change are fit, those after one seat are
pub AreFit-seat : (depth seats : ℕ) (rules : Rules) (directory : DirectoryState) (loaded : List LoadedBucket)
    (seat : ℕ) (ops : List (Option Op)) (leaves : List NewLeaf)
    → seat < length ops → AreFit depth seats (leaves_after rules directory loaded seat (drop seat ops) leaves)
    → AreFit depth seats (leaves_after_seat rules directory loaded seat (get_or ops seat None) leaves)
AreFit-seat depth seats rules directory loaded seat ops leaves inside fit =
    AreFit-leaves_after depth seats rules directory loaded (suc seat) (drop (suc seat) ops)
    (leaves_after_seat rules directory loaded seat (get_or ops seat None) leaves)
    (subst (λ l. AreFit depth seats (leaves_after rules directory loaded seat l leaves))
    (drop-cons ops seat None inside) fit)

-- the buckets that were loaded, with one more
pub loaded_more : (loaded : List Loaded) (i : ℕ) (x : Loaded) → i < length loaded →
    map as_loaded (take (i + 1) (set loaded i x)) ≡ more (map as_loaded (take i loaded)) (as_loaded x)
loaded_more loaded i x h =
    ap (map as_loaded) (take_more_set loaded i x h) ∙ map-append as_loaded (take i loaded) (x ∷ [])
