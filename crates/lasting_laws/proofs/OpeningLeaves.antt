-- A table that begins as deep as it may be opens with one leaf for each class, in the order of their numbers.
use Rattle.std.proofs.Common.{◌≡◌, ℕ, zero, suc, ◌+◌, ◌^◌, ◌<◌, Bool, true, false, List, [], ◌∷◌, length, map, refl, sym, ap, ◌∙◌, subst, arith}
use Rattle.std.specs.Prelude.{fold, ◌||◌, ◌&&◌, if◌then◌else◌}
use Rattle.std.specs.List.{range_with_len}
use Rattle.plain_map.specs.declared.keys.Pair.{Pair}
use Rattle.plain_map.specs.declared.rules.Rules.{Rules}
use Rattle.plain_map.specs.declared.calls.Call.{Call}
use Rattle.plain_map.specs.Calls.{key_in}
use Rattle.bucket_states.specs.Items.{overflows, items_with}
use Rattle.bucket_states.proofs.AnswerLemmas.{overflows-deepest}
use Rattle.table_model.specs.Setup.{Setup, settings_of, seats_of, rules_of}
use Rattle.table_model.specs.Leaves.{NewLeaf, is_in, must_split, split_for, split}
use Rattle.table_model.specs.Opening.{empty_leaf, empty_leaves, insert_of, put_in, with_pair, opening_leaves}
use Rattle.table_model.specs.Worlds.{World, first_leaves}
use Rattle.run_invariant.proofs.Change.{leaf_at}
use Rattle.run_laws.proofs.Opened.{HoldsFresh}

-- leaves of one depth, the first of which has this prefix, and each the next one
abbrev pub InOrder : (depth prefix : ℕ) → List NewLeaf → Type 0
InOrder depth i [] = Unit {0}
InOrder depth i (leaf ∷ leaves) =
    (leaf.bucket.prefix ≡ i) × (leaf.bucket.depth ≡ depth) × InOrder depth (suc i) leaves

-- the empty leaves are
empties : (seats depth n i : ℕ) → InOrder depth i (map (empty_leaf seats depth) (range_with_len i n))
empties seats depth zero i = tt
empties seats depth (suc n) i = (
  refl,
  refl,
  subst (λ k. InOrder depth (suc i) (map (empty_leaf seats depth) (range_with_len k n))) (omega arith)
      (empties seats depth n (suc i)),
)

-- so each has its prefix
pub prefix_at : (depth : ℕ) (leaves : List NewLeaf) (i j : ℕ) → InOrder depth i leaves → j < length leaves →
    (leaf_at leaves j).prefix ≡ i + j
prefix_at depth [] i j o less = absurd (omega (arith, less))
prefix_at depth (leaf ∷ leaves) i zero o less = o.0 ∙ omega arith
prefix_at depth (leaf ∷ leaves) i (suc j) o less =
    prefix_at depth leaves (suc i) j o.2 (omega (arith, less)) ∙ omega arith

module _ (rules : Rules) where
  -- a pair that comes into a leaf leaves the order
  put_keeps : (pair : Pair) (leaves : List NewLeaf) (i : ℕ) → InOrder rules.depth i leaves →
      InOrder rules.depth i (put_in rules pair leaves)
  put_keeps pair [] i o = tt
  put_keeps pair (leaf ∷ leaves) i o = go (is_in rules pair.key leaf.bucket) (put_keeps pair leaves (suc i) o.2)
    where
      more : NewLeaf
      more = record leaf {
        bucket = record leaf.bucket {
          items = items_with rules leaf.bucket.items pair;
        };
      }

      go : (b : Bool) → InOrder rules.depth (suc i) (put_in rules pair leaves) →
          InOrder rules.depth i (if b then more ∷ leaves else leaf ∷ put_in rules pair leaves)
      go true rest = (o.0, o.1, o.2)
      go false rest = (o.0, o.1, rest)

  -- no leaf has to be split
  neither : (a b : Bool) → b ≡ false → ((a && false) || b) ≡ false
  neither true b e = e
  neither false b e = e

  none_splits : (call : Call) (leaves : List NewLeaf) (i : ℕ) → InOrder rules.depth i leaves →
      must_split rules call leaves ≡ false
  none_splits call [] i o = refl
  none_splits call (leaf ∷ leaves) i o =
      let none : overflows rules leaf.bucket.depth leaf.bucket.items call ≡ false =
      ap (λ d. overflows rules d leaf.bucket.items call) o.1 ∙ overflows-deepest rules leaf.bucket.items call in
      ap (λ b. (is_in rules (key_in call) leaf.bucket && b) || must_split rules call leaves) none
      ∙ neither (is_in rules (key_in call) leaf.bucket) (must_split rules call leaves)
      (none_splits call leaves (suc i) o.2)

  whole : (call : Call) (most : ℕ) (leaves : List NewLeaf) (i : ℕ) → InOrder rules.depth i leaves →
      split_for rules call most leaves ≡ leaves
  whole call zero leaves i o = refl
  whole call (suc most) leaves i o =
      ap (λ b. if b then split_for rules call most (split rules (key_in call) leaves) else leaves)
      (none_splits call leaves i o)

  pair_keeps : (pair : Pair) (leaves : List NewLeaf) → InOrder rules.depth 0 leaves →
      InOrder rules.depth 0 (with_pair rules leaves pair)
  pair_keeps pair leaves o =
      subst (λ ls. InOrder rules.depth 0 (put_in rules pair ls)) (sym (whole (insert_of pair) rules.depth leaves 0 o))
      (put_keeps pair leaves 0 o)

  pairs_keep : (pairs : List Pair) (leaves : List NewLeaf) → InOrder rules.depth 0 leaves →
      InOrder rules.depth 0 (fold (with_pair rules) leaves pairs)
  pairs_keep [] leaves o = o
  pairs_keep (pair ∷ pairs) leaves o = pairs_keep pairs (with_pair rules leaves pair) (pair_keeps pair leaves o)

-- the leaves of the opening are in order
pub opening_in_order : (setup : Setup) → (settings_of setup).start ≡ (settings_of setup).depth →
    InOrder (settings_of setup).depth 0 (first_leaves setup)
unfolding opening_leaves
opening_in_order setup deepest =
    pairs_keep (rules_of setup) setup.first (empty_leaves (seats_of setup) (settings_of setup).start)
    (subst (λ d. InOrder (settings_of setup).depth 0 (empty_leaves (seats_of setup) d)) (sym deepest)
    (empties (seats_of setup) (settings_of setup).depth (2 ^ (settings_of setup).depth) 0))

-- so the buckets of the opening are numbered by their prefixes
pub numbered_first : (setup : Setup) (w : World) → (h : HoldsFresh setup w) →
    (settings_of setup).start ≡ (settings_of setup).depth → (b : ℕ) → h.holds.common.named b ≡ true →
    h.holds.common.pre b ≡ b
numbered_first setup w h deepest b n =
    let first = h.first_leaf b n in
    let row = h.holds.follows.shared.rows.sound b 0 n (omega arith) in
    let none : 0 + b ≡ b = omega arith in
    sym row.prefix_is ∙ ap (λ st. st.prefix) first.2
    ∙ prefix_at (settings_of setup).depth (first_leaves setup) 0 b (opening_in_order setup deepest) first.0
    ∙ none
