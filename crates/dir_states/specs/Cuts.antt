-- The leaves of an opening, by how many of its pairs have each prefix.
use Rattle.std.specs.Prelude.{ℕ, zero, suc, ◌+◌, ◌-◌, ◌*◌, ◌^◌, ◌==◌, nat_lt, if◌then◌else◌, List, [], ◌∷◌, ◌++◌, None, count_by, filter}
use Rattle.plain_map.specs.declared.keys.Pair.{Pair}
use Rattle.plain_map.specs.declared.rules.Rules.{Rules}
use Rattle.bucket_states.specs.Items.{prefix_of}
use Rattle.bucket_states.specs.States.{empty_state}
use Rattle.table_model.specs.Leaves.{NewLeaf}

-- how many of these pairs have the prefix
abbrev pub held : Rules → List Pair → (depth prefix : ℕ) → ℕ
held rules pairs depth prefix = count_by (λ pair. prefix_of rules depth pair.key == prefix) pairs

-- the leaf of a prefix, with those of the pairs that have it
abbrev pub leaf_with : Rules → (seats : ℕ) → List Pair → (depth prefix : ℕ) → NewLeaf
leaf_with rules seats pairs depth prefix = record {
  from = None;
  bucket = record (empty_state seats) {
    prefix = prefix;
    depth = depth;
    items = filter (λ pair. prefix_of rules depth pair.key == prefix) pairs;
  };
}

-- the leaves below a prefix, where so many bits more may be taken: two parts where more of all pairs have the prefix
-- than a bucket has room for. They hold those of the pairs that came so far
abbrev pub below : Rules → (seats : ℕ) → (all pairs : List Pair) → (more depth prefix : ℕ) → List NewLeaf
below rules seats all pairs zero depth prefix = leaf_with rules seats pairs depth prefix ∷ []
below rules seats all pairs (suc more) depth prefix =
    if nat_lt rules.items (held rules all depth prefix)
    then below rules seats all pairs more (suc depth) (2 * prefix + 0)
    ++ below rules seats all pairs more (suc depth) (2 * prefix + 1)
    else leaf_with rules seats pairs depth prefix ∷ []

-- the leaves below so many prefixes of the starting depth, the first of which is this one
abbrev pub below_each : Rules → (seats : ℕ) → (all pairs : List Pair) → (start from count : ℕ) → List NewLeaf
below_each rules seats all pairs start from zero = []
below_each rules seats all pairs start from (suc count) =
    below rules seats all pairs (rules.depth - start) start from
    ++ below_each rules seats all pairs start (suc from) count

-- all leaves
abbrev pub cut_leaves : Rules → (seats : ℕ) → (all pairs : List Pair) → (start : ℕ) → List NewLeaf
cut_leaves rules seats all pairs start = below_each rules seats all pairs start 0 (2 ^ start)
