-- The opening: empty leaves of the starting depth take the first pairs, one after the other, by the rule of a directory
-- change for an insert.
use Rattle.std.specs.Prelude.{ℕ, ◌^◌, List, [], ◌∷◌, map, replicate, None, fold}
use Rattle.std.specs.List.{range_with_len}
use Rattle.plain_map.specs.declared.keys.Pair.{Pair}
use Rattle.plain_map.specs.declared.rules.Rules.{Rules}
use Rattle.plain_map.specs.declared.calls.Call.{Call}
use Rattle.plain_map.specs.declared.calls.Call.TheVariants.{Insert}
use Rattle.bucket_states.specs.Items.{items_with}
use Rattle.bucket_states.specs.States.{empty_state}
use Rattle.table_model.specs.Directories.{DirectoryState}
use Rattle.table_model.specs.Leaves.{NewLeaf, at_leaf, split_for}
use Rattle.table_model.specs.DirectoryChange.{with_leaves}

-- the empty leaf of this prefix
abbrev pub empty_leaf : (seats depth prefix : ℕ) → NewLeaf
empty_leaf seats depth prefix =
    record { from = None; bucket = record (empty_state seats) { prefix = prefix; depth = depth } }

-- the empty leaves of a depth
abbrev pub empty_leaves : (seats depth : ℕ) → List NewLeaf
empty_leaves seats depth = map (empty_leaf seats depth) (range_with_len 0 (2 ^ depth))

-- a call that finds room where the pair does
abbrev pub insert_of : Pair → Call
insert_of pair = Insert pair.key pair.value

-- the pair stands in the leaf of its key
abbrev pub put_in : Rules → Pair → List NewLeaf → List NewLeaf
put_in rules pair leaves =
    at_leaf rules pair.key
    (λ leaf. record leaf {
      bucket = record leaf.bucket {
        items = items_with rules leaf.bucket.items pair;
      };
    } ∷ [])
    leaves

-- the leaves after one more pair
abbrev pub with_pair : Rules → List NewLeaf → Pair → List NewLeaf
with_pair rules leaves pair = put_in rules pair (split_for rules (insert_of pair) rules.depth leaves)

-- the leaves of the opening, in the order of their prefixes as bit strings
unfoldable pub opening_leaves : Rules → (seats start : ℕ) → List Pair → List NewLeaf
opening_leaves rules seats start first = fold (with_pair rules) (empty_leaves seats start) first

-- its directory, in which the leaves are numbered from 0 on
abbrev pub opening_directory : (start : ℕ) → List NewLeaf → DirectoryState
opening_directory start leaves = with_leaves 0 leaves (record { depth = start; entries = replicate (2 ^ start) 0 })
