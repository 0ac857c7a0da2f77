-- What a table leaves when all its seats have stopped, wherever each stands: records, pending calls, leaves and pairs.
use Rattle.std.specs.Prelude.{◌≡◌, ℕ, ◌-◌, ◌/◌, ◌^◌, ◌<◌, ◌==◌, ◌⊎◌, List, [], ◌∷◌, ◌++◌, map, max, count_by, flat_map, fold, All}
use Rattle.std.specs.List.{enumerate_from}
use Rattle.hash_bits.specs.Prefix.{first_bits}
use Rattle.plain_map.specs.declared.keys.Pair.{Pair}
use Rattle.plain_map.specs.declared.rules.Rules.{Rules}
use Rattle.plain_map.specs.declared.records.Record.{Record}
use Rattle.plain_map.specs.declared.records.Pending.{Pending}
use Rattle.plain_map.specs.declared.leaves.Leaf.{Leaf}
use Rattle.plain_map.specs.PlainObject.{Sessions, pairs_of, brought}
use Rattle.plain_map.specs.Keys.{held_in}
use Rattle.plain_map.specs.History.{Placed, sessions_after}
use Rattle.std.specs.FinMap.{empty}
use Rattle.word_rows.specs.Shape.{Shape}
use Rattle.bucket_states.specs.Items.{prefix_of}
use Rattle.table_model.specs.SeatStates.{Stand, Idle, InFlight, pending_of}
use Rattle.table_model.specs.Worlds.{World}
use Rattle.table_model.specs.Reading.{each_once_first, directory_at, root_of, row_of, bucket_at}
use Rattle.table_model.specs.Order.{Closing}

-- the call of a seat, where one had begun
abbrev pub begun_by : (seat : ℕ) → Stand → List Pending
begun_by seat Idle = []
begun_by seat (InFlight flight phase) = pending_of seat flight ∷ []

-- the answered calls of all seats, in the order of the seats
abbrev pub records_of : World → List Record
records_of world = flat_map (λ state. state.account.records) world.seats

-- the calls that had begun, in the order of the seats
abbrev pub begun_of : World → List Pending
begun_of world = flat_map (λ numbered. begun_by numbered.0 numbered.1.stand) (enumerate_from 0 world.seats)

-- the words, the records and the pending calls of a world
abbrev pub closing_of : World → Closing
closing_of world = record { words = world.words; records = records_of world; begun = begun_of world }

-- the buckets that the directory in use names, in the order of its places, which is that of their prefixes as bit
-- strings
abbrev pub closed_buckets : Shape → List ℕ → List ℕ
closed_buckets shape words = each_once_first (directory_at shape words (root_of shape words)).entries

-- the leaves, in that order
abbrev pub leaf_at : Shape → List ℕ → (bucket : ℕ) → Leaf
leaf_at shape words bucket = record {
  prefix = (bucket_at shape words (row_of shape words bucket)).prefix;
  depth = (bucket_at shape words (row_of shape words bucket)).depth;
}

abbrev pub closed_leaves : Shape → List ℕ → List Leaf
closed_leaves shape words = map (leaf_at shape words) (closed_buckets shape words)

-- the pairs, bucket by bucket
abbrev pub closed_pairs : Shape → List ℕ → List Pair
closed_pairs shape words =
    flat_map (λ bucket. (bucket_at shape words (row_of shape words bucket)).items) (closed_buckets shape words)

-- the depth of the directory
abbrev pub closed_depth : Shape → List ℕ → ℕ
closed_depth shape words = (directory_at shape words (root_of shape words)).depth

-- each hash has exactly one leaf
abbrev pub Cover : List Leaf → Type 0
Cover leaves = (hash : ℕ) → hash < 2 ^ 64 → count_by (λ leaf. first_bits hash leaf.depth == leaf.prefix) leaves ≡ 1

-- the greatest depth of a leaf
abbrev pub greatest_depth : List Leaf → ℕ
greatest_depth leaves = fold (λ depth leaf. max depth leaf.depth) 0 leaves

-- what is held after these pairs came, one after the other
abbrev pub sessions_with : Rules → List Pair → Sessions
sessions_with rules first = fold (λ sessions pair. brought rules sessions pair.key (held_in pair)) empty first

-- how many keys that are held have this prefix
abbrev pub keys_with_prefix : Rules → (depth prefix : ℕ) → Sessions → ℕ
keys_with_prefix rules depth prefix sessions =
    count_by (λ pair. prefix_of rules depth pair.key == prefix) (pairs_of sessions)

-- after some of the first pairs, exactly so many keys have the prefix
pub record FilledByFirst (rules : Rules) (first : List Pair) (depth prefix : ℕ) : Type 0 where
  pub front : List Pair
  pub back : List Pair
  pub stage : first ≡ front ++ back
  pub full : keys_with_prefix rules depth prefix (sessions_with rules front) ≡ rules.items

-- or after all of them and some of the calls
pub record FilledByCalls (rules : Rules) (first : List Pair) (order : List Placed) (depth prefix : ℕ) : Type 0 where
  pub front : List Placed
  pub back : List Placed
  pub stage : order ≡ front ++ back
  pub full : keys_with_prefix rules depth prefix (sessions_after rules (sessions_with rules first) front) ≡ rules.items

-- the bucket above each leaf that is deeper than the starting depth was full at some stage
abbrev pub Warranted : Rules → (start : ℕ) → List Pair → List Placed → List Leaf → Type 0
Warranted rules start first order leaves =
    All (λ leaf. start < leaf.depth →
    FilledByFirst rules first (leaf.depth - 1) (leaf.prefix / 2) ⊎ FilledByCalls rules first order (leaf.depth - 1)
    (leaf.prefix / 2))
    leaves
