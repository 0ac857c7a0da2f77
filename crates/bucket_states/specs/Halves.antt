-- The two parts of a bucket that is split.
-- Source: Fagin, Nievergelt, Pippenger and Strong, "Extendible hashing", 1979.
use Rattle.std.specs.Prelude.{ℕ, suc, ◌+◌, ◌*◌, ◌==◌, false, filter}
use Rattle.plain_map.specs.declared.rules.Rules.{Rules}
use Rattle.bucket_states.specs.Items.{prefix_of}
use Rattle.bucket_states.specs.States.{BucketState}

-- one of the two parts of a bucket: the pairs whose next hash bit is this one, in their order. It is not frozen, and
-- has all numbers and replies
unfoldable pub half : Rules → (bit : ℕ) → BucketState → BucketState
half rules bit bucket = record {
  prefix = 2 * bucket.prefix + bit;
  depth = suc bucket.depth;
  frozen = false;
  items = filter (λ pair. prefix_of rules (suc bucket.depth) pair.key == 2 * bucket.prefix + bit) bucket.items;
  applied = bucket.applied;
  replies = bucket.replies;
}
