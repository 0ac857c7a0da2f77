-- How large what a bucket holds is: values and numbers below their limits, and replies to updates alone.
use Rattle.std.specs.Prelude.{ℕ, ◌<◌, List, Option}
use Rattle.std.specs.List.{All}
use Rattle.plain_map.specs.declared.rules.Rules.{Rules}
pub use Rattle.plain_map.specs.Updates.{value_limit, number_limit, IsSmallPair, IsUpdate, IsUpdateReply}
use Rattle.bucket_states.specs.declared.ops.Op.{Op}
use Rattle.bucket_states.specs.States.{BucketState}
use Rattle.bucket_states.specs.Change.{change}
use Rattle.bucket_states.specs.Laws.{applied_of, reply_at, Announces, HasSeats}

-- each announced op is an update, and its number is below the limit
abbrev pub AreUpdates : List (Option Op) → Type 0
AreUpdates ops = (seat : ℕ) (op : Op) → Announces ops seat op → IsUpdate op.call × (op.number < number_limit)

-- items, numbers and replies are small
pub record IsSmall (bucket : BucketState) : Type 0 where
  pub values : All IsSmallPair bucket.items
  pub numbers : (seat : ℕ) → applied_of bucket seat < number_limit
  pub replies : (seat : ℕ) → IsUpdateReply (reply_at bucket seat)

-- they stay so
abbrev pub StaysSmall : Type 0
StaysSmall =
    (rules : Rules) (ops : List (Option Op)) (bucket : BucketState) → HasSeats bucket ops → AreUpdates ops →
    IsSmall bucket →
    IsSmall (change rules ops bucket)
