-- What a bucket is seen as, its room, and its rows.
use Rattle.std.specs.Prelude.{◌≡◌, ℕ, ◌≤◌, Bool, false, List, [], length, Option, None, replicate, vec_capacity}
use Rattle.plain_map.specs.declared.calls.Reply.{Reply}
use Rattle.plain_map.specs.declared.keys.Pair.{Pair}
use Rattle.plain_map.specs.declared.rows.BucketRow.{BucketRow}
use Rattle.plain_map.specs.Rows.{BucketContent}
use Rattle.bucket_states.specs.declared.bucket.Bucket.{Bucket}

-- what a bucket holds
pub record BucketState : Type 0 where
  pub prefix : ℕ
  pub depth : ℕ
  pub frozen : Bool
  pub items : List Pair
  pub applied : List ℕ
  pub replies : List (Option Reply)

abbrev pub state_of : Bucket → BucketState
state_of bucket = record {
  prefix = bucket.prefix;
  depth = bucket.depth;
  frozen = bucket.frozen;
  items = bucket.items.items;
  applied = bucket.applied.items;
  replies = bucket.replies.items;
}

-- the bucket of all keys, where no update was made
abbrev pub empty_state : (seats : ℕ) → BucketState
empty_state seats = record {
  prefix = 0;
  depth = 0;
  frozen = false;
  items = [];
  applied = replicate seats 0;
  replies = replicate seats None;
}

-- what a row says of its bucket
abbrev pub state_in_row : BucketContent → BucketState
state_in_row row = record {
  prefix = row.prefix;
  depth = row.depth;
  frozen = row.frozen;
  items = row.items;
  applied = row.applied;
  replies = row.replies;
}

-- the row of a bucket that was made from the row with this number
abbrev pub row_of_state : Option ℕ → BucketState → BucketContent
row_of_state base bucket = record {
  prefix = bucket.prefix;
  depth = bucket.depth;
  base = base;
  frozen = bucket.frozen;
  items = bucket.items;
  applied = bucket.applied;
  replies = bucket.replies;
}

-- the bucket can be filled without taking memory: with this many items, and numbers and replies of this many seats
pub record HasRoom (seats items : ℕ) (bucket : Bucket) : Type 0 where
  pub of_items : items ≤ vec_capacity bucket.items
  pub of_applied : seats ≤ vec_capacity bucket.applied
  pub of_replies : seats ≤ vec_capacity bucket.replies

-- what is held fits into the bucket without taking memory
pub record CanHold (held : BucketState) (bucket : Bucket) : Type 0 where
  pub items : length held.items ≤ vec_capacity bucket.items
  pub applied : length held.applied ≤ vec_capacity bucket.applied
  pub replies : length held.replies ≤ vec_capacity bucket.replies

-- and into the row
pub record RowCanHold (held : BucketState) (row : BucketRow) : Type 0 where
  pub items : length held.items ≤ vec_capacity row.items
  pub applied : length held.applied ≤ vec_capacity row.applied
  pub replies : length held.replies ≤ vec_capacity row.replies

-- the room stays
pub record KeepsRoom (was now : Bucket) : Type 0 where
  pub of_items : vec_capacity now.items ≡ vec_capacity was.items
  pub of_applied : vec_capacity now.applied ≡ vec_capacity was.applied
  pub of_replies : vec_capacity now.replies ≡ vec_capacity was.replies

-- and that of a row
pub record RowKeepsRoom (was now : BucketRow) : Type 0 where
  pub of_items : vec_capacity now.items ≡ vec_capacity was.items
  pub of_applied : vec_capacity now.applied ≡ vec_capacity was.applied
  pub of_replies : vec_capacity now.replies ≡ vec_capacity was.replies

-- the one is a bucket of the same prefix and of as many seats as the other
pub record KeepsShape (was now : BucketState) : Type 0 where
  pub prefix : now.prefix ≡ was.prefix
  pub depth : now.depth ≡ was.depth
  pub applied : length now.applied ≡ length was.applied
  pub replies : length now.replies ≡ length was.replies
