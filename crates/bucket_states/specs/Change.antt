-- The bucket change: a bucket takes the announced calls of all seats, in the order of the seats.
-- Source: this project's own. That one caller carries out what others have announced is the idea of helping in
-- Fatourou, Kallimanis and Ropars, "An Efficient Wait-free Resizable Hash Table", SPAA 2018.
use Rattle.std.specs.Prelude.{ℕ, suc, ◌==◌, nat_lt, Bool, true, ◌&&◌, if◌then◌else◌, List, [], ◌∷◌, Option, Some, None, slice_index, slice_set}
use Rattle.plain_map.specs.declared.rules.Rules.{Rules}
use Rattle.plain_map.specs.Calls.{key_in}
use Rattle.bucket_states.specs.declared.ops.Op.{Op}
use Rattle.bucket_states.specs.Items.{prefix_of, reply_in, items_after, overflows}
use Rattle.bucket_states.specs.States.{BucketState}

-- the op is for this bucket, and not in it yet: its key has the bucket's prefix, and its number is above the seat's
abbrev pub is_due : Rules → BucketState → ℕ → Op → Bool
is_due rules bucket seat op =
    (prefix_of rules bucket.depth (key_in op.call) == bucket.prefix) && nat_lt (slice_index bucket.applied seat)
    op.number

-- the bucket, which changes no more
abbrev pub frozen : BucketState → BucketState
frozen bucket = record {
  prefix = bucket.prefix;
  depth = bucket.depth;
  frozen = true;
  items = bucket.items;
  applied = bucket.applied;
  replies = bucket.replies;
}

-- the bucket with the op in it: its answer by the bucket's items, beside its number
abbrev pub answered : Rules → BucketState → ℕ → Op → BucketState
answered rules bucket seat op = record {
  prefix = bucket.prefix;
  depth = bucket.depth;
  frozen = bucket.frozen;
  items = items_after rules bucket.items op.call;
  applied = slice_set bucket.applied seat op.number;
  replies = slice_set bucket.replies seat (Some (reply_in rules bucket.items op.call));
}

-- the bucket after the op of one seat: a frozen one stays, and so does one that the op is not for; an op that would
-- overflow it freezes it; each other op is answered
unfoldable pub after_op : Rules → ℕ → Op → BucketState → BucketState
after_op rules seat op bucket =
    if bucket.frozen then bucket else (
    if is_due rules bucket seat op then (
    if overflows rules bucket.depth bucket.items op.call then frozen bucket else answered rules bucket seat op
    ) else bucket)

-- the bucket after one seat, which may have announced nothing
abbrev pub after_seat : Rules → ℕ → Option Op → BucketState → BucketState
after_seat rules seat None bucket = bucket
after_seat rules seat (Some op) bucket = after_op rules seat op bucket

-- the bucket after these seats, the first of which has this number
abbrev pub after_seats : Rules → ℕ → List (Option Op) → BucketState → BucketState
after_seats rules seat [] bucket = bucket
after_seats rules seat (op ∷ ops) bucket = after_seats rules (suc seat) ops (after_seat rules seat op bucket)

-- the bucket after all seats
unfoldable pub change : Rules → List (Option Op) → BucketState → BucketState
change rules ops bucket = after_seats rules 0 ops bucket
