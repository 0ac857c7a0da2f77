-- Counts and puts, worked by hand: of keys that are there and of keys that are not, each helped by another seat, in a
-- full class, and where a bucket is split. A step number hangs on no kind of update, so that each has the steps which
-- the same play of inserts has in `WorkedRows` and `RarePaths`. The promises about every run are tried on the same
-- plays.
use Rattle.std.proofs.Common.{◌≡◌, refl, [], ◌∷◌, map, List, ℕ}
use Rattle.step_counts.specs.StepCounts.{automatic_rows_of}
use Rattle.hash_bits.specs.Hashing.{hash_of}
use Rattle.hash_bits.specs.Spread.{spread}
use Rattle.hash_bits.specs.Prefix.{first_bits}
use Rattle.hash_bits.specs.declared.hashing.Hashing.TheVariants.{Ports}
use Rattle.plain_map.specs.declared.calls.Call.{Call}
use Rattle.plain_map.specs.declared.calls.Call.TheVariants.{Remove, Lookup, Count, Put}
use Rattle.plain_map.specs.declared.calls.Reply.TheVariants.{New, Old, NoRoom, Absent, Sum}
use Rattle.word_rows.specs.Shape.{record_limit, number_after}
use Rattle.word_rows.specs.Blocks.{blocks}
use Rattle.bucket_states.specs.Items.{prefix_of, reply_in, items_after, overflows}
use Rattle.bucket_states.specs.Change.{after_op, change}
use Rattle.bucket_states.specs.Halves.{half}
use Rattle.plain_map.specs.PlainObject.{class_of}
use Rattle.table_model.specs.Setup.{Setup, next_number}
use Rattle.table_model.specs.Leaves.{split, apply}
use Rattle.table_model.specs.DirectoryChange.{change_leaves, with_leaves}
use Rattle.table_model.specs.Opening.{opening_leaves}
use Rattle.table_model.specs.Worlds.{opening_words}
use Rattle.table_model.specs.Stores.{directory_puts}
use Rattle.table_model.specs.Order.{placing_of}
use Rattle.table_model.specs.Needs.{crowded}
use Rattle.table_model.proofs.Plays.{brief, key, played, summary}
use Rattle.table_model.proofs.Moments.{segment_faults}
use Rattle.table_model.proofs.WorkedRows.{other_seat_answers_settings, lookup_of_a_split_bucket_setup}
use Rattle.table_model.proofs.RarePaths.{helpers_change_applies_setup}

-- as in the play of two inserts, but with rows for five updates each
abbrev counts_are_helped_setup : Setup
counts_are_helped_setup = record {
  shape = record {
    settings = other_seat_answers_settings;
    ranges = map (automatic_rows_of other_seat_answers_settings) (5 ∷ 5 ∷ []);
    limit = record_limit;
  };
  hashing = Ports 0;
  first = [];
}

-- seat 0 counts a new key and again, puts it and another one, and counts a third for which its class has no room
abbrev counts_are_helped_calls : List (List (ℕ × Call))
counts_are_helped_calls =
    ((1, Count (key 1) 1 5) ∷ (3, Count (key 1) 3 6) ∷ (5, Put (key 1) 5) ∷ (7, Put (key 3) 7)
    ∷ (9, Count (key 2) 9 4) ∷ [])
    ∷ ((2, Remove (key 2)) ∷ (4, Remove (key 2)) ∷ (6, Remove (key 2)) ∷ (8, Remove (key 2)) ∷ (10, Remove (key 2))
    ∷ []) ∷ []

-- each time seat 0 announces, seat 1 applies both calls, and seat 0 ends
abbrev counts_are_helped_steps : List (ℕ × ℕ)
counts_are_helped_steps =
    (0, 11) ∷ (1, 81) ∷ (0, 28) ∷ (0, 11) ∷ (1, 81) ∷ (0, 28) ∷ (0, 11) ∷ (1, 81) ∷ (0, 28) ∷ (0, 11) ∷ (1, 81)
    ∷ (0, 28) ∷ (0, 11) ∷ (1, 81) ∷ (0, 28) ∷ []

counts_are_helped :
    summary counts_are_helped_setup
    (played counts_are_helped_setup counts_are_helped_calls counts_are_helped_steps)
    ≡ (
      (1, New, 39, 0 ∷ 0 ∷ []) ∷ (3, Sum 11, 39, 1 ∷ 1 ∷ []) ∷ (5, Old 1, 39, 2 ∷ 2 ∷ [])
          ∷ (7, New, 39, 3 ∷ 3 ∷ []) ∷ (9, NoRoom, 39, 4 ∷ 4 ∷ []) ∷ (2, Absent, 81, 0 ∷ 0 ∷ [])
          ∷ (4, Absent, 81, 1 ∷ 1 ∷ []) ∷ (6, Absent, 81, 2 ∷ 2 ∷ []) ∷ (8, Absent, 81, 3 ∷ 3 ∷ [])
          ∷ (10, Absent, 81, 4 ∷ 4 ∷ []) ∷ [],
      1 ∷ 2 ∷ 3 ∷ 4 ∷ 5 ∷ 6 ∷ 7 ∷ 8 ∷ 9 ∷ 10 ∷ [],
      (0, 1) ∷ (1, 1) ∷ [],
      1,
      0,
    )
unfolding class_of opening_words number_after blocks next_number half split apply change_leaves with_leaves
    opening_leaves directory_puts placing_of prefix_of reply_in items_after overflows after_op change first_bits hash_of
    spread
counts_are_helped = refl

counts_are_helped_keeps :
    segment_faults counts_are_helped_setup counts_are_helped_calls counts_are_helped_steps ≡ 0
unfolding class_of opening_words number_after blocks next_number half split apply change_leaves with_leaves
    opening_leaves directory_puts placing_of prefix_of reply_in items_after overflows after_op change first_bits hash_of
    spread crowded
counts_are_helped_keeps = refl

-- the second load shows the bucket frozen, by a count and a put of new keys: a helper's change splits it between the
-- announcement of the count and its help
count_is_helped_by_a_split :
    brief helpers_change_applies_setup
    (played helpers_change_applies_setup
    (((1, Count (key 2) 1 6) ∷ []) ∷ ((11, Put (key 1) 11) ∷ (12, Count (key 32769) 12 8) ∷ []) ∷ [])
    ((1, 57) ∷ (0, 66) ∷ (1, 18) ∷ (0, 1) ∷ (1, 145) ∷ []))
    ≡ (67 ∷ 153 ∷ 67 ∷ [], 1 ∷ 3 ∷ 1 ∷ [], 1 ∷ 11 ∷ 12 ∷ [], 2, 1, 0)
unfolding class_of opening_words number_after blocks next_number half split apply change_leaves with_leaves
    opening_leaves directory_puts placing_of prefix_of reply_in items_after overflows after_op change first_bits hash_of
    spread
count_is_helped_by_a_split = refl

count_is_helped_by_a_split_keeps :
    segment_faults helpers_change_applies_setup
    (((1, Count (key 2) 1 6) ∷ []) ∷ ((11, Put (key 1) 11) ∷ (12, Count (key 32769) 12 8) ∷ []) ∷ [])
    ((1, 57) ∷ (0, 66) ∷ (1, 18) ∷ (0, 1) ∷ (1, 145) ∷ []) ≡ 0
unfolding class_of opening_words number_after blocks next_number half split apply change_leaves with_leaves
    opening_leaves directory_puts placing_of prefix_of reply_in items_after overflows after_op change first_bits hash_of
    spread crowded
count_is_helped_by_a_split_keeps = refl

-- a count splits the bucket of a lookup, which a count and a put had filled
count_splits :
    brief lookup_of_a_split_bucket_setup
    (played lookup_of_a_split_bucket_setup
    (((1, Count (key 1) 1 3) ∷ (3, Lookup (key 32768)) ∷ []) ∷ ((2, Put (key 16384) 2) ∷ (4, Count (key 32768) 4 9)
    ∷ []) ∷ [])
    ((0, 73) ∷ (1, 81) ∷ (0, 5) ∷ (1, 179) ∷ (0, 17) ∷ []))
    ≡ (73 ∷ 22 ∷ 81 ∷ 179 ∷ [], 1 ∷ 5 ∷ 1 ∷ 1 ∷ [], 1 ∷ 2 ∷ 3 ∷ 4 ∷ [], 2, 1, 0)
unfolding class_of opening_words number_after blocks next_number half split apply change_leaves with_leaves
    opening_leaves directory_puts placing_of prefix_of reply_in items_after overflows after_op change first_bits hash_of
    spread
count_splits = refl

count_splits_keeps :
    segment_faults lookup_of_a_split_bucket_setup
    (((1, Count (key 1) 1 3) ∷ (3, Lookup (key 32768)) ∷ []) ∷ ((2, Put (key 16384) 2) ∷ (4, Count (key 32768) 4 9)
    ∷ []) ∷ [])
    ((0, 73) ∷ (1, 81) ∷ (0, 5) ∷ (1, 179) ∷ (0, 17) ∷ []) ≡ 0
unfolding class_of opening_words number_after blocks next_number half split apply change_leaves with_leaves
    opening_leaves directory_puts placing_of prefix_of reply_in items_after overflows after_op change first_bits hash_of
    spread crowded
count_splits_keeps = refl
