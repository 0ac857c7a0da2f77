-- The promises about every run, tried on small plays.
use Rattle.std.proofs.Common.{◌≡◌, refl, [], ◌∷◌}
use Rattle.hash_bits.specs.Hashing.{hash_of}
use Rattle.hash_bits.specs.Spread.{spread}
use Rattle.hash_bits.specs.Prefix.{first_bits}
use Rattle.plain_map.specs.declared.calls.Call.TheVariants.{Insert, Remove, Lookup}
use Rattle.word_rows.specs.Shape.{number_after}
use Rattle.word_rows.specs.Blocks.{blocks}
use Rattle.bucket_states.specs.Items.{prefix_of, reply_in, items_after, overflows}
use Rattle.bucket_states.specs.Change.{after_op, change}
use Rattle.bucket_states.specs.Halves.{half}
use Rattle.plain_map.specs.PlainObject.{class_of}
use Rattle.table_model.specs.Setup.{next_number}
use Rattle.table_model.specs.Leaves.{split, apply}
use Rattle.table_model.specs.DirectoryChange.{change_leaves, with_leaves}
use Rattle.table_model.specs.Opening.{opening_leaves}
use Rattle.table_model.specs.Worlds.{opening_words}
use Rattle.table_model.specs.Stores.{directory_puts}
use Rattle.table_model.specs.Order.{placing_of}
use Rattle.table_model.specs.Needs.{crowded}
use Rattle.table_model.proofs.Plays.{in_turn, key}
use Rattle.table_model.proofs.Moments.{play_faults, segment_faults}
use Rattle.table_model.proofs.WorkedRows.{one_insert_setup, third_insert_splits_setup, three_of_one_class_setup, other_seat_answers_setup, lookup_of_a_split_bucket_setup, lookup_after_insert_setup, remove_makes_room_setup, seats_in_turn_setup, other_seat_answers_a_stopped_one_setup, no_depth_to_split_setup, lost_exchange_was_helped_setup}
use Rattle.table_model.proofs.RarePaths.{third_look_shows_applied_setup, third_look_shows_frozen_setup, helpers_change_applies_setup, second_round_finds_applied_setup, second_root_leaves_round_setup, second_root_exchange_happens_setup, two_lost_root_exchanges_setup, last_look_shows_applied_setup, root_exchange_in_round_two_setup, number_in_two_leaves_setup, two_buckets_in_one_change_setup}

-- one insert, at each moment
one_insert_keeps :
    play_faults one_insert_setup
    (((1, Insert (key 1) 1) ∷ []) ∷ [])
    ((0, 67) ∷ []) ≡ 0
unfolding class_of opening_words number_after blocks next_number half split apply change_leaves with_leaves
    opening_leaves directory_puts placing_of prefix_of reply_in items_after overflows after_op change first_bits hash_of
    spread crowded
one_insert_keeps = refl

-- three inserts, the third of which splits the one bucket, at each moment
third_insert_splits_keeps :
    play_faults third_insert_splits_setup
    (((1, Insert (key 1) 1) ∷ (2, Insert (key 16384) 2) ∷ (3, Insert (key 32768) 3) ∷ []) ∷ [])
    ((0, 284) ∷ []) ≡ 0
unfolding class_of opening_words number_after blocks next_number half split apply change_leaves with_leaves
    opening_leaves directory_puts placing_of prefix_of reply_in items_after overflows after_op change first_bits hash_of
    spread crowded
third_insert_splits_keeps = refl

-- three keys of one class
three_of_one_class_keeps :
    segment_faults three_of_one_class_setup
    (((1, Insert (key 1) 1) ∷ (2, Insert (key 2) 2) ∷ (3, Insert (key 3) 3) ∷ []) ∷ [])
    ((0, 308) ∷ []) ≡ 0
unfolding class_of opening_words number_after blocks next_number half split apply change_leaves with_leaves
    opening_leaves directory_puts placing_of prefix_of reply_in items_after overflows after_op change first_bits hash_of
    spread crowded
three_of_one_class_keeps = refl

-- seat 0 announces, seat 1 applies both
other_seat_answers_keeps :
    segment_faults other_seat_answers_setup
    (((1, Insert (key 1) 1) ∷ []) ∷ ((2, Insert (key 2) 2) ∷ []) ∷ [])
    ((0, 11) ∷ (1, 81) ∷ (0, 28) ∷ []) ≡ 0
unfolding class_of opening_words number_after blocks next_number half split apply change_leaves with_leaves
    opening_leaves directory_puts placing_of prefix_of reply_in items_after overflows after_op change first_bits hash_of
    spread crowded
other_seat_answers_keeps = refl

-- a lookup of a bucket that is split meanwhile
lookup_of_a_split_bucket_keeps :
    segment_faults lookup_of_a_split_bucket_setup
    (((1, Insert (key 1) 1) ∷ (3, Lookup (key 32768)) ∷ []) ∷ ((2, Insert (key 16384) 2) ∷ (4, Insert (key 32768) 4)
    ∷ []) ∷ [])
    ((0, 73) ∷ (1, 81) ∷ (0, 5) ∷ (1, 179) ∷ (0, 17) ∷ []) ≡ 0
unfolding class_of opening_words number_after blocks next_number half split apply change_leaves with_leaves
    opening_leaves directory_puts placing_of prefix_of reply_in items_after overflows after_op change first_bits hash_of
    spread crowded
lookup_of_a_split_bucket_keeps = refl

-- a lookup after an insert
lookup_after_insert_keeps :
    segment_faults lookup_after_insert_setup
    (((1, Lookup (key 1)) ∷ []) ∷ ((2, Insert (key 1) 2) ∷ []) ∷ [])
    ((1, 73) ∷ (0, 15) ∷ []) ≡ 0
unfolding class_of opening_words number_after blocks next_number half split apply change_leaves with_leaves
    opening_leaves directory_puts placing_of prefix_of reply_in items_after overflows after_op change first_bits hash_of
    spread crowded
lookup_after_insert_keeps = refl

-- row 7, and then a remove and an insert
remove_makes_room_keeps :
    segment_faults remove_makes_room_setup
    (((1, Insert (key 1) 1) ∷ (2, Insert (key 2) 2) ∷ (3, Insert (key 3) 3) ∷ (4, Remove (key 1))
    ∷ (5, Insert (key 3) 5) ∷ []) ∷ [])
    ((0, 442) ∷ []) ≡ 0
unfolding class_of opening_words number_after blocks next_number half split apply change_leaves with_leaves
    opening_leaves directory_puts placing_of prefix_of reply_in items_after overflows after_op change first_bits hash_of
    spread crowded
remove_makes_room_keeps = refl

-- two seats in turn
seats_in_turn_keeps :
    segment_faults seats_in_turn_setup
    (((1, Insert (key 1) 1) ∷ []) ∷ ((2, Insert (key 2) 2) ∷ []) ∷ [])
    (in_turn 81 ((1, 24) ∷ [])) ≡ 0
unfolding class_of opening_words number_after blocks next_number half split apply change_leaves with_leaves
    opening_leaves directory_puts placing_of prefix_of reply_in items_after overflows after_op change first_bits hash_of
    spread crowded
seats_in_turn_keeps = refl

-- seat 0 stops after its announcement
other_seat_answers_a_stopped_one_keeps :
    segment_faults other_seat_answers_a_stopped_one_setup
    (((1, Insert (key 1) 1) ∷ []) ∷ ((2, Insert (key 2) 2) ∷ []) ∷ [])
    ((0, 11) ∷ (1, 81) ∷ []) ≡ 0
unfolding class_of opening_words number_after blocks next_number half split apply change_leaves with_leaves
    opening_leaves directory_puts placing_of prefix_of reply_in items_after overflows after_op change first_bits hash_of
    spread crowded
other_seat_answers_a_stopped_one_keeps = refl

-- no depth to split
no_depth_to_split_keeps :
    segment_faults no_depth_to_split_setup
    (((1, Insert (key 1) 1) ∷ (2, Insert (key 2) 2) ∷ []) ∷ [])
    ((0, 106) ∷ []) ≡ 0
unfolding class_of opening_words number_after blocks next_number half split apply change_leaves with_leaves
    opening_leaves directory_puts placing_of prefix_of reply_in items_after overflows after_op change first_bits hash_of
    spread crowded
no_depth_to_split_keeps = refl

-- a lost exchange, and the op was applied
lost_exchange_was_helped_keeps :
    segment_faults lost_exchange_was_helped_setup
    (((1, Insert (key 1) 1) ∷ []) ∷ ((2, Insert (key 2) 2) ∷ []) ∷ [])
    ((0, 71) ∷ (1, 81) ∷ (0, 26) ∷ []) ≡ 0
unfolding class_of opening_words number_after blocks next_number half split apply change_leaves with_leaves
    opening_leaves directory_puts placing_of prefix_of reply_in items_after overflows after_op change first_bits hash_of
    spread crowded
lost_exchange_was_helped_keeps = refl

-- two lost bucket exchanges, the third load shows the op applied
third_look_shows_applied_keeps :
    segment_faults third_look_shows_applied_setup
    (((1, Insert (key 2) 1) ∷ []) ∷ ((11, Insert (key 1) 11) ∷ (12, Remove (key 1)) ∷ []) ∷ [])
    ((1, 71) ∷ (0, 79) ∷ (1, 12) ∷ (0, 66) ∷ (1, 70) ∷ (0, 25) ∷ (0, 1) ∷ (1, 1) ∷ []) ≡ 0
unfolding class_of opening_words number_after blocks next_number half split apply change_leaves with_leaves
    opening_leaves directory_puts placing_of prefix_of reply_in items_after overflows after_op change first_bits hash_of
    spread crowded
third_look_shows_applied_keeps = refl

-- two lost bucket exchanges, the third load shows the bucket frozen without the op
third_look_shows_frozen_keeps :
    segment_faults third_look_shows_frozen_setup
    (((1, Insert (key 1) 1) ∷ (2, Remove (key 1)) ∷ (3, Insert (key 32769) 3) ∷ []) ∷ ((11, Insert (key 2) 11) ∷ [])
    ∷ [])
    ((0, 116) ∷ (1, 65) ∷ (0, 12) ∷ (1, 52) ∷ (0, 56) ∷ (1, 18) ∷ (0, 1) ∷ (1, 78) ∷ []) ≡ 0
unfolding class_of opening_words number_after blocks next_number half split apply change_leaves with_leaves
    opening_leaves directory_puts placing_of prefix_of reply_in items_after overflows after_op change first_bits hash_of
    spread crowded
third_look_shows_frozen_keeps = refl

-- the second load shows the bucket frozen, a helper's change applies the op
helpers_change_applies_keeps :
    segment_faults helpers_change_applies_setup
    (((1, Insert (key 2) 1) ∷ []) ∷ ((11, Insert (key 1) 11) ∷ (12, Insert (key 32769) 12) ∷ []) ∷ [])
    ((1, 57) ∷ (0, 66) ∷ (1, 18) ∷ (0, 1) ∷ (1, 145) ∷ []) ≡ 0
unfolding class_of opening_words number_after blocks next_number half split apply change_leaves with_leaves
    opening_leaves directory_puts placing_of prefix_of reply_in items_after overflows after_op change first_bits hash_of
    spread crowded
helpers_change_applies_keeps = refl

-- round 1 left at its first root load, round 2 finds the op applied
second_round_finds_applied_keeps :
    segment_faults second_round_finds_applied_setup
    (((1, Insert (key 1) 1) ∷ (2, Insert (key 32769) 2) ∷ []) ∷ ((11, Insert (key 2) 11) ∷ []) ∷ [])
    ((0, 117) ∷ (1, 127) ∷ (0, 6) ∷ (0, 21) ∷ (1, 1) ∷ []) ≡ 0
unfolding class_of opening_words number_after blocks next_number half split apply change_leaves with_leaves
    opening_leaves directory_puts placing_of prefix_of reply_in items_after overflows after_op change first_bits hash_of
    spread crowded
second_round_finds_applied_keeps = refl

-- a lost root exchange, the second root load leaves the round
second_root_leaves_round_keeps :
    segment_faults second_root_leaves_round_setup
    (((1, Insert (key 1) 1) ∷ (2, Insert (key 2) 2) ∷ []) ∷ ((11, Insert (key 32769) 11) ∷ (12, Insert (key 49153) 12)
    ∷ (13, Insert (key 40961) 13) ∷ []) ∷ [])
    ((1, 188) ∷ (0, 285) ∷ (1, 11) ∷ (0, 1) ∷ (1, 195) ∷ []) ≡ 0
unfolding class_of opening_words number_after blocks next_number half split apply change_leaves with_leaves
    opening_leaves directory_puts placing_of prefix_of reply_in items_after overflows after_op change first_bits hash_of
    spread crowded
second_root_leaves_round_keeps = refl

-- a lost root exchange, the second one happens
second_root_exchange_happens_keeps :
    segment_faults second_root_exchange_happens_setup
    (((1, Insert (key 1) 1) ∷ (2, Insert (key 2) 2) ∷ []) ∷ ((11, Insert (key 32769) 11) ∷ (12, Insert (key 49153) 12)
    ∷ (13, Insert (key 40961) 13) ∷ []) ∷ [])
    ((1, 188) ∷ (0, 284) ∷ (1, 1) ∷ (0, 121) ∷ (0, 1) ∷ (1, 175) ∷ []) ≡ 0
unfolding class_of opening_words number_after blocks next_number half split apply change_leaves with_leaves
    opening_leaves directory_puts placing_of prefix_of reply_in items_after overflows after_op change first_bits hash_of
    spread crowded
second_root_exchange_happens_keeps = refl

-- two lost root exchanges in one round
two_lost_root_exchanges_keeps :
    segment_faults two_lost_root_exchanges_setup
    (((1, Insert (key 1) 1) ∷ (2, Insert (key 2) 2) ∷ []) ∷ ((11, Insert (key 32769) 11) ∷ (12, Insert (key 49153) 12)
    ∷ (13, Insert (key 40961) 13) ∷ []) ∷ [])
    ((1, 188) ∷ (0, 284) ∷ (1, 12) ∷ (0, 120) ∷ (1, 210) ∷ (0, 1) ∷ (0, 21) ∷ (1, 1) ∷ []) ≡ 0
unfolding class_of opening_words number_after blocks next_number half split apply change_leaves with_leaves
    opening_leaves directory_puts placing_of prefix_of reply_in items_after overflows after_op change first_bits hash_of
    spread crowded
two_lost_root_exchanges_keeps = refl

-- the last find and read
last_look_shows_applied_keeps :
    segment_faults last_look_shows_applied_setup
    (((1, Insert (key 1) 1) ∷ (2, Insert (key 32769) 2) ∷ (3, Insert (key 16385) 3) ∷ [])
    ∷ ((11, Insert (key 2) 11) ∷ []) ∷ [])
    ((0, 185) ∷ (1, 31) ∷ (0, 16) ∷ (1, 59) ∷ (0, 97) ∷ (1, 6) ∷ (0, 1) ∷ (1, 21) ∷ []) ≡ 0
unfolding class_of opening_words number_after blocks next_number half split apply change_leaves with_leaves
    opening_leaves directory_puts placing_of prefix_of reply_in items_after overflows after_op change first_bits hash_of
    spread crowded
last_look_shows_applied_keeps = refl

-- a root exchange that happens in round 2
root_exchange_in_round_two_keeps :
    segment_faults root_exchange_in_round_two_setup
    (((1, Insert (key 1) 1) ∷ (2, Insert (key 32769) 2) ∷ (3, Insert (key 16385) 3) ∷ [])
    ∷ ((11, Insert (key 2) 11) ∷ []) ∷ [])
    ((0, 185) ∷ (1, 31) ∷ (0, 1) ∷ (1, 156) ∷ (0, 68) ∷ (1, 1) ∷ []) ≡ 0
unfolding class_of opening_words number_after blocks next_number half split apply change_leaves with_leaves
    opening_leaves directory_puts placing_of prefix_of reply_in items_after overflows after_op change first_bits hash_of
    spread crowded
root_exchange_in_round_two_keeps = refl

-- a taken op's number shows in two new leaves
number_in_two_leaves_keeps :
    segment_faults number_in_two_leaves_setup
    (((1, Insert (key 1) 1) ∷ (2, Insert (key 1) 2) ∷ []) ∷ ((11, Insert (key 2) 11) ∷ []) ∷ [])
    ((1, 11) ∷ (0, 194) ∷ (0, 1) ∷ (1, 21) ∷ []) ≡ 0
unfolding class_of opening_words number_after blocks next_number half split apply change_leaves with_leaves
    opening_leaves directory_puts placing_of prefix_of reply_in items_after overflows after_op change first_bits hash_of
    spread crowded
number_in_two_leaves_keeps = refl

-- one change replaces two frozen buckets for two ops
two_buckets_in_one_change_keeps :
    segment_faults two_buckets_in_one_change_setup
    (((1, Insert (key 1) 1) ∷ (2, Insert (key 2) 2) ∷ []) ∷ ((11, Insert (key 32769) 11) ∷ (12, Insert (key 32770) 12)
    ∷ []) ∷ [])
    ((1, 117) ∷ (0, 264) ∷ (0, 1) ∷ (1, 27) ∷ []) ≡ 0
unfolding class_of opening_words number_after blocks next_number half split apply change_leaves with_leaves
    opening_leaves directory_puts placing_of prefix_of reply_in items_after overflows after_op change first_bits hash_of
    spread crowded
two_buckets_in_one_change_keeps = refl
