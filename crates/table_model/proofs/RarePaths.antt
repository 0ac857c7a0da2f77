-- Schedules of two seats that reach each rare path, computed from the definitions: steps, kinds of replies, order,
-- leaves and depth. Ports 1 and 2 have the first hash bits 000, 16385 has 010, 32769 and 32770 have 100, 40961 has 101
-- and 49153 has 110. Packet 10 s + i is call i of seat s.
use Rattle.std.proofs.Common.{◌≡◌, refl, [], ◌∷◌, map, arith}
use Rattle.step_counts.specs.declared.settings.Settings.{Settings}
use Rattle.step_counts.specs.StepCounts.{automatic_rows_of}
use Rattle.hash_bits.specs.Hashing.{hash_of}
use Rattle.hash_bits.specs.Spread.{spread}
use Rattle.hash_bits.specs.Prefix.{first_bits}
use Rattle.hash_bits.specs.declared.hashing.Hashing.TheVariants.{Ports}
use Rattle.plain_map.specs.declared.calls.Call.TheVariants.{Insert, Remove}
use Rattle.word_rows.specs.Shape.{record_limit, number_after}
use Rattle.word_rows.specs.Blocks.{blocks}
use Rattle.bucket_states.specs.Items.{prefix_of, reply_in, items_after, overflows}
use Rattle.bucket_states.specs.Change.{after_op, change}
use Rattle.bucket_states.specs.Halves.{half}
use Rattle.plain_map.specs.PlainObject.{class_of}
use Rattle.table_model.specs.Setup.{Setup, next_number}
use Rattle.table_model.specs.Leaves.{split, apply}
use Rattle.table_model.specs.DirectoryChange.{change_leaves, with_leaves}
use Rattle.table_model.specs.Opening.{opening_leaves}
use Rattle.table_model.specs.Worlds.{opening_words}
use Rattle.table_model.specs.Stores.{directory_puts}
use Rattle.table_model.specs.Order.{placing_of}
use Rattle.table_model.proofs.Plays.{key, played, brief}

abbrev pub third_look_shows_applied_settings : Settings
third_look_shows_applied_settings = record {
  seats = 2;
  items = 2;
  depth = 1;
  start = 1;
  seats_in_range = (omega arith, omega arith);
  items_in_range = (omega arith, omega arith);
  depth_in_range = (omega arith, omega arith);
  start_in_range = (omega arith, omega arith);
}

abbrev pub third_look_shows_applied_setup : Setup
third_look_shows_applied_setup = record {
  shape = record {
    settings = third_look_shows_applied_settings;
    ranges = map (automatic_rows_of third_look_shows_applied_settings) (1 ∷ 2 ∷ []);
    limit = record_limit;
  };
  hashing = Ports 0;
  first = [];
}

-- two lost bucket exchanges, the third load shows the op applied
third_look_shows_applied :
    brief third_look_shows_applied_setup
    (played third_look_shows_applied_setup
    (((1, Insert (key 2) 1) ∷ []) ∷ ((11, Insert (key 1) 11) ∷ (12, Remove (key 1)) ∷ []) ∷ [])
    ((1, 71) ∷ (0, 79) ∷ (1, 12) ∷ (0, 66) ∷ (1, 70) ∷ (0, 25) ∷ (0, 1) ∷ (1, 1) ∷ []))
    ≡ (171 ∷ 73 ∷ 81 ∷ [], 1 ∷ 1 ∷ 4 ∷ [], 11 ∷ 1 ∷ 12 ∷ [], 2, 1, 0)
unfolding class_of opening_words number_after blocks next_number half split apply change_leaves with_leaves
    opening_leaves directory_puts placing_of prefix_of reply_in items_after overflows after_op change first_bits hash_of
    spread
third_look_shows_applied = refl

abbrev pub third_look_shows_frozen_settings : Settings
third_look_shows_frozen_settings = record {
  seats = 2;
  items = 1;
  depth = 1;
  start = 0;
  seats_in_range = (omega arith, omega arith);
  items_in_range = (omega arith, omega arith);
  depth_in_range = (omega arith, omega arith);
  start_in_range = (omega arith, omega arith);
}

abbrev pub third_look_shows_frozen_setup : Setup
third_look_shows_frozen_setup = record {
  shape = record {
    settings = third_look_shows_frozen_settings;
    ranges = map (automatic_rows_of third_look_shows_frozen_settings) (3 ∷ 1 ∷ []);
    limit = record_limit;
  };
  hashing = Ports 0;
  first = [];
}

-- two lost bucket exchanges, the third load shows the bucket frozen without the op
third_look_shows_frozen :
    brief third_look_shows_frozen_setup
    (played third_look_shows_frozen_setup
    (((1, Insert (key 1) 1) ∷ (2, Remove (key 1)) ∷ (3, Insert (key 32769) 3) ∷ []) ∷ ((11, Insert (key 2) 11) ∷ [])
    ∷ [])
    ((0, 116) ∷ (1, 65) ∷ (0, 12) ∷ (1, 52) ∷ (0, 56) ∷ (1, 18) ∷ (0, 1) ∷ (1, 78) ∷ []))
    ≡ (59 ∷ 59 ∷ 67 ∷ 213 ∷ [], 1 ∷ 4 ∷ 1 ∷ 1 ∷ [], 1 ∷ 2 ∷ 3 ∷ 11 ∷ [], 2, 1, 0)
unfolding class_of opening_words number_after blocks next_number half split apply change_leaves with_leaves
    opening_leaves directory_puts placing_of prefix_of reply_in items_after overflows after_op change first_bits hash_of
    spread
third_look_shows_frozen = refl

abbrev pub helpers_change_applies_settings : Settings
helpers_change_applies_settings = record {
  seats = 2;
  items = 1;
  depth = 1;
  start = 0;
  seats_in_range = (omega arith, omega arith);
  items_in_range = (omega arith, omega arith);
  depth_in_range = (omega arith, omega arith);
  start_in_range = (omega arith, omega arith);
}

abbrev pub helpers_change_applies_setup : Setup
helpers_change_applies_setup = record {
  shape = record {
    settings = helpers_change_applies_settings;
    ranges = map (automatic_rows_of helpers_change_applies_settings) (1 ∷ 2 ∷ []);
    limit = record_limit;
  };
  hashing = Ports 0;
  first = [];
}

-- the second load shows the bucket frozen, a helper's change applies the op
helpers_change_applies :
    brief helpers_change_applies_setup
    (played helpers_change_applies_setup
    (((1, Insert (key 2) 1) ∷ []) ∷ ((11, Insert (key 1) 11) ∷ (12, Insert (key 32769) 12) ∷ []) ∷ [])
    ((1, 57) ∷ (0, 66) ∷ (1, 18) ∷ (0, 1) ∷ (1, 145) ∷ []))
    ≡ (67 ∷ 153 ∷ 67 ∷ [], 1 ∷ 3 ∷ 1 ∷ [], 1 ∷ 11 ∷ 12 ∷ [], 2, 1, 0)
unfolding class_of opening_words number_after blocks next_number half split apply change_leaves with_leaves
    opening_leaves directory_puts placing_of prefix_of reply_in items_after overflows after_op change first_bits hash_of
    spread
helpers_change_applies = refl

abbrev pub second_round_finds_applied_settings : Settings
second_round_finds_applied_settings = record {
  seats = 2;
  items = 1;
  depth = 2;
  start = 0;
  seats_in_range = (omega arith, omega arith);
  items_in_range = (omega arith, omega arith);
  depth_in_range = (omega arith, omega arith);
  start_in_range = (omega arith, omega arith);
}

abbrev pub second_round_finds_applied_setup : Setup
second_round_finds_applied_setup = record {
  shape = record {
    settings = second_round_finds_applied_settings;
    ranges = map (automatic_rows_of second_round_finds_applied_settings) (2 ∷ 1 ∷ []);
    limit = record_limit;
  };
  hashing = Ports 0;
  first = [];
}

-- round 1 left at its first root load, round 2 finds the op applied
second_round_finds_applied :
    brief second_round_finds_applied_setup
    (played second_round_finds_applied_setup
    (((1, Insert (key 1) 1) ∷ (2, Insert (key 32769) 2) ∷ []) ∷ ((11, Insert (key 2) 11) ∷ []) ∷ [])
    ((0, 117) ∷ (1, 127) ∷ (0, 6) ∷ (0, 21) ∷ (1, 1) ∷ []))
    ≡ (59 ∷ 85 ∷ 128 ∷ [], 1 ∷ 1 ∷ 3 ∷ [], 1 ∷ 2 ∷ 11 ∷ [], 3, 2, 0)
unfolding class_of opening_words number_after blocks next_number half split apply change_leaves with_leaves
    opening_leaves directory_puts placing_of prefix_of reply_in items_after overflows after_op change first_bits hash_of
    spread
second_round_finds_applied = refl

abbrev pub second_root_leaves_round_settings : Settings
second_root_leaves_round_settings = record {
  seats = 2;
  items = 1;
  depth = 3;
  start = 1;
  seats_in_range = (omega arith, omega arith);
  items_in_range = (omega arith, omega arith);
  depth_in_range = (omega arith, omega arith);
  start_in_range = (omega arith, omega arith);
}

abbrev pub second_root_leaves_round_setup : Setup
second_root_leaves_round_setup = record {
  shape = record {
    settings = second_root_leaves_round_settings;
    ranges = map (automatic_rows_of second_root_leaves_round_settings) (2 ∷ 3 ∷ []);
    limit = record_limit;
  };
  hashing = Ports 0;
  first = [];
}

-- a lost root exchange, the second root load leaves the round
second_root_leaves_round :
    brief second_root_leaves_round_setup
    (played second_root_leaves_round_setup
    (((1, Insert (key 1) 1) ∷ (2, Insert (key 2) 2) ∷ []) ∷ ((11, Insert (key 32769) 11) ∷ (12, Insert (key 49153) 12)
    ∷ (13, Insert (key 40961) 13) ∷ []) ∷ [])
    ((1, 188) ∷ (0, 285) ∷ (1, 11) ∷ (0, 1) ∷ (1, 195) ∷ []))
    ≡ (67 ∷ 219 ∷ 59 ∷ 161 ∷ 174 ∷ [], 1 ∷ 3 ∷ 1 ∷ 1 ∷ 1 ∷ [], 11 ∷ 1 ∷ 2 ∷ 12 ∷ 13 ∷ [], 6, 3, 0)
unfolding class_of opening_words number_after blocks next_number half split apply change_leaves with_leaves
    opening_leaves directory_puts placing_of prefix_of reply_in items_after overflows after_op change first_bits hash_of
    spread
second_root_leaves_round = refl

abbrev pub second_root_exchange_happens_settings : Settings
second_root_exchange_happens_settings = record {
  seats = 2;
  items = 1;
  depth = 3;
  start = 1;
  seats_in_range = (omega arith, omega arith);
  items_in_range = (omega arith, omega arith);
  depth_in_range = (omega arith, omega arith);
  start_in_range = (omega arith, omega arith);
}

abbrev pub second_root_exchange_happens_setup : Setup
second_root_exchange_happens_setup = record {
  shape = record {
    settings = second_root_exchange_happens_settings;
    ranges = map (automatic_rows_of second_root_exchange_happens_settings) (2 ∷ 3 ∷ []);
    limit = record_limit;
  };
  hashing = Ports 0;
  first = [];
}

-- a lost root exchange, the second one happens
second_root_exchange_happens :
    brief second_root_exchange_happens_setup
    (played second_root_exchange_happens_setup
    (((1, Insert (key 1) 1) ∷ (2, Insert (key 2) 2) ∷ []) ∷ ((11, Insert (key 32769) 11) ∷ (12, Insert (key 49153) 12)
    ∷ (13, Insert (key 40961) 13) ∷ []) ∷ [])
    ((1, 188) ∷ (0, 284) ∷ (1, 1) ∷ (0, 121) ∷ (0, 1) ∷ (1, 175) ∷ []))
    ≡ (67 ∷ 339 ∷ 59 ∷ 131 ∷ 174 ∷ [], 1 ∷ 3 ∷ 1 ∷ 1 ∷ 1 ∷ [], 11 ∷ 1 ∷ 12 ∷ 2 ∷ 13 ∷ [], 6, 3, 0)
unfolding class_of opening_words number_after blocks next_number half split apply change_leaves with_leaves
    opening_leaves directory_puts placing_of prefix_of reply_in items_after overflows after_op change first_bits hash_of
    spread
second_root_exchange_happens = refl

abbrev pub two_lost_root_exchanges_settings : Settings
two_lost_root_exchanges_settings = record {
  seats = 2;
  items = 1;
  depth = 3;
  start = 1;
  seats_in_range = (omega arith, omega arith);
  items_in_range = (omega arith, omega arith);
  depth_in_range = (omega arith, omega arith);
  start_in_range = (omega arith, omega arith);
}

abbrev pub two_lost_root_exchanges_setup : Setup
two_lost_root_exchanges_setup = record {
  shape = record {
    settings = two_lost_root_exchanges_settings;
    ranges = map (automatic_rows_of two_lost_root_exchanges_settings) (2 ∷ 3 ∷ []);
    limit = record_limit;
  };
  hashing = Ports 0;
  first = [];
}

-- two lost root exchanges in one round
two_lost_root_exchanges :
    brief two_lost_root_exchanges_setup
    (played two_lost_root_exchanges_setup
    (((1, Insert (key 1) 1) ∷ (2, Insert (key 2) 2) ∷ []) ∷ ((11, Insert (key 32769) 11) ∷ (12, Insert (key 49153) 12)
    ∷ (13, Insert (key 40961) 13) ∷ []) ∷ [])
    ((1, 188) ∷ (0, 284) ∷ (1, 12) ∷ (0, 120) ∷ (1, 210) ∷ (0, 1) ∷ (0, 21) ∷ (1, 1) ∷ []))
    ≡ (67 ∷ 359 ∷ 59 ∷ 131 ∷ 221 ∷ [], 1 ∷ 3 ∷ 1 ∷ 1 ∷ 1 ∷ [], 11 ∷ 1 ∷ 12 ∷ 2 ∷ 13 ∷ [], 6, 3, 0)
unfolding class_of opening_words number_after blocks next_number half split apply change_leaves with_leaves
    opening_leaves directory_puts placing_of prefix_of reply_in items_after overflows after_op change first_bits hash_of
    spread
two_lost_root_exchanges = refl

abbrev pub last_look_shows_applied_settings : Settings
last_look_shows_applied_settings = record {
  seats = 2;
  items = 1;
  depth = 2;
  start = 0;
  seats_in_range = (omega arith, omega arith);
  items_in_range = (omega arith, omega arith);
  depth_in_range = (omega arith, omega arith);
  start_in_range = (omega arith, omega arith);
}

abbrev pub last_look_shows_applied_setup : Setup
last_look_shows_applied_setup = record {
  shape = record {
    settings = last_look_shows_applied_settings;
    ranges = map (automatic_rows_of last_look_shows_applied_settings) (3 ∷ 1 ∷ []);
    limit = record_limit;
  };
  hashing = Ports 0;
  first = [];
}

-- the last find and read
last_look_shows_applied :
    brief last_look_shows_applied_setup
    (played last_look_shows_applied_setup
    (((1, Insert (key 1) 1) ∷ (2, Insert (key 32769) 2) ∷ (3, Insert (key 16385) 3) ∷ [])
    ∷ ((11, Insert (key 2) 11) ∷ []) ∷ [])
    ((0, 185) ∷ (1, 31) ∷ (0, 16) ∷ (1, 59) ∷ (0, 97) ∷ (1, 6) ∷ (0, 1) ∷ (1, 21) ∷ []))
    ≡ (59 ∷ 128 ∷ 112 ∷ 117 ∷ [], 1 ∷ 1 ∷ 1 ∷ 3 ∷ [], 1 ∷ 2 ∷ 3 ∷ 11 ∷ [], 3, 2, 0)
unfolding class_of opening_words number_after blocks next_number half split apply change_leaves with_leaves
    opening_leaves directory_puts placing_of prefix_of reply_in items_after overflows after_op change first_bits hash_of
    spread
last_look_shows_applied = refl

abbrev pub root_exchange_in_round_two_settings : Settings
root_exchange_in_round_two_settings = record {
  seats = 2;
  items = 1;
  depth = 2;
  start = 0;
  seats_in_range = (omega arith, omega arith);
  items_in_range = (omega arith, omega arith);
  depth_in_range = (omega arith, omega arith);
  start_in_range = (omega arith, omega arith);
}

abbrev pub root_exchange_in_round_two_setup : Setup
root_exchange_in_round_two_setup = record {
  shape = record {
    settings = root_exchange_in_round_two_settings;
    ranges = map (automatic_rows_of root_exchange_in_round_two_settings) (3 ∷ 1 ∷ []);
    limit = record_limit;
  };
  hashing = Ports 0;
  first = [];
}

-- a root exchange that happens in round 2
root_exchange_in_round_two :
    brief root_exchange_in_round_two_setup
    (played root_exchange_in_round_two_setup
    (((1, Insert (key 1) 1) ∷ (2, Insert (key 32769) 2) ∷ (3, Insert (key 16385) 3) ∷ [])
    ∷ ((11, Insert (key 2) 11) ∷ []) ∷ [])
    ((0, 185) ∷ (1, 31) ∷ (0, 1) ∷ (1, 156) ∷ (0, 68) ∷ (1, 1) ∷ []))
    ≡ (59 ∷ 128 ∷ 67 ∷ 188 ∷ [], 1 ∷ 1 ∷ 1 ∷ 3 ∷ [], 1 ∷ 2 ∷ 11 ∷ 3 ∷ [], 3, 2, 0)
unfolding class_of opening_words number_after blocks next_number half split apply change_leaves with_leaves
    opening_leaves directory_puts placing_of prefix_of reply_in items_after overflows after_op change first_bits hash_of
    spread
root_exchange_in_round_two = refl

abbrev pub number_in_two_leaves_settings : Settings
number_in_two_leaves_settings = record {
  seats = 2;
  items = 1;
  depth = 2;
  start = 0;
  seats_in_range = (omega arith, omega arith);
  items_in_range = (omega arith, omega arith);
  depth_in_range = (omega arith, omega arith);
  start_in_range = (omega arith, omega arith);
}

abbrev pub number_in_two_leaves_setup : Setup
number_in_two_leaves_setup = record {
  shape = record {
    settings = number_in_two_leaves_settings;
    ranges = map (automatic_rows_of number_in_two_leaves_settings) (2 ∷ 1 ∷ []);
    limit = record_limit;
  };
  hashing = Ports 0;
  first = [];
}

-- a taken op's number shows in two new leaves
number_in_two_leaves :
    brief number_in_two_leaves_setup
    (played number_in_two_leaves_setup
    (((1, Insert (key 1) 1) ∷ (2, Insert (key 1) 2) ∷ []) ∷ ((11, Insert (key 2) 11) ∷ []) ∷ [])
    ((1, 11) ∷ (0, 194) ∷ (0, 1) ∷ (1, 21) ∷ []))
    ≡ (67 ∷ 128 ∷ 32 ∷ [], 1 ∷ 2 ∷ 3 ∷ [], 1 ∷ 2 ∷ 11 ∷ [], 3, 2, 0)
unfolding class_of opening_words number_after blocks next_number half split apply change_leaves with_leaves
    opening_leaves directory_puts placing_of prefix_of reply_in items_after overflows after_op change first_bits hash_of
    spread
number_in_two_leaves = refl

abbrev pub two_buckets_in_one_change_settings : Settings
two_buckets_in_one_change_settings = record {
  seats = 2;
  items = 1;
  depth = 2;
  start = 1;
  seats_in_range = (omega arith, omega arith);
  items_in_range = (omega arith, omega arith);
  depth_in_range = (omega arith, omega arith);
  start_in_range = (omega arith, omega arith);
}

abbrev pub two_buckets_in_one_change_setup : Setup
two_buckets_in_one_change_setup = record {
  shape = record {
    settings = two_buckets_in_one_change_settings;
    ranges = map (automatic_rows_of two_buckets_in_one_change_settings) (2 ∷ 2 ∷ []);
    limit = record_limit;
  };
  hashing = Ports 0;
  first = [];
}

-- one change replaces two frozen buckets for two ops
two_buckets_in_one_change :
    brief two_buckets_in_one_change_setup
    (played two_buckets_in_one_change_setup
    (((1, Insert (key 1) 1) ∷ (2, Insert (key 2) 2) ∷ []) ∷ ((11, Insert (key 32769) 11) ∷ (12, Insert (key 32770) 12)
    ∷ []) ∷ [])
    ((1, 117) ∷ (0, 264) ∷ (0, 1) ∷ (1, 27) ∷ []))
    ≡ (67 ∷ 198 ∷ 59 ∷ 85 ∷ [], 1 ∷ 3 ∷ 1 ∷ 3 ∷ [], 11 ∷ 1 ∷ 2 ∷ 12 ∷ [], 4, 2, 0)
unfolding class_of opening_words number_after blocks next_number half split apply change_leaves with_leaves
    opening_leaves directory_puts placing_of prefix_of reply_in items_after overflows after_op change first_bits hash_of
    spread
two_buckets_in_one_change = refl
