-- Small tables worked by hand, computed from the definitions: what each seat is told and in how many steps, the order,
-- the leaves and the depth. Ports 1, 2 and 3 have the first hash bits 000, 16384 has 010 and 32768 has 100.
use Rattle.std.proofs.Common.{◌≡◌, ℕ, refl, [], ◌∷◌, map, length, arith}
use Rattle.step_counts.specs.declared.settings.Settings.{Settings}
use Rattle.step_counts.specs.StepCounts.{automatic_rows_of}
use Rattle.hash_bits.specs.Hashing.{hash_of}
use Rattle.hash_bits.specs.Spread.{spread}
use Rattle.hash_bits.specs.Prefix.{first_bits}
use Rattle.hash_bits.specs.declared.hashing.Hashing.TheVariants.{Ports}
use Rattle.plain_map.specs.declared.calls.Call.TheVariants.{Insert, Remove, Lookup}
use Rattle.plain_map.specs.declared.calls.Reply.TheVariants.{New, NoRoom, Gone, Found, Absent}
use Rattle.word_rows.specs.Shape.{record_limit, number_after}
use Rattle.word_rows.specs.Blocks.{blocks}
use Rattle.bucket_states.specs.Items.{prefix_of, reply_in, items_after, overflows}
use Rattle.bucket_states.specs.Change.{after_op, change}
use Rattle.bucket_states.specs.Halves.{half}
use Rattle.plain_map.specs.PlainObject.{class_of}
use Rattle.table_model.specs.Setup.{Setup, rules_of, next_number}
use Rattle.table_model.specs.Leaves.{split, apply}
use Rattle.table_model.specs.DirectoryChange.{change_leaves, with_leaves}
use Rattle.table_model.specs.Opening.{opening_leaves}
use Rattle.table_model.specs.Worlds.{opening_words}
use Rattle.table_model.specs.Stores.{directory_puts}
use Rattle.table_model.specs.Order.{placing_of}
use Rattle.table_model.proofs.Plays.{in_turn, key, played, summary}

abbrev pub one_insert_settings : Settings
one_insert_settings = record {
  seats = 1;
  items = 2;
  depth = 1;
  start = 1;
  seats_in_range = (omega arith, omega arith);
  items_in_range = (omega arith, omega arith);
  depth_in_range = (omega arith, omega arith);
  start_in_range = (omega arith, omega arith);
}

abbrev pub one_insert_setup : Setup
one_insert_setup = record {
  shape = record {
    settings = one_insert_settings;
    ranges = map (automatic_rows_of one_insert_settings) (1 ∷ []);
    limit = record_limit;
  };
  hashing = Ports 0;
  first = [];
}

-- one insert
one_insert :
    summary one_insert_setup
    (played one_insert_setup
    (((1, Insert (key 1) 1) ∷ []) ∷ [])
    ((0, 67) ∷ []))
    ≡ (
      (1, New, 67, 0 ∷ 0 ∷ []) ∷ [],
      1 ∷ [],
      (0, 1) ∷ (1, 1) ∷ [],
      1,
      0,
    )
unfolding class_of opening_words number_after blocks next_number half split apply change_leaves with_leaves
    opening_leaves directory_puts placing_of prefix_of reply_in items_after overflows after_op change first_bits hash_of
    spread
one_insert = refl

abbrev pub third_insert_splits_settings : Settings
third_insert_splits_settings = record {
  seats = 1;
  items = 2;
  depth = 2;
  start = 0;
  seats_in_range = (omega arith, omega arith);
  items_in_range = (omega arith, omega arith);
  depth_in_range = (omega arith, omega arith);
  start_in_range = (omega arith, omega arith);
}

abbrev pub third_insert_splits_setup : Setup
third_insert_splits_setup = record {
  shape = record {
    settings = third_insert_splits_settings;
    ranges = map (automatic_rows_of third_insert_splits_settings) (3 ∷ []);
    limit = record_limit;
  };
  hashing = Ports 0;
  first = [];
}

-- three inserts, the third of which splits the one bucket
third_insert_splits :
    summary third_insert_splits_setup
    (played third_insert_splits_setup
    (((1, Insert (key 1) 1) ∷ (2, Insert (key 16384) 2) ∷ (3, Insert (key 32768) 3) ∷ []) ∷ [])
    ((0, 284) ∷ []))
    ≡ (
      (1, New, 67, 0 ∷ 0 ∷ []) ∷ (2, New, 67, 1 ∷ 0 ∷ []) ∷ (3, New, 150, 2 ∷ 0 ∷ []) ∷ [],
      1 ∷ 2 ∷ 3 ∷ [],
      (0, 1) ∷ (1, 1) ∷ [],
      1,
      0,
    )
unfolding class_of opening_words number_after blocks next_number half split apply change_leaves with_leaves
    opening_leaves directory_puts placing_of prefix_of reply_in items_after overflows after_op change first_bits hash_of
    spread
third_insert_splits = refl

abbrev pub three_of_one_class_settings : Settings
three_of_one_class_settings = record {
  seats = 1;
  items = 2;
  depth = 2;
  start = 0;
  seats_in_range = (omega arith, omega arith);
  items_in_range = (omega arith, omega arith);
  depth_in_range = (omega arith, omega arith);
  start_in_range = (omega arith, omega arith);
}

abbrev pub three_of_one_class_setup : Setup
three_of_one_class_setup = record {
  shape = record {
    settings = three_of_one_class_settings;
    ranges = map (automatic_rows_of three_of_one_class_settings) (3 ∷ []);
    limit = record_limit;
  };
  hashing = Ports 0;
  first = [];
}

-- three keys of one class
three_of_one_class :
    summary three_of_one_class_setup
    (played three_of_one_class_setup
    (((1, Insert (key 1) 1) ∷ (2, Insert (key 2) 2) ∷ (3, Insert (key 3) 3) ∷ []) ∷ [])
    ((0, 308) ∷ []))
    ≡ (
      (1, New, 67, 0 ∷ 0 ∷ []) ∷ (2, New, 67, 1 ∷ 0 ∷ []) ∷ (3, NoRoom, 174, 2 ∷ 0 ∷ []) ∷ [],
      1 ∷ 2 ∷ 3 ∷ [],
      (0, 2) ∷ (1, 2) ∷ (1, 1) ∷ [],
      2,
      0,
    )
unfolding class_of opening_words number_after blocks next_number half split apply change_leaves with_leaves
    opening_leaves directory_puts placing_of prefix_of reply_in items_after overflows after_op change first_bits hash_of
    spread
three_of_one_class = refl

abbrev pub other_seat_answers_settings : Settings
other_seat_answers_settings = record {
  seats = 2;
  items = 2;
  depth = 1;
  start = 1;
  seats_in_range = (omega arith, omega arith);
  items_in_range = (omega arith, omega arith);
  depth_in_range = (omega arith, omega arith);
  start_in_range = (omega arith, omega arith);
}

abbrev pub other_seat_answers_setup : Setup
other_seat_answers_setup = record {
  shape = record {
    settings = other_seat_answers_settings;
    ranges = map (automatic_rows_of other_seat_answers_settings) (1 ∷ 1 ∷ []);
    limit = record_limit;
  };
  hashing = Ports 0;
  first = [];
}

-- seat 0 announces, seat 1 applies both
other_seat_answers :
    summary other_seat_answers_setup
    (played other_seat_answers_setup
    (((1, Insert (key 1) 1) ∷ []) ∷ ((2, Insert (key 2) 2) ∷ []) ∷ [])
    ((0, 11) ∷ (1, 81) ∷ (0, 28) ∷ []))
    ≡ (
      (1, New, 39, 0 ∷ 0 ∷ []) ∷ (2, New, 81, 0 ∷ 0 ∷ []) ∷ [],
      1 ∷ 2 ∷ [],
      (0, 1) ∷ (1, 1) ∷ [],
      1,
      0,
    )
unfolding class_of opening_words number_after blocks next_number half split apply change_leaves with_leaves
    opening_leaves directory_puts placing_of prefix_of reply_in items_after overflows after_op change first_bits hash_of
    spread
other_seat_answers = refl

abbrev pub lookup_of_a_split_bucket_settings : Settings
lookup_of_a_split_bucket_settings = record {
  seats = 2;
  items = 2;
  depth = 1;
  start = 0;
  seats_in_range = (omega arith, omega arith);
  items_in_range = (omega arith, omega arith);
  depth_in_range = (omega arith, omega arith);
  start_in_range = (omega arith, omega arith);
}

abbrev pub lookup_of_a_split_bucket_setup : Setup
lookup_of_a_split_bucket_setup = record {
  shape = record {
    settings = lookup_of_a_split_bucket_settings;
    ranges = map (automatic_rows_of lookup_of_a_split_bucket_settings) (1 ∷ 2 ∷ []);
    limit = record_limit;
  };
  hashing = Ports 0;
  first = [];
}

-- a lookup of a bucket that is split meanwhile
lookup_of_a_split_bucket :
    summary lookup_of_a_split_bucket_setup
    (played lookup_of_a_split_bucket_setup
    (((1, Insert (key 1) 1) ∷ (3, Lookup (key 32768)) ∷ []) ∷ ((2, Insert (key 16384) 2) ∷ (4, Insert (key 32768) 4)
    ∷ []) ∷ [])
    ((0, 73) ∷ (1, 81) ∷ (0, 5) ∷ (1, 179) ∷ (0, 17) ∷ []))
    ≡ (
      (1, New, 73, 0 ∷ 0 ∷ []) ∷ (3, Absent, 22, 1 ∷ 1 ∷ []) ∷ (2, New, 81, 1 ∷ 0 ∷ []) ∷ (4, New, 179, 1 ∷ 1 ∷ [])
          ∷ [],
      1 ∷ 2 ∷ 3 ∷ 4 ∷ [],
      (0, 1) ∷ (1, 1) ∷ [],
      1,
      0,
    )
unfolding class_of opening_words number_after blocks next_number half split apply change_leaves with_leaves
    opening_leaves directory_puts placing_of prefix_of reply_in items_after overflows after_op change first_bits hash_of
    spread
lookup_of_a_split_bucket = refl

abbrev pub lookup_after_insert_settings : Settings
lookup_after_insert_settings = record {
  seats = 2;
  items = 2;
  depth = 1;
  start = 1;
  seats_in_range = (omega arith, omega arith);
  items_in_range = (omega arith, omega arith);
  depth_in_range = (omega arith, omega arith);
  start_in_range = (omega arith, omega arith);
}

abbrev pub lookup_after_insert_setup : Setup
lookup_after_insert_setup = record {
  shape = record {
    settings = lookup_after_insert_settings;
    ranges = map (automatic_rows_of lookup_after_insert_settings) (0 ∷ 1 ∷ []);
    limit = record_limit;
  };
  hashing = Ports 0;
  first = [];
}

-- a lookup after an insert
lookup_after_insert :
    summary lookup_after_insert_setup
    (played lookup_after_insert_setup
    (((1, Lookup (key 1)) ∷ []) ∷ ((2, Insert (key 1) 2) ∷ []) ∷ [])
    ((1, 73) ∷ (0, 15) ∷ []))
    ≡ (
      (1, (Found 2), 15, 0 ∷ 1 ∷ []) ∷ (2, New, 73, 0 ∷ 0 ∷ []) ∷ [],
      2 ∷ 1 ∷ [],
      (0, 1) ∷ (1, 1) ∷ [],
      1,
      0,
    )
unfolding class_of opening_words number_after blocks next_number half split apply change_leaves with_leaves
    opening_leaves directory_puts placing_of prefix_of reply_in items_after overflows after_op change first_bits hash_of
    spread
lookup_after_insert = refl

abbrev pub remove_makes_room_settings : Settings
remove_makes_room_settings = record {
  seats = 1;
  items = 2;
  depth = 2;
  start = 0;
  seats_in_range = (omega arith, omega arith);
  items_in_range = (omega arith, omega arith);
  depth_in_range = (omega arith, omega arith);
  start_in_range = (omega arith, omega arith);
}

abbrev pub remove_makes_room_setup : Setup
remove_makes_room_setup = record {
  shape = record {
    settings = remove_makes_room_settings;
    ranges = map (automatic_rows_of remove_makes_room_settings) (5 ∷ []);
    limit = record_limit;
  };
  hashing = Ports 0;
  first = [];
}

-- row 7, and then a remove and an insert
remove_makes_room :
    summary remove_makes_room_setup
    (played remove_makes_room_setup
    (((1, Insert (key 1) 1) ∷ (2, Insert (key 2) 2) ∷ (3, Insert (key 3) 3) ∷ (4, Remove (key 1))
    ∷ (5, Insert (key 3) 5) ∷ []) ∷ [])
    ((0, 442) ∷ []))
    ≡ (
      (1, New, 67, 0 ∷ 0 ∷ []) ∷ (2, New, 67, 1 ∷ 0 ∷ []) ∷ (3, NoRoom, 174, 2 ∷ 0 ∷ []) ∷ (4, (Gone 1), 67, 3 ∷ 0 ∷ [])
          ∷ (5, New, 67, 4 ∷ 0 ∷ []) ∷ [],
      1 ∷ 2 ∷ 3 ∷ 4 ∷ 5 ∷ [],
      (0, 2) ∷ (1, 2) ∷ (1, 1) ∷ [],
      2,
      0,
    )
unfolding class_of opening_words number_after blocks next_number half split apply change_leaves with_leaves
    opening_leaves directory_puts placing_of prefix_of reply_in items_after overflows after_op change first_bits hash_of
    spread
remove_makes_room = refl

abbrev pub seats_in_turn_settings : Settings
seats_in_turn_settings = record {
  seats = 2;
  items = 2;
  depth = 1;
  start = 1;
  seats_in_range = (omega arith, omega arith);
  items_in_range = (omega arith, omega arith);
  depth_in_range = (omega arith, omega arith);
  start_in_range = (omega arith, omega arith);
}

abbrev pub seats_in_turn_setup : Setup
seats_in_turn_setup = record {
  shape = record {
    settings = seats_in_turn_settings;
    ranges = map (automatic_rows_of seats_in_turn_settings) (1 ∷ 1 ∷ []);
    limit = record_limit;
  };
  hashing = Ports 0;
  first = [];
}

-- two seats in turn
seats_in_turn :
    summary seats_in_turn_setup
    (played seats_in_turn_setup
    (((1, Insert (key 1) 1) ∷ []) ∷ ((2, Insert (key 2) 2) ∷ []) ∷ [])
    (in_turn 81 ((1, 24) ∷ [])))
    ≡ (
      (1, New, 81, 0 ∷ 0 ∷ []) ∷ (2, New, 105, 0 ∷ 0 ∷ []) ∷ [],
      1 ∷ 2 ∷ [],
      (0, 1) ∷ (1, 1) ∷ [],
      1,
      0,
    )
unfolding class_of opening_words number_after blocks next_number half split apply change_leaves with_leaves
    opening_leaves directory_puts placing_of prefix_of reply_in items_after overflows after_op change first_bits hash_of
    spread
seats_in_turn = refl

abbrev pub other_seat_answers_a_stopped_one_settings : Settings
other_seat_answers_a_stopped_one_settings = record {
  seats = 2;
  items = 2;
  depth = 1;
  start = 1;
  seats_in_range = (omega arith, omega arith);
  items_in_range = (omega arith, omega arith);
  depth_in_range = (omega arith, omega arith);
  start_in_range = (omega arith, omega arith);
}

abbrev pub other_seat_answers_a_stopped_one_setup : Setup
other_seat_answers_a_stopped_one_setup = record {
  shape = record {
    settings = other_seat_answers_a_stopped_one_settings;
    ranges = map (automatic_rows_of other_seat_answers_a_stopped_one_settings) (1 ∷ 1 ∷ []);
    limit = record_limit;
  };
  hashing = Ports 0;
  first = [];
}

-- seat 0 stops after its announcement
other_seat_answers_a_stopped_one :
    summary other_seat_answers_a_stopped_one_setup
    (played other_seat_answers_a_stopped_one_setup
    (((1, Insert (key 1) 1) ∷ []) ∷ ((2, Insert (key 2) 2) ∷ []) ∷ [])
    ((0, 11) ∷ (1, 81) ∷ []))
    ≡ (
      (2, New, 81, 0 ∷ 0 ∷ []) ∷ [],
      1 ∷ 2 ∷ [],
      (0, 1) ∷ (1, 1) ∷ [],
      1,
      0,
    )
unfolding class_of opening_words number_after blocks next_number half split apply change_leaves with_leaves
    opening_leaves directory_puts placing_of prefix_of reply_in items_after overflows after_op change first_bits hash_of
    spread
other_seat_answers_a_stopped_one = refl

abbrev pub no_depth_to_split_settings : Settings
no_depth_to_split_settings = record {
  seats = 1;
  items = 1;
  depth = 0;
  start = 0;
  seats_in_range = (omega arith, omega arith);
  items_in_range = (omega arith, omega arith);
  depth_in_range = (omega arith, omega arith);
  start_in_range = (omega arith, omega arith);
}

abbrev pub no_depth_to_split_setup : Setup
no_depth_to_split_setup = record {
  shape = record {
    settings = no_depth_to_split_settings;
    ranges = map (automatic_rows_of no_depth_to_split_settings) (2 ∷ []);
    limit = record_limit;
  };
  hashing = Ports 0;
  first = [];
}

-- no depth to split
no_depth_to_split :
    summary no_depth_to_split_setup
    (played no_depth_to_split_setup
    (((1, Insert (key 1) 1) ∷ (2, Insert (key 2) 2) ∷ []) ∷ [])
    ((0, 106) ∷ []))
    ≡ (
      (1, New, 53, 0 ∷ 0 ∷ []) ∷ (2, NoRoom, 53, 1 ∷ 0 ∷ []) ∷ [],
      1 ∷ 2 ∷ [],
      (0, 0) ∷ [],
      0,
      0,
    )
unfolding class_of opening_words number_after blocks next_number half split apply change_leaves with_leaves
    opening_leaves directory_puts placing_of prefix_of reply_in items_after overflows after_op change first_bits hash_of
    spread
no_depth_to_split = refl

abbrev pub lost_exchange_was_helped_settings : Settings
lost_exchange_was_helped_settings = record {
  seats = 2;
  items = 2;
  depth = 1;
  start = 1;
  seats_in_range = (omega arith, omega arith);
  items_in_range = (omega arith, omega arith);
  depth_in_range = (omega arith, omega arith);
  start_in_range = (omega arith, omega arith);
}

abbrev pub lost_exchange_was_helped_setup : Setup
lost_exchange_was_helped_setup = record {
  shape = record {
    settings = lost_exchange_was_helped_settings;
    ranges = map (automatic_rows_of lost_exchange_was_helped_settings) (1 ∷ 1 ∷ []);
    limit = record_limit;
  };
  hashing = Ports 0;
  first = [];
}

-- a lost exchange, and the op was applied
lost_exchange_was_helped :
    summary lost_exchange_was_helped_setup
    (played lost_exchange_was_helped_setup
    (((1, Insert (key 1) 1) ∷ []) ∷ ((2, Insert (key 2) 2) ∷ []) ∷ [])
    ((0, 71) ∷ (1, 81) ∷ (0, 26) ∷ []))
    ≡ (
      (1, New, 97, 0 ∷ 0 ∷ []) ∷ (2, New, 81, 0 ∷ 0 ∷ []) ∷ [],
      1 ∷ 2 ∷ [],
      (0, 1) ∷ (1, 1) ∷ [],
      1,
      0,
    )
unfolding class_of opening_words number_after blocks next_number half split apply change_leaves with_leaves
    opening_leaves directory_puts placing_of prefix_of reply_in items_after overflows after_op change first_bits hash_of
    spread
lost_exchange_was_helped = refl

abbrev pub opening_of_three_settings : Settings
opening_of_three_settings = record {
  seats = 1;
  items = 2;
  depth = 2;
  start = 0;
  seats_in_range = (omega arith, omega arith);
  items_in_range = (omega arith, omega arith);
  depth_in_range = (omega arith, omega arith);
  start_in_range = (omega arith, omega arith);
}

abbrev pub opening_of_three_setup : Setup
opening_of_three_setup = record {
  shape = record {
    settings = opening_of_three_settings;
    ranges = map (automatic_rows_of opening_of_three_settings) ([]);
    limit = record_limit;
  };
  hashing = Ports 0;
  first = [];
}

-- three first pairs, two of which share a class
opening_of_three :
    map {B = ℕ × ℕ × ℕ} (λ leaf. (leaf.bucket.prefix, leaf.bucket.depth, length leaf.bucket.items))
    (opening_leaves (rules_of opening_of_three_setup) 1 0
    (record { key = key 1; value = 1; bytes = 0 } ∷ record { key = key 16384; value = 2; bytes = 0 }
    ∷ record { key = key 32768; value = 3; bytes = 0 }
    ∷ []))
    ≡ (0, 1, 2) ∷ (1, 1, 1) ∷ []
unfolding class_of opening_words number_after blocks next_number half split apply change_leaves with_leaves
    opening_leaves directory_puts placing_of prefix_of reply_in items_after overflows after_op change first_bits hash_of
    spread
opening_of_three = refl

abbrev pub words_at_opening_settings : Settings
words_at_opening_settings = record {
  seats = 1;
  items = 2;
  depth = 1;
  start = 1;
  seats_in_range = (omega arith, omega arith);
  items_in_range = (omega arith, omega arith);
  depth_in_range = (omega arith, omega arith);
  start_in_range = (omega arith, omega arith);
}

abbrev pub words_at_opening_setup : Setup
words_at_opening_setup = record {
  shape = record {
    settings = words_at_opening_settings;
    ranges = record { op_rows = 1; bucket_rows = 4; bucket_words = 2; directory_rows = 1 } ∷ [];
    limit = record_limit;
  };
  hashing = Ports 0;
  first = [];
}

-- the words of the layout's example
words_at_opening : (played words_at_opening_setup (((1, Insert (key 1) 1) ∷ []) ∷ []) ([])).words ≡
    0 ∷ 0 ∷ 0 ∷ 0 ∷ 1 ∷ 0 ∷ 0 ∷ 0 ∷ 0 ∷ 0 ∷ 0 ∷ 0 ∷ 0 ∷ 0 ∷ 0 ∷ 0 ∷ 1 ∷ 0 ∷ 0 ∷ 0 ∷ 0 ∷ 0 ∷ 0 ∷ 0 ∷ 0 ∷ 0 ∷ 0 ∷ 0 ∷
    0 ∷ 0 ∷ 0 ∷ 0 ∷ 0 ∷ 0 ∷ 0 ∷ 0 ∷ 1 ∷ 1 ∷ 0 ∷ 0 ∷ 0 ∷ 0 ∷ 0 ∷ 0 ∷ 0 ∷ 0 ∷ 0 ∷ 0 ∷ 0 ∷ 0 ∷ 0 ∷ 0 ∷ 0 ∷ 0 ∷ 0 ∷ 0 ∷
    0 ∷ 0 ∷ 0 ∷ 0 ∷ 0 ∷ 0 ∷ 0 ∷ 0 ∷ 0 ∷ 0 ∷ 0 ∷ 0 ∷ 0 ∷ 0 ∷ 0 ∷ 0 ∷ 0 ∷ 0 ∷ 0 ∷ 0 ∷ 0 ∷ 0 ∷ 0 ∷ 0 ∷ 0 ∷ 0 ∷ 0 ∷ 0 ∷
    0 ∷ 0 ∷ 0 ∷ 0 ∷ 0 ∷ 0 ∷ 0 ∷ 0 ∷ 0 ∷ 0 ∷ 0 ∷ 0 ∷ 0 ∷ 0 ∷ 0 ∷ 0 ∷ 0 ∷ 0 ∷ 0 ∷ 0 ∷ 0 ∷ 0 ∷ 0 ∷ 0 ∷ 0 ∷ 0 ∷ 0 ∷ 0 ∷
    0 ∷ 0 ∷ 0 ∷ 0 ∷ 0 ∷ 0 ∷ 0 ∷ 0 ∷ 0 ∷ 0 ∷ 0 ∷ 0 ∷ 0 ∷ 0 ∷ 0 ∷ 0 ∷ 0 ∷ 0 ∷ 0 ∷ 0 ∷ 0 ∷ 0 ∷ 0 ∷ 0 ∷ 0 ∷ 0 ∷ 0 ∷ 0 ∷
    0 ∷ 1 ∷ 0 ∷ 0 ∷ 1 ∷ 0 ∷ 0 ∷ 0 ∷ 0 ∷ []
unfolding class_of opening_words number_after blocks next_number half split apply change_leaves with_leaves
    opening_leaves directory_puts placing_of prefix_of reply_in items_after overflows after_op change first_bits hash_of
    spread
words_at_opening = refl

abbrev pub words_after_insert_settings : Settings
words_after_insert_settings = record {
  seats = 1;
  items = 2;
  depth = 1;
  start = 1;
  seats_in_range = (omega arith, omega arith);
  items_in_range = (omega arith, omega arith);
  depth_in_range = (omega arith, omega arith);
  start_in_range = (omega arith, omega arith);
}

abbrev pub words_after_insert_setup : Setup
words_after_insert_setup = record {
  shape = record {
    settings = words_after_insert_settings;
    ranges = record { op_rows = 1; bucket_rows = 4; bucket_words = 2; directory_rows = 1 } ∷ [];
    limit = record_limit;
  };
  hashing = Ports 0;
  first = [];
}

-- the words of the layout's example
words_after_insert : (played words_after_insert_setup (((1, Insert (key 1) 1) ∷ []) ∷ []) ((0, 67) ∷ [])).words ≡
    0 ∷ 1 ∷ 1 ∷ 2 ∷ 1 ∷ 0 ∷ 0 ∷ 1 ∷ 1 ∷ 0 ∷ 0x0a000001 ∷ 0 ∷ 0x0a000002 ∷ 0x0000000001005006 ∷ 1 ∷ 0 ∷ 1 ∷ 0 ∷ 0 ∷
    0 ∷ 0 ∷ 0 ∷ 0 ∷ 0 ∷ 0 ∷ 0 ∷ 0 ∷ 0 ∷ 0 ∷ 0 ∷ 0 ∷ 0 ∷ 0 ∷ 0 ∷ 0 ∷ 0 ∷ 1 ∷ 1 ∷ 0 ∷ 0 ∷ 0 ∷ 0 ∷ 0 ∷ 0 ∷ 0 ∷ 0 ∷ 0 ∷
    0 ∷ 0 ∷ 0 ∷ 0 ∷ 0 ∷ 0 ∷ 0 ∷ 0 ∷ 0 ∷ 0 ∷ 0 ∷ 1 ∷ 1 ∷ 0 ∷ 1 ∷ 0 ∷ 0x0a000001 ∷ 0 ∷ 0x0a000002 ∷
    0x0000000001005006 ∷ 1 ∷ 0 ∷ 0 ∷ 0 ∷ 0 ∷ 0 ∷ 0 ∷ 0 ∷ 0 ∷ 1 ∷ 1 ∷ 0 ∷ 0 ∷ 0 ∷ 0 ∷ 0 ∷ 0 ∷ 0 ∷ 0 ∷ 0 ∷ 0 ∷ 0 ∷ 0 ∷
    0 ∷ 0 ∷ 0 ∷ 0 ∷ 0 ∷ 0 ∷ 0 ∷ 0 ∷ 0 ∷ 0 ∷ 0 ∷ 0 ∷ 0 ∷ 0 ∷ 0 ∷ 0 ∷ 0 ∷ 0 ∷ 0 ∷ 0 ∷ 0 ∷ 0 ∷ 0 ∷ 0 ∷ 0 ∷ 0 ∷ 0 ∷ 0 ∷
    0 ∷ 0 ∷ 0 ∷ 0 ∷ 0 ∷ 0 ∷ 0 ∷ 0 ∷ 0 ∷ 0 ∷ 0 ∷ 0 ∷ 0 ∷ 0 ∷ 0 ∷ 0 ∷ 0 ∷ 0 ∷ 0 ∷ 0 ∷ 0 ∷ 0 ∷ 0 ∷ 1 ∷ 0 ∷ 0 ∷ 1 ∷ 0 ∷
    0 ∷ 0 ∷ 0 ∷ []
unfolding class_of opening_words number_after blocks next_number half split apply change_leaves with_leaves
    opening_leaves directory_puts placing_of prefix_of reply_in items_after overflows after_op change first_bits hash_of
    spread
words_after_insert = refl
