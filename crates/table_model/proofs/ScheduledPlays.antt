-- The events of plays by schedules, worked by hand: stops, calls that are refused, the end of a schedule; and how often
-- the buckets of a batch can be split.
use Rattle.std.proofs.Common.{◌≡◌, ℕ, refl, [], ◌∷◌, map, length}
use Rattle.hash_bits.specs.Hashing.{hash_of}
use Rattle.hash_bits.specs.Spread.{spread}
use Rattle.hash_bits.specs.Prefix.{first_bits}
use Rattle.plain_map.specs.declared.calls.Call.TheVariants.{Insert, Remove, Lookup}
use Rattle.word_rows.specs.Shape.{number_after}
use Rattle.word_rows.specs.Blocks.{blocks}
use Rattle.bucket_states.specs.Items.{prefix_of, reply_in, items_after, overflows}
use Rattle.bucket_states.specs.Change.{after_op, change}
use Rattle.bucket_states.specs.Halves.{half}
use Rattle.plain_map.specs.PlainObject.{class_of}
use Rattle.table_model.specs.Setup.{rules_of, next_number}
use Rattle.table_model.specs.Leaves.{split, apply}
use Rattle.table_model.specs.DirectoryChange.{change_leaves, with_leaves}
use Rattle.table_model.specs.Opening.{opening_leaves}
use Rattle.table_model.specs.Worlds.{opening_words}
use Rattle.table_model.specs.Stores.{directory_puts}
use Rattle.table_model.specs.Needs.{crowded}
use Rattle.table_model.proofs.Plays.{key}
use Rattle.std.specs.Prelude.{Bool, true, false, is_some, List, Some, None}
use Rattle.table_model.specs.declared.events.Event.{Event}
use Rattle.table_model.specs.Schedules.{Segment, Play, play_of, unbegun_in}
use Rattle.table_model.specs.Needs.{splits_for, batch_rows_of}
use Rattle.table_model.specs.Closed.{begun_of, records_of}
use Rattle.table_model.proofs.WorkedRows.{one_insert_setup, other_seat_answers_setup, third_insert_splits_settings, third_insert_splits_setup}

-- what is told of a play: whose events, and which begin a call; the replies' packets; how many calls are pending, and
-- unbegun
abbrev event_told : Event → ℕ × Bool
event_told event = (event.seat, is_some event.begin)

abbrev play_told : Play → ℕ × List ℕ × ℕ × ℕ
play_told play = (
  length play.events,
  map (λ r. r.packet) (records_of play.world),
  length
      (begun_of play.world),
  unbegun_in play,
)

abbrev segment : (seat slots : ℕ) → Segment
segment seat slots = record { seat = seat; slots = Some slots }

abbrev to_end : (seat : ℕ) → Segment
to_end seat = record { seat = seat; slots = None }

-- without a schedule the one seat goes in turn, to the end of its call
one_call_to_the_end :
    play_told (play_of one_insert_setup (((1, Insert (key 1) 1) ∷ []) ∷ []) [] []) ≡ (67, 1 ∷ [], 0, 0)
unfolding class_of opening_words number_after blocks next_number half split apply change_leaves with_leaves
    opening_leaves directory_puts play_of prefix_of reply_in items_after overflows after_op change first_bits hash_of
    spread crowded
one_call_to_the_end = refl

-- stopped after ten steps
one_call_stopped :
    play_told (play_of one_insert_setup (((1, Insert (key 1) 1) ∷ []) ∷ []) (Some 10 ∷ []) (to_end 0 ∷ []))
    ≡ (10, [], 1, 0)
unfolding class_of opening_words number_after blocks next_number half split apply change_leaves with_leaves
    opening_leaves directory_puts play_of prefix_of reply_in items_after overflows after_op change first_bits hash_of
    spread crowded
one_call_stopped = refl

-- stopped as its first call is answered: the next one, which would be refused, is not begun
next_call_is_not_begun :
    play_told (play_of one_insert_setup (((1, Insert (key 1) 1) ∷ (2, Insert (key 2) 2) ∷ []) ∷ []) (Some 67 ∷ [])
    (to_end 0 ∷ []))
    ≡ (67, 1 ∷ [], 0, 1)
unfolding class_of opening_words number_after blocks next_number half split apply change_leaves with_leaves
    opening_leaves directory_puts play_of prefix_of reply_in items_after overflows after_op change first_bits hash_of
    spread crowded
next_call_is_not_begun = refl

-- rows for one update: two further ones are refused, and the lookup begins in the same slot, the 68th
refused_in_one_slot :
    play_told (play_of one_insert_setup
    (((1, Insert (key 1) 1) ∷ (2, Insert (key 2) 2) ∷ (3, Remove (key 2)) ∷ (4, Lookup (key 1)) ∷ []) ∷ [])
    (Some 68 ∷ [])
    (segment 0 68 ∷ [])) ≡ (70, 1 ∷ [], 1, 0)
unfolding class_of opening_words number_after blocks next_number half split apply change_leaves with_leaves
    opening_leaves directory_puts play_of prefix_of reply_in items_after overflows after_op change first_bits hash_of
    spread crowded
refused_in_one_slot = refl

-- after the schedule the seats go in turn, seat 0 first
seats_go_in_turn :
    map event_told (play_of other_seat_answers_setup
    (((1, Lookup (key 1)) ∷ []) ∷ ((11, Lookup (key 1)) ∷ []) ∷ []) (None ∷ Some 3 ∷ []) (segment 1 1 ∷ segment 2 5
    ∷ [])).events
    ≡ (1, true) ∷ (0, true) ∷ (1, false) ∷ (0, false) ∷ (1, false) ∷ (0, false) ∷ (0, false) ∷ (0, false) ∷ (0, false)
    ∷ (0, false)
    ∷ (0, false) ∷ []
unfolding class_of opening_words number_after blocks next_number half split apply change_leaves with_leaves
    opening_leaves directory_puts play_of prefix_of reply_in items_after overflows after_op change first_bits hash_of
    spread crowded
seats_go_in_turn = refl

-- three keys of one class, where a bucket has room for two: the prefixes of 0 bits and of 1 bit are crowded
three_keys_split_twice :
    splits_for (rules_of third_insert_splits_setup) 0 [] (key 1 ∷ key 2 ∷ key 1 ∷ key 3 ∷ []) ≡ 2
unfolding class_of opening_words number_after blocks next_number half split apply change_leaves with_leaves
    opening_leaves directory_puts play_of prefix_of reply_in items_after overflows after_op change first_bits hash_of
    spread crowded
three_keys_split_twice = refl

-- where all of them are there from the beginning, the opening has split the buckets
opening_has_split :
    splits_for (rules_of third_insert_splits_setup) 0 (key 1 ∷ key 2 ∷ key 3 ∷ []) (key 3 ∷ key 1 ∷ []) ≡ 0
unfolding class_of opening_words number_after blocks next_number half split apply change_leaves with_leaves
    opening_leaves directory_puts play_of prefix_of reply_in items_after overflows after_op change first_bits hash_of
    spread crowded
opening_has_split = refl

-- and a key on the other side splits the first bucket alone
other_side_splits_once :
    splits_for (rules_of third_insert_splits_setup) 0 (key 1 ∷ []) (key 2 ∷ key 32768 ∷ []) ≡ 1
unfolding class_of opening_words number_after blocks next_number half split apply change_leaves with_leaves
    opening_leaves directory_puts play_of prefix_of reply_in items_after overflows after_op change first_bits hash_of
    spread crowded
other_side_splits_once = refl

-- what three updates of one seat need then: of bucket rows one each, the two of either split, and those of one update
-- more
rows_of_three_updates :
    batch_rows_of third_insert_splits_settings 3 1
    ≡ record { op_rows = 3; bucket_rows = 9; bucket_words = 5; directory_rows = 2 }
rows_of_three_updates = refl
