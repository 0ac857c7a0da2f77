-- Small lasting tables played by hand: what each caller is told, and in how many steps. Each number was worked by hand
-- before it was computed. With one other seat an update has 16 steps and one for each own row that it looks at, 5
-- words of the row that it finds and 6 of the row that it stores, 7 more for each item there, and 7 for an op of the
-- other seat.
use Rattle.std.proofs.Common.{◌≡◌, ℕ, suc, zero, Some, refl, List, [], ◌∷◌, ◌++◌, map, arith}
use Rattle.step_counts.specs.declared.settings.Settings.{Settings}
use Rattle.hash_bits.specs.Hashing.{hash_of}
use Rattle.hash_bits.specs.Spread.{spread}
use Rattle.hash_bits.specs.Prefix.{first_bits}
use Rattle.hash_bits.specs.declared.hashing.Hashing.TheVariants.{Ports}
use Rattle.plain_map.specs.PlainObject.{class_of}
use Rattle.plain_map.specs.declared.calls.Call.TheVariants.{Insert, Remove, Lookup, Tally, Count, Put}
use Rattle.plain_map.specs.declared.calls.Reply.TheVariants.{New, Old, NoRoom, Gone, Found, Absent, Sum}
use Rattle.word_rows.specs.Shape.{number_after}
use Rattle.word_rows.specs.Blocks.{blocks}
use Rattle.word_rows.specs.Memory.{put, put_at}
use Rattle.bucket_states.specs.Items.{prefix_of, reply_in, items_after, overflows}
use Rattle.bucket_states.specs.Change.{after_op, change}
use Rattle.bucket_states.specs.Halves.{half}
use Rattle.table_model.specs.Leaves.{split, apply}
use Rattle.table_model.specs.Opening.{opening_leaves}
use Rattle.lasting_model.specs.Plans.{Plan, ample}
use Rattle.lasting_model.specs.Steps.{OfKey, OfBucket}
use Rattle.lasting_model.specs.Goes.{Replied, Pairs, Again, Refused}
use Rattle.lasting_model.specs.Worlds.{BySeat, opening_store, seat_in}
use Rattle.lasting_model.proofs.Plays.{Move, Call_, Copy_, Go, Peek_, Read, key, pair, played, told, told_last, told_readers, ops_found, rows_in, rows_told, play_faults}

-- one seat, two items a bucket, two buckets
abbrev one_seat : Settings
one_seat = record {
  seats = 1;
  items = 2;
  depth = 1;
  start = 1;
  seats_in_range = (omega arith, omega arith);
  items_in_range = (omega arith, omega arith);
  depth_in_range = (omega arith, omega arith);
  start_in_range = (omega arith, omega arith);
}

abbrev one_seat_plan : Plan
one_seat_plan = record { settings = one_seat; hashing = Ports 0; first = []; rows = 6 }

-- so many tallies of a seat
abbrev tallies_of : (seat many : ℕ) → List Move
tallies_of seat zero = []
tallies_of seat (suc many) = Call_ seat (Tally (key 1) 1) ∷ Go seat 60 ∷ tallies_of seat many

-- insert, lookup, tally, remove: each in the steps that its row has words for
one_seat_calls :
    map told (played one_seat_plan
    (Call_ 0 (Insert (key 1) 7) ∷ Go 0 40 ∷ Call_ 0 (Lookup (key 1)) ∷ Go 0 20 ∷ Call_ 0 (Tally (key 1) 5) ∷ Go 0 40
    ∷ Call_ 0 (Remove (key 1)) ∷ Go 0 40 ∷ Call_ 0 (Lookup (key 1)) ∷ Go 0 20 ∷ [])).answers
    ≡ (BySeat 0, Replied New, 27) ∷ (BySeat 0, Replied (Found 7), 10) ∷ (BySeat 0, Replied (Sum 5), 35)
    ∷ (BySeat 0, Replied (Gone 7), 28) ∷ (BySeat 0, Replied Absent, 3) ∷ []
unfolding class_of opening_store ample number_after blocks half split apply opening_leaves prefix_of reply_in
    items_after overflows after_op change first_bits hash_of spread put put_at
one_seat_calls = refl

-- a count brings its value and its bytes, and another one adds bytes; a put changes the value alone, or brings it. Each
-- has the steps of an insert or of a tally, by the items of its row
counts_and_puts :
    map told (played one_seat_plan
    (Call_ 0 (Count (key 1) 7 5) ∷ Go 0 40 ∷ Call_ 0 (Count (key 1) 9 4) ∷ Go 0 40 ∷ Call_ 0 (Put (key 1) 8) ∷ Go 0 40
    ∷ Call_ 0 (Put (key 2) 6) ∷ Go 0 60 ∷ Call_ 0 (Lookup (key 1)) ∷ Go 0 20 ∷ Copy_ 0 0 ∷ Go 0 20 ∷ [])).answers
    ≡ (BySeat 0, Replied New, 27) ∷ (BySeat 0, Replied (Sum 9), 35) ∷ (BySeat 0, Replied (Old 7), 35)
    ∷ (BySeat 0, Replied New, 42) ∷ (BySeat 0, Replied (Found 8), 10)
    ∷ (BySeat 0, Pairs (pair 1 8 9 ∷ pair 2 6 0 ∷ []), 17) ∷ []
unfolding class_of opening_store ample number_after blocks half split apply opening_leaves prefix_of reply_in
    items_after overflows after_op change first_bits hash_of spread put put_at
counts_and_puts = refl

-- a bucket is full, and copied
third_of_a_class :
    map told (played one_seat_plan
    (Call_ 0 (Insert (key 1) 7) ∷ Go 0 40 ∷ Call_ 0 (Insert (key 2) 8) ∷ Go 0 60 ∷ Call_ 0 (Insert (key 3) 9) ∷ Go 0 60
    ∷ Copy_ 0 0 ∷ Go 0 20 ∷ Copy_ 0 1 ∷ Go 0 20 ∷ [])).answers
    ≡ (BySeat 0, Replied New, 27) ∷ (BySeat 0, Replied New, 42) ∷ (BySeat 0, Replied NoRoom, 49)
    ∷ (BySeat 0, Pairs (pair 1 7 0 ∷ pair 2 8 0 ∷ []), 17) ∷ (BySeat 0, Pairs [], 3) ∷ []
unfolding class_of opening_store ample number_after blocks half split apply opening_leaves prefix_of reply_in
    items_after overflows after_op change first_bits hash_of spread put put_at
third_of_a_class = refl

-- a lookup goes past an item by one word of its key, and ends with the item that has its key
items_gone_past :
    map told (played (record one_seat_plan { first = pair 1 7 0 ∷ pair 2 8 5 ∷ [] })
    (Call_ 0 (Lookup (key 1)) ∷ Go 0 20 ∷ Call_ 0 (Lookup (key 2)) ∷ Go 0 20 ∷ Call_ 0
    (Lookup (key 3)) ∷ Go 0 20 ∷ [])).answers
    ≡ (BySeat 0, Replied (Found 7), 10) ∷ (BySeat 0, Replied (Found 8), 11) ∷ (BySeat 0, Replied Absent, 5) ∷ []
unfolding class_of opening_store ample number_after blocks half split apply opening_leaves prefix_of reply_in
    items_after overflows after_op change first_bits hash_of spread put put_at
items_gone_past = refl

-- two seats
abbrev two_seats : Settings
two_seats = record {
  seats = 2;
  items = 2;
  depth = 1;
  start = 1;
  seats_in_range = (omega arith, omega arith);
  items_in_range = (omega arith, omega arith);
  depth_in_range = (omega arith, omega arith);
  start_in_range = (omega arith, omega arith);
}

abbrev two_seats_plan : Plan
two_seats_plan = record { settings = two_seats; hashing = Ports 0; first = []; rows = 8 }

abbrev lost_moves : List Move
lost_moves = Call_ 0 (Insert (key 1) 7) ∷ Go 0 20 ∷ Call_ 1 (Insert (key 2) 8) ∷ Go 1 60 ∷ Go 0 60 ∷ []

-- seat 0 has looked at the announcements when seat 1 applies both ops: its exchange is lost, and its second look shows
-- the reply
lost_try_was_helped :
    map told (played two_seats_plan lost_moves).answers
    ≡ (BySeat 1, Replied New, 46) ∷ (BySeat 0, Replied New, 53) ∷ []
unfolding class_of opening_store ample number_after blocks half split apply opening_leaves prefix_of reply_in
    items_after overflows after_op change first_bits hash_of spread put put_at
lost_try_was_helped = refl

-- what seat 0 announces is of the other bucket: seat 1 loads that one word of it
other_class :
    map told (played two_seats_plan
    (Call_ 0 (Insert (key 32768) 7) ∷ Go 0 11 ∷ Call_ 1 (Insert (key 2) 8) ∷ Go 1 60 ∷ Go 0 60 ∷ [])).answers
    ≡ (BySeat 1, Replied New, 32) ∷ (BySeat 0, Replied New, 32) ∷ []
unfolding class_of opening_store ample number_after blocks half split apply opening_leaves prefix_of reply_in
    items_after overflows after_op change first_bits hash_of spread put put_at
other_class = refl

abbrev torn_front : List Move
torn_front =
    Call_ 0 (Insert (key 1) 7) ∷ Go 0 11 ∷ Call_ 1 (Insert (key 2) 8) ∷ Go 1 21 ∷ Go 0 60 ∷ Call_ 0 (Tally (key 1) 5)
    ∷ Go 0 60 ∷ Call_ 0 (Remove (key 3)) ∷ Go 0 11 ∷ []

abbrev torn_moves : List Move
torn_moves = torn_front ++ Go 1 60 ∷ Go 0 60 ∷ []

-- seat 1 has three words of the first op of seat 0 when that ends; the others that it loads are of the third one. What
-- it takes up is no op that was ever made: the number and the kind of the first one, with the key of the third
torn_words :
    ops_found (seat_in (played two_seats_plan (torn_front ++ Go 1 4 ∷ [])) 1).stand
    ≡ Some (record { seat = 0; number = 1; call = Insert (key 3) 0 })
    ∷ Some (record { seat = 1; number = 1; call = Insert (key 2) 8 }) ∷ []
unfolding class_of opening_store ample number_after blocks half split apply opening_leaves prefix_of reply_in
    items_after overflows after_op change first_bits hash_of spread put put_at
torn_words = refl

-- the first op has ended by then, so the bucket word is another, and the exchange of seat 1 is lost: key 3 is absent
torn_op :
    map told (played two_seats_plan torn_moves).answers
    ≡ (BySeat 0, Replied New, 46) ∷ (BySeat 0, Replied (Sum 5), 54) ∷ (BySeat 1, Replied New, 67)
    ∷ (BySeat 0, Replied Absent, 54) ∷ []
unfolding class_of opening_store ample number_after blocks half split apply opening_leaves prefix_of reply_in
    items_after overflows after_op change first_bits hash_of spread put put_at
torn_op = refl

-- seat 0 loses its first try to seat 1, which had looked at the announcements before; seat 1 applies its op, so it
-- loses the second one, and asks
abbrev given_moves : List Move
given_moves =
    Call_ 1 (Insert (key 32768) 8) ∷ Go 1 31 ∷ Call_ 0 (Insert (key 32769) 7) ∷ Go 0 11 ∷ Go 1 1 ∷ Go 0 36
    ∷ Call_ 1 (Tally (key 32768) 3) ∷ Go 1 60 ∷ Go 0 44 ∷ Call_ 1 (Tally (key 32768) 4) ∷ Go 1 60
    ∷ Call_ 1 (Tally (key 32768) 5) ∷ Go 1 60 ∷ []

-- the sweep of seat 1 gives it the row that has its op
given_a_row :
    map told (played two_seats_plan (given_moves ++ Go 0 20 ∷ [])).answers
    ≡ (BySeat 1, Replied New, 32) ∷ (BySeat 1, Replied (Sum 3), 54) ∷ (BySeat 1, Replied (Sum 7), 57)
    ∷ (BySeat 1, Replied (Sum 12), 54) ∷ (BySeat 0, Replied New, 95) ∷ []
unfolding class_of opening_store ample number_after blocks half split apply opening_leaves prefix_of reply_in
    items_after overflows after_op change first_bits hash_of spread put put_at
given_a_row = refl

-- that row, 10, is in no bucket word any more, and is not freed
given_row_is_kept :
    rows_told two_seats_plan (played two_seats_plan given_moves)
    ≡ (1 ∷ 2 ∷ 3 ∷ 4 ∷ 5 ∷ 6 ∷ 7 ∷ [], (0, 0) ∷ [])
    ∷ (13 ∷ 14 ∷ 15 ∷ 8 ∷ 9 ∷ [], (11, 1) ∷ (10, 1) ∷ (12, 1) ∷ []) ∷ []
unfolding class_of opening_store ample number_after blocks half split apply opening_leaves prefix_of reply_in
    items_after overflows after_op change first_bits hash_of spread put put_at
given_row_is_kept = refl

-- the same table, with a pair at its opening
abbrev with_pair_plan : Plan
with_pair_plan = record { settings = two_seats; hashing = Ports 0; first = pair 1 7 0 ∷ []; rows = 8 }

-- seat 1 has loaded the key of the item in row 0 when seat 0 removes it, and goes on until that row is written anew,
-- with another item, and stands in the same bucket word again
abbrev used_again_moves : List Move
used_again_moves =
    Call_ 1 (Lookup (key 1)) ∷ Go 1 7 ∷ Call_ 0 (Remove (key 1)) ∷ Go 0 50 ∷ Call_ 0 (Insert (key 2) 9) ∷ Go 0 50
    ∷ Call_ 0 (Tally (key 2) 1) ∷ Go 0 50 ∷ Call_ 0 (Tally (key 2) 1) ∷ Go 0 50 ∷ Call_ 0 (Tally (key 2) 1) ∷ Go 0 50
    ∷ Call_ 0 (Tally (key 2) 1) ∷ Go 0 50 ∷ Call_ 0 (Tally (key 2) 1) ∷ Go 0 50 ∷ Call_ 0 (Tally (key 2) 1) ∷ Go 0 50
    ∷ []

-- the row of bucket 0 is row 0 as at the opening
row_was_used_again :
    rows_in with_pair_plan (played with_pair_plan used_again_moves)
    ≡ 0 ∷ 8 ∷ []
unfolding class_of opening_store ample number_after blocks half split apply opening_leaves prefix_of reply_in
    items_after overflows after_op change first_bits hash_of spread put put_at
row_was_used_again = refl

-- the key that seat 1 had loaded and the value of the new item were never one pair. It is not told: the row has another
-- generation, so there is a second try
mixture_is_not_told :
    told_last 1 (played with_pair_plan (used_again_moves ++ Go 1 20 ∷ [])).answers
    ≡ (Replied Absent, 14) ∷ []
unfolding class_of opening_store ample number_after blocks half split apply opening_leaves prefix_of reply_in
    items_after overflows after_op change first_bits hash_of spread put put_at
mixture_is_not_told = refl

-- with five rows a seat each row of seat 1 is used again with its fourth update
abbrev five_rows : Plan
five_rows = record with_pair_plan { rows = 5 }

-- seat 0 copies a bucket, and is disturbed twice
abbrev disturbed_moves : List Move
disturbed_moves =
    tallies_of 1 1 ++ Copy_ 0 0 ∷ Go 0 3 ∷ tallies_of 1 4 ++ Go 0 9 ∷ tallies_of 1 4 ++ Go 0 9 ∷ []

-- it takes hold of row 6
abbrev held_moves : List Move
held_moves = disturbed_moves ++ Go 0 5 ∷ tallies_of 1 4

-- two sweeps of seat 1 pass meanwhile: row 6 is no more in its bucket word, and stays
sweep_keeps_held :
    rows_told five_rows (played five_rows held_moves)
    ≡ (1 ∷ 2 ∷ 3 ∷ 4 ∷ [], (0, 0) ∷ [])
    ∷ (7 ∷ [], (5, 1) ∷ (9, 0) ∷ (6, 0) ∷ (8, 0) ∷ []) ∷ []
unfolding class_of opening_store ample number_after blocks half split apply opening_leaves prefix_of reply_in
    items_after overflows after_op change first_bits hash_of spread put put_at
sweep_keeps_held = refl

-- so the copy has the pairs of that moment
held_copy :
    told_last 0 (played five_rows (held_moves ++ Go 0 20 ∷ [])).answers
    ≡ (Pairs (pair 1 7 9 ∷ []), 32) ∷ []
unfolding class_of opening_store ample number_after blocks half split apply opening_leaves prefix_of reply_in
    items_after overflows after_op change first_bits hash_of spread put put_at
held_copy = refl

-- seat 0 asks when the sweep of seat 1 has passed it, and loads row 6. That is replaced; the next sweep gives row 7,
-- and frees row 6, which is written anew before the exchange of seat 0 is lost: it takes what was given
given_another :
    told_last 0 (played five_rows
    (disturbed_moves ++ Call_ 1 (Tally (key 1) 1) ∷ Go 1 4 ∷ Go 0 2 ∷ Go 1 60 ∷ tallies_of 1 3 ++ Go 0 20 ∷ [])).answers
    ≡ (Pairs (pair 1 7 10 ∷ []), 32) ∷ []
unfolding class_of opening_store ample number_after blocks half split apply opening_leaves prefix_of reply_in
    items_after overflows after_op change first_bits hash_of spread put put_at
given_another = refl

-- an update of seat 0 that has lost both tries asks when the sweep of seat 1 has passed it, and loads row 7
abbrev other_given_moves : List Move
other_given_moves =
    Call_ 1 (Tally (key 1) 1) ∷ Go 1 38 ∷ Call_ 0 (Insert (key 2) 8) ∷ Go 0 11 ∷ Go 1 1 ∷ Go 0 43 ∷ tallies_of 1 1
    ++ Go 0 43 ∷ Call_ 1 (Tally (key 1) 1) ∷ Go 1 4 ∷ Go 0 2 ∷ Go 1 60 ∷ tallies_of 1 2
    ++ Call_ 1 (Insert (key 32768) 9) ∷ Go 1 60 ∷ []

-- that row is written anew for the other bucket, where nobody has its op. The reply is that of the row that was given
given_another_reply :
    told_last 0 (played five_rows (other_given_moves ++ Go 0 20 ∷ [])).answers
    ≡ (Replied New, 102) ∷ []
unfolding class_of opening_store ample number_after blocks half split apply opening_leaves prefix_of reply_in
    items_after overflows after_op change first_bits hash_of spread put put_at
given_another_reply = refl

-- a reader that was disturbed in both of its tries, and then not
peeks :
    told_readers (played five_rows
    (tallies_of 1 1 ++ Peek_ 0 (OfKey (key 1)) 2 ∷ Read 0 4 ∷ tallies_of 1 4 ++ Read 0 9 ∷ tallies_of 1 4
    ++ Read 0 20 ∷ Peek_ 0 (OfBucket 0) 2 ∷ Read 0 20 ∷ Peek_ 0 (OfKey (key 2)) 2 ∷ Read 0 20 ∷ [])).answers
    ≡ (Again, 20) ∷ (Pairs (pair 1 7 9 ∷ []), 10) ∷ (Replied Absent, 4) ∷ []
unfolding class_of opening_store ample number_after blocks half split apply opening_leaves prefix_of reply_in
    items_after overflows after_op change first_bits hash_of spread put put_at
peeks = refl

-- a piece of three finds one row in each update, so it goes on so with four rows
sweeps_go_on :
    map told (played (record one_seat_plan { rows = 4 })
    (Call_ 0 (Insert (key 1) 7) ∷ Go 0 60 ∷ tallies_of 0 4)).answers
    ≡ (BySeat 0, Replied New, 27) ∷ (BySeat 0, Replied (Sum 1), 35) ∷ (BySeat 0, Replied (Sum 2), 35)
    ∷ (BySeat 0, Replied (Sum 3), 35) ∷ (BySeat 0, Replied (Sum 4), 35) ∷ []
unfolding class_of opening_store ample number_after blocks half split apply opening_leaves prefix_of reply_in
    items_after overflows after_op change first_bits hash_of spread put put_at
sweeps_go_on = refl

-- with a row for each bucket and none more there is none free
too_few_rows :
    map told (played (record one_seat_plan { rows = 2 }) (Call_ 0 (Insert (key 1) 7) ∷ Go 0 40 ∷ [])).answers
    ≡ (BySeat 0, Refused, 2) ∷ []
unfolding class_of opening_store ample number_after blocks half split apply opening_leaves prefix_of reply_in
    items_after overflows after_op change first_bits hash_of spread put put_at
too_few_rows = refl

-- after each move each own row stands once, none that is free is in use, and no two buckets have one
lost_keeps :
    play_faults two_seats_plan lost_moves
    ≡ 0
unfolding class_of opening_store ample number_after blocks half split apply opening_leaves prefix_of reply_in
    items_after overflows after_op change first_bits hash_of spread put put_at
lost_keeps = refl

-- the same
torn_keeps :
    play_faults two_seats_plan torn_moves
    ≡ 0
unfolding class_of opening_store ample number_after blocks half split apply opening_leaves prefix_of reply_in
    items_after overflows after_op change first_bits hash_of spread put put_at
torn_keeps = refl

-- the same
given_keeps :
    play_faults two_seats_plan (given_moves ++ Go 0 20 ∷ [])
    ≡ 0
unfolding class_of opening_store ample number_after blocks half split apply opening_leaves prefix_of reply_in
    items_after overflows after_op change first_bits hash_of spread put put_at
given_keeps = refl

-- the same
held_keeps :
    play_faults five_rows (held_moves ++ Go 0 20 ∷ [])
    ≡ 0
unfolding class_of opening_store ample number_after blocks half split apply opening_leaves prefix_of reply_in
    items_after overflows after_op change first_bits hash_of spread put put_at
held_keeps = refl

-- the same
used_keeps :
    play_faults with_pair_plan (used_again_moves ++ Go 1 20 ∷ [])
    ≡ 0
unfolding class_of opening_store ample number_after blocks half split apply opening_leaves prefix_of reply_in
    items_after overflows after_op change first_bits hash_of spread put put_at
used_keeps = refl
