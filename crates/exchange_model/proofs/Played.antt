-- Small tables played by hand: what each caller is told, in how many steps, and which updates were made in which order.
-- Each number was worked by hand before it was computed. An update that nobody meets takes the bucket word, the row,
-- the bucket word, and what is pending; then it stores the new row, and exchanges.
use Rattle.std.proofs.Common.{◌≡◌, ◌*◌, ◌^◌, refl, List, [], ◌∷◌, ◌++◌, map, true}
use Rattle.hash_bits.specs.Hashing.{hash_of}
use Rattle.hash_bits.specs.Spread.{spread}
use Rattle.hash_bits.specs.Prefix.{first_bits}
use Rattle.hash_bits.specs.declared.hashing.Hashing.TheVariants.{Ports}
use Rattle.plain_map.specs.PlainObject.{class_of}
use Rattle.plain_map.specs.declared.calls.Call.TheVariants.{Insert, Remove, Lookup, Tally, Put}
use Rattle.plain_map.specs.declared.calls.Reply.TheVariants.{New, Old, Gone, Found, Absent, Sum}
use Rattle.word_rows.specs.Blocks.{blocks}
use Rattle.word_rows.specs.Memory.{put, put_at}
use Rattle.bucket_states.specs.Items.{reply_in, items_after}
use Rattle.exchange_model.specs.Plans.{Plan}
use Rattle.exchange_model.specs.Steps.{OfKey}
use Rattle.exchange_model.specs.Goes.{Replied, Pairs, Again, Spent}
use Rattle.exchange_model.specs.Worlds.{BySeat, ByReader, opening_store}
use Rattle.exchange_model.specs.Laws.{made_by, updates_by}
use Rattle.exchange_model.proofs.Plays.{Move, Call_, Copy_, Go, Peek_, Read, key, played, told, all_fine}

-- one seat, two items a bucket, two buckets
abbrev one_seat : Plan
one_seat = record {
  settings = record { seats = 1; readers = 0; items = 2; depth = 1 };
  hashing = Ports 0;
  spare = 1;
  row_bits = 2;
}

-- insert, lookup, tally, remove: each in the steps that its row has words for
one_seat_calls :
    map told (played one_seat
    (Call_ 0 (Insert (key 1) 7) ∷ Go 0 40 ∷ Call_ 0 (Lookup (key 1)) ∷ Go 0 20 ∷ Call_ 0 (Tally (key 1) 5) ∷ Go 0 40
    ∷ Call_ 0 (Remove (key 1)) ∷ Go 0 40 ∷ Call_ 0 (Lookup (key 1)) ∷ Go 0 20 ∷ [])).answers
    ≡ (BySeat 0, Replied New, 13) ∷ (BySeat 0, Replied (Found 7), 10) ∷ (BySeat 0, Replied (Sum 5), 20)
    ∷ (BySeat 0, Replied (Gone 7), 13) ∷ (BySeat 0, Replied Absent, 3) ∷ []
unfolding class_of opening_store blocks reply_in items_after first_bits hash_of spread put put_at
one_seat_calls = refl

-- what changes nothing is answered at the second load of the bucket word, and no row is stored
abbrev quiet_moves : List Move
quiet_moves =
    Call_ 0 (Remove (key 1)) ∷ Go 0 40 ∷ Call_ 0 (Insert (key 1) 7) ∷ Go 0 40 ∷ Call_ 0 (Insert (key 1) 8) ∷ Go 0 40
    ∷ Call_ 0 (Tally (key 2) 5) ∷ Go 0 40 ∷ Call_ 0 (Put (key 1) 7) ∷ Go 0 40 ∷ Call_ 0 (Put (key 1) 9) ∷ Go 0 40 ∷ []

quiet_answers :
    map told (played one_seat quiet_moves).answers
    ≡ (BySeat 0, Replied Absent, 3) ∷ (BySeat 0, Replied New, 13) ∷ (BySeat 0, Replied (Old 7), 10)
    ∷ (BySeat 0, Replied Absent, 10) ∷ (BySeat 0, Replied (Old 7), 10) ∷ (BySeat 0, Replied (Old 7), 20) ∷ []
unfolding class_of opening_store blocks reply_in items_after first_bits hash_of spread put put_at
quiet_answers = refl

-- they are updates that were made, in that order
quiet_order : (played one_seat quiet_moves).made
    ≡ (0, (Remove (key 1), Absent)) ∷ (0, (Insert (key 1) 7, New)) ∷ (0, (Insert (key 1) 8, Old 7))
    ∷ (0, (Tally (key 2) 5, Absent)) ∷ (0, (Put (key 1) 7, Old 7)) ∷ (0, (Put (key 1) 9, Old 7)) ∷ []
unfolding class_of opening_store blocks reply_in items_after first_bits hash_of spread put put_at
quiet_order = refl

-- a bucket word that has room for three generations only. The third one is the last: what would change its row is told
-- so; a lookup, and an insert of a key that is there, are answered
abbrev three_generations : Plan
three_generations = record one_seat { row_bits = 62 }

spent_answers :
    map told (played three_generations
    (Call_ 0 (Insert (key 1) 7) ∷ Go 0 40 ∷ Call_ 0 (Tally (key 1) 5) ∷ Go 0 40 ∷ Call_ 0 (Remove (key 1)) ∷ Go 0 40
    ∷ Call_ 0 (Insert (key 1) 8) ∷ Go 0 40 ∷ Call_ 0 (Lookup (key 1)) ∷ Go 0 20 ∷ [])).answers
    ≡ (BySeat 0, Replied New, 13) ∷ (BySeat 0, Replied (Sum 5), 20) ∷ (BySeat 0, Spent, 10)
    ∷ (BySeat 0, Replied (Old 7), 10) ∷ (BySeat 0, Replied (Found 7), 10) ∷ []
unfolding class_of opening_store blocks reply_in items_after first_bits hash_of spread put put_at
spent_answers = refl

-- two seats
abbrev two_seats : Plan
two_seats = record {
  settings = record { seats = 2; readers = 0; items = 2; depth = 1 };
  hashing = Ports 0;
  spare = 2;
  row_bits = 3;
}

-- seat 0 has lost the try that it did not announce, and has announced its insert: 4 steps, then 9 for the row and the
-- lost exchange, and 9 for the announcement
abbrev announced_moves : List Move
announced_moves = Call_ 0 (Insert (key 1) 7) ∷ Go 0 4 ∷ Call_ 1 (Insert (key 2) 8) ∷ Go 1 60 ∷ Go 0 18 ∷ []

-- where nobody helps it, seat 0 applies its announced insert itself, and puts an entry for it: after those 22 steps 1
-- for the bucket word, 8 for the row, 1 for the bucket word, 1 for what is pending, 17 for the new row, 1 for the
-- exchange, and 2 for the end
applied_alone : map told (played two_seats (announced_moves ++ Go 0 90 ∷ [])).answers
    ≡ (BySeat 1, Replied New, 13) ∷ (BySeat 0, Replied New, 53) ∷ []
unfolding class_of opening_store blocks reply_in items_after first_bits hash_of spread put put_at
applied_alone = refl

-- seat 1 finds it pending, and applies it with its own
abbrev helped_moves : List Move
helped_moves = announced_moves ++ Call_ 1 (Tally (key 2) 1) ∷ Go 1 60 ∷ Go 0 90 ∷ []

helped : map told (played two_seats helped_moves).answers
    ≡ (BySeat 1, Replied New, 13) ∷ (BySeat 1, Replied (Sum 1), 37) ∷ (BySeat 0, Replied New, 43) ∷ []
unfolding class_of opening_store blocks reply_in items_after first_bits hash_of spread put put_at
helped = refl

-- in this order
helped_order : (played two_seats helped_moves).made
    ≡ (1, (Insert (key 2) 8, New)) ∷ (0, (Insert (key 1) 7, New)) ∷ (1, (Tally (key 2) 1, Sum 1)) ∷ []
unfolding class_of opening_store blocks reply_in items_after first_bits hash_of spread put put_at
helped_order = refl

helped_fine : all_fine two_seats helped_moves ≡ true
unfolding class_of opening_store blocks reply_in items_after first_bits hash_of spread put put_at
helped_fine = refl

-- before it is answered its update was made, and is the one under way
abbrev under_way_moves : List Move
under_way_moves = announced_moves ++ Call_ 1 (Tally (key 2) 1) ∷ Go 1 60 ∷ Go 0 20 ∷ []

made_under_way : made_by 0 (played two_seats under_way_moves).made ≡ (Insert (key 1) 7, New) ∷ []
unfolding class_of opening_store blocks reply_in items_after first_bits hash_of spread put put_at
made_under_way = refl

told_under_way : updates_by 0 (played two_seats under_way_moves).answers ≡ []
unfolding class_of opening_store blocks reply_in items_after first_bits hash_of spread put put_at
told_under_way = refl

-- its announcement is over then, and its share in what is pending still stands
under_way_fine : all_fine two_seats under_way_moves ≡ true
unfolding class_of opening_store blocks reply_in items_after first_bits hash_of spread put put_at
under_way_fine = refl

-- seat 0 loses its announced tries too, and finds its reply in a row that it holds. Seat 1 makes a scan, and keeps the
-- entry
abbrev held_moves : List Move
held_moves =
    announced_moves ++ Go 0 1 ∷ Call_ 1 (Tally (key 2) 1) ∷ Go 1 60 ∷ Go 0 10 ∷ Call_ 1 (Tally (key 2) 2) ∷ Go 1 90
    ∷ Go 0 90 ∷ []

held : map told (played two_seats held_moves).answers
    ≡ (BySeat 1, Replied New, 13) ∷ (BySeat 1, Replied (Sum 1), 37) ∷ (BySeat 1, Replied (Sum 3), 40)
    ∷ (BySeat 0, Replied New, 61) ∷ []
unfolding class_of opening_store blocks reply_in items_after first_bits hash_of spread put put_at
held = refl

held_order : (played two_seats held_moves).made
    ≡ (1, (Insert (key 2) 8, New)) ∷ (0, (Insert (key 1) 7, New)) ∷ (1, (Tally (key 2) 1, Sum 1))
    ∷ (1, (Tally (key 2) 2, Sum 3)) ∷ []
unfolding class_of opening_store blocks reply_in items_after first_bits hash_of spread put put_at
held_order = refl

held_fine : all_fine two_seats held_moves ≡ true
unfolding class_of opening_store blocks reply_in items_after first_bits hash_of spread put put_at
held_fine = refl

-- its announcement is over, nothing is pending, and its hold is given back
held_over : (played two_seats held_moves).store.announced 0 ≡ 2 * 2 ^ 20
unfolding class_of opening_store blocks reply_in items_after first_bits hash_of spread put put_at
held_over = refl

held_counted : (played two_seats held_moves).store.pending ≡ 0
unfolding class_of opening_store blocks reply_in items_after first_bits hash_of spread put put_at
held_counted = refl

held_given_back : (played two_seats held_moves).store.hold 0 ≡ 0
unfolding class_of opening_store blocks reply_in items_after first_bits hash_of spread put put_at
held_given_back = refl

-- the same, but seat 0 sleeps when it has asked; the scan of seat 1 gives it a row, in four steps
abbrev given_moves : List Move
given_moves =
    announced_moves ++ Go 0 1 ∷ Call_ 1 (Tally (key 2) 1) ∷ Go 1 60 ∷ Go 0 10 ∷ Call_ 1 (Tally (key 2) 2) ∷ Go 1 90
    ∷ Go 0 20 ∷ Call_ 1 (Tally (key 2) 3) ∷ Go 1 90 ∷ Call_ 1 (Tally (key 2) 4) ∷ Go 1 90 ∷ Go 0 90 ∷ []

given : map told (played two_seats given_moves).answers
    ≡ (BySeat 1, Replied New, 13) ∷ (BySeat 1, Replied (Sum 1), 37) ∷ (BySeat 1, Replied (Sum 3), 40)
    ∷ (BySeat 1, Replied (Sum 6), 39) ∷ (BySeat 1, Replied (Sum 10), 43) ∷ (BySeat 0, Replied New, 61) ∷ []
unfolding class_of opening_store blocks reply_in items_after first_bits hash_of spread put put_at
given = refl

given_fine : all_fine two_seats given_moves ≡ true
unfolding class_of opening_store blocks reply_in items_after first_bits hash_of spread put put_at
given_fine = refl

-- seat 0 has announced an insert when its bucket comes to the last generation, by an update that had found nothing
-- pending. So it is not applied, and its announcement is over
abbrev given_up_moves : List Move
given_up_moves =
    Call_ 0 (Insert (key 1) 7) ∷ Go 0 4 ∷ Call_ 1 (Insert (key 2) 8) ∷ Go 1 60 ∷ Call_ 1 (Tally (key 2) 1) ∷ Go 1 11
    ∷ Go 0 18 ∷ Go 1 60 ∷ Go 0 90 ∷ []

abbrev two_seats_of_three : Plan
two_seats_of_three = record two_seats { row_bits = 62 }

given_up : map told (played two_seats_of_three given_up_moves).answers
    ≡ (BySeat 1, Replied New, 13) ∷ (BySeat 1, Replied (Sum 1), 20) ∷ (BySeat 0, Spent, 34) ∷ []
unfolding class_of opening_store blocks reply_in items_after first_bits hash_of spread put put_at
given_up = refl

given_up_order : (played two_seats_of_three given_up_moves).made
    ≡ (1, (Insert (key 2) 8, New)) ∷ (1, (Tally (key 2) 1, Sum 1)) ∷ []
unfolding class_of opening_store blocks reply_in items_after first_bits hash_of spread put put_at
given_up_order = refl

given_up_over : (played two_seats_of_three given_up_moves).store.announced 0 ≡ 2 * 2 ^ 20
unfolding class_of opening_store blocks reply_in items_after first_bits hash_of spread put put_at
given_up_over = refl

given_up_fine : all_fine two_seats_of_three given_up_moves ≡ true
unfolding class_of opening_store blocks reply_in items_after first_bits hash_of spread put put_at
given_up_fine = refl

-- a seat, and a reader that can hold, which comes behind it. The reader loses both tries, and looks under a hold;
-- another reader, which cannot, is told that it may try again
abbrev with_reader : Plan
with_reader = record {
  settings = record { seats = 1; readers = 1; items = 2; depth = 1 };
  hashing = Ports 0;
  spare = 4;
  row_bits = 3;
}

abbrev reader_moves : List Move
reader_moves =
    Call_ 1 (Lookup (key 1)) ∷ Go 1 1 ∷ Peek_ 0 (OfKey (key 1)) 1 ∷ Read 0 1 ∷ Call_ 0 (Insert (key 1) 7) ∷ Go 0 40
    ∷ Read 0 9 ∷ Go 1 3 ∷ Call_ 0 (Tally (key 1) 5) ∷ Go 0 40 ∷ Go 1 90 ∷ Copy_ 1 0 ∷ Go 1 90 ∷ []

reader_answers :
    map told (played with_reader reader_moves).answers
    ≡ (BySeat 0, Replied New, 13) ∷ (ByReader 0, Again, 3) ∷ (BySeat 0, Replied (Sum 5), 20)
    ∷ (BySeat 1, Replied (Found 7), 26)
    ∷ (BySeat 1, Pairs (record { key = key 1; value = 7; bytes = 5 } ∷ []), 10) ∷ []
unfolding class_of opening_store blocks reply_in items_after first_bits hash_of spread put put_at
reader_answers = refl

reader_fine : all_fine with_reader reader_moves ≡ true
unfolding class_of opening_store blocks reply_in items_after first_bits hash_of spread put put_at
reader_fine = refl

-- three seats. What seats 0 and 1 have announced is applied by seat 2 in the order of the seats, before its own update
abbrev three_seats : Plan
three_seats = record {
  settings = record { seats = 3; readers = 0; items = 2; depth = 1 };
  hashing = Ports 0;
  spare = 3;
  row_bits = 4;
}

abbrev three_moves : List Move
three_moves =
    Call_ 0 (Insert (key 1) 7) ∷ Go 0 4 ∷ Call_ 1 (Insert (key 1) 8) ∷ Go 1 4 ∷ Call_ 2 (Insert (key 2) 9) ∷ Go 2 60
    ∷ Go 1 18 ∷ Go 0 18 ∷ Call_ 2 (Tally (key 2) 1) ∷ Go 2 90 ∷ Go 1 90 ∷ Go 0 90 ∷ []

three_answers :
    map told (played three_seats three_moves).answers
    ≡ (BySeat 2, Replied New, 13) ∷ (BySeat 2, Replied (Sum 1), 47) ∷ (BySeat 1, Replied (Old 7), 45)
    ∷ (BySeat 0, Replied New, 45) ∷ []
unfolding class_of opening_store blocks reply_in items_after first_bits hash_of spread put put_at
three_answers = refl

three_order : (played three_seats three_moves).made
    ≡ (2, (Insert (key 2) 9, New)) ∷ (0, (Insert (key 1) 7, New)) ∷ (1, (Insert (key 1) 8, Old 7))
    ∷ (2, (Tally (key 2) 1, Sum 1)) ∷ []
unfolding class_of opening_store blocks reply_in items_after first_bits hash_of spread put put_at
three_order = refl

three_fine : all_fine three_seats three_moves ≡ true
unfolding class_of opening_store blocks reply_in items_after first_bits hash_of spread put put_at
three_fine = refl
