-- The promises about every run as tests of one moment, of two moments that follow each other, and of a closed table.
use Rattle.std.proofs.Common.{ℕ, zero, suc, ◌+◌, ◌*◌, ◌^◌, List, [], ◌∷◌, map, length}
use Rattle.std.specs.Prelude.{◌-◌, ◌++◌, ◌==◌, nat_lt, nat_le, min, Bool, true, false, not, ◌&&◌, ◌||◌, if◌then◌else◌, Option, Some, None, slice_get, drop, filter, flat_map, sum_by, fold}
use Rattle.std.specs.Option.{option_map_or}
use Rattle.std.specs.List.{list_any, list_all, range_with_len, enumerate_from}
use Rattle.step_counts.specs.declared.rows.SeatRows.{SeatRows}
use Rattle.step_counts.specs.StepCounts.{step_bound, lookup_steps}
use Rattle.plain_map.specs.declared.calls.Call.{Call}
use Rattle.plain_map.specs.declared.full.FullKind.{FullKind}
use Rattle.plain_map.specs.declared.full.FullKind.TheVariants.{OpRows, BucketRows, BucketWords, DirRows}
use Rattle.plain_map.specs.declared.keys.Key.{Key}
use Rattle.plain_map.specs.declared.keys.Pair.{Pair}
use Rattle.plain_map.specs.declared.records.Record.{Record}
use Rattle.plain_map.specs.Calls.{key_in, is_update}
use Rattle.plain_map.specs.Room.{published}
use Rattle.plain_map.specs.History.{Placed, answered, pending, call_in, packet_of}
use Rattle.word_rows.specs.declared.addresses.Address.{Address}
use Rattle.word_rows.specs.declared.addresses.Address.TheVariants.{Root, Announcement, Done, BucketWord, OpWord, BucketRowWord, DirectoryWord}
use Rattle.word_rows.specs.Shape.{Shape, first_number, of_kind, sizes_of}
use Rattle.word_rows.specs.OpWords.{words_of_op, op_of_words}
use Rattle.word_rows.specs.BucketWords.{words_of_bucket}
use Rattle.word_rows.specs.DirectoryWords.{words_of_directory}
use Rattle.plain_map.specs.declared.rules.Rules.{Rules}
use Rattle.bucket_states.specs.declared.ops.Op.{Op}
use Rattle.bucket_states.specs.Items.{same_key, value_at}
use Rattle.table_model.specs.Setup.{Setup, settings_of, rules_of, next_number, classmates}
use Rattle.table_model.specs.DirectoryChange.{LoadedBucket, loaded_of, is_frozen_without}
use Rattle.table_model.specs.Phases.{Phase, Round, BucketTry, DirectoryTry, TryExchange, DirStore, DirExchange}
use Rattle.table_model.specs.SeatStates.{Account, Flight, Stand, Idle, InFlight, SeatState}
use Rattle.table_model.specs.Stores.{made_leaves}
use Rattle.table_model.specs.Asks.{Ask, Nothing, Load, Store, Exchange, ask_in}
use Rattle.table_model.specs.Worlds.{World, opening_world, word_at}
use Rattle.table_model.specs.Reading.{bucket_spelling, directory_spelling, op_spelling, bucket_row, directory_row, applied_at, is_among, each_once, bucket_line, root_of, row_of, directory_rows, named_buckets, bucket_rows, rows_of_bucket, current_row}
use Rattle.table_model.specs.Helping.{rows_held, rows_alone, directories_held}
use Rattle.table_model.specs.Promises.{op_row_at}
use Rattle.table_model.specs.Rows.{announced_by}
use Rattle.table_model.specs.Helped.{op_of}
use Rattle.table_model.specs.Needs.{inserted_by, splits_in, updates_begun}
use Rattle.table_model.specs.Order.{Closing, Placing, calls_in, is_ready, order_of, place_piece, choice, start_of, pieces_of}
use Rattle.table_model.specs.Turns.{placing_after, has_call_of}
use Rattle.table_model.specs.Histories.{is_for_row, is_in_row}
use Rattle.table_model.specs.Closed.{closing_of, closed_pairs}
use Rattle.table_model.proofs.Plays.{fault_if_not, plain_after, step, steps}

-- whether two lists of numbers are one
abbrev pub same_numbers : List ℕ → List ℕ → Bool
same_numbers [] [] = true
same_numbers [] (b ∷ bs) = false
same_numbers (a ∷ more) [] = false
same_numbers (a ∷ more) (b ∷ bs) = (a == b) && same_numbers more bs

-- whether the one list ends with the other
abbrev pub ends_with : List ℕ → List ℕ → Bool
ends_with longer shorter = same_numbers (drop (length longer - length shorter) longer) shorter

-- ONE SEAT AT ONE MOMENT

abbrev pub same_rows : SeatRows → SeatRows → Bool
same_rows a b =
    (a.op_rows == b.op_rows) && (a.bucket_rows == b.bucket_rows) && (a.bucket_words == b.bucket_words)
    && (a.directory_rows == b.directory_rows)

-- RecordsAreNumbered
abbrev pub are_numbered : (seat : ℕ) → List Record → Bool
are_numbered seat records =
    same_numbers (map (λ r. r.number) records) (range_with_len 1 (length records))
    && list_all (λ r. r.seat == seat) records

-- SpentIsUsed
abbrev pub is_spent : Account → Stand → Bool
is_spent account Idle =
    (length account.spent == length account.records) && same_rows (published account.spent) account.used
is_spent account (InFlight flight phase) = length account.spent == length account.records

-- OpRowsAreRight
abbrev pub are_op_rows_right : Setup → List ℕ → (seat : ℕ) → SeatRows → Bool
are_op_rows_right setup words seat used =
    (word_at setup.shape words (Announcement seat) == announced_by setup seat used)
    && list_all
    (λ place. let own = op_spelling setup.shape words (op_row_at setup seat place) in same_numbers own
    (words_of_op (op_of_words own)))
    (range_with_len 0 used.op_rows)

-- LoadedRowsAreOfLine
abbrev pub are_held_right : Setup → List ℕ → Phase → Bool
are_held_right setup words phase =
    list_all
    (λ held. is_among (named_buckets setup.shape words) held.bucket
    && is_among (rows_of_bucket setup.shape words held.bucket) held.row)
    (rows_held phase)
    && list_all (is_among (bucket_rows setup.shape words)) (rows_alone phase)
    && list_all (is_among (directory_rows setup.shape words)) (directories_held phase)

-- StoresAreOwn
abbrev pub is_free : Setup → (seat : ℕ) → FullKind → SeatRows → (number : ℕ) → Bool
is_free setup seat kind used number =
    nat_le (next_number setup seat kind used) number
    && nat_lt number (first_number setup.shape seat kind + of_kind kind (sizes_of setup.shape seat))

abbrev pub may_store : Setup → (seat : ℕ) → SeatRows → Address → Bool
may_store setup seat used Root = false
may_store setup seat used (Announcement other) = other == seat
may_store setup seat used (Done other) = other == seat
may_store setup seat used (BucketWord bucket) = is_free setup seat BucketWords used bucket
may_store setup seat used (OpWord row i) = is_free setup seat OpRows used row
may_store setup seat used (BucketRowWord row i) = is_free setup seat BucketRows used row
may_store setup seat used (DirectoryWord row i) = is_free setup seat DirRows used row

abbrev pub is_store_own : Setup → (seat : ℕ) → SeatRows → Ask → Bool
is_store_own setup seat used Nothing = false
is_store_own setup seat used (Load from) = true
is_store_own setup seat used (Store to word) = may_store setup seat used to
is_store_own setup seat used (Exchange at old new) = true

-- TriesCanChange: each bucket once, the own one frozen without the op, and new numbers
abbrev pub has_found :
    Setup → List ℕ → (seat : ℕ) → SeatRows → Flight → Round → DirectoryTry → List (Option Op) → List LoadedBucket → Bool
has_found setup words seat used flight round attempt found loaded =
    same_numbers (each_once (map (λ l. l.bucket) loaded)) (map (λ l. l.bucket) loaded)
    && option_map_or (is_frozen_without seat (op_of seat flight)) (loaded_of loaded round.bucket) false
    && list_all (λ new. not (is_among (named_buckets setup.shape words) new))
    (range_with_len (next_number setup seat BucketWords used) (length (made_leaves setup attempt found loaded)))

-- LostBucketsShow, LostRootsShow
abbrev pub is_in : Setup → List ℕ → (seat : ℕ) → Flight → (row : ℕ) → Bool
is_in setup words seat flight row = nat_le flight.number (applied_at setup.shape words row seat)

abbrev pub does_lost_bucket_show : Setup → List ℕ → (seat : ℕ) → Flight → Round → BucketTry → Bool
does_lost_bucket_show setup words seat flight round attempt =
    let row = row_of setup.shape words round.bucket in
    not (attempt.turn == 2) || (row == attempt.row)
    || is_in setup words seat flight row || (bucket_row setup.shape words row).frozen

abbrev pub does_lost_root_show : Setup → List ℕ → (seat : ℕ) → Flight → DirectoryTry → Bool
does_lost_root_show setup words seat flight attempt =
    not (attempt.turn == 2) || (root_of setup.shape words == attempt.root)
    || is_in setup words seat flight (current_row setup words (key_in flight.call))

abbrev pub is_try_right : Setup → List ℕ → (seat : ℕ) → SeatRows → Flight → Phase → Bool
is_try_right setup words seat used flight (TryExchange round attempt found) =
    does_lost_bucket_show setup words seat flight round attempt
is_try_right setup words seat used flight (DirStore round attempt found loaded stored) =
    has_found setup words seat used flight round attempt found loaded
is_try_right setup words seat used flight (DirExchange round attempt found loaded) =
    has_found setup words seat used flight round attempt found loaded
    && does_lost_root_show setup words seat flight attempt
is_try_right setup words seat used flight phase = true

-- UpdatesAreShort, LookupsAreShort
abbrev pub is_short : Setup → Flight → Bool
is_short setup flight =
    nat_lt flight.steps
    (if is_update flight.call then step_bound (settings_of setup)
    else lookup_steps (settings_of setup) (settings_of setup).items)

abbrev pub is_stand_right : Setup → List ℕ → (seat : ℕ) → SeatRows → Stand → Bool
is_stand_right setup words seat used Idle = true
is_stand_right setup words seat used (InFlight flight phase) =
    are_held_right setup words phase && is_store_own setup seat used (ask_in setup seat used flight phase)
    && is_try_right setup words seat used flight phase && is_short setup flight

-- how many of these tests a seat fails
abbrev pub seat_faults : Setup → List ℕ → (seat : ℕ) → SeatState → ℕ
seat_faults setup words seat state =
    fault_if_not (are_numbered seat state.account.records)
    + fault_if_not (is_spent state.account state.stand)
    + fault_if_not (are_op_rows_right setup words seat state.account.used)
    + fault_if_not (is_stand_right setup words seat state.account.used state.stand)

-- ALL AT ONE MOMENT

-- RowsAreGood, DirectoriesAreRight: what is spelled
abbrev pub is_bucket_spelled : Setup → List ℕ → (row : ℕ) → Bool
is_bucket_spelled setup words row =
    same_numbers (words_of_bucket (settings_of setup) (bucket_row setup.shape words row))
    (bucket_spelling setup.shape words row)

abbrev pub is_directory_spelled : Setup → List ℕ → (row : ℕ) → Bool
is_directory_spelled setup words row =
    same_numbers (words_of_directory (directory_row setup.shape words row)) (directory_spelling setup.shape words row)
    && (length (directory_row setup.shape words row).entries == 2 ^ (directory_row setup.shape words row).depth)

-- the rows of a bucket, up to its first one, are those of its line that have the depth of the row in use
abbrev pub are_rows_of_bucket : Shape → List ℕ → (bucket : ℕ) → Bool
are_rows_of_bucket shape words bucket =
    let depth = (bucket_row shape words (row_of shape words bucket)).depth in
    same_numbers (rows_of_bucket shape words bucket)
    (filter (λ row. (bucket_row shape words row).depth == depth)
    (bucket_line shape words (Some (row_of shape words bucket))))

-- FewArePublished, by the inserts that have begun
abbrev pub inserted_flying : Stand → List Key
inserted_flying Idle = []
inserted_flying (InFlight flight phase) = inserted_by flight.call

abbrev pub inserted_so_far : World → List Key
inserted_so_far world =
    flat_map (λ state. flat_map (λ r. inserted_by r.call) state.account.records
    ++ inserted_flying state.stand) world.seats

abbrev pub is_few : (updates splits : ℕ) → SeatRows → Bool
is_few updates splits used =
    nat_le used.op_rows updates && nat_le used.bucket_rows (updates + 2 * splits)
    && nat_le used.directory_rows (min updates splits)

abbrev pub are_few : Setup → World → Bool
are_few setup world =
    let splits = splits_in setup (inserted_so_far world) in
    nat_le (length (directory_rows setup.shape world.words)) (splits + 1)
    && nat_le (sum_by (λ state. state.account.used.bucket_words) world.seats) (2 * splits)
    && list_all (λ state. is_few (updates_begun state) splits state.account.used) world.seats

-- how many tests of this moment fail
abbrev pub moment_faults : Setup → World → ℕ
moment_faults setup world =
    sum_by (λ numbered. seat_faults setup world.words numbered.0 numbered.1) (enumerate_from 0 world.seats)
    + sum_by (λ row. fault_if_not (is_bucket_spelled setup world.words row)) (bucket_rows setup.shape world.words)
    + sum_by (λ row. fault_if_not (is_directory_spelled setup world.words row)) (directory_rows setup.shape world.words)
    + sum_by (λ bucket. fault_if_not (are_rows_of_bucket setup.shape world.words bucket))
    (named_buckets setup.shape world.words)
    + fault_if_not (are_few setup world)

-- TWO MOMENTS

-- RowsStay, OpRowsStay, LinesGrow
abbrev pub do_rows_stay : Shape → (was now : List ℕ) → Bool
do_rows_stay shape was now =
    list_all (λ row. is_among (bucket_rows shape now) row && same_numbers (bucket_spelling shape now row)
    (bucket_spelling shape was row))
    (bucket_rows shape was)
    && list_all
    (λ row. is_among (directory_rows shape now) row && same_numbers (directory_spelling shape now row)
    (directory_spelling shape was row))
    (directory_rows shape was)

abbrev pub do_op_rows_stay : Setup → World → World → Bool
do_op_rows_stay setup was now =
    list_all
    (λ numbered. list_all
    (λ place. same_numbers (op_spelling setup.shape now.words (op_row_at setup numbered.0 place))
    (op_spelling setup.shape was.words (op_row_at setup numbered.0 place)))
    (range_with_len 0 numbered.1.account.used.op_rows))
    (enumerate_from 0 was.seats)

abbrev pub do_lines_grow : Shape → (was now : List ℕ) → Bool
do_lines_grow shape was now =
    ends_with (directory_rows shape now) (directory_rows shape was)
    && list_all
    (λ bucket. ends_with (bucket_line shape now (Some (row_of shape now bucket)))
    (bucket_line shape was (Some (row_of shape was bucket))))
    (named_buckets shape was)

abbrev pub next_faults : Setup → World → World → ℕ
next_faults setup was now =
    fault_if_not (do_rows_stay setup.shape was.words now.words)
    + fault_if_not (do_op_rows_stay setup was now)
    + fault_if_not (do_lines_grow setup.shape was.words now.words)

-- A CLOSED TABLE

-- LookupsStandByTheirRows
abbrev pub stands_by_its_row : Setup → List ℕ → (before : List Placed) → Placed → (later : List Placed) → Bool
stands_by_its_row setup words before (pending u) later = true
stands_by_its_row setup words before (answered r) later =
    is_update r.call
    || (list_all (λ placed. not (is_for_row setup words r.place placed) || is_in_row setup words r.place placed) before
    && list_all (λ placed. not (is_for_row setup words r.place placed)
    || not (is_in_row setup words r.place placed)) later)

abbrev pub stand_by_their_rows : Setup → List ℕ → (before order : List Placed) → Bool
stand_by_their_rows setup words before [] = true
stand_by_their_rows setup words before (placed ∷ later) =
    stands_by_its_row setup words before placed later && stand_by_their_rows setup words (before ++ placed ∷ []) later

-- PairsReopen: distinct keys, room, and the pairs that the plain map holds after the order
abbrev pub have_distinct_keys : List Pair → Bool
have_distinct_keys [] = true
have_distinct_keys (pair ∷ pairs) =
    not (list_any (λ other. same_key pair.key other.key) pairs) && have_distinct_keys pairs

abbrev pub have_room : Rules → (front : List Pair) → List Pair → Bool
have_room rules front [] = true
have_room rules front (pair ∷ pairs) =
    nat_lt (classmates rules pair.key front) rules.items && have_room rules (front ++ pair ∷ []) pairs

abbrev pub holds_all : List Pair → List Pair → Bool
holds_all held pairs =
    list_all (λ pair. option_map_or (λ held. (held.value == pair.value) && (held.bytes == pair.bytes))
    (value_at pair.key held) false) pairs

abbrev pub do_pairs_reopen : Setup → World → Bool
do_pairs_reopen setup world =
    let pairs = closed_pairs setup.shape world.words in
    let held = fold (λ so_far placed. plain_after (rules_of setup) so_far (call_in placed)) setup.first
    (order_of setup.shape (closing_of world)) in
    have_distinct_keys pairs && have_room (rules_of setup) [] pairs && holds_all held pairs
    && (length held == length pairs)

-- OneIsReady, at this stage
abbrev pub one_is_ready : Shape → Closing → Placing → Bool
one_is_ready shape closing placing =
    list_all
    (λ seat. nat_le
    (length (filter (λ piece. is_ready shape closing placing piece
    && has_call_of seat (calls_in shape closing piece)) placing.left)) 1)
    (range_with_len 0 shape.settings.seats)

-- TurnsDoNotMatter: in each turn the last ready piece without calls is placed, or the one that comes next
abbrev pub last_free : Shape → Closing → Placing → Option ℕ
last_free shape closing placing =
    fold
    (λ so_far numbered. if is_ready shape closing placing numbered.1
    && (length (calls_in shape closing numbered.1) == 0) then Some numbered.0
    else so_far)
    None (enumerate_from 0 placing.left)

abbrev pub turned : Shape → Closing → (turns : ℕ) → Placing → Placing
turned shape closing zero placing = placing
turned shape closing (suc turns) placing =
    let at = option_map_or (λ found. Some found) (last_free shape closing placing) (choice shape closing placing) in
    turned shape closing turns
    (option_map_or (λ number. place_piece shape closing placing number (slice_get placing.left number)) at placing)

abbrev pub has_one_order : Shape → Closing → Bool
has_one_order shape closing =
    let other = (turned shape closing (length (pieces_of shape closing)) (start_of shape closing)).order in
    same_numbers (map packet_of other) (map packet_of (order_of shape closing))

-- how many tests of the closed table fail
abbrev pub closed_faults : Setup → World → ℕ
closed_faults setup world =
    let closing = closing_of world in
    fault_if_not (stand_by_their_rows setup world.words [] (order_of setup.shape closing))
    + fault_if_not (do_pairs_reopen setup world)
    + sum_by (λ turns. fault_if_not (one_is_ready setup.shape closing (placing_after setup.shape closing turns)))
    (range_with_len 0 (length (pieces_of setup.shape closing)))
    + fault_if_not (has_one_order setup.shape closing)

-- A PLAY

module _ (setup : Setup) (calls : List (List (ℕ × Call))) where
  -- so many steps of a seat, with the tests of each moment
  abbrev pub tested : (seat many : ℕ) → World × ℕ → World × ℕ
  tested seat zero so_far = so_far
  tested seat (suc many) so_far =
      let now = step setup calls so_far.0 seat in
      tested seat many (now, so_far.1 + moment_faults setup now + next_faults setup so_far.0 now)

  -- the same, but only the last moment is looked at
  abbrev pub tested_last : (seat many : ℕ) → World × ℕ → World × ℕ
  tested_last seat many so_far =
      let now = steps setup calls seat many so_far.0 in
      (now, so_far.1 + moment_faults setup now + next_faults setup so_far.0 now)

  -- how many tests fail in a play, at each moment, and of the closed table
  abbrev pub play_faults : List (ℕ × ℕ) → ℕ
  play_faults segments =
      let last = fold (λ so_far segment. tested segment.0 segment.1 so_far)
      (opening_world setup, moment_faults setup (opening_world setup)) segments in
      last.1 + closed_faults setup last.0

  -- and where each segment ends
  abbrev pub segment_faults : List (ℕ × ℕ) → ℕ
  segment_faults segments =
      let last = fold (λ so_far segment. tested_last segment.0 segment.1 so_far)
      (opening_world setup, moment_faults setup (opening_world setup)) segments in
      last.1 + closed_faults setup last.0
