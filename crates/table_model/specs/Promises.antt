-- The promises about every run that speak of one seat and of the rows: published rows stay, updates end, and every call
-- is answered from a row.
use Rattle.std.specs.Prelude.{◌≡◌, ◌≢◌, ℕ, ◌+◌, ◌<◌, ◌≤◌, ◌⊎◌, true, false, List, ◌++◌, map, length, Some, None, slice_index, slice_index_or, count_by, option_to_list, All}
use Rattle.std.specs.List.{range_with_len}
use Rattle.step_counts.specs.StepCounts.{step_bound, lookup_steps, automatic_rows_of}
use Rattle.plain_map.specs.declared.calls.Call.{Call}
use Rattle.plain_map.specs.declared.full.FullKind.TheVariants.{OpRows}
use Rattle.plain_map.specs.declared.records.Record.{Record}
use Rattle.plain_map.specs.Calls.{key_in, is_update}
use Rattle.plain_map.specs.Room.{published}
use Rattle.word_rows.specs.Shape.{first_number}
use Rattle.bucket_states.specs.Items.{prefix_of, reply_in}
use Rattle.table_model.specs.declared.events.Event.{Event}
use Rattle.table_model.specs.Setup.{Setup, settings_of, seats_of, rules_of}
use Rattle.table_model.specs.Phases.{ForSecondRound, ForLastLook, Phase, FindRoot, LastWord, Stuck}
use Rattle.table_model.specs.SeatStates.{Account, Flight, Idle, InFlight}
use Rattle.table_model.specs.Worlds.{IsRun, world_after, seat_in, refusal_of, events_of}
use Rattle.table_model.specs.Reading.{bucket_spelling, directory_spelling, op_spelling, bucket_row, directory_row, bucket_at, directory_at, applied_at, is_among, directory_rows, bucket_rows, named_buckets, leaves_new_in, is_exchanged, rows_of_bucket, bucket_by, current_row, root_of, row_of}
use Rattle.table_model.specs.Helping.{round_of, rows_held, rows_alone, directories_held}

-- the words after these events
abbrev pub words_in : Setup → List Event → List ℕ
words_in setup events = (world_after setup events).words

-- the seat is in this update after these events
pub record InUpdate (setup : Setup) (events : List Event) (seat : ℕ) (flight : Flight) (phase : Phase) : Type 0 where
  pub seat_is : seat < seats_of setup
  pub stand : (seat_in (world_after setup events) seat).stand ≡ InFlight flight phase
  pub update : is_update flight.call ≡ true

-- the seat is in this call after these events, whatever call it is
pub record InPhase (setup : Setup) (events : List Event) (seat : ℕ) (flight : Flight) (phase : Phase) : Type 0 where
  pub seat_is : seat < seats_of setup
  pub stand : (seat_in (world_after setup events) seat).stand ≡ InFlight flight phase

-- a row among these
abbrev pub Among : List ℕ → ℕ → Type 0
Among rows row = is_among rows row ≡ true

-- the update is applied in a row
abbrev pub IsAppliedIn : Setup → List ℕ → (seat : ℕ) → Flight → (row : ℕ) → Type 0
IsAppliedIn setup words seat flight row = flight.number ≤ applied_at setup.shape words row seat

-- a published row stays published, and keeps its words
abbrev pub RowsStay : Type 0
RowsStay =
    (setup : Setup) (events later : List Event) (row : ℕ) → IsRun setup (events ++ later) →
    (let first = words_in setup events in
    let second = words_in setup (events ++ later) in
    (Among (bucket_rows setup.shape first) row →
    Among (bucket_rows setup.shape second) row
    × (bucket_spelling setup.shape second row ≡ bucket_spelling setup.shape first row))
    × (Among (directory_rows setup.shape first) row →
    Among (directory_rows setup.shape second) row
    × (directory_spelling setup.shape second row ≡ directory_spelling setup.shape first row)))

-- the op row with this place among the seat's own
abbrev pub op_row_at : Setup → (seat place : ℕ) → ℕ
op_row_at setup seat place = first_number setup.shape seat OpRows + place

-- so do the op rows that a seat has announced
abbrev pub OpRowsStay : Type 0
OpRowsStay =
    (setup : Setup) (events later : List Event) (seat place : ℕ) → IsRun setup (events ++ later) →
    seat < seats_of setup →
    place < (seat_in (world_after setup events) seat).account.used.op_rows →
    op_spelling setup.shape (words_in setup (events ++ later)) (op_row_at setup seat place)
    ≡ op_spelling setup.shape (words_in setup events) (op_row_at setup seat place)

-- a bucket word and the root never return to a row that they have left
abbrev pub WordsNeverReturn : Type 0
WordsNeverReturn =
    (setup : Setup) (events later more : List Event) → IsRun setup (events ++ later ++ more) →
    (let first = words_in setup events in
    let second = words_in setup (events ++ later) in
    let third = words_in setup (events ++ later ++ more) in
    (root_of setup.shape first ≡ root_of setup.shape third → root_of setup.shape first ≡ root_of setup.shape second)
    × ((bucket : ℕ) → Among (named_buckets setup.shape first) bucket →
    row_of setup.shape first bucket ≡ row_of setup.shape third bucket → row_of setup.shape first bucket
    ≡ row_of setup.shape second bucket))

-- whatever rows a call in flight has loaded, or is loading, are published: each bucket row is one of the bucket in
-- whose word it stood, and each directory row is that of the root or one from which it comes
abbrev pub LoadedRowsAreOfLine : Type 0
LoadedRowsAreOfLine =
    (setup : Setup) (events : List Event) (seat : ℕ) (flight : Flight) (phase : Phase) → IsRun setup events →
    InPhase setup events seat flight phase →
    (let words = words_in setup events in
    All (λ held. Among (named_buckets setup.shape words) held.bucket
    × Among (rows_of_bucket setup.shape words held.bucket) held.row)
    (rows_held phase)
    × All (Among (bucket_rows setup.shape words)) (rows_alone phase)
    × All (Among (directory_rows setup.shape words)) (directories_held phase))

-- applied numbers never fall from a row to one that was made from it
abbrev pub NumbersNeverFall : Type 0
NumbersNeverFall =
    (setup : Setup) (events : List Event) (row base seat : ℕ) → IsRun setup events → seat < seats_of setup →
    (let words = words_in setup events in
    Among (bucket_rows setup.shape words) row → (bucket_row setup.shape words row).base ≡ Some base →
    applied_at setup.shape words base seat ≤ applied_at setup.shape words row seat)

-- no row of a bucket was made from a frozen row of it
abbrev pub FrozenIsLast : Type 0
FrozenIsLast =
    (setup : Setup) (events : List Event) (row base : ℕ) → IsRun setup events →
    (let words = words_in setup events in
    Among (bucket_rows setup.shape words) row → is_exchanged setup.shape words row ≡ true →
    (bucket_row setup.shape words row).base ≡ Some base →
    (bucket_row setup.shape words base).frozen ≡ false)

-- a bucket leaves the directory only where it is frozen, and never comes back
abbrev pub BucketsLeaveFrozen : Type 0
BucketsLeaveFrozen =
    (setup : Setup) (events later : List Event) (bucket : ℕ) → IsRun setup (events ++ later) →
    (let first = words_in setup events in
    let second = words_in setup (events ++ later) in
    Among (named_buckets setup.shape first) bucket →
    is_among (directory_at setup.shape first (root_of setup.shape first)).entries bucket ≡ false →
    ((bucket_at setup.shape first (row_of setup.shape first bucket)).frozen ≡ true)
    × (is_among (directory_at setup.shape second (root_of setup.shape second)).entries bucket ≡ false))

-- no seat comes to where there is no further step: after two lost exchanges a third look shows the update applied or
-- the bucket frozen, there is no third round, and the last look shows the update applied
abbrev pub NeverStuck : Type 0
NeverStuck =
    (setup : Setup) (events : List Event) (seat : ℕ) (flight : Flight) (phase : Phase) → IsRun setup events →
    InUpdate setup events seat flight phase → phase ≢ Stuck

-- what an update knows between its rounds. Before the second one finds its bucket the update is applied in the current
-- row of its key, or that bucket is another
abbrev pub BeforeSecondFind : Type 0
BeforeSecondFind =
    (setup : Setup) (events : List Event) (seat : ℕ) (flight : Flight) (first : ℕ) → IsRun setup events →
    InUpdate setup events seat flight (FindRoot (ForSecondRound first)) →
    (let words = words_in setup events in
    let key = key_in flight.call in
    IsAppliedIn setup words seat flight (current_row setup words key)
    ⊎ (bucket_by setup words (root_of setup.shape words) key ≢ bucket_by setup words first key))

-- in the second round, once its bucket is known, it is applied in the row in use of the round's bucket, or that bucket
-- is not the first round's
abbrev pub InSecondRound : Type 0
InSecondRound =
    (setup : Setup) (events : List Event) (seat : ℕ) (flight : Flight) (phase : Phase) → IsRun setup events →
    InUpdate setup events seat flight phase → All (λ round. round.turn ≡ 2 →
    (let words = words_in setup events in
    IsAppliedIn setup words seat flight (row_of setup.shape words round.bucket)
    ⊎ (round.bucket ≢ bucket_by setup words round.first (key_in flight.call))))
    (option_to_list (round_of phase))

-- before the last find it is applied in the current row of its key
abbrev pub BeforeLastFind : Type 0
BeforeLastFind =
    (setup : Setup) (events : List Event) (seat : ℕ) (flight : Flight) → IsRun setup events →
    InUpdate setup events seat flight (FindRoot ForLastLook) →
    IsAppliedIn setup (words_in setup events) seat flight
    (current_row setup (words_in setup events) (key_in flight.call))

-- and before the last look in the row in use of the bucket that is looked at
abbrev pub BeforeLastLook : Type 0
BeforeLastLook =
    (setup : Setup) (events : List Event) (seat root bucket : ℕ) (flight : Flight) → IsRun setup events →
    InUpdate setup events seat flight (LastWord root bucket) →
    IsAppliedIn setup (words_in setup events) seat flight (row_of setup.shape (words_in setup events) bucket)

-- the steps of a record: at most the bound for an update; for a lookup exactly those of the items of its row
abbrev pub HasSteps : Setup → List ℕ → Record → Type 0
HasSteps setup words r =
    (is_update r.call ≡ true → r.steps ≤ step_bound (settings_of setup))
    × (is_update r.call ≡ false → r.steps ≡ lookup_steps (settings_of setup)
    (length (bucket_row setup.shape words r.place).items))

-- every answered call has its steps
abbrev pub StepsAreBounded : Type 0
StepsAreBounded =
    (setup : Setup) (events : List Event) (seat : ℕ) → IsRun setup events → seat < seats_of setup →
    All (HasSteps setup (words_in setup events)) (seat_in (world_after setup events) seat).account.records

-- an update in flight has taken fewer steps than the bound
abbrev pub UpdatesAreShort : Type 0
UpdatesAreShort =
    (setup : Setup) (events : List Event) (seat : ℕ) (flight : Flight) (phase : Phase) → IsRun setup events →
    InUpdate setup events seat flight phase → flight.steps < step_bound (settings_of setup)

-- and a lookup fewer than those of a whole bucket
abbrev pub LookupsAreShort : Type 0
LookupsAreShort =
    (setup : Setup) (events : List Event) (seat : ℕ) (flight : Flight) (phase : Phase) → IsRun setup events →
    InPhase setup events seat flight phase → is_update flight.call ≡ false →
    flight.steps < lookup_steps (settings_of setup) (settings_of setup).items

-- an update in flight ends with its next steps: once the seat has had as many events as the bound, whatever the others
-- do, it is answered
abbrev pub UpdatesEnd : Type 0
UpdatesEnd =
    (setup : Setup) (events later : List Event) (seat : ℕ) (flight : Flight) (phase : Phase) →
    IsRun setup (events ++ later) →
    InUpdate setup events seat flight phase →
    step_bound (settings_of setup) ≤ flight.steps + events_of seat later →
    flight.number ≤ length (seat_in (world_after setup (events ++ later)) seat).account.records

-- a lookup in flight ends so too
abbrev pub LookupsEnd : Type 0
LookupsEnd =
    (setup : Setup) (events later : List Event) (seat : ℕ) (flight : Flight) (phase : Phase) →
    IsRun setup (events ++ later) →
    InPhase setup events seat flight phase → is_update flight.call ≡ false →
    lookup_steps (settings_of setup) (settings_of setup).items ≤ flight.steps + events_of seat later →
    flight.number ≤ length (seat_in (world_after setup (events ++ later)) seat).account.records

-- the reply of a record is that of its row: to an update the one beside its number, to a lookup the one by the row's
-- items
pub record IsAnsweredBy (setup : Setup) (words : List ℕ) (r : Record) : Type 0 where
  pub published : Among (bucket_rows setup.shape words) r.place
  pub inside :
      prefix_of (rules_of setup) (bucket_row setup.shape words r.place).depth (key_in r.call)
      ≡ (bucket_row setup.shape words r.place).prefix
  pub update : is_update r.call ≡ true →
      (applied_at setup.shape words r.place r.seat ≡ r.number)
      × (slice_index_or (bucket_row setup.shape words r.place).replies r.seat None ≡ Some r.reply)
  pub lookup : is_update r.call ≡ false → reply_in (rules_of setup) (bucket_row setup.shape words r.place).items r.call
      ≡ r.reply

abbrev pub RepliesAreOfRows : Type 0
RepliesAreOfRows =
    (setup : Setup) (events : List Event) (seat : ℕ) → IsRun setup events → seat < seats_of setup →
    All (IsAnsweredBy setup (words_in setup events)) (seat_in (world_after setup events) seat).account.records

-- an answered update is applied in the current row of its key, ever after
abbrev pub AnsweredAreApplied : Type 0
AnsweredAreApplied =
    (setup : Setup) (events : List Event) (seat : ℕ) → IsRun setup events → seat < seats_of setup →
    All
    (λ r. is_update r.call ≡ true →
    r.number ≤ applied_at setup.shape (words_in setup events)
    (current_row setup (words_in setup events) (key_in r.call)) seat)
    (seat_in (world_after setup events) seat).account.records

-- the records of a seat are its own, and are numbered from 1 on
abbrev pub RecordsAreNumbered : Type 0
RecordsAreNumbered =
    (setup : Setup) (events : List Event) (seat : ℕ) → IsRun setup events → seat < seats_of setup →
    (let records = (seat_in (world_after setup events) seat).account.records in
    (map (λ r. r.number) records ≡ range_with_len 1 (length records)) × All (λ r. r.seat ≡ seat) records)

-- a seat has told after each answer what it had published, and an idle one has published nothing since
abbrev pub SpentIsUsed : Type 0
SpentIsUsed =
    (setup : Setup) (events : List Event) (seat : ℕ) → IsRun setup events → seat < seats_of setup →
    (let state = seat_in (world_after setup events) seat in
    (length state.account.spent ≡ length state.account.records)
    × (state.stand ≡ Idle → published state.account.spent ≡ state.account.used))

-- every exchange of the root publishes at least two new leaves
abbrev pub LeavesComeInTwos : Type 0
LeavesComeInTwos =
    (setup : Setup) (events : List Event) (row base : ℕ) → IsRun setup events →
    Among (directory_rows setup.shape (words_in setup events)) row →
    (directory_row setup.shape (words_in setup events) row).base ≡ Some base →
    2 ≤ length (leaves_new_in setup.shape (words_in setup events) row)

-- no hash prefix becomes a leaf twice
abbrev pub LeavesComeOnce : Type 0
LeavesComeOnce =
    (setup : Setup) (events : List Event) (a b : ℕ) → IsRun setup events →
    (let words = words_in setup events in
    Among (named_buckets setup.shape words) a → Among (named_buckets setup.shape words) b →
    (bucket_at setup.shape words (row_of setup.shape words a)).depth
    ≡ (bucket_at setup.shape words (row_of setup.shape words b)).depth →
    (bucket_at setup.shape words (row_of setup.shape words a)).prefix
    ≡ (bucket_at setup.shape words (row_of setup.shape words b)).prefix → a ≡ b)

-- how many updates the seat has answered
abbrev pub updates_in : Account → ℕ
updates_in account = count_by (λ r. is_update r.call) account.records

-- where each seat has the ranges for so many updates, no call is refused before it has made as many
abbrev pub RowsSuffice : Type 0
RowsSuffice =
    (setup : Setup) (updates : List ℕ) (events : List Event) (seat : ℕ) (call : Call) → IsRun setup events →
    seat < seats_of setup →
    setup.shape.ranges ≡ map (automatic_rows_of (settings_of setup)) updates →
    (seat_in (world_after setup events) seat).stand ≡ Idle →
    updates_in (seat_in (world_after setup events) seat).account < slice_index updates seat →
    refusal_of setup seat (seat_in (world_after setup events) seat).account call ≡ None
