-- The promises about every run on which its steps rest: published rows are those of good buckets, of right directories
-- and of ops, and are spelled; lines only grow; and each step is on a word of the table, and stores only what is the
-- seat's own.
use Rattle.std.specs.Prelude.{◌≡◌, ℕ, ◌<◌, ◌≤◌, ◌==◌, if◌then◌else◌, false, List, ◌++◌, All, Some}
use Rattle.step_counts.specs.declared.rows.SeatRows.{SeatRows}
use Rattle.plain_map.specs.declared.full.FullKind.{FullKind}
use Rattle.plain_map.specs.declared.full.FullKind.TheVariants.{OpRows, BucketRows, BucketWords, DirRows}
use Rattle.word_rows.specs.declared.addresses.Address.{Address}
use Rattle.word_rows.specs.declared.addresses.Address.TheVariants.{Root, Announcement, Done, BucketWord, OpWord, BucketRowWord, DirectoryWord}
use Rattle.word_rows.specs.declared.ops.OpRow.{OpRow}
use Rattle.word_rows.specs.Shape.{Owns}
use Rattle.word_rows.specs.OpWords.{SpellsOp}
use Rattle.word_rows.specs.BucketWords.{SpellsBucket}
use Rattle.word_rows.specs.DirectoryWords.{SpellsDirectory}
use Rattle.bucket_states.specs.Laws.{IsGood}
use Rattle.table_model.specs.declared.events.Event.{Event}
use Rattle.table_model.specs.Setup.{Setup, settings_of, seats_of, rules_of, next_number}
use Rattle.table_model.specs.Phases.{Phase}
use Rattle.table_model.specs.SeatStates.{Flight}
use Rattle.table_model.specs.Asks.{Store, ask_in}
use Rattle.table_model.specs.Worlds.{IsRun, world_after, seat_in, word_at}
use Rattle.table_model.specs.Steps.{IsOnWord}
use Rattle.table_model.specs.Reading.{bucket_spelling, directory_spelling, op_spelling, bucket_row, directory_row, bucket_at, directory_at, bucket_line, directory_rows, bucket_rows, named_buckets, row_of}
use Rattle.table_model.specs.DirectoryLaws.{StandsIn}
use Rattle.table_model.specs.Promises.{words_in, InPhase, Among, op_row_at}

-- each published bucket row is that of a good bucket, and its words are its spelling
abbrev pub RowsAreGood : Type 0
RowsAreGood =
    (setup : Setup) (events : List Event) (row : ℕ) → IsRun setup events →
    (let words = words_in setup events in
    Among (bucket_rows setup.shape words) row →
    IsGood (rules_of setup) (seats_of setup) (bucket_at setup.shape words row)
    × SpellsBucket (settings_of setup) (bucket_row setup.shape words row) (bucket_spelling setup.shape words row))

-- so are the words of each published directory row, and each bucket that it names stands in it
abbrev pub DirectoriesAreRight : Type 0
DirectoriesAreRight =
    (setup : Setup) (events : List Event) (row : ℕ) → IsRun setup events →
    (let words = words_in setup events in
    let directory = directory_at setup.shape words row in
    Among (directory_rows setup.shape words) row →
    SpellsDirectory (settings_of setup) (directory_row setup.shape words row) (directory_spelling setup.shape words row)
    × All (λ bucket. StandsIn directory bucket (bucket_at setup.shape words (row_of setup.shape words bucket)))
    directory.entries)

-- the op row that a seat announces, told by its number and 1 more: the last one that it has published, or 0 for none
abbrev pub announced_by : Setup → (seat : ℕ) → SeatRows → ℕ
announced_by setup seat used = if used.op_rows == 0 then 0 else next_number setup seat OpRows used

-- a seat announces its last op row, and each that it has announced spells an op
abbrev pub OpRowsAreRight : Type 0
OpRowsAreRight =
    (setup : Setup) (events : List Event) (seat : ℕ) → IsRun setup events → seat < seats_of setup →
    (let words = words_in setup events in
    let used = (seat_in (world_after setup events) seat).account.used in
    (word_at setup.shape words (Announcement seat) ≡ announced_by setup seat used)
    × ((place : ℕ) → place < used.op_rows →
    (op : OpRow) × SpellsOp op (op_spelling setup.shape words (op_row_at setup seat place))))

-- where the table begins as deep as it may be, no bucket freezes
abbrev pub FixedDepthNeverFreezes : Type 0
FixedDepthNeverFreezes =
    (setup : Setup) (events : List Event) (row : ℕ) → IsRun setup events →
    (settings_of setup).start ≡ (settings_of setup).depth →
    Among (bucket_rows setup.shape (words_in setup events)) row →
    (bucket_row setup.shape (words_in setup events) row).frozen ≡ false

-- the line of the root, and of each bucket word, only grows at its front
abbrev pub LinesGrow : Type 0
LinesGrow =
    (setup : Setup) (events later : List Event) → IsRun setup (events ++ later) →
    (let first = words_in setup events in
    let second = words_in setup (events ++ later) in
    ((newer : List ℕ) × (directory_rows setup.shape second ≡ newer ++ directory_rows setup.shape first))
    × ((bucket : ℕ) → Among (named_buckets setup.shape first) bucket →
    (newer : List ℕ)
    × (bucket_line setup.shape second (Some (row_of setup.shape second bucket))
    ≡ newer ++ bucket_line setup.shape first (Some (row_of setup.shape first bucket)))))

-- each step is on a word of the table
abbrev pub StepsAreWithin : Type 0
StepsAreWithin =
    (setup : Setup) (events : List Event) (seat : ℕ) (flight : Flight) (phase : Phase) → IsRun setup events →
    InPhase setup events seat flight phase →
    IsOnWord setup.shape (ask_in setup seat (seat_in (world_after setup events) seat).account.used flight phase)

-- the number is the seat's, and not published yet
pub record IsFree (setup : Setup) (seat : ℕ) (kind : FullKind) (used : SeatRows) (number : ℕ) : Type 0 where
  pub own : Owns setup.shape seat kind number
  pub free : next_number setup seat kind used ≤ number

-- where a seat may store: in its announcement, its done word, and rows and bucket words of its own that are free
abbrev pub MayStore : Setup → (seat : ℕ) → SeatRows → Address → Type 0
MayStore setup seat used Root = ⊥
MayStore setup seat used (Announcement other) = other ≡ seat
MayStore setup seat used (Done other) = other ≡ seat
MayStore setup seat used (BucketWord bucket) = IsFree setup seat BucketWords used bucket
MayStore setup seat used (OpWord row i) = IsFree setup seat OpRows used row
MayStore setup seat used (BucketRowWord row i) = IsFree setup seat BucketRows used row
MayStore setup seat used (DirectoryWord row i) = IsFree setup seat DirRows used row

-- each store is in such a word: so no published row is written, and what a call needs at its beginning suffices it
abbrev pub StoresAreOwn : Type 0
StoresAreOwn =
    (setup : Setup) (events : List Event) (seat word : ℕ) (at : Address) (flight : Flight) (phase : Phase) →
    IsRun setup events → InPhase setup events seat flight phase →
    (let used = (seat_in (world_after setup events) seat).account.used in
    ask_in setup seat used flight phase ≡ Store at word → MayStore setup seat used at)
