-- Where a machine of bounded room can take its step: what it loads is what a table holds there, and what it makes can
-- be spelled. Every step of every run is so.
use Rattle.std.specs.Prelude.{◌≡◌, ℕ, ◌^◌, ◌-◌, ◌<◌, ◌≤◌, if◌then◌else◌, List, length, All, Option, Some}
use Rattle.step_counts.specs.declared.TheConstants.{OP_WORDS}
use Rattle.step_counts.specs.declared.rows.SeatRows.{SeatRows}
use Rattle.step_counts.specs.declared.settings.Settings.{Settings}
use Rattle.step_counts.specs.StepCounts.{bucket_row_words, step_bound, lookup_steps}
use Rattle.plain_map.specs.declared.calls.Call.{Call}
use Rattle.word_rows.specs.declared.ops.OpRow.{OpRow}
use Rattle.word_rows.specs.Shape.{AreBelow}
use Rattle.word_rows.specs.OpWords.{SpellsOp}
use Rattle.word_rows.specs.BucketWords.{IsBucket, SpellSomeBucket}
use Rattle.bucket_states.specs.declared.ops.Op.{Op}
use Rattle.bucket_states.specs.States.{row_of_state}
use Rattle.table_model.specs.declared.events.Event.{Event}
use Rattle.table_model.specs.Setup.{Setup, settings_of, seats_of}
use Rattle.table_model.specs.DirectoryChange.{LoadedBucket}
use Rattle.table_model.specs.Phases.{Phase, SeeDone, FindDepth, LookCount, TryRow, TryOp, TryStore, DirDepth, DirOp, DirRow, DirStore, LastRow, Stuck, DirectoryTry}
use Rattle.table_model.specs.SeatStates.{Flight, SeatState}
use Rattle.plain_map.specs.Calls.{is_update}
use Rattle.table_model.specs.Stores.{made_bucket, made_leaves, base_of_leaf}
use Rattle.table_model.specs.Asks.{ask_in}
use Rattle.table_model.specs.Goes.{more, phase_after}
use Rattle.table_model.specs.Worlds.{IsRun, world_after, seat_in, found_by}
use Rattle.table_model.specs.Steps.{IsOnWord, MayStep, ask_of, flight_in, phase_in}

-- the words are not a whole row yet, or spell a bucket
abbrev pub IsRowSoFar : Setup → List ℕ → Type 0
IsRowSoFar setup words = bucket_row_words (settings_of setup) ≤ length words → SpellSomeBucket (settings_of setup) words

-- the words are not a whole op row yet, or spell an op
abbrev pub IsOpSoFar : List ℕ → Type 0
IsOpSoFar words = OP_WORDS ≤ length words → (row : OpRow) × SpellsOp row words

-- the word that is found in a phase is what a table holds there
abbrev pub Finds : Setup → Phase → (word : ℕ) → Type 0
Finds setup SeeDone word = word < setup.shape.limit
Finds setup (FindDepth aim root) word = word ≤ (settings_of setup).depth
Finds setup (LookCount row) word = word ≤ (settings_of setup).items
Finds setup (TryRow round turn first row words) word = IsRowSoFar setup (more words word)
Finds setup (TryOp round attempt found op words) word = IsOpSoFar (more words word)
Finds setup (DirOp round attempt found op words) word = IsOpSoFar (more words word)
Finds setup (DirRow round attempt found loaded bucket row words) word = IsRowSoFar setup (more words word)
Finds setup (DirDepth round turn first root) word = word ≤ (settings_of setup).depth
Finds setup (LastRow row words) word = IsRowSoFar setup (more words word)
Finds setup phase word = Unit {0}

-- what a directory try found can be that of a table, and each leaf that it makes can be spelled
pub record IsChange (setup : Setup) (attempt : DirectoryTry) (found : List (Option Op))
    (loaded : List LoadedBucket) : Type 0 where
  pub seats : length found ≤ seats_of setup
  pub depth : attempt.directory.depth ≤ (settings_of setup).depth
  pub root : attempt.root < 2 ^ 64 - 1
  pub leaves :
      All (λ leaf. IsBucket (settings_of setup) (row_of_state (base_of_leaf loaded leaf) leaf.bucket))
      (made_leaves setup attempt found loaded)

-- the row that a phase stores can be spelled
abbrev pub Makes : Setup → Phase → Type 0
Makes setup (TryStore round attempt found stored) =
    IsBucket (settings_of setup) (row_of_state (Some attempt.row) (made_bucket setup attempt found))
Makes setup (DirStore round attempt found loaded stored) = IsChange setup attempt found loaded
Makes setup Stuck = ⊥
Makes setup phase = Unit {0}

-- the most steps of a call
abbrev pub most_steps : Settings → Call → ℕ
most_steps settings call = if is_update call then step_bound settings else lookup_steps settings settings.items

-- one more step can be counted, and the call has not yet had all its steps
pub record Counts (setup : Setup) (used : SeatRows) (flight : Flight) : Type 0 where
  pub used_few : AreBelow (2 ^ 62) used
  pub steps : flight.steps < most_steps (settings_of setup) flight.call
  pub number : flight.number < setup.shape.limit
  pub small : flight.steps < 2 ^ 62

-- the step is on a word of the table, finds what a table holds there, and leads to where a row can be spelled
pub record StepFits (setup : Setup) (seat : ℕ) (used : SeatRows) (flight : Flight) (phase : Phase)
    (word : ℕ) : Type 0 where
  pub on_word : IsOnWord setup.shape (ask_in setup seat used flight phase)
  pub finds : Finds setup phase word
  pub makes : Makes setup (phase_after setup seat used flight phase word)
  pub counts : Counts setup used flight

-- every step of every run fits, that of a call in flight and the first of a call that may begin
abbrev pub EveryStepFits : Type 0
EveryStepFits =
    (setup : Setup) (events : List Event) (seat : ℕ) (asked : ℕ × Call) (state : SeatState) → IsRun setup events →
    seat < seats_of setup → seat_in (world_after setup events) seat ≡ state →
    MayStep setup seat asked state.account state.stand →
    StepFits setup seat state.account.used (flight_in state.account state.stand asked) (phase_in state.stand)
    (found_by setup (ask_of setup seat asked state) (world_after setup events).words)
