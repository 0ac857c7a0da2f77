-- A batch, served on a table whose rows are those that the batch's own calls can need: no call is refused.
-- Source: this project's own.
use Rattle.std.specs.Prelude.{◌≡◌, ℕ, ◌<◌, List, [], map, flat_map, slice_index_or, All, None, IsPermutation}
use Rattle.step_counts.specs.StepCounts.{need_of}
use Rattle.plain_map.specs.declared.calls.Call.{Call}
use Rattle.word_rows.specs.Shape.{sizes_of}
use Rattle.table_model.specs.declared.events.Event.{Event}
use Rattle.table_model.specs.Setup.{Setup, settings_of, seats_of}
use Rattle.table_model.specs.SeatStates.{SeatState, Idle}
use Rattle.table_model.specs.Worlds.{IsRun, world_after, seat_in}
use Rattle.bound_laws.specs.Moments.{asked_of}
use Rattle.trace_share.specs.declared.outcome.Outcome.{Outcome}
use Rattle.trace_share.specs.declared.outcome.Outcome.TheVariants.{Answered}
use Rattle.trace_share.specs.Outcomes.{asked_in, full_in, records_in, RefusedByRoom}
use Rattle.batch_rows.specs.BatchRows.{rows_of}

-- these logs are of a run: the seats made the calls of their shares, each in its turn, and are idle in the end. Each
-- call was answered, or refused exactly where too little was left of its seat's ranges
pub record AreLogsOf (setup : Setup) (events : List Event) (shares : List (List (ℕ × Call)))
    (logs : List (List Outcome)) : Type 0 where
  pub run : IsRun setup events
  pub idle : All (λ (state : SeatState). state.stand ≡ Idle) (world_after setup events).seats
  pub asked : map (λ log. map asked_in log) logs ≡ shares
  pub records :
      map (λ log. records_in log) logs
      ≡ map (λ (state : SeatState). state.account.records) (world_after setup events).seats
  pub refused : (seat : ℕ) → seat < seats_of setup →
      RefusedByRoom (sizes_of setup.shape seat) (need_of (settings_of setup)) []
      (seat_in (world_after setup events) seat).account.spent (slice_index_or logs seat [])

-- none of the calls was refused
abbrev pub NoneRefused : List Outcome → Type 0
NoneRefused log = All (λ outcome. full_in outcome ≡ None) log

-- where no rows are given, no call of a batch is refused: its shares are the batch's calls, each once
abbrev pub BatchIsAnswered : Type 0
BatchIsAnswered =
    (setup : Setup) (events : List Event) (calls : List (ℕ × Call)) (shares : List (List (ℕ × Call)))
    (logs : List (List Outcome)) → IsPermutation (flat_map (λ share. share) shares) calls →
    setup.shape.ranges ≡ rows_of (settings_of setup) setup.hashing None setup.first calls shares →
    AreLogsOf setup events shares logs → All NoneRefused logs

-- then each has its record
abbrev pub AnsweredAreRecords : Type 0
AnsweredAreRecords =
    (log : List Outcome) → NoneRefused log →
    (log ≡ map Answered (records_in log)) × (map asked_of (records_in log) ≡ map asked_in log)
