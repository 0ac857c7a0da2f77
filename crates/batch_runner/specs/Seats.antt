-- The seats of a batch's table, in the order of their numbers, before and after they make their calls.
use Rattle.std.specs.Prelude.{◌≡◌, ℕ, suc, ◌+◌, ◌^◌, ◌<◌, ◌≤◌, All, List, [], ◌∷◌, Some, length, map, vec_len}
use Rattle.step_counts.specs.declared.rows.SeatRows.{SeatRows}
use Rattle.step_counts.specs.StepCounts.{need_of}
use Rattle.plain_map.specs.declared.calls.Call.{Call}
use Rattle.plain_map.specs.declared.records.Record.{Record}
use Rattle.plain_map.specs.Serving.{IsAskable}
use Rattle.word_rows.specs.Shape.{sizes_of}
use Rattle.table_model.specs.Setup.{settings_of}
use Rattle.shared_table.specs.SeatValues.{SeatValue, account_of}
use Rattle.shared_table.specs.Values.{IsOf, IsSame, TableValue, new_seat}
use Rattle.trace_share.specs.declared.outcome.Outcome.{Outcome}
use Rattle.trace_share.specs.Outcomes.{asked_in, ComesTo, records_in, RefusedByRoom}
use Rattle.batch_runner.specs.declared.workers.SeatWorker.{SeatWorker}

-- ---- a worker by itself

-- what a seat has answered and published, its ranges, and what an update may need
abbrev pub answered_by : SeatValue → List Record
answered_by s = (account_of s).records

abbrev pub spent_by : SeatValue → List SeatRows
spent_by s = (account_of s).spent

abbrev pub ranges_of : SeatValue → SeatRows
ranges_of s = sizes_of s.holding.setup.shape s.holding.seat

abbrev pub needed_by : SeatValue → SeatRows
needed_by s = need_of (settings_of s.holding.setup)

-- it has a seat of the table and has made no call, what it keeps has room for all, and its seat may be asked all
pub record MayWork {K : Type 0} (holds : K → List Outcome → Type 0) (room : K → ℕ) (t : TableValue)
    (w : SeatWorker K) : Type 0 where
  pub own : SeatValue
  pub seat : w.seat ≡ Some own
  pub of : IsOf t own
  pub none : holds w.kept []
  pub room_left : vec_len w.calls ≤ room w.kept
  pub askable : All (λ call. IsAskable call.1) w.calls.items
  pub countable : length (answered_by own) + vec_len w.calls < 2 ^ 32

-- its seat has made all its calls, and it has taken what they came to
pub record HasWorked {K : Type 0} (holds : K → List Outcome → Type 0) (was now : SeatWorker K) : Type 0 where
  pub before : SeatValue
  pub after : SeatValue
  pub had : was.seat ≡ Some before
  pub has : now.seat ≡ Some after
  pub log : List Outcome
  pub kept : holds now.kept log
  pub came_to : ComesTo answered_by spent_by ranges_of needed_by IsSame was.calls.items log before after

-- ---- the workers of a table

-- it has the seat with this number, which is new, these calls, and room for what comes of them
pub record IsFresh {K : Type 0} (holds : K → List Outcome → Type 0) (room : K → ℕ) (t : TableValue) (number : ℕ)
    (calls : List (ℕ × Call)) (w : SeatWorker K) : Type 0 where
  pub seat : w.seat ≡ Some (new_seat t number)
  pub calls_are : w.calls.items ≡ calls
  pub none : holds w.kept []
  pub room_left : vec_len w.calls ≤ room w.kept

-- so have these, from a number on, with these calls
abbrev pub AreFresh : {K : Type 0} → (holds : K → List Outcome → Type 0) → (room : K → ℕ) → TableValue → (number : ℕ) →
    List (List (ℕ × Call)) → List (SeatWorker K) → Type 0
AreFresh holds room t number [] [] = Unit {0}
AreFresh holds room t number (calls ∷ shares) (w ∷ workers) =
    IsFresh holds room t number calls w × AreFresh holds room t (suc number) shares workers
AreFresh holds room t number _ _ = ⊥

-- the seat with this number has made these calls, which came to this log
pub record HasMade (t : TableValue) (number : ℕ) (calls : List (ℕ × Call)) (s : SeatValue) (log : List Outcome) :
    Type 0 where
  pub of : IsOf t s
  pub number_is : s.holding.seat ≡ number
  pub asked : map asked_in log ≡ calls
  pub records : (account_of s).records ≡ records_in log
  pub refused :
      RefusedByRoom (sizes_of t.setup.shape number) (need_of (settings_of t.setup)) [] (account_of s).spent log

-- so have these, from a number on
abbrev pub HaveMade : TableValue → (number : ℕ) → List (List (ℕ × Call)) → List SeatValue → List (List Outcome) → Type 0
HaveMade t number [] [] [] = Unit {0}
HaveMade t number (calls ∷ shares) (s ∷ seats) (log ∷ logs) =
    HasMade t number calls s log × HaveMade t (suc number) shares seats logs
HaveMade t number _ _ _ = ⊥

-- a worker that has made its calls
pub record IsThrough {K : Type 0} (holds : K → List Outcome → Type 0) (t : TableValue) (number : ℕ)
    (calls : List (ℕ × Call)) (w : SeatWorker K) : Type 0 where
  pub log : List Outcome
  pub own : SeatValue
  pub seat : w.seat ≡ Some own
  pub made : HasMade t number calls own log
  pub kept : holds w.kept log

abbrev pub AreThrough : {K : Type 0} → (holds : K → List Outcome → Type 0) → TableValue → (number : ℕ) →
    List (List (ℕ × Call)) → List (SeatWorker K) → Type 0
AreThrough holds t number [] [] = Unit {0}
AreThrough holds t number (calls ∷ shares) (w ∷ workers) =
    IsThrough holds t number calls w × AreThrough holds t (suc number) shares workers
AreThrough holds t number _ _ = ⊥
