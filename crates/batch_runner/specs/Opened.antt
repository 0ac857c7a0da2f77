-- A batch whose table is open.
use Rattle.std.specs.Prelude.{◌≡◌, ℕ, List}
use Rattle.std.specs.List.{AllZip}
use Rattle.plain_map.specs.declared.calls.Call.{Call}
use Rattle.plain_map.specs.declared.keys.Pair.{Pair}
use Rattle.table_model.specs.Setup.{settings_of}
use Rattle.shared_table.specs.Values.{TableValue}
use Rattle.trace_share.specs.declared.outcome.Outcome.{Outcome}
use Rattle.batch_rows.specs.Depths.{IsTableFor}
use Rattle.batch_deals.specs.declared.service.Service.{Service}
use Rattle.batch_runner.specs.declared.workers.SeatWorker.{SeatWorker}
use Rattle.batch_runner.specs.Seats.{AreFresh, HasWorked}
use Rattle.batch_runner.specs.Served.{setup_in}
use Rattle.batch_deals.specs.Dealt.{shares_of}

-- its table is one for these pairs and calls, and has a worker for each seat, with the seat's share of the calls
pub record IsOpened {K : Type 0} (holds : K → List Outcome → Type 0) (room : K → ℕ) (service : Service)
    (first : List Pair) (calls : List (ℕ × Call)) (t : TableValue) (workers : List (SeatWorker K)) : Type 0 where
  pub table : IsTableFor service.settings service.hashing service.rows first calls (settings_of t.setup)
  pub setup : t.setup ≡ setup_in service (settings_of t.setup) first calls
  pub fresh : AreFresh holds room t 0 (shares_of service calls) workers

-- and its workers have made their calls
abbrev pub IsWorked : {K : Type 0} → (holds : K → List Outcome → Type 0) → (room : K → ℕ) → Service →
    (first : List Pair) → (calls : List (ℕ × Call)) → TableValue → List (SeatWorker K) → Type 0
IsWorked {K} holds room service first calls t workers =
    (started : List (SeatWorker K)) × IsOpened holds room service first calls t started
    × AllZip (HasWorked holds) started workers
