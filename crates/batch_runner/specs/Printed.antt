-- What is printed of batches that were served: the numbers of a seat's calls go on from batch to batch, and so does
-- what was seen. Source: this project's own; the lines are those of the report.
use Rattle.std.specs.Prelude.{◌≡◌, ℕ, ◌^◌, not, List, [], ◌∷◌, All, map, max, fold, filter, flat_map, count_by, is_some}
use Rattle.plain_map.specs.declared.calls.Call.{Call}
use Rattle.plain_map.specs.declared.records.Record.{Record}
use Rattle.plain_map.specs.History.{ids_of}
use Rattle.plain_map.specs.Calls.{is_update, key_in}
use Rattle.key_texts.specs.FlowText.{HasText}
use Rattle.table_model.specs.Order.{order_of}
use Rattle.table_model.specs.Closing.{IsOfARun, closing_with}
use Rattle.shared_table.specs.Values.{ClosedValue}
use Rattle.trace_share.specs.declared.outcome.Outcome.{Outcome}
use Rattle.trace_share.specs.Outcomes.{asked_in, full_in, record_in, records_in}
use Rattle.report_text.specs.Report.{Batch as Lines, batch_lines}
use Rattle.batch_history.specs.Batches.{answered_then}
pub use Rattle.report_text.specs.Report.{outcome_on}
use Rattle.batch_deals.specs.declared.service.Service.{Service}
use Rattle.batch_deals.specs.Dealt.{shares_of}
use Rattle.batch_runner.specs.Served.{AreInPacketOrder, Served, history_in, order_in}

-- so many calls a seat has answered at most before a batch
abbrev pub BEFORE_LIMIT : ℕ
BEFORE_LIMIT = 2 ^ 31

-- the lines of a batch: its order names calls as the batch counts them, and prints their packets
abbrev pub lines_of : Service → (before : List ℕ) → Served → Lines
lines_of service before batch = record {
  outcomes = map (λ o. (o.0, outcome_on before o.1)) batch.outcomes;
  pending = [];
  order = ids_of (order_in service batch);
}

-- the lines of all batches
abbrev pub all_lines : Service → (before : List ℕ) → List Served → List Lines
all_lines service before [] = []
all_lines service before (batch ∷ batches) =
    lines_of service before batch ∷ all_lines service (answered_then before (history_in service batch)) batches

-- how many calls the seats have answered after all of them
abbrev pub answered_in_all : Service → (before : List ℕ) → List Served → List ℕ
answered_in_all service before [] = before
answered_in_all service before (batch ∷ batches) =
    answered_in_all service (answered_then before (history_in service batch)) batches

-- all outcomes, in packet order
abbrev pub outcomes_in : List Served → List Outcome
outcomes_in batches = flat_map (λ batch. map (λ o. o.1) batch.outcomes) batches

-- all answered calls, in packet order, as their batches count them
abbrev pub answers_in : List Outcome → List Record
answers_in outcomes = flat_map record_in outcomes

-- how many were refused
abbrev pub refused_in : List Outcome → ℕ
refused_in outcomes = count_by (λ outcome. is_some (full_in outcome)) outcomes

-- the most steps of these calls, 0 where there is none
abbrev pub most_steps : List Record → ℕ
most_steps records = fold (λ most r. max most r.steps) 0 records

-- of the answered updates, and of the lookups
abbrev pub update_steps_in : List Outcome → ℕ
update_steps_in outcomes = most_steps (filter (λ r. is_update r.call) (answers_in outcomes))

abbrev pub lookup_steps_in : List Outcome → ℕ
lookup_steps_in outcomes = most_steps (filter (λ r. not (is_update r.call)) (answers_in outcomes))

-- The lines of a batch can be written: its calls have texts, and the closed table and the logs of its seats are what a
-- run leaves in which these made them.
pub record CanBeTold (service : Service) (calls : List (ℕ × Call)) (closed : ClosedValue)
    (logs : List (List Outcome)) : Type 0 where
  pub texts : All (λ call. HasText (key_in call.1)) calls
  pub asked : map (map asked_in) logs ≡ shares_of service calls
  pub of_a_run : IsOfARun closed.shape closed.words (map records_in logs) []

-- these are its lines: those of outcomes in packet order, and of the order of its answered calls
abbrev pub AreLines : Service → (before : List ℕ) → (calls : List (ℕ × Call)) → (closed : ClosedValue) →
    (logs : List (List Outcome)) → List ℕ → Type 0
AreLines service before calls closed logs lines =
    (outcomes : List (ℕ × Outcome)) × AreInPacketOrder calls logs outcomes
    × (lines ≡ batch_lines service.settings.seats (record {
      outcomes = map (λ o. (o.0, outcome_on before o.1)) outcomes;
      pending = [];
      order = ids_of (order_of closed.shape (closing_with closed.words (map records_in logs) []));
    }))
