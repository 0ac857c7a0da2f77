-- The lines of a batch as they come.
use Rattle.std.proofs.Common.{◌≡◌, ℕ, List, [], ◌++◌, map, refl, sym, ap, ◌∙◌}
use Rattle.std.specs.Prelude.{flat_map}
use Rattle.std.specs.Borrow.{Bor}
use Rattle.std.proofs.lemmas.List.Folds.{flat_map-map}
use Rattle.plain_map.specs.declared.calls.Call.{Call}
use Rattle.plain_map.specs.declared.keys.Pair.{Pair}
use Rattle.plain_map.specs.declared.records.CallId.{CallId}
use Rattle.plain_map.specs.History.{ids_of}
use Rattle.word_rows.specs.Shape.{Shape}
use Rattle.table_model.specs.Order.{order_of}
use Rattle.table_model.specs.Closing.{closing_with}
use Rattle.shared_table.specs.Values.{ClosedValue}
use Rattle.trace_share.specs.declared.outcome.Outcome.{Outcome}
use Rattle.trace_share.specs.Outcomes.{records_in}
use Rattle.report_text.specs.Report.{Batch as Lines, batch_lines, order_lines, outcome_line}
use Rattle.batch_deals.specs.declared.service.Service.{Service}
use Rattle.batch_runner.specs.declared.batch.Batch.{Batch}
use Rattle.batch_runner.specs.Printed.{AreLines, lines_of, outcome_on}
use Rattle.batch_runner.specs.Told.{HasOutcomes, IsClosedBatch, read_there, served_with}

-- the line of an outcome
abbrev pub line_on : (seats : ℕ) (before : List ℕ) → ℕ × Outcome → List ℕ
line_on seats before o = outcome_line seats o.0 (outcome_on before o.1)

-- the lines of these outcomes and of this order
abbrev pub lines_with : (before : List ℕ) → List (ℕ × Outcome) → List CallId → Lines
lines_with before outcomes order = record {
  outcomes = map (λ o. (o.0, outcome_on before o.1)) outcomes;
  pending = [];
  order = order;
}

-- all of them, read where they stand, are those of a batch
pub lines_are : (seats : ℕ) (before : List ℕ) (outcomes : List (ℕ × Bor Outcome)) (order : List CallId) →
    flat_map (λ o. line_on seats before (o.0, o.1.now)) outcomes ++ order_lines order
    ≡ batch_lines seats (lines_with before (read_there outcomes) order)
unfolding batch_lines
lines_are seats before outcomes order =
    ap (λ (ls : List ℕ). ls ++ order_lines order)
    (sym (flat_map-map (line_on seats before) (λ (o : ℕ × Bor Outcome). (o.0, o.1.now)) outcomes))
    ∙ ap (λ (ls : List ℕ). ls ++ order_lines order)
    (sym (flat_map-map (λ (o : ℕ × Outcome). outcome_line seats o.0 o.1)
    (λ (o : ℕ × Outcome). (o.0, outcome_on before o.1)) (read_there outcomes)))

module _ (service : Service) (before : List ℕ) (first : List Pair) (calls : List (ℕ × Call)) (closed : ClosedValue)
    (logs : List (List Outcome)) (batch : Batch) where
  -- the order of a closed table with this shape
  abbrev ids_with : Shape → List CallId
  ids_with shape = ids_of (order_of shape (closing_with closed.words (map records_in logs) []))

  -- what can be told of a closed batch are the lines of it as it was served with these outcomes
  pub lines_served : (lines : List ℕ) → IsClosedBatch service first calls closed logs →
      (are : AreLines service before calls closed logs lines) →
      lines ≡ batch_lines service.settings.seats
      (lines_of service before (served_with first calls logs closed are.0 batch))
  lines_served lines is are = are.2
      ∙ ap (λ (shape : Shape). batch_lines service.settings.seats (lines_with before are.0 (ids_with shape)))
      is.shape_is

  -- there are some
  pub some_lines : HasOutcomes service first calls logs closed batch →
      (lines : List ℕ) × AreLines service before calls closed logs lines
  some_lines has = (
    batch_lines service.settings.seats (lines_with before has.some.0 (ids_with closed.shape)),
    (has.some.0, has.some.1, refl),
  )
