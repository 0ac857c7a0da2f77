-- The lines that are printed of batches are numbered seat by seat, over all batches.
use Rattle.std.proofs.Common.{◌≡◌, ◌<◌, ◌≤◌, ℕ, List, [], ◌∷◌, ◌++◌, Bool, true, false, cond, map, length, inl, inr, refl, sym, ap, ◌∙◌, arith, All}
use Rattle.std.specs.Prelude.{◌==◌, filter, flat_map, slice_index_or}
use Rattle.std.specs.FinMap.{empty}
use Rattle.std.proofs.lemmas.Bool.{cases_lt, ne_eqb}
use Rattle.std.proofs.lemmas.List.Elements.{All-head, All-tail}
use Rattle.plain_map.specs.declared.keys.Pair.{Pair}
use Rattle.trace_share.specs.declared.outcome.Outcome.{Outcome}
use Rattle.trace_share.specs.declared.outcome.Outcome.TheVariants.{Answered, Refused}
use Rattle.trace_share.specs.Outcomes.{record_in, records_in}
use Rattle.list_laws.proofs.Lists.{flat_map_append}
use Rattle.table_model.specs.Closed.{sessions_with}
use Rattle.batch_history.specs.Batches.{CallsAreNumberedOn, answered_then, gone_on, records_of, no_counts}
use Rattle.batch_answers.specs.Answers.{AreNone}
use Rattle.batch_answers.proofs.SeenCounts.{none_alike_lines}
use Rattle.report_text.specs.Report.{Batch as Lines}
use Rattle.batch_deals.specs.declared.service.Service.{Service}
use Rattle.batch_runner.specs.Served.{AreInPacketOrder, AreServed, Served, history_in, pairs_left}
use Rattle.batch_deals.specs.Opens.{rules_of}
use Rattle.batch_runner.specs.Printed.{all_lines, outcome_on}
use Rattle.batch_runner.proofs.Closings.{map_at, past}
use Rattle.batch_runner.proofs.Rights.{all_in_order}
use Rattle.report_promises.specs.Good.{AreCountedBySeat, answered_by}
use Rattle.serve_modes.specs.Served.{lines_in}

-- the answered calls of a seat are those of its outcomes
by_filter : (seat : ℕ) (outcomes : List (ℕ × Outcome)) →
    answered_by seat outcomes ≡ records_in (map (λ (o : ℕ × Outcome). o.1)
    (filter (λ (o : ℕ × Outcome). o.0 == seat) outcomes))
by_filter seat [] = refl
by_filter seat (o ∷ outcomes) = go (o.0 == seat) (by_filter seat outcomes)
  where
    others : List (ℕ × Outcome)
    others = filter (λ (p : ℕ × Outcome). p.0 == seat) outcomes

    go : (b : Bool) → answered_by seat outcomes ≡ records_in (map (λ (p : ℕ × Outcome). p.1) others) →
        cond b (record_in o.1) [] ++ answered_by seat outcomes
        ≡ records_in (map (λ (p : ℕ × Outcome). p.1) (cond b (o ∷ others) others))
    go true rest = ap (λ rs. record_in o.1 ++ rs) rest
    go false rest = rest

-- with numbers that go on
by_on : (before : List ℕ) (seat : ℕ) (outcomes : List (ℕ × Outcome)) →
    answered_by seat (map (λ (o : ℕ × Outcome). (o.0, outcome_on before o.1)) outcomes)
    ≡ map (gone_on before) (answered_by seat outcomes)
by_on before seat [] = refl
by_on before seat ((at, Answered r) ∷ outcomes) = go (at == seat) (by_on before seat outcomes)
  where
    go : (b : Bool) →
        answered_by seat (map (λ (o : ℕ × Outcome). (o.0, outcome_on before o.1)) outcomes)
        ≡ map (gone_on before) (answered_by seat outcomes) →
        cond b (gone_on before r ∷ []) []
        ++ answered_by seat (map (λ (o : ℕ × Outcome). (o.0, outcome_on before o.1)) outcomes)
        ≡ map (gone_on before) (cond b (r ∷ []) [] ++ answered_by seat outcomes)
    go true rest = ap (λ rs. gone_on before r ∷ rs) rest
    go false rest = rest
by_on before seat ((at, Refused packet call full) ∷ outcomes) = go (at == seat) (by_on before seat outcomes)
  where
    go : (b : Bool) →
        answered_by seat (map (λ (o : ℕ × Outcome). (o.0, outcome_on before o.1)) outcomes)
        ≡ map (gone_on before) (answered_by seat outcomes) →
        cond b [] [] ++ answered_by seat (map (λ (o : ℕ × Outcome). (o.0, outcome_on before o.1)) outcomes)
        ≡ map (gone_on before) (cond b [] [] ++ answered_by seat outcomes)
    go true rest = rest
    go false rest = rest

-- a seat that is none of them has none
by_none : (many seat : ℕ) (outcomes : List (ℕ × Outcome)) → All (λ (o : ℕ × Outcome). o.0 < many) outcomes →
    many ≤ seat → answered_by seat outcomes ≡ []
by_none many seat [] below beyond = refl
by_none many seat (o ∷ outcomes) below beyond =
    ap (λ b. cond b (record_in o.1) [] ++ answered_by seat outcomes)
    (ne_eqb o.0 seat (λ same. absurd (omega (
      arith,
      same,
      beyond,
      All-head (λ (p : ℕ × Outcome). p.0 < many) o outcomes below,
    ))))
    ∙ by_none many seat outcomes (All-tail (λ (p : ℕ × Outcome). p.0 < many) o outcomes below) beyond

-- those of a batch are the seat's log
by_log : (service : Service) (batch : Served) → AreInPacketOrder batch.calls batch.logs batch.outcomes →
    (seat : ℕ) → answered_by seat batch.outcomes ≡ slice_index_or (history_in service batch).logs seat []
by_log service batch in_order seat = elim (cases_lt seat (length batch.logs)) [
  | inl within ↦ by_filter seat batch.outcomes ∙ ap records_in (in_order.each seat within)
      ∙ sym (map_at records_in batch.logs seat [] [] refl)
  | inr beyond ↦ by_none (length batch.logs) seat batch.outcomes in_order.seats beyond
      ∙ sym (map_at records_in batch.logs seat [] [] refl ∙ ap records_in (past batch.logs seat [] beyond))
]

-- and those of all batches are all that the seat answered
by_all : (service : Service) (before : List ℕ) (first : List Pair) (batches : List Served) →
    AreServed service first batches → (seat : ℕ) →
    answered_by seat (flat_map (λ (lines : Lines). lines.outcomes) (all_lines service before batches))
    ≡ records_of before (map (history_in service) batches) seat
by_all service before first [] are seat = refl
by_all service before first (batch ∷ batches) are seat =
    let then : List ℕ = answered_then before (history_in service batch) in
    let here : List (ℕ × Outcome) = map (λ (o : ℕ × Outcome). (o.0, outcome_on before o.1)) batch.outcomes in
    let later : List (ℕ × Outcome) = flat_map (λ (lines : Lines). lines.outcomes) (all_lines service then batches) in
    flat_map_append (λ (line : ℕ × Outcome). cond (line.0 == seat) (record_in line.1) []) here later
    ∙ ap (λ rs. rs ++ answered_by seat later)
    (by_on before seat batch.outcomes ∙ ap (map (gone_on before)) (by_log service batch are.1.outcomes seat))
    ∙ ap (λ rs. map (gone_on before) (slice_index_or (history_in service batch).logs seat []) ++ rs)
    (by_all service then batch.pairs batches are.2 seat)

-- so they are numbered
pub lines_counted : CallsAreNumberedOn → AreNone no_counts → (service : Service) (batches : List Served) →
    AreServed service [] batches → AreCountedBySeat (lines_in service batches)
lines_counted numbered none service batches are seat front back r is =
    numbered (rules_of service) empty (sessions_with (rules_of service) (pairs_left [] batches))
    (map (history_in service) batches) seat front back r (all_in_order service [] batches are)
    (sym (by_all service [] [] batches are seat)
    ∙ ap (λ all. answered_by seat (flat_map (λ (lines : Lines). lines.outcomes) all))
    (sym (none_alike_lines service no_counts [] batches none are)) ∙ is)
