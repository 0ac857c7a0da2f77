-- What is told of a batch that was served.
use Rattle.std.proofs.Common.{◌≡◌, ℕ, ◌≤◌, List, length, map, sym, ap, ◌∙◌, subst, vec_len, arith}
use Rattle.std.specs.Prelude.{All}
use Rattle.std.proofs.lemmas.List.{length-map}
use Rattle.std.proofs.lemmas.List.Elements.{All-map, All-weaker}
use Rattle.plain_map.specs.declared.calls.Call.{Call}
use Rattle.trace_share.specs.declared.outcome.Outcome.{Outcome}
use Rattle.trace_share.specs.declared.outcome.Outcome.TheVariants.{Answered, Refused}
use Rattle.report_text.specs.Report.{call_in}
use Rattle.trace_share.specs.Outcomes.{asked_in, records_in}
use Rattle.batch_history.specs.Batches.{answered_then, with_counts}
use Rattle.std.proofs.lemmas.Simd.{map-map}
use Rattle.plain_map.specs.declared.records.Record.{Record}
use Rattle.batch_deals.specs.declared.service.Service.{Service}
use Rattle.batch_runner.specs.declared.batch.Batch.{Batch}
use Rattle.batch_deals.specs.Opens.{CanOpen, rules_of}
use Rattle.batch_runner.specs.Served.{Served, IsServed, history_in}
use Rattle.batch_runner.specs.Told.{CanGoOn, IsToldBy}
use Rattle.batch_deals.proofs.Deals.{long_dealt}
use Rattle.batch_runner.proofs.Rights.{can_open}
use Rattle.batch_runner.proofs.Counted.{short_asked, unmap_all}

-- as many outcomes are counted as there were calls
pub told_many : (service : Service) (served : Served) → IsServed service served →
    length (map (λ (o : ℕ × Outcome). o.1) served.outcomes) ≡ length served.calls
told_many service served is = length-map served.outcomes (λ (o : ℕ × Outcome). o.1)
    ∙ sym (length-map served.outcomes (λ (o : ℕ × Outcome). asked_in o.1)) ∙ ap length is.outcomes.asked

module _ (service : Service) (served : Served) (batch : Batch) (is : IsServed service served)
    (told : IsToldBy service served batch) where
  -- its pairs can open the next
  pub told_open : CanOpen (rules_of service) batch.pairs.items
  told_open = subst (CanOpen (rules_of service)) (sym told.pairs) (can_open service served is)

  -- there is a count for each seat
  pub told_seats : vec_len batch.answered ≡ service.settings.seats
  told_seats = omega (
    arith,
    batch.answered.ok.0,
    ap length told.answered,
    length-map served.logs (λ (log : List Outcome). length (records_in log)),
    ap length is.of_run.asked,
    length-map served.logs (λ (log : List Outcome). map asked_in log),
    long_dealt service.share service.settings.seats served.calls,
  )

  -- of no more calls than there are
  pub told_answered : All (λ count. count ≤ length served.calls) batch.answered.items
  told_answered = subst (All (λ count. count ≤ length served.calls)) (sym told.answered)
      (All-map (λ count. count ≤ length served.calls) (λ (log : List Outcome). length (records_in log)) served.logs
      (short_asked service served.calls served.logs is.of_run.asked))

  -- so the next batch can be opened, and its counts are small
  pub told_on : CanGoOn service served.calls batch
  told_on = record {
    reopens = told_open;
    seats = omega (arith, told_seats, service.settings.seats_in_range.1);
    answered = told_answered;
    counted = (map (λ (o : ℕ × Outcome). o.1) served.outcomes, told.totals, told_many service served is);
  }

  -- the answered ones are how many calls the seats have answered then
  pub told_then : (before : List ℕ) →
      with_counts before batch.answered.items ≡ answered_then before (history_in service served)
  told_then before = ap (with_counts before)
      (told.answered ∙ sym (map-map (λ (log : List Record). length log) records_in served.logs))

-- what holds of the calls that were asked holds of those that are told
pub told_calls : (P : Call → Type 0) (calls : List (ℕ × Call)) (outcomes : List (ℕ × Outcome)) →
    map (λ (o : ℕ × Outcome). asked_in o.1) outcomes ≡ calls → All (λ (call : ℕ × Call). P call.1) calls →
    All (λ (o : ℕ × Outcome). P (call_in o.1)) outcomes
told_calls P calls outcomes asked all =
    let Q : ℕ × Call → Type 0 = λ (call : ℕ × Call). P call.1 in
    All-weaker (λ (o : ℕ × Outcome). P (asked_in o.1).1) (λ (o : ℕ × Outcome). P (call_in o.1))
    (λ o. same_call o.1) outcomes
    (unmap_all Q (λ (o : ℕ × Outcome). asked_in o.1) outcomes (subst (All Q) (sym asked) all))
  where
    same_call : (o : Outcome) → P (asked_in o).1 → P (call_in o)
    same_call (Answered made) p = p
    same_call (Refused packet call full) p = p
