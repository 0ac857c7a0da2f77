-- The calls that are printed are those of the one order.
use Rattle.std.proofs.Common.{◌≡◌, ℕ, List, [], ◌∷◌, ◌++◌, map, refl, sym, ap, ◌∙◌, subst}
use Rattle.std.specs.Prelude.{flat_map, IsPermutation}
use Rattle.std.specs.FinMap.{empty}
use Rattle.std.proofs.lemmas.List.Sorted.{IsPermutation-refl, IsPermutation-trans, IsPermutation-sym, IsPermutation-map, IsPermutation-append, IsPermutation-append_left}
use Rattle.plain_map.specs.declared.keys.Pair.{Pair}
use Rattle.plain_map.specs.History.{answered, Whole}
use Rattle.table_model.specs.Closed.{sessions_with}
use Rattle.list_laws.proofs.Lists.{flat_map_append}
use Rattle.trace_share.specs.declared.outcome.Outcome.{Outcome}
use Rattle.trace_share.specs.declared.outcome.Outcome.TheVariants.{Answered, Refused}
use Rattle.trace_share.specs.Outcomes.{record_in, records_in}
use Rattle.batch_history.specs.Batches.{all_calls, all_records, answered_then, gone_on}
use Rattle.batch_history.proofs.OneOrder.{batches_are_one_order}
use Rattle.batch_laws.proofs.Lines.{line_is_permuted}
use Rattle.batch_deals.specs.declared.service.Service.{Service}
use Rattle.batch_runner.specs.Served.{Served, AreServed, history_in, pairs_left}
use Rattle.batch_deals.specs.Opens.{rules_of}
use Rattle.batch_runner.specs.Printed.{all_lines, answers_in, outcome_on}
use Rattle.batch_runner.proofs.Rights.{all_in_order}
use Rattle.batch_answers.specs.Answers.{printed_in, PrintedStandOnce}
use Rattle.batch_answers.proofs.SeenCounts.{none_alike_lines}
use Rattle.batch_answers.proofs.Served.{line_is}

-- the records of outcomes whose numbers have gone on
records_on : (before : List ℕ) (outcomes : List (ℕ × Outcome)) →
    records_in (map (λ (o : ℕ × Outcome). o.1) (map (λ (o : ℕ × Outcome). (o.0, outcome_on before o.1)) outcomes))
    ≡ map (gone_on before) (records_in (map (λ (o : ℕ × Outcome). o.1) outcomes))
records_on before [] = refl
records_on before ((at, Answered r) ∷ outcomes) = ap (λ rs. gone_on before r ∷ rs) (records_on before outcomes)
records_on before ((at, Refused packet call full) ∷ outcomes) = records_on before outcomes

-- what is printed of a batch, and of the others
printed_both : (service : Service) (before : List ℕ) (batch : Served) (batches : List Served) →
    printed_in service before (batch ∷ batches)
    ≡ map (gone_on before) (records_in (map (λ (o : ℕ × Outcome). o.1) batch.outcomes))
    ++ printed_in service (answered_then before (history_in service batch)) batches
printed_both service before batch batches =
    let then = answered_then before (history_in service batch) in
    flat_map_append record_in
    (map (λ (o : ℕ × Outcome). o.1) (map (λ (o : ℕ × Outcome). (o.0, outcome_on before o.1)) batch.outcomes))
    (flat_map (λ lines. map (λ o. o.1) lines.outcomes) (all_lines service then batches))
    ∙ ap (λ rs. rs ++ printed_in service then batches) (records_on before batch.outcomes)

-- it is what was answered, in another order
pub printed_are : (service : Service) (before : List ℕ) (first : List Pair) (batches : List Served) →
    AreServed service first batches →
    IsPermutation (all_records before (map (history_in service) batches)) (printed_in service before batches)
printed_are service before first [] are = IsPermutation-refl []
printed_are service before first (batch ∷ batches) are =
    let then = answered_then before (history_in service batch) in
    let logs = map records_in batch.logs in
    let line = records_in (map (λ (o : ℕ × Outcome). o.1) batch.outcomes) in
    subst (IsPermutation (all_records before (map (history_in service) (batch ∷ batches))))
    (sym (printed_both service before batch batches))
    (IsPermutation-append (map (gone_on before) (flat_map (λ log. log) logs)) (map (gone_on before) line)
    (all_records then (map (history_in service) batches)) (printed_in service then batches)
    (IsPermutation-map (gone_on before) (flat_map (λ log. log) logs) line
    (line_is_permuted logs line (line_is service batch are.1)))
    (printed_are service then batch.pairs batches are.2))

pub printed_stand_once : PrintedStandOnce
printed_stand_once service before batches none are =
    let histories = map (history_in service) batches in
    let printed = printed_in service [] batches in
    let one = batches_are_one_order (rules_of service) empty
    (sessions_with (rules_of service) (pairs_left [] batches)) histories (all_in_order service [] batches are) in
    let same : printed_in service before batches ≡ printed =
    (λ i. answers_in (flat_map (λ lines. map (λ o. o.1) lines.outcomes)
    (none_alike_lines service before [] batches none are i))) in
    subst (λ rs. Whole rs [] (all_calls [] histories)) (sym same)
    (IsPermutation-trans (map answered printed ++ []) (map answered (all_records [] histories) ++ [])
    (all_calls [] histories)
    (IsPermutation-append_left [] (map answered printed) (map answered (all_records [] histories))
    (IsPermutation-map answered printed (all_records [] histories)
    (IsPermutation-sym (all_records [] histories) printed (printed_are service [] [] batches are)))) one.whole)
