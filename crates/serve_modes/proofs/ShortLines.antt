-- No update that is printed took more steps than the bound.
use Rattle.std.proofs.Common.{ℕ, List, [], ◌∷◌, map, sym, subst, arith, All}
use Rattle.std.specs.Prelude.{flat_map}
use Rattle.std.proofs.lemmas.List.Elements.{All-append, All-head, All-map, All-nil, All-tail, All-weaker}
use Rattle.std.proofs.lemmas.List.Folds.{flat_map-map}
use Rattle.std.proofs.lemmas.List.Sorted.{All-permutation}
use Rattle.step_counts.specs.StepCounts.{step_bound}
use Rattle.plain_map.specs.declared.records.Record.{Record}
use Rattle.trace_share.specs.Outcomes.{records_in}
use Rattle.table_model.specs.Promises.{HasSteps}
use Rattle.batch_history.specs.Batches.{all_records, answered_then, gone_on, no_counts}
use Rattle.batch_answers.specs.Answers.{printed_in}
use Rattle.batch_answers.proofs.Printed.{printed_are}
use Rattle.batch_deals.specs.declared.service.Service.{Service}
use Rattle.batch_runner.specs.Served.{AreServed, Served, history_in, setup_of_batch}
use Rattle.batch_runner.specs.Promises.{IsSound}
use Rattle.serve_modes.specs.Served.{IsWithin}

-- no update of a sound batch took more steps than the bound, in whatever order its calls are told
sound_within : (service : Service) (batch : Served) → IsSound service batch →
    All (IsWithin (step_bound service.settings)) (flat_map (λ (log : List Record). log) (map records_in batch.logs))
sound_within service batch sound =
    All-weaker (HasSteps (setup_of_batch service batch) batch.words) (IsWithin (step_bound service.settings))
    (λ r has update. omega (arith, has.0 update, sound.bound))
    (flat_map (λ (log : List Record). log) (map records_in batch.logs))
    (subst (All (HasSteps (setup_of_batch service batch) batch.words))
    (sym (flat_map-map (λ (log : List Record). log) records_in batch.logs)) sound.steps)

-- nor did one of all batches, with numbers that go on
all_within : (service : Service) (before : List ℕ) (batches : List Served) → All (IsSound service) batches →
    All (IsWithin (step_bound service.settings)) (all_records before (map (history_in service) batches))
all_within service before [] sound = All-nil (IsWithin (step_bound service.settings))
all_within service before (batch ∷ batches) sound =
    let most : ℕ = step_bound service.settings in
    let then : List ℕ = answered_then before (history_in service batch) in
    let answers : List Record = flat_map (λ (log : List Record). log) (map records_in batch.logs) in
    All-append (IsWithin most) (map (gone_on before) answers) (all_records then (map (history_in service) batches))
    (All-map (IsWithin most) (gone_on before) answers
    (sound_within service batch (All-head (IsSound service) batch batches sound)))
    (all_within service then batches (All-tail (IsSound service) batch batches sound))

-- so it is with those that are printed
pub lines_within : (service : Service) (batches : List Served) → AreServed service [] batches →
    All (IsSound service) batches →
    All (IsWithin (step_bound service.settings)) (printed_in service no_counts batches)
lines_within service batches are sound =
    All-permutation (IsWithin (step_bound service.settings))
    (all_records no_counts (map (history_in service) batches)) (printed_in service no_counts batches)
    (printed_are service no_counts [] batches are) (all_within service no_counts batches sound)
