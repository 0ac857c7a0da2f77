-- The lines of a report of `serve`: what was asked on them and by whom, which calls they answer, and in which order.
use Rattle.std.proofs.Common.{◌≡◌, ◌<◌, ℕ, List, [], ◌∷◌, ◌++◌, map, length, refl, sym, ap, ◌∙◌, subst}
use Rattle.std.specs.Prelude.{All, flat_map}
use Rattle.std.proofs.lemmas.List.{length-map, map-append}
use Rattle.std.proofs.lemmas.List.Elements.{All-append, All-map, All-nil}
use Rattle.plain_map.specs.declared.calls.Call.{Call}
use Rattle.plain_map.specs.declared.keys.Pair.{Pair}
use Rattle.plain_map.specs.declared.records.CallId.{CallId}
use Rattle.plain_map.specs.declared.records.Record.{Record}
use Rattle.plain_map.specs.History.{Placed, answered, ids_of, packet_of, pending}
use Rattle.trace_share.specs.declared.outcome.Outcome.{Outcome}
use Rattle.trace_share.specs.declared.outcome.Outcome.TheVariants.{Answered, Refused}
use Rattle.trace_share.specs.Outcomes.{asked_in, record_in}
use Rattle.batch_history.specs.Batches.{all_calls, answered_then, placed_on}
use Rattle.report_text.specs.Report.{Batch as Lines}
use Rattle.batch_deals.specs.declared.service.Service.{Service}
use Rattle.batch_runner.specs.Served.{AreServed, Served, history_in, order_in}
use Rattle.batch_runner.specs.Printed.{all_lines, answers_in, outcome_on}
use Rattle.batch_answers.specs.Answers.{printed_in}
use Rattle.batch_answers.proofs.Served.{few_logs}
use Rattle.report_promises.specs.Good.{answered_on, calls_ended}

-- an outcome with its seat, as it is printed
abbrev pub printed_on : (before : List ℕ) → ℕ × Outcome → ℕ × Outcome
printed_on before o = (o.0, outcome_on before o.1)

-- the lines of these batches
abbrev pub lines_from : Service → (before : List ℕ) → List Served → List (ℕ × Outcome)
lines_from service before batches = flat_map (λ (lines : Lines). lines.outcomes) (all_lines service before batches)

-- ---- what was asked

-- what is printed of a call is what was asked
asked_on : (before : List ℕ) (outcome : Outcome) → asked_in (outcome_on before outcome) ≡ asked_in outcome
asked_on before (Answered r) = refl
asked_on before (Refused packet call full) = refl

-- so it is on the lines of a batch
asked_lines : (before : List ℕ) (outcomes : List (ℕ × Outcome)) →
    calls_ended (map (printed_on before) outcomes) ≡ calls_ended outcomes
asked_lines before [] = refl
asked_lines before (o ∷ outcomes) =
    let rest = asked_lines before outcomes in
    λ i. asked_on before o.1 i ∷ rest i

-- the lines of all batches are of the calls of all batches
pub asked_all : (service : Service) (before : List ℕ) (first : List Pair) (batches : List Served) →
    AreServed service first batches →
    calls_ended (lines_from service before batches)
    ≡ flat_map (λ (calls : List (ℕ × Call)). calls) (map (λ (batch : Served). batch.calls) batches)
asked_all service before first [] are = refl
asked_all service before first (batch ∷ batches) are =
    let then : List ℕ = answered_then before (history_in service batch) in
    let later : List (ℕ × Outcome) = lines_from service then batches in
    map-append (λ (line : ℕ × Outcome). asked_in line.1) (map (printed_on before) batch.outcomes) later
    ∙ ap (λ (calls : List (ℕ × Call)). calls ++ calls_ended later)
    (asked_lines before batch.outcomes ∙ are.1.outcomes.asked)
    ∙ ap (λ (calls : List (ℕ × Call)). batch.calls ++ calls) (asked_all service then batch.pairs batches are.2)

-- so there are as many lines as calls
pub many_lines : (lines : List (ℕ × Outcome)) → length lines ≡ length (calls_ended lines)
many_lines lines = sym (length-map lines (λ (line : ℕ × Outcome). asked_in line.1))

-- ---- by whom

-- each line is of a seat of the table
pub seats_all : (service : Service) (before : List ℕ) (first : List Pair) (batches : List Served) →
    AreServed service first batches →
    All (λ (line : ℕ × Outcome). line.0 < service.settings.seats) (lines_from service before batches)
seats_all service before first [] are = All-nil _
seats_all service before first (batch ∷ batches) are =
    let then : List ℕ = answered_then before (history_in service batch) in
    let here : List (ℕ × Outcome) = map (printed_on before) batch.outcomes in
    All-append (λ (line : ℕ × Outcome). line.0 < service.settings.seats) here (lines_from service then batches)
    (subst (λ (many : ℕ). All (λ (line : ℕ × Outcome). line.0 < many) here) (few_logs service batch are.1)
    (All-map (λ (line : ℕ × Outcome). line.0 < length batch.logs) (printed_on before) batch.outcomes
    are.1.outcomes.seats))
    (seats_all service then batch.pairs batches are.2)

-- ---- which calls they answer

-- the answered calls of lines are those of their outcomes
answered_lines : (lines : List (ℕ × Outcome)) →
    answered_on lines ≡ answers_in (map (λ (line : ℕ × Outcome). line.1) lines)
answered_lines [] = refl
answered_lines (line ∷ lines) = ap (λ (rs : List Record). record_in line.1 ++ rs) (answered_lines lines)

-- the outcomes of batches of lines are those of all their lines
outcomes_joined : (batches : List Lines) →
    flat_map (λ (lines : Lines). map (λ (o : ℕ × Outcome). o.1) lines.outcomes) batches
    ≡ map (λ (o : ℕ × Outcome). o.1) (flat_map (λ (lines : Lines). lines.outcomes) batches)
outcomes_joined [] = refl
outcomes_joined (lines ∷ batches) =
    ap (λ (os : List Outcome). map (λ (o : ℕ × Outcome). o.1) lines.outcomes ++ os) (outcomes_joined batches)
    ∙ sym (map-append (λ (o : ℕ × Outcome). o.1) lines.outcomes
    (flat_map (λ (more : Lines). more.outcomes) batches))

-- so those of all batches are the answered calls as they are printed
pub answered_printed : (service : Service) (before : List ℕ) (batches : List Served) →
    answered_on (lines_from service before batches) ≡ printed_in service before batches
answered_printed service before batches =
    answered_lines (lines_from service before batches)
    ∙ ap answers_in (sym (outcomes_joined (all_lines service before batches)))

-- ---- in which order

-- the packets of a batch's order are those of its calls, as they stand in the order of all
packets_on : (before : List ℕ) (order : List Placed) →
    map (λ (id : CallId). id.packet) (ids_of order) ≡ map packet_of (map (placed_on before) order)
packets_on before [] = refl
packets_on before (answered r ∷ order) = ap (λ (packets : List ℕ). r.packet ∷ packets) (packets_on before order)
packets_on before (pending u ∷ order) = ap (λ (packets : List ℕ). u.packet ∷ packets) (packets_on before order)

-- so those of all orders are the packets of all calls, whatever counts are printed
pub packets_all : (service : Service) (printed before : List ℕ) (batches : List Served) →
    map (λ (id : CallId). id.packet) (flat_map (λ (lines : Lines). lines.order) (all_lines service printed batches))
    ≡ map packet_of (all_calls before (map (history_in service) batches))
packets_all service printed before [] = refl
packets_all service printed before (batch ∷ batches) =
    let order : List Placed = order_in service batch in
    let wrote : List ℕ = answered_then printed (history_in service batch) in
    let then : List ℕ = answered_then before (history_in service batch) in
    let later : List CallId = flat_map (λ (lines : Lines). lines.order) (all_lines service wrote batches) in
    map-append (λ (id : CallId). id.packet) (ids_of order) later
    ∙ ap (λ (packets : List ℕ). packets ++ map (λ (id : CallId). id.packet) later) (packets_on before order)
    ∙ ap (λ (packets : List ℕ). map packet_of (map (placed_on before) order) ++ packets)
    (packets_all service wrote then batches)
    ∙ sym (map-append packet_of (map (placed_on before) order) (all_calls then (map (history_in service) batches)))

-- ---- calls under way

-- there are none
pub none_begun : (service : Service) (before : List ℕ) (batches : List Served) →
    flat_map (λ (lines : Lines). lines.pending) (all_lines service before batches) ≡ []
none_begun service before [] = refl
none_begun service before (batch ∷ batches) =
    none_begun service (answered_then before (history_in service batch)) batches
