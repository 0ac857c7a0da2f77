-- The keys of the pairs that are left have texts, since those of all calls have.
use Rattle.std.proofs.Common.{◌≡◌, ℕ, List, [], ◌∷◌, ◌++◌, map, sym, subst}
use Rattle.std.specs.Prelude.{◌==◌}
use Rattle.std.specs.List.{All, filter, flat_map}
use Rattle.std.specs.FinMap.{empty}
use Rattle.std.proofs.lemmas.List.Elements.{All-append, All-cons, All-contains, All-filter, All-from_get_or, All-head, All-map, All-nil, All-tail}
use Rattle.std.proofs.lemmas.List.Sorted.{All-permutation}
use Rattle.plain_map.specs.declared.calls.Call.{Call}
use Rattle.plain_map.specs.declared.keys.Pair.{Pair}
use Rattle.plain_map.specs.declared.records.Record.{Record}
use Rattle.plain_map.specs.Calls.{key_in}
use Rattle.plain_map.specs.PlainObject.{Sessions, pairs_of}
use Rattle.plain_map.specs.History.{Placed, answered, call_in, pending, sessions_after}
use Rattle.plain_map.specs.Asked.{keys_asked, SessionsAreAsked}
use Rattle.plain_map.proofs.AskedLemmas.{All-unmap}
use Rattle.key_texts.specs.FlowText.{HasText}
use Rattle.trace_share.specs.declared.outcome.Outcome.{Outcome}
use Rattle.trace_share.specs.declared.outcome.Outcome.TheVariants.{Answered, Refused}
use Rattle.trace_share.specs.Outcomes.{asked_in, records_in}
use Rattle.report_text.specs.Report.{call_in as asked_of}
use Rattle.batch_history.specs.Batches.{Batch, all_calls, all_records, answered_then, gone_on}
use Rattle.batch_deals.specs.declared.service.Service.{Service}
use Rattle.batch_runner.specs.Served.{IsServed, Served, AreServed, history_in, pairs_left}
use Rattle.batch_deals.specs.Opens.{rules_of}
use Rattle.batch_runner.specs.Promises.{AreRight, ServedAreRight}
use Rattle.serve_modes.specs.Progress.{HasTexts}

-- the key of an outcome's call has a text
abbrev OfText : Outcome → Type 0
OfText outcome = HasText (key_in (asked_in outcome).1)

abbrev RecordOfText : Record → Type 0
RecordOfText r = HasText (key_in r.call)

-- the outcomes of calls whose keys have texts
texts_of : (outcomes : List (ℕ × Outcome)) (calls : List (ℕ × Call)) → map (λ o. asked_in o.1) outcomes ≡ calls →
    HasTexts calls → All (λ (o : ℕ × Outcome). OfText o.1) outcomes
texts_of outcomes calls asked texts =
    All-unmap (λ (call : ℕ × Call). HasText (key_in call.1)) (λ (o : ℕ × Outcome). asked_in o.1) outcomes
    (subst HasTexts (sym asked) texts)

-- so the report can print them
same_call : (o : ℕ × Outcome) → OfText o.1 → HasText (key_in (asked_of o.1))
same_call (seat, Answered made) text = text
same_call (seat, Refused packet call full) text = text

-- the records of a seat
texts-log : (log : List Outcome) → All OfText log → All RecordOfText (records_in log)
texts-log [] all = All-nil _
texts-log (Answered made ∷ log) all =
    All-cons RecordOfText made (records_in log) (All-head OfText (Answered made) log all)
    (texts-log log (All-tail OfText (Answered made) log all))
texts-log (Refused packet call full ∷ log) all = texts-log log (All-tail OfText (Refused packet call full) log all)

texts-logs : (logs : List (List Outcome)) → All (All OfText) logs →
    All RecordOfText (flat_map (λ (log : List Record). log) (map records_in logs))
texts-logs [] all = All-nil _
texts-logs (log ∷ logs) all =
    All-append RecordOfText (records_in log) (flat_map (λ (one : List Record). one) (map records_in logs))
    (texts-log log (All-head (All OfText) log logs all)) (texts-logs logs (All-tail (All OfText) log logs all))

-- of a batch
texts-batch : (service : Service) (served : Served) → IsServed service served → HasTexts served.calls →
    All RecordOfText (flat_map (λ (log : List Record). log) (map records_in served.logs))
texts-batch service served is texts =
    let outcomes : All (λ (o : ℕ × Outcome). OfText o.1) served.outcomes =
    texts_of served.outcomes served.calls is.outcomes.asked texts in
    texts-logs served.logs (All-from_get_or (All OfText) served.logs []
    (λ seat within. subst (All OfText) (is.outcomes.each seat within)
    (All-map OfText (λ (o : ℕ × Outcome). o.1) (filter (λ (o : ℕ × Outcome). o.0 == seat) served.outcomes)
    (All-filter (λ (o : ℕ × Outcome). o.0 == seat) (λ (o : ℕ × Outcome). OfText o.1) served.outcomes outcomes))))

-- of all batches, as they are numbered on
texts-records : (service : Service) (first : List Pair) (before : List ℕ) (batches : List Served) →
    AreServed service first batches → All (λ (batch : Served). HasTexts batch.calls) batches →
    All RecordOfText (all_records before (map (history_in service) batches))
texts-records service first before [] served texts = All-nil _
texts-records service first before (batch ∷ batches) served texts =
    let then : List ℕ = answered_then before (history_in service batch) in
    All-append RecordOfText
    (map (gone_on before) (flat_map (λ (log : List Record). log) (map records_in batch.logs)))
    (all_records then (map (history_in service) batches))
    (All-map RecordOfText (gone_on before) (flat_map (λ (log : List Record). log) (map records_in batch.logs))
    (texts-batch service batch served.1 (All-head (λ (one : Served). HasTexts one.calls) batch batches texts)))
    (texts-records service batch.pairs then batches served.2
    (All-tail (λ (one : Served). HasTexts one.calls) batch batches texts))

-- of the pairs that are left
pub texts-left : (service : Service) (batches : List Served) → ServedAreRight → SessionsAreAsked →
    AreServed service [] batches → All (λ (batch : Served). HasTexts batch.calls) batches →
    All (λ (pair : Pair). HasText pair.key) (pairs_left [] batches)
texts-left service batches law asked served texts =
    let right : AreRight service batches = law service batches served in
    let histories : List Batch = map (history_in service) batches in
    let order : List Placed = all_calls [] histories in
    let records : All (λ (placed : Placed). HasText (key_in (call_in placed)))
    (map answered (all_records [] histories) ++ map pending []) =
    All-append (λ (placed : Placed). HasText (key_in (call_in placed))) (map answered (all_records [] histories))
    (map pending [])
    (All-map (λ (placed : Placed). HasText (key_in (call_in placed))) answered (all_records [] histories)
    (texts-records service [] [] batches served texts)) (All-nil _) in
    let keys : All HasText (keys_asked order) =
    All-map HasText (λ (placed : Placed). key_in (call_in placed)) order
    (All-permutation (λ (placed : Placed). HasText (key_in (call_in placed)))
    (map answered (all_records [] histories) ++ map pending []) order right.one_order.whole records) in
    let held : All (λ (pair : Pair). HasText pair.key) (pairs_of (sessions_after (rules_of service) empty order)) =
    λ k d within. All-contains HasText (keys_asked order) _ keys (asked (rules_of service) order k d within) in
    subst (All (λ (pair : Pair). HasText pair.key)) (sym right.left)
    (subst (λ (sessions : Sessions). All (λ (pair : Pair). HasText pair.key) (pairs_of sessions))
    right.one_order.leaves held)
