-- What is answered over all batches.
use Rattle.std.proofs.Common.{◌≡◌, ℕ, ◌%◌, List, [], ◌∷◌, ◌++◌, length, map, refl, inl, inr, sym, ap, ◌∙◌, subst}
use Rattle.std.specs.Prelude.{All, None}
use Rattle.std.specs.FinMap.{empty}
use Rattle.std.proofs.lemmas.List.{length-map, map-append}
use Rattle.std.proofs.lemmas.List.Elements.{All-nil, All-cons, All-append}
use Rattle.plain_map.specs.declared.keys.Pair.{Pair}
use Rattle.plain_map.specs.declared.records.Record.{Record}
use Rattle.plain_map.specs.Calls.{key_in}
use Rattle.plain_map.specs.PlainObject.{pairs_of}
use Rattle.plain_map.specs.History.{answered, Legal, sessions_after}
use Rattle.table_model.specs.Closed.{sessions_with}
use Rattle.list_laws.proofs.Lists.{flat_map_append}
use Rattle.bound_laws.specs.Moments.{asked_of}
use Rattle.placing_laws.specs.OneThread.{HasRoomForAll}
use Rattle.trace_share.specs.declared.outcome.Outcome.{Outcome}
use Rattle.trace_share.specs.declared.deals.Share.{Share}
use Rattle.trace_share.specs.declared.deals.Share.TheVariants.{Flow}
use Rattle.trace_share.specs.Deal.{dealt, flow_hash}
use Rattle.trace_share.specs.Outcomes.{asked_in, record_in, records_in}
use Rattle.batch_history.specs.Batches.{Batch}
use Rattle.batch_laws.specs.Rooms.{NoneRefused}
use Rattle.batch_laws.specs.Threads.{AreLinesOf, AreByKey, AnswerOneByOne, ClassesHaveRoom, all_lines}
use Rattle.batch_laws.proofs.Shares.{flows_are_by_key}
use Rattle.batch_laws.proofs.Room.{room_is_of_calls}
use Rattle.batch_laws.proofs.Threads.{batches_answer_as_one_thread}
use Rattle.batch_laws.proofs.OneSeat.{one_seat_answers}
use Rattle.batch_deals.specs.declared.service.Service.{Service}
use Rattle.batch_runner.specs.Served.{Served, AreServed, history_in, pairs_left}
use Rattle.batch_deals.specs.Opens.{rules_of}
use Rattle.batch_runner.specs.Printed.{outcomes_in}
use Rattle.batch_runner.proofs.Rights.{all_in_order, all_held, none_held}
use Rattle.batch_answers.specs.Answers.{NoneIsRefused, AllAreAnswered, ServedAsOneThread, all_answers, calls_in}
use Rattle.batch_answers.proofs.Served.{none_refused, all_answered, asked_are, few_logs, line_is}

-- ---- with no rows given

none_in_all : (service : Service) (first : List Pair) (batches : List Served) → service.rows ≡ None →
    AreServed service first batches → All (λ (batch : Served). All NoneRefused batch.logs) batches
none_in_all service first [] none are = All-nil (λ (batch : Served). All NoneRefused batch.logs)
none_in_all service first (batch ∷ batches) none are =
    All-cons (λ (b : Served). All NoneRefused b.logs) batch batches (none_refused service batch are.1 none)
    (none_in_all service batch.pairs batches none are.2)

pub none_is_refused : NoneIsRefused
none_is_refused service batches none are = none_in_all service [] batches none are

-- the answers of a batch, and those of the others
answers_both : (batch : Served) (batches : List Served) →
    all_answers (batch ∷ batches) ≡ records_in (map (λ (o : ℕ × Outcome). o.1) batch.outcomes) ++ all_answers batches
answers_both batch batches =
    flat_map_append record_in (map (λ (o : ℕ × Outcome). o.1) batch.outcomes) (outcomes_in batches)

answered_in_all : (service : Service) (first : List Pair) (batches : List Served) → service.rows ≡ None →
    AreServed service first batches → map asked_of (all_answers batches) ≡ calls_in batches
answered_in_all service first [] none are = refl
answered_in_all service first (batch ∷ batches) none are =
    let own = records_in (map (λ (o : ℕ × Outcome). o.1) batch.outcomes) in
    ap (map asked_of) (answers_both batch batches) ∙ map-append asked_of own (all_answers batches)
    ∙ ap (λ cs. cs ++ map asked_of (all_answers batches)) (all_answered service batch are.1 none)
    ∙ ap (λ cs. batch.calls ++ cs) (answered_in_all service batch.pairs batches none are.2)

pub all_are_answered : AllAreAnswered
all_are_answered service batches none are = answered_in_all service [] batches none are

-- ---- as one thread

-- the line of each batch
abbrev lines_in : List Served → List (List Record)
lines_in batches = map (λ (batch : Served). records_in (map (λ (o : ℕ × Outcome). o.1) batch.outcomes)) batches

-- one after the other they are all answers
lines_are : (batches : List Served) → all_answers batches ≡ all_lines (lines_in batches)
lines_are [] = refl
lines_are (batch ∷ batches) = answers_both batch batches
    ∙ ap (λ rs. records_in (map (λ (o : ℕ × Outcome). o.1) batch.outcomes) ++ rs) (lines_are batches)

-- each is a line of its batch
all_are_lines : (service : Service) (first : List Pair) (batches : List Served) → AreServed service first batches →
    AreLinesOf (map (history_in service) batches) (lines_in batches)
all_are_lines service first [] are = tt
all_are_lines service first (batch ∷ batches) are =
    (line_is service batch are.1, all_are_lines service batch.pairs batches are.2)

-- all that was asked are all calls
all_asked : (service : Service) (first : List Pair) (batches : List Served) → AreServed service first batches →
    map asked_in (outcomes_in batches) ≡ calls_in batches
all_asked service first [] are = refl
all_asked service first (batch ∷ batches) are =
    map-append asked_in (map (λ (o : ℕ × Outcome). o.1) batch.outcomes) (outcomes_in batches)
    ∙ ap (λ cs. cs ++ map asked_in (outcomes_in batches)) (asked_are service batch are.1)
    ∙ ap (λ cs. batch.calls ++ cs) (all_asked service batch.pairs batches are.2)

-- calls that are dealt by flow are by key
all_by_key : (service : Service) (first : List Pair) (batches : List Served) → service.share ≡ Flow →
    AreServed service first batches →
    AreByKey (λ key. flow_hash key % service.settings.seats) (all_lines (lines_in batches))
all_by_key service first [] flow are =
    All-nil (λ (r : Record). r.seat ≡ flow_hash (key_in r.call) % service.settings.seats)
all_by_key service first (batch ∷ batches) flow are =
    let line = records_in (map (λ (o : ℕ × Outcome). o.1) batch.outcomes) in
    All-append (λ (r : Record). r.seat ≡ flow_hash (key_in r.call) % service.settings.seats) line
    (all_lines (lines_in batches))
    (flows_are_by_key service.settings.seats batch.calls batch.logs line
    (are.1.of_run.asked ∙ ap (λ (share : Share). dealt share service.settings.seats batch.calls) flow)
    (line_is service batch are.1))
    (all_by_key service batch.pairs batches flow are.2)

-- each batch has one log, where there is one seat
all_alone : (service : Service) (first : List Pair) (batches : List Served) → service.settings.seats ≡ 1 →
    AreServed service first batches → All (λ (b : Batch). length b.logs ≡ 1) (map (history_in service) batches)
all_alone service first [] one are = All-nil (λ (b : Batch). length b.logs ≡ 1)
all_alone service first (batch ∷ batches) one are =
    All-cons (λ (b : Batch). length b.logs ≡ 1) (history_in service batch) (map (history_in service) batches)
    (length-map batch.logs records_in ∙ few_logs service batch are.1 ∙ one)
    (all_alone service batch.pairs batches one are.2)

pub served_as_one_thread : ServedAsOneThread
served_as_one_thread service batches are like =
    let last = sessions_with (rules_of service) (pairs_left [] batches) in
    let orders = all_in_order service [] batches are in
    let lines = all_are_lines service [] batches are in
    let held = all_held service [] batches are none_held in
    let one : AnswerOneByOne (rules_of service) empty (all_lines (lines_in batches)) last = elim like [
      | inl flow ↦ batches_answer_as_one_thread (rules_of service) empty last (map (history_in service) batches)
          (lines_in batches) (λ key. flow_hash key % service.settings.seats) orders lines
          (all_by_key service [] batches flow.0 are)
          (λ class. subst (λ rs. HasRoomForAll (rules_of service) empty rs class) (lines_are batches)
          (room_is_of_calls (rules_of service) (outcomes_in batches) class
          (subst (ClassesHaveRoom (rules_of service)) (sym (all_asked service [] batches are)) flow.1)))
      | inr alone ↦ one_seat_answers (rules_of service) empty last (map (history_in service) batches)
          (lines_in batches) orders lines (all_alone service [] batches alone are)
    ] in
    record {
      legal = subst (λ rs. Legal (rules_of service) empty (map answered rs)) (sym (lines_are batches)) one.0;
      left = held ∙ ap pairs_of (sym one.1
          ∙ ap (λ rs. sessions_after (rules_of service) empty (map answered rs)) (sym (lines_are batches)));
    }
