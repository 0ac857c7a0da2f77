-- Batches in which calls of one key are made by one seat, with room for all keys of each class: over all batches the
-- replies are those that one thread would have that made the calls in the order of their packets.
-- Source: this project's own.
use Rattle.std.specs.Prelude.{◌≡◌, ℕ, ◌<◌, ◌≤◌, ◌%◌, ◌==◌, List, [], ◌∷◌, length, map, filter, flat_map, slice_index_or, count_by, All}
use Rattle.std.specs.FinMap.{empty}
use Rattle.plain_map.specs.declared.calls.Call.{Call}
use Rattle.plain_map.specs.declared.keys.Key.{Key}
use Rattle.plain_map.specs.declared.records.Record.{Record}
use Rattle.plain_map.specs.declared.rules.Rules.{Rules}
use Rattle.plain_map.specs.Calls.{key_in}
use Rattle.plain_map.specs.PlainObject.{Sessions, class_of}
use Rattle.plain_map.specs.History.{answered, Legal, sessions_after}
use Rattle.table_model.specs.Needs.{distinct_keys}
use Rattle.placing_laws.specs.OneThread.{HasRoomForAll}
use Rattle.batch_history.specs.Batches.{Batch, AreInOrder, AreNumbered}
use Rattle.trace_share.specs.declared.outcome.Outcome.{Outcome}
use Rattle.trace_share.specs.declared.deals.Share.TheVariants.{Flow}
use Rattle.trace_share.specs.Deal.{dealt, flow_hash}
use Rattle.trace_share.specs.Outcomes.{asked_in, records_in}
use Rattle.batch_rows.specs.BatchRows.{inserted_in_calls}

-- the answered calls of a batch in one line: those of a seat are the seat's, in its order
abbrev pub IsLineOf : (logs : List (List Record)) → (line : List Record) → Type 0
IsLineOf logs line = (seat : ℕ) → filter (λ r. r.seat == seat) line ≡ slice_index_or logs seat []

-- a line of each batch
abbrev pub AreLinesOf : List Batch → List (List Record) → Type 0
AreLinesOf [] [] = Unit {0}
AreLinesOf [] (line ∷ lines) = ⊥
AreLinesOf (batch ∷ batches) [] = ⊥
AreLinesOf (batch ∷ batches) (line ∷ lines) = IsLineOf batch.logs line × AreLinesOf batches lines

-- one line after the other
abbrev pub all_lines : List (List Record) → List Record
all_lines lines = flat_map (λ line. line) lines

-- a call's key tells whose it is
abbrev pub AreByKey : (seat_for : Key → ℕ) → List Record → Type 0
AreByKey seat_for records = All (λ r. r.seat ≡ seat_for (key_in r.call)) records

-- these replies are those of the calls one after the other, which leave this
abbrev pub AnswerOneByOne : Rules → (first : Sessions) → List Record → (last : Sessions) → Type 0
AnswerOneByOne rules first records last =
    Legal rules first (map answered records) × (sessions_after rules first (map answered records) ≡ last)

-- then the replies are those of the calls of all batches one after the other, and so is what is held in the end
abbrev pub BatchesAnswerAsOneThread : Type 0
BatchesAnswerAsOneThread =
    (rules : Rules) (first last : Sessions) (batches : List Batch) (lines : List (List Record)) (seat_for : Key → ℕ) →
    AreInOrder rules first batches last → AreLinesOf batches lines → AreByKey seat_for (all_lines lines) →
    ((class : ℕ) → HasRoomForAll rules first (all_lines lines) class) →
    AnswerOneByOne rules first (all_lines lines) last

-- outcomes, each with its seat: those of a seat are its log
pub record AreOutcomesOf (logs : List (List Outcome)) (outcomes : List (ℕ × Outcome)) : Type 0 where
  pub seats : All (λ o. o.0 < length logs) outcomes
  pub each : (seat : ℕ) → seat < length logs →
      map (λ o. o.1) (filter (λ o. o.0 == seat) outcomes) ≡ slice_index_or logs seat []

-- their records are a line
abbrev pub OutcomesAreLines : Type 0
OutcomesAreLines =
    (logs : List (List Outcome)) (outcomes : List (ℕ × Outcome)) → AreNumbered (map (λ log. records_in log) logs) →
    AreOutcomesOf logs outcomes →
    IsLineOf (map (λ log. records_in log) logs) (records_in (map (λ o. o.1) outcomes))

-- calls that are dealt by their flows are by key
abbrev pub FlowsAreByKey : Type 0
FlowsAreByKey =
    (seats : ℕ) (calls : List (ℕ × Call)) (logs : List (List Outcome)) (line : List Record) →
    map (λ log. map asked_in log) logs ≡ dealt Flow seats calls → IsLineOf (map (λ log. records_in log) logs) line →
    AreByKey (λ key. flow_hash key % seats) line

-- and so are those of one seat
abbrev pub OneSeatIsByKey : Type 0
OneSeatIsByKey =
    (logs : List (List Record)) (line : List Record) → length logs ≡ 1 → IsLineOf logs line → AreByKey (λ key. 0) line

-- calls insert no more keys of a class than a bucket has room for
abbrev pub ClassesHaveRoom : Rules → List (ℕ × Call) → Type 0
ClassesHaveRoom rules calls =
    (class : ℕ) →
    count_by (λ key. class_of rules key == class) (distinct_keys (inserted_in_calls calls)) ≤ rules.items

-- then there is room for all that may be held, from the empty map on
abbrev pub RoomIsOfCalls : Type 0
RoomIsOfCalls =
    (rules : Rules) (outcomes : List Outcome) (class : ℕ) → ClassesHaveRoom rules (map asked_in outcomes) →
    HasRoomForAll rules empty (records_in outcomes) class

-- batches of one seat answer as one thread whatever room there is
abbrev pub OneSeatAnswers : Type 0
OneSeatAnswers =
    (rules : Rules) (first last : Sessions) (batches : List Batch) (lines : List (List Record)) →
    AreInOrder rules first batches last → AreLinesOf batches lines → All (λ batch. length batch.logs ≡ 1) batches →
    AnswerOneByOne rules first (all_lines lines) last
