-- What batches that were served are answered: with no rows given every call, and where no two seats share a key as one
-- thread would.
-- Source: this project's own.
use Rattle.std.specs.Prelude.{◌≡◌, ◌≤◌, ℕ, ◌⊎◌, List, [], length, map, flat_map, None, All}
use Rattle.std.specs.FinMap.{empty}
use Rattle.plain_map.specs.declared.calls.Call.{Call}
use Rattle.plain_map.specs.declared.records.Record.{Record}
use Rattle.plain_map.specs.PlainObject.{pairs_of}
use Rattle.plain_map.specs.History.{answered, Legal, Whole, sessions_after}
use Rattle.bound_laws.specs.Moments.{asked_of}
use Rattle.trace_share.specs.declared.deals.Share.TheVariants.{Flow}
use Rattle.batch_history.specs.Batches.{all_calls}
use Rattle.batch_laws.specs.Rooms.{NoneRefused}
use Rattle.batch_laws.specs.Threads.{ClassesHaveRoom}
use Rattle.batch_deals.specs.declared.service.Service.{Service}
use Rattle.batch_runner.specs.Served.{Served, AreServed, history_in, pairs_left}
use Rattle.batch_deals.specs.Opens.{rules_of}
use Rattle.batch_runner.specs.Printed.{all_lines, answers_in, outcomes_in}

-- no rows are given: the table of each batch has what the batch's own calls can need
abbrev pub HasOwnRows : Service → Type 0
HasOwnRows service = service.rows ≡ None

-- then no call is refused
abbrev pub NoneIsRefused : Type 0
NoneIsRefused =
    (service : Service) (batches : List Served) → HasOwnRows service → AreServed service [] batches →
    All (λ (batch : Served). All NoneRefused batch.logs) batches

-- all calls, in packet order
abbrev pub calls_in : List Served → List (ℕ × Call)
calls_in batches = flat_map (λ batch. batch.calls) batches

-- their answers, in packet order
abbrev pub all_answers : List Served → List Record
all_answers batches = answers_in (outcomes_in batches)

-- so each call has its answer
abbrev pub AllAreAnswered : Type 0
AllAreAnswered =
    (service : Service) (batches : List Served) → HasOwnRows service → AreServed service [] batches →
    map asked_of (all_answers batches) ≡ calls_in batches

-- no two seats share a key, and each class has room for all its keys; or there is one seat
abbrev pub IsLikeOneThread : Service → List (ℕ × Call) → Type 0
IsLikeOneThread service calls =
    ((service.share ≡ Flow) × ClassesHaveRoom (rules_of service) calls) ⊎ (service.settings.seats ≡ 1)

-- the replies are those of the calls one after the other, in packet order, and so are the pairs that are left
pub record AreAsOneThread (service : Service) (batches : List Served) : Type 0 where
  pub legal : Legal (rules_of service) empty (map answered (all_answers batches))
  pub left :
      pairs_left [] batches ≡ pairs_of (sessions_after (rules_of service) empty (map answered (all_answers batches)))

abbrev pub ServedAsOneThread : Type 0
ServedAsOneThread =
    (service : Service) (batches : List Served) → AreServed service [] batches →
    IsLikeOneThread service (calls_in batches) → AreAsOneThread service batches

-- the answered calls as they are printed: in packet order, with numbers that go on from batch to batch
abbrev pub printed_in : Service → (before : List ℕ) → List Served → List Record
printed_in service before batches =
    answers_in (flat_map (λ lines. map (λ o. o.1) lines.outcomes) (all_lines service before batches))

-- no seat has answered a call: a count of 0 for each of at most eight seats
abbrev pub AreNone : List ℕ → Type 0
AreNone counts = (length counts ≤ 8) × All (λ count. count ≡ 0) counts

-- Each of them, printed from no counts on, stands once in the one order of all calls, with its number and with all that
-- its caller had seen, and nothing else does.
abbrev pub PrintedStandOnce : Type 0
PrintedStandOnce =
    (service : Service) (before : List ℕ) (batches : List Served) → AreNone before → AreServed service [] batches →
    Whole (printed_in service before batches) [] (all_calls [] (map (history_in service) batches))
