-- What contracts see of a table, of its seats and of its readers.
use Rattle.std.specs.Prelude.{◌≡◌, ℕ, ◌<◌, ◌≤◌, Bool, true, All, List, [], ◌∷◌, ◌++◌, length, take, Option, Some, None}
use Rattle.atomic_table.specs.Seated.{TableId}
use Rattle.plain_map.specs.declared.calls.Reply.{Reply}
use Rattle.plain_map.specs.declared.keys.Pair.{Pair}
use Rattle.exchange_model.specs.Plans.{Plan}
use Rattle.exchange_model.specs.Bounds.{call_bound}
use Rattle.exchange_model.specs.Laws.{AreOrdered, FoundSpent, IsLook, IsPeek}
use Rattle.exchange_model.specs.Steps.{MadeBySeat}
use Rattle.exchange_model.specs.Goes.{Asked, Told, Again, Pairs, Replied, Spent}
use Rattle.exchange_model.specs.Worlds.{Answer, BySeat, ByReader, Event, IsRun, world_after}
use Rattle.exchange_laws.specs.PeekBounds.{IsPeekWithin}
use Rattle.exchange_calls.specs.Desks.{IsOf}
use Rattle.exchange_calls.specs.Seats.{IsSeatOf}
use Rattle.exchange_calls.specs.declared.desk.Desk.{Desk}
use Rattle.exchange_calls.specs.declared.seat_state.SeatState.{SeatState}
use Rattle.exchange_opening.specs.Openings.{plan_of}
use Rattle.exchange_table.specs.declared.view.View.{View}
use Rattle.exchange_table.specs.declared.rule.Opening.{Opening}
use Rattle.exchange_table.specs.Parties.{Holding, PartyValue, IsParty, going_of, has_hold, own_answers, party}
use Rattle.exchange_table.specs.Rule.{M, alone, first_or, fresh, lone, plain}
use Rattle.exchange_table.specs.Calls.{IsIdle, holding_of}

-- a table that runs: which one, and what it was opened with
pub record TableValue : Type 0 where
  pub table_id : TableId
  pub plan : Plan

-- it is one of the table's
pub record IsPartyOf (t : TableValue) (p : PartyValue) : Type 0 where
  pub table : p.table_id ≡ t.table_id
  pub plan : p.holding.plan ≡ t.plan

-- it stays the same one of the same table
pub record IsSame (a b : PartyValue) : Type 0 where
  pub table : b.table_id ≡ a.table_id
  pub plan : b.holding.plan ≡ a.holding.plan
  pub who : b.holding.who ≡ a.holding.who

-- how often one has asked for a hold
abbrev pub asked_times : PartyValue → ℕ
asked_times p = (party (world_after p.holding.plan p.holding.known) p.holding.who).time

-- how many of its announcements are over
abbrev pub announced_times : PartyValue → ℕ
announced_times p = (party (world_after p.holding.plan p.holding.known) p.holding.who).posted

-- how many updates it has answered
abbrev pub answered_updates : PartyValue → ℕ
answered_updates p = (party (world_after p.holding.plan p.holding.known) p.holding.who).answered

-- the updates of a run have one order
pub record HasOrder (plan : Plan) (known : List Event) : Type 0 where
  -- at each moment those that were made by then have the replies of the plain map, and are those that the seats were
  -- answered and at most the ones under way. Each bucket has what that map has of its class
  pub ordered : (front back : List Event) → known ≡ front ++ back → AreOrdered plan (world_after plan front)
  -- those that were made later come behind
  pub grows : (front back : List Event) → known ≡ front ++ back →
      (later : List MadeBySeat) × ((world_after plan known).made ≡ (world_after plan front).made ++ later)
  -- each lookup and each copy tells what its bucket had at one moment of its call, or that a reader may try again
  pub looks : All (λ (a : Answer). IsLook plan known a a.by a.asked) (world_after plan known).answers
  pub peeks : All (λ (a : Answer). IsPeek plan known a a.by a.asked) (world_after plan known).answers
  -- who was told that a bucket is spent has found it so
  pub spent : All (λ (a : Answer). a.told ≡ Spent → FoundSpent plan known a) (world_after plan known).answers

-- the call was answered so, and its caller stands between two calls again. What is known goes on, and is a run of the
-- table. The answer is the last of the run, and the only one that the caller has more than before. The call began
-- after all that was known before it. It took no more steps than its bound, or than its tries may. All updates of the
-- run have one order, in which each has the reply of the plain map. Each lookup and each copy tells what that map had
-- at one moment of its call
pub record Answers (asked : Asked) (told : Told) (was now : PartyValue) : Type 0 where
  pub later : List Event
  pub grown : now.holding.known ≡ was.holding.known ++ later
  pub run : IsRun now.holding.plan now.holding.known
  pub before : List Answer
  pub answer : Answer
  pub last : (world_after now.holding.plan now.holding.known).answers ≡ before ++ answer ∷ []
  pub own : own_answers now.holding ≡ own_answers was.holding ++ answer ∷ []
  pub by : answer.by ≡ now.holding.who
  pub asks : answer.asked ≡ asked
  pub tells : answer.told ≡ told
  pub after : length was.holding.known ≤ answer.began
  pub bounded : (seat : ℕ) → answer.by ≡ BySeat seat → answer.steps ≤ call_bound now.holding.plan.settings asked
  pub tried : (reader : ℕ) → answer.by ≡ ByReader reader →
      IsPeekWithin now.holding.plan.settings now.holding.known answer reader
  pub ordered : HasOrder now.holding.plan now.holding.known
  pub idle : IsIdle now.holding

-- a token of one party that stands between two calls
pub record IsResting (key : Opening) (m : M) : Type 0 where
  pub one : m ≡ alone (holding_of key m)
  pub opened : (holding_of key m).plan ≡ plain key
  pub run : IsRun (holding_of key m).plan (holding_of key m).known
  pub inside : IsParty (holding_of key m).plan (holding_of key m).who
  pub idle : IsIdle (holding_of key m)

-- what a reader is told
abbrev pub told_by_peek : Option Reply → Told
told_by_peek None = Again
told_by_peek (Some reply) = Replied reply

-- and of a copy
abbrev pub told_by_look : Option ℕ → List Pair → Told
told_by_look None pairs = Again
told_by_look (Some count) pairs = Pairs (take count pairs)

-- ---- by their fields

-- the holdings of a badge, which has one view or none
abbrev pub bundle_of : List View → List Holding
bundle_of [] = []
bundle_of (view ∷ views) = view.bundle

-- a party of a desk that knows nothing; it stands where a badge has no view, which none has that is used
abbrev pub holding_of_desk : Desk → Holding
holding_of_desk desk = record {
  plan = plan_of desk.sizes desk.rules.hashing;
  who = BySeat desk.holder;
  known = [];
}

-- what it knows, by its badge
abbrev pub holding_in : Desk → List View → Holding
holding_in desk views = first_or (holding_of_desk desk) (bundle_of views)

-- what contracts see of it
abbrev pub party_value : Desk → TableId → List View → PartyValue
party_value desk table_id views = record { table_id = table_id; holding = holding_in desk views }

-- it stands between two calls, at its desk
pub record PartyStands (holds : Bool) (desk : Desk) (views : List View) : Type 0 where
  pub one : views ≡ lone (holding_in desk views) ∷ []
  pub run : IsRun (holding_in desk views).plan (holding_in desk views).known
  pub inside : IsParty (holding_in desk views).plan (holding_in desk views).who
  pub idle : IsIdle (holding_in desk views)
  pub at_desk : IsOf (going_of (holding_in desk views)) desk
  pub kind : has_hold (holding_in desk views).who ≡ holds

-- a seat is one of those that update, and has beside it what it keeps for its updates
pub record SeatStands (desk : Desk) (views : List View) (state : SeatState) : Type 0 where
  pub stands : PartyStands true desk views
  pub seat : desk.holder < desk.sizes.seats
  pub keeps : IsSeatOf (going_of (holding_in desk views)) state

-- a reader that can hold knows how often it has asked
pub record HolderStands (desk : Desk) (views : List View) (time : ℕ) : Type 0 where
  pub stands : PartyStands true desk views
  pub asked : time ≡ (going_of (holding_in desk views)).now.time

-- who can hold and has made no call
abbrev pub new_seat : TableValue → (seat : ℕ) → PartyValue
new_seat t seat = record { table_id = t.table_id; holding = fresh t.plan seat }
