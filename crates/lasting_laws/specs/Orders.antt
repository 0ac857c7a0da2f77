-- What is promised of the updates of a lasting table that its seats were asked for, and of no others: they have one
-- order, and the buckets have what the plain map has after it. Where no update is made, the buckets stay as they are.
use Rattle.std.specs.Prelude.{◌≡◌, ℕ, ◌<◌, ◌≤◌, ◌==◌, Bool, false, ◌&&◌, if◌then◌else◌, List, [], ◌∷◌, ◌++◌, length, map, filter, filter_map, Option, Some, None, All}
use Rattle.plain_map.specs.declared.calls.Call.{Call}
use Rattle.plain_map.specs.declared.calls.Call.TheVariants.{Lookup}
use Rattle.plain_map.specs.declared.calls.Reply.{Reply}
use Rattle.plain_map.specs.Calls.{is_update}
use Rattle.map_laws.specs.ByKey.{Made, LegalMade, after_made}
use Rattle.bucket_states.specs.Parts.{HoldsPart}
use Rattle.table_model.specs.Setup.{settings_of, rules_of}
use Rattle.table_model.specs.Closed.{sessions_with}
use Rattle.lasting_model.specs.Plans.{Plan, ample, buckets_of}
use Rattle.lasting_model.specs.Steps.{Stand, Idle, Goes, Update, Step}
use Rattle.lasting_model.specs.Goes.{Asked, Called, Copied, Told, Replied, Pairs}
use Rattle.lasting_model.specs.Worlds.{Lasting, Answer, Asker, BySeat, ByReader, Event, IsRun, world_after, seat_in}
use Rattle.lasting_model.specs.Laws.{pairs_in}

-- ---- the answers of a seat

-- the seat has asked
abbrev pub is_by : (seat : ℕ) → Asker → Bool
is_by seat (BySeat other) = other == seat
is_by seat (ByReader reader) = false

-- all that a seat was answered, in order
abbrev pub answers_by : (seat : ℕ) → List Answer → List Answer
answers_by seat answers = filter (λ a. is_by seat a.by) answers

-- the update that a seat was answered, if this answer is one
abbrev pub update_by : (seat : ℕ) → Asker → Asked → Told → Option Made
update_by seat (BySeat other) (Called call) (Replied reply) =
    if (other == seat) && is_update call then Some (call, reply) else None
update_by seat by asked told = None

-- all updates that a seat was answered, in order
abbrev pub updates_by : (seat : ℕ) → List Answer → List Made
updates_by seat answers = filter_map (λ (a : Answer). update_by seat a.by a.asked a.told) answers

-- ---- one order of all updates

-- an update of a seat that was made
abbrev pub MadeBySeat : Type 0
MadeBySeat = ℕ × Made

-- those of a seat, in order
abbrev pub made_by : (seat : ℕ) → List MadeBySeat → List Made
made_by seat made = filter_map (λ (one : MadeBySeat). if one.0 == seat then Some one.1 else None) made

-- all of them, whoever made them
abbrev pub all_made : List MadeBySeat → List Made
all_made made = map (λ (one : MadeBySeat). one.1) made

-- these are none, or the one update that a seat has under way where it stands
abbrev pub IsUnderWay : Stand → List Made → Type 0
IsUnderWay stand [] = Unit {0}
IsUnderWay (Goes u step) (made ∷ []) = made.0 ≡ u.call
IsUnderWay stand more = ⊥

-- the updates of a seat that were made are those that it was answered, in order, and at most the one under way
pub record AreAsked (world : Lasting) (made : List MadeBySeat) (seat : ℕ) : Type 0 where
  pub more : List Made
  pub are : made_by seat made ≡ updates_by seat world.answers ++ more
  pub under_way : IsUnderWay (seat_in world seat).stand more

-- one order of all updates that were made by now
pub record HasOrder (plan : Plan) (world : Lasting) : Type 0 where
  pub made : List MadeBySeat
  -- each has the reply of the plain map, which began with the first pairs
  pub legal : LegalMade (rules_of (ample plan)) (sessions_with (rules_of (ample plan)) plan.first) (all_made made)
  -- they are those that the seats were asked for, and no others
  pub asked : (seat : ℕ) → seat < plan.settings.seats → AreAsked world made seat
  pub seats : All (λ (one : MadeBySeat). one.0 < plan.settings.seats) made
  -- each bucket has the pairs of its class that the plain map has after all of them
  pub held : (bucket : ℕ) → bucket < buckets_of plan.settings →
      HoldsPart (rules_of (ample plan)) bucket (settings_of (ample plan)).depth (pairs_in plan world bucket)
      (after_made (rules_of (ample plan)) (sessions_with (rules_of (ample plan)) plan.first) (all_made made))

-- at each moment of a run the updates that were made by then have one order
abbrev pub UpdatesHaveOneOrder : Type 0
UpdatesHaveOneOrder = (plan : Plan) (events : List Event) → IsRun plan events → HasOrder plan (world_after plan events)

-- ---- what a seat has counted

-- a seat asks at most once in a call, and has counted its answered updates
abbrev pub AskingsAreCounted : Type 0
AskingsAreCounted =
    (plan : Plan) (events : List Event) (seat : ℕ) → IsRun plan events → seat < plan.settings.seats →
    (let world = world_after plan events in
    (seat_in world seat).stand ≡ Idle →
    ((seat_in world seat).time ≤ length (answers_by seat world.answers))
    × ((seat_in world seat).answered ≡ length (updates_by seat world.answers)))

-- answers are never taken back: later ones come behind them
abbrev pub AnswersStay : Type 0
AnswersStay =
    (plan : Plan) (front back : List Event) → IsRun plan (front ++ back) →
    (later : List Answer) × ((world_after plan (front ++ back)).answers ≡ (world_after plan front).answers ++ later)

-- ---- where no update is made

-- no seat has a call under way
abbrev pub AllAreIdle : Plan → Lasting → Type 0
AllAreIdle plan world = (seat : ℕ) → seat < plan.settings.seats → (seat_in world seat).stand ≡ Idle

-- a call by a reader, a lookup, or a copy
abbrev pub IsNoUpdate : Asker → Asked → Type 0
IsNoUpdate (ByReader reader) asked = Unit {0}
IsNoUpdate (BySeat seat) (Called (Lookup key)) = Unit {0}
IsNoUpdate (BySeat seat) (Called call) = ⊥
IsNoUpdate (BySeat seat) (Copied bucket) = Unit {0}

-- a run goes on from one moment to another where all seats are idle at both, and no update was answered between
pub record Rests (plan : Plan) (front events : List Event) : Type 0 where
  pub back : List Event
  pub cut : events ≡ front ++ back
  pub first : AllAreIdle plan (world_after plan front)
  pub last : AllAreIdle plan (world_after plan events)
  pub later : List Answer
  pub answers : (world_after plan events).answers ≡ (world_after plan front).answers ++ later
  pub looks : All (λ (a : Answer). IsNoUpdate a.by a.asked) later

-- so it is where no seat has answered more updates
abbrev pub CountsTellRests : Type 0
CountsTellRests =
    (plan : Plan) (front back : List Event) → IsRun plan (front ++ back) → AllAreIdle plan (world_after plan front) →
    AllAreIdle plan (world_after plan (front ++ back)) →
    ((seat : ℕ) → seat < plan.settings.seats →
    (seat_in (world_after plan (front ++ back)) seat).answered ≡ (seat_in (world_after plan front) seat).answered) →
    Rests plan front (front ++ back)

-- meanwhile each bucket has the same pairs
abbrev pub RestsAreAlike : Type 0
RestsAreAlike =
    (plan : Plan) (front middle back events : List Event) (bucket : ℕ) → IsRun plan events → Rests plan front events →
    events ≡ front ++ middle ++ back →
    pairs_in plan (world_after plan (front ++ middle)) bucket ≡ pairs_in plan (world_after plan front) bucket

-- so a seat's copy of a bucket that began meanwhile tells what the bucket had at first
abbrev pub CopiesAreOfRests : Type 0
CopiesAreOfRests =
    (plan : Plan) (front events : List Event) → IsRun plan events → Rests plan front events →
    All
    (λ (a : Answer). (seat bucket : ℕ) → a.by ≡ BySeat seat → a.asked ≡ Copied bucket → length front ≤ a.began →
    a.told ≡ Pairs (pairs_in plan (world_after plan front) bucket))
    (world_after plan events).answers

-- ---- an update under way

-- of the answers that a seat got meanwhile the first one is to this call
pub record IsAnsweredFirst (plan : Plan) (front events : List Event) (seat : ℕ) (call : Call) : Type 0 where
  pub later : List Answer
  pub answers : (world_after plan events).answers ≡ (world_after plan front).answers ++ later
  pub answer : Answer
  pub others : List Answer
  pub of_seat : answers_by seat later ≡ answer ∷ others
  pub asked_is : answer.asked ≡ Called call
  pub reply : Reply
  pub told_is : answer.told ≡ Replied reply

-- a seat that is idle after it had an update under way was answered that one first
abbrev pub InFlightIsAnswered : Type 0
InFlightIsAnswered =
    (plan : Plan) (front back : List Event) (seat : ℕ) (u : Update) (step : Step) → IsRun plan (front ++ back) →
    seat < plan.settings.seats → (seat_in (world_after plan front) seat).stand ≡ Goes u step →
    (seat_in (world_after plan (front ++ back)) seat).stand ≡ Idle →
    IsAnsweredFirst plan front (front ++ back) seat u.call
