-- What is promised of the answers of each seat: what it has counted, and what is so where no update is made.
use Rattle.std.specs.Prelude.{◌≡◌, ◌⊎◌, ℕ, ◌<◌, ◌≤◌, ◌==◌, Bool, true, false, List, ◌∷◌, ◌++◌, length, filter, All}
use Rattle.plain_map.specs.declared.calls.Call.{Call}
use Rattle.plain_map.specs.declared.calls.Call.TheVariants.{Lookup}
use Rattle.plain_map.specs.declared.calls.Reply.{Reply}
use Rattle.exchange_model.specs.Plans.{Plan, holders_of, buckets_of}
use Rattle.exchange_model.specs.Steps.{Step, Idle, Goes}
use Rattle.exchange_model.specs.Goes.{Asked, Called, Copied, Replied, Pairs, Spent}
use Rattle.exchange_model.specs.Worlds.{World, Answer, Asker, BySeat, ByReader, Event, IsRun, world_after, seat_in}
use Rattle.exchange_model.specs.Laws.{pairs_in, updates_by}

-- ---- the answers of a seat, or of a reader that can hold

-- it has asked
abbrev pub is_by : (seat : ℕ) → Asker → Bool
is_by seat (BySeat other) = other == seat
is_by seat (ByReader reader) = false

-- all that it was answered, in order
abbrev pub answers_by : (seat : ℕ) → List Answer → List Answer
answers_by seat answers = filter (λ a. is_by seat a.by) answers

-- it asks at most once in a call, and has counted its answered updates
abbrev pub AskingsAreCounted : Type 0
AskingsAreCounted =
    (plan : Plan) (events : List Event) (seat : ℕ) → IsRun plan events → seat < holders_of plan.settings →
    (let world = world_after plan events in
    (seat_in world seat).stand ≡ Idle →
    ((seat_in world seat).time ≤ length (answers_by seat world.answers))
    × ((seat_in world seat).answered ≡ length (updates_by seat world.answers)))

-- a call was asked, and no copy of a bucket
abbrev pub is_call : Asked → Bool
is_call (Called call) = true
is_call (Copied bucket) = false

-- the answers to calls
abbrev pub calls_among : List Answer → List Answer
calls_among answers = filter (λ (a : Answer). is_call a.asked) answers

-- it announces at most once in a call, and in no copy
abbrev pub AnnouncementsAreCounted : Type 0
AnnouncementsAreCounted =
    (plan : Plan) (events : List Event) (seat : ℕ) → IsRun plan events → seat < holders_of plan.settings →
    (seat_in (world_after plan events) seat).stand ≡ Idle →
    (seat_in (world_after plan events) seat).posted
    ≤ length (calls_among (answers_by seat (world_after plan events).answers))

-- answers are never taken back: later ones come behind them
abbrev pub AnswersStay : Type 0
AnswersStay =
    (plan : Plan) (front back : List Event) → IsRun plan (front ++ back) →
    (later : List Answer) × ((world_after plan (front ++ back)).answers ≡ (world_after plan front).answers ++ later)

-- ---- where no update is made

-- no seat has a call under way
abbrev pub AllAreIdle : Plan → World → Type 0
AllAreIdle plan world = (seat : ℕ) → seat < plan.settings.seats → (seat_in world seat).stand ≡ Idle

-- a call by a reader that cannot hold, a lookup, or a copy
abbrev pub IsNoUpdate : Asker → Asked → Type 0
IsNoUpdate (ByReader reader) asked = Unit {0}
IsNoUpdate (BySeat seat) (Called (Lookup key)) = Unit {0}
IsNoUpdate (BySeat seat) (Called call) = ⊥
IsNoUpdate (BySeat seat) (Copied bucket) = Unit {0}

-- or an update that was told that its bucket is spent
abbrev pub MakesNothing : Answer → Type 0
MakesNothing a = IsNoUpdate a.by a.asked ⊎ (a.told ≡ Spent)

-- a run goes on from one moment to another where all seats are idle at both, and no update was made between
pub record Rests (plan : Plan) (front events : List Event) : Type 0 where
  pub back : List Event
  pub cut : events ≡ front ++ back
  pub first : AllAreIdle plan (world_after plan front)
  pub last : AllAreIdle plan (world_after plan events)
  pub later : List Answer
  pub answers : (world_after plan events).answers ≡ (world_after plan front).answers ++ later
  pub nothing : All MakesNothing later

-- so it is where no seat has answered more updates
abbrev pub CountsTellRests : Type 0
CountsTellRests =
    (plan : Plan) (front back : List Event) → IsRun plan (front ++ back) → AllAreIdle plan (world_after plan front) →
    AllAreIdle plan (world_after plan (front ++ back)) →
    ((seat : ℕ) → seat < plan.settings.seats →
    (seat_in (world_after plan (front ++ back)) seat).answered ≡ (seat_in (world_after plan front) seat).answered) →
    Rests plan front (front ++ back)

-- meanwhile each bucket has the same pairs
abbrev pub RestsAreAlike : Type 0
RestsAreAlike =
    (plan : Plan) (front middle back events : List Event) (bucket : ℕ) → IsRun plan events → Rests plan front events →
    bucket < buckets_of plan.settings → events ≡ front ++ middle ++ back →
    pairs_in plan (world_after plan (front ++ middle)) bucket ≡ pairs_in plan (world_after plan front) bucket

-- so a copy of a bucket that began meanwhile tells what the bucket had at first
abbrev pub CopiesAreOfRests : Type 0
CopiesAreOfRests =
    (plan : Plan) (front events : List Event) → IsRun plan events → Rests plan front events →
    All
    (λ (a : Answer). (seat bucket : ℕ) → a.by ≡ BySeat seat → a.asked ≡ Copied bucket →
    bucket < buckets_of plan.settings → length front ≤ a.began →
    a.told ≡ Pairs (pairs_in plan (world_after plan front) bucket))
    (world_after plan events).answers

-- ---- an update under way

-- of the answers that a seat got meanwhile the first one is to this call: a reply, or that its bucket is spent
pub record IsAnsweredFirst (plan : Plan) (front events : List Event) (seat : ℕ) (call : Call) : Type 0 where
  pub later : List Answer
  pub answers : (world_after plan events).answers ≡ (world_after plan front).answers ++ later
  pub answer : Answer
  pub others : List Answer
  pub of_seat : answers_by seat later ≡ answer ∷ others
  pub asked_is : answer.asked ≡ Called call
  pub told_is : ((reply : Reply) × (answer.told ≡ Replied reply)) ⊎ (answer.told ≡ Spent)

-- a seat that is idle after it had an update under way was answered that one first
abbrev pub InFlightIsAnswered : Type 0
InFlightIsAnswered =
    (plan : Plan) (front back : List Event) (seat : ℕ) (call : Call) (step : Step) → IsRun plan (front ++ back) →
    seat < plan.settings.seats → (seat_in (world_after plan front) seat).stand ≡ Goes call step →
    (seat_in (world_after plan (front ++ back)) seat).stand ≡ Idle →
    IsAnsweredFirst plan front (front ++ back) seat call
