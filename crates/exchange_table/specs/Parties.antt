-- A seat or a reader of a table, which knows the first events of a run, up to its own last one. Where it stands
-- is told by these events, and no other's event changes it.
use Rattle.std.specs.Prelude.{◌≡◌, ℕ, ◌<◌, ◌≤◌, ◌==◌, Bool, true, false, List, [], ◌∷◌, ◌++◌, filter, Option, Some, None}
use Rattle.atomic_table.specs.Seated.{TableId}
use Rattle.plain_map.specs.declared.calls.Call.TheVariants.{Lookup}
use Rattle.plain_map.specs.Keys.{IsKey}
use Rattle.exchange_model.specs.Plans.{Plan, holders_of, buckets_of}
use Rattle.exchange_model.specs.Steps.{OfKey, OfBucket, Stand, Idle, Goes, Glances, SeatNow, Peeking, Rests, Peeks, ReaderNow}
use Rattle.exchange_model.specs.Goes.{Asked, Called, Copied, Told, asked_by_aim}
use Rattle.exchange_model.specs.Worlds.{World, Answer, Asker, BySeat, ByReader, Event, OfSeat, OfReader, Begin, Copy, Step_on, Open, Peek_on, CanAsk, CanBegin, LOOK_TRIES, course_from, seat_in, world_after}
use Rattle.exchange_calls.specs.Going.{Going, begun_look, begun_update}

-- who it is, and what it knows
pub record Holding : Type 0 where
  pub plan : Plan
  pub who : Asker
  pub known : List Event

-- with the table that it is of
pub record PartyValue : Type 0 where
  pub table_id : TableId
  pub holding : Holding

-- ---- where it stands

abbrev pub stand_of : Peeking → Stand
stand_of Rests = Idle
stand_of (Peeks aim glance) = Glances aim glance

-- a reader as a seat that only looks
abbrev pub as_seat : ReaderNow → SeatNow
as_seat now = record {
  answered = 0;
  posted = 0;
  time = 0;
  free = [];
  kept = [];
  scan = None;
  stand = stand_of now.stand;
  course = now.course;
}

-- a seat or a reader in a world
abbrev pub party : World → Asker → SeatNow
party x (BySeat q) = seat_in x q
party x (ByReader r) = as_seat (x.readers r)

-- its number, 0 for a reader that cannot hold
abbrev pub seat_no : Asker → ℕ
seat_no (BySeat q) = q
seat_no (ByReader r) = 0

-- whether it has a hold word
abbrev pub has_hold : Asker → Bool
has_hold (BySeat q) = true
has_hold (ByReader r) = false

-- it is a seat of the table, or a reader of it
abbrev pub IsParty : Plan → Asker → Type 0
IsParty plan (BySeat q) = q < holders_of plan.settings
IsParty plan (ByReader r) = Unit {0}

-- the steps of a call are counted in its answer, and nowhere else
abbrev pub clean : SeatNow → SeatNow
clean now = record now { course = course_from 0 }

-- what was told last
abbrev pub last_told : List Answer → Option Told
last_told [] = None
last_told (a ∷ []) = Some a.told
last_told (a ∷ b ∷ answers) = last_told (b ∷ answers)

-- to a party that has just ended a call
abbrev pub told_at : Stand → List Answer → Option Told
told_at Idle answers = last_told answers
told_at (Goes call step) answers = None
told_at (Glances aim glance) answers = None

-- a party in a world, as the calls see it
abbrev pub going_in : Plan → Asker → World → Going
going_in plan who x = record {
  plan = plan;
  holds = has_hold who;
  seat = seat_no who;
  now = clean (party x who);
  told = told_at (party x who).stand x.answers;
}

-- where it stands by what it knows
abbrev pub going_of : Holding → Going
going_of h = going_in h.plan h.who (world_after h.plan h.known)

-- ---- what it asks

-- how a call begins
abbrev pub begun : Asked → (tries : ℕ) → Going → Going
begun (Called (Lookup key)) tries g = begun_look g (OfKey key) tries
begun (Called call) tries g = begun_update g call
begun (Copied bucket) tries g = begun_look g (OfBucket bucket) tries

-- a party between two calls begins this one
abbrev pub started_at : Stand → Asked → (tries : ℕ) → Going → Going
started_at Idle asked tries g = begun asked tries g
started_at (Goes call step) asked tries g = g
started_at (Glances aim glance) asked tries g = g

abbrev pub started : Asked → (tries : ℕ) → Holding → Going
started asked tries h = started_at (party (world_after h.plan h.known) h.who).stand asked tries (going_of h)

-- what it may call: who can hold has two tries before it asks for a hold, and an update has none
abbrev pub CanCall : Plan → Asker → SeatNow → Asked → (tries : ℕ) → Type 0
CanCall plan (BySeat q) now (Called (Lookup key)) tries = CanBegin plan q now (Lookup key) × (tries ≡ LOOK_TRIES)
CanCall plan (BySeat q) now (Called call) tries = CanBegin plan q now call
CanCall plan (BySeat q) now (Copied bucket) tries =
    CanAsk now × (bucket < buckets_of plan.settings) × (tries ≡ LOOK_TRIES)
CanCall plan (ByReader r) now (Called (Lookup key)) tries = IsKey key × (1 ≤ tries)
CanCall plan (ByReader r) now (Called call) tries = ⊥
CanCall plan (ByReader r) now (Copied bucket) tries = (bucket < buckets_of plan.settings) × (1 ≤ tries)

-- ---- its events

abbrev pub begin_of : Asker → Asked → (tries : ℕ) → List Event
begin_of (BySeat q) (Called call) tries = OfSeat q (Begin call) ∷ []
begin_of (BySeat q) (Copied bucket) tries = OfSeat q (Copy bucket) ∷ []
begin_of (ByReader r) (Called (Lookup key)) tries = OfReader r (Open (OfKey key) tries) ∷ []
begin_of (ByReader r) (Called call) tries = []
begin_of (ByReader r) (Copied bucket) tries = OfReader r (Open (OfBucket bucket) tries) ∷ []

abbrev pub begin_at : Stand → List Event → List Event
begin_at Idle events = events
begin_at (Goes call step) events = []
begin_at (Glances aim glance) events = []

abbrev pub step_of : Asker → Event
step_of (BySeat q) = OfSeat q Step_on
step_of (ByReader r) = OfReader r Peek_on

-- whose event it is
abbrev pub by_event : Event → Asker
by_event (OfSeat q what) = BySeat q
by_event (OfReader r peek) = ByReader r

-- none of them is this one's
abbrev pub HasNone : Asker → List Event → Type 0
HasNone who [] = Unit {0}
HasNone who (e ∷ es) = (by_event e ≡ who → ⊥) × HasNone who es

-- ---- who is answered

-- whether two askers are one
abbrev pub is_asker : Asker → Asker → Bool
is_asker (BySeat q) (BySeat p) = q == p
is_asker (ByReader r) (ByReader k) = r == k
is_asker who other = false

-- the answers to one of them, in order
abbrev pub answers_by : Asker → List Answer → List Answer
answers_by who answers = filter (λ (a : Answer). is_asker who a.by) answers

-- those to a party, by what it knows
abbrev pub own_answers : Holding → List Answer
own_answers h = answers_by h.who (world_after h.plan h.known).answers

-- ---- what comes of a call

-- it was answered last, after so many events, and this is its only answer since it had those
pub record IsAnswered (who : Asker) (asked : Asked) (start : ℕ) (had answers : List Answer) : Type 0 where
  pub front : List Answer
  pub answer : Answer
  pub is : answers ≡ front ++ answer ∷ []
  pub by : answer.by ≡ who
  pub asks : answer.asked ≡ asked
  pub after : start ≤ answer.began
  pub only : answers_by who answers ≡ had ++ answer ∷ []

-- the call is under way since then, with no answer but those that it had, or was answered
abbrev pub Under : Asker → Asked → (start : ℕ) (had : List Answer) → SeatNow → Stand → List Answer → Type 0
Under who asked start had now Idle answers = IsAnswered who asked start had answers
Under who asked start had now (Goes call step) answers =
    (asked ≡ Called call) × (start ≤ now.course.began) × (answers_by who answers ≡ had)
Under who asked start had now (Glances aim glance) answers =
    (asked ≡ asked_by_aim aim) × (start ≤ now.course.began) × (answers_by who answers ≡ had)

abbrev pub UnderIn : Asker → Asked → (start : ℕ) (had : List Answer) → World → Type 0
UnderIn who asked start had x = Under who asked start had (party x who) (party x who).stand x.answers
