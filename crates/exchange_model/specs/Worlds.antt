-- The words, the seats and the readers of a table after any list of events. An event is the begin of a call, or one
-- step: one load, store or compare-and-exchange of one word. All interleavings are such lists. An exchange that happens
-- makes the updates that it applies: so each run tells the order of its updates by itself.
use Rattle.std.specs.Prelude.{◌≡◌, ℕ, ◌+◌, ◌-◌, ◌<◌, ◌≤◌, ◌==◌, nat_lt, Bool, true, false, if◌then◌else◌, List, [], ◌∷◌, map, ◌++◌, None, slice_index_or, slice_set, fold}
use Rattle.std.specs.List.{range_with_len}
use Rattle.plain_map.specs.declared.calls.Call.{Call}
use Rattle.plain_map.specs.declared.calls.Call.TheVariants.{Lookup}
use Rattle.plain_map.specs.declared.keys.Pair.{Pair}
use Rattle.plain_map.specs.Updates.{IsUpdate}
use Rattle.plain_map.specs.Keys.{IsKey}
use Rattle.plain_map.specs.Calls.{key_in}
use Rattle.word_rows.specs.Memory.{put}
use Rattle.bucket_states.specs.Items.{reply_in}
use Rattle.exchange_model.specs.Plans.{Plan, IsPlan, MOST_ASKINGS, MOST_ANNOUNCEMENTS, rules_of, holders_of, buckets_of, first_row}
use Rattle.exchange_model.specs.Codes.{born_word, row_of_words}
use Rattle.exchange_model.specs.Words as Words
use Rattle.exchange_model.specs.Words.{held_at, with_word}
use Rattle.exchange_model.specs.Steps as S
use Rattle.exchange_model.specs.Steps.{MadeBySeat, Step, CheckWord, Exchange, Aim, OfKey, OfBucket, Glance, GlanceWord, GlanceWant, Stand, Idle, Goes, Glances, SeatNow, Peeking, Rests, Peeks, ReaderNow, Course, Deed, Nothing, Load, Swap, made, deed_of, glance_deed}
use Rattle.exchange_model.specs.Goes.{Fate, On, Ends, Spends, Refuses, fate, own_after, first_fate, scan_begins, is_announced, is_quiet, GlanceFate, Looks, Shows, Disturbed, glance_fate, time_after, Asked, Called, Told, Replied, Again, Spent, Refused, asked_by_aim, told_by_items}

-- who has asked: a seat, or a reader that can hold, whose number comes behind those of the seats; or another reader
pub data Asker : Type 0 where
  BySeat : (seat : ℕ) → Asker
  ByReader : (reader : ℕ) → Asker

-- a call that was answered: when it began and ended, as the number of events before and then, and its steps
pub record Answer : Type 0 where
  pub by : Asker
  pub asked : Asked
  pub told : Told
  pub began : ℕ
  pub ended : ℕ
  pub steps : ℕ

pub record World : Type 0 where
  pub store : Words.Store
  -- the seats, and behind them the readers that can hold
  pub seats : List SeatNow
  -- as many as there may be
  pub readers : (reader : ℕ) → ReaderNow
  -- the last one last
  pub answers : List Answer
  -- the updates that were made, in their order: at exchanges, and at checks that answered one that changes nothing
  pub made : List MadeBySeat
  -- how many events there were
  pub clock : ℕ

-- a call that begins after so many events
abbrev pub course_from : (clock : ℕ) → Course
course_from clock = record { began = clock; steps = 0 }

-- one step more
abbrev pub stepped : Course → Course
stepped course = record course { steps = course.steps + 1 }

-- ---- the opening

-- a seat has its rows, all of them free; a reader has none
abbrev pub opening_rows : Plan → (holder : ℕ) → List ℕ
opening_rows plan holder =
    if nat_lt holder plan.settings.seats then range_with_len (first_row plan holder) plan.spare else []

-- a seat that has done nothing yet: all its rows are free
abbrev pub opening_seat : Plan → (seat : ℕ) → SeatNow
opening_seat plan seat = record {
  answered = 0;
  posted = 0;
  time = 0;
  free = opening_rows plan seat;
  kept = [];
  scan = None;
  stand = Idle;
  course = course_from 0;
}

-- each bucket has its own row, of the first generation. All other words are 0, so all rows are empty
unfoldable pub opening_store : Plan → Words.Store
opening_store plan = record {
  pending = 0;
  announced = λ _. 0;
  want = λ _. 0;
  hold = λ _. 0;
  op = λ _ _. 0;
  bucket = λ bucket. if nat_lt bucket (buckets_of plan.settings) then born_word plan bucket else 0;
  row = λ row i. 0;
}

-- a reader that has not looked yet
abbrev pub fresh_reader : ReaderNow
fresh_reader = record { stand = Rests; course = course_from 0 }

-- the world that a table is opened with
abbrev pub opening_world : Plan → World
opening_world plan = record {
  store = opening_store plan;
  seats = map (opening_seat plan) (range_with_len 0 (holders_of plan.settings));
  readers = λ _. fresh_reader;
  answers = [];
  made = [];
  clock = 0;
}

-- ---- a step

-- what is found in its word
abbrev pub found_by : Deed → Words.Store → ℕ
found_by Nothing store = 0
found_by (Load from) store = held_at store from
found_by (S.Store to word) store = 0
found_by (Swap at old new) store = held_at store at
found_by (S.Raise at) store = held_at store at
found_by (S.Lower at) store = held_at store at

-- the words then: an exchange happens exactly where the word holds what was expected
abbrev pub store_after : Deed → Words.Store → Words.Store
store_after Nothing store = store
store_after (Load from) store = store
store_after (S.Store to word) store = with_word store to word
store_after (Swap at old new) store = if held_at store at == old then with_word store at new else store
store_after (S.Raise at) store = with_word store at (held_at store at + 1)
store_after (S.Lower at) store = with_word store at (held_at store at - 1)

-- what there is for no seat
abbrev pub nobody : SeatNow
nobody = record {
  answered = 0;
  posted = 0;
  time = 0;
  free = [];
  kept = [];
  scan = None;
  stand = Idle;
  course = course_from 0;
}

-- what a seat has for itself and where it stands
abbrev pub seat_in : World → (seat : ℕ) → SeatNow
seat_in world seat = slice_index_or world.seats seat nobody

-- the world where a seat has taken a step: its words, the seat, the answers and the updates then
abbrev pub with_seat : World → (seat : ℕ) → Words.Store → SeatNow → List Answer → List MadeBySeat → World
with_seat world seat store now answers updates =
    record world { store = store; seats = slice_set world.seats seat now; answers = answers; made = updates }

-- the answers with one to a call that ends now
abbrev pub with_answer : World → Asker → Asked → Told → Course → List Answer
with_answer world by asked told course =
    world.answers ++ record {
      by = by;
      asked = asked;
      told = told;
      began = course.began;
      ended = world.clock + 1;
      steps = course.steps;
    } ∷ []

-- ---- an update

-- the seat in flight, with one step more
abbrev pub seat_after : SeatNow → Call → Fate → SeatNow
seat_after now call (On step) = record now { stand = Goes call step; course = stepped now.course }
seat_after now call (Ends reply) =
    record now { answered = now.answered + 1; stand = Idle; course = stepped now.course }
seat_after now call Spends = record now { stand = Idle; course = stepped now.course }
seat_after now call Refuses = record now { stand = Idle; course = stepped now.course }

-- and the answers then
abbrev pub answers_after : World → (seat : ℕ) → Call → Course → Fate → List Answer
answers_after world seat call course (On step) = world.answers
answers_after world seat call course (Ends reply) =
    with_answer world (BySeat seat) (Called call) (Replied reply) course
answers_after world seat call course Spends = with_answer world (BySeat seat) (Called call) Spent course
answers_after world seat call course Refuses = with_answer world (BySeat seat) (Called call) Refused course

-- the own update where it changes nothing of these pairs, and nobody else knows of it
abbrev pub made_quietly : Plan → (seat : ℕ) → Call → (announced : Bool) → List Pair → List MadeBySeat
made_quietly plan seat call true items = []
made_quietly plan seat call false items =
    if is_quiet (rules_of plan) items call then (seat, (call, reply_in (rules_of plan) items call)) ∷ [] else []

-- the updates that a step makes: those that its exchange applies, if it happens; or the one that a check answers
abbrev pub made_by_step : Plan → (seat : ℕ) → Call → Step → (word : ℕ) → List MadeBySeat
made_by_step plan seat call (CheckWord turn old words) word =
    if word == old then made_quietly plan seat call (is_announced turn) (row_of_words plan words).items else []
made_by_step plan seat call (Exchange attempt found) word =
    if word == attempt.word then (made plan attempt found).made else []
made_by_step plan seat call step word = []

-- a step of an update
abbrev pub goes : Plan → World → (seat : ℕ) → SeatNow → Call → Step → World
goes plan world seat now call step =
    let deed = deed_of plan seat now call step in
    let word = found_by deed world.store in
    let next = fate plan seat now call step word in
    with_seat world seat (store_after deed world.store)
    (seat_after (own_after plan seat now call step word) call next)
    (answers_after world seat call (stepped now.course) next) (world.made ++ made_by_step plan seat call step word)

-- ---- a look of a seat, or of a reader that can hold

-- after two tries it asks
abbrev pub look_after : SeatNow → Aim → Glance → GlanceFate → SeatNow
look_after now aim was (Looks glance) =
    record now { time = time_after now.time was; stand = Glances aim glance; course = stepped now.course }
look_after now aim was (Shows items) = record now { stand = Idle; course = stepped now.course }
look_after now aim was Disturbed = record now { stand = Glances aim GlanceWant; course = stepped now.course }

-- and the answers then
abbrev pub look_answers : Plan → World → (seat : ℕ) → Aim → Course → GlanceFate → List Answer
look_answers plan world seat aim course (Looks glance) = world.answers
look_answers plan world seat aim course (Shows items) =
    with_answer world (BySeat seat) (asked_by_aim aim) (told_by_items plan aim items) course
look_answers plan world seat aim course Disturbed = world.answers

-- a step of a look
abbrev pub glances : Plan → World → (seat : ℕ) → SeatNow → Aim → Glance → World
glances plan world seat now aim glance =
    let deed = glance_deed plan seat now.time aim glance in
    let next = glance_fate plan now.time aim glance (found_by deed world.store) in
    with_seat world seat (store_after deed world.store) (look_after now aim glance next)
    (look_answers plan world seat aim (stepped now.course) next) world.made

-- ---- a look of a reader that cannot hold

-- it has no hold word, and answers that it may be tried again
abbrev pub peek_after : ReaderNow → Aim → GlanceFate → ReaderNow
peek_after now aim (Looks glance) = record { stand = Peeks aim glance; course = stepped now.course }
peek_after now aim (Shows items) = record { stand = Rests; course = stepped now.course }
peek_after now aim Disturbed = record { stand = Rests; course = stepped now.course }

-- and the answers then
abbrev pub peek_answers : Plan → World → (reader : ℕ) → Aim → Course → GlanceFate → List Answer
peek_answers plan world reader aim course (Looks glance) = world.answers
peek_answers plan world reader aim course (Shows items) =
    with_answer world (ByReader reader) (asked_by_aim aim) (told_by_items plan aim items) course
peek_answers plan world reader aim course Disturbed =
    with_answer world (ByReader reader) (asked_by_aim aim) Again course

-- the world where such a reader has taken a step
abbrev pub with_reader : World → (reader : ℕ) → ReaderNow → List Answer → World
with_reader world reader now answers =
    record world { readers = put world.readers reader now; answers = answers }

-- a step of its look
abbrev pub peeks : Plan → World → (reader : ℕ) → ReaderNow → Aim → Glance → World
peeks plan world reader now aim glance =
    let deed = glance_deed plan 0 0 aim glance in
    let next = glance_fate plan 0 aim glance (found_by deed world.store) in
    with_reader world reader (peek_after now aim next)
    (peek_answers plan world reader aim (stepped now.course) next)

-- ---- events

-- what a seat may do next, and a reader that can hold: begin a call, begin to copy a bucket, or go on
pub data What : Type 0 where
  Begin : (call : Call) → What
  Copy : (bucket : ℕ) → What
  Step_on : What

-- and another reader, which begins with so many tries
pub data Peek : Type 0 where
  Open : (aim : Aim) (tries : ℕ) → Peek
  Peek_on : Peek

-- an event is one of a seat or a reader that can hold, by its number among both; or of another reader
pub data Event : Type 0 where
  OfSeat : (seat : ℕ) (what : What) → Event
  OfReader : (reader : ℕ) (peek : Peek) → Event

-- who can hold has two tries before it asks
abbrev pub LOOK_TRIES : ℕ
LOOK_TRIES = 2

-- a look begins
abbrev pub look_begins : World → (seat : ℕ) → SeatNow → Aim → World
look_begins world seat now aim =
    with_seat world seat world.store
    (record now { stand = Glances aim (GlanceWord (LOOK_TRIES - 1)); course = course_from world.clock })
    world.answers world.made

-- where an update stands that begins
abbrev pub stand_at : Call → Fate → Stand
stand_at call (On step) = Goes call step
stand_at call (Ends reply) = Idle
stand_at call Spends = Idle
stand_at call Refuses = Idle

-- it begins with a scan where no row is free
abbrev pub update_begins : Plan → World → (seat : ℕ) → SeatNow → Call → World
update_begins plan world seat now call =
    let taken = scan_begins plan seat now.free now in
    let next = first_fate taken.free taken.scan in
    let course = course_from world.clock in
    with_seat world seat world.store
    (record taken { stand = stand_at call next; course = course })
    (answers_after world seat call course next) world.made

-- a call begins
abbrev pub call_begins : Plan → World → (seat : ℕ) → SeatNow → Call → World
call_begins plan world seat now (Lookup key) = look_begins world seat now (OfKey key)
call_begins plan world seat now call = update_begins plan world seat now call

-- the call in flight takes a step
abbrev pub goes_on : Plan → World → (seat : ℕ) → SeatNow → Stand → World
goes_on plan world seat now Idle = world
goes_on plan world seat now (Goes call step) = goes plan world seat now call step
goes_on plan world seat now (Glances aim glance) = glances plan world seat now aim glance

-- what a seat does, or a reader that can hold
abbrev pub act : Plan → World → (seat : ℕ) → SeatNow → What → World
act plan world seat now (Begin call) = call_begins plan world seat now call
act plan world seat now (Copy bucket) = look_begins world seat now (OfBucket bucket)
act plan world seat now Step_on = goes_on plan world seat now now.stand

-- the look in flight takes a step
abbrev pub peeks_on : Plan → World → (reader : ℕ) → ReaderNow → Peeking → World
peeks_on plan world reader now Rests = world
peeks_on plan world reader now (Peeks aim glance) = peeks plan world reader now aim glance

-- what another reader does
abbrev pub peek_acts : Plan → World → (reader : ℕ) → ReaderNow → Peek → World
peek_acts plan world reader now (Open aim tries) =
    with_reader world reader
    (record { stand = Peeks aim (GlanceWord (tries - 1)); course = course_from world.clock })
    world.answers
peek_acts plan world reader now Peek_on = peeks_on plan world reader now now.stand

-- one event more
abbrev pub ticked : World → World
ticked world = record world { clock = world.clock + 1 }

-- what an event leaves. One of no seat and no reader that can hold leaves all as it is
abbrev pub happens : Plan → World → Event → World
happens plan world (OfSeat seat what) =
    if nat_lt seat (holders_of plan.settings) then ticked (act plan world seat (seat_in world seat) what) else world
happens plan world (OfReader reader peek) = ticked (peek_acts plan world reader (world.readers reader) peek)

-- ---- runs

-- it can ask for a row once more
abbrev pub CanAsk : SeatNow → Type 0
CanAsk now = now.time < MOST_ASKINGS

-- a lookup may begin as long as there are askings left, and a seat's update as long as there are announcements too
abbrev pub CanBegin : Plan → (seat : ℕ) → SeatNow → Call → Type 0
CanBegin plan seat now (Lookup key) = CanAsk now × IsKey key
CanBegin plan seat now call =
    (seat < plan.settings.seats) × CanAsk now × (now.posted + 1 < MOST_ANNOUNCEMENTS) × IsUpdate call
    × IsKey (key_in call)

-- a call is in flight. Only a seat makes an update
abbrev pub IsFlying : Plan → (seat : ℕ) → Stand → Type 0
IsFlying plan seat Idle = ⊥
IsFlying plan seat (Goes call step) = seat < plan.settings.seats
IsFlying plan seat (Glances aim glance) = Unit {0}

-- what may come of who stands so
abbrev pub Fits : Plan → (seat : ℕ) → SeatNow → What → Type 0
Fits plan seat now (Begin call) = (now.stand ≡ Idle) × CanBegin plan seat now call
Fits plan seat now (Copy bucket) = (now.stand ≡ Idle) × CanAsk now × (bucket < buckets_of plan.settings)
Fits plan seat now Step_on = IsFlying plan seat now.stand

-- what can be looked for
abbrev pub IsAim : Plan → Aim → Type 0
IsAim plan (OfKey key) = IsKey key
IsAim plan (OfBucket bucket) = bucket < buckets_of plan.settings

-- a look is in flight
abbrev pub IsPeeking : Peeking → Type 0
IsPeeking Rests = ⊥
IsPeeking (Peeks aim glance) = Unit {0}

-- what may come of another reader
abbrev pub PeekFits : Plan → ReaderNow → Peek → Type 0
PeekFits plan now (Open aim tries) = (now.stand ≡ Rests) × IsAim plan aim × (1 ≤ tries)
PeekFits plan now Peek_on = IsPeeking now.stand

-- an event that may come in this world
abbrev pub IsEvent : Plan → World → Event → Type 0
IsEvent plan world (OfSeat seat what) =
    (seat < holders_of plan.settings) × Fits plan seat (seat_in world seat) what
IsEvent plan world (OfReader reader peek) = PeekFits plan (world.readers reader) peek

-- events that may come one after the other
abbrev pub AreEvents : Plan → World → List Event → Type 0
AreEvents plan world [] = Unit {0}
AreEvents plan world (event ∷ events) = IsEvent plan world event × AreEvents plan (happens plan world event) events

-- the world after these events
abbrev pub world_after : Plan → List Event → World
world_after plan events = fold (happens plan) (opening_world plan) events

-- a run of a table
pub record IsRun (plan : Plan) (events : List Event) : Type 0 where
  pub opened : IsPlan plan
  pub follow : AreEvents plan (opening_world plan) events
