-- The words, the seats and the readers of a lasting table after any list of events. An event is the begin of a call, or
-- one step: one load, store or compare-and-exchange of one word. All interleavings are such lists.
use Rattle.std.specs.Prelude.{◌≡◌, ℕ, ◌+◌, ◌-◌, ◌*◌, ◌/◌, ◌%◌, ◌<◌, ◌≤◌, ◌==◌, nat_lt, if◌then◌else◌, List, [], ◌∷◌, ◌++◌, map, None, slice_index_or, slice_set, fold, drop}
use Rattle.std.specs.List.{range_with_len}
use Rattle.plain_map.specs.declared.calls.Call.{Call}
use Rattle.plain_map.specs.declared.calls.Call.TheVariants.{Lookup}
use Rattle.plain_map.specs.Updates.{IsUpdate}
use Rattle.plain_map.specs.Keys.{IsKey}
use Rattle.plain_map.specs.Calls.{key_in}
use Rattle.word_rows.specs.Memory.{put}
use Rattle.bucket_states.specs.States.{BucketState, empty_state}
use Rattle.table_model.specs.Setup.{Setup}
use Rattle.table_model.specs.Worlds.{first_leaves}
use Rattle.lasting_model.specs.Plans.{Plan, IsPlan, ample, buckets_of, MOST_UPDATES}
use Rattle.lasting_model.specs.Codes.{tag, row_words}
use Rattle.lasting_model.specs.Words as Words
use Rattle.lasting_model.specs.Words.{held_at, with_word, first_row}
use Rattle.lasting_model.specs.Steps as S
use Rattle.lasting_model.specs.Steps.{Update, Step, Aim, OfKey, OfBucket, Glance, GlanceWord, GlanceWant, Stand, Idle, Goes, Glances, SeatNow, Peeking, Rests, Peeks, ReaderNow, Course, Deed, Nothing, Load, Swap, deed_of, glance_deed}
use Rattle.lasting_model.specs.Goes.{Fate, On, Ends, Refuses, fate, own_after, first_fate, sweep_begins, GlanceFate, Looks, Shows, Disturbed, glance_fate, time_after, Asked, Called, Told, Replied, Again, Refused, asked_by_aim, told_by_items}

-- who has asked
pub data Asker : Type 0 where
  BySeat : (seat : ℕ) → Asker
  ByReader : (reader : ℕ) → Asker

-- a call that was answered: when it began and ended, as the number of events before and then, and its steps
pub record Answer : Type 0 where
  pub by : Asker
  pub asked : Asked
  pub told : Told
  pub began : ℕ
  pub ended : ℕ
  pub steps : ℕ

pub record Lasting : Type 0 where
  pub store : Words.Store
  pub seats : List SeatNow
  -- as many as there may be
  pub readers : (reader : ℕ) → ReaderNow
  -- the last one last
  pub answers : List Answer
  -- how many events there were
  pub clock : ℕ

-- a call that begins after so many events
abbrev pub course_from : (clock : ℕ) → Course
course_from clock = record { began = clock; steps = 0 }

-- one step more
abbrev pub stepped : Course → Course
stepped course = record course { steps = course.steps + 1 }

-- ---- the opening

-- the first row of a bucket: the seats have them in turn
abbrev pub opening_row : Plan → (bucket : ℕ) → ℕ
opening_row plan bucket = first_row plan (bucket % plan.settings.seats) + bucket / plan.settings.seats

-- what it says
abbrev pub opening_state : Plan → (bucket : ℕ) → BucketState
opening_state plan bucket =
    slice_index_or (map (λ leaf. leaf.bucket) (first_leaves (ample plan))) bucket (empty_state plan.settings.seats)

-- how many buckets have their first row from the seat: it has every seats-th one, from its own number on
abbrev pub opening_count : Plan → (seat : ℕ) → ℕ
opening_count plan seat = (buckets_of plan.settings + (plan.settings.seats - 1 - seat)) / plan.settings.seats

-- these rows, each with its bucket
abbrev pub opening_named : Plan → (seat : ℕ) → List (ℕ × ℕ)
opening_named plan seat =
    map (λ i. (first_row plan seat + i, i * plan.settings.seats + seat))
    (range_with_len 0 (opening_count plan seat))

-- and all rows of the seat
abbrev pub all_rows : Plan → (seat : ℕ) → List ℕ
all_rows plan seat = range_with_len (first_row plan seat) plan.rows

abbrev pub opening_seat : Plan → (seat : ℕ) → SeatNow
opening_seat plan seat = record {
  answered = 0;
  time = 0;
  generation = λ _. 0;
  free = drop (opening_count plan seat) (all_rows plan seat);
  named = opening_named plan seat;
  sweep = None;
  stand = Idle;
  course = course_from 0;
}

-- the bucket whose first row is this one
abbrev pub bucket_of_row : Plan → (row : ℕ) → ℕ
bucket_of_row plan row = row % plan.rows * plan.settings.seats + row / plan.rows

-- all words but those of the first rows and the bucket words are 0. Each row has generation 0
unfoldable pub opening_store : Plan → Words.Store
opening_store plan = record {
  announced = λ _. 0;
  want = λ _. 0;
  hold = λ _. 0;
  op = λ _ _. 0;
  bucket = λ bucket. if nat_lt bucket (buckets_of plan.settings) then tag 0 (opening_row plan bucket) else 0;
  row = λ row i.
      if nat_lt (bucket_of_row plan row) (buckets_of plan.settings)
      then slice_index_or (row_words (ample plan) 0 (opening_state plan (bucket_of_row plan row))) i 0 else 0;
}

abbrev pub fresh_reader : ReaderNow
fresh_reader = record { stand = Rests; course = course_from 0 }

abbrev pub opening_world : Plan → Lasting
opening_world plan = record {
  store = opening_store plan;
  seats = map (opening_seat plan) (range_with_len 0 plan.settings.seats);
  readers = λ _. fresh_reader;
  answers = [];
  clock = 0;
}

-- ---- a step

-- what is found in its word
abbrev pub found_by : Deed → Words.Store → ℕ
found_by Nothing store = 0
found_by (Load from) store = held_at store from
found_by (S.Store to word) store = 0
found_by (Swap at old new) store = held_at store at

-- the words then: an exchange happens exactly where the word holds what was expected
abbrev pub store_after : Deed → Words.Store → Words.Store
store_after Nothing store = store
store_after (Load from) store = store
store_after (S.Store to word) store = with_word store to word
store_after (Swap at old new) store = if held_at store at == old then with_word store at new else store

-- what there is for no seat
abbrev pub nobody : SeatNow
nobody = record {
  answered = 0;
  time = 0;
  generation = λ _. 0;
  free = [];
  named = [];
  sweep = None;
  stand = Idle;
  course = course_from 0;
}

-- what a seat has for itself and where it stands
abbrev pub seat_in : Lasting → (seat : ℕ) → SeatNow
seat_in world seat = slice_index_or world.seats seat nobody

abbrev pub with_seat : Lasting → (seat : ℕ) → Words.Store → SeatNow → List Answer → Lasting
with_seat world seat store now answers =
    record world { store = store; seats = slice_set world.seats seat now; answers = answers }

-- the answers with one to a call that ends now
abbrev pub with_answer : Lasting → Asker → Asked → Told → Course → List Answer
with_answer world by asked told course =
    world.answers ++ record {
      by = by;
      asked = asked;
      told = told;
      began = course.began;
      ended = world.clock + 1;
      steps = course.steps;
    } ∷ []

-- ---- an update

-- the seat in flight, with one step more
abbrev pub seat_after : SeatNow → Update → Fate → SeatNow
seat_after now u (On step) = record now { stand = Goes u step; course = stepped now.course }
seat_after now u (Ends reply) =
    record now { answered = now.answered + 1; stand = Idle; course = stepped now.course }
seat_after now u Refuses = record now { stand = Idle; course = stepped now.course }

-- and the answers then
abbrev pub answers_after : Lasting → (seat : ℕ) → Call → Course → Fate → List Answer
answers_after world seat call course (On step) = world.answers
answers_after world seat call course (Ends reply) =
    with_answer world (BySeat seat) (Called call) (Replied reply) course
answers_after world seat call course Refuses = with_answer world (BySeat seat) (Called call) Refused course

abbrev pub goes : Plan → Lasting → (seat : ℕ) → SeatNow → Update → Step → Lasting
goes plan world seat now u step =
    let deed = deed_of (ample plan) seat now u step in
    let word = found_by deed world.store in
    let next = fate (ample plan) seat now u step word in
    with_seat world seat (store_after deed world.store)
    (seat_after (own_after (ample plan) seat now u step word) u next)
    (answers_after world seat u.call (stepped now.course) next)

-- ---- a look of a seat

-- after two tries it asks
abbrev pub look_after : SeatNow → Aim → Glance → GlanceFate → SeatNow
look_after now aim was (Looks glance) =
    record now { time = time_after now.time was; stand = Glances aim glance; course = stepped now.course }
look_after now aim was (Shows items) = record now { stand = Idle; course = stepped now.course }
look_after now aim was Disturbed = record now { stand = Glances aim GlanceWant; course = stepped now.course }

abbrev pub look_answers : Setup → Lasting → (seat : ℕ) → Aim → Course → GlanceFate → List Answer
look_answers setup world seat aim course (Looks glance) = world.answers
look_answers setup world seat aim course (Shows items) =
    with_answer world (BySeat seat) (asked_by_aim aim) (told_by_items setup aim items) course
look_answers setup world seat aim course Disturbed = world.answers

abbrev pub glances : Plan → Lasting → (seat : ℕ) → SeatNow → Aim → Glance → Lasting
glances plan world seat now aim glance =
    let deed = glance_deed (ample plan) seat now.time aim glance in
    let next = glance_fate (ample plan) now.time aim glance (found_by deed world.store) in
    with_seat world seat (store_after deed world.store) (look_after now aim glance next)
    (look_answers (ample plan) world seat aim (stepped now.course) next)

-- ---- a look of a reader

-- it has no hold word, and answers that it may be tried again
abbrev pub peek_after : ReaderNow → Aim → GlanceFate → ReaderNow
peek_after now aim (Looks glance) = record { stand = Peeks aim glance; course = stepped now.course }
peek_after now aim (Shows items) = record { stand = Rests; course = stepped now.course }
peek_after now aim Disturbed = record { stand = Rests; course = stepped now.course }

abbrev pub peek_answers : Setup → Lasting → (reader : ℕ) → Aim → Course → GlanceFate → List Answer
peek_answers setup world reader aim course (Looks glance) = world.answers
peek_answers setup world reader aim course (Shows items) =
    with_answer world (ByReader reader) (asked_by_aim aim) (told_by_items setup aim items) course
peek_answers setup world reader aim course Disturbed =
    with_answer world (ByReader reader) (asked_by_aim aim) Again course

abbrev pub with_reader : Lasting → (reader : ℕ) → ReaderNow → List Answer → Lasting
with_reader world reader now answers =
    record world { readers = put world.readers reader now; answers = answers }

abbrev pub peeks : Plan → Lasting → (reader : ℕ) → ReaderNow → Aim → Glance → Lasting
peeks plan world reader now aim glance =
    let deed = glance_deed (ample plan) 0 0 aim glance in
    let next = glance_fate (ample plan) 0 aim glance (found_by deed world.store) in
    with_reader world reader (peek_after now aim next)
    (peek_answers (ample plan) world reader aim (stepped now.course) next)

-- ---- events

-- what a seat may do next: begin a call, begin to copy a bucket, or go on
pub data What : Type 0 where
  Begin : (call : Call) → What
  Copy : (bucket : ℕ) → What
  Step_on : What

-- and a reader, which begins with so many tries
pub data Peek : Type 0 where
  Open : (aim : Aim) (tries : ℕ) → Peek
  Peek_on : Peek

-- an event is one of a seat or of a reader
pub data Event : Type 0 where
  OfSeat : (seat : ℕ) (what : What) → Event
  OfReader : (reader : ℕ) (peek : Peek) → Event

-- a seat has two tries before it asks
abbrev pub LOOK_TRIES : ℕ
LOOK_TRIES = 2

-- a look begins
abbrev pub look_begins : Lasting → (seat : ℕ) → SeatNow → Aim → Lasting
look_begins world seat now aim =
    with_seat world seat world.store
    (record now { stand = Glances aim (GlanceWord (LOOK_TRIES - 1)); course = course_from world.clock })
    world.answers

-- where an update stands that begins
abbrev pub stand_at : Update → Fate → Stand
stand_at u (On step) = Goes u step
stand_at u (Ends reply) = Idle
stand_at u Refuses = Idle

-- the seat's next update
abbrev pub next_update : SeatNow → Call → Update
next_update now call = record { number = now.answered + 1; call = call }

-- it begins with a piece of a sweep where there is something to sweep
abbrev pub update_begins : Lasting → (seat : ℕ) → SeatNow → Call → Lasting
update_begins world seat now call =
    let taken = sweep_begins now.named now.sweep now in
    let next = first_fate now.free taken.sweep in
    let course = course_from world.clock in
    with_seat world seat world.store
    (record taken { stand = stand_at (next_update now call) next; course = course })
    (answers_after world seat call course next)

abbrev pub call_begins : Lasting → (seat : ℕ) → SeatNow → Call → Lasting
call_begins world seat now (Lookup key) = look_begins world seat now (OfKey key)
call_begins world seat now call = update_begins world seat now call

abbrev pub goes_on : Plan → Lasting → (seat : ℕ) → SeatNow → Stand → Lasting
goes_on plan world seat now Idle = world
goes_on plan world seat now (Goes u step) = goes plan world seat now u step
goes_on plan world seat now (Glances aim glance) = glances plan world seat now aim glance

abbrev pub act : Plan → Lasting → (seat : ℕ) → SeatNow → What → Lasting
act plan world seat now (Begin call) = call_begins world seat now call
act plan world seat now (Copy bucket) = look_begins world seat now (OfBucket bucket)
act plan world seat now Step_on = goes_on plan world seat now now.stand

abbrev pub peeks_on : Plan → Lasting → (reader : ℕ) → ReaderNow → Peeking → Lasting
peeks_on plan world reader now Rests = world
peeks_on plan world reader now (Peeks aim glance) = peeks plan world reader now aim glance

abbrev pub peek_acts : Plan → Lasting → (reader : ℕ) → ReaderNow → Peek → Lasting
peek_acts plan world reader now (Open aim tries) =
    with_reader world reader
    (record { stand = Peeks aim (GlanceWord (tries - 1)); course = course_from world.clock })
    world.answers
peek_acts plan world reader now Peek_on = peeks_on plan world reader now now.stand

-- one event more
abbrev pub ticked : Lasting → Lasting
ticked world = record world { clock = world.clock + 1 }

abbrev pub happens : Plan → Lasting → Event → Lasting
happens plan world (OfSeat seat what) =
    if nat_lt seat plan.settings.seats then ticked (act plan world seat (seat_in world seat) what) else world
happens plan world (OfReader reader peek) = ticked (peek_acts plan world reader (world.readers reader) peek)

-- ---- runs

-- an update may begin where there is a number for it
abbrev pub CanBegin : SeatNow → Call → Type 0
CanBegin now (Lookup key) = IsKey key
CanBegin now call = IsUpdate call × IsKey (key_in call) × (now.answered < MOST_UPDATES)

abbrev pub IsFlying : Stand → Type 0
IsFlying Idle = ⊥
IsFlying (Goes u step) = Unit {0}
IsFlying (Glances aim glance) = Unit {0}

abbrev pub Fits : Plan → SeatNow → What → Type 0
Fits plan now (Begin call) = (now.stand ≡ Idle) × CanBegin now call
Fits plan now (Copy bucket) = (now.stand ≡ Idle) × (bucket < buckets_of plan.settings)
Fits plan now Step_on = IsFlying now.stand

-- what can be looked for
abbrev pub IsAim : Plan → Aim → Type 0
IsAim plan (OfKey key) = IsKey key
IsAim plan (OfBucket bucket) = bucket < buckets_of plan.settings

abbrev pub IsPeeking : Peeking → Type 0
IsPeeking Rests = ⊥
IsPeeking (Peeks aim glance) = Unit {0}

abbrev pub PeekFits : Plan → ReaderNow → Peek → Type 0
PeekFits plan now (Open aim tries) = (now.stand ≡ Rests) × IsAim plan aim × (1 ≤ tries)
PeekFits plan now Peek_on = IsPeeking now.stand

-- an event that may come in this world
abbrev pub IsEvent : Plan → Lasting → Event → Type 0
IsEvent plan world (OfSeat seat what) = (seat < plan.settings.seats) × Fits plan (seat_in world seat) what
IsEvent plan world (OfReader reader peek) = PeekFits plan (world.readers reader) peek

abbrev pub AreEvents : Plan → Lasting → List Event → Type 0
AreEvents plan world [] = Unit {0}
AreEvents plan world (event ∷ events) = IsEvent plan world event × AreEvents plan (happens plan world event) events

-- the world after these events
abbrev pub world_after : Plan → List Event → Lasting
world_after plan events = fold (happens plan) (opening_world plan) events

-- a run of a lasting table
pub record IsRun (plan : Plan) (events : List Event) : Type 0 where
  pub opened : IsPlan plan
  pub follow : AreEvents plan (opening_world plan) events
