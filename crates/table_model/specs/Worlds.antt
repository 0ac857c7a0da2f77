-- The words and the seats of a table after any list of events. An event is one step of one seat: one load, store or
-- compare-and-exchange of one word. All interleavings of the seats are such lists.
use Rattle.std.specs.Prelude.{ℕ, ◌-◌, ◌^◌, ◌<◌, ◌==◌, nat_lt, if◌then◌else◌, List, [], ◌∷◌, ◌++◌, length, Option, Some, None, IsSome, IsNone, IfSome, replicate, slice_index, slice_index_or, slice_set, fold, count_by}
use Rattle.step_counts.specs.StepCounts.{need_of}
use Rattle.plain_map.specs.declared.calls.Call.{Call}
use Rattle.plain_map.specs.declared.full.Full.{Full}
use Rattle.plain_map.specs.Calls.{key_in}
use Rattle.plain_map.specs.Room.{left_of, refusal}
use Rattle.plain_map.specs.Serving.{IsAskable}
use Rattle.word_rows.specs.Shape.{Shape, sizes_of}
use Rattle.word_rows.specs.declared.addresses.Address.{Address}
use Rattle.word_rows.specs.declared.addresses.Address.TheVariants.{DirectoryWord}
use Rattle.word_rows.specs.Places.{place, word_count}
use Rattle.table_model.specs.declared.events.Event.{Event}
use Rattle.table_model.specs.Setup.{Setup, IsSetup, settings_of, seats_of, rules_of}
use Rattle.table_model.specs.Leaves.{NewLeaf}
use Rattle.table_model.specs.Opening.{opening_leaves, opening_directory}
use Rattle.table_model.specs.Phases.{Phase, SeeDone}
use Rattle.table_model.specs.SeatStates.{Account, Flight, Stand, Idle, InFlight, SeatState, fresh_seat, begun}
use Rattle.table_model.specs.Stores.{with_puts, row_puts, leaf_puts, directory_words}
use Rattle.table_model.specs.Asks.{Ask, Nothing, Load, Store, Exchange, ask_in}
use Rattle.table_model.specs.Goes.{state_after}
use Rattle.plain_map.specs.Keys.{IsKey}

-- all words, by their numbers, and the state of each seat
pub record World : Type 0 where
  pub words : List ℕ
  pub seats : List SeatState

-- the word at an address
abbrev pub word_at : Shape → List ℕ → Address → ℕ
word_at shape words address = slice_index words (place shape address)

-- the leaves that the table begins with
abbrev pub first_leaves : Setup → List NewLeaf
first_leaves setup = opening_leaves (rules_of setup) (seats_of setup) setup.shape.settings.start setup.first

-- the words at the opening: the leaves have the first bucket words and bucket rows, and the directory has the first
-- directory row; all else is 0
unfoldable pub opening_words : Setup → List ℕ
opening_words setup =
    with_puts setup.shape (replicate (word_count setup.shape) 0)
    (leaf_puts setup (λ _. None) 0 0 (first_leaves setup)
    ++ row_puts (DirectoryWord 0) 0
    (directory_words None (opening_directory setup.shape.settings.start (first_leaves setup))))

-- the world at the opening
abbrev pub opening_world : Setup → World
opening_world setup = record { words = opening_words setup; seats = replicate (seats_of setup) fresh_seat }

-- the word that is found: by a load and by an exchange what the word holds. A store finds nothing, which is told as 0
abbrev pub found_by : Setup → Ask → List ℕ → ℕ
found_by setup Nothing words = 0
found_by setup (Load from) words = word_at setup.shape words from
found_by setup (Store to word) words = 0
found_by setup (Exchange at old new) words = word_at setup.shape words at

-- the words then: an exchange happens exactly where the word holds what was expected
abbrev pub words_after : Setup → Ask → List ℕ → List ℕ
words_after setup Nothing words = words
words_after setup (Load from) words = words
words_after setup (Store to word) words = slice_set words (place setup.shape to) word
words_after setup (Exchange at old new) words =
    if word_at setup.shape words at == old then slice_set words (place setup.shape at) new else words

-- a seat in flight takes its next step
abbrev pub step_of : Setup → World → (seat : ℕ) → Account → Flight → Phase → World
step_of setup world seat account flight phase =
    let ask = ask_in setup seat account.used flight phase in
    record {
      words = words_after setup ask world.words;
      seats = slice_set world.seats seat (state_after setup seat account flight phase (found_by setup ask world.words));
    }

-- why a call of a seat with this account would be refused, if it would
abbrev pub refusal_of : Setup → (seat : ℕ) → Account → Call → Option Full
refusal_of setup seat account call =
    refusal (left_of (sizes_of setup.shape seat) account.used) (need_of (settings_of setup)) call

-- a call that is refused changes nothing; another begins, and takes its first step
abbrev pub begin_or_refuse : Setup → World → (seat : ℕ) → Account → (packet : ℕ) → Call → Option Full → World
begin_or_refuse setup world seat account packet call (Some full) = world
begin_or_refuse setup world seat account packet call None =
    step_of setup world seat account (begun account packet call) SeeDone

-- an idle seat begins the call that comes with the event, and a seat in flight goes on
abbrev pub act : Setup → World → (seat : ℕ) → Account → Stand → Option (ℕ × Call) → World
act setup world seat account Idle None = world
act setup world seat account Idle (Some begin) =
    begin_or_refuse setup world seat account begin.0 begin.1 (refusal_of setup seat account begin.1)
act setup world seat account (InFlight flight phase) begin = step_of setup world seat account flight phase

-- the state of a seat
abbrev pub seat_in : World → (seat : ℕ) → SeatState
seat_in world seat = slice_index_or world.seats seat fresh_seat

-- the world after one event
abbrev pub happens : Setup → World → Event → World
happens setup world event =
    if nat_lt event.seat (seats_of setup)
    then act setup world event.seat (seat_in world event.seat).account (seat_in world event.seat).stand event.begin
    else world

-- the world after these events
abbrev pub world_after : Setup → List Event → World
world_after setup events = fold (happens setup) (opening_world setup) events

-- a call that a seat may begin: it can be kept, and its number fits
pub record CanBegin (setup : Setup) (account : Account) (begin : ℕ × Call) : Type 0 where
  pub packet : begin.0 < 2 ^ 32
  pub key : IsKey (key_in begin.1)
  pub value : IsAskable begin.1
  pub count : length account.records < setup.shape.limit - 1

-- a call is given exactly where the seat is idle, and it may begin
abbrev pub FitsStand : Setup → Account → Stand → Option (ℕ × Call) → Type 0
FitsStand setup account Idle begin = IsSome begin × IfSome begin (CanBegin setup account)
FitsStand setup account (InFlight flight phase) begin = IsNone begin

-- an event that may come in this world
pub record IsEvent (setup : Setup) (world : World) (event : Event) : Type 0 where
  pub seat : event.seat < seats_of setup
  pub begin : FitsStand setup (seat_in world event.seat).account (seat_in world event.seat).stand event.begin

-- events that may come one after the other
abbrev pub AreEvents : Setup → World → List Event → Type 0
AreEvents setup world [] = Unit {0}
AreEvents setup world (event ∷ events) = IsEvent setup world event × AreEvents setup (happens setup world event) events

-- a run of a table
pub record IsRun (setup : Setup) (events : List Event) : Type 0 where
  pub opened : IsSetup setup
  pub follow : AreEvents setup (opening_world setup) events

-- how many of these events are the seat's
abbrev pub events_of : (seat : ℕ) → List Event → ℕ
events_of seat events = count_by (λ event. event.seat == seat) events
