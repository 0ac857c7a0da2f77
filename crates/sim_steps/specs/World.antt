-- The words and the seats after a list of events. An event is one atomic step of one seat; what it loads, stores or
-- exchanges follows from the seat's state. Any list of events is meant: seats may stop at any step.
use Rattle.std.specs.Prelude.{ℕ, ◌*◌, ◌==◌, nat_lt, if◌then◌else◌, ◌&&◌, Bool, true, IsTrue, List, [], ◌∷◌, ◌++◌, sum, slice_index, slice_index_or, slice_set, replicate}
use Rattle.sim_steps.specs.declared.adds.Add.{Add}
use Rattle.sim_steps.specs.declared.words.Address.{Address}
use Rattle.sim_steps.specs.declared.words.Address.TheVariants.{Root, StateWord}
use Rattle.sim_steps.specs.declared.words.Ask.{Ask}
use Rattle.sim_steps.specs.declared.words.Ask.TheVariants.{Load, Store, Exchange}
use Rattle.sim_steps.specs.Totals.{is_add}
use Rattle.sim_steps.specs.Layout.{Settings, seats_of, room_of, desk_of, row_words, place}
use Rattle.sim_steps.specs.Program.{Seat, is_idle, ready, resting, next_in, seat_after}

-- a step of this seat, and the add that an idle one begins with it
pub record Event : Type 0 where
  pub seat : ℕ
  pub add : Add

-- all words, and each seat
pub record World : Type 0 where
  pub words : List ℕ
  pub seats : List Seat

-- the place of an address in a table of these settings, and of the word that a step is on
abbrev pub place_of : Settings → Address → ℕ
place_of settings address = place (seats_of settings) (sum settings.adds) address

-- the address of what is asked for
abbrev pub address_of : Ask → Address
address_of (Load from) = from
address_of (Store to word) = to
address_of (Exchange old new) = Root

-- what a step makes of the word that it is on, and what it tells: the word that it found, or the one that it stored
abbrev pub becomes : Ask → ℕ → ℕ
becomes (Load from) word = word
becomes (Store to new) word = new
becomes (Exchange old new) word = if word == old then new else word

-- what the seat is told
abbrev pub told : Ask → ℕ → ℕ
told (Load from) word = word
told (Store to new) word = new
told (Exchange old new) word = word

-- state row 0: no base, the totals that were first, and of each seat no add and no reply
unfoldable pub opening_row : Settings → List ℕ
opening_row settings =
    0 ∷ slice_index settings.first.counts 0 ∷ slice_index settings.first.counts 1 ∷ slice_index settings.first.counts 2
    ∷ slice_index settings.first.bytes 0 ∷ slice_index settings.first.bytes 1 ∷ slice_index settings.first.bytes 2
    ∷ replicate (2 * seats_of settings) 0

-- all words are 0, but for state row 0
abbrev pub opening_words : Settings → List ℕ
opening_words settings =
    replicate (place_of settings (StateWord 0 0)) 0 ++ opening_row settings
    ++ replicate (sum settings.adds * row_words (seats_of settings)) 0

-- the world of the opening
abbrev pub opening : Settings → World
opening settings = record { words = opening_words settings; seats = replicate (seats_of settings) resting }

-- whether a seat can take a step: it is in an add, or may begin this one
abbrev pub can_act : Settings → ℕ → Add → Seat → Bool
can_act settings me add seat = if is_idle seat.phase then nat_lt seat.caller.number
    (room_of settings me) && is_add add else true

-- a seat of a world
abbrev pub seat_in : World → ℕ → Seat
seat_in world seat = slice_index_or world.seats seat resting

-- one step of a seat that is in an add
abbrev pub acts : Settings → ℕ → Seat → World → World
acts settings me seat world =
    let desk = desk_of settings me in
    let ask = next_in desk seat.caller seat.phase in
    let at = place_of settings (address_of ask) in
    let found = slice_index world.words at in
    record {
      words = slice_set world.words at (becomes ask found);
      seats = slice_set world.seats me (seat_after desk seat (told ask found));
    }

-- an event of a seat that cannot act changes nothing
abbrev pub happens : Settings → World → Event → World
happens settings world event =
    if nat_lt event.seat (seats_of settings) && can_act settings event.seat event.add (seat_in world event.seat)
    then acts settings event.seat (ready event.add (seat_in world event.seat)) world
    else world

-- the world after some events from another on
abbrev pub world_from : Settings → World → List Event → World
world_from settings world [] = world
world_from settings world (event ∷ events) = world_from settings (happens settings world event) events

-- the world after these events
abbrev pub world_after : Settings → List Event → World
world_after settings events = world_from settings (opening settings) events

-- each of these events is a step
abbrev pub AreStepsFrom : Settings → World → List Event → Type 0
AreStepsFrom settings world [] = Unit {0}
AreStepsFrom settings world (event ∷ events) =
    IsTrue (nat_lt event.seat (seats_of settings) && can_act settings event.seat event.add (seat_in world event.seat))
    × AreStepsFrom settings (happens settings world event) events

-- each of the events is a step
abbrev pub AreSteps : Settings → List Event → Type 0
AreSteps settings events = AreStepsFrom settings (opening settings) events
