-- What is said of the world after every list of events.
use Rattle.std.specs.Prelude.{◌≡◌, ℕ, ◌+◌, ◌^◌, ◌<◌, ◌≤◌, ◌==◌, if◌then◌else◌, List, [], ◌∷◌, ◌++◌, All, Some, sum, sum_by, length, slice_get, slice_index}
use Rattle.sim_steps.specs.declared.adds.Added.{Added}
use Rattle.sim_steps.specs.declared.words.Address.{Address}
use Rattle.sim_steps.specs.declared.words.Address.TheVariants.{Root, StateWord}
use Rattle.sim_steps.specs.Totals.{count_after, bytes_after}
use Rattle.sim_steps.specs.Layout.{Settings, AreSettings, seats_of, desk_of, IsAddress, place, words_of}
use Rattle.sim_steps.specs.Program.{Seat, LoadRoot, StoreDone, is_idle, next_in, step_bound}
use Rattle.sim_steps.specs.World.{World, Event, AreSteps, address_of, seat_in, world_after}
use Rattle.sim_steps.specs.Order.{Entry, word_at, applied_at, order_of, numbers_of, how_many, up_to, adds_in}

-- ---- words

-- no two addresses share a place, and each is among the words
abbrev pub ArePlaced : Type 0
ArePlaced = (seats rows : ℕ) (a b : Address) → IsAddress seats rows a → IsAddress seats rows b →
    (place seats rows a < words_of seats rows) × (place seats rows a ≡ place seats rows b → a ≡ b)

-- each word of a run is one
abbrev pub AreWords : Settings → List Event → Type 0
AreWords settings events = let words = (world_after settings events).words in
    (length words ≡ words_of (seats_of settings) (sum settings.adds)) × All (λ word. word < 2 ^ 64) words

-- what holds of each seat after every list of events
abbrev pub OfEach : (Settings → List Event → ℕ → Type 0) → Type 0
OfEach law = (settings : Settings) (events : List Event) (seat : ℕ) → AreSettings settings →
    seat < seats_of settings → law settings events seat

-- each step is on a word that there is
abbrev pub AsksWithin : Settings → List Event → ℕ → Type 0
AsksWithin settings events seat =
    let now = seat_in (world_after settings events) seat in
    IsAddress (seats_of settings) (sum settings.adds)
    (address_of (next_in (desk_of settings seat) now.caller now.phase))

-- ---- helping

-- the applied number of a seat in the root's row
abbrev pub applied_in : Settings → World → ℕ → ℕ
applied_in settings world seat = applied_at settings world.words (word_at settings world.words Root) seat

-- a seat that has lost two exchanges finds its add applied by others
abbrev pub IsHelped : Settings → List Event → ℕ → Type 0
IsHelped settings events seat =
    let world = world_after settings events in
    (seat_in world seat).phase ≡ LoadRoot 2 → (seat_in world seat).caller.number ≤ applied_in settings world seat

-- an add that is about to end is applied
abbrev pub IsApplied : Settings → List Event → ℕ → Type 0
IsApplied settings events seat =
    let world = world_after settings events in
    (count : ℕ) → (seat_in world seat).phase ≡ StoreDone count →
    (seat_in world seat).caller.number ≤ applied_in settings world seat

-- ---- steps

-- neither the add that a seat is in nor one that has ended takes more steps than the bound
abbrev pub IsBounded : Settings → List Event → ℕ → Type 0
IsBounded settings events seat =
    let now = seat_in (world_after settings events) seat in
    (now.steps ≤ step_bound (seats_of settings)) × All (λ added. added.steps ≤ step_bound (seats_of settings)) now.log

-- how many of these events are a seat's
abbrev pub events_of : ℕ → List Event → ℕ
events_of seat [] = 0
events_of seat (event ∷ events) = (if event.seat == seat then 1 else 0) + events_of seat events

-- the steps of all its adds
abbrev pub steps_of : Seat → ℕ
steps_of seat = sum_by (λ added. added.steps) seat.log + (if is_idle seat.phase then 0 else seat.steps)

-- the steps that are told are those that were taken
abbrev pub AreCounted : Settings → List Event → ℕ → Type 0
AreCounted settings events seat = AreSteps settings events →
    steps_of (seat_in (world_after settings events) seat) ≡ events_of seat events

-- ---- the order

-- the adds of a seat that have ended
abbrev pub ended_in : Seat → ℕ
ended_in seat = length seat.log

-- a seat's adds stand in the order once each, by their numbers: all that have ended, and the one that it is in, if
-- that took effect
pub record IsWhole (settings : Settings) (events : List Event) (seat : ℕ) : Type 0 where
  pub numbers : (let world = world_after settings events in
      numbers_of seat (order_of settings world.words) ≡ up_to (applied_in settings world seat))
  pub ended : (let world = world_after settings events in
      ended_in (seat_in world seat) ≤ applied_in settings world seat)
  pub begun : (let world = world_after settings events in
      applied_in settings world seat ≤ (seat_in world seat).caller.number)
  pub counted : (let now = seat_in (world_after settings events) seat in
      now.caller.number ≡ ended_in now + (if is_idle now.phase then 0 else 1))

-- an add stands in the order after all that its seat had seen of each seat
pub record StandsAfter (seats : ℕ) (order : List Entry) (seat number : ℕ) (seen : List ℕ)
    (front : List Entry) : Type 0 where
  pub rest : List Entry
  pub stands : order ≡ front ++ (seat, number) ∷ rest
  pub after : (other : ℕ) → other < seats → slice_index seen other ≤ how_many other front

-- so does an add that has ended, with the count that the totals give there
pub record IsAnswered (settings : Settings) (world : World) (seat number : ℕ) (added : Added) : Type 0 where
  pub front : List Entry
  pub standing : StandsAfter (seats_of settings) (order_of settings world.words) seat number added.seen front
  pub counted : added.count ≡ count_after settings.first (adds_in world (front ++ (seat, number) ∷ [])) added.add.class
  pub seat_is : added.seat ≡ seat
  pub number_is : added.number ≡ number

-- each answered add stands in the order, with its count
abbrev pub AreAnswered : Settings → List Event → ℕ → Type 0
AreAnswered settings events seat =
    let world = world_after settings events in
    (i : ℕ) (added : Added) → slice_get (seat_in world seat).log i ≡ Some added →
    IsAnswered settings world seat (i + 1) added

-- so does the add that a seat is in, where it took effect
abbrev pub IsPending : Settings → List Event → ℕ → Type 0
IsPending settings events seat =
    let world = world_after settings events in
    let now = seat_in world seat in
    ended_in now < applied_in settings world seat →
    (front : List Entry) × StandsAfter (seats_of settings) (order_of settings world.words) seat now.caller.number
    now.caller.seen front

-- the root's row has the totals that all adds of the order make of those that were first
pub record AreTotals (settings : Settings) (events : List Event) (class : ℕ) : Type 0 where
  pub count : (let world = world_after settings events in
      word_at settings world.words (StateWord (word_at settings world.words Root) (1 + class))
      ≡ count_after settings.first (adds_in world (order_of settings world.words)) class)
  pub bytes : (let world = world_after settings events in
      word_at settings world.words (StateWord (word_at settings world.words Root) (4 + class))
      ≡ bytes_after settings.first (adds_in world (order_of settings world.words)) class)

-- the order is no longer than there is room for adds, and its numbers have 32 bits
abbrev pub IsShortOrder : Settings → List Event → Type 0
IsShortOrder settings events =
    let order = order_of settings (world_after settings events).words in
    (length order ≤ sum settings.adds) × All (λ entry. entry.1 < 2 ^ 32) order
