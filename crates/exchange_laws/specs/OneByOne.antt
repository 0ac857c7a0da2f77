-- What a seat has answered, and what it does between two of its answers: its calls come one after the other.
use Rattle.std.specs.Prelude.{◌≡◌, ℕ, ◌≤◌, if◌then◌else◌, List, [], ◌∷◌, ◌++◌, length, flat_map}
use Rattle.plain_map.specs.declared.calls.Call.{Call}
use Rattle.plain_map.specs.declared.calls.Call.TheVariants.{Insert, Remove, Lookup, Tally, Count, Put}
use Rattle.plain_map.specs.Calls.{is_update}
use Rattle.map_laws.specs.ByKey.{Made}
use Rattle.exchange_model.specs.Plans.{Plan}
use Rattle.exchange_model.specs.Steps.{Stand, Idle, Goes, Glances}
use Rattle.exchange_model.specs.Goes.{Asked, Called, Copied, Told, Replied, Pairs, Again, Spent, Refused}
use Rattle.exchange_model.specs.Worlds.{Answer, Event, IsRun, seat_in, world_after}
use Rattle.exchange_laws.specs.Orders.{answers_by}

-- an update with its reply, where it was answered
abbrev pub update_told : Call → Told → List Made
update_told call (Replied reply) = if is_update call then (call, reply) ∷ [] else []
update_told call (Pairs pairs) = []
update_told call Again = []
update_told call Spent = []
update_told call Refused = []

abbrev pub update_made : Asked → Told → List Made
update_made (Called call) told = update_told call told
update_made (Copied bucket) told = []

-- the updates among these answers, each with its reply
abbrev pub updates_among : List Answer → List Made
updates_among answers = flat_map (λ a. update_made a.asked a.told) answers

-- a lookup or a copy
abbrev pub IsLooking : Asked → Type 0
IsLooking (Called (Lookup key)) = Unit {0}
IsLooking (Called (Insert key value)) = ⊥
IsLooking (Called (Remove key)) = ⊥
IsLooking (Called (Tally key amount)) = ⊥
IsLooking (Called (Count key value amount)) = ⊥
IsLooking (Called (Put key value)) = ⊥
IsLooking (Copied bucket) = Unit {0}

-- no update is under way
abbrev pub HasNoUpdate : Stand → Type 0
HasNoUpdate Idle = Unit {0}
HasNoUpdate (Goes call step) = ⊥
HasNoUpdate (Glances aim glance) = Unit {0}

-- at this moment the seat has answered the updates among these answers and no others, and has none under way
pub record HasJustMade (plan : Plan) (events : List Event) (seat : ℕ) (before : List Answer) : Type 0 where
  pub made : updates_among (answers_by seat (world_after plan events).answers) ≡ updates_among before
  pub none : HasNoUpdate (seat_in (world_after plan events) seat).stand

-- so it is at each moment of a lookup or a copy of a seat: the seat's earlier updates were answered, and its later ones
-- have not begun
abbrev pub LooksAreInTurn : Type 0
LooksAreInTurn =
    (plan : Plan) (events : List Event) → IsRun plan events → (seat : ℕ) (before after : List Answer) (a : Answer) →
    answers_by seat (world_after plan events).answers ≡ before ++ a ∷ after → IsLooking a.asked →
    (front back : List Event) → events ≡ front ++ back → a.began ≤ length front → length front ≤ a.ended →
    HasJustMade plan front seat before
