-- What the calls of several seats come to where each class's calls are made by one seat: the plain map gives each its
-- reply, asked them as they stand. So full classes make no difference between one seat and several.
-- Source: this project's own, after the locality of Herlihy and Wing, "Linearizability", 1990: a class is an object.
use Rattle.std.specs.Prelude.{◌≡◌, ℕ, ◌<◌, ◌==◌, List, [], ◌∷◌, filter, flat_map}
use Rattle.std.specs.FinMap.{empty}
use Rattle.plain_map.specs.declared.keys.Key.{Key}
use Rattle.plain_map.specs.declared.calls.Call.{Call}
use Rattle.plain_map.specs.Calls.{key_in}
use Rattle.bucket_states.specs.Parts.{HoldsPart}
use Rattle.map_laws.specs.ByKey.{Made, LegalMade, after_made}
use Rattle.exchange_model.specs.Plans.{Plan, buckets_of, class_for, rules_of}
use Rattle.exchange_model.specs.Goes.{Asked, Called, Copied, Told, Replied, Pairs, Again, Spent, Refused}
use Rattle.exchange_model.specs.Worlds.{World, Answer, Event, IsRun, world_after}
use Rattle.exchange_model.specs.Laws.{pairs_in}
use Rattle.exchange_laws.specs.Orders.{AllAreIdle, answers_by}

-- a call with its reply, if that is what was asked and told
abbrev pub replied_to : Call → Told → List Made
replied_to call (Replied reply) = (call, reply) ∷ []
replied_to call (Pairs pairs) = []
replied_to call Again = []
replied_to call Spent = []
replied_to call Refused = []

abbrev pub call_told : Asked → Told → List Made
call_told (Called call) told = replied_to call told
call_told (Copied bucket) told = []

-- the calls that a seat was answered, in order, each with its reply
abbrev pub calls_by : (seat : ℕ) → List Answer → List Made
calls_by seat answers = flat_map (λ (a : Answer). call_told a.asked a.told) (answers_by seat answers)

-- the seat of a key, by the seats of the classes
abbrev pub seat_of_key : Plan → (deals : ℕ → ℕ) → Key → ℕ
seat_of_key plan deals key = deals (class_for plan key)

-- the calls that a seat is dealt, in order
abbrev pub dealt_to : (deals : Key → ℕ) → (seat : ℕ) → List Made → List Made
dealt_to deals seat calls = filter (λ (made : Made). deals (key_in made.0) == seat) calls

-- these calls were asked and answered: each seat was answered those that it is dealt, in their order
pub record AreAnswered (plan : Plan) (deals : Key → ℕ) (world : World) (asked : List Made) : Type 0 where
  pub inside : (key : Key) → deals key < plan.settings.seats
  pub answered : (seat : ℕ) → seat < plan.settings.seats → calls_by seat world.answers ≡ dealt_to deals seat asked

-- the plain map gives each of these calls its reply, asked them in this order, and each bucket has what it holds then
pub record HasTurns (plan : Plan) (world : World) (asked : List Made) : Type 0 where
  pub legal : LegalMade (rules_of plan) empty asked
  pub held : (bucket : ℕ) → bucket < buckets_of plan.settings →
      HoldsPart (rules_of plan) bucket plan.settings.depth (pairs_in plan world bucket)
      (after_made (rules_of plan) empty asked)

-- whatever the interleaving, and whatever the classes' room
abbrev pub ClassesHaveTurns : Type 0
ClassesHaveTurns =
    (plan : Plan) (events : List Event) (deals : ℕ → ℕ) (asked : List Made) → IsRun plan events →
    AllAreIdle plan (world_after plan events) → ((class : ℕ) → deals class < plan.settings.seats) →
    AreAnswered plan (seat_of_key plan deals) (world_after plan events) asked →
    HasTurns plan (world_after plan events) asked
