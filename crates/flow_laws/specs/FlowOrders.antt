-- What the calls of several seats come to on a lasting table, where each key's calls are made by one seat: all of them
-- have one order, in which each key's stand as they were asked.
-- Source: this project's own, after the locality of Herlihy and Wing, "Linearizability", 1990, with a key as an object.
use Rattle.std.specs.Prelude.{◌≡◌, ℕ, ◌<◌, ◌==◌, List, [], ◌∷◌, filter, flat_map, IsPermutation}
use Rattle.plain_map.specs.declared.keys.Key.{Key}
use Rattle.plain_map.specs.declared.calls.Call.{Call}
use Rattle.plain_map.specs.declared.rules.Rules.{Rules}
use Rattle.plain_map.specs.Calls.{key_in}
use Rattle.plain_map.specs.PlainObject.{Sessions}
use Rattle.bucket_states.specs.Parts.{HoldsPart}
use Rattle.table_model.specs.Setup.{settings_of, rules_of}
use Rattle.table_model.specs.Closed.{sessions_with}
use Rattle.map_laws.specs.ByKey.{Made, AgreeByKey, LegalMade, after_made}
use Rattle.lasting_model.specs.Plans.{Plan, ample, buckets_of}
use Rattle.lasting_model.specs.Goes.{Asked, Called, Copied, Told, Replied, Pairs, Again, Refused}
use Rattle.lasting_model.specs.Worlds.{Lasting, Answer, Event, IsRun, world_after}
use Rattle.lasting_model.specs.Laws.{pairs_in}
use Rattle.lasting_laws.specs.Orders.{AllAreIdle, answers_by}

-- a call with its reply, if that is what was asked and told
abbrev pub replied_to : Call → Told → List Made
replied_to call (Replied reply) = (call, reply) ∷ []
replied_to call (Pairs pairs) = []
replied_to call Again = []
replied_to call Refused = []

abbrev pub call_told : Asked → Told → List Made
call_told (Called call) told = replied_to call told
call_told (Copied bucket) told = []

-- the calls that a seat was answered, in order, each with its reply
abbrev pub calls_by : (seat : ℕ) → List Answer → List Made
calls_by seat answers = flat_map (λ (a : Answer). call_told a.asked a.told) (answers_by seat answers)

-- the calls that a seat is dealt, in order
abbrev pub dealt_to : (deals : Key → ℕ) → (seat : ℕ) → List Made → List Made
dealt_to deals seat calls = filter (λ (made : Made). deals (key_in made.0) == seat) calls

-- these calls were asked and answered: each seat was answered those that it is dealt, in their order
pub record AreAnswered (plan : Plan) (deals : Key → ℕ) (world : Lasting) (asked : List Made) : Type 0 where
  pub inside : (key : Key) → deals key < plan.settings.seats
  pub answered : (seat : ℕ) → seat < plan.settings.seats → calls_by seat world.answers ≡ dealt_to deals seat asked

-- the rules of the plain map, and the sessions that it begins with
abbrev pub rules_in : Plan → Rules
rules_in plan = rules_of (ample plan)

abbrev pub first_in : Plan → Sessions
first_in plan = sessions_with (rules_in plan) plan.first

-- one order of these calls, each key's as they were asked, in which each has the reply of the plain map. Each bucket
-- has the pairs of its class that the plain map has after all of them
pub record HasFlowOrder (plan : Plan) (world : Lasting) (asked : List Made) : Type 0 where
  pub order : List Made
  pub agrees : AgreeByKey order asked
  pub permuted : IsPermutation asked order
  pub legal : LegalMade (rules_in plan) (first_in plan) order
  pub held : (bucket : ℕ) → bucket < buckets_of plan.settings →
      HoldsPart (rules_in plan) bucket (settings_of (ample plan)).depth (pairs_in plan world bucket)
      (after_made (rules_in plan) (first_in plan) order)

-- whatever the interleaving: where all calls are answered, they have such an order
abbrev pub FlowsHaveOneOrder : Type 0
FlowsHaveOneOrder =
    (plan : Plan) (events : List Event) (deals : Key → ℕ) (asked : List Made) → IsRun plan events →
    AllAreIdle plan (world_after plan events) → AreAnswered plan deals (world_after plan events) asked →
    HasFlowOrder plan (world_after plan events) asked
