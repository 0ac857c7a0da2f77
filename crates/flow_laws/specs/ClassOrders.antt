-- What the calls of several seats come to on a lasting table, where each class's calls are made by one seat: the plain
-- map gives each its reply, asked them as they stand. So full classes make no difference between one seat and several.
-- Source: this project's own.
use Rattle.std.specs.Prelude.{ℕ, ◌<◌, List}
use Rattle.plain_map.specs.declared.keys.Key.{Key}
use Rattle.plain_map.specs.PlainObject.{class_of}
use Rattle.bucket_states.specs.Parts.{HoldsPart}
use Rattle.table_model.specs.Setup.{settings_of}
use Rattle.map_laws.specs.ByKey.{Made, LegalMade, after_made}
use Rattle.lasting_model.specs.Plans.{Plan, ample, buckets_of}
use Rattle.lasting_model.specs.Worlds.{Lasting, Event, IsRun, world_after}
use Rattle.lasting_model.specs.Laws.{pairs_in}
use Rattle.lasting_laws.specs.Orders.{AllAreIdle}
use Rattle.flow_laws.specs.FlowOrders.{AreAnswered, first_in, rules_in}

-- the seat of a key, by the seats of the classes
abbrev pub seat_of_key : Plan → (deals : ℕ → ℕ) → Key → ℕ
seat_of_key plan deals key = deals (class_of (rules_in plan) key)

-- the plain map gives each of these calls its reply, asked them in this order, and each bucket has what it holds then
pub record HasTurns (plan : Plan) (world : Lasting) (asked : List Made) : Type 0 where
  pub legal : LegalMade (rules_in plan) (first_in plan) asked
  pub held : (bucket : ℕ) → bucket < buckets_of plan.settings →
      HoldsPart (rules_in plan) bucket (settings_of (ample plan)).depth (pairs_in plan world bucket)
      (after_made (rules_in plan) (first_in plan) asked)

-- whatever the interleaving, and whatever the classes' room
abbrev pub ClassesHaveTurns : Type 0
ClassesHaveTurns =
    (plan : Plan) (events : List Event) (deals : ℕ → ℕ) (asked : List Made) → IsRun plan events →
    AllAreIdle plan (world_after plan events) → ((class : ℕ) → deals class < plan.settings.seats) →
    AreAnswered plan (seat_of_key plan deals) (world_after plan events) asked →
    HasTurns plan (world_after plan events) asked
