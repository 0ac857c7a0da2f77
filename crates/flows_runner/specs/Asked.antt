-- What is asked of a run that goes through flows, and the table that it is served on.
-- Source: docs/FORMATS.md, the report of flows.
use Rattle.std.specs.Prelude.{◌≡◌, ◌<◌, ◌≤◌, ℕ, ◌%◌, List, [], ◌∷◌}
use Rattle.std.specs.Option.{ForSome}
use Rattle.capture_loop.specs.declared.job.TheConstants.{MOST_BATCH}
use Rattle.capture_loop.specs.declared.portions.Portions.{Portions}
use Rattle.flows_runner.specs.declared.pile.TheConstants.{FLOW_LIMIT}
use Rattle.hash_bits.specs.declared.hashing.Hashing.{Hashing}
use Rattle.hash_bits.specs.declared.hashing.Hashing.TheVariants.{Mix, Ports}
use Rattle.step_counts.specs.Made.{IsMadeOf}
use Rattle.plain_map.specs.declared.keys.Key.{Key}
use Rattle.plain_map.specs.declared.rules.Rules.{Rules}
use Rattle.plain_map.specs.PlainObject.{class_of}
use Rattle.mode_parts.specs.declared.calling.Calling.{Calling}
use Rattle.mode_parts.specs.Callings.{calling_way}
use Rattle.report_text.specs.declared.flows.FlowsHead.{FlowsHead}
use Rattle.lasting_model.specs.Plans.{Plan}
use Rattle.flows_runner.specs.declared.asked.Asked.{Asked}

-- a table opens so: as deep as it may be, and without pairs
pub record IsPlanOf (asked : Asked) (plan : Plan) : Type 0 where
  pub settings : IsMadeOf plan.settings asked.seats asked.items asked.depth asked.depth
  pub hashing : plan.hashing ≡ Mix asked.seed
  pub first : plan.first ≡ []

-- the rules of the plain map
abbrev pub rules_of : Asked → Rules
rules_of asked = record { items = asked.items; depth = asked.depth; hashing = Mix asked.seed }

-- the seat that makes the calls of a flow: that of its class
abbrev pub flow_seat : Rules → (seats : ℕ) → Key → ℕ
flow_seat rules seats key = class_of rules key % seats

-- a hash, as two numbers
abbrev pub hash_kind : Hashing → ℕ
hash_kind (Mix seed) = 0
hash_kind (Ports seed) = 1

-- and its seed
abbrev pub hash_seed : Hashing → ℕ
hash_seed (Mix seed) = seed
hash_seed (Ports seed) = seed

-- for how many seats, by which rules, and how packets become calls, as numbers
abbrev pub dealing_way : (seats : ℕ) → Rules → Calling → List ℕ
dealing_way seats rules calling =
    seats ∷ rules.items ∷ rules.depth ∷ hash_kind rules.hashing ∷ hash_seed rules.hashing ∷ calling_way calling

-- what the head line tells
abbrev pub head_of : Asked → FlowsHead
head_of asked = record {
  seats = asked.seats;
  items = asked.items;
  depth = asked.depth;
  seed = asked.seed;
  calls = asked.calling.calls;
  every = asked.every;
}

-- it can be asked: numbers of seats, items and depth that a table may have
pub record CanBeAsked (asked : Asked) : Type 0 where
  pub some_seats : 1 ≤ asked.seats
  pub few_seats : asked.seats ≤ 8
  pub some_items : 1 ≤ asked.items
  pub few_items : asked.items ≤ 16
  pub few_bits : asked.depth ≤ 12
  pub every : ForSome asked.every (λ every. 0 < every)

-- So the input may be cut: a batch ends where a block stands, at least. The report does not depend on it further.
pub record IsPortionsOf (asked : Asked) (portions : Portions) : Type 0 where
  pub some : 0 < portions.batch
  pub few : portions.batch ≤ MOST_BATCH
  pub every : portions.every ≡ asked.every
  pub limit : portions.limit ≡ FLOW_LIMIT
