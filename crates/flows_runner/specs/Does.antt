-- What `flows` does.
use Rattle.std.specs.Prelude.{◌≡◌, List, ℕ, Option, Result}
use Rattle.hash_bits.specs.declared.hashing.Hashing.{Hashing}
use Rattle.hash_bits.specs.declared.hashing.Hashing.TheVariants.{Mix, Ports}
use Rattle.capture_faults.specs.declared.ending.Ending.{Ending}
use Rattle.capture_loop.specs.declared.stop.Stop.{Stop}
use Rattle.capture_loop.specs.Leaves.{LeavesBy}
use Rattle.command_line.specs.declared.plan.Plan.{Plan}
use Rattle.packet_heads.specs.Links.{number_in}
use Rattle.flows_runner.specs.declared.asked.Asked.{Asked}
use Rattle.flows_runner.specs.Told.{ReportsFlows, TellsFlows}
use Rattle.mode_parts.specs.Callings.{calling_of}
use Rattle.mode_parts.specs.declared.status.Status.{Status}
use Rattle.mode_parts.specs.Edges.{CanEnd, Edges, IsDecided, NotesPlace}
use Rattle.mode_parts.specs.Statuses.{status_by}

-- the number of a hash
abbrev pub seed_of : Hashing → ℕ
seed_of (Mix seed) = seed
seed_of (Ports seed) = seed

-- what is asked of a run through flows; its hash is `mix`
abbrev pub asked_of : Plan → Asked
asked_of plan = record {
  seats = plan.seats;
  items = plan.items;
  depth = plan.depth;
  seed = seed_of plan.hashing;
  calling = calling_of plan;
  every = plan.every;
}

-- how many packets `flows` takes at most: a million times a million
abbrev pub flow_limit : ℕ
flow_limit = 1000000000000

-- The run ended so, by its input or before, and what is put is the report of the packets that were served then, on one
-- table that lasts, by as many callers as the plan says, or a part of it. How its packets are taken changes nothing.
abbrev pub LeavesFlows : Plan → (Ending → Type 0) → (first left before after : Option (List ℕ)) → Status → Type 0
LeavesFlows plan can_end first left before after answer =
    (end : Result Ending Stop) × (answer ≡ status_by end)
    × LeavesBy flow_limit (number_in plan.framing.link) (TellsFlows (asked_of plan)) (TellsFlows (asked_of plan))
    (ReportsFlows (asked_of plan)) can_end first left before after end

-- what `flows` does as the plan says, with this answer
pub record DoesFlows (plan : Plan) (before after : Edges) (answer : Status) : Type 0 where
  -- What is put is the report of the input's packets, each class's calls made by one caller on one table. Each block
  -- tells of the plain map's replies to all calls so far, asked in packet order, and of the sessions that it holds
  -- then.
  pub flowed : LeavesFlows plan (CanEnd before after) before.source.left after.source.left before.sink.put
      after.sink.put answer
  -- where nothing fails the input decides the answer
  pub exact : IsDecided flow_limit (number_in plan.framing.link) before after answer
  -- where the first packet starts that is not served
  pub beyond : NotesPlace flow_limit (number_in plan.framing.link) before after answer
