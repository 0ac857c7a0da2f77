-- What `totals` does.
use Rattle.std.specs.Prelude.{◌≡◌, List, ℕ, Option, Result}
use Rattle.capture_faults.specs.declared.ending.Ending.{Ending}
use Rattle.capture_loop.specs.declared.stop.Stop.{Stop}
use Rattle.capture_loop.specs.Input.{packet_limit}
use Rattle.capture_loop.specs.Leaves.{LoopLeavesAll}
use Rattle.command_line.specs.declared.plan.Plan.{Plan}
use Rattle.packet_heads.specs.Links.{number_in}
use Rattle.totals_runner.specs.declared.counting.Asked.{Asked}
use Rattle.totals_runner.specs.Told.{IsTotalsLines, IsTotalsReport}
use Rattle.mode_parts.specs.declared.status.Status.{Status}
use Rattle.mode_parts.specs.Edges.{CanEnd, Edges, IsDecided, NotesPlace}
use Rattle.mode_parts.specs.Statuses.{status_by}

-- what is asked of a run that counts
abbrev pub asked_of : Plan → Asked
asked_of plan = record { seats = plan.seats; framing = plan.framing; batch = plan.batch }

-- The run ended so, by its input or before, and what is put is the report of the packets that were counted then, by as
-- many seats as the plan says, or a part of it.
abbrev pub LeavesTotals : Plan → (Ending → Type 0) → (first left before after : Option (List ℕ)) → Status → Type 0
LeavesTotals plan can_end first left before after answer =
    (end : Result Ending Stop) × (answer ≡ status_by end)
    × LoopLeavesAll plan.batch (IsTotalsLines (asked_of plan)) (IsTotalsReport (asked_of plan)) can_end
    (number_in plan.framing.link) first left before after end

-- what `totals` does as the plan says, with this answer
pub record DoesTotals (plan : Plan) (before after : Edges) (answer : Status) : Type 0 where
  -- What is put is the report of the input's packets, in one order of all adds with the counts of the plain totals.
  pub totals : LeavesTotals plan (CanEnd before after) before.source.left after.source.left before.sink.put
      after.sink.put answer
  -- where nothing fails the input decides the answer
  pub exact : IsDecided packet_limit (number_in plan.framing.link) before after answer
  -- where the first packet starts that is not counted
  pub beyond : NotesPlace packet_limit (number_in plan.framing.link) before after answer
