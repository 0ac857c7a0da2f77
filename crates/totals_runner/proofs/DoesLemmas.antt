-- What `totals` does, by what the loop leaves; and where it does nothing.
use Rattle.std.proofs.Common.{ℕ, List, Result, Err, inr, refl}
use Rattle.packet_heads.specs.Links.{number_in}
use Rattle.capture_faults.specs.declared.ending.Ending.{Ending}
use Rattle.pcapng_reader.specs.Laws.{HasOneInput}
use Rattle.capture_loop.specs.declared.stop.Stop.{Stop}
use Rattle.capture_loop.specs.declared.stop.Stop.TheVariants.{Memory}
use Rattle.capture_loop.specs.Input.{StopsAt, in_batches, packet_limit}
use Rattle.capture_loop.specs.Leaves.{LoopLeavesAll, Marks}
use Rattle.capture_loop.proofs.LeavesLemmas.{Keeps-same, leaves_nothing}
use Rattle.command_line.specs.declared.plan.Plan.{Plan}
use Rattle.mode_parts.specs.declared.status.Status.TheVariants as status
use Rattle.mode_parts.specs.Edges.{CanEnd, Edges, TellsReads, TellsWrites}
use Rattle.mode_parts.specs.Statuses.{status_by}
use Rattle.mode_parts.proofs.EdgeLemmas.{loop_decided}
use Rattle.mode_parts.proofs.ExactLemmas.{MarksFor-end}
use Rattle.totals_runner.specs.Does.{DoesTotals, asked_of}
use Rattle.totals_runner.specs.Told.{IsTotalsLines, IsTotalsReport}

-- by what it leaves, and by the place that it marks
pub does_totals : (plan : Plan) (before after : Edges) (end : Result Ending Stop) →
    ((link : ℕ) (bytes : List ℕ) → HasOneInput link bytes) → TellsReads before.source after.source (status_by end) →
    TellsWrites before.sink after.sink (status_by end) →
    LoopLeavesAll plan.batch (IsTotalsLines (asked_of plan)) (IsTotalsReport (asked_of plan)) (CanEnd before after)
    (number_in plan.framing.link) before.source.left after.source.left before.sink.put after.sink.put end →
    Marks end before.beyond after.beyond
    (StopsAt (number_in plan.framing.link) packet_limit before.source.left after.source.left) →
    DoesTotals plan before after (status_by end)
does_totals plan before after end one reads writes leaves marks = record {
  totals = (end, refl, leaves);
  exact = loop_decided (in_batches plan.batch) (number_in plan.framing.link) (IsTotalsLines (asked_of plan))
      (IsTotalsReport (asked_of plan)) before after end one reads writes leaves;
  beyond = MarksFor-end end before.beyond after.beyond
      (StopsAt (number_in plan.framing.link) packet_limit before.source.left after.source.left) marks;
}

-- memory ran out before anything was read or put
pub totals_nothing : (plan : Plan) (edges : Edges) → DoesTotals plan edges edges status.Memory
totals_nothing plan edges = record {
  totals = (
    Err Memory,
    refl,
    leaves_nothing (in_batches plan.batch) (IsTotalsLines (asked_of plan)) (IsTotalsReport (asked_of plan))
        (CanEnd edges edges) (number_in plan.framing.link) edges.source.left edges.source.left edges.sink.put
        edges.sink.put (Keeps-same edges.sink.put),
  );
  exact = λ bytes packets ending told input no_read no_write. inr refl;
  beyond = refl;
}
