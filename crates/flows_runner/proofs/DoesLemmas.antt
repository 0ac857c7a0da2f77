-- What `flows` does, by what the loop leaves; and where it does nothing.
use Rattle.std.proofs.Common.{ℕ, List, [], Option, Result, Err, inl, inr, refl}
use Rattle.std.specs.Io.KnownBytes.{Keeps}
use Rattle.std.proofs.KnownBytes.{Consumes-nil}
use Rattle.packet_heads.specs.Links.{number_in}
use Rattle.capture_faults.specs.declared.ending.Ending.{Ending}
use Rattle.pcapng_reader.specs.Laws.{HasOneInput}
use Rattle.capture_loop.specs.declared.stop.Stop.{Stop}
use Rattle.capture_loop.specs.declared.stop.Stop.TheVariants.{Memory}
use Rattle.capture_loop.specs.Input.{StopsAt}
use Rattle.capture_loop.specs.Leaves.{Accounts, LeavesBy, Marks, Tellings}
use Rattle.capture_loop.proofs.LeavesLemmas.{Keeps-same}
use Rattle.command_line.specs.declared.plan.Plan.{Plan}
use Rattle.mode_parts.specs.declared.status.Status.TheVariants as status
use Rattle.mode_parts.specs.Edges.{CanEnd, Edges, TellsReads, TellsWrites}
use Rattle.mode_parts.specs.Statuses.{status_by}
use Rattle.mode_parts.proofs.EdgeLemmas.{leaves_decided}
use Rattle.mode_parts.proofs.ExactLemmas.{MarksFor-end}
use Rattle.flows_runner.specs.Does.{DoesFlows, asked_of, flow_limit}
use Rattle.flows_runner.specs.Told.{ReportsFlows, TellsFlows}

-- memory ran out, and nothing was put
pub leaves_none : (most link : ℕ) (front told : Tellings) (report : Accounts) (can_end : Ending → Type 0)
    (first left before after : Option (List ℕ)) → Keeps before after →
    LeavesBy most link front told report can_end first left before after (Err Memory)
leaves_none most link front told report can_end first left before after kept =
    record { told = λ bytes told. inl kept; took = (first, ([], Consumes-nil first, inl kept)) }

-- by what it leaves, and by the place that it marks
pub does_flows : (plan : Plan) (before after : Edges) (end : Result Ending Stop) →
    ((link : ℕ) (bytes : List ℕ) → HasOneInput link bytes) → TellsReads before.source after.source (status_by end) →
    TellsWrites before.sink after.sink (status_by end) →
    LeavesBy flow_limit (number_in plan.framing.link) (TellsFlows (asked_of plan)) (TellsFlows (asked_of plan))
    (ReportsFlows (asked_of plan)) (CanEnd before after) before.source.left after.source.left before.sink.put
    after.sink.put end →
    Marks end before.beyond after.beyond
    (StopsAt (number_in plan.framing.link) flow_limit before.source.left after.source.left) →
    DoesFlows plan before after (status_by end)
does_flows plan before after end one reads writes leaves marks = record {
  flowed = (end, refl, leaves);
  exact = leaves_decided flow_limit (number_in plan.framing.link) (TellsFlows (asked_of plan))
      (TellsFlows (asked_of plan)) (ReportsFlows (asked_of plan)) before after end one reads writes leaves;
  beyond = MarksFor-end end before.beyond after.beyond
      (StopsAt (number_in plan.framing.link) flow_limit before.source.left after.source.left) marks;
}

-- memory ran out before anything was read or put
pub flows_nothing : (plan : Plan) (edges : Edges) → DoesFlows plan edges edges status.Memory
flows_nothing plan edges = record {
  flowed = (
    Err Memory,
    refl,
    leaves_none flow_limit (number_in plan.framing.link) (TellsFlows (asked_of plan)) (TellsFlows (asked_of plan))
        (ReportsFlows (asked_of plan)) (CanEnd edges edges) edges.source.left edges.source.left edges.sink.put
        edges.sink.put (Keeps-same edges.sink.put),
  );
  exact = λ bytes packets ending told input no_read no_write. inr refl;
  beyond = refl;
}
