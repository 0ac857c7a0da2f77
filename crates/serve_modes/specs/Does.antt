-- What `serve` does.
use Rattle.packet_heads.specs.Links.{number_in}
use Rattle.capture_loop.specs.Input.{packet_limit}
use Rattle.command_line.specs.declared.plan.Plan.{Plan}
use Rattle.mode_parts.specs.declared.status.Status.{Status}
use Rattle.mode_parts.specs.Edges.{CanEnd, Edges, IsDecided, NotesPlace}
use Rattle.serve_modes.specs.Headline.{LeavesAll}

-- what `serve` does as the plan says, with this answer
pub record DoesServe (plan : Plan) (before after : Edges) (answer : Status) : Type 0 where
  -- What is put is the report of the input's packets, in one order of all calls with the plain map's replies. So it is
  -- for the bytes that the source tells, and for those of them that were taken, which decide the answer. Of a source
  -- that tells nothing it says only that some bytes have such a report.
  pub headline : LeavesAll plan (CanEnd before after) before.source.left after.source.left before.sink.put
      after.sink.put answer
  -- where nothing fails the input decides the answer
  pub exact : IsDecided packet_limit (number_in plan.framing.link) before after answer
  -- where the first packet starts that is not served
  pub beyond : NotesPlace packet_limit (number_in plan.framing.link) before after answer
