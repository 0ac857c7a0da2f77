-- What `play` does.
use Rattle.packet_heads.specs.Links.{number_in}
use Rattle.command_line.specs.declared.plan.Plan.{Plan}
use Rattle.mode_parts.specs.declared.status.Status.{Status}
use Rattle.mode_parts.specs.Edges.{CanEnd, Edges, IsDecided, NotesPlace}
use Rattle.play_mode.specs.Playing.{LeavesPlayed, play_limit}

-- what `play` does as the plan says, with this answer
pub record DoesPlay (plan : Plan) (before after : Edges) (answer : Status) : Type 0 where
  -- What is put is the report of one play of the input's calls, by the schedule and the stops of the plan.
  pub played : LeavesPlayed plan (CanEnd before after) before.source.left after.source.left before.sink.put
      after.sink.put answer
  -- where nothing fails the input decides the answer
  pub exact : IsDecided play_limit (number_in plan.framing.link) before after answer
  -- where the first packet starts that is not played
  pub beyond : NotesPlace play_limit (number_in plan.framing.link) before after answer
