-- What `play` does, by what it leaves; and where it does nothing.
use Rattle.std.proofs.Common.{ℕ, List, inr, refl}
use Rattle.packet_heads.specs.Links.{number_in}
use Rattle.pcapng_reader.specs.Laws.{HasOneInput}
use Rattle.capture_loop.proofs.LeavesLemmas.{Keeps-same}
use Rattle.command_line.specs.declared.plan.Plan.{Plan}
use Rattle.mode_parts.specs.declared.status.Status.{Status}
use Rattle.mode_parts.specs.declared.status.Status.TheVariants as status
use Rattle.mode_parts.specs.Edges.{CanEnd, Edges, NotesPlace, TellsReads, TellsWrites}
use Rattle.mode_parts.proofs.EdgeLemmas.{decided}
use Rattle.play_mode.specs.Does.{DoesPlay}
use Rattle.play_mode.specs.Playing.{LeavesPlayed, play_limit}
use Rattle.play_mode.proofs.PlayLemmas.{LeavesPlay-exact, LeavesPlayed-nothing}

-- by what it leaves, and by the place that it notes
pub does_play : (plan : Plan) (before after : Edges) (answer : Status) →
    ((link : ℕ) (bytes : List ℕ) → HasOneInput link bytes) → TellsReads before.source after.source answer →
    TellsWrites before.sink after.sink answer →
    LeavesPlayed plan (CanEnd before after) before.source.left after.source.left before.sink.put after.sink.put answer →
    NotesPlace play_limit (number_in plan.framing.link) before after answer → DoesPlay plan before after answer
does_play plan before after answer one reads writes leaves beyond = record {
  played = leaves;
  exact = decided play_limit (number_in plan.framing.link) before after answer reads writes
      (λ bytes packets ending told input no_read no_write. LeavesPlay-exact plan (CanEnd before after) bytes
      after.source.left before.sink.put after.sink.put answer packets ending (one (number_in plan.framing.link) bytes)
      input no_read no_write (leaves.told bytes told));
  beyond = beyond;
}

-- memory ran out before anything was read or put
pub play_nothing : (plan : Plan) (edges : Edges) → DoesPlay plan edges edges status.Memory
play_nothing plan edges = record {
  played = LeavesPlayed-nothing plan (CanEnd edges edges) edges.source.left edges.source.left edges.sink.put
      edges.sink.put (Keeps-same edges.sink.put);
  exact = λ bytes packets ending told input no_read no_write. inr refl;
  beyond = refl;
}
