-- What a run leaves at its edges: the source that it reads, the sink that it puts into, and the place that it notes.
use Rattle.std.specs.Prelude.{◌≡◌, ◌≤◌, ◌⊎◌, ℕ, List, Option, Some, Result}
use Rattle.edge_traits.specs.Edge.{Rose}
use Rattle.edge_traits.specs.declared.traits.Sink
use Rattle.edge_traits.specs.declared.traits.Source
use Rattle.capture_faults.specs.declared.any_fault.AnyFault.{AnyFault}
use Rattle.capture_faults.specs.declared.ending.Ending.{Ending}
use Rattle.pcapng_reader.specs.Input.{Input}
use Rattle.capture_loop.specs.Input.{StopsAt}
use Rattle.capture_loop.specs.Leaves.{EndsBy}
use Rattle.mode_parts.specs.declared.status.Status.{Status}
use Rattle.mode_parts.specs.declared.status.Status.TheVariants as status
use Rattle.mode_parts.specs.Statuses.{MarksFor, NoneFailed, ReadsFailed, WritesFailed, status_up_to}

-- ---- what is told at one moment

-- what a source tells
pub record SourceEdge : Type 0 where
  -- the bytes still to come, where it tells them
  pub left : Option (List ℕ)
  -- how many faults its reads have met
  pub faults : ℕ
  -- how many of its reads have failed
  pub failed : ℕ

-- what a sink tells
pub record SinkEdge : Type 0 where
  -- the bytes taken so far, where it tells them
  pub put : Option (List ℕ)
  -- how many faults its writes have met
  pub faults : ℕ
  -- how many of its writes have failed
  pub failed : ℕ

-- both, and the place of the first packet that is too many, where it is noted
pub record Edges : Type 0 where
  pub source : SourceEdge
  pub sink : SinkEdge
  pub beyond : Option ℕ

-- what this source tells, by what its type says of it
abbrev pub source_edge : {S : Type 0} → Source.Ghosts S → S → SourceEdge
source_edge S source = record { left = S.left source; faults = S.faults source; failed = S.failed source }

-- what this sink tells
abbrev pub sink_edge : {K : Type 0} → Sink.Ghosts K → K → SinkEdge
sink_edge K sink = record { put = K.put sink; faults = K.faults sink; failed = K.failed sink }

-- what all of them tell
abbrev pub edges : {S K : Type 0} → Source.Ghosts S → Sink.Ghosts K → S → K → Option ℕ → Edges
edges S K source sink beyond =
    record { source = source_edge S source; sink = sink_edge K sink; beyond = beyond }

-- ---- devices that failed

-- The reads of a run with this answer: a fault is answered only if one was met. Each read that failed ends the run and
-- is answered, but for want of memory and for a write that failed.
pub record TellsReads (before after : SourceEdge) (answer : Status) : Type 0 where
  pub fault : answer ≡ status.ReadFault → Rose before.faults after.faults
  pub failed : ReadsFailed answer before.failed after.failed
  pub counted : before.faults ≤ after.faults

-- The writes of a run with this answer: each write that failed ends the run and is answered.
pub record TellsWrites (before after : SinkEdge) (answer : Status) : Type 0 where
  pub fault : answer ≡ status.WriteFault → Rose before.faults after.faults
  pub failed : WritesFailed answer before.failed after.failed
  pub counted : before.faults ≤ after.faults

-- ---- what a mode says of its answer

-- an ending that can be told of a run: a failed read exactly if a read failed
abbrev pub CanEnd : (before after : Edges) → Ending → Type 0
CanEnd before after = EndsBy before.source.failed after.source.failed

-- If no read and no write fails, the input's bytes alone decide the answer, want of memory apart. Of its packets so
-- many are taken at most.
abbrev pub IsDecided : (most link : ℕ) → (before after : Edges) → Status → Type 0
IsDecided most link before after answer =
    (bytes : List ℕ) (packets : List (List ℕ)) (ending : Result ℕ AnyFault) → before.source.left ≡ Some bytes →
    Input link bytes packets ending → NoneFailed before.source.failed after.source.failed →
    NoneFailed before.sink.failed after.sink.failed →
    (answer ≡ status_up_to most packets ending) ⊎ (answer ≡ status.Memory)

-- The place of the first packet that is too many is noted, exactly if there are more than so many.
abbrev pub NotesPlace : (most link : ℕ) → (before after : Edges) → Status → Type 0
NotesPlace most link before after answer =
    MarksFor answer before.beyond after.beyond (StopsAt link most before.source.left after.source.left)
