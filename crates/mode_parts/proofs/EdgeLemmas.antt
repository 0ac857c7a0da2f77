-- What a run answers for its devices, which answer it gives where none fails, and what one leaves that did nothing.
use Rattle.std.proofs.Common.{◌≡◌, ◌≤◌, ◌⊎◌, ℕ, List, Option, Some, Result, Ok, Err, inl, inr, refl, arith, ◌∙◌}
use Rattle.edge_traits.specs.Edge.{Rose}
use Rattle.capture_faults.specs.declared.any_fault.AnyFault.{AnyFault}
use Rattle.capture_faults.specs.declared.ending.Ending.{Ending}
use Rattle.capture_faults.specs.declared.ending.Ending.TheVariants.{Done, Fault, Limit, ReadFault}
use Rattle.pcapng_reader.specs.Input.{Input}
use Rattle.pcapng_reader.specs.Laws.{HasOneInput}
use Rattle.capture_loop.specs.declared.portions.Portions.{Portions}
use Rattle.capture_loop.specs.declared.stop.Stop.{Stop}
use Rattle.capture_loop.specs.declared.stop.Stop.TheVariants.{Memory, NotPut}
use Rattle.capture_loop.specs.Leaves.{Accounts, IsLoopFront, IsLoopReport, IsLoopTold, LeavesBy, LeavesText, Lines, LoopLeavesBy, Reports, RunReads, RunWrites, Tellings}
use Rattle.capture_loop.specs.Looping.{OnNotPut}
use Rattle.mode_parts.specs.declared.status.Status.{Status}
use Rattle.mode_parts.specs.declared.status.Status.TheVariants as status
use Rattle.mode_parts.specs.Edges.{CanEnd, Edges, IsDecided, SinkEdge, SourceEdge, TellsReads, TellsWrites}
use Rattle.mode_parts.specs.Statuses.{status_by, status_up_to}
use Rattle.mode_parts.proofs.ExactLemmas.{few_packets, many_packets, not_read, not_written, same_status}

-- ---- devices

-- the reads of a run through an input that ended so
pub tells_reads : (before after : SourceEdge) (end : Result Ending Stop) →
    (end ≡ Ok ReadFault → Rose before.faults after.faults) → RunReads end before.failed after.failed →
    before.faults ≤ after.faults → TellsReads before after (status_by end)
tells_reads before after (Ok (Done rest)) fault failed counted =
    record { fault = λ is. absurd (cc); failed = failed; counted = counted }
tells_reads before after (Ok ReadFault) fault failed counted =
    record { fault = λ is. fault refl; failed = failed; counted = counted }
tells_reads before after (Ok (Limit limit)) fault failed counted =
    record { fault = λ is. absurd (cc); failed = failed; counted = counted }
tells_reads before after (Ok (Fault found)) fault failed counted =
    record { fault = λ is. absurd (cc); failed = failed; counted = counted }
tells_reads before after (Err Memory) fault failed counted =
    record { fault = λ is. absurd (cc); failed = failed; counted = counted }
tells_reads before after (Err NotPut) fault failed counted =
    record { fault = λ is. absurd (cc); failed = failed; counted = counted }

-- and its writes
pub tells_writes : (before after : SinkEdge) (end : Result Ending Stop) →
    OnNotPut end (Rose before.faults after.faults) → RunWrites end before.failed after.failed →
    before.faults ≤ after.faults → TellsWrites before after (status_by end)
tells_writes before after (Ok (Done rest)) fault failed counted =
    record { fault = λ is. absurd (cc); failed = failed; counted = counted }
tells_writes before after (Ok ReadFault) fault failed counted =
    record { fault = λ is. absurd (cc); failed = failed; counted = counted }
tells_writes before after (Ok (Limit limit)) fault failed counted =
    record { fault = λ is. absurd (cc); failed = failed; counted = counted }
tells_writes before after (Ok (Fault found)) fault failed counted =
    record { fault = λ is. absurd (cc); failed = failed; counted = counted }
tells_writes before after (Err Memory) fault failed counted =
    record { fault = λ is. absurd (cc); failed = failed; counted = counted }
tells_writes before after (Err NotPut) fault failed counted =
    record { fault = λ is. fault; failed = failed; counted = counted }

-- nothing was read
pub no_reads : (edge : SourceEdge) (answer : Status) → (answer ≡ status.ReadFault → ⊥) → TellsReads edge edge answer
no_reads edge status.Done other = record { fault = λ is. absurd (cc); failed = refl; counted = omega arith }
no_reads edge status.Memory other = record { fault = λ is. absurd (cc); failed = inl refl; counted = omega arith }
no_reads edge status.Usage other = record { fault = λ is. absurd (cc); failed = refl; counted = omega arith }
no_reads edge status.ReadFault other = absurd (other refl)
no_reads edge status.WriteFault other = record { fault = λ is. absurd (cc); failed = inl refl; counted = omega arith }
no_reads edge (status.BadCapture found) other =
    record { fault = λ is. absurd (cc); failed = refl; counted = omega arith }
no_reads edge status.Limit other = record { fault = λ is. absurd (cc); failed = refl; counted = omega arith }

-- nothing was put
pub no_writes : (edge : SinkEdge) (answer : Status) → (answer ≡ status.WriteFault → ⊥) → TellsWrites edge edge answer
no_writes edge status.Done other = record { fault = λ is. absurd (cc); failed = refl; counted = omega arith }
no_writes edge status.Memory other = record { fault = λ is. absurd (cc); failed = refl; counted = omega arith }
no_writes edge status.Usage other = record { fault = λ is. absurd (cc); failed = refl; counted = omega arith }
no_writes edge status.ReadFault other = record { fault = λ is. absurd (cc); failed = refl; counted = omega arith }
no_writes edge status.WriteFault other = absurd (other refl)
no_writes edge (status.BadCapture found) other =
    record { fault = λ is. absurd (cc); failed = refl; counted = omega arith }
no_writes edge status.Limit other = record { fault = λ is. absurd (cc); failed = refl; counted = omega arith }

-- ---- the answer where none fails

-- no device failed, so the answer names none
pub decided : (most link : ℕ) (before after : Edges) (answer : Status) →
    TellsReads before.source after.source answer → TellsWrites before.sink after.sink answer →
    ((bytes : List ℕ) (packets : List (List ℕ)) (ending : Result ℕ AnyFault) → before.source.left ≡ Some bytes →
    Input link bytes packets ending → (answer ≡ status.ReadFault → ⊥) → (answer ≡ status.WriteFault → ⊥) →
    (answer ≡ status_up_to most packets ending) ⊎ (answer ≡ status.Memory)) →
    IsDecided most link before after answer
decided most link before after answer reads writes exact = λ bytes packets ending told input no_read no_write.
    exact bytes packets ending told input
    (not_read answer before.source.failed after.source.failed no_read reads.failed)
    (not_written answer before.sink.failed after.sink.failed no_write writes.failed)

-- the input of the bytes is one, and decides the answer of a run
text_exact : (most link : ℕ) (front told : Tellings) (report : Accounts) (can_end : Ending → Type 0)
    (bytes : List ℕ) (left before after : Option (List ℕ)) (end : Result Ending Stop) (packets : List (List ℕ))
    (ending : Result ℕ AnyFault) → HasOneInput link bytes → Input link bytes packets ending →
    (status_by end ≡ status.ReadFault → ⊥) → (status_by end ≡ status.WriteFault → ⊥) →
    LeavesText most link front told report can_end bytes left before after end →
    (status_by end ≡ status_up_to most packets ending) ⊎ (status_by end ≡ status.Memory)
text_exact most link front told report can_end bytes left before after (Ok (Done rest)) packets ending one input
    no_read no_write leaves =
    let held = leaves.1.1.1.holds.0 in
    inl (few_packets most leaves.1.1.0 (Ok rest) held.1
    ∙ same_status link most bytes leaves.1.1.0 packets (Ok rest) ending one held.0 input)
text_exact most link front told report can_end bytes left before after (Ok (Fault fault)) packets ending one input
    no_read no_write leaves =
    let held = leaves.1.1.1.holds in
    inl (few_packets most leaves.1.1.0 (Err fault) held.1
    ∙ same_status link most bytes leaves.1.1.0 packets (Err fault) ending one held.0 input)
text_exact most link front told report can_end bytes left before after (Ok (Limit limit)) packets ending one input
    no_read no_write leaves =
    let held = leaves.1.1.1.holds.0 in
    inl (many_packets most held.0 held.1 held.3
    ∙ same_status link most bytes held.0 packets held.1 ending one held.2 input)
text_exact most link front told report can_end bytes left before after (Ok ReadFault) packets ending one input
    no_read no_write leaves = absurd (no_read refl)
text_exact most link front told report can_end bytes left before after (Err Memory) packets ending one input
    no_read no_write leaves = inr refl
text_exact most link front told report can_end bytes left before after (Err NotPut) packets ending one input
    no_read no_write leaves = absurd (no_write refl)

-- so it is of a run that left this
pub leaves_decided : (most link : ℕ) (front told : Tellings) (report : Accounts) (before after : Edges)
    (end : Result Ending Stop) → ((link : ℕ) (bytes : List ℕ) → HasOneInput link bytes) →
    TellsReads before.source after.source (status_by end) → TellsWrites before.sink after.sink (status_by end) →
    LeavesBy most link front told report (CanEnd before after) before.source.left after.source.left before.sink.put
    after.sink.put end → IsDecided most link before after (status_by end)
leaves_decided most link front told report before after end one reads writes leaves =
    decided most link before after (status_by end) reads writes
    (λ bytes packets ending told_bytes input no_read no_write. text_exact most link front told report
    (CanEnd before after) bytes after.source.left before.sink.put after.sink.put end packets ending (one link bytes)
    input no_read no_write (leaves.told bytes told_bytes))

-- and of a run by the loop
pub loop_decided : (portions : Portions) (link : ℕ) (lines : Lines) (report : Reports) (before after : Edges)
    (end : Result Ending Stop) → ((link : ℕ) (bytes : List ℕ) → HasOneInput link bytes) →
    TellsReads before.source after.source (status_by end) → TellsWrites before.sink after.sink (status_by end) →
    LoopLeavesBy portions lines report (CanEnd before after) link before.source.left after.source.left before.sink.put
    after.sink.put end → IsDecided portions.limit link before after (status_by end)
loop_decided portions link lines report before after end one reads writes leaves =
    leaves_decided portions.limit link (IsLoopFront portions lines) (IsLoopTold portions lines)
    (IsLoopReport portions report) before after end one reads writes leaves
