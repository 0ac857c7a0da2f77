-- What `check` does, by what it leaves; and where it does nothing.
use Rattle.std.proofs.Common.{◌≡◌, ◌≤◌, ℕ, Bool, cond, List, [], Option, Result, Ok, Err, length, sym, ap, refl, inl, inr, ◌⊎◌, arith}
use Rattle.std.proofs.KnownBytes.{Consumes-nil}
use Rattle.std.proofs.lemmas.Bool.{lt-ltb, le-ltb}
use Rattle.edge_traits.specs.Edge.{Rose, count_after}
use Rattle.capture_loop.proofs.LeavesLemmas.{Keeps-same}
use Rattle.check_runner.specs.declared.checking.Checked.{Checked}
use Rattle.check_runner.specs.declared.checking.Checked.TheVariants.{Judged, TooLong}
use Rattle.check_runner.specs.declared.checking.Stop.{Stop}
use Rattle.check_runner.specs.declared.checking.Stop.TheVariants.{Memory, NotPut, ReadFault}
use Rattle.check_runner.specs.Checked.{Leaves, LeavesChecked, OnNotPut, OnReadFault, text_limit}
use Rattle.check_runner.specs.Does.{DoesCheck, status_of_check, status_of_text}
use Rattle.mode_parts.specs.declared.status.Status.TheVariants as status
use Rattle.mode_parts.specs.Edges.{Edges, SinkEdge, SourceEdge, TellsReads, TellsWrites}
use Rattle.mode_parts.proofs.ExactLemmas.{not_read, not_written}

-- ---- devices

-- the read that failed ended it
pub check_reads : (before after : SourceEdge) (end : Result Checked Stop) →
    (end ≡ Err ReadFault → Rose before.faults after.faults) →
    OnReadFault end (after.failed ≡ count_after before.failed 1) (after.failed ≡ before.failed) →
    before.faults ≤ after.faults → TellsReads before after (status_of_check end)
check_reads before after (Ok (Judged verdict)) fault failed counted =
    record { fault = λ is. absurd (cc); failed = failed; counted = counted }
check_reads before after (Ok TooLong) fault failed counted =
    record { fault = λ is. absurd (cc); failed = failed; counted = counted }
check_reads before after (Err ReadFault) fault failed counted =
    record { fault = λ is. fault refl; failed = failed; counted = counted }
check_reads before after (Err NotPut) fault failed counted =
    record { fault = λ is. absurd (cc); failed = inl failed; counted = counted }
check_reads before after (Err Memory) fault failed counted =
    record { fault = λ is. absurd (cc); failed = inl failed; counted = counted }

-- and so did the write that failed
pub check_writes : (before after : SinkEdge) (end : Result Checked Stop) →
    (end ≡ Err NotPut → Rose before.faults after.faults) →
    OnNotPut end (after.failed ≡ count_after before.failed 1) (after.failed ≡ before.failed) →
    before.faults ≤ after.faults → TellsWrites before after (status_of_check end)
check_writes before after (Ok (Judged verdict)) fault failed counted =
    record { fault = λ is. absurd (cc); failed = failed; counted = counted }
check_writes before after (Ok TooLong) fault failed counted =
    record { fault = λ is. absurd (cc); failed = failed; counted = counted }
check_writes before after (Err ReadFault) fault failed counted =
    record { fault = λ is. absurd (cc); failed = failed; counted = counted }
check_writes before after (Err NotPut) fault failed counted =
    record { fault = λ is. fault refl; failed = failed; counted = counted }
check_writes before after (Err Memory) fault failed counted =
    record { fault = λ is. absurd (cc); failed = failed; counted = counted }

-- ---- the answer

-- the text decides the answer
check_exact : (text : List ℕ) (before after : Option (List ℕ)) (end : Result Checked Stop) →
    (status_of_check end ≡ status.ReadFault → ⊥) → (status_of_check end ≡ status.WriteFault → ⊥) →
    Leaves text before after end →
    (status_of_check end ≡ status_of_text text) ⊎ (status_of_check end ≡ status.Memory)
check_exact text before after (Ok (Judged verdict)) no_read no_write leaves =
    inl (sym (ap (λ (b : Bool). cond b status.Limit status.Done) (le-ltb text_limit (length text) leaves.0.0)))
check_exact text before after (Ok TooLong) no_read no_write leaves =
    inl (sym (ap (λ (b : Bool). cond b status.Limit status.Done) (lt-ltb text_limit (length text) leaves.0)))
check_exact text before after (Err ReadFault) no_read no_write leaves = absurd (no_read refl)
check_exact text before after (Err NotPut) no_read no_write leaves = absurd (no_write refl)
check_exact text before after (Err Memory) no_read no_write leaves = inr refl

-- by what it leaves
pub does_check : (before after : Edges) (end : Result Checked Stop) →
    TellsReads before.source after.source (status_of_check end) →
    TellsWrites before.sink after.sink (status_of_check end) →
    LeavesChecked before.source.left after.source.left before.sink.put after.sink.put end →
    DoesCheck before after (status_of_check end)
does_check before after end reads writes leaves = record {
  checked = (end, refl, leaves);
  exact = λ text told no_read no_write. check_exact text before.sink.put after.sink.put end
      (not_read (status_of_check end) before.source.failed after.source.failed no_read reads.failed)
      (not_written (status_of_check end) before.sink.failed after.sink.failed no_write writes.failed)
      (leaves.told text told);
}

-- memory ran out before anything was read or put
pub check_nothing : (edges : Edges) → DoesCheck edges edges status.Memory
check_nothing edges = record {
  checked = (
    Err Memory,
    refl,
    record {
      told = λ bytes is. Keeps-same edges.sink.put;
      taken = [];
      lost = Consumes-nil edges.source.left;
      few = omega arith;
      took = Keeps-same edges.sink.put;
      all = λ v same. absurd (cc);
    },
  );
  exact = λ text told no_read no_write. inr refl;
}
