-- What `check` does.
use Rattle.std.specs.Prelude.{◌≡◌, ◌⊎◌, ℕ, List, Option, Some, Result, Ok, Err, length, nat_lt, if◌then◌else◌}
use Rattle.check_runner.specs.declared.checking.Checked.{Checked}
use Rattle.check_runner.specs.declared.checking.Checked.TheVariants.{Judged, TooLong}
use Rattle.check_runner.specs.declared.checking.Stop.{Stop}
use Rattle.check_runner.specs.declared.checking.Stop.TheVariants.{Memory, NotPut, ReadFault}
use Rattle.check_runner.specs.Checked.{LeavesChecked, text_limit}
use Rattle.mode_parts.specs.declared.status.Status.{Status}
use Rattle.mode_parts.specs.declared.status.Status.TheVariants as status
use Rattle.mode_parts.specs.Edges.{Edges}
use Rattle.mode_parts.specs.Statuses.{NoneFailed}

-- the status of a check that ended so
abbrev pub status_of_check : Result Checked Stop → Status
status_of_check (Ok (Judged verdict)) = status.Done
status_of_check (Ok TooLong) = status.Limit
status_of_check (Err ReadFault) = status.ReadFault
status_of_check (Err NotPut) = status.WriteFault
status_of_check (Err Memory) = status.Memory

-- The check ended so, and what is put is the line of the verdict that the source's text deserves, or a part of it.
abbrev pub LeavesVerdict : (first left before after : Option (List ℕ)) → Status → Type 0
LeavesVerdict first left before after answer =
    (end : Result Checked Stop) × (answer ≡ status_of_check end) × LeavesChecked first left before after end

-- the status that a text is answered with where nothing fails
abbrev pub status_of_text : List ℕ → Status
status_of_text text = if nat_lt text_limit (length text) then status.Limit else status.Done

-- what `check` does, with this answer
pub record DoesCheck (before after : Edges) (answer : Status) : Type 0 where
  -- What is put is the line of the verdict that the text deserves; so it is `check yes` exactly if the text is
  -- certified.
  pub checked : LeavesVerdict before.source.left after.source.left before.sink.put after.sink.put answer
  -- where nothing fails, the text decides, and a limit of its length
  pub exact : (text : List ℕ) → before.source.left ≡ Some text →
      NoneFailed before.source.failed after.source.failed → NoneFailed before.sink.failed after.sink.failed →
      (answer ≡ status_of_text text) ⊎ (answer ≡ status.Memory)
