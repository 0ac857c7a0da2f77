-- Stages and phases: a stage is a phase without what the buffers hold.
use Rattle.std.specs.Prelude.{ℕ, List, Option, Some, None}
use Rattle.plain_map.specs.declared.calls.Reply.{Reply}
use Rattle.bucket_states.specs.declared.ops.Op.{Op}
use Rattle.bucket_states.specs.States.{BucketState}
use Rattle.table_model.specs.Directories.{DirectoryState}
use Rattle.table_model.specs.DirectoryChange.{LoadedBucket}
use Rattle.table_model.specs.Phases.{BucketTry, DirectoryTry, Phase}
use Rattle.table_model.specs.Phases as P
use Rattle.seat_machine.specs.declared.stage.Stage.{Stage}
use Rattle.seat_machine.specs.declared.stage.Stage.TheVariants as S

-- what the buffers hold: the words of the row at hand, the bucket and the directory that were loaded, the ops that were
-- found, and the buckets that a directory try loaded
pub record Held : Type 0 where
  pub words : List ℕ
  pub base : BucketState
  pub directory : DirectoryState
  pub found : List (Option Op)
  pub loaded : List LoadedBucket

-- the tries
abbrev pub attempt_of : (turn first row : ℕ) → BucketState → BucketTry
attempt_of turn first row state = record { turn = turn; first = first; row = row; state = state }

abbrev pub directory_try_of : (turn first root : ℕ) → DirectoryState → DirectoryTry
directory_try_of turn first root directory =
    record { turn = turn; first = first; root = root; directory = directory }

-- the phase at a stage
abbrev pub phase_at : Stage → Held → Phase
phase_at S.Idle held = P.Stuck
phase_at S.SeeDone held = P.SeeDone
phase_at (S.StoreOp stored) held = P.StoreOp stored
phase_at S.Announce held = P.Announce
phase_at (S.FindRoot aim) held = P.FindRoot aim
phase_at (S.FindDepth aim root) held = P.FindDepth aim root
phase_at (S.FindEntry aim root depth) held = P.FindEntry aim root depth
phase_at (S.LookWord root bucket) held = P.LookWord root bucket
phase_at (S.LookCount row) held = P.LookCount row
phase_at (S.LookItems row count) held = P.LookItems row count held.words
phase_at (S.TryWord round turn first) held = P.TryWord round turn first
phase_at (S.TryRow round turn first row) held = P.TryRow round turn first row held.words
phase_at (S.TryAnnouncement round turn first row) held =
    P.TryAnnouncement round (attempt_of turn first row held.base) held.found
phase_at (S.TryOp round turn first row op) held =
    P.TryOp round (attempt_of turn first row held.base) held.found op held.words
phase_at (S.TryStore round turn first row stored) held =
    P.TryStore round (attempt_of turn first row held.base) held.found stored
phase_at (S.TryExchange round turn first row) held =
    P.TryExchange round (attempt_of turn first row held.base) held.found
phase_at (S.DirRoot round turn first) held = P.DirRoot round turn first
phase_at (S.DirDepth round turn first root) held = P.DirDepth round turn first root
phase_at (S.DirEntries round turn first root depth) held =
    P.DirEntries round turn first root depth held.directory.entries
phase_at (S.DirAnnouncement round turn first root) held =
    P.DirAnnouncement round (directory_try_of turn first root held.directory) held.found
phase_at (S.DirOp round turn first root op) held =
    P.DirOp round (directory_try_of turn first root held.directory) held.found op held.words
phase_at (S.DirWord round turn first root bucket) held =
    P.DirWord round (directory_try_of turn first root held.directory) held.found held.loaded bucket
phase_at (S.DirRow round turn first root bucket row) held =
    P.DirRow round (directory_try_of turn first root held.directory) held.found held.loaded bucket row held.words
phase_at (S.DirStore round turn first root stored) held =
    P.DirStore round (directory_try_of turn first root held.directory) held.found held.loaded stored
phase_at (S.DirExchange round turn first root) held =
    P.DirExchange round (directory_try_of turn first root held.directory) held.found held.loaded
phase_at (S.LastWord root bucket) held = P.LastWord root bucket
phase_at (S.LastRow row) held = P.LastRow row held.words
phase_at (S.StoreDone reply place) held = P.StoreDone reply place
phase_at S.Stuck held = P.Stuck

-- the phase after an answer by the row with this number, or where there is none
abbrev pub answer_phase : Option (Reply × ℕ) → Phase
answer_phase None = P.Stuck
answer_phase (Some answer) = P.StoreDone answer.0 answer.1

-- the word that is found is a number, or tells nothing
abbrev pub Passes : Stage → Type 0
Passes (S.StoreOp stored) = Unit {0}
Passes (S.FindRoot aim) = Unit {0}
Passes (S.FindDepth aim root) = Unit {0}
Passes (S.FindEntry aim root depth) = Unit {0}
Passes (S.LookWord root bucket) = Unit {0}
Passes (S.TryWord round turn first) = Unit {0}
Passes (S.DirRoot round turn first) = Unit {0}
Passes (S.DirWord round turn first root bucket) = Unit {0}
Passes (S.LastWord root bucket) = Unit {0}
Passes stage = ⊥

-- the call goes on with the step
abbrev pub IsCovered : Stage → Type 0
IsCovered S.Idle = ⊥
IsCovered (S.StoreDone reply place) = ⊥
IsCovered S.Stuck = ⊥
IsCovered stage = Unit {0}
