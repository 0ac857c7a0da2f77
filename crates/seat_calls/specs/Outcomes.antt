-- How a bucket try goes on.
use Rattle.std.specs.Prelude.{◌≡◌, ℕ, ◌+◌, ◌≤◌, Option, Some, None}
use Rattle.plain_map.specs.declared.calls.Reply.{Reply}
use Rattle.table_model.specs.declared.rounds.Round.{Round}
use Rattle.table_model.specs.Goes.{after_round}
use Rattle.table_model.specs.Phases.{Phase, DirRoot, StoreDone, Stuck, TryWord}
use Rattle.seat_calls.specs.declared.directory_tries.Changed.{Changed}
use Rattle.seat_calls.specs.declared.directory_tries.Changed.TheVariants.{Made, Left, LostRoot}
use Rattle.seat_calls.specs.declared.tries.Tried.{Tried}
use Rattle.seat_calls.specs.declared.tries.Tried.TheVariants.{Answered, ToDirectory, Again}

-- the phase after a bucket try
abbrev pub outcome : Round → (turn : ℕ) → Tried → Phase
outcome round turn (Answered reply row) = StoreDone reply row
outcome round turn ToDirectory = DirRoot round 1 None
outcome round turn (Again first) = TryWord round (turn + 1) (Some first)

-- a try that is to be made again is the first or the second
abbrev pub IsEarly : (turn : ℕ) → Tried → Type 0
IsEarly turn (Answered reply row) = Unit {0}
IsEarly turn ToDirectory = Unit {0}
IsEarly turn (Again first) = turn ≤ 2

-- how the bucket tries of a round end
abbrev pub ending : Round → Option (Reply × ℕ) → Phase
ending round (Some answer) = StoreDone answer.0 answer.1
ending round None = DirRoot round 1 None

-- how a directory try goes on
abbrev pub outcome_of_change : Round → (turn : ℕ) → Changed → Phase
outcome_of_change round turn (Made reply row) = StoreDone reply row
outcome_of_change round turn Left = after_round round
outcome_of_change round turn (LostRoot first) = DirRoot round 2 (Some first)

-- how a round ends
abbrev pub ending_of_round : Round → Option (Reply × ℕ) → Phase
ending_of_round round (Some answer) = StoreDone answer.0 answer.1
ending_of_round round None = after_round round

-- only the first directory try is made again
abbrev pub IsFirst : (turn : ℕ) → Changed → Type 0
IsFirst turn (Made reply row) = Unit {0}
IsFirst turn Left = Unit {0}
IsFirst turn (LostRoot first) = turn ≡ 1

-- where an answer is found among the new leaves
abbrev pub answer_phase : Option (Reply × ℕ) → Phase
answer_phase (Some answer) = StoreDone answer.0 answer.1
answer_phase None = Stuck
