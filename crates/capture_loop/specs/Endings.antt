-- How an input ends that could not be opened.
use Rattle.std.specs.Prelude.{◌≡◌, ℕ, Option, Some, None}
use Rattle.edge_traits.specs.Edge.{count_after}
use Rattle.capture_faults.specs.declared.fault.CaptureFault.TheVariants as capture
use Rattle.capture_faults.specs.declared.any_fault.AnyFault.{AnyFault}
use Rattle.capture_faults.specs.declared.any_fault.AnyFault.TheVariants as fault
use Rattle.capture_faults.specs.declared.ending.Ending.{Ending}
use Rattle.capture_faults.specs.declared.ending.Ending.TheVariants.{Done, ReadFault, Limit, Fault}
use Rattle.capture_loop.specs.declared.opening.Step.{Step}
use Rattle.capture_loop.specs.declared.opening.Step.TheVariants as step
use Rattle.capture_loop.specs.declared.opening.Unopened.{Unopened}
use Rattle.capture_loop.specs.declared.opening.Unopened.TheVariants.{Memory, Ends}

-- the ending that a fault of the reader is; want of memory is none
abbrev pub ending_at : AnyFault → Option Ending
ending_at (fault.Capture capture.ReadFault) = Some ReadFault
ending_at (fault.Capture capture.Memory) = None
ending_at found = Some (Fault found)

-- the ending that a fault behind the head is, where there is never want of memory
abbrev pub ending_of : AnyFault → Ending
ending_of (fault.Capture capture.ReadFault) = ReadFault
ending_of found = Fault found

-- a fact of the ending of an input that could not be opened
abbrev pub OnEnds : Unopened → (Ending → Type 0) → Type 0
OnEnds Memory P = Unit {0}
OnEnds (Ends ending) P = P ending

-- the ending that a step of reading met
abbrev pub ending_in : Step → Option Ending
ending_in step.Packet = None
ending_in step.Dry = None
ending_in (step.Ended ending) = Some ending

-- a fact of it, where one was met
abbrev pub OnStep : Step → (Ending → Type 0) → Type 0
OnStep step.Packet P = Unit {0}
OnStep step.Dry P = Unit {0}
OnStep (step.Ended ending) P = P ending

-- a fact where the input has more packets than are taken
abbrev pub OnLimit : Ending → Type 0 → Type 0
OnLimit (Done rest) P = Unit {0}
OnLimit ReadFault P = Unit {0}
OnLimit (Limit limit) P = P
OnLimit (Fault found) P = Unit {0}

-- how many reads have failed where an input has this ending, or goes on: one more, where a failed read ended it
abbrev pub HasFailed : Option Ending → (before after : ℕ) → Type 0
HasFailed None before after = after ≡ before
HasFailed (Some ReadFault) before after = after ≡ count_after before 1
HasFailed (Some ending) before after = after ≡ before
