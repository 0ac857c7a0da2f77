-- How a run ended, and what follows of its devices.
use Rattle.std.specs.Prelude.{◌≡◌, ◌⊎◌, ◌<◌, ◌-◌, ◌^◌, ℕ, List, [], ◌++◌, length, Some, None, codes, decimal, nat_lt, if◌then◌else◌, Option, Result, Ok, Err}
use Rattle.edge_traits.specs.Edge.{count_after}
use Rattle.capture_faults.specs.declared.any_fault.AnyFault.{AnyFault}
use Rattle.capture_faults.specs.declared.any_fault.AnyFault.TheVariants.{Capture}
use Rattle.capture_faults.specs.declared.fault.CaptureFault.TheVariants.{LinkType}
use Rattle.packet_heads.specs.declared.framing.Link.{Link}
use Rattle.packet_heads.specs.Links.{number_in}
use Rattle.pcap_reader.specs.Reading.{Took}
use Rattle.capture_faults.specs.declared.ending.Ending.{Ending}
use Rattle.capture_faults.specs.declared.ending.Ending.TheVariants.{Done, ReadFault, Limit, Fault}
use Rattle.mode_parts.specs.declared.status.Complaint.{Complaint}
use Rattle.mode_parts.specs.declared.status.Status.{Status}
use Rattle.mode_parts.specs.declared.status.Status.TheVariants as status
use Rattle.capture_loop.specs.declared.stop.Stop.{Stop}
use Rattle.capture_loop.specs.declared.stop.Stop.TheVariants.{Memory, NotPut}
use Rattle.capture_loop.specs.Input.{packet_limit}

-- ---- the status

-- the link type of a savefile, where that is its fault
abbrev pub other_link : AnyFault → Option ℕ
other_link (Capture (LinkType found)) = Some found
other_link fault = None

-- the status of a run whose report was put whole
abbrev pub status_of : Ending → Status
status_of (Done rest) = status.Done
status_of ReadFault = status.ReadFault
status_of (Limit limit) = status.Limit
status_of (Fault fault) = status.BadCapture fault

-- the program's exit status
abbrev pub code_of : Status → ℕ
code_of status.Done = 0
code_of status.Memory = 1
code_of status.Usage = 2
code_of status.ReadFault = 3
code_of status.WriteFault = 4
code_of (status.BadCapture fault) = 5
code_of status.Limit = 6

-- the text of a complaint
abbrev pub number_text : Option ℕ → List ℕ
number_text None = []
number_text (Some number) = decimal number

-- a complaint as it is written: its text, the number where it has one, and what follows
abbrev pub text_of : Complaint → List ℕ
text_of complaint = complaint.text.now ++ (number_text complaint.number ++ complaint.rest.now)

-- of a savefile with this link type, which was not asked for: what to give, or that it is not read
abbrev pub SaysLink : ℕ → List ℕ → Type 0
SaysLink found text =
    ((link : Link) × (number_in link ≡ found) × (text ≡ codes "flowdir: give --link " ++ decimal found))
    ⊎ (((link : Link) → number_in link ≡ found → ⊥)
    × (text ≡ codes "flowdir: link type " ++ (decimal found ++ codes " is not read")))

-- of a fault: of another link type that, and else nothing, since the fault has a text of its own
abbrev pub SaysFault : Option ℕ → Option (List ℕ) → Type 0
SaysFault None said = said ≡ None
SaysFault (Some found) None = ⊥
SaysFault (Some found) (Some text) = SaysLink found text

-- what the program says on standard error of a run that ended so, where it says anything
abbrev pub Says : Status → Option (List ℕ) → Type 0
Says status.Memory said = said ≡ Some (codes "flowdir: out of memory")
Says status.Usage said =
    said ≡ Some (codes "flowdir: usage: flowdir serve|play|make|trial|check|totals|flows [options]")
Says status.ReadFault said = said ≡ Some (codes "flowdir: read fault")
Says status.WriteFault said = said ≡ Some (codes "flowdir: write fault")
Says status.Done said = said ≡ None
Says (status.BadCapture fault) said = SaysFault (other_link fault) said
Says status.Limit said = said ≡ None

-- the status of an input that was read to this ending
abbrev pub status_when : Result ℕ AnyFault → Status
status_when (Ok rest) = status.Done
status_when (Err fault) = status.BadCapture fault

-- the status that an input of these packets with this ending is answered with, where no more than so many are taken and
-- nothing fails
abbrev pub status_up_to : (most : ℕ) → List (List ℕ) → Result ℕ AnyFault → Status
status_up_to most packets ending = if nat_lt most (length packets) then status.Limit
    else status_when ending

-- where as many are taken as `serve` takes
abbrev pub status_for : List (List ℕ) → Result ℕ AnyFault → Status
status_for packets ending = status_up_to packet_limit packets ending

-- a fact of what was taken of a source; where memory ran out, of what had been taken at some moment of the run
abbrev pub TookFor : Status → (first left : Option (List ℕ)) → (List ℕ → Type 0) → Type 0
TookFor status.Done first left P = Took first left P
TookFor (status.BadCapture fault) first left P = Took first left P
TookFor status.Limit first left P = Took first left P
TookFor status.ReadFault first left P = Took first left P
TookFor status.WriteFault first left P = Took first left P
TookFor status.Memory first left P = (between : Option (List ℕ)) × Took first between P
TookFor status.Usage first left P = Took first left P

-- where the first packet starts that is too many: noted exactly if a run that ended so ended for that
abbrev pub MarksFor : Status → (old new : Option ℕ) → (ℕ → Type 0) → Type 0
MarksFor status.Limit old new P = (place : ℕ) × (new ≡ Some place) × P place
MarksFor status.Done old new P = new ≡ old
MarksFor (status.BadCapture fault) old new P = new ≡ old
MarksFor status.ReadFault old new P = new ≡ old
MarksFor status.WriteFault old new P = new ≡ old
MarksFor status.Memory old new P = new ≡ old
MarksFor status.Usage old new P = new ≡ old

-- ---- devices that failed

-- the status of a run that ended so
abbrev pub status_by : Result Ending Stop → Status
status_by (Ok ending) = status_of ending
status_by (Err Memory) = status.Memory
status_by (Err NotPut) = status.WriteFault

-- How many reads have failed in a run that ended so: one more, where that is told. Where a write failed, or memory ran
-- out, one may have failed before.
abbrev pub ReadsFailed : Status → (before after : ℕ) → Type 0
ReadsFailed status.ReadFault before after = after ≡ count_after before 1
ReadsFailed status.WriteFault before after = (after ≡ before) ⊎ (after ≡ count_after before 1)
ReadsFailed status.Memory before after = (after ≡ before) ⊎ (after ≡ count_after before 1)
ReadsFailed answer before after = after ≡ before

-- none failed of so many calls of a device, of which it counts fewer than the greatest number
abbrev pub NoneFailed : (before after : ℕ) → Type 0
NoneFailed before after = (after ≡ before) × (before < 2 ^ 64 - 1)

-- how many writes have failed: one more, where that is told
abbrev pub WritesFailed : Status → (before after : ℕ) → Type 0
WritesFailed status.WriteFault before after = after ≡ count_after before 1
WritesFailed answer before after = after ≡ before
