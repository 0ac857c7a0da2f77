-- What `make` leaves.
use Rattle.std.specs.Prelude.{ℕ, List, Option}
use Rattle.std.specs.Io.KnownBytes.{Appends, Keeps}
use Rattle.edge_traits.specs.Edge.{AppendsFront}
use Rattle.pcap_reader.specs.Made.{made_capture}
use Rattle.command_line.specs.declared.plan.Plan.{Plan}
use Rattle.mode_parts.specs.declared.status.Status.{Status}
use Rattle.mode_parts.specs.declared.status.Status.TheVariants as status

-- what `make` leaves
abbrev pub LeavesMade : Plan → Option (List ℕ) → Option (List ℕ) → Status → Type 0
LeavesMade plan before after status.Done = Appends before after (made_capture plan.number plan.packets)
LeavesMade plan before after status.WriteFault = AppendsFront before after (made_capture plan.number plan.packets)
LeavesMade plan before after status.Memory = Keeps before after
LeavesMade plan before after status.Usage = ⊥
LeavesMade plan before after status.ReadFault = ⊥
LeavesMade plan before after (status.BadCapture fault) = ⊥
LeavesMade plan before after status.Limit = ⊥
