-- The ends of flows as the code tells them, and records in their order.
use Rattle.std.specs.Prelude.{ℕ, List, [], ◌∷◌, Option, Some, None}
use Rattle.std.specs.Ordering.{nat_cmp, ordering_then}
use Rattle.std.specs.declared.cmp.Ordering.{Ordering}
use Rattle.list_laws.proofs.Lists.{In}
use Rattle.flow_times.specs.Ends.{End, IsBefore}
use Rattle.flow_meter.specs.declared.ends.EndRecord.{EndRecord}
use Rattle.flow_meter.specs.declared.ends.EndedBy.{EndedBy}
use Rattle.flow_meter.specs.declared.ends.EndedBy.TheVariants.{Packet, Time}
use Rattle.flow_meter.specs.declared.ends.FlowEnd.{FlowEnd}
use Rattle.flow_meter.specs.Models.{moment_of}

-- the packet that a flow ended by
abbrev pub packet_by : EndedBy → Option ℕ
packet_by (Packet number) = Some number
packet_by Time = None

-- where its record stands
abbrev pub end_at : FlowEnd → End
end_at end = record { at = moment_of end.at; by = packet_by end.by; number = end.number }

-- of flows that ended at one moment those that ended by packets stand first
abbrev pub end_kind : Option ℕ → ℕ
end_kind (Some packet) = 0
end_kind None = 1

-- in the order of these packets; the others in that of their own first ones
abbrev pub end_mark : Option ℕ → ℕ → ℕ
end_mark (Some packet) number = packet
end_mark None number = number

-- by the moment, then by what ended it, then by the packet
abbrev pub end_cmp : End → End → Ordering
end_cmp one other = ordering_then (nat_cmp one.at.stretch other.at.stretch)
    (ordering_then (nat_cmp one.at.clock other.at.clock) (ordering_then (nat_cmp (end_kind one.by) (end_kind other.by))
    (nat_cmp (end_mark one.by one.number) (end_mark other.by other.number))))

-- no record stands before one that it follows
abbrev pub AreByEnds : List EndRecord → Type 0
AreByEnds [] = Unit {0}
AreByEnds (one ∷ others) =
    ((other : EndRecord) → In other others → IsBefore (end_at other.end) (end_at one.end) → ⊥) × AreByEnds others
