use Rattle.std.proofs.Common.{[]}
use Rattle.report_lines.specs.Fields.{packets_behind}
use Rattle.report_lines.proofs.PacketLemmas.{HasPackets}
use Rattle.report_lines.proofs.orders.packets_of.Given as goal

abbrev pub invariant-loop : goal.invariant-loop
invariant-loop l =
    HasPackets l.counter l.fn.packets.items l.packets.items l.rest (packets_behind 16 [] l.fn.bytes)
