use Rattle.std.proofs.Common.{◌+◌, ◌*◌, ◌≤◌, decimal, map, take}
use Rattle.report_text.specs.Lines.{room, Puts, text_in}
use Rattle.report_text.proofs.order.put_packets.Given as goal

abbrev pub invariant-loop-id : goal.invariant-loop-id
invariant-loop-id l = record {
  written : Puts (text_in l.initial.out) (map (λ id. decimal id.packet) (take l.id-index l.ids)) (text_in l.out);
  space : room l.initial.out ≤ room l.out + 11 * l.id-index;
}
