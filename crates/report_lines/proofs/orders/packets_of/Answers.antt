use Rattle.std.proofs.Common.{◌+◌, List, ℕ, subst, sym, arith, []}
use Rattle.report_lines.specs.Fields.{packets_behind}
use Rattle.report_lines.proofs.PacketLemmas.{HasPackets, packets_more, packets_no_number, packets_no_space, packets_whole}
use Rattle.report_lines.proofs.orders.packets_of.Goals as goal

pub returns-in_default : goal.returns-in_default
returns-in_default c =
    packets_no_space c.loop.counter c.args.packets.now.items c.loop.packets.items c.loop.rest.now
    (packets_behind 16 [] c.args.bytes.now) (omega arith) c.loop.invariant c.in_default.ensures

pub returns-in_default-number : goal.returns-in_default-number
returns-in_default-number c =
    packets_no_number c.loop.counter c.args.packets.now.items c.loop.packets.items c.loop.rest.now
    c.in-Some.behind.now (packets_behind 16 [] c.args.bytes.now) (omega arith) c.loop.invariant c.in-Some.ensures
    c.in_default-number.ensures.value

pub loop-preserved : goal.loop-preserved
loop-preserved c =
    subst
    (λ (p : List ℕ). HasPackets (c.loop.counter + 1) c.args.packets.now.items p c.in-Some-number.behind.now
    (packets_behind 16 [] c.args.bytes.now))
    (sym c.in_ok-push.ensures.items)
    (packets_more c.loop.counter c.in-Some-number.packet c.args.packets.now.items c.loop.packets.items c.loop.rest.now
    c.in-Some.behind.now c.in-Some-number.behind.now (packets_behind 16 [] c.args.bytes.now) (omega arith)
    c.loop.invariant c.in-Some.ensures c.in-Some-number.ensures.value)

pub returns : goal.returns
returns c =
    packets_whole c.loop.counter c.args.packets.now.items c.loop.packets.items c.loop.rest.now
    (packets_behind 16 [] c.args.bytes.now) (omega arith) c.loop.invariant
