use Rattle.std.proofs.Common.{take, arith}
use Rattle.std.specs.Prelude.{flat_map}
use Rattle.report_check.specs.Facts.{placed_at}
use Rattle.report_check.proofs.EarlyLemmas.{none_stand, early_end, early_here, early_more}
use Rattle.report_check.proofs.early.first_early.Goals as goal

pub loop-packet-init : goal.loop-packet-init
loop-packet-init c = λ told facts whole. none_stand

pub loop-packet-preserved : goal.loop-packet-preserved
loop-packet-preserved c = λ told facts whole.
    early_more told c.args.calls.now c.args.pending.now c.args.order.now c.loop-packet.packet-index
    c.loop-packet.standing
    c.put.new.standing facts whole (omega (arith, c.loop-packet-test.true, c.loop-packet.auto.packet-index-end))
    (c.loop-packet.invariant told facts whole)
    (rw c.if-not-put.false at (c.put.ensures told c.args.order.now
    (flat_map (placed_at told) (take c.loop-packet.packet-index c.args.order.now)) facts))

pub returns-then-not-put : goal.returns-then-not-put
returns-then-not-put c = λ told facts whole.
    early_here told c.args.calls.now c.args.pending.now c.args.order.now c.loop-packet.packet-index
    c.loop-packet.standing
    c.put.new.standing facts whole (omega (arith, c.loop-packet-test.true, c.loop-packet.auto.packet-index-end))
    (c.loop-packet.invariant told facts whole)
    (rw c.if-not-put.true at (c.put.ensures told c.args.order.now
    (flat_map (placed_at told) (take c.loop-packet.packet-index c.args.order.now)) facts))

pub returns : goal.returns
returns c = λ told facts whole.
    early_end told c.args.calls.now c.args.pending.now c.args.order.now c.loop-packet.packet-index
    c.loop-packet.standing
    facts (omega (arith, c.loop-packet-test.false, c.loop-packet.auto.packet-index-end))
    (c.loop-packet.invariant told facts whole)
