-- One after the other.
use Rattle.std.proofs.Common.{arith}
use Rattle.exchange_calls.specs.Going.{Going}
use Rattle.exchange_calls.proofs.ScanLemmas.{all_looked, passed, scan_opens, still_desk}
use Rattle.exchange_calls.proofs.scans.scan.Goals as goal

pub loop-holder-init : goal.loop-holder-init
loop-holder-init g c s =
    scan_opens (g.S.Steps.now c.args.steps.now) c.args.rows.now c.begin_scan.new.self s c.begin_scan.ensures.next
    c.begin_scan.ensures.free c.begin_scan.ensures.kept

pub loop-holder-preserved-then-holder-desk : goal.loop-holder-preserved-then-holder-desk
loop-holder-preserved-then-holder-desk g c s =
    let now : Going = g.S.Steps.now c.loop-holder.steps in
    passed now s.base s.call c.loop-holder.holder c.loop-holder.rows (c.loop-holder.invariant s) c.args.desk.now
    (still_desk (g.S.Steps.now c.args.steps.now) now c.args.rows.now c.loop-holder.rows s c.loop-holder.holder
    c.args.desk.now (c.loop-holder.invariant s) c.requires.desk) c.if-holder-desk.true

pub look_at_holder-requires-clause-at : goal.look_at_holder-requires-clause-at
look_at_holder-requires-clause-at g c =
    let s = c.requires.scanning in
    record { base = s.base; call = s.call; at = c.loop-holder.invariant s }

pub look_at_holder-requires-clause-desk : goal.look_at_holder-requires-clause-desk
look_at_holder-requires-clause-desk g c =
    let s = c.requires.scanning in
    still_desk (g.S.Steps.now c.args.steps.now) (g.S.Steps.now c.loop-holder.steps) c.args.rows.now c.loop-holder.rows
    s c.loop-holder.holder c.args.desk.now (c.loop-holder.invariant s) c.requires.desk

pub loop-holder-preserved : goal.loop-holder-preserved
loop-holder-preserved g c s =
    c.look_at_holder.ensures (record { base = s.base; call = s.call; at = c.loop-holder.invariant s })

pub returns : goal.returns
returns g c s =
    let now : Going = g.S.Steps.now c.loop-holder.steps in
    all_looked now s.base s.call c.loop-holder.holder c.loop-holder.rows (c.loop-holder.invariant s) c.args.desk.now
    (still_desk (g.S.Steps.now c.args.steps.now) now c.args.rows.now c.loop-holder.rows s c.loop-holder.holder
    c.args.desk.now (c.loop-holder.invariant s) c.requires.desk)
    (omega (arith, c.loop-holder-test.false, c.loop-holder.auto.holder-end, c.holders-holder-end.ensures.value))
