-- A row is free, or a scan finds out which are.
use Rattle.exchange_calls.specs.OwnRowsView.{free_of}
use Rattle.exchange_calls.proofs.BeginLemmas.{begun_scan, none_there, scan_begun}
use Rattle.exchange_calls.proofs.updates.begin.Goals as goal

pub scan-requires-clause-scanning : goal.scan-requires-clause-scanning
scan-requires-clause-scanning g c =
    begun_scan (g.S.Steps.now c.args.steps.now) c.args.call.now c.requires.rest c.args.rows.now c.requires.rows
    (g.S.Steps.now c.begin.new.self) c.begin.ensures
    (none_there c.first.result (free_of c.args.rows.now) c.if-is_some.ensures c.first.ensures)

pub returns-clause-goes : goal.returns-clause-goes
returns-clause-goes g c =
    scan_begun (g.S.Steps.now c.args.steps.now) c.args.call.now c.requires.rest c.args.rows.now c.requires.rows
    (g.S.Steps.now c.begin.new.self) c.begin.ensures (g.S.Steps.now c.scan.new.steps) c.scan.new.rows
    (c.scan.ensures (begun_scan (g.S.Steps.now c.args.steps.now) c.args.call.now c.requires.rest c.args.rows.now
    c.requires.rows (g.S.Steps.now c.begin.new.self) c.begin.ensures
    (none_there c.first.result (free_of c.args.rows.now) c.if-is_some.ensures c.first.ensures)))
