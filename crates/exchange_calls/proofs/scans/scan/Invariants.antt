-- So many who can hold are looked at.
use Rattle.exchange_calls.specs.Scans.{AtHolder, IsScanning}
use Rattle.exchange_calls.proofs.scans.scan.Given as goal

abbrev pub invariant-loop-holder : goal.invariant-loop-holder
invariant-loop-holder g l = (s : IsScanning (g.S.Steps.now l.fn.steps) l.fn.rows) →
    AtHolder s.base (g.S.Steps.now l.steps) s.call l.holder l.rows
