use Rattle.std.proofs.Common.{◌≡◌, ◌≤◌, ◌-◌, length}
use Rattle.std.specs.Io.KnownBytes.{Consumes}
use Rattle.check_runner.proofs.reading.read_text.Given as goal

-- all that was taken is held, and no read failed
abbrev pub invariant-loop-text : goal.invariant-loop-text
invariant-loop-text g l = record {
  taken : Consumes (g.S.Source.left l.initial.source) (g.S.Source.left l.source) l.text.items;
  few : length l.text.items ≤ 4294967296;
  piece : length l.piece.items ≡ 65536;
  counted : g.S.Source.faults l.initial.source ≤ g.S.Source.faults l.source;
  none_failed : g.S.Source.failed l.source ≡ g.S.Source.failed l.initial.source;
}

abbrev pub decreases-loop-text : goal.decreases-loop-text
decreases-loop-text g l = 4294967296 - length l.text.items
