-- So many rows are named, and then so many are free.
use Rattle.std.proofs.Common.{◌-◌}
use Rattle.own_rows.specs.Opening.{AreOpened}
use Rattle.own_rows.proofs.rows.OwnRows.new.Given as goal

abbrev pub invariant-loop-i : goal.invariant-loop-i
invariant-loop-i l = AreOpened l.first l.rows l.i l.seats l.seat 0 l.own

abbrev pub invariant-loop-i-2 : goal.invariant-loop-i-2
invariant-loop-i-2 l = AreOpened l.first l.rows l.named l.seats l.seat (l.i - l.named) l.own
