-- The entries so far are others.
use Rattle.std.proofs.Common.{◌≡◌, drop}
use Rattle.exchange_calls.specs.Marks.{mark_of}
use Rattle.exchange_calls.proofs.marks.mark_in.Given as goal

abbrev pub invariant-loop-mark : goal.invariant-loop-mark
invariant-loop-mark l = mark_of l.word l.marks ≡ mark_of l.word (drop l.mark-index l.marks)
