use Rattle.std.proofs.Common.{◌≡◌, ◌+◌, drop, length}
use Rattle.opening_words.specs.Written.{written}
use Rattle.opening_words.proofs.writing.put_row.Given as goal

abbrev pub invariant-loop-i : goal.invariant-loop-i
invariant-loop-i l = record {
  left : written l.words (l.start + l.i) (drop l.i l.row) ≡ written l.initial.words l.start l.row;
  len : length l.words ≡ length l.initial.words;
}
