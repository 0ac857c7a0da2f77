use Rattle.std.proofs.Common.{◌≡◌, ◌+◌, ◌-◌, length, replicate}
use Rattle.opening_words.specs.Written.{written}
use Rattle.opening_words.proofs.clearing.clear_row.Given as goal

abbrev pub invariant-loop-i : goal.invariant-loop-i
invariant-loop-i l = record {
  left : written l.words (l.start + l.i) (replicate (l.count - l.i) 0)
      ≡ written l.initial.words l.start (replicate l.count 0);
  len : length l.words ≡ length l.initial.words;
}
