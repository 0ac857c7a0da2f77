-- The first numbers stand there.
use Rattle.std.proofs.Common.{◌≡◌, ℕ, ◌+◌, ◌<◌, vec_len, get_or}
use Rattle.own_rows.proofs.opening.numbers_from.Given as goal

abbrev pub invariant-loop-i : goal.invariant-loop-i
invariant-loop-i l = record {
  long : vec_len l.all ≡ l.count;
  each : (k : ℕ) → k < l.i → get_or l.all.items k 0 ≡ l.first + k;
}
