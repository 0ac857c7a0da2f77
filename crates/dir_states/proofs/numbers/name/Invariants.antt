use Rattle.std.proofs.Common.{◌≡◌, ℕ, ◌<◌, ◌≤◌, ◌^◌, length, get_or}
use Rattle.dir_states.proofs.numbers.name.Given as goal

abbrev pub invariant-loop-place : goal.invariant-loop-place
invariant-loop-place l = record {
  len : length l.entries ≡ 2 ^ l.depth;
  low : (k none : ℕ) → k < l.from → get_or l.entries k none ≡ get_or l.fn.entries k none;
  named : (k none : ℕ) → l.from ≤ k → k < l.place → get_or l.entries k none ≡ l.number;
  high : (k none : ℕ) → l.place ≤ k → get_or l.entries k none ≡ get_or l.fn.entries k none;
}
