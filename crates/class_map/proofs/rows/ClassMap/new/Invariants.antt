use Rattle.std.proofs.Common.{◌≡◌, ℕ, ◌<◌, length}
use Rattle.std.specs.FinMap.{empty}
use Rattle.class_map.specs.Rows.{row_at}
use Rattle.class_map.proofs.rows.ClassMap.new.Given as goal

abbrev pub invariant-loop : goal.invariant-loop
invariant-loop l = record {
  many : length l.rows.items ≡ l.counter;
  empties : (class : ℕ) → class < length l.rows.items → row_at l.rows.items class ≡ empty;
}
