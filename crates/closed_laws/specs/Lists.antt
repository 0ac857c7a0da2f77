-- What the lists of the closed table's rows and buckets are: of a number that is named more than once, one is kept.
use Rattle.std.specs.Prelude.{◌≡◌, ℕ, ◌==◌, List}
use Rattle.std.specs.List.{IsDistinct}
use Rattle.table_model.specs.Reading.{is_among, each_once, each_once_first}

-- the same numbers, and none twice
pub record AreOnce (all once : List ℕ) : Type 0 where
  pub distinct : IsDistinct (λ one other. one == other) once
  pub same : (number : ℕ) → is_among once number ≡ is_among all number

-- whichever of those that are equal is kept
abbrev pub EachOnce : Type 0
EachOnce = (numbers : List ℕ) → AreOnce numbers (each_once numbers) × AreOnce numbers (each_once_first numbers)
