-- Marks of numbers.
use Rattle.std.specs.Prelude.{◌≡◌, ℕ, Bool, List, false, slice_index_or}
use Rattle.table_model.specs.Reading.{is_among}

-- the marks are set at these numbers
abbrev pub AreMet : (marks : List Bool) (numbers : List ℕ) → Type 0
AreMet marks numbers = (number : ℕ) → slice_index_or marks number false ≡ is_among numbers number
