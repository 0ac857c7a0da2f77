-- Words that are stored one after the other.
use Rattle.std.specs.Prelude.{◌≡◌, ℕ, ◌+◌, ◌<◌, List, length, replicate, slice_index}
use Rattle.exchange_calls.specs.Going.{Going, goes_by, task}
use Rattle.exchange_calls.specs.Going.Task.{Store}

-- the next steps store these words one after the other
abbrev pub Writes : Going → (start : ℕ) → List ℕ → Type 0
Writes g start row =
    (i : ℕ) → i < length row → task (goes_by g (replicate i 0)) ≡ Store (start + i) (slice_index row i)
