-- A bucket row that is loaded word by word.
use Rattle.std.specs.Prelude.{◌≡◌, ℕ, [], List, if◌then◌else◌}
use Rattle.table_model.specs.Setup.{Setup}
use Rattle.table_model.specs.SeatStates.{Flight}
use Rattle.table_model.specs.Phases.{Phase, TryRow, DirRow, LastRow, Stuck}
use Rattle.table_model.specs.Goes.{after_loaded, after_row, answered_by, bucket_in_words, is_applied, more}
use Rattle.seat_calls.specs.Tries.{tried}

-- the words of this row come next, and none is loaded yet
abbrev pub IsReading : Phase → (row : ℕ) → Type 0
IsReading (TryRow round turn first own words) row = (own ≡ row) × (words ≡ [])
IsReading (DirRow round attempt found loaded bucket own words) row = (own ≡ row) × (words ≡ [])
IsReading (LastRow own words) row = (own ≡ row) × (words ≡ [])
IsReading phase row = ⊥

-- the phase after all its words
abbrev pub row_then : Setup → (seat : ℕ) → Flight → Phase → List ℕ → Phase
row_then setup seat flight (TryRow round turn first row none) words =
    after_row seat flight round (tried turn first row (bucket_in_words setup words))
row_then setup seat flight (DirRow round attempt found loaded bucket row none) words =
    after_loaded setup round attempt found (more loaded (record {
      bucket = bucket;
      row = row;
      state = bucket_in_words setup words;
    }))
row_then setup seat flight (LastRow row none) words =
    if is_applied seat flight (bucket_in_words setup words) then answered_by seat
    (bucket_in_words setup words) row else Stuck
row_then setup seat flight phase words = Stuck
