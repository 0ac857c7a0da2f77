-- The rows of a seat while its table is opened.
use Rattle.std.specs.Prelude.{◌≡◌, ◌≢◌, ℕ, ◌+◌, ◌*◌, ◌<◌, ◌≤◌, [], map, Vec, vec_len, slice_index}
use Rattle.std.specs.List.{range_with_len}
use Rattle.own_rows.specs.declared.rows.OwnRows.{OwnRows}
use Rattle.own_rows.specs.Rows.{HasRows, IsSound, Rows, generation_of, next_of, times}

-- so many numbers from this one on
pub record AreFrom {A : Type 0} (first count : ℕ) (all : Vec ℕ A) : Type 0 where
  pub long : vec_len all ≡ count
  pub each : (k : ℕ) → k < count → slice_index all.items k ≡ first + k

-- a row is in no list yet
pub record IsUnused (o : OwnRows) (r : Rows) (row : ℕ) : Type 0 where
  pub low : o.first ≤ row
  pub high : row < o.first + o.rows
  pub alone : next_of o row ≡ row
  pub new : times r row ≡ 0
  pub generation : generation_of o row ≡ r.generation row

-- a row was put to a list, and others are alone still
pub record IsAdded (was now : OwnRows) (r : Rows) (row : ℕ) : Type 0 where
  pub first : now.first ≡ was.first
  pub rows : now.rows ≡ was.rows
  pub sweeps : now.sweeps ≡ was.sweeps
  pub generations : now.generations ≡ was.generations
  pub alone : HasRows was r → (k : ℕ) → was.first ≤ k → k < was.first + was.rows → k ≢ row → next_of was k ≡ k →
      next_of now k ≡ k

-- so many are named, and so many are free
abbrev pub opening_so_far : (first named seats seat free : ℕ) → Rows
opening_so_far first named seats seat free = record {
  generation = λ _. 0;
  free = range_with_len (first + named) free;
  named = map (λ i. (first + i, i * seats + seat)) (range_with_len 0 named);
  todo = [];
  gone = [];
}

-- and the others are alone
pub record AreOpened (first rows named seats seat free : ℕ) (o : OwnRows) : Type 0 where
  pub sound : IsSound o
  pub has : HasRows o (opening_so_far first named seats seat free)
  pub first_is : o.first ≡ first
  pub rows_are : o.rows ≡ rows
  pub sweeps : o.sweeps ≡ 1
  pub zero : (k : ℕ) → generation_of o k ≡ 0
  pub alone : (k : ℕ) → first + named + free ≤ k → k < first + rows → next_of o k ≡ k
