-- The rows of a seat, as lists.
use Rattle.std.specs.Prelude.{◌≡◌, ◌≢◌, ℕ, ◌+◌, ◌-◌, ◌*◌, ◌^◌, ◌<◌, ◌≤◌, ◌==◌, not, List, [], ◌∷◌, Option, Some, None, map, drop, filter, vec_len, slice_index}
use Rattle.std.specs.List.{AllByRecursion as Each, range_with_len}
use Rattle.own_rows.specs.Rings.{Ring, count, numbers}
use Rattle.own_rows.specs.declared.rows.OwnRows.{OwnRows}

-- what a seat has of rows: how often each was published; the free ones; and the published ones, each with its bucket:
-- those that a sweep has still to look at, those that it found gone from their buckets, and all others
pub record Rows : Type 0 where
  pub generation : (row : ℕ) → ℕ
  pub free : List ℕ
  pub named : List (ℕ × ℕ)
  pub todo : List (ℕ × ℕ)
  pub gone : List (ℕ × ℕ)

-- ---- the arrays, by the number of a row or of a hook

-- the number that follows
abbrev pub next_of : OwnRows → (k : ℕ) → ℕ
next_of o k = slice_index o.next.items (k - o.first)

-- and the one before
abbrev pub back_of : OwnRows → (k : ℕ) → ℕ
back_of o k = slice_index o.back.items (k - o.first)

-- the bucket in whose word a row was published last
abbrev pub bucket_of : OwnRows → (k : ℕ) → ℕ
bucket_of o k = slice_index o.buckets.items (k - o.first)

-- how often it was published
abbrev pub generation_of : OwnRows → (k : ℕ) → ℕ
generation_of o k = slice_index o.generations.items (k - o.first)

-- in which sweep it was found gone
abbrev pub lost_of : OwnRows → (k : ℕ) → ℕ
lost_of o k = slice_index o.lost.items (k - o.first)

-- the hooks of the four rings stand behind the rows: that of the free rows
abbrev pub free_hook : OwnRows → ℕ
free_hook o = o.first + o.rows

-- of the named rows
abbrev pub named_hook : OwnRows → ℕ
named_hook o = o.first + o.rows + 1

-- of those that a sweep has still to look at
abbrev pub todo_hook : OwnRows → ℕ
todo_hook o = o.first + o.rows + 2

-- and of those that are gone
abbrev pub gone_hook : OwnRows → ℕ
gone_hook o = o.first + o.rows + 3

-- a number of a row or a hook
abbrev pub IsLinked : OwnRows → (k : ℕ) → Type 0
IsLinked o k = (o.first ≤ k) × (k < o.first + o.rows + 4)

-- the arrays have room for all, and each is linked to one that is linked back to it
pub record IsSound (o : OwnRows) : Type 0 where
  pub few : o.first + o.rows + 4 ≤ 2 ^ 24
  pub nexts : vec_len o.next ≡ o.rows + 4
  pub backs : vec_len o.back ≡ o.rows + 4
  pub buckets : vec_len o.buckets ≡ o.rows + 4
  pub generations : vec_len o.generations ≡ o.rows + 4
  pub losts : vec_len o.lost ≡ o.rows + 4
  pub next_in : (k : ℕ) → IsLinked o k → IsLinked o (next_of o k)
  pub back_in : (k : ℕ) → IsLinked o k → IsLinked o (back_of o k)
  pub both : (k : ℕ) → IsLinked o k → back_of o (next_of o k) ≡ k

-- how often a row stands in all the lists
abbrev pub times : Rows → (k : ℕ) → ℕ
times r k = count r.free k + count (numbers r.named) k + count (numbers r.todo) k + count (numbers r.gone) k

-- these rows stand there with their buckets
abbrev pub HaveBuckets : OwnRows → List (ℕ × ℕ) → Type 0
HaveBuckets o rows = Each (λ row. bucket_of o row.0 ≡ row.1) rows

-- the lists are these rows
pub record HasRows (o : OwnRows) (r : Rows) : Type 0 where
  pub free : Ring (next_of o) r.free (free_hook o)
  pub named : Ring (next_of o) (numbers r.named) (named_hook o)
  pub todo : Ring (next_of o) (numbers r.todo) (todo_hook o)
  pub gone : Ring (next_of o) (numbers r.gone) (gone_hook o)
  pub once : (k : ℕ) → times r k ≤ 1
  pub mine : (k : ℕ) → 1 ≤ times r k → (o.first ≤ k) × (k < o.first + o.rows)
  pub named_buckets : HaveBuckets o r.named
  pub todo_buckets : HaveBuckets o r.todo
  pub gone_buckets : HaveBuckets o r.gone
  pub generations : (k : ℕ) → 1 ≤ times r k → generation_of o k ≡ r.generation k
  -- those that are gone were lost in this sweep, and no others
  pub counted : 1 ≤ o.sweeps
  pub early : (k : ℕ) → o.first ≤ k → k < o.first + o.rows → lost_of o k ≤ o.sweeps
  pub late : (k : ℕ) → 1 ≤ count (numbers r.gone) k → lost_of o k ≡ o.sweeps
  pub only : (k : ℕ) → o.first ≤ k → k < o.first + o.rows → lost_of o k ≡ o.sweeps → 1 ≤ count (numbers r.gone) k

-- two numbers have changed their links
pub record AreSwapped (was now : OwnRows) (a b : ℕ) : Type 0 where
  pub first : now.first ≡ was.first
  pub rows : now.rows ≡ was.rows
  pub buckets : now.buckets ≡ was.buckets
  pub generations : now.generations ≡ was.generations
  pub lost : now.lost ≡ was.lost
  pub sweeps : now.sweeps ≡ was.sweeps
  pub one : next_of now a ≡ next_of was b
  pub other : next_of now b ≡ next_of was a
  pub rest : (k : ℕ) → was.first ≤ k → k ≢ a → k ≢ b → next_of now k ≡ next_of was k

-- a row was cut out of its ring behind another number, and put to the end of the ring of this hook
pub record AreMoved (was now : OwnRows) (behind row hook : ℕ) : Type 0 where
  pub mid : OwnRows
  pub sound : IsSound mid
  pub cut : AreSwapped was mid behind row
  pub put : AreSwapped mid now (back_of mid hook) row

-- only the links and lists have changed
pub record AreSame (was now : OwnRows) : Type 0 where
  pub first : now.first ≡ was.first
  pub rows : now.rows ≡ was.rows
  pub sweeps : now.sweeps ≡ was.sweeps

-- ---- what is told of them

-- the next row of a sweep, with its bucket
abbrev pub first_of : List (ℕ × ℕ) → Option (ℕ × ℕ)
first_of [] = None
first_of (row ∷ rows) = Some row

-- the row that is written next, and how often it was published
abbrev pub next_free : Rows → List ℕ → Option (ℕ × ℕ)
next_free r [] = None
next_free r (row ∷ rows) = Some (row, r.generation row)

-- these rows without one
abbrev pub without : (row : ℕ) → List (ℕ × ℕ) → List (ℕ × ℕ)
without row rows = filter (λ other. not (other.0 == row)) rows

-- and that one alone
abbrev pub alone : (row : ℕ) → List (ℕ × ℕ) → List (ℕ × ℕ)
alone row rows = filter (λ other. other.0 == row) rows

-- the rows of a seat as they are opened: so many are named, one for each seats-th bucket
abbrev pub opening : (first rows count seats seat : ℕ) → Rows
opening first rows count seats seat = record {
  generation = λ _. 0;
  free = drop count (range_with_len first rows);
  named = map (λ i. (first + i, i * seats + seat)) (range_with_len 0 count);
  todo = [];
  gone = [];
}

-- a seat's rows at the opening
pub record HasOpened (first rows count seats seat : ℕ) (o : OwnRows) : Type 0 where
  pub sound : IsSound o
  pub has : HasRows o (opening first rows count seats seat)
  pub first_is : o.first ≡ first
  pub rows_are : o.rows ≡ rows
  pub sweeps : o.sweeps ≡ 1
