-- Where words that were all 0 may hold something else: after an opening is written into them, and after its places are
-- cleared again.
use Rattle.std.specs.Prelude.{◌≡◌, ℕ, ◌+◌, ◌<◌, ◌≤◌, ◌⊎◌, List, slice_index_or}
use Rattle.step_counts.specs.StepCounts.{bucket_row_words}
use Rattle.word_rows.specs.Shape.{Shape}
use Rattle.word_rows.specs.Places.{place}
use Rattle.word_rows.specs.declared.addresses.Address.TheVariants.{BucketRowWord, BucketWord, DirectoryWord}

-- each word is 0, or stands at a place that may hold something else
abbrev pub IsBlankBut : (ℕ → Type 0) → List ℕ → Type 0
IsBlankBut dirty words = (j : ℕ) → (slice_index_or words j 0 ≡ 0) ⊎ dirty j

-- one of so many places
abbrev pub IsAmong : (start count : ℕ) → ℕ → Type 0
IsAmong start count j = (start ≤ j) × (j < start + count)

-- the word or the row of a leaf
abbrev pub IsOfLeaf : Shape → (number : ℕ) → ℕ → Type 0
IsOfLeaf shape number j =
    (j ≡ place shape (BucketWord number))
    ⊎ IsAmong (place shape (BucketRowWord number 0)) (bucket_row_words shape.settings) j

-- of one of the leaves from one on
abbrev pub IsOfLeaves : Shape → (from to : ℕ) → ℕ → Type 0
IsOfLeaves shape from to j = (number : ℕ) × (from ≤ number) × (number < to) × IsOfLeaf shape number j

-- of the leaves from one on, or of the first directory row
abbrev pub IsOfOpening : Shape → (from leaves width : ℕ) → ℕ → Type 0
IsOfOpening shape from leaves width j =
    IsOfLeaves shape from leaves j ⊎ IsAmong (place shape (DirectoryWord 0 0)) width j
