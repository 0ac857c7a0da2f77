-- What the tables are filled with, list by list.
use Rattle.std.specs.Prelude.{◌≡◌, ℕ, Bool, false, not, if◌then◌else◌, List, [], ◌∷◌, ◌++◌, Some, slice_index_or, flat_map, filter, filter_map}
use Rattle.word_rows.specs.Shape.{Shape}
use Rattle.table_model.specs.Reading.{bucket_row, directory_at, is_among, each_once, bucket_line, row_of, is_exchanged, first_row}

-- the entries of a directory row
abbrev pub entries_of : Shape → List ℕ → (row : ℕ) → List ℕ
entries_of shape words row = (directory_at shape words row).entries

-- those of them that are none of these, each once
abbrev pub new_beside : Shape → List ℕ → (met : List ℕ) (row : ℕ) → List ℕ
new_beside shape words met row = filter (λ bucket. not (is_among met bucket)) (each_once (entries_of shape words row))

-- for each of these directory rows its entries that no row before it has
abbrev pub leaves_from : Shape → List ℕ → (met rows : List ℕ) → List (List ℕ)
leaves_from shape words met [] = []
leaves_from shape words met (row ∷ rows) =
    new_beside shape words met row ∷ leaves_from shape words (met ++ entries_of shape words row) rows

-- a list as long as the test holds
abbrev pub while_true : (ℕ → Bool) → List ℕ → List ℕ
while_true test [] = []
while_true test (number ∷ numbers) = if test number then number ∷ while_true test numbers else []

-- the rows of a bucket that were exchanged, the latest first
abbrev pub exchanged_of : Shape → List ℕ → (bucket : ℕ) → List ℕ
exchanged_of shape words bucket =
    while_true (is_exchanged shape words) (bucket_line shape words (Some (row_of shape words bucket)))

-- those of all these buckets
abbrev pub exchanged_in : Shape → List ℕ → List (List ℕ) → List ℕ
exchanged_in shape words leaves = flat_map (λ buckets. flat_map (exchanged_of shape words) buckets) leaves

-- the rows that these rows were made from
abbrev pub bases_in : Shape → List ℕ → List ℕ → List ℕ
bases_in shape words rows = filter_map (λ row. (bucket_row shape words row).base) rows

-- the first rows of these buckets
abbrev pub firsts_in : Shape → List ℕ → List ℕ → List ℕ
firsts_in shape words buckets = filter_map (first_row shape words) buckets
