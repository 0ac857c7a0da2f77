-- What a column of a table reads after writes.
use Rattle.std.specs.Prelude.{◌≡◌, ℕ, zero, suc, ◌+◌, ◌==◌, ◌&&◌, nat_lt, Bool, false, if◌then◌else◌, not, is_some, filter, slice_index_or, List, [], ◌∷◌, length, Option, Some, None}
use Rattle.std.specs.List.{list_all, count_by, range_with_len}
use Rattle.plain_map.specs.declared.records.Record.{Record}
use Rattle.word_rows.specs.Shape.{Shape}
use Rattle.plain_map.specs.Calls.{is_update}
use Rattle.table_model.specs.Reading.{bucket_row}
use Rattle.table_model.specs.Order.{new_number, new_in_rows}
use Rattle.history_order.specs.Filling.{firsts_in, bases_in}
use Rattle.history_order.specs.declared.tables.Unit.{Unit}
use Rattle.history_order.specs.declared.tables.Unit.TheVariants.{Lookup, Row, Version as VersionAt}
use Rattle.history_order.specs.declared.tables.Version.{Version}

-- a write is meant for this place
abbrev pub hits : Option ℕ → (place : ℕ) → Bool
hits None place = false
hits (Some at) place = at == place

-- what is read at a place of a column of so many after a write, and after all of these
abbrev pub written : {A : Type 0} → (place many : ℕ) → (at : Option ℕ) (value : A) → A → A
written place many at value before = if hits at place && nat_lt place many then value else before

abbrev pub after_all : {A B : Type 0} → (at : B → Option ℕ) (value : B → A) → (place many : ℕ) → List B → A → A
after_all at value place many [] before = before
after_all at value place many (x ∷ xs) before =
    after_all at value place many xs (written place many (at x) (value x) before)

-- one list of units, and the same with a unit more, where the place is one of it
abbrev pub IsUnitPut : (at : Option ℕ) (unit : Unit) (old new : List (Option Unit)) → Type 0
IsUnitPut at unit old new = (length new ≡ length old)
    × ((place : ℕ) → slice_index_or new place None
    ≡ written place (length old) at (Some unit) (slice_index_or old place None))

-- the members with their places
abbrev pub numbered_from : {A : Type 0} → ℕ → List A → List (ℕ × A)
numbered_from from [] = []
numbered_from from (x ∷ xs) = (from, x) ∷ numbered_from (from + 1) xs

-- the place of a call with a number
abbrev pub place_of : Option ℕ → Option ℕ
place_of None = None
place_of (Some zero) = None
place_of (Some (suc place)) = Some place

module _ (shape : Shape) (words : List ℕ) where
  -- the row that a row was made from
  abbrev pub base_in : ℕ → Option ℕ
  base_in row = (bucket_row shape words row).base

  -- whether the seat's update is new in one of these rows
  abbrev pub is_caller : List ℕ → (seat : ℕ) → Bool
  is_caller rows seat = nat_lt seat shape.settings.seats && is_some (new_in_rows shape words rows seat)

  -- where the unit of a row is written for a seat, that of a version, and that of a record's lookup
  abbrev pub row_place : (seat : ℕ) → ℕ → Option ℕ
  row_place seat row = place_of (new_number shape words seat row)

  abbrev pub version_place : (seat : ℕ) → ℕ × Version → Option ℕ
  version_place seat numbered = place_of (new_in_rows shape words numbered.1.firsts.items seat)

  -- no seat's update is new in these rows
  abbrev pub is_free : List ℕ → Bool
  is_free rows =
      list_all (λ seat. not (is_some (new_in_rows shape words rows seat))) (range_with_len 0 shape.settings.seats)

  -- what is written of a directory row with these new leaves
  pub record IsMade (row : ℕ) (buckets : List ℕ) (version : Version) : Type 0 where
    pub row_is : version.row ≡ row
    pub firsts : version.firsts.items ≡ firsts_in shape words buckets
    pub bases : version.bases.items ≡ bases_in shape words version.firsts.items
    pub callers : (seat : ℕ) → slice_index_or version.callers seat false ≡ is_caller version.firsts.items seat

-- the lookups of a row among these records
abbrev pub looks_in : List Record → (row : ℕ) → ℕ
looks_in records row = count_by (λ r. r.place == row) (filter (λ r. not (is_update r.call)) records)

abbrev pub look_place : Record → Option ℕ
look_place r = if is_update r.call then None else place_of (Some r.number)

-- the units of a seat's calls
abbrev pub unit_at : Shape → List ℕ → (exchanged : List ℕ) (versions : List Version) (log : List Record) →
    (seat place : ℕ) → Option Unit
unit_at shape words exchanged versions log seat place =
    let many = length log + 1 in
    after_all look_place (λ r. Some Lookup) place many log
    (after_all (version_place shape words seat) (λ numbered. Some (VersionAt numbered.0)) place many
    (numbered_from 0 versions)
    (after_all (row_place shape words seat) (λ row. Some (Row row)) place many exchanged None))
