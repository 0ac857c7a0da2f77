-- What the tables of the turns say. Past its end a table says nothing.
use Rattle.std.specs.Prelude.{◌≡◌, ℕ, ◌+◌, ◌-◌, ◌<◌, ◌++◌, length, sum, count_by, ◌==◌, ◌&&◌, ◌||◌, nat_le, Bool, true, false, not, List, [], ◌∷◌, if◌then◌else◌, Option, Some, None, slice_get, slice_index, slice_index_or, slice_set, fold, map, option_map, option_to_list, flat_map}
use Rattle.std.specs.Option.{option_map_or}
use Rattle.std.specs.List.{list_all, range_with_len}
use Rattle.plain_map.specs.declared.records.TheConstants.{MOST_SEATS}
use Rattle.plain_map.specs.declared.records.Record.{Record}
use Rattle.plain_map.specs.declared.records.Pending.{Pending}
use Rattle.plain_map.specs.declared.records.CallId.{CallId}
use Rattle.plain_map.specs.History.{number_of, id_of}
use Rattle.word_rows.specs.Shape.{Shape}
use Rattle.list_laws.proofs.Lists.{In}
use Rattle.table_model.specs.Reading.{bucket_row}
use Rattle.history_order.specs.Calls.{call_at, record_at, seen_in}
use Rattle.history_order.specs.declared.tables.Unit.{Unit}
use Rattle.history_order.specs.declared.tables.Unit.TheVariants.{Lookup, Row, Version}
use Rattle.history_order.specs.declared.tables.Found.{Found}
use Rattle.history_order.specs.declared.tables.Progress.{Progress}

-- the unit of the seat's call at this place
abbrev pub unit_in : Found → (seat at : ℕ) → Option Unit
unit_in found seat at = slice_index_or (slice_index_or (map (λ units. units.items) found.units.items) seat []) at None

-- the two are one unit
abbrev pub is_unit : Unit → Unit → Bool
is_unit Lookup Lookup = true
is_unit Lookup (Row b) = false
is_unit Lookup (Version b) = false
is_unit (Row a) Lookup = false
is_unit (Row a) (Row b) = a == b
is_unit (Row a) (Version b) = false
is_unit (Version a) Lookup = false
is_unit (Version a) (Row b) = false
is_unit (Version a) (Version b) = a == b

-- the unit of the seat's next call has a call of the other seat
abbrev pub has_call_in : Found → Unit → (seat other : ℕ) → Bool
has_call_in found Lookup seat other = seat == other
has_call_in found (Row row) seat other = slice_index_or (slice_index_or found.callers.items row []) other false
has_call_in found (Version d) seat other =
    option_map_or (λ v. slice_index_or v.callers other false) (slice_get found.versions.items d) false

-- the unit has no calls
abbrev pub is_free : Found → Unit → Bool
is_free found unit = list_all (λ seat. not (has_call_in found unit 0 seat)) (range_with_len 0 MOST_SEATS)

-- the row is placed
abbrev pub is_marked : List Bool → ℕ → Bool
is_marked placed row = slice_index_or placed row false

-- the row is placed, and so are all its lookups
abbrev pub is_marked_done : List Bool → List ℕ → ℕ → Bool
is_marked_done placed looks row = is_marked placed row && (slice_index looks row == 0)

-- where the column of bases names a row, the words name it
abbrev pub HasBases : Shape → List ℕ → Found → Type 0
HasBases shape words found = (row base : ℕ) → slice_index_or found.bases.items row None ≡ Some base →
    (bucket_row shape words row).base ≡ Some base

-- what the unit was made from is placed
abbrev pub has_marked_base : Shape → List ℕ → Found → Progress → Unit → Bool
has_marked_base shape words found progress Lookup = false
has_marked_base shape words found progress (Row row) =
    option_map_or (is_marked_done progress.placed.items progress.looks.items) (bucket_row shape words row).base true
has_marked_base shape words found progress (Version d) =
    (d == progress.latest)
    && option_map_or (λ v. list_all (is_marked_done progress.placed.items progress.looks.items) v.bases.items)
    (slice_get found.versions.items d) false

-- the row is not placed, and what it was made from is
abbrev pub is_due : Shape → List ℕ → Found → Progress → (row : ℕ) → Bool
is_due shape words found progress row =
    not (is_marked progress.placed.items row) && has_marked_base shape words found progress (Row row)

-- the next version has no calls, and what it was made from is placed
abbrev pub is_version_due : Shape → List ℕ → Found → Progress → Bool
is_version_due shape words found progress =
    is_free found (Version progress.latest) && has_marked_base shape words found progress (Version progress.latest)

-- all calls that were seen are placed
abbrev pub has_come : (count seen : List ℕ) → Bool
has_come count seen =
    list_all (λ seat. nat_le (slice_index seen seat) (slice_index count seat)) (range_with_len 0 MOST_SEATS)

-- the other seat's next call is one of the unit, and may come next
abbrev pub is_next_in : List (List Record) → List Pending → Found → (count : List ℕ) → Unit → (other : ℕ) → Bool
is_next_in logs begun found count unit other =
    option_map_or (is_unit unit) (unit_in found other (slice_index count other)) false
    && option_map_or (λ call. has_come count (seen_in call).counts)
    (call_at logs begun other (slice_index count other)) false

-- the unit has no call of the other seat, or that call may come next
abbrev pub is_none_or_next : List (List Record) → List Pending → Found → (count : List ℕ) → (seat : ℕ) → Unit →
    (other : ℕ) → Bool
is_none_or_next logs begun found count seat unit other =
    not (has_call_in found unit seat other) || is_next_in logs begun found count unit other

-- so it is with each call of the unit
abbrev pub are_next_in : List (List Record) → List Pending → Found → (count : List ℕ) → (seat : ℕ) → Unit → Bool
are_next_in logs begun found count seat unit =
    list_all (is_none_or_next logs begun found count seat unit) (range_with_len 0 MOST_SEATS)

-- what the unit of the seat's next call was made from is placed; a lookup waits for its row alone
abbrev pub has_base_in : Shape → List ℕ → List (List Record) → Found → Progress → (count : List ℕ) → (seat : ℕ) →
    Unit → Bool
has_base_in shape words logs found progress count seat Lookup =
    option_map_or (λ r. is_marked progress.placed.items r.place) (record_at logs seat (slice_index count seat)) false
has_base_in shape words logs found progress count seat (Row row) = has_marked_base shape words found progress (Row row)
has_base_in shape words logs found progress count seat (Version d) =
    has_marked_base shape words found progress (Version d)

-- the unit of the seat's next call may be placed
abbrev pub is_ready_in : Shape → List ℕ → List (List Record) → List Pending → Found → Progress → (count : List ℕ) →
    (seat : ℕ) → Bool
is_ready_in shape words logs begun found progress count seat =
    option_map_or (λ unit. has_base_in shape words logs found progress count seat unit
    && are_next_in logs begun found count seat unit) (unit_in found seat (slice_index count seat)) false

-- the row without calls that was made from this one
abbrev pub free_next : Found → (row : ℕ) → List ℕ
free_next found row =
    option_map_or (λ next. if is_free found (Row next) then next ∷ [] else [])
    (slice_index_or found.next.items row None) []

-- it may be placed with this row, where the row is then done
abbrev pub brought : Found → (looks : List ℕ) → (row : ℕ) → List ℕ
brought found looks row = if slice_index looks row == 0 then free_next found row else []

-- with these rows placed
abbrev pub marked : List Bool → (rows : List ℕ) → List Bool
marked placed rows = fold (λ now row. slice_set now row true) placed rows

-- the call of the other seat, at this place, that comes with the unit
abbrev pub told_with : List (List Record) → List Pending → Found → (seat : ℕ) → Unit → (other at : ℕ) → List CallId
told_with logs begun found seat unit other at =
    if has_call_in found unit seat other
    then option_to_list (option_map id_of (call_at logs begun other at)) else []

-- how many calls of the other seat are then placed
abbrev pub count_with : List (List Record) → List Pending → Found → (seat : ℕ) → Unit → (other at : ℕ) → ℕ
count_with logs begun found seat unit other at =
    if has_call_in found unit seat other then option_map_or number_of (call_at logs begun other at) at else at

-- the calls that come with the unit, in the order of the seats
abbrev pub all_told : List (List Record) → List Pending → Found → (count : List ℕ) → (seat : ℕ) → Unit →
    (from many : ℕ) → List CallId
all_told logs begun found count seat unit from many =
    flat_map (λ other. told_with logs begun found seat unit other (slice_index count other)) (range_with_len from many)

-- the first rows of a version
abbrev pub firsts_of : Found → (version : ℕ) → List ℕ
firsts_of found version = option_map_or (λ v. v.firsts.items) (slice_get found.versions.items version) []

-- with this turn the bucket row is placed
pub record RowIsPlaced (found : Found) (row : ℕ) (old new : Progress) : Type 0 where
  pub placed : new.placed.items ≡ slice_set old.placed.items row true
  pub looks : new.looks.items ≡ old.looks.items
  pub latest : new.latest ≡ old.latest
  pub aside : new.aside.items ≡ old.aside.items ++ brought found old.looks.items row

-- with this one a lookup of the row
pub record LookIsPlaced (found : Found) (row : ℕ) (old new : Progress) : Type 0 where
  pub placed : new.placed.items ≡ old.placed.items
  pub looks : new.looks.items ≡ slice_set old.looks.items row (slice_index old.looks.items row - 1)
  pub latest : new.latest ≡ old.latest
  pub aside : new.aside.items ≡ old.aside.items
      ++ (if is_marked_done new.placed.items new.looks.items row then free_next found row else [])

-- and with this one the next version
pub record VersionIsPlaced (found : Found) (old new : Progress) : Type 0 where
  pub placed : new.placed.items ≡ marked old.placed.items (firsts_of found old.latest)
  pub looks : new.looks.items ≡ old.looks.items
  pub latest : new.latest ≡ old.latest + 1
  pub aside : new.aside.items ≡ old.aside.items
      ++ flat_map (brought found old.looks.items) (firsts_of found old.latest)

-- the unit of the seat's call at this place can be placed
abbrev pub CanBePlaced : List (List Record) → Found → (seat at : ℕ) → Unit → Progress → Type 0
CanBePlaced logs found seat at Lookup old =
    (r : Record) × (record_at logs seat at ≡ Some r) × (r.place < length old.looks.items)
CanBePlaced logs found seat at (Row row) old = row < length old.placed.items
CanBePlaced logs found seat at (Version d) old =
    (old.latest < length found.versions.items)
    × ((row : ℕ) → In row (firsts_of found old.latest) → row < length old.placed.items)

-- and is placed
abbrev pub IsPlaced : List (List Record) → Found → (seat at : ℕ) → Unit → (old new : Progress) → Type 0
IsPlaced logs found seat at Lookup old new =
    (r : Record) → record_at logs seat at ≡ Some r → LookIsPlaced found r.place old new
IsPlaced logs found seat at (Row row) old new = RowIsPlaced found row old new
IsPlaced logs found seat at (Version d) old new = VersionIsPlaced found old new

-- so much is left: bucket rows, lookups and versions
abbrev pub left_of : Found → Progress → ℕ
left_of found progress =
    count_by not progress.placed.items + sum progress.looks.items
    + (length found.versions.items - progress.latest)
