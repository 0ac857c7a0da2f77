-- With each turn less is left.
use Rattle.std.proofs.Common.{◌≡◌, ℕ, ◌+◌, ◌-◌, ◌*◌, ◌^◌, ◌<◌, ◌≤◌, Bool, true, false, cond, List, [], ◌∷◌, length, Option, Some, None, refl, inl, inr, ap, arith, length-append}
use Rattle.std.specs.Prelude.{◌==◌, not, sum, count_by, if◌then◌else◌, flat_map, slice_get, slice_index, slice_index_or, slice_set}
use Rattle.std.specs.Option.{option_map_or}
use Rattle.std.proofs.lemmas.List.{length-set}
use Rattle.std.proofs.lemmas.List.Sums.{sum_by-set}
use Rattle.list_laws.proofs.Lists.{In}
use Rattle.history_order.specs.Tables.{is_marked, is_marked_done, is_free, marked, free_next, brought, firsts_of, left_of, RowIsPlaced, LookIsPlaced, VersionIsPlaced}
use Rattle.history_order.specs.declared.tables.Unit.TheVariants.{Row}
use Rattle.history_order.specs.declared.tables.Version.{Version}
use Rattle.history_order.specs.declared.tables.Found.{Found}
use Rattle.history_order.specs.declared.tables.Progress.{Progress}

-- one row more is marked
fewer_one : (placed : List Bool) (row : ℕ) → row < length placed → slice_index_or placed row false ≡ false →
    count_by not (slice_set placed row true) + 1 ≡ count_by not placed
fewer_one placed row inside e =
    let is = sum_by-set (λ b. cond (not b) 1 0) placed row true false inside in
    omega (arith, is, ap {B = ℕ} (λ b. cond (not b) 1 0) e)

-- marks take none away
fewer_or_same : (placed : List Bool) (row : ℕ) → row < length placed →
    count_by not (slice_set placed row true) ≤ count_by not placed
fewer_or_same placed row inside =
    let is = sum_by-set (λ b. cond (not b) 1 0) placed row true false inside in
    omega (arith, is)

fewer_all : (placed : List Bool) (rows : List ℕ) → ((row : ℕ) → In row rows → row < length placed) →
    count_by not (marked placed rows) ≤ count_by not placed
fewer_all placed [] inside = omega arith
fewer_all placed (x ∷ xs) inside =
    let rest = fewer_all (slice_set placed x true) xs
    (λ row i. omega (arith, inside row (inr i), length-set placed x true)) in
    omega (arith, rest, fewer_or_same placed x (inside x (inl refl)))

module _ (found : Found) (old new : Progress) where
  -- with a bucket row
  pub row_falls : (row : ℕ) → RowIsPlaced found row old new → row < length old.placed.items →
      is_marked old.placed.items row ≡ false → left_of found new < left_of found old
  row_falls row w inside e =
      omega (arith, fewer_one old.placed.items row inside e, ap (count_by not) w.placed, ap sum w.looks, w.latest)

  -- with a lookup
  pub look_falls : (row : ℕ) → LookIsPlaced found row old new → row < length old.looks.items →
      1 ≤ slice_index old.looks.items row → left_of found new < left_of found old
  look_falls row w inside some =
      let is = sum_by-set (λ (n : ℕ). n) old.looks.items row (slice_index old.looks.items row - 1) 0 inside in
      omega (arith, is, some, ap (count_by not) w.placed, ap sum w.looks, w.latest)

  -- with a version
  pub version_falls : VersionIsPlaced found old new → old.latest < length found.versions.items →
      ((row : ℕ) → In row (firsts_of found old.latest) → row < length old.placed.items) →
      left_of found new < left_of found old
  version_falls w inside firsts =
      omega (
        arith,
        fewer_all old.placed.items (firsts_of found old.latest) firsts,
        ap (count_by not) w.placed,
        ap sum w.looks,
        w.latest,
        inside,
      )

-- one row is brought at most
next_few : (found : Found) (row : ℕ) → length (free_next found row) ≤ 1
next_few found row = go (slice_index_or found.next.items row None)
  where
    here : (next : ℕ) (b : Bool) → length (if b then next ∷ [] else []) ≤ 1
    here next true = omega arith
    here next false = omega arith

    go : (o : Option ℕ) → length (option_map_or (λ next. if is_free found (Row next) then next ∷ [] else []) o []) ≤ 1
    go None = omega arith
    go (Some next) = here next (is_free found (Row next))

if_few : (b : Bool) (xs : List ℕ) → length xs ≤ 1 → length (if b then xs else []) ≤ 1
if_few true xs h = h
if_few false xs h = omega arith

pub brought_few : (found : Found) (looks : List ℕ) (row : ℕ) → length (brought found looks row) ≤ 1
brought_few found looks row = if_few (slice_index looks row == 0) (free_next found row) (next_few found row)

all_few : (found : Found) (looks rows : List ℕ) → length (flat_map (brought found looks) rows) ≤ length rows
all_few found looks [] = omega arith
all_few found looks (x ∷ xs) =
    omega (
      arith,
      length-append (brought found looks x) (flat_map (brought found looks) xs),
      brought_few found looks x,
      all_few found looks xs,
    )

module _ (found : Found) (old new : Progress) where
  -- so many rows are then aside at most
  pub row_aside_few : (row : ℕ) → RowIsPlaced found row old new →
      length new.aside.items ≤ length old.aside.items + 1
  row_aside_few row w =
      omega (
        arith,
        ap length w.aside,
        length-append old.aside.items (brought found old.looks.items row),
        brought_few found old.looks.items row,
      )

  pub look_aside_few : (row : ℕ) → LookIsPlaced found row old new →
      length new.aside.items ≤ length old.aside.items + 1
  look_aside_few row w =
      omega (
        arith,
        ap length w.aside,
        length-append old.aside.items (if is_marked_done new.placed.items new.looks.items row then free_next found row
            else []),
        if_few (is_marked_done new.placed.items new.looks.items row) (free_next found row) (next_few found row),
      )

  pub version_aside_few : VersionIsPlaced found old new →
      length new.aside.items ≤ length old.aside.items + length (firsts_of found old.latest)
  version_aside_few w =
      omega (
        arith,
        ap length w.aside,
        length-append old.aside.items (flat_map (brought found old.looks.items) (firsts_of found old.latest)),
        all_few found old.looks.items (firsts_of found old.latest),
      )

-- a version has few first rows
pub firsts_few : (found : Found) (latest : ℕ) → length (firsts_of found latest) < 2 ^ 64
firsts_few found latest = go (slice_get found.versions.items latest)
  where
    go : (o : Option Version) → length (option_map_or (λ v. v.firsts.items) o []) < 2 ^ 64
    go None = omega arith
    go (Some v) = omega (arith, v.firsts.small, v.firsts.ok)

-- so the measure falls
pub falls : (a b x y : ℕ) → a < b → x ≤ y + 2 ^ 64 → 2 ^ 65 * a + x < 2 ^ 65 * b + y
falls a b x y less few = omega (arith, less, few)
