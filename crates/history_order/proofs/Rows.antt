-- Rows that are written one after the other, and lists by seat that are written one after the other.
use Rattle.std.proofs.Common.{◌≡◌, ◌≢◌, ℕ, ◌+◌, ◌<◌, ◌≤◌, Bool, false, List, [], ◌∷◌, ◌++◌, Vec, Global, length, map, take, drop, get_or, Option, Some, None, refl, inl, inr, sym, ap, ◌∙◌, subst, arith}
use Rattle.std.specs.Prelude.{option_to_list}
use Rattle.std.specs.List.{cons_option}
use Rattle.std.specs.Vec.{with_items}
use Rattle.std.proofs.Math.ListN.{set}
use Rattle.std.proofs.Math.Seq.{take-append_seam}
use Rattle.std.proofs.lemmas.List.{at_drop_more, get_or-map, get_or-set_other, get_or-set_same, length-map, map-set}
use Rattle.std.proofs.lemmas.Bool.{cases_eq}
use Rattle.plain_map.specs.declared.records.Record.{Record}
use Rattle.word_rows.specs.Shape.{Shape}
use Rattle.table_model.specs.Reading.{first_row}
use Rattle.table_model.specs.Closing.{log_of}
use Rattle.history_order.specs.Columns.{IsUnitPut, after_all, look_place, numbered_from, row_place, version_place, written}
use Rattle.history_order.specs.Filling.{firsts_in}
use Rattle.history_order.specs.Fills.{AreUnits}
use Rattle.closed_words.proofs.LoopLemmas.{grows}
use Rattle.history_order.proofs.Writes.{flag_written}
use Rattle.history_order.specs.declared.tables.Unit.{Unit}
use Rattle.history_order.specs.declared.tables.Unit.TheVariants.{Lookup, Row, Version as VersionAt}
use Rattle.history_order.specs.declared.tables.Version.{Version}

-- a write after all
after_more : {A B : Type 0} → (at : B → Option ℕ) (value : B → A) (place many : ℕ) (xs : List B) (x : B)
    (before : A) → after_all at value place many (xs ++ x ∷ []) before
    ≡ written place many (at x) (value x) (after_all at value place many xs before)
after_more at value place many [] x before = refl
after_more at value place many (y ∷ ys) x before =
    after_more at value place many ys x (written place many (at y) (value y) before)

-- what a column had before lies behind what it has now, and is cut off
pub put_back : {A : Type 0} → (many : ℕ) (new old : List A) → length new ≡ many →
    take many (new ++ drop (length new) old) ≡ new
put_back many new old len =
    ap (λ n. take n (new ++ drop (length new) old)) (sym len) ∙ take-append_seam new (drop (length new) old)

-- so a column that was written is written with one more
column_more : {A B : Type 0} → (at : B → Option ℕ) (value : B → A) (place many : ℕ) (xs xs_then : List B) (x : B)
    (before read read_then : A) → xs_then ≡ xs ++ x ∷ [] → read ≡ after_all at value place many xs before →
    read_then ≡ written place many (at x) (value x) read →
    read_then ≡ after_all at value place many xs_then before
column_more at value place many xs xs_then x before read read_then more was is =
    is ∙ ap (written place many (at x) (value x)) was ∙ sym (after_more at value place many xs x before)
    ∙ ap (λ ys. after_all at value place many ys before) (sym more)

-- a column of entries, where a row more is written
module _ {A : Type 0} (column : Vec A Global) (entries new : List A) (same : entries ≡ column.items)
    (whole : length entries ≡ column.len) (long : length new ≡ length entries) where
  -- it is what was written
  pub now_is : (with_items column new).items ≡ new
  now_is = put_back column.len new column.items (long ∙ whole)

  -- and as long as it was
  pub now_long : (many : ℕ) → length column.items ≡ many → length (with_items column new).items ≡ many
  now_long many was = ap length now_is ∙ long ∙ ap length same ∙ was

  -- and reads what all of the rows wrote
  pub cell_more : (at : ℕ → Option ℕ) (value : ℕ → A) (many : ℕ) (rows rows_then : List ℕ) (row : ℕ) (none : A)
      (here : Option ℕ) (v : A) →
      ((place : ℕ) (d : A) → get_or new place d ≡ written place (length entries) here v (get_or entries place d)) →
      rows_then ≡ rows ++ row ∷ [] → here ≡ at row → v ≡ value row → length column.items ≡ many →
      ((place : ℕ) → get_or column.items place none ≡ after_all at value place many rows none) →
      (place : ℕ) → get_or (with_items column new).items place none ≡ after_all at value place many rows_then none
  cell_more at value many rows rows_then row none here v reads more is_at is_value was read place =
      column_more at value place many rows rows_then row none (get_or column.items place none) _ more (read place)
      (ap (λ xs. get_or xs place none) now_is ∙ reads place none
      ∙ ap (λ xs. written place (length xs) here v (get_or xs place none)) same
      ∙ ap (λ n. written place n here v (get_or column.items place none)) was
      ∙ ap (λ o. written place many o v (get_or column.items place none)) is_at
      ∙ ap (λ w. written place many (at row) w (get_or column.items place none)) is_value)

-- a column of flags, where those of a row more are written
pub flags_more : (column : Vec (List Bool) Global) (entries new : List (List Bool)) → entries ≡ column.items →
    length entries ≡ column.len → length new ≡ length entries →
    (value : ℕ → ℕ → Bool) (many : ℕ) (rows rows_then : List ℕ) (row : ℕ) (flags : List Bool) →
    ((place : ℕ) (d : List Bool) → get_or new place d
    ≡ written place (length entries) (Some row) flags (get_or entries place d)) →
    rows_then ≡ rows ++ row ∷ [] → ((seat : ℕ) → get_or flags seat false ≡ value seat row) →
    length column.items ≡ many →
    ((place seat : ℕ) → get_or (get_or column.items place []) seat false
    ≡ after_all (λ r. Some r) (value seat) place many rows false) → (place seat : ℕ) →
    get_or (get_or (with_items column new).items place []) seat false
    ≡ after_all (λ r. Some r) (value seat) place many rows_then false
flags_more column entries new same whole long value many rows rows_then row flags reads more are was read place seat =
    let old : List Bool = get_or column.items place [] in
    column_more (λ r. Some r) (value seat) place many rows rows_then row false (get_or old seat false) _ more
    (read place seat)
    (ap (λ xs. get_or (get_or xs place []) seat false) (now_is column entries new same whole long)
    ∙ ap (λ (v : List Bool). get_or v seat false) (reads place [])
    ∙ ap (λ xs. get_or (written place (length xs) (Some row) flags (get_or xs place [])) seat false) same
    ∙ ap (λ n. get_or (written place n (Some row) flags old) seat false) was
    ∙ flag_written place many (Some row) flags old seat
    ∙ ap (λ b. written place many (Some row) b (get_or old seat false)) (are seat))

-- the list of a seat was changed
module _ {A : Type 0} (lists : List (Vec A Global)) (seat : ℕ) where
  -- those of the others were not
  pub list_others : (v : Vec A Global) (other : ℕ) → other ≢ seat →
      get_or (map (λ (v : Vec A Global). v.items) (set lists seat v)) other []
      ≡ get_or (map (λ (v : Vec A Global). v.items) lists) other []
  list_others v other apart =
      ap (λ xs. get_or xs other []) (map-set (λ (v : Vec A Global). v.items) lists seat v)
      ∙ get_or-set_other (map (λ (v : Vec A Global). v.items) lists) seat other v.items [] apart

  -- and it is what it was changed to
  pub list_changed : (becomes : List A → List A → Type 0) (d : Vec A Global) (new : List A) → seat < length lists →
      length new ≡ (get_or lists seat d).len → becomes (get_or lists seat d).items new →
      becomes (get_or (map (λ (v : Vec A Global). v.items) lists) seat [])
      (get_or (map (λ (v : Vec A Global). v.items) (set lists seat (with_items (get_or lists seat d) new))) seat [])
  list_changed becomes d new inside long is =
      let item : Vec A Global → List A = λ (v : Vec A Global). v.items in
      let here : Vec A Global = get_or lists seat d in
      let olds : get_or (map item lists) seat [] ≡ here.items = get_or-map item lists seat d [] inside in
      let news : get_or (map item (set lists seat (with_items here new))) seat [] ≡ new =
      ap (λ xs. get_or xs seat []) (map-set item lists seat (with_items here new))
      ∙ get_or-set_same (map item lists) seat (with_items here new).items []
      (omega (arith, inside, length-map lists item))
      ∙ put_back here.len new here.items long in
      subst (λ (xs : List A). becomes xs (get_or (map item (set lists seat (with_items here new))) seat [])) (sym olds)
      (subst (λ (xs : List A). becomes here.items xs) (sym news) is)

-- the first row of a bucket more
pub first_goes : (shape : Shape) (words buckets : List ℕ) (i : ℕ) → i < length buckets → (done done_then all : List ℕ)
    (first : Option ℕ) → first ≡ first_row shape words (get_or buckets i 0) → done_then ≡ done ++ option_to_list first →
    done ++ firsts_in shape words (drop i buckets) ≡ all →
    done_then ++ firsts_in shape words (drop (i + 1) buckets) ≡ all
first_goes shape words buckets i inside done done_then all first is more were =
    grows done (option_to_list first) (firsts_in shape words (drop (i + 1) buckets))
    (firsts_in shape words (drop i buckets)) all done_then more
    (at_drop_more (firsts_in shape words) buckets i 0 inside
    ∙ ap (λ o. cons_option o (firsts_in shape words (drop (i + 1) buckets))) (sym is)
    ∙ consed first (firsts_in shape words (drop (i + 1) buckets))) were
  where
    consed : (o : Option ℕ) (xs : List ℕ) → cons_option o xs ≡ option_to_list o ++ xs
    consed None xs = refl
    consed (Some x) xs = refl

-- the lists of the first seats have come to be something, and those of the others are as they were
abbrev pub Went : {A : Type 0} → (becomes : ℕ → List A → List A → Type 0) (first : List (List A)) (count : ℕ)
    (lists : List (List A)) → Type 0
Went becomes first count lists =
    ((seat : ℕ) → seat < count → becomes seat (get_or first seat []) (get_or lists seat []))
    × ((seat : ℕ) → count ≤ seat → get_or lists seat [] ≡ get_or first seat [])

-- one seat more
pub went_on : {A : Type 0} → (becomes : ℕ → List A → List A → Type 0) (first : List (List A)) (count : ℕ)
    (lists lists_then : List (List A)) → Went becomes first count lists →
    ((other : ℕ) → other ≢ count → get_or lists_then other [] ≡ get_or lists other []) →
    becomes count (get_or lists count []) (get_or lists_then count []) → Went becomes first (count + 1) lists_then
went_on {A = A} becomes first count lists lists_then went others is = (
  λ seat less. elim (cases_eq seat count) [
    | inl e ↦ subst (λ s. becomes s (get_or first s []) (get_or lists_then s [])) (sym e)
        (subst (λ (xs : List A). becomes count xs (get_or lists_then count [])) (went.1 count (omega arith)) is)
    | inr apart ↦ subst (λ (xs : List A). becomes seat (get_or first seat []) xs) (sym (others seat apart))
        (went.0 seat (omega (arith, less, apart)))
  ],
  λ seat past. others seat (λ e. omega (arith, past, e)) ∙ went.1 seat (omega (arith, past)),
)

-- the units of a row more
pub units_more : (shape : Shape) (words : List ℕ) (logs : List (List Record)) (rows rows_then : List ℕ) (row : ℕ)
    (lists lists_then : List (List (Option Unit))) → rows_then ≡ rows ++ row ∷ [] →
    AreUnits shape words logs rows lists →
    length lists_then ≡ length lists → ((seat : ℕ) → seat < shape.settings.seats →
    IsUnitPut (row_place shape words seat row) (Row row) (get_or lists seat []) (get_or lists_then seat [])) →
    AreUnits shape words logs rows_then lists_then
units_more shape words logs rows rows_then row lists lists_then more units many put = record {
  seats = many ∙ units.seats;
  many = λ seat less. (put seat less).0 ∙ units.many seat less;
  reads = λ seat place less.
      column_more (row_place shape words seat) (λ r. Some (Row r)) place (length (log_of logs seat) + 1) rows rows_then
      row None (get_or (get_or lists seat []) place None) (get_or (get_or lists_then seat []) place None) more
      (units.reads seat place less)
      ((put seat less).1 place
      ∙ ap (λ n. written place n (row_place shape words seat row) (Some (Row row))
      (get_or (get_or lists seat []) place None)) (units.many seat less));
}

-- a list of units with those of the versions and the lookups
abbrev pub IsMore : (shape : Shape) (words : List ℕ) (versions : List Version) (log : List Record) (seat : ℕ)
    (old new : List (Option Unit)) → Type 0
IsMore shape words versions log seat old new = (place : ℕ) → get_or new place None
    ≡ after_all look_place (λ r. Some Lookup) place (length old) log
    (after_all (version_place shape words seat) (λ numbered. Some (VersionAt numbered.0)) place (length old)
    (numbered_from 0 versions) (get_or old place None))
