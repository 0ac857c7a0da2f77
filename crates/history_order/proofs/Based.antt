-- Whether what a unit was made from is there, as the tables tell it: it is as it is of its piece.
use Rattle.std.proofs.Common.{◌≡◌, ℕ, suc, ◌+◌, ◌-◌, ◌<◌, ◌≤◌, Bool, true, false, List, [], ◌∷◌, map, Option, Some, None, refl, inl, inr, sym, ap, ◌∙◌, subst, arith, eqb-true, eq-eqb}
use Rattle.std.specs.Prelude.{◌==◌, ◌&&◌, slice_get, slice_index}
use Rattle.std.specs.Option.{option_map_or}
use Rattle.std.specs.List.{list_all, range_with_len}
use Rattle.std.proofs.lemmas.Bool.{and_parts, and_from, cases_lt}
use Rattle.std.proofs.lemmas.Option.{slice_get_cases}
use Rattle.plain_map.specs.declared.records.Record.{Record}
use Rattle.plain_map.specs.declared.records.Pending.{Pending}
use Rattle.table_model.specs.Reading.{bucket_row, is_among}
use Rattle.table_model.specs.Order.{Closing, ByBucketRow, ByDirectoryRow, Placing, is_done, has_base}
use Rattle.list_laws.proofs.Lists.{In, all_at, all_from, in_map, map_in, in_range, range_in}
use Rattle.placing_laws.proofs.Stuck.{among_in}
use Rattle.placing_laws.proofs.Alone.{Alone}
use Rattle.closed_laws.proofs.Book.{Book}
use Rattle.closed_laws.proofs.Read.{dir_base_is}
use Rattle.table_model.specs.Closing.{closing_with}
use Rattle.history_order.specs.Told.{Told}
use Rattle.history_order.specs.Parts.{version_base, Marks}
use Rattle.history_order.specs.Filled.{Filled, IsVersion}
use Rattle.history_order.specs.Tables.{is_marked, is_marked_done, has_marked_base}
use Rattle.history_order.specs.declared.tables.Unit.TheVariants.{Row, Version as VersionAt}
use Rattle.history_order.specs.declared.tables.Version.{Version}
use Rattle.history_order.specs.declared.tables.Found.{Found}
use Rattle.history_order.specs.declared.tables.Progress.{Progress}
use Rattle.history_order.proofs.Looks.{done_from, done_to}
use Rattle.history_order.proofs.Marks.{IsMarkedDone, base_from, version_base_to}
use Rattle.history_order.proofs.Standing.{version_had}
use Rattle.list_laws.proofs.Options.{some_same}
use Rattle.list_laws.proofs.Truths.{both_ways}
use Rattle.closed_laws.proofs.Lines.{among_is_in}

-- a member stands at some place
pub in_place : {A : Type 0} → (xs : List A) (x : A) → In x xs → (at : ℕ) × (slice_get xs at ≡ Some x)
in_place [] x i = elim i [ ]
in_place (y ∷ xs) x (inl e) = (0, ap Some (sym e))
in_place (y ∷ xs) x (inr i) = let r = in_place xs x i in (suc r.0, r.1)

-- so many of the versions are there: the first ones
abbrev pub first_versions : Book → (latest : ℕ) → ℕ → Bool
first_versions k latest row = is_among (map k.dir_row (range_with_len 0 latest)) row

module _ (words : List ℕ) (logs : List (List Record)) (begun : List Pending) (t : Told words logs begun) where
  -- what is told of
  abbrev pub cl : Closing
  cl = closing_with words logs begun

  -- the progress marks the placing
  abbrev pub MarksOf : Progress → Placing → Type 0
  MarksOf progress p = Marks t.setup cl (is_marked progress.placed.items) (first_versions t.book progress.latest)
      (λ row. slice_index progress.looks.items row) p

  -- one of the first versions
  pub version_there : (latest v : ℕ) → v < latest → first_versions t.book latest (t.book.dir_row v) ≡ true
  version_there latest v less =
      among_in (map t.book.dir_row (range_with_len 0 latest)) (t.book.dir_row v)
      (map_in t.book.dir_row (range_with_len 0 latest) v (range_in 0 latest v (omega arith) (omega (arith, less))))

  -- and only those are there
  pub there_version : (latest v : ℕ) → latest ≤ t.book.dir_top + 1 → v ≤ t.book.dir_top →
      first_versions t.book latest (t.book.dir_row v) ≡ true → v < latest
  there_version latest v few inside h =
      let i = in_map t.book.dir_row (range_with_len 0 latest) (t.book.dir_row v)
      (among_is_in (map t.book.dir_row (range_with_len 0 latest)) (t.book.dir_row v) h) in
      let r = in_range 0 latest i.0 i.1 in
      let same = t.written.dir_once v i.0 inside (omega (arith, r.1, few)) i.2 in
      omega (arith, r.1, same)

  -- the version that is found
  pub found_version : (found : Found) → Filled words logs begun t found → (d : ℕ) → d ≤ t.book.dir_top →
      (v : Version) × (slice_get found.versions.items d ≡ Some v) × IsVersion words logs begun t d v
  found_version found f d inside = elim (slice_get_cases found.versions.items d).1 [
    | inl h ↦ (h.0, h.2, f.versions d h.0 h.2)
    | inr h ↦ absurd (omega (arith, h.0, f.many, inside))
  ]

  module _ (progress : Progress) (p : Placing) (m : MarksOf progress p) where
    -- a row is done as it is marked
    pub done_same : (row : ℕ) →
        is_marked_done progress.placed.items progress.looks.items row ≡ is_done cl p (Some row)
    done_same row = both_ways (is_marked_done progress.placed.items progress.looks.items row) (is_done cl p (Some row))
        (λ h. let d = and_parts (is_marked progress.placed.items row) (slice_index progress.looks.items row == 0) h in
        done_from t.setup cl p row (sym (m.rows row) ∙ d.0)
        (sym (m.left row) ∙ eqb-true (slice_index progress.looks.items row) 0 d.1))
        (λ h. let d = done_to t.setup cl p row h in
        and_from (is_marked progress.placed.items row) (slice_index progress.looks.items row == 0) (m.rows row ∙ d.0)
        (eq-eqb (slice_index progress.looks.items row) 0 (m.left row ∙ d.1)))

    -- so the base of a bucket row is there as it is told
    pub row_base_same : (found : Found) (row : ℕ) →
        has_marked_base t.setup.shape words found progress (Row row)
        ≡ has_base t.setup.shape cl p (ByBucketRow row)
    row_base_same found row = go (bucket_row t.setup.shape words row).base
      where
        go : (o : Option ℕ) →
            option_map_or (is_marked_done progress.placed.items progress.looks.items) o true ≡ is_done cl p o
        go None = refl
        go (Some base) = done_same base

    -- a row that is told to be done is so marked
    done_marks : (row : ℕ) → is_marked_done progress.placed.items progress.looks.items row ≡ true →
        IsMarkedDone t.setup cl (is_marked progress.placed.items) (λ r. slice_index progress.looks.items r) row
    done_marks row h =
        let d = and_parts (is_marked progress.placed.items row) (slice_index progress.looks.items row == 0) h in
        record { marked = d.0; none = eqb-true (slice_index progress.looks.items row) 0 d.1 }

    -- and back
    marks_done : (row : ℕ) →
        IsMarkedDone t.setup cl (is_marked progress.placed.items) (λ r. slice_index progress.looks.items r) row →
        is_marked_done progress.placed.items progress.looks.items row ≡ true
    marks_done row d = and_from (is_marked progress.placed.items row) (slice_index progress.looks.items row == 0)
        d.marked (eq-eqb (slice_index progress.looks.items row) 0 d.none)

    module _ (found : Found) (f : Filled words logs begun t found) (few : progress.latest ≤ t.book.dir_top + 1) where
      -- the base of a version, as it is found
      base_list : (d : ℕ) (v : Version) → slice_get found.versions.items d ≡ Some v →
          has_marked_base t.setup.shape words found progress (VersionAt d)
          ≡ ((d == progress.latest)
          && list_all (is_marked_done progress.placed.items progress.looks.items) v.bases.items)
      base_list d v is = ap (λ (o : Option Version). (d == progress.latest) && option_map_or
          (λ x. list_all (is_marked_done progress.placed.items progress.looks.items) x.bases.items) o false) is

      -- the version before it
      before_is : (d : ℕ) → 1 ≤ d → d ≤ t.book.dir_top →
          version_base t.setup cl (ByDirectoryRow (t.book.dir_row d)) ≡ Some (t.book.dir_row (d - 1))
      before_is d one inside =
          let same : d ≡ (d - 1) + 1 = omega (arith, one) in
          subst (λ n. version_base t.setup cl (ByDirectoryRow (t.book.dir_row n)) ≡ Some (t.book.dir_row (d - 1)))
          (sym same)
          (dir_base_is t.setup words t.book t.written ((d - 1) + 1) (omega (arith, one, inside))
          ∙ t.written.dir_bases (d - 1) (omega (arith, one, inside)))

      -- where it is told to be there it is
      pub version_from : (d : ℕ) → 1 ≤ d → d ≤ t.book.dir_top →
          has_marked_base t.setup.shape words found progress (VersionAt d) ≡ true →
          has_base t.setup.shape cl p (ByDirectoryRow (t.book.dir_row d)) ≡ true
      version_from d one inside h =
          let v = found_version found f d inside in
          let parts = and_parts (d == progress.latest)
          (list_all (is_marked_done progress.placed.items progress.looks.items) v.0.bases.items)
          (sym (base_list d v.0 v.1) ∙ h) in
          let latest : d ≡ progress.latest = eqb-true d progress.latest parts.0 in
          base_from t.setup cl (is_marked progress.placed.items) (first_versions t.book progress.latest)
          (λ r. slice_index progress.looks.items r) p m (ByDirectoryRow (t.book.dir_row d)) (record {
            rows = λ row i. done_marks row
                (all_at (is_marked_done progress.placed.items progress.looks.items) v.0.bases.items row parts.1
                (subst (In row) (sym (v.2.bases one)) i));
            version = λ row e.
                let same : t.book.dir_row (d - 1) ≡ row = some_same (sym (before_is d one inside) ∙ e) in
                subst (λ r. first_versions t.book progress.latest r ≡ true) same
                (version_there progress.latest (d - 1) (omega (arith, latest, one)));
          })

      -- and where one that is left has its base it is told so
      pub version_to : (d : ℕ) → 1 ≤ d → d ≤ t.book.dir_top → Alone t.setup cl p →
          In (ByDirectoryRow (t.book.dir_row d)) p.left →
          has_base t.setup.shape cl p (ByDirectoryRow (t.book.dir_row d)) ≡ true →
          (d ≡ progress.latest) × (has_marked_base t.setup.shape words found progress (VersionAt d) ≡ true)
      version_to d one inside alone i h =
          let v = found_version found f d inside in
          let is = version_base_to t.setup cl (is_marked progress.placed.items)
          (first_versions t.book progress.latest) (λ r. slice_index progress.looks.items r) p m
          (t.book.dir_row d) h in
          let before = there_version progress.latest (d - 1) few (omega (arith, inside))
          (is.version (t.book.dir_row (d - 1)) (before_is d one inside)) in
          let not_yet : progress.latest ≤ d = elim (cases_lt d progress.latest) [
            | inr past ↦ past
            | inl less ↦ absurd (version_had t.setup cl p (t.book.dir_row d) alone
                (sym (m.versions (t.book.dir_row d)) ∙ version_there progress.latest d less) i)
          ] in
          let same : d ≡ progress.latest = omega (arith, before, not_yet, one) in (
            same,
            base_list d v.0 v.1 ∙ and_from (d == progress.latest)
                (list_all (is_marked_done progress.placed.items progress.looks.items) v.0.bases.items)
                (eq-eqb d progress.latest same)
                (all_from (is_marked_done progress.placed.items progress.looks.items) v.0.bases.items
                (λ row j. marks_done row (is.rows row (subst (In row) (v.2.bases one) j)))),
          )
