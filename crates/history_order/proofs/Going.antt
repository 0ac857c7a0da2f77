-- How the loop over turns stands, by its tables; each kind of turn keeps it, and where none may be placed the one order
-- is made.
use Rattle.std.proofs.Common.{◌≡◌, ℕ, ◌+◌, ◌≤◌, ◌⊎◌, Bool, true, false, List, [], ◌∷◌, ◌++◌, length, map, Some, true≢false, refl, inl, inr, sym, ap, ◌∙◌, subst, arith, le-leb, leb-true}
use Rattle.std.specs.Prelude.{not, nat_le, if◌then◌else◌, slice_index}
use Rattle.std.proofs.lemmas.Bool.{and_from, cases_Bool}
use Rattle.plain_map.specs.declared.records.Record.{Record}
use Rattle.plain_map.specs.declared.records.Pending.{Pending}
use Rattle.plain_map.specs.declared.records.TheConstants.{MOST_SEATS}
use Rattle.plain_map.specs.declared.full.FullKind.TheVariants.{BucketRows}
use Rattle.plain_map.specs.History.{answered}
use Rattle.word_rows.specs.Shape.{count_of}
use Rattle.table_model.specs.Reading.{is_among}
use Rattle.table_model.specs.Order.{Closing, Piece, ByBucketRow, ByDirectoryRow, ByLookup, Placing, calls_in, rows_with, is_done, has_base, pieces_of, start_of}
use Rattle.list_laws.proofs.Lists.{In, any_at, in_left, in_right, in_both, in_map, map_in}
use Rattle.placing_laws.proofs.Turns.{after}
use Rattle.closed_laws.proofs.Pieces.{piece_at}
use Rattle.closed_laws.proofs.OneReady.{Stays}
use Rattle.table_model.specs.Closing.{closing_with}
use Rattle.history_order.specs.Told.{Told}
use Rattle.history_order.specs.Parts.{unit_of, base_of_row, bases_of}
use Rattle.history_order.specs.Filled.{Filled, Begun}
use Rattle.history_order.specs.Tables.{is_marked, is_marked_done, has_marked_base, is_due}
use Rattle.history_order.specs.declared.tables.Unit.TheVariants.{Row}
use Rattle.history_order.specs.declared.tables.Found.{Found}
use Rattle.history_order.specs.declared.tables.Progress.{Progress}
use Rattle.history_order.proofs.Reaching.{leads_start}
use Rattle.history_order.proofs.Counted.{counted_start}
use Rattle.history_order.proofs.Candidates.{reached_stays}
use Rattle.history_order.proofs.Aside.{Touches, by_row, by_version, by_look, looks_at}
use Rattle.history_order.proofs.Standing.{Stands, set_less, stands_same, row_had}
use Rattle.history_order.proofs.Based.{MarksOf, first_versions, done_same, row_base_same, version_to}
use Rattle.closed_laws.proofs.Lines.{among_is_in}
use Rattle.history_order.proofs.Nexts.{unit_facts}
use Rattle.history_order.proofs.Moved.{option_in}

module _ (words : List ℕ) (logs : List (List Record)) (begun : List Pending) (t : Told words logs begun)
    (found : Found) (f : Filled words logs begun t found) where
  -- what is told of
  abbrev pub the_closing : Closing
  the_closing = closing_with words logs begun

  -- the next version, if there is one
  abbrev pub next_version : ℕ → List Piece
  next_version latest =
      if nat_le latest t.book.dir_top then ByDirectoryRow (t.book.dir_row latest) ∷ [] else []

  -- there is
  pub next_is_there : (latest : ℕ) → latest ≤ t.book.dir_top →
      next_version latest ≡ ByDirectoryRow (t.book.dir_row latest) ∷ []
  next_is_there latest few =
      ap (λ b. if b then ByDirectoryRow (t.book.dir_row latest) ∷ [] else []) (le-leb latest t.book.dir_top few)

  -- and it is one
  pub in_next : (latest : ℕ) (x : Piece) → In x (next_version latest) →
      (latest ≤ t.book.dir_top) × (x ≡ ByDirectoryRow (t.book.dir_row latest))
  in_next latest x i = go (nat_le latest t.book.dir_top) refl i
    where
      go : (b : Bool) → nat_le latest t.book.dir_top ≡ b →
          In x (if b then ByDirectoryRow (t.book.dir_row latest) ∷ [] else []) →
          (latest ≤ t.book.dir_top) × (x ≡ ByDirectoryRow (t.book.dir_row latest))
      go true e (inl is) = (leb-true latest t.book.dir_top e, is)
      go true e (inr j) = elim j [ ]
      go false e j = elim j [ ]

  -- what is set aside: the bucket rows that are kept, and the next version
  abbrev pub aside_of : Progress → List Piece
  aside_of progress = map ByBucketRow progress.aside.items ++ next_version progress.latest

  -- a bucket row that is kept is set aside
  pub row_aside : (progress : Progress) (row : ℕ) → In row progress.aside.items →
      In (ByBucketRow row) (aside_of progress)
  row_aside progress row i = in_left (ByBucketRow row) (map ByBucketRow progress.aside.items)
      (next_version progress.latest) (map_in ByBucketRow progress.aside.items row i)

  -- and these are all
  pub aside_row : (progress : Progress) (row : ℕ) → In (ByBucketRow row) (aside_of progress) →
      In row progress.aside.items
  aside_row progress row i = elim (in_both (ByBucketRow row) (map ByBucketRow progress.aside.items)
      (next_version progress.latest) i) [
        | inl j ↦
            let r = in_map ByBucketRow progress.aside.items (ByBucketRow row) j in
            subst (λ n. In n progress.aside.items) (one (sym r.2)) r.1
        | inr j ↦
            let n = in_next progress.latest (ByBucketRow row) j in
            (let bad : ByBucketRow row ≡ ByDirectoryRow (t.book.dir_row progress.latest) = n.1 in cc)
      ]
    where
      one : {a b : ℕ} → ByBucketRow a ≡ ByBucketRow b → a ≡ b
      one e = cc

  -- how it stands
  pub record Going (progress : Progress) (count : List ℕ) (p : Placing) : Type 0 where
    pub stands : Stands t.setup the_closing (λ seat. slice_index count seat) (aside_of progress) p
    pub marks : MarksOf words logs begun t progress p
    pub one : 1 ≤ progress.latest
    pub few : progress.latest ≤ t.book.dir_top + 1
    pub sound : (row : ℕ) → In row progress.aside.items →
        In (ByBucketRow row) (pieces_of t.setup.shape the_closing)
        × (calls_in t.setup.shape the_closing (ByBucketRow row) ≡ [])
    pub placed : length progress.placed.items ≡ count_of t.setup.shape BucketRows
    pub looks : length progress.looks.items ≡ count_of t.setup.shape BucketRows
    pub seats : length count ≡ MOST_SEATS

  -- what is reached keeps its pieces
  pub stays : (progress : Progress) (count : List ℕ) (p : Placing) → Going progress count p →
      Stays t.setup the_closing p
  stays progress count p g = reached_stays t.setup the_closing t.book t.written t.ledger (unit_of t.setup the_closing)
      (unit_facts words logs begun t found f) p g.stands.reaches

  -- a version that is left and has its base is the next
  pub version_aside : (progress : Progress) (p : Placing) → MarksOf words logs begun t progress p →
      progress.latest ≤ t.book.dir_top + 1 → Stays t.setup the_closing p → (row : ℕ) →
      In (ByDirectoryRow row) p.left → has_base t.setup.shape the_closing p (ByDirectoryRow row) ≡ true →
      In (ByDirectoryRow row) (aside_of progress)
  version_aside progress p m few s row i base =
      let a = piece_at t.setup the_closing t.book t.written t.ledger (ByDirectoryRow row)
      (s.kept.known (ByDirectoryRow row) i) in
      let d : ℕ = a.before + 1 in
      let to = version_to words logs begun t progress p m found f few d (omega arith) (omega (arith, a.inside)) s.alone
      (subst (λ r. In (ByDirectoryRow r) p.left) a.is i)
      (subst (λ r. has_base t.setup.shape the_closing p (ByDirectoryRow r) ≡ true) a.is base) in
      in_right (ByDirectoryRow row) (map ByBucketRow progress.aside.items) (next_version progress.latest)
      (subst (In (ByDirectoryRow row)) (sym (next_is_there progress.latest (omega (arith, to.0, a.inside))))
      (inl (ap ByDirectoryRow (a.is ∙ ap t.book.dir_row to.0))))

  -- no lookup is without calls
  pub look_calls : (r : Record) → calls_in t.setup.shape the_closing (ByLookup r) ≡ [] → ⊥
  look_calls r e = (let bad : answered r ∷ [] ≡ [] = e in cc)

  -- before the first turn
  pub going_start : (progress : Progress) (count : List ℕ) → Begun words logs begun t progress →
      length count ≡ MOST_SEATS → ((seat : ℕ) → slice_index count seat ≡ 0) →
      Going progress count (start_of t.setup.shape the_closing)
  going_start progress count b seats zeros =
      let start = start_of t.setup.shape the_closing in
      let marks : MarksOf words logs begun t progress start =
      subst (λ n. MarksOf words logs begun t (record progress { latest = n }) start) (sym b.latest) b.marks in
      let few : progress.latest ≤ t.book.dir_top + 1 = omega (arith, b.latest) in
      let reaches = leads_start t.setup the_closing start in
      let s = reached_stays t.setup the_closing t.book t.written t.ledger (unit_of t.setup the_closing)
      (unit_facts words logs begun t found f) start reaches in
      record {
        stands = stands_same t.setup the_closing (λ seat. 0) (λ seat. slice_index count seat) (aside_of progress) start
            (λ seat. sym (zeros seat)) (record {
              reaches = reaches;
              counted = counted_start t.setup the_closing;
              all = all_aside marks few s;
            });
        marks = marks;
        one = omega (arith, b.latest);
        few = few;
        sound = b.aside_sound;
        placed = b.placed;
        looks = b.looks;
        seats = seats;
      }
    where
      all_aside : MarksOf words logs begun t progress (start_of t.setup.shape the_closing) →
          progress.latest ≤ t.book.dir_top + 1 → Stays t.setup the_closing (start_of t.setup.shape the_closing) →
          (x : Piece) → In x (start_of t.setup.shape the_closing).left → calls_in t.setup.shape the_closing x ≡ [] →
          has_base t.setup.shape the_closing (start_of t.setup.shape the_closing) x ≡ true → In x (aside_of progress)
      all_aside m few s (ByBucketRow row) i free base = row_aside progress row (b.aside_all row i free)
      all_aside m few s (ByDirectoryRow row) i free base =
          version_aside progress (start_of t.setup.shape the_closing) m few s row i base
      all_aside m few s (ByLookup r) i free base = absurd (look_calls r free)

  -- a row that is popped and is not due need not be kept
  pub going_drop : (old now : Progress) (count : List ℕ) (p : Placing) (row : ℕ) → Going old count p →
      now.placed.items ≡ old.placed.items → now.looks.items ≡ old.looks.items → now.latest ≡ old.latest →
      old.aside.items ≡ now.aside.items ++ row ∷ [] → is_due t.setup.shape words found now row ≡ false →
      Going now count p
  going_drop old now count p row g placed looks latest aside not_due =
      let marks = marks_now in
      record {
        stands = set_less t.setup the_closing (λ seat. slice_index count seat) (aside_of old) (aside_of now) p g.stands
            (keep (stays old count p g));
        marks = marks;
        one = omega (arith, g.one, latest);
        few = omega (arith, g.few, latest);
        sound = λ r i. g.sound r (subst (In r) (sym aside) (in_left r now.aside.items (row ∷ []) i));
        placed = ap length placed ∙ g.placed;
        looks = ap length looks ∙ g.looks;
        seats = g.seats;
      }
    where
      marks_now : MarksOf words logs begun t now p
      marks_now = record {
        rows = λ r. ap (λ xs. is_marked xs r) placed ∙ g.marks.rows r;
        versions = λ r. ap (λ n. first_versions t.book n r) latest ∙ g.marks.versions r;
        left = λ r. ap (λ xs. slice_index xs r) looks ∙ g.marks.left r;
      }

      due : Stays t.setup the_closing p → In (ByBucketRow row) p.left →
          has_base t.setup.shape the_closing p (ByBucketRow row) ≡ true → ⊥
      due s i base = true≢false (sym (and_from (not (is_marked now.placed.items row))
          (has_marked_base t.setup.shape words found now (Row row))
          (elim (cases_Bool (is_marked now.placed.items row)) [
            | inr e ↦ ap not e
            | inl e ↦ absurd (row_had t.setup the_closing p row s.alone (sym (marks_now.rows row) ∙ e) i)
          ])
          (row_base_same words logs begun t now p marks_now found row ∙ base)) ∙ not_due)

      keep_row : Stays t.setup the_closing p → (r : ℕ) → In (ByBucketRow r) p.left →
          has_base t.setup.shape the_closing p (ByBucketRow r) ≡ true → In r old.aside.items →
          In (ByBucketRow r) (aside_of now)
      keep_row s r i base j = elim (in_both r now.aside.items (row ∷ []) (subst (In r) aside j)) [
        | inl k ↦ row_aside now r k
        | inr k ↦ elim k [
          | inl same ↦ absurd (due s (subst (λ n. In (ByBucketRow n) p.left) same i)
              (subst (λ n. has_base t.setup.shape the_closing p (ByBucketRow n) ≡ true) same base))
          | inr none ↦ elim none [ ]
        ]
      ]

      keep : Stays t.setup the_closing p → (x : Piece) → In x p.left → calls_in t.setup.shape the_closing x ≡ [] →
          has_base t.setup.shape the_closing p x ≡ true → In x (aside_of old) → In x (aside_of now)
      keep s (ByBucketRow r) i free base j = keep_row s r i base (aside_row old r j)
      keep s (ByDirectoryRow r) i free base j =
          version_aside now p marks_now (omega (arith, g.few, latest)) s r i base
      keep s (ByLookup r) i free base j = absurd (look_calls r free)

  -- what a turn touches of a base row: it brings it, or places a lookup of it
  abbrev pub TouchesRow : Piece → ℕ → Type 0
  TouchesRow y base = In base (rows_with t.setup.shape the_closing y)
      ⊎ ((r : Record) × (y ≡ ByLookup r) × (r.place ≡ base))

  -- a bucket row is touched at its base
  touched_base : (y : Piece) (row : ℕ) → Touches t.setup the_closing y (ByBucketRow row) →
      (base : ℕ) × (base_of_row t.setup the_closing row ≡ Some base) × TouchesRow y base
  touched_base y row (by_row h) =
      let b = any_at (is_among (rows_with t.setup.shape the_closing y))
      (bases_of t.setup the_closing (ByBucketRow row)) h in (
        b.0,
        option_in (base_of_row t.setup the_closing row) b.0 b.1,
        inl (among_is_in (rows_with t.setup.shape the_closing y) b.0 b.2),
      )
  touched_base y row (by_version h) = absurd (true≢false (sym h))
  touched_base y row (by_look h) = looked y h
    where
      looked : (z : Piece) → looks_at t.setup the_closing z (ByBucketRow row) ≡ true →
          (base : ℕ) × (base_of_row t.setup the_closing row ≡ Some base) × TouchesRow z base
      looked (ByBucketRow r) e = absurd (true≢false (sym e))
      looked (ByDirectoryRow r) e = absurd (true≢false (sym e))
      looked (ByLookup r) e = (
        r.place,
        option_in (base_of_row t.setup the_closing row) r.place
            (among_is_in (bases_of t.setup the_closing (ByBucketRow row)) r.place e),
        inr (r, refl, refl),
      )

  -- all that a turn touches is set aside
  pub new_aside : (new : Progress) (p : Placing) (y : Piece) (at : ℕ) →
      MarksOf words logs begun t new (after t.setup the_closing p at y) → new.latest ≤ t.book.dir_top + 1 →
      Stays t.setup the_closing (after t.setup the_closing p at y) →
      ((row base : ℕ) → base_of_row t.setup the_closing row ≡ Some base → TouchesRow y base →
      In (ByBucketRow row) (pieces_of t.setup.shape the_closing) →
      calls_in t.setup.shape the_closing (ByBucketRow row) ≡ [] →
      is_marked_done new.placed.items new.looks.items base ≡ true → In row new.aside.items) → (x : Piece) →
      In x (after t.setup the_closing p at y).left → calls_in t.setup.shape the_closing x ≡ [] →
      Touches t.setup the_closing y x →
      has_base t.setup.shape the_closing (after t.setup the_closing p at y) x ≡ true → In x (aside_of new)
  new_aside new p y at m few s bring (ByBucketRow row) i free touch base =
      let b = touched_base y row touch in
      row_aside new row (bring row b.0 b.1 b.2 (s.kept.known (ByBucketRow row) i) free
      (done_same words logs begun t new (after t.setup the_closing p at y) m b.0
      ∙ sym (ap (is_done the_closing (after t.setup the_closing p at y)) b.1) ∙ base))
  new_aside new p y at m few s bring (ByDirectoryRow row) i free touch base =
      version_aside new (after t.setup the_closing p at y) m few s row i base
  new_aside new p y at m few s bring (ByLookup r) i free touch base = absurd (look_calls r free)
