-- The turns of a bucket row and of a version without calls.
use Rattle.std.proofs.Common.{◌≡◌, ◌≢◌, ℕ, ◌+◌, ◌-◌, ◌<◌, ◌≤◌, Bool, true, false, List, [], ◌∷◌, ◌++◌, length, map, Some, true≢false, refl, inl, inr, sym, ap, ◌∙◌, subst, arith, append-nil}
use Rattle.std.specs.Prelude.{◌==◌, not, if◌then◌else◌, slice_get, slice_index, flat_map}
use Rattle.std.specs.Option.{option_map_or}
use Rattle.std.specs.List.{list_all}
use Rattle.std.proofs.lemmas.Bool.{and_parts}
use Rattle.std.proofs.lemmas.List.{length-set}
use Rattle.std.proofs.lemmas.Option.{slice_get_within}
use Rattle.plain_map.specs.declared.records.Record.{Record}
use Rattle.plain_map.specs.declared.records.Pending.{Pending}
use Rattle.plain_map.specs.declared.full.FullKind.TheVariants.{BucketRows}
use Rattle.word_rows.specs.Shape.{count_of}
use Rattle.table_model.specs.Order.{Closing, Piece, ByBucketRow, ByDirectoryRow, ByLookup, Placing, calls_in, pieces_of}
use Rattle.list_laws.proofs.Lists.{In, in_left, in_right, in_both, in_map, flat_map_in, in_flat_map}
use Rattle.placing_laws.proofs.Turns.{Turn, after}
use Rattle.placing_laws.proofs.Stuck.{Has}
use Rattle.closed_laws.proofs.Pieces.{dir_piece}
use Rattle.closed_laws.proofs.OneReady.{Stays, stays_step}
use Rattle.table_model.specs.Closing.{closing_with}
use Rattle.history_order.specs.Told.{Told}
use Rattle.history_order.specs.Parts.{unit_of, base_of_row}
use Rattle.history_order.specs.Filled.{Filled}
use Rattle.history_order.specs.Tables.{is_marked, is_marked_done, has_marked_base, is_due, is_version_due, is_free, free_next, brought, firsts_of, RowIsPlaced, VersionIsPlaced}
use Rattle.history_order.specs.declared.tables.Unit.TheVariants.{Row, Version as VersionAt}
use Rattle.history_order.specs.declared.tables.Version.{Version}
use Rattle.history_order.specs.declared.tables.Found.{Found}
use Rattle.history_order.specs.declared.tables.Progress.{Progress}
use Rattle.history_order.proofs.Standing.{Stands, free_on, free_ready}
use Rattle.history_order.proofs.Based.{MarksOf, first_versions, row_base_same, version_from, there_version, in_place}
use Rattle.history_order.proofs.Nexts.{unit_facts, some_passes}
use Rattle.history_order.proofs.Moved.{row_inside, firsts_inside, firsts_found, free_calls, next_there, brought_is, row_marks, version_marks, marked_long}
use Rattle.std.proofs.lemmas.Bool.{not-true}
use Rattle.history_order.proofs.Going.{Going, aside_of, next_version, in_next, row_aside, stays, new_aside, TouchesRow}

module _ (words : List ℕ) (logs : List (List Record)) (begun : List Pending) (t : Told words logs begun)
    (found : Found) (f : Filled words logs begun t found) where
  -- what is told of
  abbrev pub closing_of_turns : Closing
  closing_of_turns = closing_with words logs begun

  -- tables that are the same mark the same
  pub marks_same : (old now : Progress) (p : Placing) → MarksOf words logs begun t old p →
      now.placed.items ≡ old.placed.items → now.looks.items ≡ old.looks.items → now.latest ≡ old.latest →
      MarksOf words logs begun t now p
  marks_same old now p m placed looks latest = record {
    rows = λ r. ap (λ xs. is_marked xs r) placed ∙ m.rows r;
    versions = λ r. ap (λ n. first_versions t.book n r) latest ∙ m.versions r;
    left = λ r. ap (λ xs. slice_index xs r) looks ∙ m.left r;
  }

  -- so tables may be named anew
  pub going_same : (old now : Progress) (count : List ℕ) (p : Placing) →
      Going words logs begun t found f old count p → now.placed.items ≡ old.placed.items →
      now.looks.items ≡ old.looks.items → now.latest ≡ old.latest → now.aside.items ≡ old.aside.items →
      Going words logs begun t found f now count p
  going_same old now count p g placed looks latest aside = record {
    stands = subst (λ xs. Stands t.setup closing_of_turns (λ seat. slice_index count seat) xs p)
        (ap (λ xs. map ByBucketRow xs ++ next_version words logs begun t found f old.latest) (sym aside)
        ∙ ap (λ n. map ByBucketRow now.aside.items ++ next_version words logs begun t found f n) (sym latest)) g.stands;
    marks = marks_same old now p g.marks placed looks latest;
    one = omega (arith, g.one, latest);
    few = omega (arith, g.few, latest);
    sound = λ row i. g.sound row (subst (In row) aside i);
    placed = ap length placed ∙ g.placed;
    looks = ap length looks ∙ g.looks;
    seats = g.seats;
  }

  -- what comes of a row that is done is brought
  pub bring_in : (looks : List ℕ) (base row : ℕ) → (slice_index looks base == 0) ≡ true →
      In row (free_next found base) → In row (brought found looks base)
  bring_in looks base row e i = subst (λ b. In row (if b then free_next found base else [])) (sym e) i

  -- its lookups are placed
  pub done_looks : (placed : List Bool) (looks : List ℕ) (base : ℕ) → is_marked_done placed looks base ≡ true →
      (slice_index looks base == 0) ≡ true
  done_looks placed looks base h = (and_parts (is_marked placed base) (slice_index looks base == 0) h).1

  -- a piece that is not placed is left
  pub is_left : (p : Placing) (x : Piece) → Stays t.setup closing_of_turns p →
      In x (pieces_of t.setup.shape closing_of_turns) → (Has t.setup closing_of_turns p x → ⊥) → In x p.left
  is_left p x s known not_yet = elim (s.kept.all x known) [
    | inl there ↦ there
    | inr has ↦ absurd (not_yet has)
  ]

  -- a turn of a piece that is left
  pub turn_of : (p : Placing) (x : Piece) → In x p.left →
      (at : ℕ) × (slice_get p.left at ≡ Some x)
  turn_of p x i = in_place p.left x i

  -- what a turn leads to
  pub record Goes (new : Progress) (count : List ℕ) (p : Placing) : Type 0 where
    pub reached : Placing
    pub going : Going words logs begun t found f new count reached
    pub order : reached.order ≡ p.order

  -- the turn of a bucket row without calls that was set aside and is due
  pub going_row : (old now new : Progress) (count : List ℕ) (p : Placing) (row : ℕ) →
      Going words logs begun t found f old count p →
      now.placed.items ≡ old.placed.items → now.looks.items ≡ old.looks.items → now.latest ≡ old.latest →
      old.aside.items ≡ now.aside.items ++ row ∷ [] → is_due t.setup.shape words found now row ≡ true →
      RowIsPlaced found row now new → Goes new count p
  going_row old now new count p row g placed looks latest aside due c = record {
    reached = q;
    going = record {
      stands = free_on t.setup closing_of_turns t.book t.written t.ledger (unit_of t.setup closing_of_turns)
          (unit_facts words logs begun t found f) (λ seat. slice_index count seat) p
          (aside_of words logs begun t found f old) (aside_of words logs begun t found f new) at y g.stands turn
          known.1 (record { kept = kept; new = new_aside words logs begun t found f new p y at marks few still bring });
      marks = marks;
      one = omega (arith, g.one, latest, c.latest);
      few = few;
      sound = sound;
      placed = ap length c.placed ∙ length-set now.placed.items row true ∙ ap length placed ∙ g.placed;
      looks = ap length c.looks ∙ ap length looks ∙ g.looks;
      seats = g.seats;
    };
    order = ap (λ calls. p.order ++ calls) known.1 ∙ append-nil p.order;
  }
    where
      y : Piece
      y = ByBucketRow row

      s : Stays t.setup closing_of_turns p
      s = stays words logs begun t found f old count p g

      now_marks : MarksOf words logs begun t now p
      now_marks = marks_same old now p g.marks placed looks latest

      known : In y (pieces_of t.setup.shape closing_of_turns) × (calls_in t.setup.shape closing_of_turns y ≡ [])
      known = g.sound row (subst (In row) (sym aside) (in_right row now.aside.items (row ∷ []) (inl refl)))

      parts : (not (is_marked now.placed.items row) ≡ true)
          × (has_marked_base t.setup.shape words found now (Row row) ≡ true)
      parts = and_parts (not (is_marked now.placed.items row)) (has_marked_base t.setup.shape words found now (Row row))
          due

      left : In y p.left
      left = is_left p y s known.0 (λ has. true≢false (sym (now_marks.rows row ∙ has.rows row (inl refl))
          ∙ not-true (is_marked now.placed.items row) parts.0))

      at : ℕ
      at = (turn_of p y left).0

      turn : Turn t.setup closing_of_turns p at y
      turn = record {
        stands = (turn_of p y left).1;
        ready = free_ready t.setup closing_of_turns p y known.1
            (sym (row_base_same words logs begun t now p now_marks found row) ∙ parts.1);
      }

      q : Placing
      q = after t.setup closing_of_turns p at y

      marks : MarksOf words logs begun t new q
      marks = row_marks words logs begun t found f p at now new now_marks row c
          (omega (arith, row_inside words logs begun t found f row known.0, g.placed, ap length placed)) known.0

      few : new.latest ≤ t.book.dir_top + 1
      few = omega (arith, g.few, latest, c.latest)

      still : Stays t.setup closing_of_turns q
      still = stays_step t.setup closing_of_turns p at y turn s

      kept : (x : Piece) → x ≢ y → In x (aside_of words logs begun t found f old) →
          In x (aside_of words logs begun t found f new)
      kept x other i = elim (in_both x (map ByBucketRow old.aside.items)
          (next_version words logs begun t found f old.latest) i) [
            | inl j ↦
                let r = in_map ByBucketRow old.aside.items x j in
                elim (in_both r.0 now.aside.items (row ∷ []) (subst (In r.0) aside r.1)) [
                  | inl k ↦ subst (λ z. In z (aside_of words logs begun t found f new)) (sym r.2)
                      (row_aside words logs begun t found f new r.0 (subst (In r.0) (sym c.aside)
                      (in_left r.0 now.aside.items (brought found now.looks.items row) k)))
                  | inr k ↦ elim k [
                    | inl same ↦ absurd (other (r.2 ∙ ap ByBucketRow same))
                    | inr none ↦ elim none [ ]
                  ]
                ]
            | inr j ↦ in_right x (map ByBucketRow new.aside.items) (next_version words logs begun t found f new.latest)
                (subst (λ n. In x (next_version words logs begun t found f n)) (sym (c.latest ∙ latest)) j)
          ]

      bring : (r base : ℕ) → base_of_row t.setup closing_of_turns r ≡ Some base →
          TouchesRow words logs begun t found f y base → In (ByBucketRow r) (pieces_of t.setup.shape closing_of_turns) →
          calls_in t.setup.shape closing_of_turns (ByBucketRow r) ≡ [] →
          is_marked_done new.placed.items new.looks.items base ≡ true → In r new.aside.items
      bring r base of (inl i) there free done =
          let same : base ≡ row = one_of i in
          subst (In r) (sym c.aside) (in_right r now.aside.items (brought found now.looks.items row)
          (subst (λ n. In r (brought found now.looks.items n)) same
          (bring_in now.looks.items base r
          (subst (λ xs. (slice_index xs base == 0) ≡ true) c.looks
          (done_looks new.placed.items new.looks.items base done))
          (next_there words logs begun t found f r base there free of))))
        where
          one_of : In base (row ∷ []) → base ≡ row
          one_of (inl e) = e
          one_of (inr j) = elim j [ ]
      bring r base of (inr look) there free done =
          (let bad : ByBucketRow row ≡ ByLookup look.0 = look.1 in cc)

      sound : (r : ℕ) → In r new.aside.items → In (ByBucketRow r) (pieces_of t.setup.shape closing_of_turns)
          × (calls_in t.setup.shape closing_of_turns (ByBucketRow r) ≡ [])
      sound r i = elim (in_both r now.aside.items (brought found now.looks.items row) (subst (In r) c.aside i)) [
        | inl j ↦ g.sound r (subst (In r) (sym aside) (in_left r now.aside.items (row ∷ []) j))
        | inr j ↦ brought_is words logs begun t found f now.looks.items r row j
      ]

  -- where the next version is told to have its base, there is one
  pub version_is : (progress : Progress) →
      has_marked_base t.setup.shape words found progress (VersionAt progress.latest) ≡ true →
      progress.latest ≤ t.book.dir_top
  version_is progress h =
      let parts = and_parts (progress.latest == progress.latest) (option_map_or (λ (v : Version).
      list_all (is_marked_done progress.placed.items progress.looks.items) v.bases.items)
      (slice_get found.versions.items progress.latest) false) h in
      let v = some_passes (λ (x : Version). list_all (is_marked_done progress.placed.items progress.looks.items)
      x.bases.items) (slice_get found.versions.items progress.latest) parts.1 in
      omega (arith, slice_get_within found.versions.items progress.latest v.0 v.1, f.many)

  -- the next version, as a piece
  pub version_known : (latest : ℕ) → 1 ≤ latest → latest ≤ t.book.dir_top →
      In (ByDirectoryRow (t.book.dir_row latest)) (pieces_of t.setup.shape closing_of_turns)
  version_known latest one few =
      let same : latest ≡ (latest - 1) + 1 = omega (arith, one) in
      subst (λ n. In (ByDirectoryRow (t.book.dir_row n)) (pieces_of t.setup.shape closing_of_turns)) (sym same)
      (dir_piece t.setup closing_of_turns t.book t.written t.ledger (latest - 1) (omega (arith, one, few)))

  -- its first rows have places
  pub version_firsts : (old : Progress) → 1 ≤ old.latest → old.latest ≤ t.book.dir_top →
      length old.placed.items ≡ count_of t.setup.shape BucketRows → (row : ℕ) →
      In row (firsts_of found old.latest) → row < length old.placed.items
  version_firsts old one few long row i =
      omega (
        arith,
        long,
        firsts_inside words logs begun t found f (t.book.dir_row old.latest) row
            (version_known old.latest one few) (subst (In row) (firsts_found words logs begun t found f old.latest one
            few) i),
      )

  -- what comes of its first rows is set aside
  pub version_bring : (old new : Progress) → VersionIsPlaced found old new → 1 ≤ old.latest →
      old.latest ≤ t.book.dir_top → (r base : ℕ) → base_of_row t.setup closing_of_turns r ≡ Some base →
      TouchesRow words logs begun t found f (ByDirectoryRow (t.book.dir_row old.latest)) base →
      In (ByBucketRow r) (pieces_of t.setup.shape closing_of_turns) →
      calls_in t.setup.shape closing_of_turns (ByBucketRow r) ≡ [] →
      is_marked_done new.placed.items new.looks.items base ≡ true → In r new.aside.items
  version_bring old new c one few r base of (inl i) there free done =
      subst (In r) (sym c.aside)
      (in_right r old.aside.items (flat_map (brought found old.looks.items) (firsts_of found old.latest))
      (flat_map_in (brought found old.looks.items) (firsts_of found old.latest) base r
      (subst (In base) (sym (firsts_found words logs begun t found f old.latest one few)) i)
      (bring_in old.looks.items base r
      (subst (λ xs. (slice_index xs base == 0) ≡ true) c.looks
      (done_looks new.placed.items new.looks.items base done))
      (next_there words logs begun t found f r base there free of))))
  version_bring old new c one few r base of (inr look) there free done =
      (let bad : ByDirectoryRow (t.book.dir_row old.latest) ≡ ByLookup look.0 = look.1 in cc)

  -- and is without calls
  pub version_sound : (old new : Progress) → VersionIsPlaced found old new →
      ((row : ℕ) → In row old.aside.items → In (ByBucketRow row) (pieces_of t.setup.shape closing_of_turns)
      × (calls_in t.setup.shape closing_of_turns (ByBucketRow row) ≡ [])) → (row : ℕ) → In row new.aside.items →
      In (ByBucketRow row) (pieces_of t.setup.shape closing_of_turns)
      × (calls_in t.setup.shape closing_of_turns (ByBucketRow row) ≡ [])
  version_sound old new c was row i = elim (in_both row old.aside.items
      (flat_map (brought found old.looks.items) (firsts_of found old.latest)) (subst (In row) c.aside i)) [
        | inl j ↦ was row j
        | inr j ↦
            let b = in_flat_map (brought found old.looks.items) (firsts_of found old.latest) row j in
            brought_is words logs begun t found f old.looks.items row b.0 b.2
      ]

  -- the turn of the next version, where it has no calls
  pub going_version : (old new : Progress) (count : List ℕ) (p : Placing) →
      Going words logs begun t found f old count p → is_version_due t.setup.shape words found old ≡ true →
      VersionIsPlaced found old new → Goes new count p
  going_version old new count p g due c = record {
    reached = q;
    going = record {
      stands = free_on t.setup closing_of_turns t.book t.written t.ledger (unit_of t.setup closing_of_turns)
          (unit_facts words logs begun t found f) (λ seat. slice_index count seat) p
          (aside_of words logs begun t found f old) (aside_of words logs begun t found f new) at y g.stands turn
          free (record {
            kept = kept;
            new = new_aside words logs begun t found f new p y at marks few still
                (version_bring old new c g.one inside);
          });
      marks = marks;
      one = omega (arith, c.latest);
      few = few;
      sound = version_sound old new c g.sound;
      placed = ap length c.placed ∙ marked_long old.placed.items (firsts_of found old.latest) ∙ g.placed;
      looks = ap length c.looks ∙ g.looks;
      seats = g.seats;
    };
    order = ap (λ calls. p.order ++ calls) free ∙ append-nil p.order;
  }
    where
      y : Piece
      y = ByDirectoryRow (t.book.dir_row old.latest)

      s : Stays t.setup closing_of_turns p
      s = stays words logs begun t found f old count p g

      parts : (is_free found (VersionAt old.latest) ≡ true)
          × (has_marked_base t.setup.shape words found old (VersionAt old.latest) ≡ true)
      parts = and_parts (is_free found (VersionAt old.latest))
          (has_marked_base t.setup.shape words found old (VersionAt old.latest)) due

      inside : old.latest ≤ t.book.dir_top
      inside = version_is old parts.1

      known : In y (pieces_of t.setup.shape closing_of_turns)
      known = version_known old.latest g.one inside

      free : calls_in t.setup.shape closing_of_turns y ≡ []
      free = free_calls words logs begun t found f (VersionAt old.latest) y known (g.one, inside, refl) parts.0

      left : In y p.left
      left = is_left p y s known (λ has.
          let less = there_version words logs begun t old.latest old.latest g.few inside
          (g.marks.versions (t.book.dir_row old.latest) ∙ has.directories (t.book.dir_row old.latest) (inl refl)) in
          omega (arith, less))

      at : ℕ
      at = (turn_of p y left).0

      turn : Turn t.setup closing_of_turns p at y
      turn = record {
        stands = (turn_of p y left).1;
        ready = free_ready t.setup closing_of_turns p y free
            (version_from words logs begun t old p g.marks found f g.few old.latest g.one inside parts.1);
      }

      q : Placing
      q = after t.setup closing_of_turns p at y

      marks : MarksOf words logs begun t new q
      marks = version_marks words logs begun t found f p at old new g.marks c g.one inside
          (version_firsts old g.one inside g.placed) known

      few : new.latest ≤ t.book.dir_top + 1
      few = omega (arith, inside, c.latest)

      still : Stays t.setup closing_of_turns q
      still = stays_step t.setup closing_of_turns p at y turn s

      kept : (x : Piece) → x ≢ y → In x (aside_of words logs begun t found f old) →
          In x (aside_of words logs begun t found f new)
      kept x other i = elim (in_both x (map ByBucketRow old.aside.items)
          (next_version words logs begun t found f old.latest) i) [
            | inl j ↦
                let r = in_map ByBucketRow old.aside.items x j in
                subst (λ z. In z (aside_of words logs begun t found f new)) (sym r.2)
                (row_aside words logs begun t found f new r.0 (subst (In r.0) (sym c.aside)
                (in_left r.0 old.aside.items (flat_map (brought found old.looks.items) (firsts_of found old.latest))
                r.1)))
            | inr j ↦ absurd (other (in_next words logs begun t found f old.latest x j).1)
          ]
