-- When what a piece was made from becomes there: by a turn that brings one of its base rows, or its base directory row,
-- or that places a lookup of one of its base rows. Any other turn leaves it as it was.
use Rattle.std.proofs.Common.{◌≡◌, ◌≢◌, ℕ, true, Option, Some, None, refl, inl, inr, sym, ◌∙◌, subst}
use Rattle.std.specs.Prelude.{option_to_list}
use Rattle.std.specs.Option.{option_map_or}
use Rattle.std.specs.List.{list_all}
use Rattle.std.proofs.lemmas.Bool.{and_parts, and_from}
use Rattle.plain_map.specs.declared.records.Record.{Record}
use Rattle.table_model.specs.Setup.{Setup}
use Rattle.table_model.specs.Reading.{directory_row, is_among}
use Rattle.table_model.specs.Order.{Closing, Piece, ByBucketRow, ByDirectoryRow, ByLookup, Placing, first_rows, is_done, has_base, rows_with, directories_with, lookups_of, pieces_of}
use Rattle.list_laws.proofs.Lists.{In, all_at, all_from, filter_map_in}
use Rattle.placing_laws.proofs.Turns.{after}
use Rattle.placing_laws.proofs.Alone.{among_both}
use Rattle.closed_laws.proofs.Book.{Book, Written}
use Rattle.closed_laws.proofs.Ledger.{Ledger}
use Rattle.history_order.specs.Parts.{base_of_row, bases_of, version_base}
use Rattle.history_order.proofs.Candidates.{IsUnits}
use Rattle.history_order.proofs.Looks.{done_from, done_to, looks_stay}

module _ (setup : Setup) (closing : Closing) where
  -- the turn of y brings nothing that x was made from
  pub record BringsNone (y x : Piece) : Type 0 where
    pub rows : (row : ℕ) → In row (bases_of setup closing x) → In row (rows_with setup.shape closing y) → ⊥
    pub version : (row : ℕ) → version_base setup closing x ≡ Some row → In row (directories_with y) → ⊥
    pub looks : (r : Record) → In r (lookups_of closing) → In r.place (bases_of setup closing x) → y ≢ ByLookup r

module _ (setup : Setup) (closing : Closing) (k : Book) (w : Written setup closing.words k)
    (l : Ledger setup closing k) (unit_of : ℕ → ℕ → Option Piece) (u : IsUnits setup closing unit_of)
    (p : Placing) (at : ℕ) (x y : Piece) (there : In y (pieces_of setup.shape closing))
    (none : BringsNone setup closing y x) where
  -- a base row that is placed with it was placed before
  row_was : (row : ℕ) → In row (bases_of setup closing x) →
      is_among (after setup closing p at y).rows row ≡ true → is_among p.rows row ≡ true
  row_was row i h = elim (among_both setup closing p.rows (rows_with setup.shape closing y) row h) [
    | inl old ↦ old
    | inr new ↦ absurd (none.rows row i new)
  ]

  -- and one that is done with it was done before
  done_was : (o : Option ℕ) → ((row : ℕ) → o ≡ Some row → In row (bases_of setup closing x)) →
      is_done closing (after setup closing p at y) o ≡ true → is_done closing p o ≡ true
  done_was None of h = refl
  done_was (Some row) of h =
      let i = of row refl in
      let d = done_to setup closing (after setup closing p at y) row h in
      done_from setup closing p row (row_was row i d.0)
      (sym (looks_stay setup closing k w l unit_of u p at y row there
      (λ r m e. none.looks r m (subst (λ n. In n (bases_of setup closing x)) (sym e) i))) ∙ d.1)

  -- and so was the directory row
  version_was : (o : Option ℕ) → version_base setup closing x ≡ o →
      option_map_or (is_among (after setup closing p at y).directories) o true ≡ true →
      option_map_or (is_among p.directories) o true ≡ true
  version_was None e h = refl
  version_was (Some row) e h = elim (among_both setup closing p.directories (directories_with y) row h) [
    | inl old ↦ old
    | inr new ↦ absurd (none.version row e new)
  ]

-- the members of what is there, if it is
pub in_option : (o : Option ℕ) (row : ℕ) → o ≡ Some row → In row (option_to_list o)
in_option None row e = cc
in_option (Some n) row e = (let is : n ≡ row = cc in inl (sym is))

module _ (setup : Setup) (closing : Closing) (k : Book) (w : Written setup closing.words k)
    (l : Ledger setup closing k) (unit_of : ℕ → ℕ → Option Piece) (u : IsUnits setup closing unit_of)
    (p : Placing) (at : ℕ) where
  -- so what the piece was made from was there before
  pub base_was : (x y : Piece) → In y (pieces_of setup.shape closing) → BringsNone setup closing y x →
      has_base setup.shape closing (after setup closing p at y) x ≡ true → has_base setup.shape closing p x ≡ true
  base_was (ByBucketRow row) y there none h =
      done_was setup closing k w l unit_of u p at (ByBucketRow row) y there none (base_of_row setup closing row)
      (λ r e. in_option (base_of_row setup closing row) r e) h
  base_was (ByDirectoryRow row) y there none h =
      let firsts = first_rows setup.shape closing.words row in
      let q = after setup closing p at y in
      let parts = and_parts (option_map_or (is_among q.directories)
      (directory_row setup.shape closing.words row).base true)
      (list_all (λ f. is_done closing q (base_of_row setup closing f)) firsts) h in
      and_from (option_map_or (is_among p.directories) (directory_row setup.shape closing.words row).base true)
      (list_all (λ f. is_done closing p (base_of_row setup closing f)) firsts)
      (version_was setup closing k w l unit_of u p at (ByDirectoryRow row) y there none
      (directory_row setup.shape closing.words row).base refl parts.0)
      (all_from (λ f. is_done closing p (base_of_row setup closing f)) firsts (λ f i.
      done_was setup closing k w l unit_of u p at (ByDirectoryRow row) y there none (base_of_row setup closing f)
      (λ r e. filter_map_in (base_of_row setup closing) firsts f r i e)
      (all_at (λ g. is_done closing q (base_of_row setup closing g)) firsts f parts.1 i)))
  base_was (ByLookup r) y there none h =
      row_was setup closing k w l unit_of u p at (ByLookup r) y there none r.place (inl refl) h
