-- What is marked of a placing: the rows and the directory rows that are placed, and how many lookups of each row are
-- open. By the marks alone it is told whether what a piece was made from is there.
use Rattle.std.proofs.Common.{◌≡◌, ℕ, Bool, true, Option, Some, None, refl, inl, sym, ◌∙◌, subst}
use Rattle.std.specs.Option.{option_map_or}
use Rattle.std.specs.List.{list_all}
use Rattle.std.proofs.lemmas.Bool.{and_parts, and_from}
use Rattle.table_model.specs.Setup.{Setup}
use Rattle.table_model.specs.Reading.{directory_row, is_among}
use Rattle.table_model.specs.Order.{Closing, Piece, ByBucketRow, ByDirectoryRow, ByLookup, Placing, first_rows, is_done, has_base}
use Rattle.list_laws.proofs.Lists.{In, all_at, all_from, filter_map_in, in_filter_map}
use Rattle.history_order.specs.Parts.{base_of_row, bases_of, version_base, open_looks, Marks}
use Rattle.history_order.proofs.Looks.{done_from, done_to}
use Rattle.history_order.proofs.Bases.{in_option}

module _ (setup : Setup) (closing : Closing) where
  -- by them a row is done
  pub record IsMarkedDone (placed : ℕ → Bool) (looks : ℕ → ℕ) (row : ℕ) : Type 0 where
    pub marked : placed row ≡ true
    pub none : looks row ≡ 0

  module _ (placed there : ℕ → Bool) (looks : ℕ → ℕ) (p : Placing) (m : Marks setup closing placed there looks p) where
    -- so it is
    done_by : (o : Option ℕ) → ((row : ℕ) → o ≡ Some row → IsMarkedDone placed looks row) →
        is_done closing p o ≡ true
    done_by None h = refl
    done_by (Some row) h = let d = h row refl in
        done_from setup closing p row (sym (m.rows row) ∙ d.marked) (sym (m.left row) ∙ d.none)

    -- and one that is done is marked
    by_done : (o : Option ℕ) (row : ℕ) → is_done closing p o ≡ true → o ≡ Some row → IsMarkedDone placed looks row
    by_done None row h e = cc
    by_done (Some n) row h e = (let is : n ≡ row = cc in here is)
      where
        d : (is_among p.rows n ≡ true) × (open_looks setup closing p n ≡ 0)
        d = done_to setup closing p n h

        here : n ≡ row → IsMarkedDone placed looks row
        here is = subst (IsMarkedDone placed looks) is
            (record { marked = m.rows n ∙ d.0; none = m.left n ∙ d.1 })

    -- a directory row that is marked is there
    version_by : (o : Option ℕ) → ((row : ℕ) → o ≡ Some row → there row ≡ true) →
        option_map_or (is_among p.directories) o true ≡ true
    version_by None h = refl
    version_by (Some row) h = sym (m.versions row) ∙ h row refl

    -- and one that is there is marked
    by_version : (o : Option ℕ) (row : ℕ) → option_map_or (is_among p.directories) o true ≡ true → o ≡ Some row →
        there row ≡ true
    by_version None row h e = cc
    by_version (Some n) row h e = (let is : n ≡ row = cc in m.versions row
        ∙ subst (λ z. is_among p.directories z ≡ true) is h)

    -- all that the piece was made from is marked
    pub record IsMarked (x : Piece) : Type 0 where
      pub rows : (row : ℕ) → In row (bases_of setup closing x) → IsMarkedDone placed looks row
      pub version : (row : ℕ) → version_base setup closing x ≡ Some row → there row ≡ true

    -- then it is there
    pub base_from : (x : Piece) → IsMarked x → has_base setup.shape closing p x ≡ true
    base_from (ByBucketRow row) h = done_by (base_of_row setup closing row)
        (λ r e. h.rows r (in_option (base_of_row setup closing row) r e))
    base_from (ByDirectoryRow row) h =
        let firsts = first_rows setup.shape closing.words row in
        and_from (option_map_or (is_among p.directories) (directory_row setup.shape closing.words row).base true)
        (list_all (λ f. is_done closing p (base_of_row setup closing f)) firsts)
        (version_by (directory_row setup.shape closing.words row).base h.version)
        (all_from (λ f. is_done closing p (base_of_row setup closing f)) firsts
        (λ f i. done_by (base_of_row setup closing f)
        (λ r e. h.rows r (filter_map_in (base_of_row setup closing) firsts f r i e))))
    base_from (ByLookup r) h = sym (m.rows r.place) ∙ (h.rows r.place (inl refl)).marked

    -- of a directory row
    pub version_base_to : (row : ℕ) → has_base setup.shape closing p (ByDirectoryRow row) ≡ true →
        IsMarked (ByDirectoryRow row)
    version_base_to row h =
        let firsts = first_rows setup.shape closing.words row in
        let parts = and_parts (option_map_or (is_among p.directories)
        (directory_row setup.shape closing.words row).base true)
        (list_all (λ f. is_done closing p (base_of_row setup closing f)) firsts) h in
        record {
          rows = λ r i.
              let f = in_filter_map (base_of_row setup closing) firsts r i in
              by_done (base_of_row setup closing f.0) r
              (all_at (λ g. is_done closing p (base_of_row setup closing g)) firsts f.0 parts.1 f.1) f.2;
          version = λ r e. by_version (directory_row setup.shape closing.words row).base r parts.0 e;
        }
