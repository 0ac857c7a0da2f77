-- The pieces without calls that are set aside: all that are left and have their base. A turn touches a piece where it
-- brings some of what the piece was made from; who sets aside all that it touches, and keeps the others, forgets none.
use Rattle.std.proofs.Common.{◌≡◌, ◌≢◌, ◌⊎◌, ℕ, Bool, true, false, [], ◌∷◌, ◌++◌, Option, true≢false, refl, inl, inr, sym, ap, ◌∙◌, subst}
use Rattle.std.specs.Option.{option_map_or}
use Rattle.std.specs.List.{list_any}
use Rattle.std.proofs.lemmas.Bool.{cases_Bool}
use Rattle.plain_map.specs.History.{answered}
use Rattle.table_model.specs.Setup.{Setup}
use Rattle.table_model.specs.Reading.{is_among}
use Rattle.table_model.specs.Order.{Closing, Piece, ByBucketRow, ByDirectoryRow, ByLookup, Placing, calls_in, has_base, rows_with, directories_with, is_call}
use Rattle.list_laws.proofs.Lists.{In, in_at, in_without, in_right, any_from, without_is}
use Rattle.placing_laws.proofs.Turns.{Turn, after}
use Rattle.placing_laws.proofs.Stuck.{among_in, is_call_at}
use Rattle.placing_laws.proofs.Alone.{Alone}
use Rattle.closed_laws.proofs.Book.{Book, Written}
use Rattle.closed_laws.proofs.Ledger.{Ledger}
use Rattle.closed_laws.proofs.OneReady.{Stays, stays_step}
use Rattle.history_order.proofs.Candidates.{IsUnits}
use Rattle.history_order.specs.Parts.{bases_of, version_base}
use Rattle.history_order.proofs.Bases.{BringsNone, base_was}

module _ (setup : Setup) (closing : Closing) where
  -- the turn of a lookup touches the pieces that were made from its row
  abbrev pub looks_at : Piece → Piece → Bool
  looks_at (ByBucketRow row) x = false
  looks_at (ByDirectoryRow row) x = false
  looks_at (ByLookup r) x = is_among (bases_of setup closing x) r.place

  -- the turn of y brings one of the rows that x was made from
  abbrev pub brings_row : Piece → Piece → Bool
  brings_row y x = list_any (is_among (rows_with setup.shape closing y)) (bases_of setup closing x)

  -- or its directory row
  abbrev pub brings_version : Piece → Piece → Bool
  brings_version y x = option_map_or (is_among (directories_with y)) (version_base setup closing x) false

  -- it touches x: it brings some of what x was made from, or places a lookup of it
  pub data Touches (y x : Piece) : Type 0 where
    by_row : brings_row y x ≡ true → Touches y x
    by_version : brings_version y x ≡ true → Touches y x
    by_look : looks_at y x ≡ true → Touches y x

  -- where it touches nothing it brings none
  untouched : (y x : Piece) → brings_row y x ≡ false → brings_version y x ≡ false → looks_at y x ≡ false →
      BringsNone setup closing y x
  untouched y x no_row no_version no_look = record {
    rows = λ r i j. true≢false (sym (any_from (is_among (rows_with setup.shape closing y))
        (bases_of setup closing x) r i
        (among_in (rows_with setup.shape closing y) r j)) ∙ no_row);
    version = λ r e j. true≢false (sym (among_in (directories_with y) r j)
        ∙ sym (ap (λ o. option_map_or (is_among (directories_with y)) o false) e) ∙ no_version);
    looks = λ r m i e. true≢false (sym (ap (λ z. looks_at z x) e ∙ among_in (bases_of setup closing x) r.place i)
        ∙ no_look);
  }

  -- a piece is touched, or nothing of it is brought
  pub touched : (y x : Piece) → Touches y x ⊎ BringsNone setup closing y x
  touched y x = elim (cases_Bool (brings_row y x)) [
    | inl e ↦ inl (by_row e)
    | inr no_row ↦ elim (cases_Bool (brings_version y x)) [
      | inl e ↦ inl (by_version e)
      | inr no_version ↦ elim (cases_Bool (looks_at y x)) [
        | inl e ↦ inl (by_look e)
        | inr no_look ↦ inr (untouched y x no_row no_version no_look)
      ]
    ]
  ]

  -- a piece that has had its turn is no longer left
  pub not_left : (p : Placing) (at : ℕ) (y : Piece) → Alone setup closing (after setup closing p at y) →
      In y (after setup closing p at y).left → ⊥
  not_left p at (ByBucketRow row) a i = (a.fresh (ByBucketRow row) i).rows row (inl refl)
      (among_in (p.rows ++ row ∷ []) row (in_right row p.rows (row ∷ []) (inl refl)))
  not_left p at (ByDirectoryRow row) a i = (a.fresh (ByDirectoryRow row) i).directories row (inl refl)
      (among_in (p.directories ++ row ∷ []) row (in_right row p.directories (row ∷ []) (inl refl)))
  not_left p at (ByLookup r) a i = (a.fresh (ByLookup r) i).calls (answered r) r.seat r.number (inl refl) refl refl
      (any_from (is_call r.seat r.number) (p.order ++ answered r ∷ []) (answered r)
      (in_right (answered r) p.order (answered r ∷ []) (inl refl))
      (is_call_at (answered r) r.seat r.number refl refl))

  -- all pieces without calls that are left and have their base are among these
  abbrev pub AllAside : (Piece → Type 0) → Placing → Type 0
  AllAside A p = (x : Piece) → In x p.left → calls_in setup.shape closing x ≡ [] →
      has_base setup.shape closing p x ≡ true → A x

module _ (setup : Setup) (closing : Closing) (k : Book) (w : Written setup closing.words k)
    (l : Ledger setup closing k) (unit_of : ℕ → ℕ → Option Piece) (u : IsUnits setup closing unit_of) where
  -- with the turn of y, those that were aside but for y, and all that it touches, are all
  pub aside_on : (A B : Piece → Type 0) (p : Placing) (at : ℕ) (y : Piece) → Stays setup closing p →
      Turn setup closing p at y → AllAside setup closing A p → ((x : Piece) → x ≢ y → A x → B x) →
      ((x : Piece) → In x (after setup closing p at y).left → calls_in setup.shape closing x ≡ [] →
      Touches setup closing y x → has_base setup.shape closing (after setup closing p at y) x ≡ true → B x) →
      AllAside setup closing B (after setup closing p at y)
  aside_on A B p at y s t all keep new x i free base =
      let then = stays_step setup closing p at y t s in
      let there = s.kept.known y (in_at p.left at y t.stands) in
      elim (touched setup closing y x) [
        | inl h ↦ new x i free h base
        | inr none ↦
            keep x (λ e. not_left setup closing p at y then.alone
            (subst (λ z. In z (after setup closing p at y).left) e i))
            (all x (in_without p.left at x (subst (In x) (without_is p.left at) i)) free
            (base_was setup closing k w l unit_of u p at x y there none base))
      ]
