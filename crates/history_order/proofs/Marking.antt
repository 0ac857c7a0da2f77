-- How the marks move with a turn: the rows and the directory row of the piece are marked, and of a lookup's row one
-- lookup fewer is open.
use Rattle.std.proofs.Common.{◌≡◌, ◌≢◌, ℕ, suc, Bool, false, Option, inl, inr, sym, ap, ◌∙◌, subst, arith}
use Rattle.std.specs.Prelude.{◌||◌, ◌==◌}
use Rattle.std.proofs.lemmas.Bool.{cases_eq}
use Rattle.std.proofs.lemmas.List.Folds.{list_any-append}
use Rattle.plain_map.specs.declared.records.Record.{Record}
use Rattle.table_model.specs.Setup.{Setup}
use Rattle.table_model.specs.Reading.{is_among}
use Rattle.table_model.specs.Order.{Closing, Piece, ByLookup, Placing, rows_with, directories_with, is_placed, lookups_of, pieces_of}
use Rattle.list_laws.proofs.Lists.{In}
use Rattle.placing_laws.proofs.Turns.{after}
use Rattle.closed_laws.proofs.Book.{Book, Written}
use Rattle.closed_laws.proofs.Ledger.{Ledger}
use Rattle.closed_laws.proofs.Pieces.{look_piece}
use Rattle.history_order.proofs.Candidates.{IsUnits}
use Rattle.history_order.specs.Parts.{open_looks, Marks}
use Rattle.history_order.proofs.Looks.{looks_stay, look_closes}

module _ (setup : Setup) (closing : Closing) where
  -- with the turn of y: its rows are marked beside those that were
  pub record AreMarked (y : Piece) (placed there placed_then there_then : ℕ → Bool) : Type 0 where
    pub rows : (row : ℕ) → placed_then row ≡ (placed row || is_among (rows_with setup.shape closing y) row)
    pub versions : (row : ℕ) → there_then row ≡ (there row || is_among (directories_with y) row)

  -- what is placed then was placed or comes with it
  rows_then : (p : Placing) (at : ℕ) (y : Piece) (row : ℕ) →
      is_among (after setup closing p at y).rows row
      ≡ (is_among p.rows row || is_among (rows_with setup.shape closing y) row)
  rows_then p at y row = list_any-append (λ other. other == row) p.rows (rows_with setup.shape closing y)

  -- and so are directory rows
  versions_then : (p : Placing) (at : ℕ) (y : Piece) (row : ℕ) →
      is_among (after setup closing p at y).directories row
      ≡ (is_among p.directories row || is_among (directories_with y) row)
  versions_then p at y row = list_any-append (λ other. other == row) p.directories (directories_with y)

module _ (setup : Setup) (closing : Closing) (k : Book) (w : Written setup closing.words k)
    (l : Ledger setup closing k) (unit_of : ℕ → ℕ → Option Piece) (u : IsUnits setup closing unit_of)
    (placed there placed_then there_then : ℕ → Bool) (looks looks_then : ℕ → ℕ) (p : Placing) (at : ℕ) where
  -- the turn of a piece that is no lookup leaves the open lookups
  pub marks_on : (y : Piece) → Marks setup closing placed there looks p → In y (pieces_of setup.shape closing) →
      AreMarked setup closing y placed there placed_then there_then → ((r : Record) → y ≢ ByLookup r) →
      ((row : ℕ) → looks_then row ≡ looks row) →
      Marks setup closing placed_then there_then looks_then (after setup closing p at y)
  marks_on y m i a other same = record {
    rows = λ row. a.rows row ∙ ap (λ b. b || is_among (rows_with setup.shape closing y) row) (m.rows row)
        ∙ sym (rows_then setup closing p at y row);
    versions = λ row. a.versions row ∙ ap (λ b. b || is_among (directories_with y) row) (m.versions row)
        ∙ sym (versions_then setup closing p at y row);
    left = λ row. same row ∙ m.left row
        ∙ sym (looks_stay setup closing k w l unit_of u p at y row i (λ r j e. other r));
  }

  -- and that of a lookup marks no row, and takes it from those that are open
  pub marks_look : (r : Record) → Marks setup closing placed there looks p → In r (lookups_of closing) →
      is_placed p.order r.seat r.number ≡ false →
      AreMarked setup closing (ByLookup r) placed there placed_then there_then →
      looks r.place ≡ suc (looks_then r.place) → ((row : ℕ) → row ≢ r.place → looks_then row ≡ looks row) →
      Marks setup closing placed_then there_then looks_then (after setup closing p at (ByLookup r))
  marks_look r m i not_yet a fewer same = record {
    rows = λ row. a.rows row ∙ ap (λ b. b || is_among (rows_with setup.shape closing (ByLookup r)) row) (m.rows row)
        ∙ sym (rows_then setup closing p at (ByLookup r) row);
    versions = λ row. a.versions row ∙ ap (λ b. b || is_among (directories_with (ByLookup r)) row) (m.versions row)
        ∙ sym (versions_then setup closing p at (ByLookup r) row);
    left = λ row. elim (cases_eq row r.place) [
      | inl e ↦ subst (λ n. looks_then n ≡ open_looks setup closing (after setup closing p at (ByLookup r)) n) (sym e)
          (one_less (look_closes setup closing k w l unit_of u p at r i not_yet))
      | inr n ↦ same row n ∙ m.left row
          ∙ sym (looks_stay setup closing k w l unit_of u p at (ByLookup r) row
          (look_piece setup closing k w l r i) (λ s j e is. n (one_place s e is)))
    ];
  }
    where
      one_place : {row : ℕ} → (s : Record) → s.place ≡ row → ByLookup r ≡ ByLookup s → row ≡ r.place
      one_place s e is = (let same : s ≡ r = cc in sym e ∙ ap (λ (z : Record). z.place) same)

      one_less : open_looks setup closing p r.place
          ≡ suc (open_looks setup closing (after setup closing p at (ByLookup r)) r.place) →
          looks_then r.place ≡ open_looks setup closing (after setup closing p at (ByLookup r)) r.place
      one_less e = omega (arith, e, fewer, m.left r.place)
