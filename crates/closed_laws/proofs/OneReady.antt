-- Of the pieces that are left and ready at any moment, one at most has a call of a seat.
use Rattle.std.proofs.Common.{◌≡◌, ℕ, zero, suc, List, [], ◌∷◌, Some, refl, sym, ap, ◌∙◌, subst, eqb-true}
use Rattle.std.specs.Prelude.{slice_get, ◌==◌}
use Rattle.plain_map.specs.History.{Placed, seat_of}
use Rattle.table_model.specs.Setup.{Setup}
use Rattle.table_model.specs.Order.{Closing, Piece, Placing, calls_in, start_of}
use Rattle.table_model.specs.Turns.{placing_after, IsReadyFor}
use Rattle.list_laws.proofs.Lists.{In, any_at, in_at}
use Rattle.placing_laws.proofs.Turns.{Turn, after, all_keep}
use Rattle.placing_laws.proofs.Stuck.{Kept, kept_step, kept_start}
use Rattle.placing_laws.proofs.Alone.{Disjoint, Apart, Alone, alone_step, alone_start, same_seat_same_piece}
use Rattle.closed_laws.proofs.Book.{Book, Written}
use Rattle.closed_laws.proofs.Ledger.{Ledger}
use Rattle.closed_laws.proofs.Pieces.{piece_at, separate}
use Rattle.closed_laws.proofs.Ends.{call_there}

module _ (setup : Setup) (closing : Closing) where
  -- a piece with a call stands at one place only
  pub one_place : (xs : List Piece) (x : Piece) (c : Placed) (at other : ℕ) → Apart setup closing xs →
      In c (calls_in setup.shape closing x) →
      slice_get xs at ≡ Some x → slice_get xs other ≡ Some x → at ≡ other
  one_place [] x c at other a i h g = cc
  one_place (y ∷ xs) x c zero zero a i h g = refl
  one_place (y ∷ xs) x c zero (suc other) a i h g =
      (let is : y ≡ x = cc in absurd (twice y is (a.0 x (in_at xs other x g))))
    where
      twice : (y : Piece) → y ≡ x → Disjoint setup closing y x → ⊥
      twice y is d = d.calls c c (subst (λ z. In c (calls_in setup.shape closing z)) (sym is) i) i refl refl
  one_place (y ∷ xs) x c (suc at) zero a i h g = (let is : y ≡ x = cc in absurd (twice y is (a.0 x (in_at xs at x h))))
    where
      twice : (y : Piece) → y ≡ x → Disjoint setup closing y x → ⊥
      twice y is d = d.calls c c (subst (λ z. In c (calls_in setup.shape closing z)) (sym is) i) i refl refl
  one_place (y ∷ xs) x c (suc at) (suc other) a i h g = ap suc (one_place xs x c at other a.1 i h g)

  -- each piece is left or placed, and what is left is not yet placed
  pub record Stays (p : Placing) : Type 0 where
    pub kept : Kept setup closing p
    pub alone : Alone setup closing p

  -- each turn keeps it
  pub stays_step : (p : Placing) (at : ℕ) (piece : Piece) → Turn setup closing p at piece → Stays p →
      Stays (after setup closing p at piece)
  stays_step p at piece t s = record {
    kept = kept_step setup closing p at piece t s.kept;
    alone = alone_step setup closing p at piece t s.alone;
  }

module _ (setup : Setup) (closing : Closing) (k : Book) (w : Written setup closing.words k)
    (l : Ledger setup closing k) where
  -- it holds before the first turn
  pub stays_start : Stays setup closing (start_of setup.shape closing)
  stays_start = record {
    kept = kept_start setup closing;
    alone = alone_start setup closing (separate setup closing k w l);
  }

  -- so it is after so many turns
  pub stays : (turns : ℕ) → Stays setup closing (placing_after setup.shape closing turns)
  stays turns = all_keep setup closing (Stays setup closing) (stays_step setup closing) turns
      (start_of setup.shape closing) stays_start

  -- there is at most one ready piece with a call of each seat
  pub one_ready : (turns seat at other : ℕ) →
      IsReadyFor setup.shape closing (placing_after setup.shape closing turns) seat at →
      IsReadyFor setup.shape closing (placing_after setup.shape closing turns) seat other → at ≡ other
  one_ready turns seat at other x y =
      let p = placing_after setup.shape closing turns in
      let s = stays turns in
      let c = any_at (λ (z : Placed). seat_of z == seat) (calls_in setup.shape closing x.piece) x.call in
      let d = any_at (λ (z : Placed). seat_of z == seat) (calls_in setup.shape closing y.piece) y.call in
      let i = in_at p.left at x.piece x.left in
      let j = in_at p.left other y.piece y.left in
      let same : x.piece ≡ y.piece = same_seat_same_piece setup closing p x.piece y.piece c.0 d.0 s.alone i j x.ready
      y.ready c.1 d.1
      (eqb-true (seat_of c.0) seat c.2 ∙ sym (eqb-true (seat_of d.0) seat d.2))
      (l.numbered c.0 (call_there setup closing k w l x.piece c.0
      (piece_at setup closing k w l x.piece (s.kept.known x.piece i)) c.1))
      (l.numbered d.0 (call_there setup closing k w l y.piece d.0
      (piece_at setup closing k w l y.piece (s.kept.known y.piece j)) d.1)) in
      one_place setup closing p.left y.piece d.0 at other s.alone.apart d.1
      (subst (λ z. slice_get p.left at ≡ Some z) same x.left) y.left
