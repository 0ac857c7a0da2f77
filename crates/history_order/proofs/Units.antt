-- The piece of each call: there is one at most, so it can be looked up.
use Rattle.std.proofs.Common.{◌≡◌, Bool, false, cond, List, [], ◌∷◌, Option, Some, None, true≢false, refl, inl, inr, sym, ap, ◌∙◌, subst}
use Rattle.std.specs.Prelude.{find}
use Rattle.std.specs.List.{list_any}
use Rattle.std.proofs.lemmas.Bool.{cases_Bool}
use Rattle.plain_map.specs.History.{Placed, seat_of, number_of}
use Rattle.table_model.specs.Setup.{Setup}
use Rattle.table_model.specs.Order.{Closing, Piece, is_call, calls_in, pieces_of}
use Rattle.list_laws.proofs.Lists.{In, any_at, any_from, find_in}
use Rattle.placing_laws.proofs.Stuck.{is_call_at, call_is_at}
use Rattle.placing_laws.proofs.Alone.{Apart}
use Rattle.closed_laws.proofs.Book.{Book, Written}
use Rattle.closed_laws.proofs.Ledger.{Ledger}
use Rattle.closed_laws.proofs.Pieces.{separate}
use Rattle.history_order.specs.Parts.{unit_of}
use Rattle.history_order.proofs.Candidates.{IsUnits}

-- where none is found none passes
pub find_none : {A : Type 0} → (f : A → Bool) (xs : List A) (x : A) → find f xs ≡ None → In x xs → f x ≡ false
find_none f [] x h i = elim i [ ]
find_none f (y ∷ xs) x h i = elim (cases_Bool (f y)) [
  | inl passes ↦ let bad : Some y ≡ None = sym (ap (λ b. cond b (Some y) (find f xs)) passes) ∙ h in cc
  | inr fails ↦ elim i [
    | inl e ↦ ap f e ∙ fails
    | inr j ↦ find_none f xs x (sym (ap (λ b. cond b (Some y) (find f xs)) fails) ∙ h) j
  ]
]

module _ (setup : Setup) (closing : Closing) where
  -- two pieces with one call are one
  apart_one : (xs : List Piece) (x y : Piece) (c d : Placed) → Apart setup closing xs → In x xs → In y xs →
      In c (calls_in setup.shape closing x) → In d (calls_in setup.shape closing y) → seat_of c ≡ seat_of d →
      number_of c ≡ number_of d → x ≡ y
  apart_one [] x y c d a i j m n s t = elim i [ ]
  apart_one (z ∷ xs) x y c d a (inl e) (inl f) m n s t = e ∙ sym f
  apart_one (z ∷ xs) x y c d a (inl e) (inr j) m n s t =
      absurd ((a.0 y j).calls c d (subst (λ q. In c (calls_in setup.shape closing q)) e m) n s t)
  apart_one (z ∷ xs) x y c d a (inr i) (inl f) m n s t =
      absurd ((a.0 x i).calls d c (subst (λ q. In d (calls_in setup.shape closing q)) f n) m (sym s) (sym t))
  apart_one (z ∷ xs) x y c d a (inr i) (inr j) m n s t = apart_one xs x y c d a.1 i j m n s t

module _ (setup : Setup) (closing : Closing) (k : Book) (w : Written setup closing.words k)
    (l : Ledger setup closing k) where
  -- it is found, and what is found is it
  pub units : IsUnits setup closing (unit_of setup closing)
  units = record {
    there = λ x c i m. found x c i m (unit_of setup closing (seat_of c) (number_of c)) refl;
    back = λ seat n x e.
        let test : Piece → Bool = λ y. list_any (is_call seat n) (calls_in setup.shape closing y) in
        let f = find_in test (pieces_of setup.shape closing) x e in
        let c = any_at (is_call seat n) (calls_in setup.shape closing x) f.1 in
        let is = call_is_at c.0 seat n c.2 in
        (f.0, (c.0, c.1, is.0, is.1));
  }
    where
      found : (x : Piece) (c : Placed) → In x (pieces_of setup.shape closing) →
          In c (calls_in setup.shape closing x) → (o : Option Piece) →
          unit_of setup closing (seat_of c) (number_of c) ≡ o → o ≡ Some x
      found x c i m None e =
          let test : Piece → Bool = λ y. list_any (is_call (seat_of c) (number_of c))
          (calls_in setup.shape closing y) in
          absurd (true≢false (sym (any_from (is_call (seat_of c) (number_of c)) (calls_in setup.shape closing x) c m
          (is_call_at c (seat_of c) (number_of c) refl refl))
          ∙ find_none test (pieces_of setup.shape closing) x e i))
      found x c i m (Some y) e =
          let test : Piece → Bool = λ z. list_any (is_call (seat_of c) (number_of c))
          (calls_in setup.shape closing z) in
          let f = find_in test (pieces_of setup.shape closing) y e in
          let d = any_at (is_call (seat_of c) (number_of c)) (calls_in setup.shape closing y) f.1 in
          let is = call_is_at d.0 (seat_of c) (number_of c) d.2 in
          ap Some (apart_one setup closing (pieces_of setup.shape closing) y x d.0 c
          (separate setup closing k w l).apart f.0 i d.1 m is.0 is.1)
