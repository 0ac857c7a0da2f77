-- What is left is not yet placed, where no row and no call comes with two pieces; and two ready pieces with calls of
-- one seat are one.
use Rattle.std.proofs.Common.{◌≡◌, ℕ, zero, suc, ◌<◌, ◌≤◌, ◌⊎◌, true, List, [], ◌∷◌, ◌++◌, Some, true≢false, refl, inl, inr, sym, ◌∙◌, subst, arith, eqb-true}
use Rattle.std.specs.Prelude.{slice_get, ◌-◌, ◌==◌, flat_map}
use Rattle.std.specs.List.{list_all, range_with_len}
use Rattle.std.proofs.lemmas.Bool.{and_parts, cases_order, or_cases as or_split, or_left as or_one, or_right as or_two}
use Rattle.plain_map.specs.History.{Placed, seat_of, number_of, seen_of}
use Rattle.table_model.specs.Setup.{Setup, seats_of}
use Rattle.table_model.specs.Reading.{is_among}
use Rattle.table_model.specs.Order.{Closing, Piece, Placing, is_call, calls_in, is_placed, are_placed, is_next, has_base, is_ready, rows_with, directories_with, pieces_of, start_of}
use Rattle.list_laws.proofs.Lists.{In, all_at, any_at, in_without, without, without_is, range_in, Once, in_flat_map, once_both}
use Rattle.placing_laws.proofs.Turns.{Turn, after}
use Rattle.placing_laws.proofs.Stuck.{call_is_at}

module _ (setup : Setup) (closing : Closing) where
  -- no row and no call comes with both
  pub record Disjoint (x y : Piece) : Type 0 where
    pub rows : (row : ℕ) → In row (rows_with setup.shape closing x) → In row (rows_with setup.shape closing y) → ⊥
    pub directories : (row : ℕ) → In row (directories_with x) → In row (directories_with y) → ⊥
    pub calls : (c d : Placed) → In c (calls_in setup.shape closing x) → In d (calls_in setup.shape closing y) →
        seat_of c ≡ seat_of d → number_of c ≡ number_of d → ⊥

  -- no two of the pieces have a row or a call in common
  abbrev pub Apart : List Piece → Type 0
  Apart [] = Unit {0}
  Apart (x ∷ xs) = ((y : Piece) → In y xs → Disjoint x y) × Apart xs

  -- none of what comes with the piece is placed
  pub record Fresh (p : Placing) (x : Piece) : Type 0 where
    pub rows : (row : ℕ) → In row (rows_with setup.shape closing x) → is_among p.rows row ≡ true → ⊥
    pub directories : (row : ℕ) → In row (directories_with x) → is_among p.directories row ≡ true → ⊥
    pub calls : (c : Placed) (seat number : ℕ) → In c (calls_in setup.shape closing x) → seat_of c ≡ seat →
        number_of c ≡ number → is_placed p.order seat number ≡ true → ⊥

  -- the pieces that are left are apart from each other and from what is placed
  pub record Alone (p : Placing) : Type 0 where
    pub apart : Apart p.left
    pub fresh : (x : Piece) → In x p.left → Fresh p x

  -- two pieces are apart in both turns
  pub disjoint_flips : (x y : Piece) → Disjoint x y → Disjoint y x
  disjoint_flips x y d = record {
    rows = λ row i j. d.rows row j i;
    directories = λ row i j. d.directories row j i;
    calls = λ c e i j s n. d.calls e c j i (sym s) (sym n);
  }

  -- a piece that is taken out is apart from the others, and they are from each other
  apart_without : (xs : List Piece) (at : ℕ) (x : Piece) → Apart xs → slice_get xs at ≡ Some x →
      Apart (without xs at) × ((y : Piece) → In y (without xs at) → Disjoint x y)
  apart_without [] at x a h = cc
  apart_without (z ∷ xs) zero x a h = (let is : z ≡ x = cc in (a.1, λ y i. subst (λ w. Disjoint w y) is (a.0 y i)))
  apart_without (z ∷ xs) (suc at) x a h =
      let rest = apart_without xs at x a.1 h in (
        ((λ y i. a.0 y (in_without xs at y i)), rest.0),
        λ y i. elim i [
          | inl e ↦ subst (Disjoint x) (sym e) (disjoint_flips z x (a.0 x (in_slice xs at x h)))
          | inr
              j ↦ rest.1 y j
        ],
      )
    where
      in_slice : (xs : List Piece) (at : ℕ) (x : Piece) → slice_get xs at ≡ Some x → In x xs
      in_slice [] at x h = cc
      in_slice (y ∷ xs) zero x h = (let is : y ≡ x = cc in inl (sym is))
      in_slice (y ∷ xs) (suc at) x h = inr (in_slice xs at x h)

  -- among what is added to numbers
  pub among_both : (xs ys : List ℕ) (row : ℕ) → is_among (xs ++ ys) row ≡ true → (is_among xs row ≡ true) ⊎ In row ys
  among_both [] ys row h = let there = any_at (λ other. other == row) ys h in
      inr (subst (λ n. In n ys) (eqb-true there.0 row there.2) there.1)
  among_both (x ∷ xs) ys row h = elim (or_split (x == row) (is_among (xs ++ ys) row) h) [
    | inl e ↦ inl (or_one (x == row) (is_among xs row) e)
    | inr r ↦ elim (among_both xs ys row r) [ inl e ↦ inl (or_two (x == row) (is_among xs row) e) | inr i ↦ inr i ]
  ]

  -- a call that is placed in two lists is in one of them
  placed_both : (xs ys : List Placed) (seat number : ℕ) → is_placed (xs ++ ys) seat number ≡ true →
      (is_placed xs seat number ≡ true) ⊎ ((c : Placed) × In c ys × (seat_of c ≡ seat) × (number_of c ≡ number))
  placed_both [] ys seat number h = let there = any_at (is_call seat number) ys h in let is =
      call_is_at there.0 seat number there.2 in inr (there.0, there.1, is.0, is.1)
  placed_both (x ∷ xs) ys seat number h = elim (or_split (is_call seat number x) (is_placed (xs ++ ys) seat number) h) [
    | inl e ↦ inl (or_one (is_call seat number x) (is_placed xs seat number) e)
    | inr r ↦ elim (placed_both xs ys seat number r)
        [ inl e ↦ inl (or_two (is_call seat number x) (is_placed xs seat number) e) | inr i ↦ inr i ]
  ]

  -- each turn keeps it
  pub alone_step : (p : Placing) (at : ℕ) (piece : Piece) → Turn setup closing p at piece → Alone p →
      Alone (after setup closing p at piece)
  alone_step p at piece t a =
      let rest = apart_without p.left at piece a.apart t.stands in
      record {
        apart = subst Apart (sym (without_is p.left at)) rest.0;
        fresh = λ x i.
            let j = subst (In x) (without_is p.left at) i in
            let was = a.fresh x (in_without p.left at x j) in
            let other = rest.1 x j in
            record {
              rows = λ row m h. elim (among_both p.rows (rows_with setup.shape closing piece) row h)
                  [ inl e ↦ was.rows row m e | inr n ↦ other.rows row n m ];
              directories = λ row m h. elim (among_both p.directories (directories_with piece) row h)
                  [ inl e ↦ was.directories row m e | inr n ↦ other.directories row n m ];
              calls = λ c seat number m s n h. elim
                  (placed_both p.order (calls_in setup.shape closing piece) seat number h) [
                    | inl e ↦ was.calls c seat number m s n e
                    | inr d ↦ other.calls d.0 c d.1 m (d.2 ∙ sym s) (d.3 ∙ sym n)
                  ];
            };
      }

  -- what the closed table must give: no row and no call comes with two pieces, and no row of the start with one
  pub record Separate : Type 0 where
    pub apart : Apart (pieces_of setup.shape closing)
    pub rows : (x : Piece) (row : ℕ) → In x (pieces_of setup.shape closing) →
        In row (rows_with setup.shape closing x) → is_among (start_of setup.shape closing).rows row ≡ true → ⊥
    pub directories : (x : Piece) (row : ℕ) → In x (pieces_of setup.shape closing) → In row (directories_with x) →
        is_among (start_of setup.shape closing).directories row ≡ true → ⊥

  -- it holds before the first turn
  pub alone_start : Separate → Alone (start_of setup.shape closing)
  alone_start s = record {
    apart = s.apart;
    fresh = λ x i. record {
      rows = λ row. s.rows x row i;
      directories = λ row. s.directories x row i;
      calls = λ c seat number m e n h. absurd (true≢false (sym h));
    };
  }

  -- two members are one or disjoint
  one_or_disjoint : (xs : List Piece) (x y : Piece) → Apart xs → In x xs → In y xs → (x ≡ y) ⊎ Disjoint x y
  one_or_disjoint [] x y a i j = elim i [ ]
  one_or_disjoint (z ∷ xs) x y a (inl e) (inl d) = inl (e ∙ sym d)
  one_or_disjoint (z ∷ xs) x y a (inl e) (inr j) = inr (subst (λ w. Disjoint w y) (sym e) (a.0 y j))
  one_or_disjoint (z ∷ xs) x y a (inr i) (inl d) =
      inr (disjoint_flips y x (subst (λ w. Disjoint w x) (sym d) (a.0 x i)))
  one_or_disjoint (z ∷ xs) x y a (inr i) (inr j) = one_or_disjoint xs x y a.1 i j

  -- a call of a ready piece that is left is the next of its seat
  next_of_seat : (p : Placing) (x y : Piece) (c d : Placed) → Alone p → In x p.left →
      In c (calls_in setup.shape closing x) → is_ready setup.shape closing p y ≡ true →
      In d (calls_in setup.shape closing y) →
      seat_of c ≡ seat_of d → 1 ≤ number_of c → number_of c < number_of d → ⊥
  next_of_seat p x y c d a i m r n s one less =
      let next = all_at (is_next setup.shape p.order) (calls_in setup.shape closing y) d
      (and_parts (has_base setup.shape closing p y)
      (list_all (is_next setup.shape p.order) (calls_in setup.shape closing y)) r).1 n in
      let own = (and_parts (are_placed p.order (number_of d - 1) (seat_of d))
      (list_all (λ seat. are_placed p.order (seen_of d seat) seat) (range_with_len 0 (seats_of setup))) next).0 in
      (a.fresh x i).calls c (seat_of d) (number_of c) m s refl
      (all_at (is_placed p.order (seat_of d)) (range_with_len 1 (number_of d - 1)) (number_of c) own
      (range_in 1 (number_of d - 1) (number_of c) one (omega (arith, less, one))))

  -- two ready pieces with calls of one seat are the same piece
  pub same_seat_same_piece : (p : Placing) (x y : Piece) (c d : Placed) → Alone p → In x p.left → In y p.left →
      is_ready setup.shape closing p x ≡ true → is_ready setup.shape closing p y ≡ true →
      In c (calls_in setup.shape closing x) → In d (calls_in setup.shape closing y) → seat_of c ≡ seat_of d →
      1 ≤ number_of c → 1 ≤ number_of d → x ≡ y
  same_seat_same_piece p x y c d a i j rx ry m n s one one_too = elim (cases_order (number_of c) (number_of d)) [
    | inl e ↦ elim (one_or_disjoint p.left x y a.apart i j)
        [ inl is ↦ is | inr apart ↦ absurd (apart.calls c d m n s e) ]
    | inr o ↦ elim o [
      | inl less ↦ absurd (next_of_seat p x y c d a i m ry n s one less)
      | inr more ↦ absurd (next_of_seat p y x d c a j n rx m (sym s) one_too more)
    ]
  ]

  -- pieces that are apart have each call once
  pub once_calls : (xs : List Piece) → Apart xs → ((x : Piece) → In x xs → Once (calls_in setup.shape closing x)) →
      Once (flat_map (calls_in setup.shape closing) xs)
  once_calls [] a o = tt
  once_calls (x ∷ xs) a o = once_both (calls_in setup.shape closing x) (flat_map (calls_in setup.shape closing) xs)
      (o x (inl refl)) (once_calls xs a.1 (λ y i. o y (inr i)))
      (λ c i j. let there = in_flat_map (calls_in setup.shape closing) xs c j in
      (a.0 there.0 there.1).calls c c i there.2 refl refl)
