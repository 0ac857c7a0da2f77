-- The calls of a piece stand in the order of their seats, one of each seat at most. So what is told seat by seat is
-- told in their order.
use Rattle.std.proofs.Common.{◌≡◌, ℕ, zero, suc, ◌+◌, ◌<◌, ◌≤◌, ◌⊎◌, false, List, [], ◌∷◌, ◌++◌, map, Option, Some, None, refl, inl, inr, sym, ap, ◌∙◌, subst, arith}
use Rattle.std.specs.Prelude.{◌||◌, flat_map, find, option_to_list}
use Rattle.std.specs.Option.{option_map_or}
use Rattle.std.specs.List.{range_with_len}
use Rattle.std.proofs.lemmas.Bool.{cases_eq, ne_eqb}
use Rattle.plain_map.specs.History.{Placed, seat_of}
use Rattle.table_model.specs.Setup.{Setup, seats_of}
use Rattle.table_model.specs.Order.{Closing, Piece, ByBucketRow, ByDirectoryRow, ByLookup, is_call, calls_in, calls_of, first_rows, new_in_rows, rank_of_calls}
use Rattle.table_model.specs.Turns.{has_call_of}
use Rattle.list_laws.proofs.Lists.{In}
use Rattle.closed_laws.proofs.Book.{Book, Written}
use Rattle.closed_laws.proofs.Ledger.{Ledger, call_at_in}
use Rattle.closed_laws.proofs.Ledger as L

-- from this seat on the seats rise
abbrev pub Rising : ℕ → List Placed → Type 0
Rising from [] = Unit {0}
Rising from (c ∷ cs) = (from ≤ seat_of c) × Rising (suc (seat_of c)) cs

-- so they do from an earlier seat on
pub rising_before : (from before : ℕ) (cs : List Placed) → before ≤ from → Rising from cs → Rising before cs
rising_before from before [] low r = tt
rising_before from before (c ∷ cs) low r = (omega (arith, low, r.0), r.1)

-- no member has an earlier seat
pub rising_least : (from : ℕ) (cs : List Placed) (c : Placed) → Rising from cs → In c cs → from ≤ seat_of c
rising_least from [] c r i = elim i [ ]
rising_least from (d ∷ cs) c r (inl e) = omega (arith, r.0, ap seat_of e)
rising_least from (d ∷ cs) c r (inr i) =
    let rest = rising_least (suc (seat_of d)) cs c r.1 i in omega (arith, r.0, rest)

-- members of one seat are one
pub rising_one : (from : ℕ) (cs : List Placed) (c d : Placed) → Rising from cs → In c cs → In d cs →
    seat_of c ≡ seat_of d → c ≡ d
rising_one from [] c d r i j same = elim i [ ]
rising_one from (x ∷ cs) c d r (inl e) (inl g) same = e ∙ sym g
rising_one from (x ∷ cs) c d r (inl e) (inr j) same =
    let past = rising_least (suc (seat_of x)) cs d r.1 j in absurd (omega (arith, past, same, ap seat_of e))
rising_one from (x ∷ cs) c d r (inr i) (inl g) same =
    let past = rising_least (suc (seat_of x)) cs c r.1 i in absurd (omega (arith, past, same, ap seat_of g))
rising_one from (x ∷ cs) c d r (inr i) (inr j) same = rising_one (suc (seat_of x)) cs c d r.1 i j same

-- the first has the least seat
pub rising_rank : (from : ℕ) (cs : List Placed) (c : Placed) → Rising from cs → In c cs →
    rank_of_calls cs ≤ suc (seat_of c)
rising_rank from [] c r i = elim i [ ]
rising_rank from (d ∷ cs) c r (inl e) = omega (arith, ap seat_of e)
rising_rank from (d ∷ cs) c r (inr i) = let rest = rising_least (suc (seat_of d)) cs c r.1 i in omega (arith, rest)

-- none has an earlier seat
none_before : (seat from : ℕ) (cs : List Placed) → Rising from cs → seat < from → has_call_of seat cs ≡ false
none_before seat from [] r less = refl
none_before seat from (c ∷ cs) r less =
    ap (λ b. b || has_call_of seat cs) (ne_eqb (seat_of c) seat (λ e. omega (arith, e, less, r.0)))
    ∙ none_before seat (suc (seat_of c)) cs r.1 (omega (arith, less, r.0))

-- what is told seat by seat, one for each call and nothing for other seats, is told in the calls' order
pub told_in_order : {B : Type 0} → (g : ℕ → List B) (h : Placed → B) (from many : ℕ) (cs : List Placed) →
    Rising from cs → ((c : Placed) → In c cs → seat_of c < from + many) →
    ((c : Placed) → In c cs → g (seat_of c) ≡ h c ∷ []) →
    ((seat : ℕ) → from ≤ seat → has_call_of seat cs ≡ false → g seat ≡ []) →
    flat_map g (range_with_len from many) ≡ map h cs
told_in_order g h from zero [] r few has none = refl
told_in_order g h from zero (c ∷ cs) r few has none =
    let inside = few c (inl refl) in absurd (omega (arith, inside, r.0))
told_in_order g h from (suc many) [] r few has none =
    ap (λ xs. xs ++ flat_map g (range_with_len (from + 1) many)) (none from (omega arith) refl)
    ∙ told_in_order g h (from + 1) many [] tt (λ c i. elim i [ ]) (λ c i. elim i [ ])
    (λ seat past e. none seat (omega (arith, past)) e)
told_in_order g h from (suc many) (c ∷ cs) r few has none =
    here (cases_eq (seat_of c) from) (told_in_order g h (from + 1) many cs)
    (told_in_order g h (from + 1) many (c ∷ cs))
  where
    here : ((seat_of c ≡ from) ⊎ (seat_of c ≡ from → ⊥)) →
        (Rising (from + 1) cs → ((d : Placed) → In d cs → seat_of d < from + 1 + many) →
        ((d : Placed) → In d cs → g (seat_of d) ≡ h d ∷ []) →
        ((seat : ℕ) → from + 1 ≤ seat → has_call_of seat cs ≡ false → g seat ≡ []) →
        flat_map g (range_with_len (from + 1) many) ≡ map h cs) →
        (Rising (from + 1) (c ∷ cs) → ((d : Placed) → In d (c ∷ cs) → seat_of d < from + 1 + many) →
        ((d : Placed) → In d (c ∷ cs) → g (seat_of d) ≡ h d ∷ []) →
        ((seat : ℕ) → from + 1 ≤ seat → has_call_of seat (c ∷ cs) ≡ false → g seat ≡ []) →
        flat_map g (range_with_len (from + 1) many) ≡ map h (c ∷ cs)) →
        g from ++ flat_map g (range_with_len (from + 1) many) ≡ h c ∷ map h cs
    here (inl is) rest again =
        ap (λ xs. xs ++ flat_map g (range_with_len (from + 1) many))
        (subst (λ n. g n ≡ h c ∷ []) is (has c (inl refl)))
        ∙ ap (λ xs. h c ∷ xs)
        (rest (rising_before (suc (seat_of c)) (from + 1) cs (omega (arith, is)) r.1)
        (λ d i. omega (arith, few d (inr i))) (λ d i. has d (inr i))
        (λ seat past e. none seat (omega (arith, past))
        (ap (λ b. b || has_call_of seat cs) (ne_eqb (seat_of c) seat (λ s. omega (arith, s, is, past))) ∙ e)))
    here (inr n) rest again =
        let past : from + 1 ≤ seat_of c = omega (arith, r.0, n) in
        ap (λ xs. xs ++ flat_map g (range_with_len (from + 1) many))
        (none from (omega arith) (none_before from (seat_of c) (c ∷ cs) (omega arith, r.1) (omega (arith, past))))
        ∙ again (past, r.1) (λ d i. omega (arith, few d i)) has
        (λ seat low e. none seat (omega (arith, low)) e)

module _ (setup : Setup) (closing : Closing) (k : Book) (w : Written setup closing.words k)
    (l : Ledger setup closing k) where
  -- a seat has one call in some rows at most
  one_at : (rows : List ℕ) (seat : ℕ) → (L.call_at setup closing k w l rows seat ≡ [])
      ⊎ ((c : Placed) × (L.call_at setup closing k w l rows seat ≡ c ∷ []))
  one_at rows seat = go (new_in_rows setup.shape closing.words rows seat)
    where
      found : (o : Option Placed) → (option_to_list o ≡ []) ⊎ ((c : Placed) × (option_to_list o ≡ c ∷ []))
      found None = inl refl
      found (Some c) = inr (c, refl)

      go : (o : Option ℕ) →
          (option_map_or (λ number. option_to_list (find (is_call seat number) (calls_of closing))) o [] ≡ [])
          ⊎ ((c : Placed) ×
          (option_map_or (λ number. option_to_list (find (is_call seat number) (calls_of closing))) o [] ≡ c ∷ []))
      go None = inl refl
      go (Some number) = found (find (is_call seat number) (calls_of closing))

  -- so the calls that are new in some rows rise
  rising_rows : (rows : List ℕ) (from many : ℕ) →
      Rising from (flat_map (L.call_at setup closing k w l rows) (range_with_len from many))
  rising_rows rows from zero = tt
  rising_rows rows from (suc many) = go (one_at rows from) (rising_rows rows (from + 1) many)
    where
      rest : List Placed
      rest = flat_map (L.call_at setup closing k w l rows) (range_with_len (from + 1) many)

      go : (L.call_at setup closing k w l rows from ≡ [])
          ⊎ ((c : Placed) × (L.call_at setup closing k w l rows from ≡ c ∷ [])) → Rising (from + 1) rest →
          Rising from (L.call_at setup closing k w l rows from ++ rest)
      go (inl none) r = subst (λ xs. Rising from (xs ++ rest)) (sym none)
          (rising_before (from + 1) from rest (omega arith) r)
      go (inr one) r =
          let c = one.0 in
          let is = call_at_in setup closing k w l rows from c
          (subst (In c) (sym one.1) (inl refl)) in
          subst (λ xs. Rising from (xs ++ rest)) (sym one.1) (
            omega (arith, is.2.seat),
            rising_before (from + 1) (suc (seat_of c)) rest (omega (arith, is.2.seat)) r,
          )

  -- and so do those of a piece
  pub calls_rise : (x : Piece) → Rising 0 (calls_in setup.shape closing x)
  calls_rise (ByBucketRow row) = rising_rows (row ∷ []) 0 (seats_of setup)
  calls_rise (ByDirectoryRow row) = rising_rows (first_rows setup.shape closing.words row) 0 (seats_of setup)
  calls_rise (ByLookup r) = (omega arith, tt)
