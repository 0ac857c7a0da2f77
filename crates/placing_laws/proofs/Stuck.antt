-- Where each piece has a place, and all that it waits for is there at smaller places, every piece is placed.
use Rattle.std.proofs.Common.{◌≡◌, ℕ, ◌<◌, ◌≤◌, ◌⊎◌, true, List, [], ◌∷◌, ◌++◌, length, Option, Some, None, refl, inl, inr, sym, subst, arith, eq-eqb, eqb-true}
use Rattle.std.specs.Prelude.{filter, ◌-◌, ◌==◌}
use Rattle.std.specs.Option.{option_map_or}
use Rattle.std.specs.List.{list_all, range_with_len}
use Rattle.std.proofs.lemmas.Bool.{and_parts, and_from}
use Rattle.plain_map.specs.declared.records.Record.{Record}
use Rattle.plain_map.specs.History.{Placed, answered, seat_of, number_of, seen_of}
use Rattle.table_model.specs.Setup.{Setup, seats_of}
use Rattle.table_model.specs.Reading.{bucket_row, directory_row, is_among}
use Rattle.table_model.specs.Order.{Closing, Piece, ByBucketRow, ByDirectoryRow, ByLookup, Placing, is_call, lookups_of, calls_in, first_rows, is_placed, are_placed, is_next, is_done, has_base, is_ready, rank_of_calls, rows_with, directories_with, pieces_of, start_of, placing_of}
use Rattle.list_laws.proofs.Lists.{In, all_from, any_from, in_left, in_right, in_without, is_or_without, without_is, in_range, in_filter, least}
use Rattle.placing_laws.proofs.Turns.{Turn, after, all_placed, Grows, turn_grows, placing_keeps}

-- the call is that of the seat with that number
pub is_call_at : (c : Placed) (seat number : ℕ) → seat_of c ≡ seat → number_of c ≡ number → is_call seat number c ≡ true
is_call_at c seat number s n = and_from (seat_of c == seat) (number_of c == number) (eq-eqb (seat_of c) seat s)
    (eq-eqb (number_of c) number n)

-- and a call with that seat and number is meant
pub call_is_at : (c : Placed) (seat number : ℕ) → is_call seat number c ≡ true →
    (seat_of c ≡ seat) × (number_of c ≡ number)
call_is_at c seat number h =
    let parts = and_parts (seat_of c == seat) (number_of c == number) h in
    (eqb-true (seat_of c) seat parts.0, eqb-true (number_of c) number parts.1)

-- a member is among the rows
pub among_in : (rows : List ℕ) (row : ℕ) → In row rows → is_among rows row ≡ true
among_in rows row i = any_from (λ other. other == row) rows row i (eq-eqb row row refl)

-- a list with a member has one of least place
pub least_in : {A : Type 0} → (place : A → ℕ) (xs : List A) (x : A) → In x xs →
    (y : A) × In y xs × ((z : A) → In z xs → place y ≤ place z)
least_in place [] x i = elim i [ ]
least_in place (w ∷ xs) x i = least place w xs

module _ (setup : Setup) (closing : Closing) where
  -- all that comes with the piece is placed
  pub record Has (p : Placing) (x : Piece) : Type 0 where
    pub rows : (row : ℕ) → In row (rows_with setup.shape closing x) → is_among p.rows row ≡ true
    pub directories : (row : ℕ) → In row (directories_with x) → is_among p.directories row ≡ true
    pub calls : (c : Placed) → In c (calls_in setup.shape closing x) → In c p.order

  -- each piece is left or placed
  pub record Kept (p : Placing) : Type 0 where
    pub grown : Grows setup closing (start_of setup.shape closing) p
    pub known : (x : Piece) → In x p.left → In x (pieces_of setup.shape closing)
    pub all : (x : Piece) → In x (pieces_of setup.shape closing) → In x p.left ⊎ Has p x

  -- what is placed stays placed over two stretches
  grows_trans : (p q r : Placing) → Grows setup closing p q → Grows setup closing q r → Grows setup closing p r
  grows_trans p q r g h = record {
    rows = λ row e. h.rows row (g.rows row e);
    directories = λ row e. h.directories row (g.directories row e);
    calls = λ s n e. h.calls s n (g.calls s n e);
  }

  -- what comes with a piece stays placed
  has_stays : (p : Placing) (at : ℕ) (piece x : Piece) → Has p x → Has (after setup closing p at piece) x
  has_stays p at piece x h =
      let g = turn_grows setup closing p at piece in
      record {
        rows = λ row i. g.rows row (h.rows row i);
        directories = λ row i. g.directories row (h.directories row i);
        calls = λ c i. in_left c p.order (calls_in setup.shape closing piece) (h.calls c i);
      }

  -- with its turn all that comes with a piece is placed
  has_now : (p : Placing) (at : ℕ) (piece : Piece) → Has (after setup closing p at piece) piece
  has_now p at piece = record {
    rows = λ row i. among_in (p.rows ++ rows_with setup.shape closing piece) row
        (in_right row p.rows (rows_with setup.shape closing piece) i);
    directories = λ row i. among_in (p.directories ++ directories_with piece) row
        (in_right row p.directories (directories_with piece) i);
    calls = λ c i. in_right c p.order (calls_in setup.shape closing piece) i;
  }

  -- each turn keeps it
  pub kept_step : (p : Placing) (at : ℕ) (piece : Piece) → Turn setup closing p at piece → Kept p →
      Kept (after setup closing p at piece)
  kept_step p at piece t k = record {
    grown = grows_trans (start_of setup.shape closing) p (after setup closing p at piece) k.grown
        (turn_grows setup closing p at piece);
    known = λ x i. k.known x (in_without p.left at x (subst (In x) (without_is p.left at) i));
    all = λ x i. elim (k.all x i) [
      | inr h ↦ inr (has_stays p at piece x h)
      | inl l ↦ elim (is_or_without p.left at piece x t.stands l) [
        | inl e ↦ inr (subst (Has (after setup closing p at piece)) (sym e) (has_now p at piece))
        | inr j ↦ inl (subst (In x) (sym (without_is p.left at)) j)
      ]
    ];
  }

  -- before the first turn each piece is left
  pub kept_start : Kept (start_of setup.shape closing)
  kept_start = record {
    grown = record { rows = λ row e. e; directories = λ row e. e; calls = λ s n e. e };
    known = λ x i. i;
    all = λ x i. inl i;
  }

  -- after the last turn each piece is left or placed
  pub kept_end : Kept (placing_of setup.shape closing)
  kept_end = placing_keeps setup closing Kept kept_step kept_start

  -- ---- all that a piece waits for is there, at smaller places

  module _ (place : Piece → ℕ) where
    -- a row that is there from the start, or comes with a piece of smaller place than this
    abbrev pub RowBefore : ℕ → ℕ → Type 0
    RowBefore bound row = (is_among (start_of setup.shape closing).rows row ≡ true)
        ⊎ ((y : Piece) × In y (pieces_of setup.shape closing) × In row (rows_with setup.shape closing y)
        × (place y < bound))

    -- a directory row that is there from the start, or comes with a piece of smaller place
    abbrev pub DirectoryBefore : ℕ → Option ℕ → Type 0
    DirectoryBefore bound None = Unit {0}
    DirectoryBefore bound (Some row) = (is_among (start_of setup.shape closing).directories row ≡ true)
        ⊎ ((y : Piece) × In y (pieces_of setup.shape closing) × In row (directories_with y) × (place y < bound))

    -- and all answered lookups of it have smaller places
    abbrev pub DoneBefore : ℕ → Option ℕ → Type 0
    DoneBefore bound None = Unit {0}
    DoneBefore bound (Some row) = RowBefore bound row
        × ((r : Record) → In r (lookups_of closing) → r.place ≡ row →
        In (ByLookup r) (pieces_of setup.shape closing) × (place (ByLookup r) < bound))

    -- all that the piece is made from has smaller places
    abbrev pub BaseBefore : Piece → Type 0
    BaseBefore (ByBucketRow row) = DoneBefore (place (ByBucketRow row)) (bucket_row setup.shape closing.words row).base
    BaseBefore (ByDirectoryRow row) =
        DirectoryBefore (place (ByDirectoryRow row)) (directory_row setup.shape closing.words row).base
        × ((first : ℕ) → In first (first_rows setup.shape closing.words row) →
        DoneBefore (place (ByDirectoryRow row)) (bucket_row setup.shape closing.words first).base)
    BaseBefore (ByLookup r) = RowBefore (place (ByLookup r)) r.place

    -- the call of the seat with the number comes with a piece of smaller place
    abbrev pub CallBefore : ℕ → ℕ → ℕ → Type 0
    CallBefore bound seat number = (y : Piece) × (c : Placed) × In y (pieces_of setup.shape closing)
        × In c (calls_in setup.shape closing y) × (seat_of c ≡ seat) × (number_of c ≡ number) × (place y < bound)

    -- each piece has its base, its seats' earlier calls and what their callers had seen at smaller places
    pub record Ranked : Type 0 where
      pub bases : (x : Piece) → In x (pieces_of setup.shape closing) → BaseBefore x
      pub own : (x : Piece) (c : Placed) (n : ℕ) → In x (pieces_of setup.shape closing) →
          In c (calls_in setup.shape closing x) → 1 ≤ n → n < number_of c → CallBefore (place x) (seat_of c) n
      pub seen : (x : Piece) (c : Placed) (seat n : ℕ) → In x (pieces_of setup.shape closing) →
          In c (calls_in setup.shape closing x) → seat < seats_of setup → 1 ≤ n → n ≤ seen_of c seat →
          CallBefore (place x) seat n
      pub seats : (x : Piece) → In x (pieces_of setup.shape closing) →
          rank_of_calls (calls_in setup.shape closing x) ≤ seats_of setup

    module _ (ranked : Ranked) (p : Placing) (k : Kept p) (y : Piece) (i : In y p.left)
        (first : (z : Piece) → In z p.left → place y ≤ place z) where
      -- a piece of smaller place is placed
      has : (z : Piece) → In z (pieces_of setup.shape closing) → place z < place y → Has p z
      has z j less = elim (k.all z j) [
        | inl l ↦ absurd (omega (arith, less, first z l))
        | inr h ↦ h
      ]

      -- so the rows of smaller places are placed
      row_there : (row : ℕ) → RowBefore (place y) row → is_among p.rows row ≡ true
      row_there row (inl e) = k.grown.rows row e
      row_there row (inr h) = (has h.0 h.1 h.3).rows row h.2

      -- and so are the calls of smaller places
      call_there : (c : Placed) (z : Piece) → In z (pieces_of setup.shape closing) →
          In c (calls_in setup.shape closing z) → place z < place y → (seat number : ℕ) → seat_of c ≡ seat →
          number_of c ≡ number → is_placed p.order seat number ≡ true
      call_there c z j m less seat number s n =
          any_from (is_call seat number) p.order c ((has z j less).calls c m) (is_call_at c seat number s n)

      -- and a base of smaller place is done
      done_there : (o : Option ℕ) → DoneBefore (place y) o → is_done closing p o ≡ true
      done_there None h = refl
      done_there (Some row) h =
          let looks = filter (λ (r : Record). r.place == row) (lookups_of closing) in
          and_from (is_among p.rows row) (list_all (λ (r : Record). is_placed p.order r.seat r.number) looks)
          (row_there row h.0)
          (all_from (λ (r : Record). is_placed p.order r.seat r.number) looks (λ r m.
          let member = in_filter (λ (r : Record). r.place == row) (lookups_of closing) r m in
          let there = h.1 r member.0 (eqb-true r.place row member.1) in
          call_there (answered r) (ByLookup r) there.0 (inl refl) there.1 r.seat r.number refl refl))

      -- and a directory row of smaller place is placed
      directory_there : (o : Option ℕ) → DirectoryBefore (place y) o →
          option_map_or (is_among p.directories) o true ≡ true
      directory_there None h = refl
      directory_there (Some row) (inl e) = k.grown.directories row e
      directory_there (Some row) (inr h) = (has h.0 h.1 h.3).directories row h.2

    -- so the base of the piece of least place is there
    base_there : (ranked : Ranked) (p : Placing) (k : Kept p) (y : Piece) (i : In y p.left)
        (first : (z : Piece) → In z p.left → place y ≤ place z) → BaseBefore y → has_base setup.shape closing p y ≡ true
    base_there ranked p k (ByBucketRow row) i first h =
        done_there ranked p k (ByBucketRow row) i first (bucket_row setup.shape closing.words row).base h
    base_there ranked p k (ByDirectoryRow row) i first h =
        let firsts = first_rows setup.shape closing.words row in
        and_from (option_map_or (is_among p.directories) (directory_row setup.shape closing.words row).base true)
        (list_all (λ f. is_done closing p (bucket_row setup.shape closing.words f).base) firsts)
        (directory_there ranked p k (ByDirectoryRow row) i first (directory_row setup.shape closing.words row).base h.0)
        (all_from (λ f. is_done closing p (bucket_row setup.shape closing.words f).base) firsts
        (λ f m. done_there ranked p k (ByDirectoryRow row) i first (bucket_row setup.shape closing.words f).base
        (h.1 f m)))
    base_there ranked p k (ByLookup r) i first h = row_there ranked p k (ByLookup r) i first r.place h

    -- the left piece of least place is ready
    pub least_ready : (ranked : Ranked) (p : Placing) (k : Kept p) (y : Piece) (i : In y p.left)
        (first : (z : Piece) → In z p.left → place y ≤ place z) → is_ready setup.shape closing p y ≡ true
    least_ready ranked p k y i first =
        let known = k.known y i in
        and_from (has_base setup.shape closing p y)
        (list_all (is_next setup.shape p.order) (calls_in setup.shape closing y))
        (base_there ranked p k y i first (ranked.bases y known))
        (all_from (is_next setup.shape p.order) (calls_in setup.shape closing y) (λ c m.
        and_from (are_placed p.order (number_of c - 1) (seat_of c))
        (list_all (λ seat. are_placed p.order (seen_of c seat) seat) (range_with_len 0 (seats_of setup)))
        (all_from (is_placed p.order (seat_of c)) (range_with_len 1 (number_of c - 1)) (λ n j.
        let r = in_range 1 (number_of c - 1) n j in
        let b = ranked.own y c n known m r.0 (omega (arith, r.0, r.1)) in
        call_there ranked p k y i first b.1 b.0 b.2 b.3 b.6 (seat_of c) n b.4 b.5))
        (all_from (λ seat. are_placed p.order (seen_of c seat) seat) (range_with_len 0 (seats_of setup)) (λ seat s.
        all_from (is_placed p.order seat) (range_with_len 1 (seen_of c seat)) (λ n j.
        let r = in_range 1 (seen_of c seat) n j in
        let q = in_range 0 (seats_of setup) seat s in
        let b = ranked.seen y c seat n known m (omega (arith, q.1)) r.0 (omega (arith, r.1)) in
        call_there ranked p k y i first b.1 b.0 b.2 b.3 b.6 seat n b.4 b.5)))))

    -- the order is never stuck
    pub never_stuck : Ranked → (placing_of setup.shape closing).left ≡ []
    unfolding placing_of
    never_stuck ranked = all_placed setup closing Kept kept_step
        (λ p x k i. let y = least_in place p.left x i in
        (y.0, y.1, ranked.seats y.0 (k.known y.0 y.1), least_ready ranked p k y.0 y.1 y.2))
        (length (pieces_of setup.shape closing)) (start_of setup.shape closing) kept_start (omega arith)

    -- so all that comes with any piece is placed
    pub all_are_placed : Ranked → (x : Piece) → In x (pieces_of setup.shape closing) →
        Has (placing_of setup.shape closing) x
    all_are_placed ranked x i = elim (kept_end.all x i) [
      | inr h ↦ h
      | inl l ↦ elim (subst (In x) (never_stuck ranked) l) [ ]
    ]
