-- The turns of the placing: what every turn keeps holds in the end; a piece that is ready stays so; while one is
-- ready, one is placed.
use Rattle.std.proofs.Common.{◌≡◌, ℕ, zero, suc, ◌+◌, ◌<◌, ◌≤◌, Bool, true, List, [], ◌∷◌, ◌++◌, length, Option, Some, None, true≢false, refl, inl, inr, sym, ap, ◌∙◌, subst, arith, eq-eqb}
use Rattle.std.specs.Prelude.{slice_get, filter, position, ◌-◌, ◌==◌}
use Rattle.std.specs.Option.{option_map_or}
use Rattle.std.specs.List.{list_any, list_all, range_with_len}
use Rattle.std.proofs.lemmas.Bool.{and_parts, and_from, cases_eq}
use Rattle.plain_map.specs.declared.records.Record.{Record}
use Rattle.plain_map.specs.History.{Placed, seat_of, number_of, seen_of}
use Rattle.table_model.specs.Setup.{Setup, seats_of}
use Rattle.table_model.specs.Reading.{bucket_row, directory_row, is_among}
use Rattle.table_model.specs.Order.{Closing, Piece, ByBucketRow, ByDirectoryRow, ByLookup, Placing, is_call, lookups_of, calls_in, first_rows, is_placed, are_placed, is_next, is_done, has_base, is_ready, rank_of_calls, has_rank, choice_from, choice, rows_with, directories_with, place_piece, place_chosen, place_all, pieces_of, start_of, placing_of}
use Rattle.list_laws.proofs.Lists.{In, all_at, all_from, any_at, any_from, in_left, length_without, without_is, position_at, position_none}

module _ (setup : Setup) (closing : Closing) where
  -- a turn: at this place among those left stands this piece, and it is ready
  pub record Turn (p : Placing) (at : ℕ) (piece : Piece) : Type 0 where
    pub stands : slice_get p.left at ≡ Some piece
    pub ready : is_ready setup.shape closing p piece ≡ true

  -- the placing with the piece placed
  abbrev pub after : Placing → ℕ → Piece → Placing
  after p at piece = place_piece setup.shape closing p at (Some piece)

  -- what the choice chooses is ready
  chosen_from : (p : Placing) (rank ranks at : ℕ) → choice_from setup.shape closing p rank ranks ≡ Some at →
      (piece : Piece) × Turn p at piece
  chosen_from p rank zero at h = cc
  chosen_from p rank (suc ranks) at h = go (position (has_rank setup.shape closing p rank) p.left) refl
      (chosen_from p (suc rank) ranks at) h
    where
      go : (o : Option ℕ) → position (has_rank setup.shape closing p rank) p.left ≡ o →
          (choice_from setup.shape closing p (suc rank) ranks ≡ Some at → (piece : Piece) × Turn p at piece) →
          option_map_or Some o (choice_from setup.shape closing p (suc rank) ranks) ≡ Some at →
          (piece : Piece) × Turn p at piece
      go None e rest s = rest s
      go (Some k) e rest s =
          let there = position_at (has_rank setup.shape closing p rank) p.left at (e ∙ s) in (
            there.0,
            record {
              stands = there.1;
              ready = (and_parts (rank_of_calls (calls_in setup.shape closing there.0) == rank)
                  (is_ready setup.shape closing p there.0) there.2).1;
            },
          )

  -- what is chosen stands there and is ready
  pub chosen : (p : Placing) (at : ℕ) → choice setup.shape closing p ≡ Some at → (piece : Piece) × Turn p at piece
  chosen p at h = chosen_from p 0 (seats_of setup + 1) at h

  -- where none is chosen, none is ready
  none_from : (p : Placing) (rank ranks : ℕ) (x : Piece) → choice_from setup.shape closing p rank ranks ≡ None →
      In x p.left → rank ≤ rank_of_calls (calls_in setup.shape closing x) →
      rank_of_calls (calls_in setup.shape closing x) < rank + ranks → is_ready setup.shape closing p x ≡ true → ⊥
  none_from p rank zero x h i low high r = omega (arith, low, high)
  none_from p rank (suc ranks) x h i low high r =
      go (position (has_rank setup.shape closing p rank) p.left) refl
      (λ n l. none_from p (suc rank) ranks x n i l (omega (arith, high)) r) h
    where
      go : (o : Option ℕ) → position (has_rank setup.shape closing p rank) p.left ≡ o →
          (choice_from setup.shape closing p (suc rank) ranks ≡ None →
          suc rank ≤ rank_of_calls (calls_in setup.shape closing x) → ⊥) →
          option_map_or Some o (choice_from setup.shape closing p (suc rank) ranks) ≡ None → ⊥
      go (Some k) e rest s = cc
      go None e rest s = elim (cases_eq (rank_of_calls (calls_in setup.shape closing x)) rank) [
        | inr n ↦ rest s (omega (arith, low, n))
        | inl is ↦ true≢false (sym (and_from (rank_of_calls (calls_in setup.shape closing x) == rank)
            (is_ready setup.shape closing p x) (eq-eqb (rank_of_calls (calls_in setup.shape closing x)) rank is) r)
            ∙ position_none (has_rank setup.shape closing p rank) p.left x e i)
      ]

  -- where none is chosen, no piece of a seat that there is is ready
  pub none_ready : (p : Placing) (x : Piece) → choice setup.shape closing p ≡ None → In x p.left →
      rank_of_calls (calls_in setup.shape closing x) ≤ seats_of setup → is_ready setup.shape closing p x ≡ true → ⊥
  none_ready p x h i few r = none_from p 0 (seats_of setup + 1) x h i (omega arith) (omega (arith, few)) r

  -- what each turn keeps holds in the end
  pub all_keep : (P : Placing → Type 0) → ((p : Placing) (at : ℕ) (piece : Piece) → Turn p at piece → P p →
      P (after p at piece)) → (most : ℕ) (p : Placing) → P p → P (place_all setup.shape closing most p)
  all_keep P step zero p h = h
  all_keep P step (suc most) p h = all_keep P step most (place_chosen setup.shape closing p
      (choice setup.shape closing p)) (go (choice setup.shape closing p) refl)
    where
      go : (o : Option ℕ) → choice setup.shape closing p ≡ o → P (place_chosen setup.shape closing p o)
      go None e = h
      go (Some at) e = let t = chosen p at e in
          subst (λ o. P (place_piece setup.shape closing p at o)) (sym t.1.stands) (step p at t.0 t.1 h)

  -- so it holds of the whole placing
  pub placing_keeps : (P : Placing → Type 0) →
      ((p : Placing) (at : ℕ) (piece : Piece) → Turn p at piece → P p → P (after p at piece)) →
      P (start_of setup.shape closing) → P (placing_of setup.shape closing)
  unfolding placing_of
  placing_keeps P step h = all_keep P step (length (pieces_of setup.shape closing)) (start_of setup.shape closing) h

  -- one piece fewer is left
  pub fewer : (p : Placing) (at : ℕ) (piece : Piece) → Turn p at piece →
      length p.left ≡ suc (length (after p at piece).left)
  fewer p at piece t = length_without p.left at piece t.stands
      ∙ ap (λ (l : List Piece). suc (length l)) (sym (without_is p.left at))

  -- where of what is left one is always ready, nothing is left
  pub all_placed : (P : Placing → Type 0) → ((p : Placing) (at : ℕ) (piece : Piece) → Turn p at piece → P p →
      P (after p at piece)) →
      ((p : Placing) (x : Piece) → P p → In x p.left →
      (y : Piece) × In y p.left × (rank_of_calls (calls_in setup.shape closing y) ≤ seats_of setup)
      × (is_ready setup.shape closing p y ≡ true)) →
      (most : ℕ) (p : Placing) → P p → length p.left ≤ most → (place_all setup.shape closing most p).left ≡ []
  all_placed P step some zero p h few = nil p.left few
    where
      nil : (xs : List Piece) → length xs ≤ zero → xs ≡ []
      nil [] l = refl
      nil (x ∷ xs) l = absurd (omega (arith, l))
  all_placed P step some (suc most) p h few = go (choice setup.shape closing p) refl (all_placed P step some most)
    where
      none : (xs : List Piece) → p.left ≡ xs → choice setup.shape closing p ≡ None → xs ≡ []
      none [] e n = refl
      none (x ∷ xs) e n =
          let there = some p x h (subst (In x) (sym e) (inl refl)) in
          elim (none_ready p there.0 n there.1 there.2 there.3) [ ]

      go : (o : Option ℕ) → choice setup.shape closing p ≡ o →
          ((p : Placing) → P p → length p.left ≤ most → (place_all setup.shape closing most p).left ≡ []) →
          (place_all setup.shape closing most (place_chosen setup.shape closing p o)).left ≡ []
      go None e rest = rest p h (let is = none p.left refl e in omega (arith, ap (λ (l : List Piece). length l) is))
      go (Some at) e rest =
          let t = chosen p at e in
          subst (λ o. (place_all setup.shape closing most (place_piece setup.shape closing p at o)).left ≡ [])
          (sym t.1.stands)
          (rest (after p at t.0) (step p at t.0 t.1 h) (omega (arith, few, fewer p at t.0 t.1)))

  -- ---- placed things stay placed, and readiness only grows

  -- all that is placed in one is placed in the other
  pub record Grows (p q : Placing) : Type 0 where
    pub rows : (row : ℕ) → is_among p.rows row ≡ true → is_among q.rows row ≡ true
    pub directories : (row : ℕ) → is_among p.directories row ≡ true → is_among q.directories row ≡ true
    pub calls : (seat number : ℕ) → is_placed p.order seat number ≡ true → is_placed q.order seat number ≡ true

  -- what some member passes, some member of a longer list passes
  any_longer : {A : Type 0} → (f : A → Bool) (xs ys : List A) → list_any f xs ≡ true → list_any f (xs ++ ys) ≡ true
  any_longer f xs ys h = let there = any_at f xs h in
      any_from f (xs ++ ys) there.0 (in_left there.0 xs ys there.1) there.2

  -- a turn only adds
  pub turn_grows : (p : Placing) (at : ℕ) (piece : Piece) → Grows p (after p at piece)
  turn_grows p at piece = record {
    rows = λ row h. any_longer (λ other. other == row) p.rows (rows_with setup.shape closing piece) h;
    directories = λ row h. any_longer (λ other. other == row) p.directories (directories_with piece) h;
    calls = λ seat number h. any_longer (is_call seat number) p.order (calls_in setup.shape closing piece) h;
  }

  -- so calls that are placed stay placed
  are_grow : (p q : Placing) → Grows p q → (many seat : ℕ) → are_placed p.order many seat ≡ true →
      are_placed q.order many seat ≡ true
  are_grow p q g many seat h = all_from (is_placed q.order seat) (range_with_len 1 many)
      (λ n i. g.calls seat n (all_at (is_placed p.order seat) (range_with_len 1 many) n h i))

  -- a call that is next stays so
  pub next_grows : (p q : Placing) → Grows p q → (c : Placed) → is_next setup.shape p.order c ≡ true →
      is_next setup.shape q.order c ≡ true
  next_grows p q g c h =
      let parts = and_parts (are_placed p.order (number_of c - 1) (seat_of c))
      (list_all (λ seat. are_placed p.order (seen_of c seat) seat) (range_with_len 0 (seats_of setup))) h in
      and_from (are_placed q.order (number_of c - 1) (seat_of c))
      (list_all (λ seat. are_placed q.order (seen_of c seat) seat) (range_with_len 0 (seats_of setup)))
      (are_grow p q g (number_of c - 1) (seat_of c) parts.0)
      (all_from (λ seat. are_placed q.order (seen_of c seat) seat) (range_with_len 0 (seats_of setup))
      (λ seat i. are_grow p q g (seen_of c seat) seat
      (all_at (λ s. are_placed p.order (seen_of c s) s) (range_with_len 0 (seats_of setup)) seat parts.1 i)))

  -- a row that is done stays so
  pub done_grows : (p q : Placing) → Grows p q → (o : Option ℕ) → is_done closing p o ≡ true →
      is_done closing q o ≡ true
  done_grows p q g None h = refl
  done_grows p q g (Some row) h =
      let looks = filter (λ (r : Record). r.place == row) (lookups_of closing) in
      let parts = and_parts (is_among p.rows row)
      (list_all (λ (r : Record). is_placed p.order r.seat r.number) looks) h in
      and_from (is_among q.rows row) (list_all (λ (r : Record). is_placed q.order r.seat r.number) looks)
      (g.rows row parts.0)
      (all_from (λ (r : Record). is_placed q.order r.seat r.number) looks
      (λ r i. g.calls r.seat r.number (all_at (λ (r : Record). is_placed p.order r.seat r.number) looks r parts.1
      i)))

  -- a directory row that is there stays there
  among_grows : (p q : Placing) → Grows p q → (o : Option ℕ) → option_map_or (is_among p.directories) o true ≡ true →
      option_map_or (is_among q.directories) o true ≡ true
  among_grows p q g None h = refl
  among_grows p q g (Some row) h = g.directories row h

  -- a base that is there stays there
  pub base_grows : (p q : Placing) → Grows p q → (x : Piece) → has_base setup.shape closing p x ≡ true →
      has_base setup.shape closing q x ≡ true
  base_grows p q g (ByBucketRow row) h = done_grows p q g (bucket_row setup.shape closing.words row).base h
  base_grows p q g (ByDirectoryRow row) h =
      let firsts = first_rows setup.shape closing.words row in
      let of = (λ (r : Placing) (f : ℕ). is_done closing r (bucket_row setup.shape closing.words f).base) in
      let parts = and_parts (option_map_or (is_among p.directories)
      (directory_row setup.shape closing.words row).base true) (list_all (of p) firsts) h in
      and_from (option_map_or (is_among q.directories) (directory_row setup.shape closing.words row).base true)
      (list_all (of q) firsts)
      (among_grows p q g (directory_row setup.shape closing.words row).base parts.0)
      (all_from (of q) firsts (λ f i. done_grows p q g (bucket_row setup.shape closing.words f).base
      (all_at (of p) firsts f parts.1 i)))
  base_grows p q g (ByLookup r) h = g.rows r.place h

  -- a ready piece stays ready
  pub ready_grows : (p q : Placing) → Grows p q → (x : Piece) → is_ready setup.shape closing p x ≡ true →
      is_ready setup.shape closing q x ≡ true
  ready_grows p q g x h =
      let parts = and_parts (has_base setup.shape closing p x)
      (list_all (is_next setup.shape p.order) (calls_in setup.shape closing x)) h in
      and_from (has_base setup.shape closing q x)
      (list_all (is_next setup.shape q.order) (calls_in setup.shape closing x))
      (base_grows p q g x parts.0)
      (all_from (is_next setup.shape q.order) (calls_in setup.shape closing x)
      (λ c i. next_grows p q g c (all_at (is_next setup.shape p.order)
      (calls_in setup.shape closing x) c parts.1 i)))
