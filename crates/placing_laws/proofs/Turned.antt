-- In whatever turn ready pieces without calls are placed, the calls come in the same order.
use Rattle.std.proofs.Common.{◌≡◌, ◌≢◌, ℕ, zero, suc, ◌+◌, Bool, true, false, not, cond, List, [], ◌∷◌, ◌++◌, length, take, drop, Option, Some, None, true≢false, add-one, refl, inl, inr, sym, ap, ◌∙◌, subst, arith, append-nil, eqb-true}
use Rattle.std.specs.Prelude.{slice_get, position, nat_lt, ◌==◌, fold}
use Rattle.std.specs.Option.{option_map_or}
use Rattle.std.specs.List.{position_or_len, list_any}
use Rattle.std.proofs.lemmas.Bool.{and_parts, and_from, cases_eq}
use Rattle.plain_map.specs.History.{Placed}
use Rattle.table_model.specs.Setup.{Setup, seats_of}
use Rattle.table_model.specs.Order.{Closing, Piece, Placing, is_call, calls_in, is_ready, rank_of_calls, has_rank, choice_from, choice, rows_with, directories_with, place_piece, place_chosen, place_all, start_of, placing_of, order_of}
use Rattle.table_model.specs.Turns.{IsFreeTurn, AreFreeTurns}
use Rattle.list_laws.proofs.Lists.{In, in_at, in_right, without, without_is, position_at, position_none}
use Rattle.placing_laws.proofs.Turns.{Turn, after, none_ready, Grows, turn_grows, ready_grows, fewer}
use Rattle.placing_laws.proofs.Stuck.{among_in}
use Rattle.placing_laws.proofs.Alone.{among_both}
use Rattle.list_laws.proofs.Truths.{both_ways}

-- tests that agree find the same place
same_prefix : {A : Type 0} → (f g : A → Bool) (xs : List A) → ((x : A) → f x ≡ g x) →
    position_or_len f xs ≡ position_or_len g xs
same_prefix f g [] h = refl
same_prefix f g (x ∷ xs) h = ap (λ b. cond (not b) (1 + position_or_len f xs) 0) (h x)
    ∙ ap (λ n. cond (not (g x)) (1 + n) 0) (same_prefix f g xs h)

-- and the place that they find is the same
same_position : {A : Type 0} → (f g : A → Bool) (xs : List A) → ((x : A) → f x ≡ g x) → position f xs ≡ position g xs
same_position f g xs h = ap (λ n. cond (nat_lt n (length xs)) (Some n) None) (same_prefix f g xs h)

-- where two members are taken out one after the other, it does not matter which is the first
record Apart {A : Type 0} (xs : List A) (at other : ℕ) (x y : A) : Type 0 where
  first : ℕ
  second : ℕ
  x_stands : slice_get (without xs other) first ≡ Some x
  y_stands : slice_get (without xs at) second ≡ Some y
  same : without (without xs other) first ≡ without (without xs at) second

-- two members at different places can be taken out in both turns
two_out : {A : Type 0} → (xs : List A) (at other : ℕ) (x y : A) → at ≢ other → slice_get xs at ≡ Some x →
    slice_get xs other ≡ Some y → Apart xs at other x y
two_out [] at other x y n h g = cc
two_out (z ∷ xs) zero zero x y n h g = absurd (n refl)
two_out (z ∷ xs) zero (suc other) x y n h g =
    record { first = 0; second = other; x_stands = h; y_stands = g; same = refl }
two_out (z ∷ xs) (suc at) zero x y n h g = record { first = at; second = 0; x_stands = h; y_stands = g; same = refl }
two_out (z ∷ xs) (suc at) (suc other) x y n h g =
    let r = two_out xs at other x y (λ e. n (ap suc e)) h g in
    record {
      first = suc r.first;
      second = suc r.second;
      x_stands = r.x_stands;
      y_stands = r.y_stands;
      same = ap (λ zs. z ∷ zs) r.same;
    }

module _ (setup : Setup) (closing : Closing) where
  -- the same pieces are left, the same calls stand, and the same rows are placed
  pub record Alike (p q : Placing) : Type 0 where
    pub there : Grows setup closing p q
    pub back : Grows setup closing q p
    pub order : p.order ≡ q.order
    pub left : p.left ≡ q.left

  -- so the same piece comes next
  same_rank : (p q : Placing) → Alike p q → (rank : ℕ) (x : Piece) →
      has_rank setup.shape closing p rank x ≡ has_rank setup.shape closing q rank x
  same_rank p q a rank x =
      both_ways (has_rank setup.shape closing p rank x) (has_rank setup.shape closing q rank x) (one_way p q a.there)
      (one_way q p a.back)
    where
      one_way : (p q : Placing) → Grows setup closing p q → has_rank setup.shape closing p rank x ≡ true →
          has_rank setup.shape closing q rank x ≡ true
      one_way p q g h =
          let parts = and_parts (rank_of_calls (calls_in setup.shape closing x) == rank)
          (is_ready setup.shape closing p x) h in
          and_from (rank_of_calls (calls_in setup.shape closing x) == rank)
          (is_ready setup.shape closing q x) parts.0 (ready_grows setup closing p q g x parts.1)

  -- from each rank on
  same_choice_from : (p q : Placing) → Alike p q → (rank ranks : ℕ) →
      choice_from setup.shape closing p rank ranks ≡ choice_from setup.shape closing q rank ranks
  same_choice_from p q a rank zero = refl
  same_choice_from p q a rank (suc ranks) =
      ap (λ (o : Option ℕ). option_map_or Some o (choice_from setup.shape closing p (suc rank) ranks))
      (same_position (has_rank setup.shape closing p rank) (has_rank setup.shape closing q rank) p.left
      (same_rank p q a rank) ∙ ap (position (has_rank setup.shape closing q rank)) a.left)
      ∙ ap (option_map_or Some (position (has_rank setup.shape closing q rank) q.left))
      (same_choice_from p q a (suc rank) ranks)

  -- so the choice is the same
  same_choice : (p q : Placing) → Alike p q → choice setup.shape closing p ≡ choice setup.shape closing q
  same_choice p q a = same_choice_from p q a 0 (seats_of setup + 1)

  -- with one piece placed in both they are alike again
  grown : (p q : Placing) (at to : ℕ) (x : Piece) → Grows setup closing p q → p.order ≡ q.order →
      Grows setup closing (after setup closing p at x) (after setup closing q to x)
  grown p q at to x g e = record {
    rows = λ row h. elim (among_both setup closing p.rows (rows_with setup.shape closing x) row h) [
      | inl old ↦ (turn_grows setup closing q to x).rows row (g.rows row old)
      | inr new ↦ among_in (q.rows ++ rows_with setup.shape closing x) row
          (in_right row q.rows (rows_with setup.shape closing x) new)
    ];
    directories = λ row h. elim (among_both setup closing p.directories (directories_with x) row h) [
      | inl old ↦ (turn_grows setup closing q to x).directories row (g.directories row old)
      | inr new ↦ among_in (q.directories ++ directories_with x) row
          (in_right row q.directories (directories_with x) new)
    ];
    calls = λ seat n h. subst (λ calls. list_any (is_call seat n) (calls ++ calls_in setup.shape closing x) ≡ true) e h;
  }

  -- in both placings at the same place
  alike_after : (p q : Placing) (at : ℕ) (x : Piece) → Alike p q →
      Alike (after setup closing p at x) (after setup closing q at x)
  alike_after p q at x a = record {
    there = grown p q at at x a.there a.order;
    back = grown q p at at x a.back (sym a.order);
    order = ap (λ calls. calls ++ calls_in setup.shape closing x) a.order;
    left = ap (λ xs. take at xs ++ drop (at + 1) xs) a.left;
  }

  -- so in the end the calls stand in one order
  alike_all : (most : ℕ) (p q : Placing) → Alike p q →
      (place_all setup.shape closing most p).order ≡ (place_all setup.shape closing most q).order
  alike_all zero p q a = a.order
  alike_all (suc most) p q a = alike_all most (place_chosen setup.shape closing p (choice setup.shape closing p))
      (place_chosen setup.shape closing q (choice setup.shape closing q))
      (subst (λ o. Alike (place_chosen setup.shape closing p (choice setup.shape closing p))
      (place_chosen setup.shape closing q o)) (same_choice p q a) (alike_chosen (choice setup.shape closing p)))
    where
      alike_piece : (at : ℕ) (o : Option Piece) →
          Alike (place_piece setup.shape closing p at o) (place_piece setup.shape closing q at o)
      alike_piece at None = a
      alike_piece at (Some x) = alike_after p q at x a

      alike_chosen : (o : Option ℕ) → Alike (place_chosen setup.shape closing p o)
          (place_chosen setup.shape closing q o)
      alike_chosen None = a
      alike_chosen (Some at) = subst (λ xs. Alike (place_piece setup.shape closing p at (slice_get p.left at))
          (place_piece setup.shape closing q at (slice_get xs at))) a.left (alike_piece at (slice_get p.left at))

  -- where a piece without calls is ready, one without calls comes next
  none_of_rank : (calls : List Placed) → rank_of_calls calls ≡ 0 → calls ≡ []
  none_of_rank [] e = refl
  none_of_rank (c ∷ calls) e = absurd (omega (arith, e))

  -- the piece that is chosen then has no calls
  free_first : (p : Placing) (x : Piece) (at ranks : ℕ) → In x p.left → is_ready setup.shape closing p x ≡ true →
      calls_in setup.shape closing x ≡ [] → choice_from setup.shape closing p 0 (suc ranks) ≡ Some at →
      (y : Piece) × Turn setup closing p at y × (calls_in setup.shape closing y ≡ [])
  free_first p x at ranks i ready free h = go (position (has_rank setup.shape closing p 0) p.left) refl h
    where
      rank : rank_of_calls (calls_in setup.shape closing x) == 0 ≡ true
      rank = ap (λ calls. rank_of_calls calls == 0) free

      go : (o : Option ℕ) → position (has_rank setup.shape closing p 0) p.left ≡ o →
          option_map_or Some o (choice_from setup.shape closing p 1 ranks) ≡ Some at →
          (y : Piece) × Turn setup closing p at y × (calls_in setup.shape closing y ≡ [])
      go None e s = absurd (true≢false (sym (and_from (rank_of_calls (calls_in setup.shape closing x) == 0)
          (is_ready setup.shape closing p x) rank ready)
          ∙ position_none (has_rank setup.shape closing p 0) p.left x e i))
      go (Some k) e s =
          let there = position_at (has_rank setup.shape closing p 0) p.left at (e ∙ s) in
          let parts = and_parts (rank_of_calls (calls_in setup.shape closing there.0) == 0)
          (is_ready setup.shape closing p there.0) there.2 in (
            there.0,
            record { stands = there.1; ready = parts.1 },
            none_of_rank (calls_in setup.shape closing there.0)
                (eqb-true (rank_of_calls (calls_in setup.shape closing there.0)) 0 parts.0),
          )

  -- a placing in which some pieces are left that take so many turns, in the order that it ends with
  abbrev ends : ℕ → Placing → List Placed
  ends most p = (place_all setup.shape closing most p).order

  -- the next turn is that of the piece that is chosen
  next_is : (p : Placing) (at most : ℕ) (x : Piece) → choice setup.shape closing p ≡ Some at →
      slice_get p.left at ≡ Some x → ends (suc most) p ≡ ends most (after setup closing p at x)
  next_is p at most x e s =
      ap (λ o. ends most (place_chosen setup.shape closing p o)) e
      ∙ ap (λ o. ends most (place_piece setup.shape closing p at o)) s

  -- two ready pieces without calls, one after the other in both turns
  module _ (p : Placing) (at other : ℕ) (x y : Piece) (t : Turn setup closing p at x)
      (u : Turn setup closing p other y) (free : calls_in setup.shape closing x ≡ [])
      (free_too : calls_in setup.shape closing y ≡ []) (apart : at ≢ other) where
    -- where they stand after each other
    abbrev both : Apart p.left at other x y
    both = two_out p.left at other x y apart t.stands u.stands

    -- the first placed
    abbrev p_x : Placing
    p_x = after setup closing p at x

    -- the second placed
    abbrev p_y : Placing
    p_y = after setup closing p other y

    -- with the second placed the first is ready
    x_then : Turn setup closing p_y both.first x
    x_then = record {
      stands = subst (λ xs. slice_get xs both.first ≡ Some x) (sym (without_is p.left other)) both.x_stands;
      ready = ready_grows setup closing p p_y (turn_grows setup closing p other y) x t.ready;
    }

    -- with the first placed the second is ready
    y_then : Turn setup closing p_x both.second y
    y_then = record {
      stands = subst (λ xs. slice_get xs both.second ≡ Some y) (sym (without_is p.left at)) both.y_stands;
      ready = ready_grows setup closing p p_x (turn_grows setup closing p at x) y u.ready;
    }

    -- what is placed with the second in the end is placed
    any_turn : (q : Placing) (place : ℕ) (z : Piece) (row : ℕ) → In row (rows_with setup.shape closing z) →
        list_any (λ n. n == row) (after setup closing q place z).rows ≡ true
    any_turn q place z row i = among_in (q.rows ++ rows_with setup.shape closing z) row
        (in_right row q.rows (rows_with setup.shape closing z) i)

    -- and so are its directory rows
    any_directory : (q : Placing) (place : ℕ) (z : Piece) (row : ℕ) → In row (directories_with z) →
        list_any (λ n. n == row) (after setup closing q place z).directories ≡ true
    any_directory q place z row i = among_in (q.directories ++ directories_with z) row
        (in_right row q.directories (directories_with z) i)

    -- without calls the order stays
    order_x : p_x.order ≡ p.order
    order_x = ap (λ calls. p.order ++ calls) free ∙ append-nil p.order

    -- so it does with the second
    order_y : p_y.order ≡ p.order
    order_y = ap (λ calls. p.order ++ calls) free_too ∙ append-nil p.order

    -- in both turns the calls are the same
    order_both : (after setup closing p_y both.first x).order ≡ (after setup closing p_x both.second y).order
    order_both = ap (λ calls. p_y.order ++ calls) free ∙ append-nil p_y.order ∙ order_y
        ∙ sym (ap (λ calls. p_x.order ++ calls) free_too ∙ append-nil p_x.order ∙ order_x)

    -- both turns end alike
    alike_both : Alike (after setup closing p_y both.first x) (after setup closing p_x both.second y)
    alike_both = record {
      there = record {
        rows = λ row h. elim (among_both setup closing p_y.rows (rows_with setup.shape closing x) row h) [
          | inr new ↦ (turn_grows setup closing p_x both.second y).rows row (any_turn p at x row new)
          | inl old ↦ elim (among_both setup closing p.rows (rows_with setup.shape closing y) row old) [
            | inr new ↦ any_turn p_x both.second y row new
            | inl o ↦ (turn_grows setup closing p_x both.second y).rows row
                ((turn_grows setup closing p at x).rows row o)
          ]
        ];
        directories = λ row h. elim (among_both setup closing p_y.directories (directories_with x) row h) [
          | inr new ↦ (turn_grows setup closing p_x both.second y).directories row (any_directory p at x row new)
          | inl old ↦ elim (among_both setup closing p.directories (directories_with y) row old) [
            | inr new ↦ any_directory p_x both.second y row new
            | inl o ↦ (turn_grows setup closing p_x both.second y).directories row
                ((turn_grows setup closing p at x).directories row o)
          ]
        ];
        calls = λ seat n h. subst (λ calls. list_any (is_call seat n) calls ≡ true) order_both h;
      };
      back = record {
        rows = λ row h. elim (among_both setup closing p_x.rows (rows_with setup.shape closing y) row h) [
          | inr new ↦ (turn_grows setup closing p_y both.first x).rows row (any_turn p other y row new)
          | inl old ↦ elim (among_both setup closing p.rows (rows_with setup.shape closing x) row old) [
            | inr new ↦ any_turn p_y both.first x row new
            | inl o ↦ (turn_grows setup closing p_y both.first x).rows row
                ((turn_grows setup closing p other y).rows row o)
          ]
        ];
        directories = λ row h. elim (among_both setup closing p_x.directories (directories_with y) row h) [
          | inr new ↦ (turn_grows setup closing p_y both.first x).directories row (any_directory p other y row new)
          | inl old ↦ elim (among_both setup closing p.directories (directories_with x) row old) [
            | inr new ↦ any_directory p_y both.first x row new
            | inl o ↦ (turn_grows setup closing p_y both.first x).directories row
                ((turn_grows setup closing p other y).directories row o)
          ]
        ];
        calls = λ seat n h. subst (λ calls. list_any (is_call seat n) calls ≡ true) (sym order_both) h;
      };
      order = order_both;
      left = without_is p_y.left both.first ∙ ap (λ xs. without xs both.first) (without_is p.left other) ∙ both.same
          ∙ sym (without_is p_x.left both.second ∙ ap (λ xs. without xs both.second) (without_is p.left at));
    }

  -- a ready piece without calls may be placed before the one that comes next, where so many are left after it
  abbrev FreeTurn : ℕ → Type 0
  FreeTurn most = (p : Placing) (at : ℕ) (x : Piece) → length p.left ≡ suc most → Turn setup closing p at x →
      calls_in setup.shape closing x ≡ [] → ends (suc most) p ≡ ends most (after setup closing p at x)

  -- the same where one fewer is left
  abbrev FreeBefore : ℕ → Type 0
  FreeBefore zero = Unit {0}
  FreeBefore (suc most) = FreeTurn most

  -- one alone is the one that is chosen
  lone : (xs : List Piece) (at other : ℕ) (x y : Piece) → at ≢ other → length xs ≡ 1 → slice_get xs at ≡ Some x →
      slice_get xs other ≡ Some y → ⊥
  lone [] at other x y n l h g = cc
  lone (z ∷ w ∷ xs) at other x y n l h g = absurd (omega (arith, l))
  lone (z ∷ []) zero zero x y n l h g = n refl
  lone (z ∷ []) (suc at) other x y n l h g = cc
  lone (z ∷ []) zero (suc other) x y n l h g = cc

  -- where another one without calls comes next
  with_other : (most : ℕ) → FreeBefore most → (p : Placing) (at other : ℕ) (x y : Piece) → length p.left ≡ suc most →
      Turn setup closing p at x → Turn setup closing p other y → calls_in setup.shape closing x ≡ [] →
      calls_in setup.shape closing y ≡ [] →
      choice setup.shape closing p ≡ Some other → at ≢ other →
      ends (suc most) p ≡ ends most (after setup closing p at x)
  with_other zero before p at other x y l t u f g e n = absurd (lone p.left at other x y n l t.stands u.stands)
  with_other (suc most) before p at other x y l t u f g e n =
      let b = both p at other x y t u f g n in
      let q = after setup closing p at x in
      let r = after setup closing p other y in
      next_is p other (suc most) y e u.stands
      ∙ before r b.first x (omega (arith, fewer setup closing p other y u, l)) (x_then p at other x y t u f g n) f
      ∙ alike_all most (after setup closing r b.first x) (after setup closing q b.second y)
      (alike_both p at other x y t u f g n)
      ∙ sym (before q b.second y (omega (arith, fewer setup closing p at x t, l)) (y_then p at other x y t u f g n) g)

  -- so it is by the choice: it is this piece, or one without calls that can be exchanged with it
  free_step : (most : ℕ) → FreeBefore most → FreeTurn most
  free_step most before p at x long t free = go (choice setup.shape closing p) refl
    where
      one_piece : (at : ℕ) (x y : Piece) → slice_get p.left at ≡ Some x → slice_get p.left at ≡ Some y → x ≡ y
      one_piece at x y e f = (let s : Some x ≡ Some y = sym e ∙ f in cc)

      go : (o : Option ℕ) → choice setup.shape closing p ≡ o →
          ends (suc most) p ≡ ends most (after setup closing p at x)
      go None e = absurd (none_ready setup closing p x e (in_at p.left at x t.stands)
          (omega (arith, ap rank_of_calls free)) t.ready)
      go (Some other) e =
          let y = free_first p x other (seats_of setup) (in_at p.left at x t.stands) t.ready free
          (ap (choice_from setup.shape closing p 0) (sym (add-one (seats_of setup))) ∙ e) in
          elim (cases_eq at other) [
            | inr n ↦ with_other most before p at other x y.0 long t y.1 free y.2 e n
            | inl same ↦
                let is : y.0 ≡ x = one_piece other y.0 x y.1.stands
                (subst (λ n. slice_get p.left n ≡ Some x) same t.stands) in
                next_is p other most y.0 e y.1.stands ∙ ap (λ n. ends most (after setup closing p n y.0)) (sym same)
                ∙ ap (λ z. ends most (after setup closing p at z)) is
          ]

  -- however many are left
  free_turn : (most : ℕ) → FreeTurn most
  free_turn zero = free_step zero tt
  free_turn (suc most) = free_step (suc most) (free_turn most)

  -- all that is left then takes its turns
  abbrev completed : Placing → List Placed
  completed p = ends (length p.left) p

  -- a free turn leaves the order that it ends with
  one_turn : (p q : Placing) → IsFreeTurn setup.shape closing p q → completed p ≡ completed q
  one_turn p q h =
      let t : Turn setup closing p h.at h.piece = record { stands = h.left; ready = h.ready } in
      let few = fewer setup closing p h.at h.piece t in
      ap (λ n. ends n p) few
      ∙ elim h.free [
        | inl none ↦ free_turn (length (after setup closing p h.at h.piece).left) p h.at h.piece few t none
        | inr next ↦ next_is p h.at (length (after setup closing p h.at h.piece).left) h.piece next h.left
      ]
      ∙ ap completed (sym h.placed)

  -- and so do all of them
  all_turns : (p : Placing) (placings : List Placing) → AreFreeTurns setup.shape closing p placings →
      completed p ≡ completed (fold (λ before after. after) p placings)
  all_turns p [] h = refl
  all_turns p (q ∷ placings) h = one_turn p q h.0 ∙ all_turns q placings h.1

  -- wherever such turns end with nothing left, the calls stand in the one order
  pub turns_do_not_matter : (placings : List Placing) →
      (let last = fold (λ before after. after) (start_of setup.shape closing) placings in
      AreFreeTurns setup.shape closing (start_of setup.shape closing) placings → last.left ≡ [] →
      last.order ≡ order_of setup.shape closing)
  unfolding placing_of
  turns_do_not_matter placings free none =
      let last = fold (λ before after. after) (start_of setup.shape closing) placings in
      ap (λ xs. ends (length xs) last) (sym none) ∙ sym (all_turns (start_of setup.shape closing) placings free)
