-- The placed calls of each seat are its first so many. So what has to stand before a call is a matter of numbers, and
-- a ready piece has of each of its seats the next call.
use Rattle.std.proofs.Common.{◌≡◌, ℕ, zero, suc, ◌+◌, ◌-◌, ◌<◌, ◌≤◌, true, false, List, ◌++◌, true≢false, refl, inl, inr, sym, ap, arith, eqb-true, eq-eqb}
use Rattle.std.specs.Prelude.{◌==◌, if◌then◌else◌}
use Rattle.std.specs.List.{list_all, range_with_len}
use Rattle.std.proofs.lemmas.Bool.{and_parts, and_from, cases_Bool, cases_lt}
use Rattle.plain_map.specs.History.{Placed, seat_of, number_of, seen_of}
use Rattle.table_model.specs.Setup.{Setup, seats_of}
use Rattle.table_model.specs.Order.{Closing, Piece, Placing, is_call, calls_in, is_placed, are_placed, is_next, has_base, is_ready, start_of}
use Rattle.table_model.specs.Turns.{has_call_of}
use Rattle.list_laws.proofs.Lists.{In, all_at, all_from, any_at, any_from, in_both, in_right, in_range, range_in}
use Rattle.placing_laws.proofs.Turns.{Turn, after, turn_grows}
use Rattle.placing_laws.proofs.Stuck.{is_call_at, call_is_at}
use Rattle.placing_laws.proofs.Alone.{Alone}

module _ (setup : Setup) (closing : Closing) where
  -- of each seat just the first so many calls are placed
  pub record Counted (many : ℕ → ℕ) (p : Placing) : Type 0 where
    pub has : (seat n : ℕ) → 1 ≤ n → n ≤ many seat → is_placed p.order seat n ≡ true
    pub only : (seat n : ℕ) → is_placed p.order seat n ≡ true → (1 ≤ n) × (n ≤ many seat)

  -- before the first turn none is
  pub counted_start : Counted (λ seat. 0) (start_of setup.shape closing)
  counted_start = record {
    has = λ seat n one few. absurd (omega (arith, one, few));
    only = λ seat n h. absurd (true≢false (sym h));
  }

  -- so many are placed, where that is not more
  pub few_placed : (many : ℕ → ℕ) (p : Placing) → Counted many p → (m seat : ℕ) → m ≤ many seat →
      are_placed p.order m seat ≡ true
  few_placed many p c m seat few = all_from (is_placed p.order seat) (range_with_len 1 m)
      (λ n i. let r = in_range 1 m n i in c.has seat n r.0 (omega (arith, r.1, few)))

  -- and only where it is not
  pub placed_few : (many : ℕ → ℕ) (p : Placing) → Counted many p → (m seat : ℕ) →
      are_placed p.order m seat ≡ true → m ≤ many seat
  placed_few many p c zero seat h = omega arith
  placed_few many p c (suc m) seat h =
      (c.only seat (suc m) (all_at (is_placed p.order seat) (range_with_len 1 (suc m)) (suc m) h
      (range_in 1 (suc m) (suc m) (omega arith) (omega arith)))).1

  -- the numbers that a call waits for
  pub record Comes (many : ℕ → ℕ) (c : Placed) : Type 0 where
    pub own : number_of c ≤ many (seat_of c) + 1
    pub seen : (seat : ℕ) → seat < seats_of setup → seen_of c seat ≤ many seat

  -- a call that may come next has them
  pub next_comes : (many : ℕ → ℕ) (p : Placing) → Counted many p → (c : Placed) →
      is_next setup.shape p.order c ≡ true → Comes many c
  next_comes many p k c h =
      let parts = and_parts (are_placed p.order (number_of c - 1) (seat_of c))
      (list_all (λ seat. are_placed p.order (seen_of c seat) seat) (range_with_len 0 (seats_of setup))) h in
      record {
        own = omega (arith, placed_few many p k (number_of c - 1) (seat_of c) parts.0);
        seen = λ seat inside. placed_few many p k (seen_of c seat) seat
            (all_at (λ s. are_placed p.order (seen_of c s) s) (range_with_len 0 (seats_of setup)) seat parts.1
            (range_in 0 (seats_of setup) seat (omega arith) (omega (arith, inside))));
      }

  -- and one that has them may come next
  pub comes_next : (many : ℕ → ℕ) (p : Placing) → Counted many p → (c : Placed) → Comes many c →
      is_next setup.shape p.order c ≡ true
  comes_next many p k c h =
      and_from (are_placed p.order (number_of c - 1) (seat_of c))
      (list_all (λ seat. are_placed p.order (seen_of c seat) seat) (range_with_len 0 (seats_of setup)))
      (few_placed many p k (number_of c - 1) (seat_of c) (omega (arith, h.own)))
      (all_from (λ seat. are_placed p.order (seen_of c seat) seat) (range_with_len 0 (seats_of setup))
      (λ seat i. let r = in_range 0 (seats_of setup) seat i in
      few_placed many p k (seen_of c seat) seat (h.seen seat (omega (arith, r.1)))))

  -- a call of a ready piece that is left is the next of its seat
  pub is_the_next : (many : ℕ → ℕ) (p : Placing) (x : Piece) (c : Placed) → Counted many p →
      Alone setup closing p → In x p.left → is_ready setup.shape closing p x ≡ true →
      In c (calls_in setup.shape closing x) → 1 ≤ number_of c → number_of c ≡ many (seat_of c) + 1
  is_the_next many p x c k a i ready m one =
      let next = all_at (is_next setup.shape p.order) (calls_in setup.shape closing x) c
      (and_parts (has_base setup.shape closing p x)
      (list_all (is_next setup.shape p.order) (calls_in setup.shape closing x)) ready).1 m in
      let few = (next_comes many p k c next).own in
      elim (cases_lt (number_of c) (many (seat_of c) + 1)) [
        | inr past ↦ omega (arith, past, few)
        | inl less ↦ absurd ((a.fresh x i).calls c (seat_of c) (number_of c) m refl refl
            (k.has (seat_of c) (number_of c) one (omega (arith, less))))
      ]

  -- the numbers after a turn: one more for each seat that has a call in the piece
  abbrev pub more_of : (ℕ → ℕ) → Piece → ℕ → ℕ
  more_of many x seat =
      if has_call_of seat (calls_in setup.shape closing x) then many seat + 1 else many seat

  -- a seat that has a call there
  more_with : (many : ℕ → ℕ) (x : Piece) (seat : ℕ) → has_call_of seat (calls_in setup.shape closing x) ≡ true →
      more_of many x seat ≡ many seat + 1
  more_with many x seat h = ap (λ b. if b then many seat + 1 else many seat) h

  -- and one that has none
  more_without : (many : ℕ → ℕ) (x : Piece) (seat : ℕ) →
      has_call_of seat (calls_in setup.shape closing x) ≡ false → more_of many x seat ≡ many seat
  more_without many x seat h = ap (λ b. if b then many seat + 1 else many seat) h

  -- they are never fewer
  more_least : (many : ℕ → ℕ) (x : Piece) (seat : ℕ) → many seat ≤ more_of many x seat
  more_least many x seat = elim (cases_Bool (has_call_of seat (calls_in setup.shape closing x))) [
    | inl h ↦ omega (arith, more_with many x seat h)
    | inr h ↦ omega (arith, more_without many x seat h)
  ]

  -- each turn keeps it
  pub counted_step : (many : ℕ → ℕ) (p : Placing) (at : ℕ) (x : Piece) → Turn setup closing p at x →
      In x p.left → Alone setup closing p →
      ((c : Placed) → In c (calls_in setup.shape closing x) → 1 ≤ number_of c) →
      Counted many p → Counted (more_of many x) (after setup closing p at x)
  counted_step many p at x t i a numbered k = record { has = has_then; only = only_then }
    where
      calls : List Placed
      calls = calls_in setup.shape closing x

      is_next_number : (c : Placed) → In c calls → number_of c ≡ many (seat_of c) + 1
      is_next_number c m = is_the_next many p x c k a i t.ready m (numbered c m)

      old : (seat n : ℕ) → 1 ≤ n → n ≤ many seat → is_placed (p.order ++ calls) seat n ≡ true
      old seat n one few = (turn_grows setup closing p at x).calls seat n (k.has seat n one few)

      has_then : (seat n : ℕ) → 1 ≤ n → n ≤ more_of many x seat → is_placed (p.order ++ calls) seat n ≡ true
      has_then seat n one few = elim (cases_Bool (has_call_of seat calls)) [
        | inr none ↦ old seat n one (omega (arith, few, more_without many x seat none))
        | inl some ↦ elim (cases_lt n (many seat + 1)) [
          | inl less ↦ old seat n one (omega (arith, less))
          | inr past ↦
              let c = any_at (λ (d : Placed). seat_of d == seat) calls some in
              let of : seat_of c.0 ≡ seat = eqb-true (seat_of c.0) seat c.2 in
              let number : number_of c.0 ≡ n =
              omega (arith, past, few, more_with many x seat some, is_next_number c.0 c.1, ap many of) in
              any_from (is_call seat n) (p.order ++ calls) c.0 (in_right c.0 p.order calls c.1)
              (is_call_at c.0 seat n of number)
        ]
      ]

      only_then : (seat n : ℕ) → is_placed (p.order ++ calls) seat n ≡ true → (1 ≤ n) × (n ≤ more_of many x seat)
      only_then seat n h =
          let c = any_at (is_call seat n) (p.order ++ calls) h in
          elim (in_both c.0 p.order calls c.1) [
            | inl there ↦
                let r = k.only seat n (any_from (is_call seat n) p.order c.0 there c.2) in
                (r.0, omega (arith, r.1, more_least many x seat))
            | inr new ↦
                let is = call_is_at c.0 seat n c.2 in
                let some : has_call_of seat calls ≡ true =
                any_from (λ (d : Placed). seat_of d == seat) calls c.0 new (eq-eqb (seat_of c.0) seat is.0) in (
                  omega (arith, numbered c.0 new, is.1),
                  omega (arith, more_with many x seat some, is_next_number c.0 new, is.1, ap many is.0),
                )
          ]
