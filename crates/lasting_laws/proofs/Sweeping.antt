-- A sweep, step by step: the rows of its seat stay once each, those that are current stay named, and there are enough.
use Rattle.std.proofs.Common.{◌≡◌, ◌≢◌, ℕ, ◌+◌, ◌*◌, ◌<◌, ◌≤◌, ◌⊎◌, inl, inr, Bool, true, false, cond, List, [], ◌∷◌, ◌++◌, length, Some, refl, sym, ap, ◌∙◌, subst, arith}
use Rattle.std.specs.Prelude.{◌==◌, nat_lt}
use Rattle.std.proofs.lemmas.Bool.{cases_eq, eq-eqb, eqb-true, eqb-false, ltb-true, ltb-false}
use Rattle.std.proofs.lemmas.List.{length-append, append-nil}
use Rattle.list_laws.proofs.Lists.{In, in_left, in_right}
use Rattle.list_laws.proofs.Totals.{one_if}
use Rattle.table_model.specs.Setup.{seats_of}
use Rattle.lasting_model.specs.Plans.{Plan, ample, buckets_of}
use Rattle.lasting_model.specs.Codes.{row_in, is_asking, time_in, held_row}
use Rattle.lasting_model.specs.Steps.{Sweep, Homes, Seats, Sees, Loads, Gives}
use Rattle.lasting_model.specs.Goes.{SweepFate, SweepsOn, Swept, without, alone, rows_of, hold_or_end, seats_from, homes_on, past_home, past_hold, sweep_fate}
use Rattle.lasting_laws.proofs.Pools.{Lists, HomesRoom, SeatsRoom, NextSeat, places, todo_of, gone_of, has_row, keeps_one, loses_one, holds_one, held_once, frees_all, single, in_many, distinct_few}

-- the ghost has as many seats
pub seats_are : (plan : Plan) → seats_of (ample plan) ≡ plan.settings.seats
unfolding ample
seats_are plan = refl

module _ (plan : Plan) (word : ℕ → ℕ) (p : ℕ) (inside : p < plan.settings.seats) (free : List ℕ) where
  -- what was named and stands in its bucket word stays named
  abbrev pub Stay : (named todo now_named now_todo : List (ℕ × ℕ)) → Type 0
  Stay named todo now_named now_todo =
      (r : ℕ × ℕ) → In r named ⊎ In r todo → word r.1 ≡ r.0 → In r now_named ⊎ In r now_todo

  -- the sweep has come to a seat
  abbrev pub AtSeat : (named todo now : List (ℕ × ℕ)) (k : ℕ) (gone : List (ℕ × ℕ)) → Type 0
  AtSeat named todo now k gone =
      Lists plan word p free now [] gone × NextSeat plan p now k × Stay named todo now []

  -- where a step of a sweep may lead, of whose piece so many rows are looked at
  abbrev pub Good : (looked : ℕ) (named todo : List (ℕ × ℕ)) → SweepFate → Type 0
  Good looked named todo (SweepsOn kept (Homes next gone)) =
      Lists plan word p free (named ++ kept) next gone × HomesRoom plan word (named ++ kept) next gone looked
      × (1 ≤ length next) × Stay named todo (named ++ kept) next
  Good looked named todo (SweepsOn kept (Seats k gone)) = AtSeat named todo (named ++ kept) k gone
  Good looked named todo (SweepsOn kept (Sees k t gone)) = AtSeat named todo (named ++ kept) k gone
  Good looked named todo (SweepsOn kept (Loads k t bucket gone)) = AtSeat named todo (named ++ kept) k gone
  Good looked named todo (SweepsOn kept (Gives k t row gone)) = AtSeat named todo (named ++ kept) k gone
  Good looked named todo (Swept kept gone) =
      Lists plan word p (free ++ rows_of gone) (named ++ kept) [] []
      × (2 * (length (named ++ kept) + 1) + 1 ≤ 3 * places plan) × Stay named todo (named ++ kept) []

  -- what holds before a seat is chosen
  abbrev pub Before : (named todo now : List (ℕ × ℕ)) (k : ℕ) (gone : List (ℕ × ℕ)) → Type 0
  Before named todo now k gone = Lists plan word p free now [] gone × SeatsRoom plan p now k × Stay named todo now []

  -- with the own seat passed over
  to_end : (looked : ℕ) (named todo kept gone : List (ℕ × ℕ)) (k : ℕ) → Before named todo (named ++ kept) k gone →
      k ≢ p → Good looked named todo (hold_or_end (ample plan) k kept gone)
  to_end looked named todo kept gone k before other = go (nat_lt k (seats_of (ample plan))) refl
    where
      room : SeatsRoom plan p (named ++ kept) k
      room = before.1

      go : (b : Bool) → nat_lt k (seats_of (ample plan)) ≡ b →
          Good looked named todo (cond b (SweepsOn kept (Seats k gone)) (Swept kept gone))
      go true e =
          let less : k < plan.settings.seats =
          subst (λ n. k < n) (seats_are plan) (ltb-true k (seats_of (ample plan)) e) in
          (before.0, (room, less, other), before.2)
      go false e =
          let all : plan.settings.seats ≤ k =
          subst (λ n. n ≤ k) (seats_are plan) (ltb-false k (seats_of (ample plan)) e) in
          let one : room.held + 1 ≤ k = room.past_own (omega (arith, inside, all)) in (
            frees_all plan word p free (named ++ kept) gone before.0,
            omega (arith, room.named_are, room.few, room.slow, room.within, one),
            before.2,
          )

  to_seats : (looked : ℕ) (named todo kept gone : List (ℕ × ℕ)) (k : ℕ) → Before named todo (named ++ kept) k gone →
      Good looked named todo (seats_from (ample plan) p k kept gone)
  to_seats looked named todo kept gone k before = go (k == p) refl
    where
      room : SeatsRoom plan p (named ++ kept) k
      room = before.1

      go : (b : Bool) → (k == p) ≡ b →
          Good looked named todo (hold_or_end (ample plan) (cond b (k + 1) k) kept gone)
      go true e =
          let same : k ≡ p = eqb-true k p e in
          to_end looked named todo kept gone (k + 1) (
            before.0,
            record {
              kept = room.kept;
              held = room.held;
              since = room.since;
              named_are = room.named_are;
              few = room.few;
              slow = room.slow;
              within = omega (arith, same, inside);
              each_one = omega (arith, room.each_one);
              past_own = λ less. omega (arith, room.each_one);
            },
            before.2,
          )
          (λ f. omega (arith, same, f))
      go false e = to_end looked named todo kept gone k before (eqb-false k p e)

  -- the next own row, or the seats
  to_homes : (looked : ℕ) (named todo kept next gone : List (ℕ × ℕ)) →
      Lists plan word p free (named ++ kept) next gone → 1 ≤ looked →
      HomesRoom plan word (named ++ kept) next gone looked → Stay named todo (named ++ kept) next →
      Good looked named todo (homes_on (ample plan) p kept next gone)
  to_homes looked named todo kept [] gone lists some room stay =
      to_seats looked named todo kept gone 0 (
        lists,
        record {
          kept = length room.kept;
          held = 0;
          since = room.since;
          named_are = omega (arith, room.named_are);
          few = distinct_few (buckets_of plan.settings) room.kept room.once room.inside;
          slow = omega (arith, room.start, room.slow, some);
          within = omega arith;
          each_one = omega arith;
          past_own = λ less. absurd (omega (arith, less));
        },
        stay,
      )
  to_homes looked named todo kept (row ∷ next) gone lists some room stay = (lists, room, omega arith, stay)

  -- an own row is looked at
  home : (looked : ℕ) (named : List (ℕ × ℕ)) (r : ℕ × ℕ) (todo gone : List (ℕ × ℕ)) (found : ℕ) →
      Lists plan word p free named (r ∷ todo) gone → HomesRoom plan word named (r ∷ todo) gone looked →
      row_in found ≡ word r.1 →
      Good (looked + 1) named (r ∷ todo) (past_home (ample plan) p r todo gone found)
  home looked named r todo gone found lists room is = go (row_in found == r.0) refl
    where
      still : (x : ℕ × ℕ) → In x named ⊎ In x (r ∷ todo) → In x (named ++ r ∷ []) ⊎ In x todo
      still x i = elim i [
        | inl a ↦ inl (in_left x named (r ∷ []) a)
        | inr a ↦ elim a [ inl e ↦ inl (in_right x named (r ∷ []) (inl e)) | inr b ↦ inr b ]
      ]

      twice : (x : ℕ × ℕ) → In x todo → x.0 ≢ r.0
      twice x i e =
          (let one : one_if (has_row x.0) r ≡ 1 = ap (λ (b : Bool). cond {A = ℕ} b 1 0) (eq-eqb (r.0) (x.0) (sym e)) in
          omega (arith, one, in_many x todo i, single plan word p free named (r ∷ todo) gone lists (x.0)))

      go : (b : Bool) → (row_in found == r.0) ≡ b → Good (looked + 1) named (r ∷ todo)
          (cond b (homes_on (ample plan) p (r ∷ []) todo gone) (homes_on (ample plan) p [] todo (r ∷ gone)))
      go true e =
          let stands : word r.1 ≡ r.0 = sym is ∙ eqb-true (row_in found) (r.0) e in
          to_homes (looked + 1) named (r ∷ todo) (r ∷ []) todo gone (keeps_one plan word p free named r todo gone lists)
          (omega arith)
          (record {
            kept = r.1 ∷ room.kept;
            since = room.since;
            named_are = omega (arith, room.named_are, length-append named (r ∷ []));
            inside = λ b i. elim i [
              | inl same ↦ subst (λ z. z < buckets_of plan.settings) (sym same) (lists.homes r (inr (inl (inl refl))))
              | inr n ↦ room.inside b n
            ];
            once = (λ i. room.replaced r (inl refl) i stands, room.once);
            replaced = λ x i among same. elim among [
              | inl here ↦ twice x i (sym same ∙ ap word here ∙ stands)
              | inr n ↦ room.replaced x (inr i) n same
            ];
            start = omega (arith, room.start);
            slow = omega (arith, room.slow);
          })
          (λ x i same. still x i)
      go false e =
          let other : word r.1 ≢ r.0 = λ same. eqb-false (row_in found) (r.0) e (is ∙ same) in
          let none : named ++ [] ≡ named = append-nil named in
          to_homes (looked + 1) named (r ∷ todo) [] todo (r ∷ gone)
          (subst (λ (ns : List (ℕ × ℕ)). Lists plan word p free ns todo (r ∷ gone)) (sym none)
          (loses_one plan word p free named r todo gone lists other))
          (omega arith)
          (record {
            kept = room.kept;
            since = room.since;
            named_are = ap (λ (ns : List (ℕ × ℕ)). length ns) none ∙ room.named_are;
            inside = room.inside;
            once = room.once;
            replaced = λ x i among. room.replaced x (inr i) among;
            start = omega (arith, room.start);
            slow = omega (arith, room.slow);
          })
          (λ x i same. elim i [
            | inl a ↦ inl (in_left x named [] a)
            | inr a ↦ elim a [
              | inl here ↦ absurd (other (ap (λ (z : ℕ × ℕ). word z.1) (sym here) ∙ same ∙ ap
                  (λ (z : ℕ × ℕ). z.0) here))
              | inr b ↦ inr b
            ]
          ])

  -- no row of this seat is held
  passes : (looked : ℕ) (named gone : List (ℕ × ℕ)) (k : ℕ) → Lists plan word p free named [] gone →
      NextSeat plan p named k → Good looked named [] (seats_from (ample plan) p (k + 1) [] gone)
  passes looked named gone k lists at =
      let none : named ++ [] ≡ named = append-nil named in
      to_seats looked named [] [] gone (k + 1) (
        subst (λ (ns : List (ℕ × ℕ)). Lists plan word p free ns [] gone) (sym none) lists,
        record {
          kept = at.0.kept;
          held = at.0.held;
          since = at.0.since;
          named_are = ap (λ (ns : List (ℕ × ℕ)). length ns) none ∙ at.0.named_are;
          few = at.0.few;
          slow = at.0.slow;
          within = omega (arith, at.1);
          each_one = omega (arith, at.0.each_one);
          past_own = λ less. omega (arith, at.0.each_one);
        },
        λ x i same. elim i [ inl a ↦ inl (in_left x named [] a) | inr a ↦ absurd a ],
      )

  -- one row may be held, which stays named
  past : (looked : ℕ) (named gone : List (ℕ × ℕ)) (k found : ℕ) → Lists plan word p free named [] gone →
      NextSeat plan p named k → Good looked named [] (past_hold (ample plan) p k gone found)
  past looked named gone k found lists at = go (found == 0)
    where
      lt_other : (i j : ℕ) → i ≢ j → j < i + 1 → j < i
      lt_other i j other less = elim (cases_eq i j) [ inl e ↦ absurd (other e) | inr n ↦ omega (arith, n, less) ]

      held : List (ℕ × ℕ)
      held = alone (held_row found) gone

      go : (b : Bool) → Good looked named []
          (cond b (seats_from (ample plan) p (k + 1) [] gone)
          (seats_from (ample plan) p (k + 1) held (without (held_row found) gone)))
      go true = passes looked named gone k lists at
      go false =
          let most : length held ≤ 1 = held_once plan word p free named gone (held_row found) lists in
          to_seats looked named [] held (without (held_row found) gone) (k + 1) (
            holds_one plan word p free named gone (held_row found) lists,
            record {
              kept = at.0.kept;
              held = at.0.held + length held;
              since = at.0.since;
              named_are = omega (arith, at.0.named_are, length-append named held);
              few = at.0.few;
              slow = at.0.slow;
              within = omega (arith, at.1);
              each_one = omega (arith, at.0.each_one, most);
              past_own = λ less. omega (arith, most, at.0.past_own (lt_other k p at.2 less));
            },
            λ x i same. elim i [ inl a ↦ inl (in_left x named held a) | inr a ↦ absurd a ],
          )

  -- it stays at this seat
  remains : (named gone : List (ℕ × ℕ)) (k : ℕ) → Lists plan word p free named [] gone → NextSeat plan p named k →
      AtSeat named [] (named ++ []) k gone
  remains named gone k lists at =
      let none : named ++ [] ≡ named = append-nil named in (
        subst (λ (ns : List (ℕ × ℕ)). Lists plan word p free ns [] gone) (sym none) lists,
        subst (λ (ns : List (ℕ × ℕ)). NextSeat plan p ns k) (sym none) at,
        λ x i same. elim i [ inl a ↦ inl (in_left x named [] a) | inr a ↦ absurd a ],
      )

  -- what holds of a sweep under way
  abbrev pub UnderWay : (looked : ℕ) (named : List (ℕ × ℕ)) → Sweep → Type 0
  UnderWay looked named (Homes todo gone) = HomesRoom plan word named todo gone looked × (1 ≤ length todo)
  UnderWay looked named (Seats k gone) = NextSeat plan p named k
  UnderWay looked named (Sees k t gone) = NextSeat plan p named k
  UnderWay looked named (Loads k t bucket gone) = NextSeat plan p named k
  UnderWay looked named (Gives k t row gone) = NextSeat plan p named k

  -- the word that it finds, as far as it matters: that of the bucket of an own row
  abbrev pub IsFound : Sweep → (found : ℕ) → Type 0
  IsFound (Homes [] gone) found = Unit {0}
  IsFound (Homes (r ∷ todo) gone) found = row_in found ≡ word r.1
  IsFound (Seats k gone) found = Unit {0}
  IsFound (Sees k t gone) found = Unit {0}
  IsFound (Loads k t bucket gone) found = Unit {0}
  IsFound (Gives k t row gone) found = Unit {0}

  -- THE RESULT: each step of a sweep leads where it may
  pub sweep_good : (looked : ℕ) (named : List (ℕ × ℕ)) (sweep : Sweep) (found : ℕ) →
      Lists plan word p free named (todo_of (Some sweep)) (gone_of (Some sweep)) → UnderWay looked named sweep →
      IsFound sweep found → Good (looked + 1) named (todo_of (Some sweep)) (sweep_fate (ample plan) p sweep found)
  sweep_good looked named (Homes [] gone) found lists room is = absurd (omega (arith, room.1))
  sweep_good looked named (Homes (r ∷ todo) gone) found lists room is =
      home looked named r todo gone found lists room.0 is
  sweep_good looked named (Seats k gone) found lists room is = go (is_asking found)
    where
      go : (b : Bool) → Good (looked + 1) named []
          (cond b (SweepsOn [] (Sees k (time_in found) gone)) (past_hold (ample plan) p k gone found))
      go true = remains named gone k lists room
      go false = past (looked + 1) named gone k found lists room
  sweep_good looked named (Sees k t gone) found lists room is = remains named gone k lists room
  sweep_good looked named (Loads k t bucket gone) found lists room is = remains named gone k lists room
  sweep_good looked named (Gives k t row gone) found lists room is = go (is_asking found)
    where
      go : (b : Bool) → Good (looked + 1) named []
          (cond b (seats_from (ample plan) p (k + 1) [] gone) (past_hold (ample plan) p k gone found))
      go true = passes (looked + 1) named gone k lists room
      go false = past (looked + 1) named gone k found lists room
