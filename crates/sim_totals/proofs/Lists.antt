-- Sums over views, and lists and worlds that change at one place.
use Rattle.std.proofs.Common.{◌≡◌, ◌≢◌, ℕ, zero, suc, ◌+◌, ◌<◌, ◌≤◌, Bool, true, false, cond, ltb, ◌&&◌, List, [], ◌∷◌, ◌++◌, length, get_or, set, inl, inr, refl, sym, ap, ◌∙◌, arith, get_or-set_other, length-set, append_assoc}
use Rattle.std.proofs.lemmas.Bool.{cases_eq, eq-eqb, ne_eqb, cond-true, lt-ltb, and_from}
use Rattle.std.proofs.lemmas.List.{append-nil}
use mathlib.Core.Option.{some, some-injective, some-ne-none}
use lib.ListN.{get_elem?}
use Rattle.sim_steps.specs.declared.adds.Add.{Add}
use Rattle.sim_steps.specs.Layout.{Settings, seats_of}
use Rattle.sim_steps.specs.Program.{Seat, ready, resting}
use Rattle.sim_steps.specs.World.{World, Event, AreStepsFrom, can_act, seat_in, acts, happens, world_from, world_after}
use Rattle.sim_steps.specs.Laws.{events_of}
use Rattle.sim_totals.specs.declared.view.View.{View}
use Rattle.sim_totals.specs.Rule.{Entry, is_at, once_below, times, total, StartsWith, Among}

module _ (g : View → ℕ) where
  -- a total of two lists
  pub total-append : (l m : List View) → total g (l ++ m) ≡ total g l + total g m
  total-append [] m = omega arith
  total-append (x ∷ xs) m = omega (arith, total-append xs m)

  -- a total where one view is another
  pub total-set : (l : List View) (j : ℕ) (v w : View) → get_elem? l j ≡ some v →
      total g (set l j w) + g v ≡ total g l + g w
  total-set [] j v w e = absurd (some-ne-none v (sym e))
  total-set (x ∷ xs) zero v w e = omega (arith, ap g (some-injective x v e))
  total-set (x ∷ xs) (suc j) v w e = omega (arith, total-set xs j v w e)

  -- a view is within the total
  pub term_le : (l : List View) (j : ℕ) (v : View) → get_elem? l j ≡ some v → g v ≤ total g l
  term_le [] j v e = absurd (some-ne-none v (sym e))
  term_le (x ∷ xs) zero v e = omega (arith, ap g (some-injective x v e))
  term_le (x ∷ xs) (suc j) v e = omega (arith, term_le xs j v e)

  -- and two views together are
  pub terms_le : (l : List View) (j k : ℕ) (v u : View) → k ≢ j → get_elem? l j ≡ some v → get_elem? l k ≡ some u →
      g v + g u ≤ total g l
  terms_le [] j k v u n e d = absurd (some-ne-none v (sym e))
  terms_le (x ∷ xs) zero zero v u n e d = absurd (n refl)
  terms_le (x ∷ xs) zero (suc k) v u n e d = omega (arith, ap g (some-injective x v e), term_le xs k u d)
  terms_le (x ∷ xs) (suc j) zero v u n e d = omega (arith, ap g (some-injective x u d), term_le xs j v e)
  terms_le (x ∷ xs) (suc j) (suc k) v u n e d = omega (arith, terms_le xs j k v u (λ h. n (ap suc h)) e d)

-- one seat is itself
pub same_seat : (k i : ℕ) → k ≡ i → is_at k i ≡ 1
same_seat k i is = let f : Bool → ℕ = λ b. cond b 1 0 in ap f (eq-eqb k i is)

-- two seats are two
pub other_seat : (k i : ℕ) → k ≢ i → is_at k i ≡ 0
other_seat k i not = let f : Bool → ℕ = λ b. cond b 1 0 in ap f (ne_eqb k i not)

-- a seat is counted once at most
pub once_few : (n i : ℕ) → once_below n i ≤ 1
once_few n i = elim (ltb i n) as (λ b. cond b 1 0 ≤ 1) [ true ↦ omega arith | false ↦ omega arith ]

-- ---- one more event

-- a seat's events with one more
pub own-snoc : (i : ℕ) (es : List Event) (e : Event) → events_of i (es ++ e ∷ []) ≡ events_of i es + is_at e.seat i
own-snoc i [] e = omega arith
own-snoc i (x ∷ xs) e = omega (arith, own-snoc i xs e)

-- what was seen is still seen
pub starts-more : (es seen : List Event) (e : Event) → StartsWith es seen → StartsWith (es ++ e ∷ []) seen
starts-more es seen e s = (s.0 ++ e ∷ [], ap (λ (l : List Event). l ++ e ∷ []) s.1 ∙ append_assoc seen s.0 (e ∷ []))

-- all that is there may be seen
pub starts-self : (es : List Event) → StartsWith es es
starts-self es = ([], sym (append-nil es))

-- what was seen of what was seen is seen
pub starts-through : (a b c : List Event) → StartsWith a b → StartsWith b c → StartsWith a c
starts-through a b c p q = (q.0 ++ p.0, p.1 ∙ ap (λ (l : List Event). l ++ p.0) q.1 ∙ append_assoc c q.0 p.0)

-- the world after one event more
pub world-snoc : (c : Settings) (w : World) (es : List Event) (e : Event) →
    world_from c w (es ++ e ∷ []) ≡ happens c (world_from c w es) e
world-snoc c w [] e = refl
world-snoc c w (x ∷ xs) e = world-snoc c (happens c w x) xs e

-- an event of a seat that can act
abbrev pub IsStep : Settings → World → Event → Type 0
IsStep c w e = (ltb e.seat (seats_of c) && can_act c e.seat e.add (seat_in w e.seat)) ≡ true

-- one more event is a step where it can be taken
pub steps-snoc : (c : Settings) (w : World) (es : List Event) (e : Event) → AreStepsFrom c w es →
    IsStep c (world_from c w es) e → AreStepsFrom c w (es ++ e ∷ [])
steps-snoc c w [] e a h = (h, tt)
steps-snoc c w (x ∷ xs) e a h = (a.0, steps-snoc c (happens c w x) xs e a.1 h)

-- an event of a seat that can act is its step
pub happens-at : (c : Settings) (w : World) (i : ℕ) (x : Add) (s : Seat) → i < seats_of c → seat_in w i ≡ s →
    can_act c i x s ≡ true →
    IsStep c w (record { seat = i; add = x }) × (happens c w (record { seat = i; add = x }) ≡ acts c i (ready x s) w)
happens-at c w i x s h e t =
    let can : can_act c i x (seat_in w i) ≡ true = ap (can_act c i x) e ∙ t in
    let test : (ltb i (seats_of c) && can_act c i x (seat_in w i)) ≡ true =
    and_from (ltb i (seats_of c)) (can_act c i x (seat_in w i)) (lt-ltb i (seats_of c) h) can in (
      test,
      cond-true {A = World} (ltb i (seats_of c) && can_act c i x (seat_in w i))
          (acts c i (ready x (seat_in w i)) w) w test ∙ ap (λ y. acts c i (ready x y) w) e,
    )

-- an event leaves as many seats
length-happens : (c : Settings) (w : World) (e : Event) → length (happens c w e).seats ≡ length w.seats
length-happens c w e = go (ltb e.seat (seats_of c) && can_act c e.seat e.add (seat_in w e.seat))
  where
    go : (b : Bool) → length (cond b (acts c e.seat (ready e.add (seat_in w e.seat)) w) w).seats ≡ length w.seats
    go true = length-set w.seats e.seat _
    go false = refl

-- and so do all of them
pub length-world : (c : Settings) (w : World) (es : List Event) → length (world_from c w es).seats ≡ length w.seats
length-world c w [] = refl
length-world c w (e ∷ es) = length-world c (happens c w e) es ∙ length-happens c w e

-- entries of other seats stay where one seat changes
pub among_else : (c : Settings) (run : List Event) (e : Event) (d : Settings) (i : ℕ) (t : Seat) (es : List Entry) →
    e.seat ≡ i → (world_after c (run ++ e ∷ [])).seats ≡ set (world_after c run).seats i t
    → times i es ≡ 0 → Among c run d es → Among c (run ++ e ∷ []) d es
among_else c run e d i t [] by now z a = tt
among_else c run e d i t (x ∷ xs) by now z a =
    elim (cases_eq x.0 i) [
      | inl is ↦ absurd (omega (arith, same_seat x.0 i is, z))
      | inr ne ↦
          (let far : is_at e.seat x.0 ≡ 0 = other_seat e.seat x.0 (λ h. ne (sym h ∙ by)) in
          let count : events_of x.0 (run ++ e ∷ []) ≡ events_of x.0 x.2 =
          omega (arith, own-snoc x.0 run e, a.4, far) in (
            a.0,
            a.1,
            ap (λ (ss : List Seat). get_or ss x.0 resting) now
                ∙ get_or-set_other (world_after c run).seats i x.0 t resting ne ∙ a.2,
            starts-more run x.2 e a.3,
            count,
            among_else c run e d i t xs by now (omega arith) a.5,
          ))
    ]
