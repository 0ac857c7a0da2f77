-- A step of a sweep, as the held look sees it.
use Rattle.std.proofs.Common.{◌≡◌, ◌≢◌, ℕ, ◌+◌, ◌%◌, ◌<◌, ◌≤◌, ◌⊎◌, inl, inr, Bool, true, false, cond, not, List, [], ◌∷◌, ◌++◌, Some, refl, sym, ap, ◌∙◌, subst, arith}
use Rattle.std.specs.Prelude.{◌==◌, nat_lt, ◌||◌}
use Rattle.std.proofs.lemmas.Bool.{cases_eq, cases_Bool, eq-eqb, eqb-true, eqb-false, ne_eqb, ltb-false}
use Rattle.list_laws.proofs.Lists.{In, any_at, any_from}
use Rattle.word_rows.specs.Memory.{put}
use Rattle.table_model.specs.Setup.{seats_of}
use Rattle.lasting_model.specs.Plans.{Plan, ample, buckets_of}
use Rattle.lasting_model.specs.Codes.{row_in, asking, is_asking, time_in, held_row}
use Rattle.lasting_model.specs.Steps as S
use Rattle.lasting_model.specs.Goes.{SweepFate, SweepsOn, Swept, without, alone, rows_of, hold_or_end, seats_from, homes_on, past_home, past_hold, sweep_fate}
use Rattle.lasting_laws.proofs.Lists.{either_put}
use Rattle.lasting_laws.proofs.Pools.{owner_in}
use Rattle.lasting_laws.proofs.Sweeping.{seats_are}
use Rattle.lasting_laws.proofs.Holding as H
use Rattle.lasting_laws.proofs.HoldingSweeps as HS
use Rattle.lasting_laws.proofs.HeldStates.{hold_of, among, sweep_of}

-- ---- rows among others

pub among_in : (rows : List ℕ) (r : ℕ) → among rows r ≡ true → In r rows
among_in rows r e = (let z = any_at (λ other. other == r) rows e in subst (λ k. In k rows) (eqb-true (z.0) r z.2) z.1)

pub in_among : (rows : List ℕ) (r : ℕ) → In r rows → among rows r ≡ true
in_among rows r i = any_from (λ other. other == r) rows r i (eq-eqb r r refl)

-- with one more
pub among_more : (r : ℕ) (rows : List ℕ) (x : ℕ) → put (among rows) r true x ≡ among (r ∷ rows) x
among_more r rows x = elim (either_put (among rows) r true x) [
  | inl e ↦ e.1 ∙ ap (λ (b : Bool). b || among rows x) (sym (eq-eqb r x (sym e.0)))
  | inr n ↦ n.1 ∙ ap (λ (b : Bool). b || among rows x) (sym (ne_eqb r x (λ e. n.0 (sym e))))
]

-- in two lists
pub among_both : (xs ys : List ℕ) (x : ℕ) → among (xs ++ ys) x ≡ (among xs x || among ys x)
among_both [] ys x = refl
among_both (y ∷ xs) ys x = go (y == x) (among_both xs ys x)
  where
    go : (b : Bool) → among (xs ++ ys) x ≡ (among xs x || among ys x) →
        (b || among (xs ++ ys) x) ≡ ((b || among xs x) || among ys x)
    go true e = refl
    go false e = e

-- without one
among_here : (row : ℕ) (gone : List (ℕ × ℕ)) → among (rows_of (without row gone)) row ≡ false
among_here row [] = refl
among_here row (g ∷ gone) = go (g.0 == row) refl (among_here row gone)
  where
    go : (b : Bool) → (g.0 == row) ≡ b → among (rows_of (without row gone)) row ≡ false →
        among (rows_of (cond (not b) (g ∷ without row gone) (without row gone))) row ≡ false
    go true e rest = rest
    go false e rest = ap (λ (c : Bool). c || among (rows_of (without row gone)) row) e ∙ rest

among_else : (row : ℕ) (gone : List (ℕ × ℕ)) (x : ℕ) → x ≢ row →
    among (rows_of (without row gone)) x ≡ among (rows_of gone) x
among_else row [] x n = refl
among_else row (g ∷ gone) x n = go (g.0 == row) refl (among_else row gone x n)
  where
    go : (b : Bool) → (g.0 == row) ≡ b → among (rows_of (without row gone)) x ≡ among (rows_of gone) x →
        among (rows_of (cond (not b) (g ∷ without row gone) (without row gone))) x
        ≡ ((g.0 == x) || among (rows_of gone) x)
    go true e rest =
        rest ∙ ap (λ (c : Bool). c || among (rows_of gone) x)
        (sym (ne_eqb (g.0) x (λ same. n (sym same ∙ eqb-true (g.0) row e))))
    go false e rest = ap (λ (c : Bool). (g.0 == x) || c) rest

pub among_less : (row : ℕ) (gone : List (ℕ × ℕ)) (x : ℕ) →
    put (among (rows_of gone)) row false x ≡ among (rows_of (without row gone)) x
among_less row gone x = elim (either_put (among (rows_of gone)) row false x) [
  | inl e ↦ e.1 ∙ sym (among_here row gone) ∙ ap (among (rows_of (without row gone))) (sym e.0)
  | inr n ↦ n.1 ∙ sym (among_else row gone x n.0)
]

-- ---- hold words

hold_cases : (word : ℕ) → (word ≡ 0) ⊎ ((is_asking word ≡ true) ⊎ ((word ≢ 0) × (is_asking word ≡ false)))
hold_cases word = elim (cases_eq word 0) [
  | inl e ↦ inl e
  | inr n ↦ elim (cases_Bool (is_asking word)) [ inl a ↦ inr (inl a) | inr a ↦ inr (inr (n, a)) ]
]

pub asks_not_zero : (word : ℕ) → is_asking word ≡ true → word ≢ 0
asks_not_zero word a e = (let o : word % 2 ≡ 1 = eqb-true (word % 2) 1 a in omega (arith, o, e))

pub hold_none : (word : ℕ) → word ≡ 0 → hold_of word ≡ H.Nothing
hold_none word e = ap hold_of e

pub hold_asks : (word : ℕ) → is_asking word ≡ true → hold_of word ≡ H.Asking (time_in word)
hold_asks word a =
    (λ i. cond (ne_eqb word 0 (asks_not_zero word a) i) H.Nothing
    (cond (is_asking word) (H.Asking (time_in word)) (H.Holding (held_row word))))
    ∙ (λ i. cond (a i) (H.Asking (time_in word)) (H.Holding (held_row word)))

pub hold_has : (word : ℕ) → word ≢ 0 → is_asking word ≡ false → hold_of word ≡ H.Holding (held_row word)
hold_has word n a =
    (λ i. cond (ne_eqb word 0 n i) H.Nothing
    (cond (is_asking word) (H.Asking (time_in word)) (H.Holding (held_row word))))
    ∙ (λ i. cond (a i) (H.Asking (time_in word)) (H.Holding (held_row word)))

-- an asking is for one time
pub asking_of : (word : ℕ) → is_asking word ≡ true → word ≡ asking (time_in word)
asking_of word a = (let o : word % 2 ≡ 1 = eqb-true (word % 2) 1 a in omega (arith, o))

module _ (plan : Plan) (s : H.State) (p : ℕ) (inside : p < plan.settings.seats)
    (holds : H.Holds (buckets_of plan.settings) plan.settings.seats (owner_in plan) s)
    (quiet : s.look p ≡ H.NoLook) where
  abbrev buckets : ℕ
  buckets = buckets_of plan.settings

  abbrev seats : ℕ
  seats = plan.settings.seats

  abbrev Sweeps : H.Sweep → Type 0
  Sweeps = H.Sweeps buckets seats (owner_in plan) s p

  abbrev IsNamed : H.Sweep → Type 0
  IsNamed = HS.IsNamed buckets seats (owner_in plan) s

  -- where a step of the sweep leads
  abbrev pub Arrives : SweepFate → Type 0
  Arrives (SweepsOn kept sweep) = Sweeps (sweep_of (Some sweep)) × IsNamed (sweep_of (Some sweep))
  Arrives (Swept kept gone) = (k : ℕ) × (seats ≤ k) × Sweeps (H.Seats k (among (rows_of gone)))

  none_given : (now : H.Sweep) → H.sweep_kind now ≢ 4 → IsNamed now
  none_given now n q t r l e = absurd (n (ap H.sweep_kind e))

  ended : (kept gone : List (ℕ × ℕ)) (k : ℕ) → Sweeps (H.Seats k (among (rows_of gone))) →
      Arrives (hold_or_end (ample plan) k kept gone)
  ended kept gone k left = go (nat_lt k (seats_of (ample plan))) refl
    where
      go : (b : Bool) → nat_lt k (seats_of (ample plan)) ≡ b → Arrives
          (cond b (SweepsOn kept (S.Seats k gone)) (Swept kept gone))
      go true e = (left, none_given (H.Seats k (among (rows_of gone))) (λ f. omega (arith, f)))
      go false e = (k, subst (λ n. n ≤ k) (seats_are plan) (ltb-false k (seats_of (ample plan)) e), left)

  pub from_seat : (kept gone : List (ℕ × ℕ)) (k : ℕ) → Sweeps (H.Seats k (among (rows_of gone))) →
      Arrives (seats_from (ample plan) p k kept gone)
  from_seat kept gone k left = go (k == p) refl
    where
      go : (b : Bool) → (k == p) ≡ b → Arrives (hold_or_end (ample plan) (cond b (k + 1) k) kept gone)
      go true e =
          let at : k ≡ p = eqb-true k p e in
          ended kept gone (k + 1)
          (subst (λ j. Sweeps (H.Seats (j + 1) (among (rows_of gone)))) (sym at)
          (HS.self_passed buckets seats (owner_in plan) s holds p (among (rows_of gone))
          (subst (λ j. Sweeps (H.Seats j (among (rows_of gone)))) at left) quiet))
      go false e = ended kept gone k left

  from_homes : (kept todo gone : List (ℕ × ℕ)) → Sweeps (H.Seats 0 (among (rows_of gone))) →
      Arrives (homes_on (ample plan) p kept todo gone)
  from_homes kept [] gone left = from_seat kept gone 0 left
  from_homes kept (r ∷ todo) gone left = (left, none_given (H.Seats 0 (among (rows_of gone))) (λ f. omega (arith, f)))

  -- an own row
  from_home : (r : ℕ × ℕ) (todo gone : List (ℕ × ℕ)) (found : ℕ) → Sweeps (H.Seats 0 (among (rows_of gone))) →
      owner_in plan (r.0) ≡ p → s.free (r.0) ≡ false → s.home (r.0) ≡ r.1 → row_in found ≡ s.word (r.1) →
      Arrives (past_home (ample plan) p r todo gone found)
  from_home r todo gone found left own live home is = go (row_in found == r.0) refl
    where
      go : (b : Bool) → (row_in found == r.0) ≡ b → Arrives (cond b (homes_on (ample plan) p (r ∷ []) todo gone)
          (homes_on (ample plan) p [] todo (r ∷ gone)))
      go true e = from_homes (r ∷ []) todo gone left
      go false e =
          let other : s.word (s.home (r.0)) ≢ r.0 =
          λ same. eqb-false (row_in found) (r.0) e (is ∙ ap s.word (sym home) ∙ same) in
          from_homes [] todo (r ∷ gone)
          (subst (λ (f : ℕ → Bool). Sweeps (H.Seats 0 f)) (λ i x. among_more (r.0) (rows_of gone) x i)
          (HS.row_gone buckets seats (owner_in plan) s holds p (r.0) (among (rows_of gone)) left own live other))

  -- a hold word that does not ask
  from_hold : (k : ℕ) (gone : List (ℕ × ℕ)) (found : ℕ) → Sweeps (H.Seats k (among (rows_of gone))) →
      s.hold k ≡ hold_of found → is_asking found ≡ false → Arrives (past_hold (ample plan) p k gone found)
  from_hold k gone found left is asks_not = go (found == 0) refl
    where
      go : (b : Bool) → (found == 0) ≡ b → Arrives (cond b (seats_from (ample plan) p (k + 1) [] gone)
          (seats_from (ample plan) p (k + 1) (alone (held_row found) gone) (without (held_row found) gone)))
      go true e =
          from_seat [] gone (k + 1) (HS.passed_over buckets seats (owner_in plan) s p k (among (rows_of gone)) left
          (is ∙ hold_none found (eqb-true found 0 e)))
      go false e =
          from_seat (alone (held_row found) gone) (without (held_row found) gone) (k + 1)
          (subst (λ (f : ℕ → Bool). Sweeps (H.Seats (k + 1) f)) (λ i x. among_less (held_row found) gone x i)
          (HS.row_held buckets seats (owner_in plan) s p k (held_row found) (among (rows_of gone)) left
          (is ∙ hold_has found (eqb-false found 0 e) asks_not)))

  -- what is found is what the words have; a giving did not happen
  abbrev pub IsSeen : S.Sweep → (found : ℕ) → Type 0
  IsSeen (S.Homes [] gone) found = Unit {0}
  IsSeen (S.Homes (r ∷ todo) gone) found =
      (owner_in plan (r.0) ≡ p) × (s.free (r.0) ≡ false) × (s.home (r.0) ≡ r.1) × (row_in found ≡ s.word (r.1))
  IsSeen (S.Seats k gone) found = s.hold k ≡ hold_of found
  IsSeen (S.Sees k t gone) found = found ≡ s.want k
  IsSeen (S.Loads k t bucket gone) found = row_in found ≡ s.word bucket
  IsSeen (S.Gives k t row gone) found = (s.hold k ≡ hold_of found) × (found ≢ asking t)

  -- THE RESULT but for a giving that happens: what is found is what the words have
  pub arrives : (sweep : S.Sweep) (found : ℕ) → Sweeps (sweep_of (Some sweep)) → IsSeen sweep found →
      Arrives (sweep_fate (ample plan) p sweep found)
  arrives (S.Homes [] gone) found left seen = from_seat [] gone 0 left
  arrives (S.Homes (r ∷ todo) gone) found left seen =
      from_home r todo gone found left seen.0 seen.1 seen.2 seen.3
  arrives (S.Seats k gone) found left seen = go (is_asking found) refl
    where
      go : (b : Bool) → is_asking found ≡ b → Arrives (cond b (SweepsOn [] (S.Sees k (time_in found) gone))
          (past_hold (ample plan) p k gone found))
      go true e = (
        HS.one_asks buckets seats (owner_in plan) s holds p k (time_in found) (among (rows_of gone)) left
            (seen ∙ hold_asks found e),
        none_given (H.Sees k (time_in found) (among (rows_of gone))) (λ f. omega (arith, f)),
      )
      go false e = from_hold k gone found left seen e
  arrives (S.Sees k t gone) found left seen = (
    subst (λ b. Sweeps (H.Loads k t b (among (rows_of gone)))) (sym seen)
        (HS.want_seen buckets seats (owner_in plan) s holds p k t (among (rows_of gone)) left),
    none_given (H.Loads k t found (among (rows_of gone))) (λ f. omega (arith, f)),
  )
  arrives (S.Loads k t bucket gone) found left seen =
      let at : H.Gives k t (s.word bucket) (among (rows_of gone)) ≡ H.Gives k t (row_in found) (among (rows_of gone)) =
      ap (λ r. H.Gives k t r (among (rows_of gone))) (sym seen) in (
        subst Sweeps at (HS.word_seen buckets seats (owner_in plan) s holds p k t bucket (among (rows_of gone)) left),
        subst IsNamed at
            (HS.word_is_named buckets seats (owner_in plan) s k t bucket (among (rows_of gone)) left.2),
      )
  arrives (S.Gives k t row gone) found left seen = go (is_asking found) refl
    where
      go : (b : Bool) → is_asking found ≡ b → Arrives (cond b (seats_from (ample plan) p (k + 1) [] gone)
          (past_hold (ample plan) p k gone found))
      go true e =
          from_seat [] gone (k + 1) (HS.asks_anew buckets seats (owner_in plan) s p k t row (time_in found)
          (among (rows_of gone)) left (seen.0 ∙ hold_asks found e)
          (λ same. seen.1 (asking_of found e ∙ ap asking same)))
      go false e = from_hold k gone found left.0 seen.0 e
