-- The greatest number of a seat's standing calls decides which call may stand next.
use Rattle.std.proofs.Common.{◌≡◌, ◌⊎◌, inl, inr, ℕ, zero, suc, ◌+◌, ◌<◌, ◌≤◌, max, Bool, cond, List, [], ◌∷◌, ◌++◌, length, length-append, refl, sym, ap, ◌∙◌, subst, arith}
use Rattle.std.proofs.lemmas.Bool.{cases_eq, eq-eqb, ne_eqb}
use Rattle.plain_map.specs.declared.records.TheConstants.{MOST_SEATS}
use Rattle.plain_map.specs.History.{Placed, seat_of, number_of, seen_of, Stands, IsAfter, After}
use Rattle.plain_map.proofs.TurnLemmas.{stands_behind}
use Rattle.report_check.specs.Ready.{AreStanding, IsReady, standing_with}

-- What is shown here.

-- just such a call stands after all that it must
abbrev pub ReadyIsAfter : Type 0
ReadyIsAfter = (front : List Placed) (standing : ℕ → ℕ) (placed : Placed) → AreStanding front standing →
    (IsReady standing placed → IsAfter front placed) × (IsAfter front placed → IsReady standing placed)

-- and with it the list is as before
abbrev pub ReadyGoesOn : Type 0
ReadyGoesOn = (front : List Placed) (standing : ℕ → ℕ) (placed : Placed) → AreStanding front standing →
    After front → IsReady standing placed →
    AreStanding (front ++ placed ∷ []) (standing_with standing placed) × After (front ++ placed ∷ [])

-- Calls that stand, and one more.

-- and in one with more behind it
stands_front : (front : List Placed) (p : Placed) (seat number : ℕ) → Stands front seat number →
    Stands (front ++ p ∷ []) seat number
stands_front [] p seat number there = absurd (omega arith)
stands_front (q ∷ front) p seat number (zero, x, inside, is, named) = (zero, x, omega arith, is, named)
stands_front (q ∷ front) p seat number (suc k, x, inside, is, named) =
    stands_behind q (front ++ p ∷ []) seat number
    (stands_front front p seat number (k, x, omega arith, is, named))

-- the last one stands
stands_last : (front : List Placed) (p : Placed) → Stands (front ++ p ∷ []) (seat_of p) (number_of p)
stands_last [] p = (0, p, omega arith, refl, (refl, refl))
stands_last (q ∷ front) p = stands_behind q (front ++ p ∷ []) (seat_of p) (number_of p) (stands_last front p)

-- what stands in a list with one call more stood before, or is the last
stands_cases : (front : List Placed) (p : Placed) (seat number : ℕ) → Stands (front ++ p ∷ []) seat number →
    Stands front seat number ⊎ ((seat_of p ≡ seat) × (number_of p ≡ number))
stands_cases [] p seat number (zero, x, inside, is, named) =
    inr (subst (λ (y : Placed). (seat_of y ≡ seat) × (number_of y ≡ number)) (sym is) named)
stands_cases [] p seat number (suc k, x, inside, is, named) = absurd (omega arith)
stands_cases (q ∷ front) p seat number (zero, x, inside, is, named) = inl (zero, x, omega arith, is, named)
stands_cases (q ∷ front) p seat number (suc k, x, inside, is, named) =
    elim (stands_cases front p seat number (k, x, omega arith, is, named)) [
      | inl there ↦ inl (stands_behind q front seat number there)
      | inr last ↦ inr last
    ]

-- Which call may stand next.

-- a call that stands after its seat's earlier ones is at most the next
own_number : (front : List Placed) (standing : ℕ → ℕ) (placed : Placed) → AreStanding front standing →
    IsAfter front placed → (number : ℕ) → number_of placed ≡ number → number ≤ standing (seat_of placed) + 1
own_number front standing placed stands after zero is = omega arith
own_number front standing placed stands after (suc zero) is = omega arith
own_number front standing placed stands after (suc (suc m)) is =
    let there : Stands front (seat_of placed) (suc m) = after.own (suc m) (omega arith) (omega (arith, is)) in
    omega (arith, stands.upto (seat_of placed) (suc m) there)

-- and saw no more than stand
seen_number : (front : List Placed) (standing : ℕ → ℕ) (placed : Placed) → AreStanding front standing →
    IsAfter front placed → (seat : ℕ) → seat < MOST_SEATS → (number : ℕ) → seen_of placed seat ≡ number →
    number ≤ standing seat
seen_number front standing placed stands after seat inside zero is = omega arith
seen_number front standing placed stands after seat inside (suc m) is =
    stands.upto seat (suc m) (after.seen seat (suc m) inside (omega arith) (omega (arith, is)))

-- just a call that is ready stands after all that it must
pub ready_is_after : ReadyIsAfter
ready_is_after front standing placed stands = (
  λ ready. record {
    own = λ number least below. stands.there (seat_of placed) number least (omega (arith, ready.own));
    seen = λ seat number inside least within.
        stands.there seat number least (omega (arith, within, ready.seen seat inside));
  },
  λ after. record {
    own = own_number front standing placed stands after (number_of placed) refl;
    seen = λ seat inside. seen_number front standing placed stands after seat inside (seen_of placed seat) refl;
  },
)

-- The numbers go on.

-- the number of the seat of a call that is put
with_own : (standing : ℕ → ℕ) (p : Placed) (seat : ℕ) → seat_of p ≡ seat →
    standing_with standing p seat ≡ max (standing seat) (number_of p)
with_own standing p seat same =
    ap (λ (b : Bool). cond b (max (standing seat) (number_of p)) (standing seat)) (eq-eqb (seat_of p) seat same)

-- the numbers of the other seats stay
with_other : (standing : ℕ → ℕ) (p : Placed) (seat : ℕ) → (seat_of p ≡ seat → ⊥) →
    standing_with standing p seat ≡ standing seat
with_other standing p seat other =
    ap (λ (b : Bool). cond b (max (standing seat) (number_of p)) (standing seat)) (ne_eqb (seat_of p) seat other)

-- no greater number stands
more_upto : (front : List Placed) (standing : ℕ → ℕ) (p : Placed) → AreStanding front standing →
    (seat number : ℕ) → Stands (front ++ p ∷ []) seat number → number ≤ standing_with standing p seat
more_upto front standing p stands seat number there =
    elim (cases_eq (seat_of p) seat) [
      | inl same ↦ elim (stands_cases front p seat number there) [
        | inl before ↦ omega (arith, with_own standing p seat same, stands.upto seat number before)
        | inr last ↦ omega (arith, with_own standing p seat same, last.1)
      ]
      | inr other ↦ elim (stands_cases front p seat number there) [
        | inl before ↦ omega (arith, with_other standing p seat other, stands.upto seat number before)
        | inr last ↦ absurd (other last.0)
      ]
    ]

-- all up to the number of its seat stand
own_there : (front : List Placed) (standing : ℕ → ℕ) (p : Placed) → AreStanding front standing →
    IsReady standing p → (number : ℕ) → 1 ≤ number → number ≤ max (standing (seat_of p)) (number_of p) →
    Stands (front ++ p ∷ []) (seat_of p) number
own_there front standing p stands ready number least within =
    elim (cases_eq (number_of p) number) [
      | inl same ↦ subst (λ (n : ℕ). Stands (front ++ p ∷ []) (seat_of p) n) same (stands_last front p)
      | inr other ↦
          stands_front front p (seat_of p) number
          (stands.there (seat_of p) number least (omega (arith, within, ready.own, other)))
    ]

-- all up to the numbers stand
more_there : (front : List Placed) (standing : ℕ → ℕ) (p : Placed) → AreStanding front standing →
    IsReady standing p → (seat number : ℕ) → 1 ≤ number → number ≤ standing_with standing p seat →
    Stands (front ++ p ∷ []) seat number
more_there front standing p stands ready seat number least within =
    elim (cases_eq (seat_of p) seat) [
      | inl same ↦
          let seats : ℕ → Type 0 = λ s. number ≤ max (standing s) (number_of p) in
          let within_own : number ≤ max (standing (seat_of p)) (number_of p) =
          subst seats (sym same) (subst (λ (n : ℕ). number ≤ n) (with_own standing p seat same) within) in
          subst (λ (s : ℕ). Stands (front ++ p ∷ []) s number) same
          (own_there front standing p stands ready number least within_own)
      | inr other ↦
          stands_front front p seat number
          (stands.there seat number least
          (subst (λ (n : ℕ). number ≤ n) (with_other standing p seat other) within))
    ]

-- Where a list with one more is cut.

-- where a list with one call more is cut: at the last one, or before
abbrev CutsSo : (front : List Placed) (p : Placed) (before later : List Placed) (placed : Placed) → Type 0
CutsSo front p before later placed =
    ((front ≡ before) × (p ≡ placed)) ⊎ ((rest : List Placed) × (front ≡ before ++ placed ∷ rest))

-- each cut is one of the two
cut_last : (front : List Placed) (p : Placed) (before later : List Placed) (placed : Placed) →
    front ++ p ∷ [] ≡ before ++ placed ∷ later → CutsSo front p before later placed
cut_last [] p [] later placed is = inl (refl, cc)
cut_last [] p (b ∷ before) later placed is = absurd (omega (arith, ap length is, length-append before (placed ∷ later)))
cut_last (f ∷ front) p [] later placed is =
    let head : f ≡ placed = cc in
    inr (front, ap (λ (x : Placed). x ∷ front) head)
cut_last (f ∷ front) p (b ∷ before) later placed is =
    let head : f ≡ b = cc in
    let tails : front ++ p ∷ [] ≡ before ++ placed ∷ later = cc in
    elim (cut_last front p before later placed tails) [
      | inl here ↦ inl (cc, here.1)
      | inr (rest, there) ↦ inr (rest, ap (λ (x : Placed). x ∷ front) head ∙ ap (λ (xs : List Placed). b ∷ xs) there)
    ]

-- the order goes on to be right
after_more : (front : List Placed) (p : Placed) → After front → IsAfter front p → After (front ++ p ∷ [])
after_more front p all next before later placed is =
    elim (cut_last front p before later placed is) [
      | inl here ↦
          subst (λ (x : Placed). IsAfter before x) here.1
          (subst (λ (xs : List Placed). IsAfter xs p) here.0 next)
      | inr (rest, there) ↦ all before rest placed there
    ]

-- with a call that is ready the numbers and the order go on
pub ready_goes_on : ReadyGoesOn
ready_goes_on front standing placed stands all ready = (
  record {
    upto = more_upto front standing placed stands;
    there = more_there front standing placed stands ready;
  },
  after_more front placed all ((ready_is_after front standing placed stands).0 ready),
)
