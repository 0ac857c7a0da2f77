-- What is found where the seat alone has its share in what is pending: the own op, and none of another seat. So the
-- bucket takes that op alone.
use Rattle.std.proofs.Common.{◌≡◌, ℕ, zero, suc, ◌+◌, ◌<◌, ◌≤◌, inl, inr, Bool, true, false, cond, List, [], ◌∷◌, ◌++◌, length, refl, ap, ◌∙◌, arith}
use Rattle.std.specs.Prelude.{◌==◌}
use Rattle.std.specs.List.{AllByRecursion as Each}
use Rattle.std.proofs.lemmas.Bool.{cases_eq, eq-eqb, ne_eqb}
use Rattle.std.proofs.lemmas.List.{length-append}
use Rattle.list_laws.proofs.Totals.{each-append}
use Rattle.plain_map.specs.declared.rules.Rules.{Rules}
use Rattle.exchange_model.specs.Plans.{more}
use Rattle.exchange_model.specs.Steps.{Found, NoOp, Change, with_found, with_all}
use Rattle.exchange_model.specs.Goes.{found_alone}

-- the next one
abbrev pub next_alone : (seat : ℕ) → (own : Found) → List Found → Found
next_alone seat own found = cond (length found == seat) own NoOp

-- it has so many more
pub alone_many : (seat : ℕ) (own : Found) (many : ℕ) (found : List Found) →
    length (found_alone seat own many found) ≡ many + length found
alone_many seat own zero found = omega arith
alone_many seat own (suc many) found =
    let one = next_alone seat own found in
    let rest = alone_many seat own many (more found one) in
    let long = length-append found (one ∷ []) in omega (arith, rest, long)

-- what holds of the own op and of none holds of each
pub alone_each : (P : Found → Type 0) (seat : ℕ) (own : Found) (many : ℕ) (found : List Found) → P own → P NoOp →
    Each P found → Each P (found_alone seat own many found)
alone_each P seat own zero found mine none all = all
alone_each P seat own (suc many) found mine none all =
    alone_each P seat own many (more found (next_alone seat own found)) mine none
    (each-append P found (next_alone seat own found ∷ []) all (one (length found == seat), tt))
  where
    one : (b : Bool) → P (cond b own NoOp)
    one true = mine
    one false = none

module _ (rules : Rules) where
  -- seats are gone through one after the other
  pub with_both : (c : Change) (seat : ℕ) (front back : List Found) →
      with_all rules c seat (front ++ back) ≡ with_all rules (with_all rules c seat front) (seat + length front) back
  with_both c seat [] back = (let e : seat ≡ seat + 0 = omega arith in ap (λ k. with_all rules c k back) e)
  with_both c seat (f ∷ front) back =
      let e : suc seat + length front ≡ seat + suc (length front) = omega arith in
      with_both (with_found rules c seat f) (suc seat) front back
      ∙ ap (λ k. with_all rules (with_all rules (with_found rules c seat f) (suc seat) front) k back) e

  -- one more, from the first seat on
  with_one : (c : Change) (found : List Found) (one : Found) →
      with_all rules c 0 (more found one) ≡ with_found rules (with_all rules c 0 found) (length found) one
  with_one c found one =
      let e : 0 + length found ≡ length found = omega arith in
      with_both c 0 found (one ∷ []) ∙ ap (λ k. with_found rules (with_all rules c 0 found) k one) e

  -- where the seat is gone past, or not yet come to, nothing more is applied
  none_after : (c : Change) (seat : ℕ) (own : Found) (many : ℕ) (found : List Found) → seat < length found →
      with_all rules c 0 (found_alone seat own many found) ≡ with_all rules c 0 found
  none_after c seat own zero found past = refl
  none_after c seat own (suc many) found past =
      let one = next_alone seat own found in
      let long = length-append found (one ∷ []) in
      let is : one ≡ NoOp = ap (λ (b : Bool). cond b own NoOp)
      (ne_eqb (length found) seat (λ e. omega (arith, e, past))) in
      none_after c seat own many (more found one) (omega (arith, past, long)) ∙ with_one c found one
      ∙ ap (with_found rules (with_all rules c 0 found) (length found)) is

  -- THE RESULT: the own op is applied, and no other
  own_after : (c : Change) (seat : ℕ) (own : Found) (many : ℕ) (found : List Found) → length found ≤ seat →
      seat < length found + many →
      with_all rules c 0 (found_alone seat own many found) ≡ with_found rules (with_all rules c 0 found) seat own
  own_after c seat own zero found low high = absurd (omega (arith, low, high))
  own_after c seat own (suc many) found low high = elim (cases_eq (length found) seat) [
    | inl e ↦
        let is : one ≡ own = ap (λ (b : Bool). cond b own NoOp) (eq-eqb (length found) seat e) in
        none_after c seat own many (more found one) (omega (arith, long, e)) ∙ with_one c found one
        ∙ ap (λ k. with_found rules (with_all rules c 0 found) k one) e
        ∙ ap (with_found rules (with_all rules c 0 found) seat) is
    | inr n ↦
        let is : one ≡ NoOp = ap (λ (b : Bool). cond b own NoOp) (ne_eqb (length found) seat n) in
        own_after c seat own many (more found one) (omega (arith, low, long, n)) (omega (arith, high, long))
        ∙ ap (λ (d : Change). with_found rules d seat own)
        (with_one c found one ∙ ap (with_found rules (with_all rules c 0 found) (length found)) is)
  ]
    where
      one : Found
      one = next_alone seat own found

      long : length (more found one) ≡ length found + 1
      long = length-append found (one ∷ [])

  pub alone_is : (c : Change) (seat seats : ℕ) (own : Found) → seat < seats →
      with_all rules c 0 (found_alone seat own seats []) ≡ with_found rules c seat own
  alone_is c seat seats own inside = own_after c seat own seats [] (omega arith) (omega (arith, inside))
