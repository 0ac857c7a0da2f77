-- A unit all of whose calls are of one seat: what is asked of it is asked of that seat alone.
use Rattle.std.proofs.Common.{◌≡◌, ℕ, zero, suc, ◌+◌, ◌<◌, ◌≤◌, arith, Bool, true, false, true≢false, List, [], ◌∷◌, inl, inr, refl, sym, ap, ◌∙◌, eq-eqb, ne_eqb}
use Rattle.std.specs.Prelude.{◌&&◌, ◌||◌, ◌==◌, not}
use Rattle.std.specs.List.{list_all, range_with_len}
use Rattle.std.specs.Cmp.Lexicographic.{pointwise}
use mathlib.Core.Bool.{beq}
use Rattle.std.proofs.lemmas.Bool.{cases_eq}
use Rattle.plain_map.specs.declared.records.TheConstants.{MOST_SEATS}
use Rattle.plain_map.specs.declared.records.Record.{Record}
use Rattle.plain_map.specs.declared.records.Pending.{Pending}
use Rattle.history_order.specs.declared.tables.Unit.{Unit}
use Rattle.history_order.specs.declared.tables.Found.{Found}
use Rattle.history_order.specs.Tables.{are_next_in, has_call_in, is_next_in, is_none_or_next}

-- where none of them is the one, all pass
all_pass : (f : ℕ → Bool) (one end : ℕ) → ((other : ℕ) → other < end → (other ≡ one → ⊥) → f other ≡ true) →
    (many from : ℕ) → one < from → from + many ≤ end → list_all f (range_with_len from many) ≡ true
all_pass f one end others zero from past short = refl
all_pass f one end others (suc many) from past short =
    ap (λ (b : Bool). b && list_all f (range_with_len (from + 1) many))
    (others from (omega (arith, short)) (λ e. omega (arith, e, past)))
    ∙ all_pass f one end others many (from + 1) (omega (arith, past)) (omega (arith, short))

-- a test and what passes
and_true : (b : Bool) → (b && true) ≡ b
and_true true = refl
and_true false = refl

-- where the others pass the one settles it
all_alone : (f : ℕ → Bool) (one end : ℕ) → ((other : ℕ) → other < end → (other ≡ one → ⊥) → f other ≡ true) →
    (many from : ℕ) → from ≤ one → one < from + many → from + many ≤ end →
    list_all f (range_with_len from many) ≡ f one
all_alone f one end others zero from least less short = absurd (omega (arith, least, less))
all_alone f one end others (suc many) from least less short = elim (cases_eq from one) [
  | inl e ↦
      ap (λ (b : Bool). f from && b)
      (all_pass f one end others many (from + 1) (omega (arith, e)) (omega (arith, short)))
      ∙ and_true (f from) ∙ ap f e
  | inr apart ↦
      ap (λ (b : Bool). b && list_all f (range_with_len (from + 1) many)) (others from (omega (arith, short)) apart)
      ∙ all_alone f one end others many (from + 1) (omega (arith, least, apart)) (omega (arith, less))
      (omega (arith, short))
]

-- the unit's calls may come next where the seat's may
pub next_alone : (logs : List (List Record)) (begun : List Pending) (found : Found) (count : List ℕ) (seat : ℕ)
    (unit : Unit) → seat < MOST_SEATS →
    ((other : ℕ) → other < MOST_SEATS → has_call_in found unit seat other ≡ (seat == other)) →
    are_next_in logs begun found count seat unit ≡ is_next_in logs begun found count unit seat
next_alone logs begun found count seat unit inside own =
    all_alone (is_none_or_next logs begun found count seat unit) seat MOST_SEATS
    (λ other few apart. ap (λ (b : Bool). not b || is_next_in logs begun found count unit other)
    (own other few ∙ ne_eqb seat other (λ e. apart (sym e)))) MOST_SEATS 0 (omega arith) inside (omega arith)
    ∙ ap (λ (b : Bool). not b || is_next_in logs begun found count unit seat)
    (own seat inside ∙ eq-eqb seat seat refl)

-- flags that compare as equal are equal
pub same_flags : (xs ys : List Bool) → pointwise beq xs ys ≡ true → xs ≡ ys
same_flags [] [] h = refl
same_flags [] (y ∷ ys) h = absurd (true≢false (sym h))
same_flags (x ∷ xs) [] h = absurd (true≢false (sym h))
same_flags (true ∷ xs) (true ∷ ys) h = ap (λ zs. true ∷ zs) (same_flags xs ys h)
same_flags (true ∷ xs) (false ∷ ys) h = absurd (true≢false (sym h))
same_flags (false ∷ xs) (true ∷ ys) h = absurd (true≢false (sym h))
same_flags (false ∷ xs) (false ∷ ys) h = ap (λ zs. false ∷ zs) (same_flags xs ys h)
