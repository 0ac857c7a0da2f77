-- Steps of loops that write columns.
use Rattle.std.proofs.Common.{◌≡◌, ℕ, zero, suc, ◌+◌, ◌-◌, ◌<◌, ◌≤◌, ◌⊎◌, Bool, true, false, cond, List, [], ◌∷◌, ◌++◌, length, get_or, replicate, Option, Some, refl, inl, inr, sym, ap, ◌∙◌, arith, lt-ltb, ltb-true}
use Rattle.std.specs.Prelude.{◌&&◌, nat_lt, slice_get}
use Rattle.std.specs.List.{list_all, range_with_len}
use Rattle.std.proofs.Math.ListN.{set}
use Rattle.std.proofs.lemmas.List.{get_or-set_same, get_or-set_other, get_or_past}
use Rattle.std.proofs.lemmas.Bool.{cases_Bool, cases_eq, cases_lt}
use Rattle.history_order.specs.Columns.{hits, written}

-- a column of flags reads what was written, or what it read
pub flag_written : (place many : ℕ) (at : Option ℕ) (value before : List Bool) (seat : ℕ) →
    get_or (written place many at value before) seat false
    ≡ written place many at (get_or value seat false) (get_or before seat false)
flag_written place many at value before seat = elim (cases_Bool (hits at place && nat_lt place many)) [
  | inl e ↦ ap (λ b. get_or (cond b value before) seat false) e
      ∙ sym (ap (λ b. cond b (get_or value seat false) (get_or before seat false)) e)
  | inr e ↦ ap (λ b. get_or (cond b value before) seat false) e
      ∙ sym (ap (λ b. cond b (get_or value seat false) (get_or before seat false)) e)
]

-- below one more
lt_more : (s n : ℕ) → (s ≡ n → ⊥) → nat_lt s n ≡ nat_lt s (n + 1)
lt_more s n apart = elim (cases_lt s n) [
  | inl less ↦ lt-ltb s n less ∙ sym (lt-ltb s (n + 1) (omega (arith, less)))
  | inr past ↦ not_less s n past ∙ sym (not_less s (n + 1) (omega (arith, past, apart)))
]
  where
    not_less : (a b : ℕ) → b ≤ a → nat_lt a b ≡ false
    not_less a b past = elim (cases_Bool (nat_lt a b)) [
      | inl e ↦ absurd (omega (arith, past, ltb-true a b e))
      | inr e ↦ e
    ]

-- one flag more
pub flag_set : (P : ℕ → Bool) (xs : List Bool) (n : ℕ) (v : Bool) → n < length xs → v ≡ P n →
    ((s : ℕ) → get_or xs s false ≡ (nat_lt s n && P s)) → (s : ℕ) →
    get_or (set xs n v) s false ≡ (nat_lt s (n + 1) && P s)
flag_set P xs n v inside is were s = elim (cases_eq s n) [
  | inl e ↦ ap (λ z. get_or (set xs n v) z false) e ∙ get_or-set_same xs n v false inside ∙ is ∙ ap P (sym e)
      ∙ sym (ap (λ b. b && P s) (lt-ltb s (n + 1) (omega (arith, e))))
  | inr apart ↦ get_or-set_other xs n s v false apart ∙ were s ∙ ap (λ b. b && P s) (lt_more s n apart)
]

-- a test more
pub all_goes : (test : ℕ → Bool) (at count : ℕ) (all : Bool) → at < count → test at ≡ true →
    list_all test (range_with_len at (count - at)) ≡ all →
    list_all test (range_with_len (at + 1) (count - (at + 1))) ≡ all
all_goes test at count all inside passes were =
    let one : count - at ≡ suc (count - (at + 1)) = omega (arith, inside) in
    sym (ap (λ n. list_all test (range_with_len at n)) one
    ∙ ap (λ b. b && list_all test (range_with_len (at + 1) (count - (at + 1)))) passes) ∙ were

-- a test that fails
pub all_fails : (test : ℕ → Bool) (at count : ℕ) (all : Bool) → at < count → test at ≡ false →
    list_all test (range_with_len at (count - at)) ≡ all → false ≡ all
all_fails test at count all inside fails were =
    let one : count - at ≡ suc (count - (at + 1)) = omega (arith, inside) in
    sym (ap (λ n. list_all test (range_with_len at n)) one
    ∙ ap (λ b. b && list_all test (range_with_len (at + 1) (count - (at + 1)))) fails) ∙ were

-- what stands in a list with one more
pub get_more : {A : Type 0} → (xs : List A) (x : A) (at : ℕ) (y : A) → slice_get (xs ++ x ∷ []) at ≡ Some y →
    (slice_get xs at ≡ Some y) ⊎ ((at ≡ length xs) × (y ≡ x))
get_more [] x zero y h = (let is : x ≡ y = cc in inr (refl, sym is))
get_more [] x (suc at) y h = cc
get_more (z ∷ xs) x zero y h = inl h
get_more (z ∷ xs) x (suc at) y h = elim (get_more xs x at y h) [
  | inl e ↦ inl e
  | inr e ↦ inr (ap suc e.0, e.1)
]

-- equal entries read so everywhere
pub read_replicate : {A : Type 0} → (n place : ℕ) (a : A) → get_or (replicate n a) place a ≡ a
read_replicate zero place a = refl
read_replicate (suc n) zero a = refl
read_replicate (suc n) (suc place) a = read_replicate n place a

-- where no flag is set none is read
pub no_flag : (columns : List (List Bool)) (many : ℕ) (flags : List Bool) → length columns ≡ many →
    ((place : ℕ) (d : List Bool) → place < many → get_or columns place d ≡ flags) →
    ((seat : ℕ) → get_or flags seat false ≡ false) → (place seat : ℕ) →
    get_or (get_or columns place []) seat false ≡ false
no_flag columns many flags len same none place seat = elim (cases_lt place many) [
  | inl less ↦ ap (λ v. get_or v seat false) (same place [] less) ∙ none seat
  | inr past ↦ ap (λ v. get_or v seat false) (get_or_past columns place [] (omega (arith, len, past)))
]

-- one more is one longer
pub length_more : {A : Type 0} → (xs : List A) (x : A) → length (xs ++ x ∷ []) ≡ length xs + 1
length_more [] x = refl
length_more (y ∷ xs) x = let more = length_more xs x in omega (arith, more)
