-- How often a packet stands among packets, and the one element with a packet.
use Rattle.std.proofs.Common.{◌≡◌, ℕ, ◌+◌, ◌==◌, cond, List, ◌∷◌, suc, ap, arith, ◌++◌, sym, Bool, inl, inr, false, [], refl, ◌∙◌, zero, ◌<◌, ◌≤◌, length, get_or, true}
use Rattle.std.proofs.lemmas.List.Sums.{sum_by-cons, sum_by-append}
use Rattle.std.proofs.lemmas.Bool.{eq-eqb, ne_eqb, cases_eq}
use Rattle.std.specs.Prelude.{map, IsPermutation, filter}
use Rattle.std.proofs.lemmas.List.Sorted.{IsPermutation-map, sum_by-IsPermutation}
use Rattle.report_told.specs.Rules.{times}

-- 1 where it holds
abbrev pub one_if : Bool → ℕ
one_if b = cond b 1 0

-- the first packet counts where it is the one
pub times-cons : (packet x : ℕ) (xs : List ℕ) → times packet (x ∷ xs) ≡ one_if (x == packet) + times packet xs
times-cons packet x xs = sum_by-cons (λ other. cond (other == packet) 1 0) x xs

-- where it is, it stands once more
pub times-same : (packet x : ℕ) (xs : List ℕ) → x ≡ packet → times packet (x ∷ xs) ≡ suc (times packet xs)
times-same packet x xs same =
    let one : one_if (x == packet) ≡ 1 = ap one_if (eq-eqb x packet same) in
    omega (arith, times-cons packet x xs, one)

-- where it is not, it stands as often as behind it
pub times-other : (packet x : ℕ) (xs : List ℕ) → (x ≡ packet → ⊥) → times packet (x ∷ xs) ≡ times packet xs
times-other packet x xs other =
    let none : one_if (x == packet) ≡ 0 = ap one_if (ne_eqb x packet other) in
    omega (arith, times-cons packet x xs, none)

-- in two lists it stands as often as in both together
pub times-append : (packet : ℕ) (xs ys : List ℕ) → times packet (xs ++ ys) ≡ times packet xs + times packet ys
times-append packet xs ys = sum_by-append (λ other. cond (other == packet) 1 0) xs ys

-- in another order it stands as often
pub times-permuted : {A : Type 0} (key : A → ℕ) (packet : ℕ) (xs ys : List A) → IsPermutation xs ys →
    times packet (map key xs) ≡ times packet (map key ys)
times-permuted key packet xs ys is =
    sym (sum_by-IsPermutation (λ other. cond (other == packet) 1 0) (map key xs) (map key ys)
    (IsPermutation-map key xs ys is))

-- One element with a packet.

-- the first element stays or goes as the test says
pub filter_step : {A : Type 0} (test : A → Bool) (x : A) (xs : List A) (b : Bool) → test x ≡ b →
    filter test (x ∷ xs) ≡ cond b (x ∷ filter test xs) (filter test xs)
filter_step test x xs b is = ap (λ (t : Bool). cond t (x ∷ filter test xs) (filter test xs)) is

-- where no element has the packet, none stays
pub filter_none : {A : Type 0} (key : A → ℕ) (packet : ℕ) (xs : List A) → times packet (map key xs) ≡ 0 →
    filter (λ x. key x == packet) xs ≡ []
filter_none key packet [] none = refl
filter_none key packet (x ∷ xs) none = elim (cases_eq (key x) packet) [
  | inl same ↦ absurd (omega (arith, none, times-same packet (key x) (map key xs) same))
  | inr other ↦
      filter_step (λ y. key y == packet) x xs false (ne_eqb (key x) packet other)
      ∙ filter_none key packet xs (sym (times-other packet (key x) (map key xs) other) ∙ none)
]

-- an element with the packet is counted
pub some_times : {A : Type 0} (key : A → ℕ) (packet : ℕ) (xs : List A) (i : ℕ) (d : A) → i < length xs →
    key (get_or xs i d) ≡ packet → 1 ≤ times packet (map key xs)
some_times key packet [] i d inside is = absurd (omega arith)
some_times key packet (x ∷ xs) zero d inside is = omega (arith, times-same packet (key x) (map key xs) is)
some_times key packet (x ∷ xs) (suc i) d inside is =
    omega (arith, some_times key packet xs i d (omega arith) is, times-cons packet (key x) (map key xs))

-- where one element alone has the packet, just it stays
pub filter_one : {A : Type 0} (key : A → ℕ) (packet : ℕ) (xs : List A) (i : ℕ) (d : A) → times packet (map key xs) ≤ 1 →
    i < length xs → key (get_or xs i d) ≡ packet → filter (λ x. key x == packet) xs ≡ get_or xs i d ∷ []
filter_one key packet [] i d once inside is = absurd (omega arith)
filter_one key packet (x ∷ xs) zero d once inside is =
    filter_step (λ y. key y == packet) x xs true (eq-eqb (key x) packet is)
    ∙ ap (λ ys. x ∷ ys)
    (filter_none key packet xs (omega (arith, once, times-same packet (key x) (map key xs) is)))
filter_one key packet (x ∷ xs) (suc i) d once inside is = elim (cases_eq (key x) packet) [
  | inl same ↦ absurd (omega (
    arith,
    once,
    times-same packet (key x) (map key xs) same,
    some_times key packet xs i d (omega arith) is,
  ))
  | inr other ↦
      filter_step (λ y. key y == packet) x xs false (ne_eqb (key x) packet other)
      ∙ filter_one key packet xs i d (omega (arith, once, times-other packet (key x) (map key xs) other))
      (omega arith) is
]

-- of fewer elements no more are counted
pub filter_within : {A : Type 0} (key : A → ℕ) (packet : ℕ) (test : A → Bool) (xs : List A) →
    times packet (map key (filter test xs)) ≤ times packet (map key xs)
filter_within key packet test [] = omega arith
filter_within key packet test (x ∷ xs) = go (test x) (filter_within key packet test xs)
  where
    go : (b : Bool) → times packet (map key (filter test xs)) ≤ times packet (map key xs) →
        times packet (map key (cond b (x ∷ filter test xs) (filter test xs))) ≤ times packet (key x ∷ map key xs)
    go true later =
        omega (
          arith,
          later,
          times-cons packet (key x) (map key (filter test xs)),
          times-cons packet (key x) (map key xs),
        )
    go false later = omega (arith, later, times-cons packet (key x) (map key xs))
