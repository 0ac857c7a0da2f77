-- A sum over seats of which one term is another then.
use Rattle.std.proofs.Common.{◌≡◌, ◌≢◌, ℕ, zero, suc, ◌+◌, ◌<◌, ◌≤◌, inl, inr, refl, arith}
use Rattle.std.specs.Prelude.{sum_by}
use Rattle.std.specs.List.{range_with_len}
use Rattle.std.proofs.lemmas.Bool.{cases_eq}
use Rattle.std.proofs.lemmas.List.Sums.{sum_by-cons}

-- of so many seats, from this one on
abbrev pub sum_from : (f : ℕ → ℕ) → (seat many : ℕ) → ℕ
sum_from f seat many = sum_by f (range_with_len seat many)

one_more : (f : ℕ → ℕ) (seat many : ℕ) → sum_from f seat (suc many) ≡ f seat + sum_from f (seat + 1) many
one_more f seat many = sum_by-cons f seat (range_with_len (seat + 1) many)

-- a sum of which each term is one more at most
pub sum_more : (f g : ℕ → ℕ) (seat many : ℕ) → ((q : ℕ) → f q ≤ g q + 1) →
    sum_from f seat many ≤ sum_from g seat many + many
sum_more f g seat zero more = omega arith
sum_more f g seat (suc many) more =
    let a = one_more f seat many in
    let b = one_more g seat many in
    let here = more seat in
    let rest = sum_more f g (seat + 1) many more in
    omega (arith, a, b, here, rest)

-- with the same terms it is the same
pub sum_same : (f g : ℕ → ℕ) (seat many : ℕ) → ((q : ℕ) → seat ≤ q → q < seat + many → f q ≡ g q) →
    sum_from f seat many ≡ sum_from g seat many
sum_same f g seat zero same = refl
sum_same f g seat (suc many) same =
    let a = one_more f seat many in
    let b = one_more g seat many in
    let here = same seat (omega arith) (omega arith) in
    let rest = sum_same f g (seat + 1) many (λ q low high. same q (omega (arith, low)) (omega (arith, high))) in
    omega (arith, a, b, here, rest)

-- one term is another one
pub sum_changed : (f g : ℕ → ℕ) (p seat many : ℕ) → seat ≤ p → p < seat + many →
    ((q : ℕ) → q ≢ p → f q ≡ g q) → sum_from f seat many + g p ≡ sum_from g seat many + f p
sum_changed f g p seat zero low high same = absurd (omega (arith, low, high))
sum_changed f g p seat (suc many) low high same =
    let a = one_more f seat many in
    let b = one_more g seat many in
    elim (cases_eq p seat) [
      | inl e ↦
          let rest = sum_same f g (seat + 1) many (λ q past end. same q (λ k. omega (arith, e, k, past))) in
          let mine = at f e in
          let theirs = at g e in
          omega (arith, a, b, rest, mine, theirs)
      | inr n ↦
          let here = same seat (λ k. n (omega (arith, k))) in
          let rest = sum_changed f g p (seat + 1) many (omega (arith, low, n)) (omega (arith, high)) same in
          omega (arith, a, b, here, rest)
    ]
  where
    at : (h : ℕ → ℕ) → p ≡ seat → h p ≡ h seat
    at h e = λ i. h (e i)

-- a term is no more than the sum
pub one_term : (f : ℕ → ℕ) (p seat many : ℕ) → seat ≤ p → p < seat + many → f p ≤ sum_from f seat many
one_term f p seat zero low high = absurd (omega (arith, low, high))
one_term f p seat (suc many) low high =
    let a = one_more f seat many in
    elim (cases_eq p seat) [
      | inl e ↦ (let mine : f p ≡ f seat = (λ i. f (e i)) in omega (arith, a, mine))
      | inr n ↦
          let rest = one_term f p (seat + 1) many (omega (arith, low, n)) (omega (arith, high)) in
          omega (arith, a, rest)
    ]

-- nor are two
pub two_terms : (f : ℕ → ℕ) (p q seat many : ℕ) → p ≢ q → seat ≤ p → p < seat + many → seat ≤ q → q < seat + many →
    f p + f q ≤ sum_from f seat many
two_terms f p q seat zero other low high under over = absurd (omega (arith, low, high))
two_terms f p q seat (suc many) other low high under over =
    let a = one_more f seat many in
    elim (cases_eq p seat) [
      | inl e ↦
          let rest = one_term f q (seat + 1) many (omega (arith, under, e, other)) (omega (arith, over)) in
          let mine = at e in omega (arith, a, rest, mine)
      | inr n ↦ elim (cases_eq q seat) [
        | inl e ↦
            let rest = one_term f p (seat + 1) many (omega (arith, low, n)) (omega (arith, high)) in
            let mine = at e in omega (arith, a, rest, mine)
        | inr m ↦
            let rest = two_terms f p q (seat + 1) many other (omega (arith, low, n)) (omega (arith, high))
            (omega (arith, under, m)) (omega (arith, over)) in
            omega (arith, a, rest)
      ]
    ]
  where
    at : {k : ℕ} → k ≡ seat → f k ≡ f seat
    at e = λ i. f (e i)

-- of terms that are 1 at most it is as many at most
pub sum_most : (f : ℕ → ℕ) (seat many : ℕ) → ((q : ℕ) → f q ≤ 1) → sum_from f seat many ≤ many
sum_most f seat zero one = omega arith
sum_most f seat (suc many) one =
    let a = one_more f seat many in
    let rest = sum_most f (seat + 1) many one in omega (arith, a, rest, one seat)
