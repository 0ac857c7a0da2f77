-- Two numbers that change their links.
use Rattle.std.proofs.Common.{◌≡◌, ◌≢◌, ℕ, ◌+◌, ◌-◌, ◌<◌, ◌≤◌, ◌∙◌, List, length, get_or, set, inl, inr, sym, ap, subst, arith}
use Rattle.std.proofs.lemmas.Bool.{cases_eq}
use Rattle.std.proofs.lemmas.List.{get_or-set_same, get_or-set_other}
use Rattle.std.proofs.lemmas.Grind.{get_or-set_at}
use Rattle.std.proofs.Math.ListN.{length-set}

-- two places that are written
two_first : (xs : List ℕ) (i j x y : ℕ) → i < length xs → j < length xs → (i ≡ j → x ≡ y) →
    get_or (set (set xs i y) j x) i 0 ≡ y
two_first xs i j x y one two alike = elim (cases_eq i j) [
  | inl same ↦ get_or-set_at (set xs i y) j i x 0 same (omega (arith, two, length-set xs i y)) ∙ alike same
  | inr other ↦ get_or-set_other (set xs i y) j i x 0 other ∙ get_or-set_same xs i y 0 one
]

two_second : (xs : List ℕ) (i j x y : ℕ) → j < length xs → get_or (set (set xs i y) j x) j 0 ≡ x
two_second xs i j x y two = get_or-set_same (set xs i y) j x 0 (omega (arith, two, length-set xs i y))

two_others : (xs : List ℕ) (i j x y k : ℕ) → k ≢ i → k ≢ j → get_or (set (set xs i y) j x) k 0 ≡ get_or xs k 0
two_others xs i j x y k one two = get_or-set_other (set xs i y) j k x 0 two ∙ get_or-set_other xs i k y 0 one

module _ (first end : ℕ) (next back : List ℕ) (long : first + length next ≡ end)
    (wide : first + length back ≡ end) where
  -- one of the numbers
  abbrev In : ℕ → Type 0
  In k = (first ≤ k) × (k < end)

  -- the links
  abbrev after : ℕ → ℕ
  after k = get_or next (k - first) 0

  abbrev before : ℕ → ℕ
  before k = get_or back (k - first) 0

  module _ (a b x y : ℕ) (in_a : In a) (in_b : In b) (is_x : x ≡ after a) (is_y : y ≡ after b) where
    -- the arrays then
    abbrev pub nexts : List ℕ
    nexts = set (set next (a - first) y) (b - first) x

    abbrev pub backs : List ℕ
    backs = set (set back (x - first) b) (y - first) a

    pub goes_first : get_or nexts (a - first) 0 ≡ after b
    goes_first =
        two_first next (a - first) (b - first) x y (omega (arith, in_a, long)) (omega (arith, in_b, long))
        (λ same. let e : a ≡ b = omega (arith, same, in_a, in_b) in is_x ∙ ap after e ∙ sym is_y)
        ∙ is_y

    pub goes_second : get_or nexts (b - first) 0 ≡ after a
    goes_second = two_second next (a - first) (b - first) x y (omega (arith, in_b, long)) ∙ is_x

    pub goes_rest : (k : ℕ) → first ≤ k → k ≢ a → k ≢ b → get_or nexts (k - first) 0 ≡ after k
    goes_rest k low one two =
        two_others next (a - first) (b - first) x y (k - first)
        (λ e. one (omega (arith, e, low, in_a))) (λ e. two (omega (arith, e, low, in_b)))

    module _ (next_in : (k : ℕ) → In k → In (after k)) (both : (k : ℕ) → In k → before (after k) ≡ k) where
      in_x : In x
      in_x = subst In (sym is_x) (next_in a in_a)

      in_y : In y
      in_y = subst In (sym is_y) (next_in b in_b)

      -- each number is in the ring of one
      pub nexts_in : (k : ℕ) → In k → In (get_or nexts (k - first) 0)
      nexts_in k inside = elim (cases_eq k b) [
        | inl is ↦ subst (λ (j : ℕ). In (get_or nexts (j - first) 0)) (sym is)
            (subst In (sym goes_second) (next_in a in_a))
        | inr other ↦ elim (cases_eq k a) [
          | inl is ↦ subst (λ (j : ℕ). In (get_or nexts (j - first) 0)) (sym is)
              (subst In (sym goes_first) (next_in b in_b))
          | inr apart ↦ subst In (sym (goes_rest k inside.0 apart other)) (next_in k inside)
        ]
      ]

      -- two with one successor are one
      alike : (j k z : ℕ) → In j → In k → after j ≡ z → after k ≡ z → j ≡ k
      alike j k z one two a_is b_is = sym (both j one) ∙ ap before (a_is ∙ sym b_is) ∙ both k two

      back_first : get_or backs (y - first) 0 ≡ a
      back_first = two_second back (x - first) (y - first) a b (omega (arith, in_y, wide))

      back_second : get_or backs (x - first) 0 ≡ b
      back_second =
          two_first back (x - first) (y - first) a b (omega (arith, in_x, wide)) (omega (arith, in_y, wide))
          (λ same. let e : x ≡ y = omega (arith, same, in_x, in_y) in
          alike a b y in_a in_b (sym is_x ∙ e) (sym is_y))

      back_rest : (k : ℕ) → In k → k ≢ a → k ≢ b → get_or backs (after k - first) 0 ≡ k
      back_rest k inside one two =
          two_others back (x - first) (y - first) a b (after k - first)
          (λ e. one (alike k a x inside in_a (omega (arith, e, next_in k inside, in_x)) (sym is_x)))
          (λ e. two (alike k b y inside in_b (omega (arith, e, next_in k inside, in_y)) (sym is_y)))
          ∙ both k inside

      -- and is linked back to it
      pub both_then : (k : ℕ) → In k → get_or backs (get_or nexts (k - first) 0 - first) 0 ≡ k
      both_then k inside = elim (cases_eq k b) [
        | inl is ↦ ap (λ (j : ℕ). get_or backs (get_or nexts (j - first) 0 - first) 0) is
            ∙ ap (λ (z : ℕ). get_or backs (z - first) 0) (goes_second ∙ sym is_x) ∙ back_second ∙ sym is
        | inr other ↦ elim (cases_eq k a) [
          | inl is ↦ ap (λ (j : ℕ). get_or backs (get_or nexts (j - first) 0 - first) 0) is
              ∙ ap (λ (z : ℕ). get_or backs (z - first) 0) (goes_first ∙ sym is_y) ∙ back_first ∙ sym is
          | inr apart ↦ ap (λ (z : ℕ). get_or backs (z - first) 0) (goes_rest k inside.0 apart other)
              ∙ back_rest k inside apart other
        ]
      ]

      -- the other way they lead to numbers as well
      pub backs_in : ((k : ℕ) → In k → In (before k)) → (k : ℕ) → In k → In (get_or backs (k - first) 0)
      backs_in back_in k inside = elim (cases_eq k y) [
        | inl is ↦ subst (λ (j : ℕ). In (get_or backs (j - first) 0)) (sym is) (subst In (sym back_first) in_a)
        | inr other ↦ elim (cases_eq k x) [
          | inl is ↦ subst (λ (j : ℕ). In (get_or backs (j - first) 0)) (sym is) (subst In (sym back_second) in_b)
          | inr apart ↦ subst In
              (sym (two_others back (x - first) (y - first) a b (k - first)
              (λ e. apart (omega (arith, e, inside, in_x))) (λ e. other (omega (arith, e, inside, in_y)))))
              (back_in k inside)
        ]
      ]
