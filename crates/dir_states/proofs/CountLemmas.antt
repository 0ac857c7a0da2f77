-- Pairs counted class by class: one pair more, and the pairs of a prefix as a sum over its classes.
use Rattle.std.proofs.Common.{◌≡◌, ◌≢◌, ℕ, zero, suc, ◌+◌, ◌-◌, ◌*◌, ◌/◌, ◌^◌, ◌<◌, ◌≤◌, ◌⊎◌, inl, inr, Bool, true, false, cond, List, [], ◌∷◌, ◌++◌, length, take, set, get_or, refl, sym, ap, subst, ◌∙◌, arith, add-one}
use Rattle.std.specs.Prelude.{◌==◌, ◌%◌, nat_lt}
use Rattle.std.proofs.Math.ListN.{length-set}
use Rattle.std.proofs.Math.Nat.{lt-div-mul-add, mod-add-div', pow-suc}
use Rattle.std.proofs.lemmas.Bool.{cases_lt, cases_eq, eqb-true, eqb-false, eq-eqb, lt-ltb, le-ltb}
use Rattle.std.proofs.lemmas.Nat.{pow_pos, shr_high}
use Rattle.std.proofs.lemmas.List.{append_assoc, append-nil, get_or-set_same, get_or-set_other, take_more}
use Rattle.hash_bits.specs.Prefix.{first_bits}
use lib.Pow.{pow-add}
use Rattle.plain_map.specs.declared.keys.Pair.{Pair}
use Rattle.plain_map.specs.declared.rules.Rules.{Rules}
use Rattle.plain_map.specs.PlainObject.{InRange, class_of}
use Rattle.bucket_states.specs.Items.{prefix_of}
use Rattle.table_model.specs.Setup.{classmates}
use Rattle.list_laws.proofs.Totals.{total, one_if, many, many-count, total-append, total-alike}
use Rattle.change_laws.proofs.Bits.{hash_in, prefix_of-hash}
use Rattle.hash_bits.proofs.FewerBits.{first_bits-fewer}
use Rattle.dir_states.specs.Cuts.{held, leaf_with, below, below_each}
use Rattle.dir_states.specs.Openings.{AreCounted, class_count, span}
use Rattle.dir_states.proofs.NumberLemmas.{fewer_places, one_shifted}

-- one for what is so
abbrev one_for : Bool → ℕ
one_for b = cond b 1 0

module _ (rules : Rules) where
  -- one pair more is one more of its class
  class_count-more : (pairs : List Pair) (pair : Pair) (class : ℕ) →
      class_count rules (pairs ++ pair ∷ []) class ≡ class_count rules pairs class + cond
      (class_of rules pair.key == class) 1 0
  class_count-more pairs pair class =
      let test : Pair → Bool = λ (p : Pair). class_of rules p.key == class in
      omega (
        arith,
        many-count test (pairs ++ pair ∷ []),
        many-count test pairs,
        total-append (one_if test) pairs (pair ∷ []),
      )

  -- one pair more is counted by one more at its class
  pub more-counted : (first : List Pair) (place : ℕ) (none : Pair) (counts : List ℕ) (class : ℕ) →
      place < length first → class ≡ class_of rules (get_or first place none).key
      → class < 2 ^ rules.depth → AreCounted rules (take place first) counts →
      AreCounted rules (take (place + 1) first) (set counts class (get_or counts class 0 + 1))
  more-counted first place nobody counts class inside own small counted = record {
    long = length-set counts class (get_or counts class 0 + 1) ∙ counted.long;
    each = λ c none lt. by c none lt (cases_eq c class) ∙ ap (λ l. class_count rules l c) (sym next);
  }
    where
      next : take (place + 1) first ≡ take place first ++ get_or first place nobody ∷ []
      next = take_more first place nobody inside

      by : (c none : ℕ) → c < 2 ^ rules.depth → (c ≡ class) ⊎ (c ≢ class) →
          get_or (set counts class (get_or counts class 0 + 1)) c none ≡ class_count rules
          (take place first ++ get_or first place nobody ∷ []) c
      by c none lt (inl same) =
          let there : class < length counts = omega (arith, counted.long, small) in
          let one : one_for (class_of rules (get_or first place nobody).key == c) ≡ 1 =
          ap (λ b. one_for b) (eq-eqb (class_of rules (get_or first place nobody).key) c (sym own ∙ sym same)) in
          ap (λ k. get_or (set counts class (get_or counts class 0 + 1)) k none) same
          ∙ get_or-set_same counts class (get_or counts class 0 + 1) none there
          ∙ omega (
            arith,
            counted.each class 0 small,
            class_count-more (take place first) (get_or first place nobody) c,
            one,
            ap (class_count rules (take place first)) same,
          )
      by c none lt (inr other) =
          get_or-set_other counts class c (get_or counts class 0 + 1) none other
          ∙ omega (
            arith,
            counted.each c none lt,
            class_count-more (take place first) (get_or first place nobody) c,
            unequal (class_of rules (get_or first place nobody).key == c) refl other,
          )
        where
          unequal : (b : Bool) → (class_of rules (get_or first place nobody).key == c) ≡ b → (c ≢ class) → one_for b ≡ 0
          unequal true e ne = absurd (ne (sym (own ∙ eqb-true (class_of rules (get_or first place nobody).key) c e)))
          unequal false e ne = refl

  -- the count of a pair's class is that of the earlier pairs beside it
  pub counted-classmates : (first : List Pair) (place : ℕ) (nobody : Pair) (counts : List ℕ) (class : ℕ) →
      class ≡ class_of rules (get_or first place nobody).key → class < 2 ^ rules.depth
      → AreCounted rules (take place first) counts →
      get_or counts class 0 ≡ classmates rules (get_or first place nobody).key (take place first)
  counted-classmates first place nobody counts class own small counted =
      counted.each class 0 small ∙ ap (class_count rules (take place first)) own

-- ---- sums over classes side by side

-- one count more
span-next : (counts : List ℕ) (low n : ℕ) → span counts low (suc n) ≡ span counts low n + get_or counts (low + n) 0
span-next counts low zero = (let here : low + 0 ≡ low = omega arith in omega (arith, ap (λ k. get_or counts k 0) here))
span-next counts low (suc n) = (let there : suc low + n ≡ low + suc n = omega arith in
    omega (arith, span-next counts (suc low) n, ap (λ k. get_or counts k 0) there))

-- the same, with the number beside
pub span-more : (counts : List ℕ) (low n : ℕ) → span counts low (n + 1) ≡ span counts low n + get_or counts (low + n) 0
span-more counts low n = ap (span counts low) (add-one n) ∙ span-next counts low n

-- more counts have no smaller sum
pub span-grows : (counts : List ℕ) (low m n : ℕ) → m ≤ n → span counts low m ≤ span counts low n
span-grows counts low zero n le = omega arith
span-grows counts low (suc m) zero le = absurd (omega (arith, le))
span-grows counts low (suc m) (suc n) le = omega (arith, span-grows counts (suc low) m n (omega (arith, le)))

module _ {A : Type 0} where
  -- the sum of sums
  total-sum : (f g : A → ℕ) (xs : List A) → total (λ x. f x + g x) xs ≡ total f xs + total g xs
  total-sum f g [] = refl
  total-sum f g (x ∷ xs) = omega (arith, total-sum f g xs)

  -- the sum of noughts
  total-none : (xs : List A) → total (λ _. 0) xs ≡ 0
  total-none [] = refl
  total-none (x ∷ xs) = omega (arith, total-none xs)

-- none for the first, and else one for the second
abbrev unless : Bool → Bool → ℕ
unless b c = cond b 0 (one_for c)

-- one where the class is among so many from the first on
abbrev among : (low n class : ℕ) → ℕ
among low n class = cond (nat_lt class low) 0 (one_for (nat_lt class (low + n)))

-- a class is among them
among-in : (low n class : ℕ) → low ≤ class → class < low + n → among low n class ≡ 1
among-in low n class le lt =
    ap (λ b. unless b (nat_lt class (low + n))) (le-ltb class low le) ∙ ap (λ b. one_for b) (lt-ltb class (low + n) lt)

-- or below
among-below : (low n class : ℕ) → class < low → among low n class ≡ 0
among-below low n class lt = ap (λ b. unless b (nat_lt class (low + n))) (lt-ltb class low lt)

-- or above
among-above : (low n class : ℕ) → low + n ≤ class → among low n class ≡ 0
among-above low n class le =
    ap (λ b. unless b (nat_lt class (low + n))) (le-ltb class low (omega (arith, le)))
    ∙ ap (λ b. one_for b) (le-ltb class (low + n) le)

-- one class more
among-more : (low n class : ℕ) → among low (suc n) class ≡ cond (class == low) 1 0 + among (suc low) n class
among-more low n class = by (cases_lt class low) (cases_eq class low) (cases_lt class (low + suc n))
  where
    same : (b : Bool) → (class == low) ≡ b → class ≡ low → one_for b ≡ 1
    same true e s = refl
    same false e s = absurd (eqb-false class low e s)

    other : (b : Bool) → (class == low) ≡ b → (class ≡ low → ⊥) → one_for b ≡ 0
    other true e s = absurd (s (eqb-true class low e))
    other false e s = refl

    by : (class < low) ⊎ (low ≤ class) → (class ≡ low) ⊎ (class ≢ low) →
        (class < low + suc n) ⊎ (low + suc n ≤ class) →
        among low (suc n) class ≡ cond (class == low) 1 0 + among (suc low) n class
    by (inl lt) (inl e) up = absurd (omega (arith, lt, e))
    by (inl lt) (inr ne) up = omega (
      arith,
      among-below low (suc n) class lt,
      among-below (suc low) n class (omega (arith, lt)),
      other (class == low) refl ne,
    )
    by (inr ge) (inl e) up = omega (
      arith,
      among-in low (suc n) class ge (omega (arith, e)),
      among-below (suc low) n class (omega (arith, e)),
      same (class == low) refl e,
    )
    by (inr ge) (inr ne) (inl lt) = omega (
      arith,
      among-in low (suc n) class ge lt,
      among-in (suc low) n class (omega (arith, ge, ne)) (omega (arith, lt)),
      other (class == low) refl ne,
    )
    by (inr ge) (inr ne) (inr far) = omega (
      arith,
      among-above low (suc n) class far,
      among-above (suc low) n class (omega (arith, far)),
      other (class == low) refl ne,
    )

module _ (rules : Rules) (range : InRange rules) (pairs : List Pair) (counts : List ℕ)
    (counted : AreCounted rules pairs counts) where
  -- the sum counts the pairs whose class is among them
  span-among : (low n : ℕ) → low + n ≤ 2 ^ rules.depth →
      span counts low n ≡ total (λ (pair : Pair). among low n (class_of rules pair.key)) pairs
  span-among low zero inside = sym (total-alike (λ (pair : Pair). among low 0 (class_of rules pair.key))
      (λ _. 0) pairs (λ pair. nothing (class_of rules pair.key)) ∙ total-none pairs)
    where
      nothing : (class : ℕ) → among low 0 class ≡ 0
      nothing class = by (cases_lt class low)
        where
          by : (class < low) ⊎ (low ≤ class) → among low 0 class ≡ 0
          by (inl lt) = among-below low 0 class lt
          by (inr ge) = among-above low 0 class (omega (arith, ge))
  span-among low (suc n) inside =
      let test : Pair → Bool = λ (pair : Pair). class_of rules pair.key == low in
      let parts = total-sum (one_if test) (λ (pair : Pair). among (suc low) n (class_of rules pair.key)) pairs in
      let alike = total-alike (λ (pair : Pair). among low (suc n) (class_of rules pair.key))
      (λ (pair : Pair). one_if test pair + among (suc low) n (class_of rules pair.key)) pairs
      (λ pair. among-more low n (class_of rules pair.key)) in
      omega (
        arith,
        counted.each low 0 (omega (arith, inside)),
        many-count test pairs,
        span-among (suc low) n (omega (arith, inside)),
        parts,
        alike,
      )

  -- the pairs of a prefix are those of its classes
  pub span-held : (more prefix : ℕ) → more ≤ rules.depth → prefix < 2 ^ (rules.depth - more) →
      span counts (prefix * 2 ^ more) (2 ^ more) ≡ held rules pairs (rules.depth - more) prefix
  unfolding class_of
  span-held more prefix few small =
      span-among (prefix * 2 ^ more) (2 ^ more) inside
      ∙ total-alike (λ (pair : Pair). among (prefix * 2 ^ more) (2 ^ more) (class_of rules pair.key))
      (one_if test) pairs (λ pair. same pair)
      ∙ many-count test pairs
    where
      test : Pair → Bool
      test pair = prefix_of rules (rules.depth - more) pair.key == prefix

      widths : 2 ^ rules.depth ≡ 2 ^ (rules.depth - more) * 2 ^ more
      widths = ap (λ n. 2 ^ n) (omega (arith, few)) ∙ pow-add 2 (rules.depth - more) more

      some : 0 < 2 ^ more
      some = pow_pos more

      inside : prefix * 2 ^ more + 2 ^ more ≤ 2 ^ rules.depth
      inside = (let next : suc prefix ≤ 2 ^ (rules.depth - more) = omega (arith, small) in grind (arith, widths, next))

      fewer : (pair : Pair) → class_of rules pair.key / 2 ^ more ≡ prefix_of rules (rules.depth - more) pair.key
      fewer pair =
          let bits : rules.depth - (rules.depth - more) ≡ more = omega (arith, few) in
          ap (λ n. first_bits (hash_in rules pair.key) rules.depth / 2 ^ n) (sym bits)
          ∙ first_bits-fewer (hash_in rules pair.key) rules.depth (rules.depth - more) (omega (arith, few))
          (omega (arith, range.depth))
          ∙ sym (prefix_of-hash rules (rules.depth - more) pair.key)

      same : (pair : Pair) → among (prefix * 2 ^ more) (2 ^ more) (class_of rules pair.key) ≡ one_if test pair
      same pair = by (cases_eq (prefix_of rules (rules.depth - more) pair.key) prefix)
        where
          low : class_of rules pair.key / 2 ^ more * 2 ^ more ≤ class_of rules pair.key
          low = omega (arith, mod-add-div' (class_of rules pair.key) (2 ^ more))

          high : class_of rules pair.key < class_of rules pair.key / 2 ^ more * 2 ^ more + 2 ^ more
          high = lt-div-mul-add some

          unequal : (b : Bool) → (prefix_of rules (rules.depth - more) pair.key == prefix) ≡ b →
              (prefix_of rules (rules.depth - more) pair.key ≡ prefix → ⊥) → 0 ≡ one_for b
          unequal true e ne = absurd (ne (eqb-true (prefix_of rules (rules.depth - more) pair.key) prefix e))
          unequal false e ne = refl

          outside : (prefix_of rules (rules.depth - more) pair.key ≡ prefix → ⊥) →
              (class_of rules pair.key < prefix * 2 ^ more) ⊎ (prefix * 2 ^ more ≤ class_of rules pair.key) →
              (class_of rules pair.key < prefix * 2 ^ more + 2 ^ more)
              ⊎ (prefix * 2 ^ more + 2 ^ more ≤ class_of rules pair.key) →
              among (prefix * 2 ^ more) (2 ^ more) (class_of rules pair.key) ≡ 0
          outside ne (inl lt) up = among-below (prefix * 2 ^ more) (2 ^ more) (class_of rules pair.key) lt
          outside ne (inr ge) (inr far) = among-above (prefix * 2 ^ more) (2 ^ more) (class_of rules pair.key) far
          outside ne (inr ge) (inl lt) =
              let rest : ℕ = class_of rules pair.key - prefix * 2 ^ more in
              let it : class_of rules pair.key ≡ prefix * 2 ^ more + rest = omega (arith, ge) in
              absurd (ne (sym (fewer pair) ∙ ap (λ n. n / 2 ^ more) it
              ∙ shr_high prefix more rest (omega (arith, ge, lt))))

          by : (prefix_of rules (rules.depth - more) pair.key ≡ prefix)
              ⊎ (prefix_of rules (rules.depth - more) pair.key ≢ prefix) →
              among (prefix * 2 ^ more) (2 ^ more) (class_of rules pair.key) ≡ one_if test pair
          by (inl e) =
              let own : class_of rules pair.key / 2 ^ more ≡ prefix = fewer pair ∙ e in
              among-in (prefix * 2 ^ more) (2 ^ more) (class_of rules pair.key)
              (subst (λ p. p * 2 ^ more ≤ class_of rules pair.key) own low)
              (subst (λ p. class_of rules pair.key < p * 2 ^ more + 2 ^ more) own high)
              ∙ sym (ap (λ b. one_for b) (eq-eqb (prefix_of rules (rules.depth - more) pair.key) prefix e))
          by (inr ne) =
              outside ne (cases_lt (class_of rules pair.key) (prefix * 2 ^ more))
              (cases_lt (class_of rules pair.key) (prefix * 2 ^ more + 2 ^ more))
              ∙ unequal (prefix_of rules (rules.depth - more) pair.key == prefix) refl ne

-- ---- places as shifts

-- the classes of a prefix are classes
pub prefix-inside : (depth more prefix : ℕ) → more ≤ depth → prefix < 2 ^ (depth - more) →
    prefix * 2 ^ more + 2 ^ more ≤ 2 ^ depth
prefix-inside depth more prefix few small =
    let widths : 2 ^ depth ≡ 2 ^ (depth - more) * 2 ^ more =
    ap (λ n. 2 ^ n) (omega (arith, few)) ∙ pow-add 2 (depth - more) more in
    let next : suc prefix ≤ 2 ^ (depth - more) = omega (arith, small) in
    grind (arith, widths, next)

-- a shift of a prefix is no larger than a word
pub low-fits : (rules : Rules) → InRange rules → (more prefix : ℕ) → more ≤ rules.depth →
    prefix < 2 ^ (rules.depth - more) → prefix * 2 ^ more % 18446744073709551616 ≡ prefix * 2 ^ more
low-fits rules range more prefix few small =
    let inside = prefix-inside rules.depth more prefix few small in
    let most : 2 ^ rules.depth ≤ 2 ^ 20 = fewer_places rules.depth 20 range.depth in
    let number : 2 ^ 20 ≡ 1048576 = refl in
    omega (arith, inside, most, number)

-- and so is its width
pub one-fits : (rules : Rules) → InRange rules → (more : ℕ) → more ≤ rules.depth →
    1 * 2 ^ more % 18446744073709551616 ≡ 2 ^ more
one-fits rules range more few = one_shifted more (omega (arith, few, range.depth))

-- ---- the two parts of a prefix

-- a power is twice the one before
pub two-powers : (more : ℕ) → (more ≡ 0 → ⊥) → 2 ^ more ≡ 2 ^ (more - 1) + 2 ^ (more - 1)
two-powers more some =
    let next : suc (more - 1) ≡ more = omega (arith, some) in
    omega (arith, ap (λ n. 2 ^ n) (sym next), pow-suc 2 (more - 1))

-- both parts are prefixes of one bit more
pub first-part : (depth more prefix : ℕ) → (more ≡ 0 → ⊥) → more ≤ depth → prefix < 2 ^ (depth - more) →
    2 * prefix < 2 ^ (depth - (more - 1))
first-part depth more prefix some few small =
    let next : suc (depth - more) ≡ depth - (more - 1) = omega (arith, some, few) in
    omega (arith, small, ap (λ n. 2 ^ n) (sym next), pow-suc 2 (depth - more))

-- the second one
pub second-part : (depth more prefix : ℕ) → (more ≡ 0 → ⊥) → more ≤ depth → prefix < 2 ^ (depth - more) →
    2 * prefix + 1 < 2 ^ (depth - (more - 1))
second-part depth more prefix some few small =
    let next : suc (depth - more) ≡ depth - (more - 1) = omega (arith, some, few) in
    omega (arith, small, ap (λ n. 2 ^ n) (sym next), pow-suc 2 (depth - more))

module _ (rules : Rules) (seats : ℕ) (all pairs : List Pair) where
  -- no bit more may be taken
  pub grown-none : (more depth prefix : ℕ) → more ≡ 0 →
      below rules seats all pairs more depth prefix ≡ leaf_with rules seats pairs depth prefix ∷ []
  grown-none zero depth prefix none = refl
  grown-none (suc more) depth prefix none = absurd (omega (arith, none))

  -- not too many pairs have the prefix
  pub grown-one : (more depth prefix : ℕ) → nat_lt rules.items (held rules all depth prefix) ≡ false →
      below rules seats all pairs more depth prefix ≡ leaf_with rules seats pairs depth prefix ∷ []
  grown-one zero depth prefix few = refl
  grown-one (suc more) depth prefix few =
      ap (λ b. cond b (below rules seats all pairs more (suc depth) (2 * prefix + 0)
      ++ below rules seats all pairs more (suc depth) (2 * prefix + 1))
      (leaf_with rules seats pairs depth prefix ∷ [])) few

  -- too many have it
  pub grown-two : (more depth prefix : ℕ) → (more ≡ 0 → ⊥) → nat_lt rules.items (held rules all depth prefix) ≡ true
      → below rules seats all pairs more depth prefix ≡ below rules seats all pairs (more - 1) (suc depth)
      (2 * prefix + 0) ++ below rules seats all pairs (more - 1) (suc depth) (2 * prefix + 1)
  grown-two zero depth prefix some many = absurd (some refl)
  grown-two (suc more) depth prefix some many =
      ap (λ b. cond b (below rules seats all pairs more (suc depth) (2 * prefix + 0)
      ++ below rules seats all pairs more (suc depth) (2 * prefix + 1))
      (leaf_with rules seats pairs depth prefix ∷ [])) many
      ∙ ap (λ m. below rules seats all pairs m (suc depth) (2 * prefix + 0)
      ++ below rules seats all pairs m (suc depth) (2 * prefix + 1)) less
    where
      less : more ≡ suc more - 1
      less = omega arith

  -- both parts together are the prefix
  pub grown-both : (more prefix : ℕ) → (more ≡ 0 → ⊥) → more ≤ rules.depth →
      nat_lt rules.items (held rules all (rules.depth - more) prefix) ≡ true
      → below rules seats all pairs (more - 1) (rules.depth - (more - 1)) (2 * prefix)
      ++ below rules seats all pairs (more - 1) (rules.depth - (more - 1)) (2 * prefix + 1)
      ≡ below rules seats all pairs more (rules.depth - more) prefix
  grown-both more prefix some few many =
      let deeper : rules.depth - (more - 1) ≡ suc (rules.depth - more) = omega (arith, some, few) in
      let first : 2 * prefix ≡ 2 * prefix + 0 = omega arith in
      ap (λ d. below rules seats all pairs (more - 1) d (2 * prefix)
      ++ below rules seats all pairs (more - 1) d (2 * prefix + 1)) deeper
      ∙ ap (λ p. below rules seats all pairs (more - 1) (suc (rules.depth - more)) p
      ++ below rules seats all pairs (more - 1) (suc (rules.depth - more)) (2 * prefix + 1)) first
      ∙ sym (grown-two more (rules.depth - more) prefix some many)

  -- the leaves of one prefix more
  each-next : (start from count : ℕ) → below_each rules seats all pairs start from
      (suc count) ≡ below_each rules seats all pairs start from count
      ++ below rules seats all pairs (rules.depth - start) start (from + count)
  each-next start from zero = append-nil (below rules seats all pairs (rules.depth - start) start from)
      ∙ ap (below rules seats all pairs (rules.depth - start) start) (omega arith)
  each-next start from (suc count) =
      ap (λ l. below rules seats all pairs (rules.depth - start) start from ++ l) (each-next start (suc from) count)
      ∙ sym (append_assoc (below rules seats all pairs (rules.depth - start) start from)
      (below_each rules seats all pairs start (suc from) count)
      (below rules seats all pairs (rules.depth - start) start (suc from + count)))
      ∙ ap (λ k. (below rules seats all pairs (rules.depth - start) start from
      ++ below_each rules seats all pairs start (suc from) count)
      ++ below rules seats all pairs (rules.depth - start) start k) (omega arith)

  -- one prefix of the starting depth more
  pub each-more : (start from count : ℕ) → below_each rules seats all pairs start from
      (count + 1) ≡ below_each rules seats all pairs start from count
      ++ below rules seats all pairs (rules.depth - start) start (from + count)
  each-more start from count = ap (below_each rules seats all pairs start from) (add-one count)
      ∙ each-next start from count
