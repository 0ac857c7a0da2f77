-- Depths at which no prefix is crowded by some keys: none is crowded at a later depth, so those with a crowded prefix
-- are the first ones, and the depth behind them, up to which a batch's table can become deep, is calm.
use Rattle.std.proofs.Common.{◌≡◌, ℕ, suc, ◌+◌, ◌-◌, ◌/◌, ◌^◌, ◌<◌, ◌≤◌, ◌==◌, ◌⊎◌, Bool, true, false, List, [], ◌∷◌, inl, inr, refl, sym, ap, subst, ◌∙◌, div-le_self, arith}
use Rattle.std.specs.Prelude.{count_by, nat_lt}
use Rattle.std.specs.List.{range_with_len}
use Rattle.std.proofs.Math.Nat.{div-div-eq-div-mul}
use Rattle.std.proofs.Math.Pow.{pow_mono}
use lib.Pow.{pow-add}
use Rattle.std.proofs.lemmas.Bool.{cases_lt, cases_eq, eqb-true, eq-eqb, ltb-true, ltb-false, false_from_ne_true, true_from_ne_false, true≢false}
use Rattle.std.proofs.lemmas.List.Sums.{sum_by-cons, sum_by-le-sum_by}
use Rattle.hash_bits.specs.Prefix.{first_bits}
use Rattle.hash_bits.proofs.PrefixLemmas.{first_bits-within}
use Rattle.plain_map.specs.declared.keys.Key.{Key}
use Rattle.plain_map.specs.declared.rules.Rules.{Rules}
use Rattle.plain_map.specs.Keys.{hash_of_key}
use Rattle.bucket_states.specs.Items.{prefix_of}
use Rattle.table_model.specs.Needs.{distinct_keys, is_crowded, crowded_at}
use Rattle.bound_laws.proofs.Levels.{count_range}
use Rattle.list_laws.proofs.Pigeons.{flag, passing, pigeons, passing_most}
use Rattle.batch_rows.specs.Depths.{depth_for}
use Rattle.plain_map.proofs.KeyLemmas.{hash_of_key-within}

-- ---- counts

-- of a test that passes less, no more pass
pub passes_less : {X : Type 0} (few many : X → Bool) (xs : List X) → ((x : X) → few x ≡ true → many x ≡ true) →
    count_by few xs ≤ count_by many xs
passes_less few many xs less = sum_by-le-sum_by (λ x. flag (few x)) (λ x. flag (many x)) xs
    (λ x. one (few x) (many x) (less x))
  where
    one : (a b : Bool) → (a ≡ true → b ≡ true) → flag a ≤ flag b
    one true b more = omega (arith, ap flag (more refl))
    one false b more = omega arith

-- either no key has the number, or some key does
none_or_one : (number : Key → ℕ) (is : ℕ) (keys : List Key) →
    (count_by (λ key. number key == is) keys ≡ 0) ⊎ ((key : Key) × (number key ≡ is))
none_or_one number is [] = inl refl
none_or_one number is (key ∷ keys) = elim (cases_eq (number key) is) [
  | inl here ↦ inr (key, here)
  | inr other ↦ elim (none_or_one number is keys) [
    | inl none ↦ inl (omega (
      arith,
      none,
      sum_by-cons (λ k. flag (number k == is)) key keys,
      ap flag (false_from_ne_true (number key == is) (λ so. other (eqb-true (number key) is so))),
    ))
    | inr one ↦ inr one
  ]
]

-- where no number passes, none are counted
count_none : (test : ℕ → Bool) (numbers : List ℕ) → ((n : ℕ) → test n ≡ false) → count_by test numbers ≡ 0
count_none test [] none = refl
count_none test (n ∷ numbers) none =
    omega (arith, sum_by-cons (λ i. flag (test i)) n numbers, ap flag (none n), count_none test numbers none)

-- where some number passes, they are not none
passing_some : (test : ℕ → Bool) (n i : ℕ) → i < n → test i ≡ true → 1 ≤ passing test n
passing_some test n i lt passes =
    pigeons test n 1 (λ k. i) (λ k h. (lt, passes)) (λ k j hk hj e. omega (arith, hk, hj))

-- where none passes behind one that does not, those that pass are the first ones
first_not : (test : ℕ → Bool) (n : ℕ) → ((i j : ℕ) → i ≤ j → test i ≡ false → test j ≡ false) → passing test n < n →
    test (passing test n) ≡ false
first_not test n falls less = false_from_ne_true (test (passing test n)) (λ so.
    let many = pigeons test n (suc (passing test n)) (λ i. i) (λ i lt. (
      omega (arith, lt, less),
      true_from_ne_false (test i) (λ no. true≢false (sym so ∙ falls i (passing test n) (omega (arith, lt)) no)),
    ))
    (λ i j hi hj same. same) in
    omega (arith, many))

-- ---- prefixes

-- hashes of which so many first bits are alike have fewer alike
pub alike_before : (a b few many : ℕ) → few ≤ many → first_bits a many ≡ first_bits b many →
    first_bits a few ≡ first_bits b few
unfolding first_bits
alike_before a b few many less same =
    part a ∙ ap (λ (n : ℕ). n / 2 ^ (64 - few - (64 - many))) same ∙ sym (part b)
  where
    widths : (64 - many) + (64 - few - (64 - many)) ≡ 64 - few
    widths = omega (arith, less)

    part : (h : ℕ) → h / 2 ^ (64 - few) ≡ h / 2 ^ (64 - many) / 2 ^ (64 - few - (64 - many))
    part h = sym (div-div-eq-div-mul h (2 ^ (64 - many)) (2 ^ (64 - few - (64 - many)))
        ∙ ap (λ (k : ℕ). h / k) (sym (pow-add 2 (64 - many) (64 - few - (64 - many))) ∙ ap (λ (k : ℕ). 2 ^ k) widths))

-- a prefix is one of the numbers of its depth
prefix_below : (rules : Rules) (depth : ℕ) (key : Key) → prefix_of rules depth key < 2 ^ depth
unfolding prefix_of first_bits
prefix_below rules depth key = elim (cases_lt depth 64) [
  | inl low ↦ first_bits-within hash depth small (omega (arith, low))
  | inr high ↦
      let wide : 2 ^ 64 ≤ 2 ^ depth = pow_mono high in
      let part : hash / 2 ^ (64 - depth) ≤ hash = div-le_self hash (2 ^ (64 - depth)) in
      omega (arith, wide, part, small)
]
  where
    hash : ℕ
    hash = hash_of_key rules.hashing key

    small : hash_of_key rules.hashing key < 2 ^ 64
    small = hash_of_key-within rules.hashing key

-- ---- calm depths

-- no prefix of the depth has more of these keys than a bucket has room for
abbrev pub IsCalm : Rules → List Key → (depth : ℕ) → Type 0
IsCalm rules keys depth = (key : Key) →
    count_by (λ other. prefix_of rules depth other == prefix_of rules depth key) (distinct_keys keys) ≤ rules.items

module _ (rules : Rules) (keys : List Key) where
  -- a depth is calm where none is crowded
  calm_from_none : (depth : ℕ) → crowded_at rules keys depth ≡ 0 → IsCalm rules keys depth
  calm_from_none depth none key =
      let prefix : ℕ = prefix_of rules depth key in
      let test : ℕ → Bool = λ i. is_crowded rules keys depth (0 + i) in
      let same : 0 + prefix ≡ prefix = omega arith in
      let not_crowded : is_crowded rules keys depth prefix ≡ false =
      ap (is_crowded rules keys depth) (sym same) ∙ false_from_ne_true (test prefix) (λ so.
      let some = passing_some test (2 ^ depth) prefix (prefix_below rules depth key) so in
      omega (arith, some, none, count_range (is_crowded rules keys depth) 0 (2 ^ depth))) in
      omega (
        arith,
        ltb-false rules.items
            (count_by (λ other. prefix_of rules depth other == prefix) (distinct_keys keys)) not_crowded,
      )

  -- and none is where it is calm
  pub none_from_calm : (depth : ℕ) → IsCalm rules keys depth → crowded_at rules keys depth ≡ 0
  none_from_calm depth calm = count_none (is_crowded rules keys depth) (range_with_len 0 (2 ^ depth)) (λ prefix.
      false_from_ne_true (is_crowded rules keys depth prefix) (λ so.
      let many = ltb-true rules.items
      (count_by (λ other. prefix_of rules depth other == prefix) (distinct_keys keys)) so in
      elim (none_or_one (prefix_of rules depth) prefix (distinct_keys keys)) [
        | inl none ↦ omega (arith, many, none)
        | inr one ↦
            let few = subst (λ p. count_by (λ other. prefix_of rules depth other == p) (distinct_keys keys)
            ≤ rules.items) one.1 (calm one.0) in
            omega (arith, many, few)
      ]))

  -- behind a calm depth each is calm
  pub calm_behind : (few many : ℕ) → few ≤ many → IsCalm rules keys few → IsCalm rules keys many
  unfolding prefix_of
  calm_behind few many less calm key =
      let fewer = passes_less (λ other. prefix_of rules many other == prefix_of rules many key)
      (λ other. prefix_of rules few other == prefix_of rules few key) (distinct_keys keys)
      (λ other same. eq-eqb (prefix_of rules few other) (prefix_of rules few key)
      (alike_before (hash_of_key rules.hashing other) (hash_of_key rules.hashing key) few many less
      (eqb-true (prefix_of rules many other) (prefix_of rules many key) same))) in
      omega (arith, fewer, calm key)

  -- so no prefix is crowded at a depth behind one at which none is
  none_behind : (few many : ℕ) → few ≤ many → nat_lt 0 (crowded_at rules keys few) ≡ false →
      nat_lt 0 (crowded_at rules keys many) ≡ false
  none_behind few many less none =
      let here : crowded_at rules keys few ≡ 0 = omega (arith, ltb-false 0 (crowded_at rules keys few) none) in
      ap (nat_lt 0) (none_from_calm many (calm_behind few many less (calm_from_none few here)))

  module _ (start : ℕ) where
    -- some prefix is crowded so many depths behind the first
    abbrev some_crowded : ℕ → Bool
    some_crowded more = nat_lt 0 (crowded_at rules keys (start + more))

    -- the depth is so many behind the first as there are such
    depth_is : depth_for rules start keys ≡ start + passing some_crowded (rules.depth - start)
    depth_is = ap (λ (n : ℕ). start + n)
        (count_range (λ depth. nat_lt 0 (crowded_at rules keys depth)) start (rules.depth - start))

    -- it is calm where it is not the last
    pub depth_calm : depth_for rules start keys < rules.depth → IsCalm rules keys (depth_for rules start keys)
    depth_calm less =
        let behind = first_not some_crowded (rules.depth - start)
        (λ i j le none. none_behind (start + i) (start + j) (omega (arith, le)) none)
        (omega (arith, less, depth_is)) in
        let none = ltb-false 0 (crowded_at rules keys (start + passing some_crowded (rules.depth - start))) behind in
        subst (IsCalm rules keys) (sym depth_is) (calm_from_none
        (start + passing some_crowded (rules.depth - start)) (omega (arith, none)))

-- the lesser depth is between the starting one and the greatest
pub depth_is_within : (rules : Rules) (start : ℕ) (keys : List Key) → start ≤ rules.depth →
    (start ≤ depth_for rules start keys) × (depth_for rules start keys ≤ rules.depth)
depth_is_within rules start keys within =
    let is = depth_is rules keys start in
    let most = passing_most (some_crowded rules keys start) (rules.depth - start) in
    (omega (arith, is), omega (arith, is, most, within))
