-- Which prefixes can be split after the opening, and how many: those of which more keys came than a bucket has room
-- for, less those of which more first ones had come.
use Rattle.std.proofs.Common.{◌≡◌, ℕ, zero, suc, ◌+◌, ◌-◌, ◌^◌, ◌<◌, ◌≤◌, ◌==◌, Bool, true, false, leb, List, ◌++◌, refl, sym, ap, ◌∙◌, arith}
use Rattle.std.specs.Prelude.{count_by, filter, ◌&&◌, not}
use Rattle.std.proofs.lemmas.Bool.{lt-ltb, ltb-true, le-leb, leb-true, and_from, eq-eqb, false≢true}
use Rattle.std.proofs.lemmas.List.Sums.{length-filter}
use Rattle.plain_map.specs.declared.keys.Key.{Key}
use Rattle.plain_map.specs.declared.rules.Rules.{Rules}
use Rattle.bucket_states.specs.Items.{prefix_of}
use Rattle.bucket_states.specs.Parts.{keys_of}
use Rattle.table_model.specs.Setup.{Setup, rules_of}
use Rattle.table_model.specs.Needs.{distinct_keys, is_crowded, crowded_at, crowded, splits_in}
use Rattle.bound_laws.proofs.KeyCounts.{has, has_passing, distinct_has, at_most, no_more, each_has}
use Rattle.bound_laws.proofs.Crowds.{Crowd}
use Rattle.bound_laws.proofs.Crowding.{first_count}
use Rattle.bound_laws.proofs.Given.{has_left}
use Rattle.bound_laws.proofs.Levels.{passing_alike, count_range, sum_below, sum_less, sum_both, sum_append, sum_none, sum_range, tested, tested_count}
use Rattle.list_laws.proofs.Pigeons.{flag, passing}

-- where each that passes the one test or the other passes a third, and none passes both
passing_both : (f g h : ℕ → Bool) (n : ℕ) → ((i : ℕ) → flag (f i) + flag (g i) ≤ flag (h i)) →
    passing f n + passing g n ≤ passing h n
passing_both f g h zero less = omega arith
passing_both f g h (suc n) less = omega (arith, less n, passing_both f g h n less)

-- where none passes
passing_none : (f : ℕ → Bool) (n : ℕ) → ((i : ℕ) → f i ≡ false) → passing f n ≡ 0
passing_none f zero none = refl
passing_none f (suc n) none = omega (arith, ap flag (none n), passing_none f n none)

-- of more keys no fewer pass
pub more_pass : (test : Key → Bool) (few many : List Key) → ((q : Key) → has few q ≡ true → has many q ≡ true) →
    count_by test (distinct_keys few) ≤ count_by test (distinct_keys many)
more_pass test few many sub =
    let some = no_more test few (filter test (distinct_keys many)) (λ q t h. has_passing test (distinct_keys many) q
    ∙ ap (λ b. b && has (distinct_keys many) q) t ∙ distinct_has many q ∙ sub q h) in
    omega (arith, some, length-filter test (distinct_keys many))

module _ (setup : Setup) (inserted : List Key) where
  abbrev rules : Rules
  rules = rules_of setup

  abbrev start : ℕ
  start = setup.shape.settings.start

  abbrev depth : ℕ
  depth = setup.shape.settings.depth

  abbrev first : List Key
  first = keys_of setup.first

  abbrev pub all_keys : List Key
  all_keys = first ++ inserted

  -- the prefix can be split
  abbrev pub splittable : ℕ → ℕ → Bool
  splittable d p = leb start d && (is_crowded rules all_keys d p && not (is_crowded rules first d p))

  -- a crowd that has come, where there is none of first keys
  pub crowd_splittable : (C : Key → Type 0) → ((key : Key) → C key → has all_keys key ≡ true) → (d p : ℕ) → start ≤ d →
      first_count setup d p ≤ setup.shape.settings.items → Crowd C rules d p → splittable d p ≡ true
  crowd_splittable C known d p deep calm x =
      let test : Key → Bool = λ key. prefix_of rules d key == p in
      let many = at_most test x.keys all_keys x.distinct
      (λ q h. (let e = each_has (λ key. C key × (prefix_of rules d key ≡ p)) x.keys q x.each h in
      (eq-eqb (prefix_of rules d q) p e.1, known q e.0))) in
      and_from (leb start d) (is_crowded rules all_keys d p && not (is_crowded rules first d p)) (le-leb start d deep)
      (and_from (is_crowded rules all_keys d p) (not (is_crowded rules first d p))
      (lt-ltb rules.items (count_by test (distinct_keys all_keys)) (omega (arith, x.many, many)))
      (none (is_crowded rules first d p) refl))
    where
      none : (b : Bool) → is_crowded rules first d p ≡ b → not b ≡ true
      none true e = absurd (omega (arith, calm, ltb-true rules.items (first_count setup d p) e))
      none false e = refl

  -- ---- how many they are

  first_crowded : (d p : ℕ) → is_crowded rules first d p ≡ true → is_crowded rules all_keys d p ≡ true
  first_crowded d p e =
      let test : Key → Bool = λ key. prefix_of rules d key == p in
      let more = more_pass test first all_keys (λ q h. has_left first inserted q h) in
      lt-ltb rules.items (count_by test (distinct_keys all_keys))
      (omega (arith, more, ltb-true rules.items (first_count setup d p) e))

  -- a prefix that can be split is crowded, and one that is crowded by first keys is so too, but is no such
  one_of : (d p : ℕ) → flag (splittable d p) + flag (is_crowded rules first d p) ≤ flag (is_crowded rules all_keys d p)
  one_of d p = go (leb start d) (is_crowded rules all_keys d p) refl (is_crowded rules first d p) refl
    where
      go : (x b : Bool) → is_crowded rules all_keys d p ≡ b → (f : Bool) → is_crowded rules first d p ≡ f →
          flag (x && (b && not f)) + flag f ≤ flag b
      go true true e true g = omega arith
      go true true e false g = omega arith
      go true false e false g = omega arith
      go false true e true g = omega arith
      go false true e false g = omega arith
      go false false e false g = omega arith
      go x false e true g = absurd (false≢true (sym e ∙ first_crowded d p g))

  -- the crowded prefixes of a depth, as numbers that pass
  level : (keys : List Key) (d : ℕ) → crowded_at rules keys d ≡ passing (is_crowded rules keys d) (2 ^ d)
  level keys d = count_range (is_crowded rules keys d) 0 (2 ^ d) ∙ passing_alike (λ i. is_crowded rules keys d (0 + i))
      (is_crowded rules keys d) (2 ^ d) (λ i h. (let e : 0 + i ≡ i = omega arith in ap (is_crowded rules keys d) e))

  -- so at each depth those that can be split are at most the new crowded ones
  level_less : (d : ℕ) → passing (splittable d) (2 ^ d) + crowded_at rules first d ≤ crowded_at rules all_keys d
  level_less d = omega (
    arith,
    level first d,
    level all_keys d,
    passing_both (splittable d) (is_crowded rules first d)
        (is_crowded rules all_keys d) (2 ^ d) (one_of d),
  )

  -- and at all depths together
  all_levels : (keys : List Key) → crowded rules start keys ≡ sum_below (λ i. crowded_at rules keys (start + i))
      (depth - start)
  unfolding crowded
  all_levels keys = sum_range (crowded_at rules keys) start (depth - start)

  -- so many prefixes can be split
  pub splits_are : passing (tested splittable depth) (2 ^ depth) ≤ splits_in setup inserted
  splits_are =
      let g : ℕ → ℕ = λ d. passing (splittable d) (2 ^ d) in
      let within : start ≤ depth = omega arith in
      let whole : start + (depth - start) ≡ depth = omega (arith, within) in
      let none = sum_none g start
      (λ d h. passing_none (splittable d) (2 ^ d)
      (λ p. ap (λ b. b && (is_crowded rules all_keys d p && not (is_crowded rules first d p)))
      (low d h (leb start d) refl))) in
      let less = sum_less (λ i. g (start + i) + crowded_at rules first (start + i))
      (λ i. crowded_at rules all_keys (start + i)) (depth - start) (λ i h. level_less (start + i)) in
      let both = sum_both (λ i. g (start + i)) (λ i. crowded_at rules first (start + i)) (depth - start) in
      omega (
        arith,
        tested_count splittable depth,
        ap (sum_below g) whole,
        sum_append g start (depth - start),
        none,
        less,
        both,
        all_levels first,
        all_levels all_keys,
      )
    where
      low : (d : ℕ) → d < start → (b : Bool) → leb start d ≡ b → leb start d ≡ false
      low d h true e = absurd (omega (arith, h, leb-true start d e))
      low d h false e = e
