-- How many prefixes of a depth so many keys can crowd.
use Rattle.std.proofs.Common.{◌≡◌, ℕ, zero, suc, ◌+◌, ◌-◌, ◌*◌, ◌/◌, ◌^◌, ◌≤◌, ◌==◌, Bool, true, false, cond, List, [], ◌∷◌, ◌++◌, length, eqb-true, refl, ap, ◌∙◌, arith}
use Rattle.std.specs.Prelude.{min, nat_lt, count_by, sum_by}
use Rattle.std.proofs.lemmas.Bool.{ltb-true}
use Rattle.std.proofs.lemmas.Nat.{le-div}
use Rattle.std.proofs.lemmas.List.Sums.{sum_by-cons}
use Rattle.std.proofs.Math.Nat.{le-min}
use Rattle.step_counts.specs.declared.settings.Settings.{Settings}
use Rattle.plain_map.specs.declared.keys.Key.{Key}
use Rattle.plain_map.specs.declared.rules.Rules.{Rules}
use Rattle.bucket_states.specs.Items.{prefix_of}
use Rattle.bucket_states.specs.Parts.{keys_of}
use Rattle.table_model.specs.Setup.{settings_of, rules_of}
use Rattle.table_model.specs.Needs.{distinct_keys, is_crowded, crowded_at, crowded, inserted_in}
use Rattle.list_laws.proofs.Pigeons.{flag, passing, passing_most}
use Rattle.bound_laws.proofs.Levels.{count_range, passing_alike, sum_below, sum_less, sum_both, sum_none, sum_range}
use Rattle.leaf_laws.specs.Leaves.{crowds_of, splits_by, SplitsAreByKeys}

-- one number is at most one of those below n, and none of them if it is not below
one_there : (a n : ℕ) → (sum_below (λ p. flag (a == p)) n ≤ 1) × (n ≤ a → sum_below (λ p. flag (a == p)) n ≡ 0)
one_there a zero = (omega arith, λ h. refl)
one_there a (suc n) = at (a == n) refl (one_there a n)
  where
    at : (b : Bool) → (a == n) ≡ b →
        (sum_below (λ p. flag (a == p)) n ≤ 1) × (n ≤ a → sum_below (λ p. flag (a == p)) n ≡ 0) →
        (flag b + sum_below (λ p. flag (a == p)) n ≤ 1)
        × (suc n ≤ a → flag b + sum_below (λ p. flag (a == p)) n ≡ 0)
    at true e go = (let same = eqb-true a n e in (
      omega (arith, go.1 (omega (arith, same))),
      λ h. absurd (omega (arith, h, same)),
    ))
    at false e go = (omega (arith, go.0), λ h. omega (arith, go.1 (omega (arith, h))))

module _ (f : Key → ℕ) where
  -- the keys of each number together are no more than all
  abbrev of : List Key → ℕ → ℕ
  of keys p = count_by (λ key. f key == p) keys

  all_counted : (keys : List Key) (n : ℕ) → sum_below (of keys) n ≤ length keys
  all_counted [] n = omega (arith, sum_none (of []) n (λ i h. refl))
  all_counted (key ∷ keys) n = omega (
    arith,
    same n,
    sum_both (λ p. flag (f key == p)) (of keys) n,
    (one_there (f key) n).0,
    all_counted keys n,
  )
    where
      same : (n : ℕ) → sum_below (of (key ∷ keys)) n ≡ sum_below (λ p. flag (f key == p) + of keys p) n
      same zero = refl
      same (suc n) = omega (arith, same n, sum_by-cons (λ (k : Key). cond (f k == n) 1 0) key keys)

  -- and each number with more than so many takes so many
  crowds_take : (items : ℕ) (keys : List Key) (n : ℕ) →
      passing (λ p. nat_lt items (of keys p)) n * (items + 1) ≤ sum_below (of keys) n
  crowds_take items keys zero = omega arith
  crowds_take items keys (suc n) = go (nat_lt items (of keys n)) refl (crowds_take items keys n)
    where
      go : (b : Bool) → nat_lt items (of keys n) ≡ b →
          passing (λ p. nat_lt items (of keys p)) n * (items + 1) ≤ sum_below (of keys) n →
          (cond b 1 0 + passing (λ p. nat_lt items (of keys p)) n) * (items + 1) ≤ of keys n + sum_below (of keys) n
      go true e less = omega (arith, ltb-true items (of keys n) e, less)
      go false e less = omega (arith, less)

-- so at each depth
level_few : (rules : Rules) (keys : List Key) (many d : ℕ) → length (distinct_keys keys) ≤ many →
    crowded_at rules keys d ≤ min (2 ^ d) (many / (rules.items + 1))
level_few rules keys many d few =
    let test : ℕ → Bool = is_crowded rules keys d in
    let level : crowded_at rules keys d ≡ passing test (2 ^ d) = count_range test 0 (2 ^ d)
    ∙ passing_alike (λ i. test (0 + i)) test (2 ^ d) (λ i h. (let e : 0 + i ≡ i = omega arith in ap test e)) in
    let take = crowds_take (prefix_of rules d) rules.items (distinct_keys keys) (2 ^ d) in
    let all = all_counted (prefix_of rules d) (distinct_keys keys) (2 ^ d) in
    let part = le-div (passing test (2 ^ d)) many (rules.items + 1) (omega arith) (omega (arith, take, all, few)) in
    le-min {k = crowded_at rules keys d} {a = 2 ^ d} {b = many / (rules.items + 1)}
    (omega (arith, level, passing_most test (2 ^ d))) (omega (arith, level, part))

-- and at all depths together
all_few : (rules : Rules) (s : Settings) (keys : List Key) (many : ℕ) → rules.items ≡ s.items → rules.depth ≡ s.depth →
    length (distinct_keys keys) ≤ many → crowded rules s.start keys ≤ splits_by s many
unfolding crowded
all_few rules s keys many items depth few = omega (
  arith,
  sum_range (crowded_at rules keys) s.start (rules.depth - s.start),
  ap (λ n. sum_below (λ i. crowded_at rules keys (s.start + i)) (n - s.start)) depth,
  sum_less (λ i. crowded_at rules keys (s.start + i)) (λ i. crowds_of s many (s.start + i)) (s.depth - s.start)
      (λ i h. (let one = level_few rules keys many (s.start + i) few in
      omega (arith, one, ap (λ n. min (2 ^ (s.start + i)) (many / (n + 1))) items))),
  sum_range (crowds_of s many) s.start (s.depth - s.start),
)

-- the promise about splits
pub splits_are_by_keys : SplitsAreByKeys
splits_are_by_keys setup keys events few =
    let all =
    all_few (rules_of setup) (settings_of setup) (keys_of setup.first ++ inserted_in events) keys refl refl few in
    omega (arith, all)
