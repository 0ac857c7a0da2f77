-- The splits of a batch are as many at the lesser greatest depth as at the greatest.
use Rattle.std.proofs.Common.{◌≡◌, ℕ, zero, suc, ◌+◌, ◌-◌, ◌^◌, ◌<◌, ◌≤◌, ◌++◌, List, refl, ap, ◌∙◌, arith}
use Rattle.std.specs.Prelude.{count_by, sum_by, nat_lt, ◌==◌}
use Rattle.std.specs.List.{range_with_len}
use Rattle.std.proofs.lemmas.List.Sums.{sum_by-cons}
use Rattle.plain_map.specs.declared.keys.Key.{Key}
use Rattle.plain_map.specs.declared.rules.Rules.{Rules}
use Rattle.bucket_states.specs.Items.{prefix_of}
use Rattle.table_model.specs.Needs.{crowded, crowded_at, splits_for}
use Rattle.batch_rows.specs.Counts.{HaveSameKeys}
use Rattle.batch_rows.specs.Depths.{depth_for, lesser_rules}
use Rattle.batch_rows.proofs.CalmLemmas.{calm_behind, depth_calm, depth_is_within, none_from_calm}
use Rattle.batch_rows.proofs.KeyLemmas.{as_many, crowded_alike, splits_are}

-- a sum over numbers in two parts
sum_parts : (f : ℕ → ℕ) (first many more all : ℕ) → many + more ≡ all →
    sum_by f (range_with_len first all)
    ≡ sum_by f (range_with_len first many) + sum_by f (range_with_len (first + many) more)
sum_parts f first zero more all is =
    let here : first + 0 ≡ first = omega arith in
    let same : more ≡ all = omega (arith, is) in
    let none : sum_by f (range_with_len first 0) ≡ 0 = refl in
    let both : sum_by f (range_with_len (first + 0) more) ≡ sum_by f (range_with_len first all) =
    λ i. sum_by f (range_with_len (here i) (same i)) in
    omega (arith, none, both)
sum_parts f first (suc many) more zero is = absurd (omega (arith, is))
sum_parts f first (suc many) more (suc all) is =
    let next : first + 1 + many ≡ first + suc many = omega arith in
    omega (
      arith,
      sum_by-cons f first (range_with_len (first + 1) all),
      sum_by-cons f first (range_with_len (first + 1) many),
      sum_parts f (first + 1) many more all (omega (arith, is)),
      ap (λ n. sum_by f (range_with_len n more)) next,
    )

-- of nothing
sum_none : (f : ℕ → ℕ) (first many : ℕ) → ((n : ℕ) → first ≤ n → n < first + many → f n ≡ 0) →
    sum_by f (range_with_len first many) ≡ 0
sum_none f first zero none = refl
sum_none f first (suc many) none =
    omega (
      arith,
      sum_by-cons f first (range_with_len (first + 1) many),
      none first (omega arith) (omega arith),
      sum_none f (first + 1) many (λ n low high. none n (omega (arith, low)) (omega (arith, high))),
    )

-- the lesser depth depends on the keys alone, each of which may stand more than once
pub depth_alike : (rules : Rules) (start : ℕ) (keys others : List Key) → HaveSameKeys keys others →
    depth_for rules start keys ≡ depth_for rules start others
depth_alike rules start keys others same = λ i. start + count_by
    (λ depth. nat_lt 0 (count_by
    (λ prefix. nat_lt rules.items (as_many keys others same (λ key. prefix_of rules depth key == prefix) i))
    (range_with_len 0 (2 ^ depth))))
    (range_with_len start (rules.depth - start))

-- at no depth from it on is a prefix crowded, so none that is crowded is left out by it
crowded_lesser : (rules : Rules) (start : ℕ) (keys : List Key) → start ≤ rules.depth →
    crowded rules start keys ≡ crowded (lesser_rules rules start keys) start keys
unfolding crowded prefix_of
crowded_lesser rules start keys within =
    let depth : ℕ = depth_for rules start keys in
    let between = depth_is_within rules start keys within in
    let none : (n : ℕ) → depth ≤ n → n < rules.depth → crowded_at rules keys n ≡ 0 =
    λ (n : ℕ) (low : depth ≤ n) (high : n < rules.depth).
    none_from_calm rules keys n (calm_behind rules keys depth n low
    (depth_calm rules keys start (omega (arith, low, high)))) in
    omega (
      arith,
      sum_parts (crowded_at rules keys) start (depth - start) (rules.depth - depth) (rules.depth - start)
          (omega (arith, between)),
      sum_none (crowded_at rules keys) (start + (depth - start)) (rules.depth - depth)
          (λ n low high. none n (omega (arith, low, between)) (omega (arith, high, between))),
    )

-- so the splits are counted for all keys at the greatest depth, and for the first ones at the lesser
pub lesser_splits : (rules : Rules) (start : ℕ) (first inserted once all : List Key) (depth before after : ℕ) →
    start ≤ rules.depth → HaveSameKeys once first → HaveSameKeys all (first ++ inserted) →
    depth ≡ depth_for rules start (first ++ inserted) →
    before ≡ crowded (record { items = rules.items; depth = depth; hashing = rules.hashing }) start once →
    after ≡ crowded rules start all →
    after - before ≡ splits_for (lesser_rules rules start (first ++ inserted)) start first inserted
lesser_splits rules start first inserted once all depth before after within same both is before_is after_is =
    let keys : List Key = first ++ inserted in
    let lesser : Rules = lesser_rules rules start keys in
    let moved : before ≡ crowded lesser start once =
    before_is ∙ ap (λ d. crowded (record { items = rules.items; depth = d; hashing = rules.hashing }) start once) is in
    splits_are lesser start first inserted once keys before after same (λ q. refl) moved
    (after_is ∙ crowded_alike rules start all keys both ∙ crowded_lesser rules start keys within)
