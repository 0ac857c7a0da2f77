-- Keys counted prefix by prefix: one key more, and one bit less.
use Rattle.std.proofs.Common.{◌≡◌, ◌≢◌, ℕ, suc, ◌+◌, ◌-◌, ◌*◌, ◌^◌, ◌<◌, ◌≤◌, ◌⊎◌, inl, inr, Bool, true, false, cond, List, [], ◌∷◌, ◌++◌, length, take, drop, set, get_or, refl, sym, ap, ◌∙◌, subst, add-one, arith}
use Rattle.std.specs.Prelude.{count_by, sum_by, nat_lt, ◌==◌}
use Rattle.std.specs.List.{IsDistinct, range_with_len}
use Rattle.std.proofs.Math.ListN.{length-set}
use Rattle.std.proofs.Math.Nat.{pow-suc}
use Rattle.std.proofs.Math.Pow.{pow_mono}
use Rattle.std.proofs.lemmas.Bool.{cases_eq, eqb-true, eqb-false, eq-eqb, le-ltb, lt-ltb}
use Rattle.std.proofs.lemmas.List.{append-nil, drop_all, get_or-set_same, get_or-set_other, length-take-le, take_all, take_more}
use Rattle.std.proofs.lemmas.List.Sums.{count_by-le-length, sum_by_push, sum_by-cons}
use Rattle.hash_bits.proofs.PrefixLemmas.{first_bits-suc}
use Rattle.plain_map.specs.declared.keys.Key.{Key}
use Rattle.plain_map.specs.declared.rules.Rules.{Rules}
use Rattle.plain_map.specs.PlainObject.{class_of}
use Rattle.plain_map.specs.Keys.{hash_of_key}
use Rattle.bucket_states.specs.Items.{prefix_of, same_key}
use Rattle.table_model.specs.Needs.{crowded, crowded_at, is_crowded}
use Rattle.bound_laws.proofs.Levels.{count_range, passing_alike}
use Rattle.list_laws.proofs.Pigeons.{passing}
use Rattle.batch_rows.specs.Counts.{AreCounted, both_at}
use Rattle.batch_rows.specs.Depths.{depth_for}
use Rattle.batch_rows.proofs.KeyLemmas.{distinct_stay}

-- one for what is so
abbrev one_for : Bool → ℕ
one_for b = cond b 1 0

-- which is one at most
one_at_most : (b : Bool) → one_for b ≤ 1
one_at_most true = omega arith
one_at_most false = omega arith

-- how many of the keys have the prefix
abbrev pub having : Rules → (depth prefix : ℕ) → List Key → ℕ
having rules depth prefix keys = count_by (λ key. prefix_of rules depth key == prefix) keys

-- ---- one bit less

-- a number that is twice another or one more is one of the two of its half
one_of_two : (x y p : ℕ) → (y ≡ 2 * x) ⊎ (y ≡ 2 * x + 1) →
    one_for (y == 2 * p) + one_for (y == 2 * p + 1) ≡ one_for (x == p)
one_of_two x y p bits = go (y == 2 * p) refl (y == 2 * p + 1) refl (x == p) refl bits
  where
    go : (a : Bool) → (y == 2 * p) ≡ a → (b : Bool) → (y == 2 * p + 1) ≡ b → (c : Bool) → (x == p) ≡ c →
        (y ≡ 2 * x) ⊎ (y ≡ 2 * x + 1) → one_for a + one_for b ≡ one_for c
    go true e true f c g z = absurd (omega (arith, eqb-true y (2 * p) e, eqb-true y (2 * p + 1) f))
    go true e false f true g z = refl
    go true e false f false g (inl z) = absurd (eqb-false x p g (omega (arith, eqb-true y (2 * p) e, z)))
    go true e false f false g (inr z) = absurd (omega (arith, eqb-true y (2 * p) e, z))
    go false e true f true g z = refl
    go false e true f false g (inl z) = absurd (omega (arith, eqb-true y (2 * p + 1) f, z))
    go false e true f false g (inr z) = absurd (eqb-false x p g (omega (arith, eqb-true y (2 * p + 1) f, z)))
    go false e false f true g (inl z) = absurd (eqb-false y (2 * p) e (omega (arith, eqb-true x p g, z)))
    go false e false f true g (inr z) = absurd (eqb-false y (2 * p + 1) f (omega (arith, eqb-true x p g, z)))
    go false e false f false g z = refl

module _ (rules : Rules) where
  -- a key has one of the two halves of its prefix
  one_half : (depth prefix : ℕ) (key : Key) → depth < 64 →
      one_for (prefix_of rules (suc depth) key == 2 * prefix) + one_for
      (prefix_of rules (suc depth) key == 2 * prefix + 1) ≡ one_for (prefix_of rules depth key == prefix)
  unfolding prefix_of
  one_half depth prefix key deep = one_of_two (prefix_of rules depth key) (prefix_of rules (suc depth) key) prefix
      (first_bits-suc (hash_of_key rules.hashing key) depth deep)

  -- so the keys of a prefix are those of its halves
  pub halves : (depth prefix : ℕ) (keys : List Key) → depth < 64 →
      having rules (suc depth) (2 * prefix) keys + having rules (suc depth) (2 * prefix + 1) keys
      ≡ having rules depth prefix keys
  halves depth prefix [] deep = refl
  halves depth prefix (key ∷ keys) deep = omega (
    arith,
    sum_by-cons (λ k. one_for (prefix_of rules (suc depth) k == 2 * prefix)) key keys,
    sum_by-cons (λ k. one_for (prefix_of rules (suc depth) k == 2 * prefix + 1)) key keys,
    sum_by-cons (λ k. one_for (prefix_of rules depth k == prefix)) key keys,
    one_half depth prefix key deep,
    halves depth prefix keys deep,
  )

  module _ (keys : List Key) (depth : ℕ) (counts : List ℕ) (deep : depth < 64)
      (counted : AreCounted rules keys (suc depth) counts) where
    -- two counts together are the count of the prefix
    pub both_are : (prefix : ℕ) → prefix < 2 ^ depth → both_at counts prefix ≡ having rules depth prefix keys
    both_are prefix inside =
        let twice = pow-suc 2 depth in
        omega (
          arith,
          counted.each (2 * prefix) (omega (arith, twice, inside)),
          counted.each (2 * prefix + 1) (omega (arith, twice, inside)),
          halves depth prefix keys deep,
        )

    -- so the sums are the counts of one bit less
    pub halved : (sums : List ℕ) → length sums ≡ length counts →
        ((prefix : ℕ) → prefix < 2 ^ depth → get_or sums prefix 0 ≡ both_at counts prefix) →
        AreCounted rules keys depth sums
    halved sums long are = record {
      long = omega (arith, long, counted.long, pow-suc 2 depth);
      each = λ prefix inside. are prefix inside ∙ both_are prefix inside;
    }

    -- and those above the room of a bucket are crowded
    pub level_is : IsDistinct same_key keys →
        count_by (λ prefix. nat_lt rules.items (both_at counts prefix)) (range_with_len 0 (2 ^ depth))
        ≡ crowded_at rules keys depth
    level_is distinct =
        count_range (λ prefix. nat_lt rules.items (both_at counts prefix)) 0 (2 ^ depth)
        ∙ passing_alike (λ i. nat_lt rules.items (both_at counts (0 + i))) (λ i. is_crowded rules keys depth (0 + i))
        (2 ^ depth) each
        ∙ sym (count_range (is_crowded rules keys depth) 0 (2 ^ depth))
      where
        each : (i : ℕ) → i < 2 ^ depth →
            nat_lt rules.items (both_at counts (0 + i)) ≡ is_crowded rules keys depth (0 + i)
        each i inside =
            ap (λ n. nat_lt rules.items n) (both_are (0 + i) (omega (arith, inside)))
            ∙ ap (λ once. nat_lt rules.items (having rules depth (0 + i) once)) (sym (distinct_stay keys distinct))

-- ---- all depths

module _ (rules : Rules) (keys : List Key) where
  -- what is crowded from this many bits on, for so many numbers of bits
  abbrev pub crowded_from : (from levels : ℕ) → ℕ
  crowded_from from levels = sum_by (crowded_at rules keys) (range_with_len from levels)

  -- one depth more
  pub crowded_more : (from levels : ℕ) →
      crowded_from from (suc levels) ≡ crowded_at rules keys from + crowded_from (suc from) levels
  crowded_more from levels =
      let next : from + 1 ≡ suc from = omega arith in
      sum_by-cons (crowded_at rules keys) from (range_with_len (from + 1) levels)
      ∙ ap (λ d. crowded_at rules keys from + crowded_from d levels) next

  -- of how many of these numbers of bits some prefix is crowded
  abbrev pub depths_from : (from levels : ℕ) → ℕ
  depths_from from levels = count_by (λ depth. nat_lt 0 (crowded_at rules keys depth)) (range_with_len from levels)

  -- one depth more
  pub depths_more : (from levels : ℕ) →
      depths_from from (suc levels) ≡ one_for (nat_lt 0 (crowded_at rules keys from)) + depths_from (suc from) levels
  depths_more from levels =
      let next : from + 1 ≡ suc from = omega arith in
      sum_by-cons (λ depth. one_for (nat_lt 0 (crowded_at rules keys depth))) from (range_with_len (from + 1) levels)
      ∙ ap (λ d. one_for (nat_lt 0 (crowded_at rules keys from)) + depths_from d levels) next

  -- at last these are all
  pub crowded_all : (start : ℕ) → crowded_from start (rules.depth - start) ≡ crowded rules start keys
  unfolding crowded
  crowded_all start = refl

-- the numbers of prefixes of two depths
pub twice_as_many : (wide deep : ℕ) → wide ≡ suc deep → 2 ^ wide ≡ 2 * 2 ^ deep
twice_as_many wide deep is = (let twice = pow-suc 2 deep in omega (arith, ap (λ d. 2 ^ d) is, twice))

-- there are few prefixes
pub few_places : (depth : ℕ) → depth ≤ 20 → 2 ^ depth ≤ 1048576
few_places depth small = (let most : 2 ^ depth ≤ 2 ^ 20 = pow_mono small in omega (arith, most))

-- ---- one key more

module _ (rules : Rules) where
  -- a count is below the number of keys
  pub count_small : (keys : List Key) (place prefix : ℕ) (counts : List ℕ) → place ≤ length keys →
      prefix < 2 ^ rules.depth → AreCounted rules (take place keys) rules.depth counts → get_or counts prefix 0 ≤ place
  count_small keys place prefix counts inside small counted = omega (
    arith,
    counted.each prefix small,
    count_by-le-length (λ key. prefix_of rules rules.depth key == prefix) (take place keys),
    length-take-le place keys inside,
  )

  -- one key more is counted by one more at its class
  pub one_counted : (keys : List Key) (place : ℕ) (nobody : Key) (counts : List ℕ) (class : ℕ) →
      place < length keys → class ≡ class_of rules (get_or keys place nobody) → class < 2 ^ rules.depth →
      AreCounted rules (take place keys) rules.depth counts →
      AreCounted rules (take (place + 1) keys) rules.depth (set counts class (get_or counts class 0 + 1))
  unfolding class_of prefix_of
  one_counted keys place nobody counts class inside own small counted = record {
    long = (let long = length-set counts class (get_or counts class 0 + 1) in omega (arith, long, counted.long));
    each = λ prefix lt. by prefix lt (cases_eq prefix class);
  }
    where
      more : (prefix : ℕ) → having rules rules.depth prefix (take (place + 1) keys)
          ≡ having rules rules.depth prefix (take place keys) + one_for (class == prefix)
      more prefix =
          ap (having rules rules.depth prefix) (take_more keys place nobody inside)
          ∙ sum_by_push (λ k. one_for (prefix_of rules rules.depth k == prefix)) (take place keys)
          (get_or keys place nobody)
          ∙ ap (λ c. having rules rules.depth prefix (take place keys) + one_for (c == prefix)) (sym own)

      unequal : (prefix : ℕ) (b : Bool) → (class == prefix) ≡ b → prefix ≢ class → one_for b ≡ 0
      unequal prefix true e ne = absurd (ne (sym (eqb-true class prefix e)))
      unequal prefix false e ne = refl

      by : (prefix : ℕ) → prefix < 2 ^ rules.depth → (prefix ≡ class) ⊎ (prefix ≢ class) →
          get_or (set counts class (get_or counts class 0 + 1)) prefix 0
          ≡ having rules rules.depth prefix (take (place + 1) keys)
      by prefix lt (inl same) =
          let there : class < length counts = omega (arith, counted.long, small) in
          let one : one_for (class == prefix) ≡ 1 = ap (λ b. one_for b) (eq-eqb class prefix (sym same)) in
          ap (λ k. get_or (set counts class (get_or counts class 0 + 1)) k 0) same
          ∙ get_or-set_same counts class (get_or counts class 0 + 1) 0 there
          ∙ omega (arith, counted.each prefix lt, ap (λ k. get_or counts k 0) same, more prefix, one)
      by prefix lt (inr other) =
          get_or-set_other counts class prefix (get_or counts class 0 + 1) 0 other
          ∙ omega (arith, counted.each prefix lt, more prefix, unequal prefix (class == prefix) refl other)

-- ---- depth by depth, from the greatest down

-- after so many levels the counts are those of so many bits less, and what is crowded there has been counted
pub record AtLevel (rules : Rules) (keys : List Key) (level prefixes depths : ℕ) (counts : List ℕ) : Type 0 where
  pub counted : AreCounted rules keys (rules.depth - level) counts
  pub sum : prefixes ≡ crowded_from rules keys (rules.depth - level) level
  pub few : prefixes + 2 ^ (rules.depth - level) ≤ 2 ^ rules.depth
  pub crowds : depths ≡ depths_from rules keys (rules.depth - level) level
  pub shallow : depths ≤ level

-- a depth is counted where some prefix of it is crowded
pub one_depth : (above more was : ℕ) → 0 < above → more ≡ was + 1 → more ≡ was + one_for (nat_lt 0 above)
one_depth above more was some is = omega (arith, is, ap one_for (lt-ltb 0 above some))

-- and else it is not
pub no_depth : (above more was : ℕ) → above ≤ 0 → more ≡ was → more ≡ was + one_for (nat_lt 0 above)
no_depth above more was none is = omega (arith, is, ap one_for (le-ltb 0 above none))

module _ (rules : Rules) (keys : List Key) where
  -- one level more
  pub next_level : (level prefixes depths above more deep : ℕ) (counts sums : List ℕ) → IsDistinct same_key keys →
      rules.depth ≤ 20 → level < rules.depth → deep ≡ rules.depth - level - 1 →
      AtLevel rules keys level prefixes depths counts → length sums ≡ length counts →
      ((prefix : ℕ) → prefix < 2 ^ deep → get_or sums prefix 0 ≡ both_at counts prefix) →
      above ≡ count_by (λ prefix. nat_lt rules.items (both_at counts prefix)) (range_with_len 0 (2 ^ deep)) →
      above ≤ 2 ^ deep → more ≡ depths + one_for (nat_lt 0 above) →
      AtLevel rules keys (level + 1) (prefixes + above) more sums
  next_level level prefixes depths above more deep counts sums distinct shallow here is was long are counts_are few
      more_is =
      let wide : rules.depth - level ≡ suc deep = omega (arith, here, is) in
      let next : rules.depth - (level + 1) ≡ deep = omega (arith, here, is) in
      let small : deep < 64 = omega (arith, shallow, here, is) in
      let counted : AreCounted rules keys (suc deep) counts =
      subst (λ d. AreCounted rules keys d counts) wide was.counted in
      let top = level_is rules keys deep counts small counted distinct in
      record {
        counted = subst (λ d. AreCounted rules keys d sums) (sym next)
            (halved rules keys deep counts small counted sums long are);
        sum = omega (
          arith,
          was.sum,
          ap (λ d. crowded_from rules keys d level) wide,
          crowded_more rules keys deep level,
          counts_are,
          top,
          ap (λ d. crowded_from rules keys d (level + 1)) next,
          ap (crowded_from rules keys deep) (add-one level),
        );
        few = omega (arith, was.few, twice_as_many (rules.depth - level) deep wide, ap (λ d. 2 ^ d) next, few);
        crowds = omega (
          arith,
          more_is,
          was.crowds,
          ap (λ d. depths_from rules keys d level) wide,
          depths_more rules keys deep level,
          ap (λ n. one_for (nat_lt 0 n)) (counts_are ∙ top),
          ap (λ d. depths_from rules keys d (level + 1)) next,
          ap (depths_from rules keys deep) (add-one level),
        );
        shallow = omega (arith, was.shallow, more_is, one_at_most (nat_lt 0 above));
      }

  -- at last all is counted
  pub last_level : (start level prefixes depths : ℕ) (counts : List ℕ) → start ≤ rules.depth →
      level ≡ rules.depth - start → AtLevel rules keys level prefixes depths counts →
      (prefixes ≡ crowded rules start keys) × (start + depths ≡ depth_for rules start keys)
  last_level start level prefixes depths counts within is was =
      let from : rules.depth - level ≡ start = omega (arith, within, is) in (
        was.sum ∙ ap (λ d. crowded_from rules keys d level) from
            ∙ ap (crowded_from rules keys start) is ∙ crowded_all rules keys start,
        ap (λ n. start + n) (was.crowds ∙ (λ i. depths_from rules keys (from i) (is i))),
      )

-- ---- the sums, place by place

-- up to a place the sums stand, and from there on the counts as they were
pub record AreHalved (old counts : List ℕ) (place : ℕ) : Type 0 where
  pub sums : (prefix : ℕ) → prefix < place → get_or counts prefix 0 ≡ both_at old prefix
  pub rest : (prefix : ℕ) → place ≤ prefix → get_or counts prefix 0 ≡ get_or old prefix 0
  pub long : length counts ≡ length old

-- how many of the first sums are above the room of a bucket
abbrev pub above_most : (most : ℕ) → (old : List ℕ) → (place : ℕ) → ℕ
above_most most old place = passing (λ prefix. nat_lt most (both_at old prefix)) place

-- at last these are counted
pub above_all : (most : ℕ) (old : List ℕ) (places : ℕ) →
    above_most most old places ≡ count_by (λ prefix. nat_lt most (both_at old prefix)) (range_with_len 0 places)
above_all most old places =
    passing_alike (λ i. nat_lt most (both_at old i)) (λ i. nat_lt most (both_at old (0 + i))) places
    (λ i lt. (let same : i ≡ 0 + i = omega arith in ap (λ k. nat_lt most (both_at old k)) same))
    ∙ sym (count_range (λ prefix. nat_lt most (both_at old prefix)) 0 places)

-- a whole list that is written back is what stands there
pub written_whole : (now was : List ℕ) (count : ℕ) → length now ≡ length was → count ≡ length was →
    take count (now ++ drop (length now) was) ≡ now
written_whole now was count long is =
    ap (λ rest. take count (now ++ rest)) (drop_all (length now) was (omega (arith, long)))
    ∙ ap (take count) (append-nil now) ∙ take_all count now (omega (arith, long, is))
