-- Splits for a call: how long they go on, and what they keep.
use Rattle.std.proofs.Common.{◌≡◌, ℕ, zero, suc, ◌+◌, ◌-◌, ◌^◌, ◌<◌, ◌≤◌, ◌⊎◌, inl, inr, Bool, true, false, cond, ◌||◌, List, length, Some, refl, ap, ◌∙◌, arith}
use Rattle.std.specs.List.{list_any, AllByRecursion as Each}
use Rattle.std.proofs.lemmas.Bool.{cases_lt}
use Rattle.plain_map.specs.declared.keys.Key.{Key}
use Rattle.plain_map.specs.declared.rules.Rules.{Rules}
use Rattle.plain_map.specs.declared.calls.Call.{Call}
use Rattle.plain_map.specs.Calls.{key_in}
use Rattle.plain_map.specs.PlainObject.{InRange}
use Rattle.bucket_states.specs.Halves.{half}
use Rattle.table_model.specs.Leaves.{NewLeaf, is_in, leaf_of, halves, at_leaf, split, must_split, split_for}
use Rattle.table_model.specs.DirectoryLaws.{takes_hash}
use Rattle.list_laws.proofs.Totals.{one_if, many, total-alike, total-ones, found-each, found-some}
use Rattle.bucket_states.proofs.GoodLemmas.{overflow_parts}
use Rattle.change_laws.proofs.Bits.{part, part-takes, hash_in, hash_in-small, is_in-takes}
use Rattle.change_laws.proofs.Steps.{has_key, MustSplit, at-each, at-total, at-grows, at-any, splits-one, splits-keep, nowhere}
use Rattle.list_laws.proofs.Truths.{not_both}

-- the leaf is no deeper than it may be
abbrev pub Shallow : Rules → NewLeaf → Type 0
Shallow rules leaf = leaf.bucket.depth ≤ rules.depth

-- no two leaves take one hash, and none is too deep
pub record Apart (rules : Rules) (leaves : List NewLeaf) : Type 0 where
  pub one : (h : ℕ) → h < 2 ^ 64 → many (takes_hash h) leaves ≤ 1
  pub shallow : Each (Shallow rules) leaves

module _ (rules : Rules) (range : InRange rules) where
  -- so no two have one key
  pub one-key : (key : Key) (leaves : List NewLeaf) → Apart rules leaves → many (has_key rules key) leaves ≤ 1
  one-key key leaves apart =
      omega (
        arith,
        total-alike (one_if (has_key rules key)) (one_if (takes_hash (hash_in rules key))) leaves
            (λ leaf. ap (λ b. cond b 1 0) (is_in-takes rules key leaf)),
        apart.one (hash_in rules key) (hash_in-small rules key),
      )

  module _ (call : Call) where
    -- the key of the call
    abbrev key : Key
    key = key_in call

    -- the leaf of the key that must be split is not of the greatest depth
    must-below : (leaves : List NewLeaf) → Apart rules leaves → must_split rules call leaves ≡ true →
        (leaf : NewLeaf) → leaf_of rules key leaves ≡ Some leaf → MustSplit rules call leaf
    must-below leaves apart must leaf e = splits-one rules call leaves (one-key key leaves apart) must leaf e

    -- one split takes the same hashes
    pub split-takes : (h : ℕ) (leaves : List NewLeaf) → Apart rules leaves →
        many (takes_hash h) (split rules key leaves) ≡ many (takes_hash h) leaves
    unfolding split
    split-takes h leaves apart = at-total rules key (halves rules) (Shallow rules) (one_if (takes_hash h)) leaves
        (λ leaf e s. part-takes rules h leaf (omega (arith, s, range.depth))) apart.shallow

    -- what holds of each leaf holds of each after a split
    split-each : (P Q : NewLeaf → Type 0) (leaves : List NewLeaf) → Apart rules leaves →
        must_split rules call leaves ≡ true
        → ((leaf : NewLeaf) → is_in rules key leaf.bucket ≡ true → MustSplit rules call leaf → P leaf →
        Q (part rules 0 leaf) × Q (part rules 1 leaf))
        → ((leaf : NewLeaf) → is_in rules key leaf.bucket ≡ false → P leaf → Q leaf)
        → Each P leaves → Each Q (split rules key leaves)
    unfolding split
    split-each P Q leaves apart must hit miss each =
        at-each rules key (halves rules) P Q leaves leaves (one-key key leaves apart) refl
        (λ leaf e at p. let both = hit leaf e (must-below leaves apart must leaf at) p in (both.0, (both.1, tt))) miss
        each

    -- a split keeps leaves apart
    pub split-apart : (leaves : List NewLeaf) → must_split rules call leaves ≡ true → Apart rules leaves →
        Apart rules (split rules key leaves)
    unfolding half
    split-apart leaves must apart = record {
      one = λ h small. omega (arith, split-takes h leaves apart, apart.one h small);
      shallow = split-each (Shallow rules) (Shallow rules) leaves apart must
          (λ leaf e o s. (
            deeper 0 leaf (overflow_parts rules leaf.bucket.depth leaf.bucket.items call o).1,
            deeper 1 leaf (overflow_parts rules leaf.bucket.depth leaf.bucket.items call o).1,
          ))
          (λ leaf e s. s) apart.shallow;
    }
      where
        deeper : (bit : ℕ) (leaf : NewLeaf) → leaf.bucket.depth < rules.depth → Shallow rules (part rules bit leaf)
        deeper bit leaf below = omega (arith, below)

    -- ---- all splits

    -- all splits keep what holds of each leaf
    pub splits-each : (P : NewLeaf → Type 0) →
        ((leaf : NewLeaf) → is_in rules key leaf.bucket ≡ true → MustSplit rules call leaf → P leaf →
        P (part rules 0 leaf) × P (part rules 1 leaf))
        → (most : ℕ) (leaves : List NewLeaf) → Apart rules leaves → Each P leaves →
        Each P (split_for rules call most leaves)
    splits-each P hit most leaves apart each =
        (splits-keep rules call (λ ls. Apart rules ls × Each P ls)
        (λ ls must inv. (split-apart ls must inv.0, split-each P P ls inv.0 must hit (λ leaf e p. p) inv.1)) most
        leaves (apart, each)).1

    -- all splits take the same hashes
    pub splits-takes : (h most : ℕ) (leaves : List NewLeaf) → Apart rules leaves →
        many (takes_hash h) (split_for rules call most leaves) ≡ many (takes_hash h) leaves
    splits-takes h most leaves apart =
        (splits-keep rules call (λ ls. Apart rules ls × (many (takes_hash h) ls ≡ many (takes_hash h) leaves))
        (λ ls must inv. (split-apart ls must inv.0, split-takes h ls inv.0 ∙ inv.1)) most leaves (apart, refl)).1

    -- a test of where leaves come from
    pub splits-any : (test : NewLeaf → Bool) → ((bit : ℕ) (leaf : NewLeaf) → test (part rules bit leaf) ≡ test leaf) →
        (most : ℕ) (leaves : List NewLeaf)
        → list_any test (split_for rules call most leaves) ≡ list_any test leaves
    unfolding split
    splits-any test same most leaves =
        splits-keep rules call (λ ls. list_any test ls ≡ list_any test leaves)
        (λ ls must inv. at-any rules key (halves rules) test (λ leaf. ap
        (λ b. b || (test (part rules 1 leaf) || false)) (same 0 leaf)
        ∙ ap (λ b. test leaf || (b || false)) (same 1 leaf) ∙ twice (test leaf)) ls ∙ inv)
        most leaves refl
      where
        twice : (b : Bool) → (b || (b || false)) ≡ b
        twice true = refl
        twice false = refl

    -- no fewer leaves pass after the splits
    pub splits-more : (test : NewLeaf → Bool) →
        ((bit : ℕ) (leaf : NewLeaf) → test (part rules bit leaf) ≡ test leaf) → (most : ℕ) (leaves : List NewLeaf)
        → many test leaves ≤ many test (split_for rules call most leaves)
    unfolding split
    splits-more test same most leaves =
        splits-keep rules call (λ ls. many test leaves ≤ many test ls)
        (λ ls must inv. omega (
          arith,
          inv,
          (at-grows rules key (halves rules) (one_if test) ls
              (λ leaf. grows leaf (same 0 leaf) (same 1 leaf))).0,
        ))
        most leaves (omega arith)
      where
        by : (b : Bool) → (cond b 1 0 ≤ cond b 1 0 + (cond b 1 0 + 0))
            × (cond b 1 0 + (cond b 1 0 + 0) ≤ cond b 1 0 + 1)
        by true = (omega arith, omega arith)
        by false = (omega arith, omega arith)

        grows : (leaf : NewLeaf) → test (part rules 0 leaf) ≡ test leaf → test (part rules 1 leaf) ≡ test leaf
            → (one_if test leaf ≤ one_if test (part rules 0 leaf) + (one_if test (part rules 1 leaf) + 0))
            × (one_if test (part rules 0 leaf) + (one_if test (part rules 1 leaf) + 0) ≤ one_if test leaf + 1)
        grows leaf e f = rw (e, f) (by (test leaf))

    -- ---- how long

    -- the leaf of the key lacks so much of the greatest depth
    abbrev pub Lacks : ℕ → NewLeaf → Type 0
    Lacks k leaf = is_in rules key leaf.bucket ≡ true → rules.depth ≤ leaf.bucket.depth + k

    -- where a split must be, the leaf lacks a bit
    some-left : (k : ℕ) (leaves : List NewLeaf) → Apart rules leaves → must_split rules call leaves ≡ true →
        Each (Lacks k) leaves → 1 ≤ k
    some-left k leaves apart must each = by (cases_lt 0 (many (has_key rules key) leaves))
      where
        by : (0 < many (has_key rules key) leaves) ⊎ (many (has_key rules key) leaves ≤ 0) → 1 ≤ k
        by (inl some) =
            let found = found-some (has_key rules key) leaves some in
            let has = found-each (Lacks k) (has_key rules key) leaves found.0 each found.1 in
            omega (
              arith,
              has.0 has.1,
              (overflow_parts rules found.0.bucket.depth found.0.bucket.items call
                  (must-below leaves apart must found.0 found.1)).1,
            )
        by (inr none) = absurd (nowhere rules call leaves (omega (arith, none)) must)

    -- a split adds one leaf at most
    split-long : (leaves : List NewLeaf) → length (split rules key leaves) ≤ length leaves + 1
    unfolding split
    split-long leaves = omega (
      arith,
      (at-grows rules key (halves rules) (λ _. 1) leaves
          (λ leaf. (omega arith, omega arith))).1,
      total-ones leaves,
      total-ones (at_leaf rules key (halves rules) leaves),
    )

    -- the splits end, and are no more than the bits that the leaf lacks
    pub splits-end : (most k : ℕ) (leaves : List NewLeaf) → k ≤ most → Apart rules leaves → Each (Lacks k) leaves
        → (must_split rules call (split_for rules call most leaves) ≡ false)
        × (length (split_for rules call most leaves) ≤ length leaves + k)
    unfolding half
    splits-end zero k leaves small apart each = (go (must_split rules call leaves) refl, omega arith)
      where
        go : (b : Bool) → must_split rules call leaves ≡ b → b ≡ false
        go true e = absurd (omega (arith, small, some-left k leaves apart e each))
        go false e = refl
    splits-end (suc most) k leaves small apart each =
        go (must_split rules call leaves) refl (λ e. splits-end most (k - 1) (split rules key leaves)
        (omega (arith, small)) (split-apart leaves e apart) (fewer e))
      where
        fewer : must_split rules call leaves ≡ true → Each (Lacks (k - 1)) (split rules key leaves)
        fewer e = split-each (Lacks k) (Lacks (k - 1)) leaves apart e
            (λ leaf is o lacks. (deeper 0 leaf (lacks is), deeper 1 leaf (lacks is)))
            (λ leaf not lacks is. absurd (not_both (is_in rules key leaf.bucket) is not)) each
          where
            deeper : (bit : ℕ) (leaf : NewLeaf) → rules.depth ≤ leaf.bucket.depth + k →
                Lacks (k - 1) (part rules bit leaf)
            deeper bit leaf far is = omega (arith, far)

        go : (b : Bool) → must_split rules call leaves ≡ b
            → (must_split rules call leaves ≡ true →
            (must_split rules call (split_for rules call most (split rules key leaves)) ≡ false)
            × (length (split_for rules call most (split rules key leaves)) ≤ length (split rules key leaves) + (k - 1)))
            → (must_split rules call (cond b (split_for rules call most (split rules key leaves)) leaves) ≡ false)
            × (length (cond b (split_for rules call most (split rules key leaves)) leaves) ≤ length leaves + k)
        go true e rest = (let r = rest e in (
          r.0,
          omega (arith, r.1, split-long leaves, some-left k leaves apart e each),
        ))
        go false e rest = (e, omega arith)
