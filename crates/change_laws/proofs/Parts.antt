-- The two parts of a bucket: they hold what it held, and are good and small where it was.
use Rattle.std.proofs.Common.{◌≡◌, ℕ, suc, ◌+◌, ◌*◌, ◌/◌, ◌^◌, ◌<◌, ◌≤◌, Bool, true, false, cond, List, [], ◌∷◌, length, Option, Some, None, refl, sym, ap, ◌∙◌, arith}
use Rattle.std.specs.Prelude.{◌==◌, filter}
use Rattle.std.specs.List.{IsDistinct, AllByRecursion as Each}
use Rattle.std.proofs.lemmas.Bool.{eqb-true, eq-eqb}
use Rattle.std.proofs.lemmas.List.Sums.{length-filter, count_by-le-length}
use Rattle.std.proofs.lemmas.List.Elements.{All-from_recursion, recursion_from_All}
use Rattle.std.proofs.Math.Nat.{pow-suc}
use Rattle.hash_bits.proofs.PrefixLemmas.{div-first_bits_suc}
use Rattle.plain_map.specs.declared.keys.Key.{Key}
use Rattle.plain_map.specs.declared.keys.Pair.{Pair}
use Rattle.plain_map.specs.declared.rules.Rules.{Rules}
use Rattle.plain_map.specs.Keys.{Session, held_in}
use Rattle.plain_map.specs.Updates.{IsSmallPair}
use Rattle.plain_map.specs.PlainObject.{InRange}
use Rattle.bucket_states.specs.Items.{prefix_of, same_key, value_at}
use Rattle.bucket_states.specs.Parts.{keys_of, HasDistinctKeys, HoldsPart}
use Rattle.bucket_states.specs.Halves.{half}
use Rattle.bucket_states.specs.States.{BucketState}
use Rattle.bucket_states.specs.Values.{IsSmall}
use Rattle.bucket_states.specs.Laws.{IsGood}
use Rattle.table_model.specs.DirectoryLaws.{PartsHoldAll}
use Rattle.bucket_states.proofs.KeyTests.{Decides-same_key}
use Rattle.bucket_states.proofs.GoodLemmas.{own_sessions, own_part}
use Rattle.change_laws.proofs.Bits.{hash_in}

-- ---- the items that pass a test of their keys

module _ (test : Key → Bool) where
  -- the items that pass
  abbrev pub kept : List Pair → List Pair
  kept items = filter (λ pair. test pair.key) items

  -- what holds of each key holds of each that passes
  kept-each : (Q : Key → Type 0) (items : List Pair) → Each Q (keys_of items) → Each Q (keys_of (kept items))
  kept-each Q [] qs = tt
  kept-each Q (pair ∷ items) qs = go (test pair.key) (kept-each Q items qs.1)
    where
      go : (b : Bool) → Each Q (keys_of (kept items)) → Each Q (keys_of (cond b (pair ∷ kept items) (kept items)))
      go true rest = (qs.0, rest)
      go false rest = rest

  -- no key of them stands twice
  pub kept-distinct : (items : List Pair) → HasDistinctKeys items → HasDistinctKeys (kept items)
  unfolding IsDistinct
  kept-distinct [] d = tt
  kept-distinct (pair ∷ items) d =
      go (test pair.key) (kept-each (λ k. same_key pair.key k ≡ false) items d.0) (kept-distinct items d.1)
    where
      go : (b : Bool) → Each (λ k. same_key pair.key k ≡ false) (keys_of (kept items)) →
          IsDistinct same_key (keys_of (kept items)) →
          IsDistinct same_key (keys_of (cond b (pair ∷ kept items) (kept items)))
      go true apart rest = (apart, rest)
      go false apart rest = rest

  -- the value at a key that passes is as before, and at others there is none
  pub kept-value : (key : Key) (items : List Pair) →
      value_at key (kept items) ≡ cond (test key) (value_at key items) None
  kept-value key [] = go (test key) None
    where
      go : (b : Bool) (o : Option Session) → o ≡ cond b o o
      go true o = refl
      go false o = refl
  kept-value key (pair ∷ items) = go (test pair.key) refl (same_key pair.key key) refl (kept-value key items)
    where
      at_key : (s : Bool) → same_key pair.key key ≡ s → s ≡ true → test pair.key ≡ test key
      at_key s e t = ap test ((Decides-same_key pair.key key).0 (e ∙ t))

      go : (b : Bool) → test pair.key ≡ b → (s : Bool) → same_key pair.key key ≡ s →
          value_at key (kept items) ≡ cond (test key) (value_at key items) None
          → value_at key (cond b (pair ∷ kept items) (kept items)) ≡ cond (test key)
          (cond s (Some (held_in pair)) (value_at key items)) None
      go true t true e rest = ap (λ x. cond x (Some (held_in pair)) (value_at key (kept items))) e
          ∙ ap (λ x. cond x (Some (held_in pair)) None) (sym t ∙ at_key true e refl)
      go true t false e rest = ap (λ x. cond x (Some (held_in pair)) (value_at key (kept items))) e ∙ rest
      go false t true e rest = (let off : test key ≡ false = sym (at_key true e refl) ∙ t in rest
          ∙ ap (λ x. cond x (value_at key items) None) off ∙ sym (ap (λ x. cond x (Some (held_in pair)) None) off))
      go false t false e rest = rest

  -- they are no more than all
  pub kept-short : (items : List Pair) → length (kept items) ≤ length items
  kept-short items = omega (
    arith,
    length-filter (λ (p : Pair). test p.key) items,
    count_by-le-length (λ (p : Pair). test p.key) items,
  )

  -- what holds of each pair holds of each that passes
  pub kept-small : (P : Pair → Type 0) (items : List Pair) → Each P items → Each P (kept items)
  kept-small P [] each = tt
  kept-small P (pair ∷ items) each = go (test pair.key) (kept-small P items each.1)
    where
      go : (b : Bool) → Each P (kept items) → Each P (cond b (pair ∷ kept items) (kept items))
      go true rest = (each.0, rest)
      go false rest = rest

-- ---- parts

-- one bit less
pub prefix_of-up : (rules : Rules) (depth bit prefix : ℕ) (key : Key) → bit < 2 → depth < 64 →
    prefix_of rules (suc depth) key ≡ 2 * prefix + bit → prefix_of rules depth key ≡ prefix
unfolding prefix_of
prefix_of-up rules depth bit prefix key small deep e =
    sym (div-first_bits_suc (hash_in rules key) depth deep) ∙ ap (λ n. n / 2) e ∙ omega (arith, small)

-- the two parts hold what the bucket held
pub parts_hold_all : PartsHoldAll
unfolding half
parts_hold_all rules bit prefix depth sessions bucket range small below part = record {
  distinct = kept-distinct test bucket.items part.distinct;
  inside = λ key held e. by_test key (test key) refl held (sym (kept-value test key bucket.items) ∙ e);
  same = λ key there. kept-value test key bucket.items
      ∙ ap (λ x. cond x (value_at key bucket.items) None) (eq-eqb _ _ there)
      ∙ part.same key (prefix_of-up rules bucket.depth bit bucket.prefix key small (omega (arith, below, range.depth))
      there);
}
  where
    test : Key → Bool
    test key = prefix_of rules (suc bucket.depth) key == 2 * bucket.prefix + bit

    by_test : (key : Key) (b : Bool) → test key ≡ b → (held : Session) →
        cond (test key) (value_at key bucket.items) None ≡ Some held →
        prefix_of rules (suc bucket.depth) key ≡ 2 * bucket.prefix + bit
    by_test key true t held e = eqb-true (prefix_of rules (suc bucket.depth) key) (2 * bucket.prefix + bit) t
    by_test key false t held e = absurd (none (sym (ap (λ x. cond x (value_at key bucket.items) None) t) ∙ e))
      where
        none : None ≡ Some held → ⊥
        none e = cc

-- a part of a good bucket is good
pub half-good : (rules : Rules) (seats bit : ℕ) (bucket : BucketState) → InRange rules → bit < 2 →
    bucket.depth < rules.depth → IsGood rules seats bucket → IsGood rules seats (half rules bit bucket)
unfolding half
half-good rules seats bit bucket range small below good =
    with_part (parts_hold_all rules bit bucket.prefix bucket.depth (own_sessions bucket.items) bucket range small
    below (own_part rules bucket.prefix bucket.depth bucket.items good.distinct good.inside))
  where
    with_part : HoldsPart rules (half rules bit bucket).prefix (half rules bit bucket).depth
        (half rules bit bucket).items (own_sessions bucket.items) → IsGood rules seats (half rules bit bucket)
    with_part part = let fits : 2 * bucket.prefix + bit < 2 ^ suc bucket.depth = omega
        (arith, good.below, small, pow-suc 2 bucket.depth) in record {
          within = omega (arith, below);
          below = fits;
          few = omega (
            arith,
            good.few,
            kept-short (λ key. prefix_of rules (suc bucket.depth) key ==
                2 * bucket.prefix + bit) bucket.items,
          );
          distinct = part.distinct;
          inside = part.inside;
          numbers = good.numbers;
          answers = good.answers;
          answered = good.answered;
          full = λ e. cc;
        }

-- the parts of a small bucket are small
pub half-small : (rules : Rules) (bit : ℕ) (bucket : BucketState) → IsSmall bucket → IsSmall (half rules bit bucket)
unfolding half
half-small rules bit bucket small = record {
  values = All-from_recursion _ _ (kept-small (λ key. prefix_of rules (suc bucket.depth) key ==
      2 * bucket.prefix + bit) IsSmallPair bucket.items (recursion_from_All _ bucket.items
      small.values));
  numbers = small.numbers;
  replies = small.replies;
}
