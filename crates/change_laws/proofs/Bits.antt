-- A leaf and its two parts: which hashes and keys they take.
use Rattle.std.proofs.Common.{◌≡◌, ℕ, suc, ◌+◌, ◌-◌, ◌*◌, ◌/◌, ◌^◌, ◌<◌, ◌≤◌, ◌⊎◌, inl, inr, Bool, true, false, cond, refl, sym, ap, ◌∙◌, arith}
use Rattle.std.specs.Prelude.{◌==◌}
use Rattle.std.proofs.lemmas.Bool.{eqb-true, eqb-false, eq-eqb}
use Rattle.std.proofs.Math.Nat.{div-div-eq-div-mul, pow-suc}
use Rattle.hash_bits.specs.Prefix.{first_bits}
use Rattle.hash_bits.proofs.PrefixLemmas.{first_bits-suc, div-first_bits_suc}
use Rattle.plain_map.specs.declared.keys.Key.{Key}
use Rattle.plain_map.specs.declared.rules.Rules.{Rules}
use Rattle.plain_map.specs.Keys.{hash_of_key}
use Rattle.bucket_states.specs.Items.{prefix_of}
use Rattle.bucket_states.specs.Halves.{half}
use Rattle.table_model.specs.Leaves.{NewLeaf, is_in}
use Rattle.table_model.specs.DirectoryLaws.{takes_hash}
use Rattle.list_laws.proofs.Totals.{one_if}
use Rattle.plain_map.proofs.KeyLemmas.{hash_of_key-within}

-- the hash of a key
abbrev pub hash_in : Rules → Key → ℕ
hash_in rules key = hash_of_key rules.hashing key

-- the hash of a key has 64 bits
pub hash_in-small : (rules : Rules) (key : Key) → hash_in rules key < 2 ^ 64
hash_in-small rules key = hash_of_key-within rules.hashing key

-- a leaf has a key exactly where it takes its hash
pub is_in-takes : (rules : Rules) (key : Key) (leaf : NewLeaf) →
    is_in rules key leaf.bucket ≡ takes_hash (hash_in rules key) leaf
unfolding prefix_of
is_in-takes rules key leaf = refl

-- one more bit is one of two
one_of_two : (x y p : ℕ) → (y ≡ 2 * x) ⊎ (y ≡ 2 * x + 1) →
    cond (y == 2 * p + 0) 1 0 + (cond (y == 2 * p + 1) 1 0 + 0) ≡ cond (x == p) 1 0
one_of_two x y p bits = go (y == 2 * p + 0) refl (y == 2 * p + 1) refl (x == p) refl
  where
    go : (a : Bool) → (y == 2 * p + 0) ≡ a → (b : Bool) → (y == 2 * p + 1) ≡ b → (c : Bool) → (x == p) ≡ c →
        cond a 1 0 + (cond b 1 0 + 0) ≡ cond c 1 0
    go true e true f c g = absurd (omega (arith, eqb-true y (2 * p + 0) e, eqb-true y (2 * p + 1) f))
    go true e false f true g = refl
    go true e false f false g = absurd (eqb-false x p g (grind (arith, eqb-true y (2 * p + 0) e, bits)))
    go false e true f true g = refl
    go false e true f false g = absurd (eqb-false x p g (grind (arith, eqb-true y (2 * p + 1) f, bits)))
    go false e false f true g =
        absurd (neither (eqb-true x p g) (eqb-false y (2 * p + 0) e) (eqb-false y (2 * p + 1) f) bits)
      where
        neither : x ≡ p → (y ≡ 2 * p + 0 → ⊥) → (y ≡ 2 * p + 1 → ⊥) → (y ≡ 2 * x) ⊎ (y ≡ 2 * x + 1) → ⊥
        neither s u v (inl z) = u (omega (arith, s, z))
        neither s u v (inr z) = v (omega (arith, s, z))
    go false e false f false g = refl

-- one of the two parts of a leaf
abbrev pub part : Rules → ℕ → NewLeaf → NewLeaf
part rules bit leaf = record { from = leaf.from; bucket = half rules bit leaf.bucket }

-- a hash is taken by one part, where the leaf takes it
pub part-takes : (rules : Rules) (h : ℕ) (leaf : NewLeaf) → leaf.bucket.depth < 64 →
    one_if (takes_hash h) (part rules 0 leaf) + (one_if (takes_hash h) (part rules 1 leaf) + 0) ≡ one_if
    (takes_hash h) leaf
unfolding half
part-takes rules h leaf deep = one_of_two (first_bits h leaf.bucket.depth) (first_bits h (suc leaf.bucket.depth))
    leaf.bucket.prefix (first_bits-suc h leaf.bucket.depth deep)

-- a key of a part is one of the leaf
pub part-in : (rules : Rules) (bit : ℕ) (key : Key) (leaf : NewLeaf) → bit < 2 → leaf.bucket.depth < 64 →
    is_in rules key (half rules bit leaf.bucket) ≡ true → is_in rules key leaf.bucket ≡ true
unfolding half prefix_of
part-in rules bit key leaf small deep e =
    let it = eqb-true (first_bits (hash_in rules key) (suc leaf.bucket.depth)) (2 * leaf.bucket.prefix + bit) e in
    let up = div-first_bits_suc (hash_in rules key) leaf.bucket.depth deep in
    eq-eqb (first_bits (hash_in rules key) leaf.bucket.depth) leaf.bucket.prefix
    (sym up ∙ ap (λ n. n / 2) it ∙ omega (arith, small))

-- the prefix of a part goes on from that of the leaf
pub part-goes_on : (p bit d e : ℕ) → bit < 2 → e ≤ d → (2 * p + bit) / 2 ^ (suc d - e) ≡ p / 2 ^ (d - e)
part-goes_on p bit d e small le =
    let widths : suc (d - e) ≡ suc d - e = omega (arith, le) in
    let split : 2 ^ (suc d - e) ≡ 2 * 2 ^ (d - e) = ap (λ n. 2 ^ n) (sym widths) ∙ pow-suc 2 (d - e) ∙ omega arith in
    let halved : (2 * p + bit) / 2 ≡ p = omega (arith, small) in
    ap (λ n. (2 * p + bit) / n) split ∙ sym (div-div-eq-div-mul (2 * p + bit) 2 (2 ^ (d - e)))
    ∙ ap (λ n. n / 2 ^ (d - e)) halved

-- the prefix of a key is that of its hash
pub prefix_of-hash : (rules : Rules) (depth : ℕ) (key : Key) →
    prefix_of rules depth key ≡ first_bits (hash_in rules key) depth
unfolding prefix_of
prefix_of-hash rules depth key = refl
