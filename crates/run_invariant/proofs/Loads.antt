-- What serves every step: rows that are loaded word by word, tests, and the event that moves nothing.
use Rattle.std.proofs.Common.{◌≡◌, ℕ, ◌-◌, ◌*◌, ◌/◌, ◌<◌, ◌≤◌, ◌^◌, Bool, true, false, cond, eqb, ◌||◌, List, [], ◌∷◌, ◌++◌, refl, sym, ap, ◌∙◌, arith}
use Rattle.std.specs.Prelude.{Option, Some, find, not}
use Rattle.std.specs.List.{list_any}
use Rattle.std.proofs.lemmas.Bool.{eqb-false, ne_eqb, not-true}
use Rattle.std.proofs.Math.Nat.{mul-lt-mul_of_pos_right, mul-div_cancel}
use Rattle.std.proofs.lemmas.Nat.{pow_pos, pow-add}
use Rattle.step_counts.specs.StepCounts.{bucket_row_words}
use Rattle.hash_bits.proofs.PrefixLemmas.{first_bits-within}
use Rattle.plain_map.specs.declared.keys.Key.{Key}
use Rattle.plain_map.specs.Keys.{hash_of_key}
use Rattle.bucket_states.specs.Items.{prefix_of}
use Rattle.plain_map.specs.declared.rules.Rules.{Rules}
use Rattle.bucket_states.specs.declared.ops.Op.{Op}
use Rattle.table_model.specs.Directories.{DirectoryState}
use Rattle.table_model.specs.DirectoryChange.{LoadedBucket, is_bucket, buckets_of, next_bucket}
use Rattle.table_model.specs.Setup.{Setup}
use Rattle.run_invariant.proofs.Invariant.{Common, Moves, Recalls, LoadedOnce, bits, width}
use Rattle.plain_map.proofs.KeyLemmas.{hash_of_key-within}

-- the words of a bucket row; there are more than four
pub width_is : (setup : Setup) → width setup ≡ bucket_row_words setup.shape.settings
unfolding width
width_is setup = refl

-- there are more than four of them
pub four_within : (setup : Setup) → 4 < width setup
unfolding width
four_within setup = omega arith

-- the first bits of a key are a place
pub bits_below : (setup : Setup) (depth : ℕ) (key : Key) → depth ≤ setup.shape.settings.depth →
    bits setup depth key < 2 ^ depth
unfolding prefix_of
bits_below setup depth key h =
    let few : depth ≤ 64 = omega arith in
    first_bits-within (hash_of_key setup.hashing key) depth (hash_of_key-within setup.hashing key) few

-- an event that changes nothing that is shared
pub moves_none : (setup : Setup) (me : ℕ) (c : Common) → Moves setup me c c
moves_none setup me c = grind arith

-- and nothing of where things come from
pub recalls_none : (c : Common) → Recalls c c
recalls_none c = record { origins = λ b n. (refl, refl); bases = λ b i n o. refl; dir_bases = λ v o. refl }

-- a place of a directory that goes on from a prefix
pub first_place : (prefix depth whole : ℕ) → depth ≤ whole → prefix < 2 ^ depth → (place : ℕ) × (place < 2 ^ whole)
    × (place / 2 ^ (whole - depth) ≡ prefix)
first_place prefix depth whole shallow below =
    let rest = whole - depth in
    let all : 2 ^ depth * 2 ^ rest ≡ 2 ^ whole =
    sym (pow-add 2 depth rest) ∙ ap (λ k. 2 ^ k) (omega (arith, shallow)) in
    let within : prefix * 2 ^ rest < 2 ^ depth * 2 ^ rest = mul-lt-mul_of_pos_right below (pow_pos rest) in
    (prefix * 2 ^ rest, omega (arith, within, all), mul-div_cancel prefix (pow_pos rest))

-- ---- the buckets that a directory try loads

-- one more, which is none of those before
pub once_more : (loaded : List LoadedBucket) (l : LoadedBucket) → LoadedOnce loaded →
    list_any (is_bucket l.bucket) loaded ≡ false → LoadedOnce (loaded ++ l ∷ [])
once_more [] l once e = (refl, tt)
once_more (x ∷ xs) l once e = (
  none_more (is_bucket x.bucket) xs l once.0 (other l.bucket x.bucket
      (or-false (is_bucket l.bucket x) (list_any (is_bucket l.bucket) xs) e).0),
  once_more xs l once.1 (or-false (is_bucket l.bucket x) (list_any (is_bucket l.bucket) xs) e).1,
)
  where
    or-false : (a b : Bool) → (a || b) ≡ false → (a ≡ false) × (b ≡ false)
    or-false false b e = (refl, e)
    or-false true b e = cc

    none_more : (test : LoadedBucket → Bool) (ys : List LoadedBucket) (y : LoadedBucket) → list_any test ys ≡ false →
        test y ≡ false → list_any test (ys ++ y ∷ []) ≡ false
    none_more test [] y n m = ap (λ b. b || false) m
    none_more test (z ∷ zs) y n m = (let p = or-false (test z) (list_any test zs) n in
        ap (λ b. b || list_any test (zs ++ y ∷ [])) p.0 ∙ none_more test zs y p.1 m)

    other : (a b : ℕ) → eqb b a ≡ false → eqb a b ≡ false
    other a b e = ne_eqb a b (λ q. eqb-false b a e (sym q))

-- the bucket that is loaded next is none of those
pub not_loaded : (rules : Rules) (directory : DirectoryState) (loaded : List LoadedBucket) (found : List (Option Op))
    (bucket : ℕ) → next_bucket rules directory loaded found ≡ Some bucket → list_any (is_bucket bucket) loaded ≡ false
not_loaded rules directory loaded found bucket e =
    not-true (list_any (is_bucket bucket) loaded) (passes (λ b. not (list_any (is_bucket b) loaded))
    (buckets_of rules directory found) bucket e)
  where
    passes : (test : ℕ → Bool) (xs : List ℕ) (x : ℕ) → find test xs ≡ Some x → test x ≡ true
    passes test [] x e = cc
    passes test (y ∷ ys) x e = go (test y) refl e (passes test ys x)
      where
        go : (t : Bool) → test y ≡ t → cond t (Some y) (find test ys) ≡ Some x →
            (find test ys ≡ Some x → test x ≡ true) → test x ≡ true
        go true is e rest = (let same : y ≡ x = cc in ap test (sym same) ∙ is)
        go false is e rest = rest e
