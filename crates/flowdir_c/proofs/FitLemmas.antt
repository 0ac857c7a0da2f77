-- Pairs in another order fit alike, and lack room alike.
use Rattle.std.proofs.Common.{◌≡◌, ℕ, Bool, cond, List, [], ◌∷◌, ◌++◌, map, ap, refl, arith, eq-eqb}
use Rattle.std.specs.Prelude.{All, IsPermutation, ◌==◌, count_by}
use Rattle.std.proofs.lemmas.List.Sums.{sum_by-append}
use Rattle.std.proofs.lemmas.List.Sorted.{All-permutation, IsPermutation-map, IsPermutation-sym, sum_by-IsPermutation}
use Rattle.std.proofs.lemmas.Map.Keys.{IsDistinct-IsPermutation}
use Rattle.plain_map.specs.declared.keys.Pair.{Pair}
use Rattle.plain_map.specs.declared.rules.Rules.{Rules}
use Rattle.plain_map.specs.PlainObject.{class_of}
use Rattle.plain_map.specs.Updates.{IsSmallPair}
use Rattle.bucket_states.specs.Items.{same_key}
use Rattle.bucket_states.specs.Parts.{HasDistinctKeys, keys_of}
use Rattle.bucket_states.proofs.KeyTests.{same_key-equiv}
use Rattle.table_model.specs.Setup.{IsFirstWithoutRoom, IsPair}
use Rattle.flowdir_c.specs.declared.answer.FlowPair.{FlowPair}
use Rattle.flowdir_c.specs.Fit.{AreFitPairs, LackRoom}

-- a pair that stands where none does
abbrev pub no_flow_pair : FlowPair
no_flow_pair = record { key = record { k0 = 0; k1 = 0; k2 = 0; k3 = 0; k4 = 0 }; value = 0; bytes = 0 }

-- one image more
pub map_more : {A B : Type 0} (f : A → B) (xs : List A) (x : A) → map f (xs ++ x ∷ []) ≡ map f xs ++ f x ∷ []
map_more f [] x = refl
map_more f (y ∷ ys) x = ap (λ zs. f y ∷ zs) (map_more f ys x)

-- pairs in another order have distinct keys
pub distinct_moved : (xs ys : List Pair) → IsPermutation xs ys → HasDistinctKeys xs → HasDistinctKeys ys
distinct_moved xs ys moved = IsDistinct-IsPermutation same_key same_key-equiv.symm (keys_of xs) (keys_of ys)
    (IsPermutation-map (λ (p : Pair). p.key) xs ys moved)

-- and fit
pub fit_moved : (xs ys : List Pair) → IsPermutation xs ys → AreFitPairs xs → AreFitPairs ys
fit_moved xs ys moved fit = record {
  small = All-permutation IsSmallPair xs ys moved fit.small;
  distinct = distinct_moved xs ys moved fit.distinct;
}

-- where pairs in another order lack room, so do these
pub lack_moved : (rules : Rules) (xs ys : List Pair) → IsPermutation xs ys → LackRoom rules ys → LackRoom rules xs
lack_moved rules xs ys moved lack = record {
  key = lack.key;
  many = omega (
    arith,
    lack.many,
    sum_by-IsPermutation (λ (other : Pair). cond (class_of rules other.key == class_of rules lack.key) 1 0) xs ys moved,
  );
}

-- the first that finds no room is one too many of its class
pub lack_at : (rules : Rules) (pairs : List Pair) (place : ℕ) → IsFirstWithoutRoom rules pairs place →
    LackRoom rules pairs
lack_at rules pairs place without =
    let pair = without.pair in
    let test : Pair → Bool = λ other. class_of rules other.key == class_of rules pair.key in
    let one : Pair → ℕ = λ other. cond (test other) 1 0 in
    record {
      key = pair.key;
      many = omega (
        arith,
        without.full,
        ap (count_by test) without.cut,
        sum_by-append one without.front (pair ∷ without.back),
        sum_by-append one (pair ∷ []) without.back,
        ap {B = ℕ} (λ b. cond b 1 0) (eq-eqb (class_of rules pair.key) (class_of rules pair.key) refl),
      );
    }

-- pairs that in another order can be kept, each key once, fit
pub fit_back : (xs ys : List Pair) → IsPermutation xs ys → All IsPair ys → HasDistinctKeys ys → AreFitPairs xs
fit_back xs ys moved pairs distinct = fit_moved ys xs (IsPermutation-sym xs ys moved)
    (record { small = λ k d h. (pairs k d h).small; distinct = distinct })
