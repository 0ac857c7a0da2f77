-- Arguments whose ids differ, and differ from the ids that a command keeps for itself.
--
-- `is_apart` is a test of a list of arguments, which computes. Where it holds, an id names one
-- argument at most.
use Rattle.std.proofs.Common.{◌≡◌, ◌∙◌, ◌<◌, ◌&&◌, ℕ, zero, suc, Bool, true, false, not, List, [], ◌∷◌, ◌++◌, map}
use Rattle.std.proofs.Common.{length, slice_index_or, ap, sym, refl, codes, arith}
use Rattle.std.specs.List.{list_any}
use Rattle.std.specs.Str.{bytes_eq}
use Rattle.std.proofs.lemmas.List.{get_or-map, get_or_default, length-map}
use Rattle.std.proofs.lemmas.List.Folds.{list_any-from_Any}
use Rattle.std.proofs.lemmas.Slice.Eq.{bytes_eq-Decides}
use Rattle.std.proofs.lemmas.Bool.{and_parts}
use Rattle.clap.specs.Walk.{Rule, Text}

-- no id comes twice
abbrev pub ids_differ : List Text → Bool
ids_differ [] = true
ids_differ (id ∷ rest) = not (list_any (λ other. bytes_eq other id) rest) && ids_differ rest

-- the ids that no argument of the caller's may have: of a group, and of the two flags
abbrev pub reserved : List Text
reserved = [] ∷ codes "help" ∷ codes "version" ∷ []

-- the reserved ids, and those of the arguments
abbrev pub all_ids : List Rule → List Text
all_ids rules = reserved ++ map (λ r. r.id) rules

abbrev pub is_apart : List Rule → Bool
is_apart rules = ids_differ (all_ids rules)

not_true : (b : Bool) → not b ≡ true → b ≡ true → ⊥
not_true true e f = cc
not_true false e f = cc

-- an id at a place of the list is found there
found_at : (ids : List Text) (id : Text) (k : ℕ) → k < length ids → slice_index_or ids k [] ≡ id
    → list_any (λ other. bytes_eq other id) ids ≡ true
found_at ids id k inside at =
    list_any-from_Any (λ other. bytes_eq other id) ids
    (k, id, inside, get_or_default ids k id [] inside ∙ at, (bytes_eq-Decides id id).1 refl)

-- one id, one place
same_place : (ids : List Text) → ids_differ ids ≡ true → (j k : ℕ) → j < length ids → k < length ids
    → slice_index_or ids j [] ≡ slice_index_or ids k [] → j ≡ k
same_place [] apart j k lj lk e = absurd (omega arith)
same_place (id ∷ rest) apart zero zero lj lk e = refl
same_place (id ∷ rest) apart zero (suc k) lj lk e =
    absurd (not_true _ (and_parts _ _ apart).0 (found_at rest id k (omega arith) (sym e)))
same_place (id ∷ rest) apart (suc j) zero lj lk e =
    absurd (not_true _ (and_parts _ _ apart).0 (found_at rest id j (omega arith) e))
same_place (id ∷ rest) apart (suc j) (suc k) lj lk e =
    ap suc (same_place rest (and_parts _ _ apart).1 j k (omega arith) (omega arith) e)

-- the arguments' ids follow the three that are reserved
id_at : (rules : List Rule) (k : ℕ) (d : Rule) → k < length rules
    → slice_index_or (all_ids rules) (suc (suc (suc k))) [] ≡ (slice_index_or rules k d).id
id_at rules k d inside = get_or-map (λ r. r.id) rules k d [] inside

ids_long : (rules : List Rule) → length (map (λ (r : Rule). r.id) rules) ≡ length rules
ids_long rules = length-map rules (λ (r : Rule). r.id)

-- two arguments with one id are one
pub one_place : (rules : List Rule) → is_apart rules ≡ true → (j k : ℕ) (d e : Rule) → j < length rules
    → k < length rules → (slice_index_or rules j d).id ≡ (slice_index_or rules k e).id → j ≡ k
one_place rules apart j k d e lj lk same =
    let long = ids_long rules in
    let three : suc (suc (suc j)) ≡ suc (suc (suc k)) =
    same_place (all_ids rules) apart (suc (suc (suc j))) (suc (suc (suc k))) (omega arith) (omega arith)
    (id_at rules j d lj ∙ same ∙ sym (id_at rules k e lk)) in
    omega arith

-- no argument has a reserved id
pub own_id : (rules : List Rule) → is_apart rules ≡ true → (k : ℕ) (d : Rule) → k < length rules → (i : ℕ) → i < 3
    → slice_index_or (all_ids rules) i [] ≡ (slice_index_or rules k d).id → ⊥
own_id rules apart k d lk i li same =
    let long = ids_long rules in
    let bad : i ≡ suc (suc (suc k)) =
    same_place (all_ids rules) apart i (suc (suc (suc k))) (omega arith) (omega arith)
    (same ∙ sym (id_at rules k d lk)) in
    absurd (omega arith)
