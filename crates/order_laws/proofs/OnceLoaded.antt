-- Buckets that were loaded once are found as they were loaded.
use Rattle.std.proofs.Common.{◌≡◌, ℕ, zero, suc, ◌<◌, eqb, List, [], ◌∷◌, length, get_or, Some, true≢false, inl, inr, refl, sym, ◌∙◌, arith, eqb-true, eq-eqb}
use Rattle.std.specs.Prelude.{All}
use Rattle.std.proofs.lemmas.Bool.{cases_Bool, cond-true, cond-false}
use Rattle.table_model.specs.DirectoryChange.{LoadedBucket, is_bucket, loaded_of}
use Rattle.run_invariant.proofs.Invariant.{LoadedOnce}
use Rattle.list_laws.proofs.Lists.{any_from}
use Rattle.list_laws.proofs.Places.{in_at}

-- where each bucket was loaded once, it is found as it was loaded
pub found_once : (loaded : List LoadedBucket) → LoadedOnce loaded → All (λ l. loaded_of loaded l.bucket ≡ Some l) loaded
found_once [] o = λ i d h. absurd (omega (arith, h))
found_once (l ∷ loaded) o = λ i d h. at (found_once loaded o.1) i d h
  where
    at : All (λ x. loaded_of loaded x.bucket ≡ Some x) loaded → (i : ℕ) (d : LoadedBucket) →
        i < length (l ∷ loaded) → loaded_of (l ∷ loaded) (get_or (l ∷ loaded) i d).bucket ≡ Some
        (get_or (l ∷ loaded) i d)
    at rest zero d h = cond-true (eqb l.bucket l.bucket) (Some l) (loaded_of loaded l.bucket)
        (eq-eqb l.bucket l.bucket refl)
    at rest (suc i) d h =
        let x = get_or loaded i d in
        let less : i < length loaded = omega (arith, h) in
        elim (cases_Bool (eqb l.bucket x.bucket)) [
          | inr n ↦ cond-false (eqb l.bucket x.bucket) (Some l) (loaded_of loaded x.bucket) n ∙ rest i d less
          | inl e ↦ absurd (true≢false (sym (any_from (is_bucket l.bucket) loaded x (in_at loaded i d less)
              (eq-eqb x.bucket l.bucket (sym (eqb-true l.bucket x.bucket e)))) ∙ o.0))
        ]
