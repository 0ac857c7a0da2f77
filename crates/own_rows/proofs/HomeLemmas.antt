-- A sweep looks at a row: it stays named, or is gone.
use Rattle.std.proofs.Common.{◌≡◌, ℕ, ◌+◌, ◌≤◌, List, [], ◌∷◌, ◌++◌, refl, sym, subst, arith}
use Rattle.list_laws.proofs.Totals.{each-append}
use Rattle.own_rows.specs.declared.rows.OwnRows.{OwnRows}
use Rattle.own_rows.specs.Rings.{Ring, count, numbers}
use Rattle.own_rows.specs.Rows.{AreMoved, HasRows, IsLinked, Rows, bucket_of, free_hook, gone_hook, named_hook, next_of, todo_hook}
use Rattle.own_rows.proofs.KeepLemmas.{counts_numbers, numbers_both, relinked, ringed, ringed_linked, ringed_once}
use Rattle.own_rows.proofs.MovedLemmas.{all_kept, now_else, now_from, now_to}

module _ (was now : OwnRows) (r : Rows) (row : ℕ × ℕ) (todo : List (ℕ × ℕ))
    (has : HasRows was (record r { todo = row ∷ todo }))
    (moved : AreMoved was now (todo_hook was) row.0 (named_hook was)) where
  abbrev before : Rows
  before = record r { todo = row ∷ todo }

  once : (k : ℕ) → ringed was before k ≤ 1
  once = ringed_once was before has

  linked : (k : ℕ) → 1 ≤ ringed was before k → IsLinked was k
  linked = ringed_linked was before has

  two_once : (k : ℕ) → count (todo_hook was ∷ (row.0 ∷ numbers todo)) k + count (named_hook was ∷ numbers r.named) k ≤ 1
  two_once k = omega (arith, once k)

  two_linked : (k : ℕ) →
      1 ≤ count (todo_hook was ∷ (row.0 ∷ numbers todo)) k + count (named_hook was ∷ numbers r.named) k → IsLinked was k
  two_linked k h = linked k (omega (arith, h))

  -- it stays named
  pub home_kept : HasRows now (record r { named = r.named ++ row ∷ []; todo = todo })
  home_kept =
      relinked was now
      (all_kept was now (todo_hook was) row.0 (named_hook was) [] (numbers todo) (numbers r.named) two_once two_linked
      has.todo has.named moved)
      before (record r { named = r.named ++ row ∷ []; todo = todo }) has
      (now_else was now (todo_hook was) row.0 (named_hook was) [] (numbers todo) (numbers r.named) two_once two_linked
      has.todo has.named moved (free_hook was) r.free (λ k. omega (arith, once k)) (λ k h. linked k (omega (arith, h)))
      has.free)
      (subst (λ (ns : List ℕ). Ring (next_of now) ns (named_hook was)) (sym (numbers_both r.named (row ∷ [])))
      (now_to was now (todo_hook was) row.0 (named_hook was) [] (numbers todo) (numbers r.named) two_once two_linked
      has.todo has.named moved))
      (now_from was now (todo_hook was) row.0 (named_hook was) [] (numbers todo) (numbers r.named) two_once two_linked
      has.todo has.named moved)
      (now_else was now (todo_hook was) row.0 (named_hook was) [] (numbers todo) (numbers r.named) two_once two_linked
      has.todo has.named moved (gone_hook was) (numbers r.gone) (λ k. omega (arith, once k))
      (λ k h. linked k (omega (arith, h))) has.gone)
      (λ k. omega (arith, counts_numbers r.named (row ∷ []) k)) (λ k. refl) (λ k. refl)
      (each-append (λ other. bucket_of was other.0 ≡ other.1) r.named (row ∷ []) has.named_buckets
      (has.todo_buckets.0, tt))
      has.todo_buckets.1 has.gone_buckets
