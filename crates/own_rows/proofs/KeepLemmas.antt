-- What a seat's rows are after their links have changed.
use Rattle.std.proofs.Common.{◌≡◌, ◌≢◌, ℕ, ◌+◌, ◌-◌, ◌<◌, ◌≤◌, ◌∙◌, cond, List, [], ◌∷◌, ◌++◌, length, get_or, set, refl, inl, inr, sym, ap, subst, arith}
use Rattle.std.specs.Prelude.{◌==◌}
use Rattle.std.proofs.lemmas.Bool.Decides.{nat_tests}
use Rattle.std.proofs.lemmas.Bool.{cases_lt}
use Rattle.std.proofs.lemmas.List.{get_or-set_same, get_or-set_other}
use Rattle.list_laws.proofs.Totals.{each-alike}
use Rattle.own_rows.specs.declared.rows.OwnRows.{OwnRows}
use Rattle.own_rows.specs.Rings.{Ring, count, numbers}
use Rattle.own_rows.specs.Rows.{AreMoved, AreSame, AreSwapped, HasRows, HaveBuckets, IsLinked, Rows, bucket_of, free_hook, generation_of, gone_hook, lost_of, named_hook, next_of, times, todo_hook}
use Rattle.own_rows.proofs.RingLemmas.{counts_both}
use Rattle.own_rows.proofs.MoveLemmas.{Swap}

-- the rows of two lists
pub numbers_both : (xs ys : List (ℕ × ℕ)) → numbers (xs ++ ys) ≡ numbers xs ++ numbers ys
numbers_both [] ys = refl
numbers_both (x ∷ xs) ys = ap (λ (zs : List ℕ). x.0 ∷ zs) (numbers_both xs ys)

-- how often a row stands in two lists
pub counts_numbers : (xs ys : List (ℕ × ℕ)) (k : ℕ) →
    count (numbers (xs ++ ys)) k ≡ count (numbers xs) k + count (numbers ys) k
counts_numbers xs ys k =
    ap (λ (zs : List ℕ). count zs k) (numbers_both xs ys) ∙ counts_both k (numbers xs) (numbers ys)

-- how often a number stands in all rings, their hooks too
abbrev pub ringed : OwnRows → Rows → (k : ℕ) → ℕ
ringed o r k =
    count (free_hook o ∷ r.free) k + count (named_hook o ∷ numbers r.named) k + count (todo_hook o ∷ numbers r.todo) k
    + count (gone_hook o ∷ numbers r.gone) k

-- a hook is none of the others
hooks_once : (a k : ℕ) →
    cond (a == k) 1 0 + cond (a + 1 == k) 1 0 + cond (a + 2 == k) 1 0 + cond (a + 3 == k) 1 0 ≤ 1
hooks_once a k = grind (arith, nat_tests)

hooks_none : (a k : ℕ) → k < a →
    ◌≡◌ {A = ℕ} (cond (a == k) 1 0 + cond (a + 1 == k) 1 0 + cond (a + 2 == k) 1 0 + cond (a + 3 == k) 1 0) 0
hooks_none a k h = grind (arith, nat_tests)

hooks_in : (a k : ℕ) →
    1 ≤ cond (a == k) 1 0 + cond (a + 1 == k) 1 0 + cond (a + 2 == k) 1 0 + cond (a + 3 == k) 1 0 →
    (a ≤ k) × (k < a + 4)
hooks_in a k h = grind (arith, nat_tests)

-- what is there is there once, and has a number
pub ringed_once : (o : OwnRows) (r : Rows) → HasRows o r → (k : ℕ) → ringed o r k ≤ 1
ringed_once o r has k = elim (cases_lt k (o.first + o.rows)) [
  | inl row ↦ omega (arith, has.once k, hooks_none (o.first + o.rows) k row)
  | inr hook ↦ elim (cases_lt 0 (times r k)) [
    | inl some ↦ absurd (omega (arith, has.mine k some, hook))
    | inr none ↦ omega (arith, none, hooks_once (o.first + o.rows) k)
  ]
]

pub ringed_linked : (o : OwnRows) (r : Rows) → HasRows o r → (k : ℕ) → 1 ≤ ringed o r k → IsLinked o k
ringed_linked o r has k h = elim (cases_lt 0 (times r k)) [
  | inl some ↦ (let m = has.mine k some in (omega (arith, m), omega (arith, m)))
  | inr none ↦ (let m = hooks_in (o.first + o.rows) k (omega (arith, h, none)) in (omega (arith, m), omega (arith, m)))
]

-- the arrays are the same but for the links
pub record AreKept (was now : OwnRows) : Type 0 where
  pub first : now.first ≡ was.first
  pub rows : now.rows ≡ was.rows
  pub buckets : now.buckets ≡ was.buckets
  pub generations : now.generations ≡ was.generations
  pub lost : now.lost ≡ was.lost
  pub sweeps : now.sweeps ≡ was.sweeps

pub kept : (was now : OwnRows) (a b : ℕ) → AreSwapped was now a b → AreKept was now
kept was now a b s = record {
  first = s.first;
  rows = s.rows;
  buckets = s.buckets;
  generations = s.generations;
  lost = s.lost;
  sweeps = s.sweeps;
}

pub kept_twice : (was mid now : OwnRows) → AreKept was mid → AreKept mid now → AreKept was now
kept_twice was mid now s t = record {
  first = t.first ∙ s.first;
  rows = t.rows ∙ s.rows;
  buckets = t.buckets ∙ s.buckets;
  generations = t.generations ∙ s.generations;
  lost = t.lost ∙ s.lost;
  sweeps = t.sweeps ∙ s.sweeps;
}

pub same_kept : (was now : OwnRows) → AreKept was now → AreSame was now
same_kept was now s = record { first = s.first; rows = s.rows; sweeps = s.sweeps }

pub same_moved : (was now : OwnRows) (behind row hook : ℕ) → AreMoved was now behind row hook → AreSame was now
same_moved was now behind row hook m = record {
  first = m.put.first ∙ m.cut.first;
  rows = m.put.rows ∙ m.cut.rows;
  sweeps = m.put.sweeps ∙ m.cut.sweeps;
}

pub swap_of : (was now : OwnRows) (a b : ℕ) → AreSwapped was now a b →
    Swap was.first (next_of was) (next_of now) a b
swap_of was now a b s = record { one = s.one; other = s.other; rest = s.rest }

-- a swap after which the numbers are the same as before the first one
pub swap_then : (was mid now : OwnRows) (a b : ℕ) → AreKept was mid → AreSwapped mid now a b →
    Swap was.first (next_of mid) (next_of now) a b
swap_then was mid now a b k s = record {
  one = s.one;
  other = s.other;
  rest = λ j low. s.rest j (subst (λ (n : ℕ). n ≤ j) (sym k.first) low);
}

-- rows in rings that are linked anew
pub linked_from : (was now : OwnRows) (s : Rows) → now.first ≡ was.first → now.rows ≡ was.rows →
    Ring (next_of now) s.free (free_hook was) → Ring (next_of now) (numbers s.named) (named_hook was) →
    Ring (next_of now) (numbers s.todo) (todo_hook was) → Ring (next_of now) (numbers s.gone) (gone_hook was) →
    ((k : ℕ) → times s k ≤ 1) → ((k : ℕ) → 1 ≤ times s k → (was.first ≤ k) × (k < was.first + was.rows)) →
    HaveBuckets now s.named → HaveBuckets now s.todo → HaveBuckets now s.gone →
    ((k : ℕ) → 1 ≤ times s k → generation_of now k ≡ s.generation k) → 1 ≤ now.sweeps →
    ((k : ℕ) → was.first ≤ k → k < was.first + was.rows → lost_of now k ≤ now.sweeps) →
    ((k : ℕ) → 1 ≤ count (numbers s.gone) k → lost_of now k ≡ now.sweeps) →
    ((k : ℕ) → was.first ≤ k → k < was.first + was.rows → lost_of now k ≡ now.sweeps →
    1 ≤ count (numbers s.gone) k) → HasRows now s
linked_from was now s first rows free named todo gone once mine bn bt bg generations counted early late only = record {
  free = subst (λ (h : ℕ). Ring (next_of now) s.free h) hooks free;
  named = subst (λ (h : ℕ). Ring (next_of now) (numbers s.named) (h + 1)) hooks named;
  todo = subst (λ (h : ℕ). Ring (next_of now) (numbers s.todo) (h + 2)) hooks todo;
  gone = subst (λ (h : ℕ). Ring (next_of now) (numbers s.gone) (h + 3)) hooks gone;
  once = once;
  mine = λ k h. let m = mine k h in (omega (arith, m, first), omega (arith, m, hooks));
  named_buckets = bn;
  todo_buckets = bt;
  gone_buckets = bg;
  generations = generations;
  counted = counted;
  early = λ k low high. early k (omega (arith, low, first)) (omega (arith, high, hooks));
  late = late;
  only = λ k low high. only k (omega (arith, low, first)) (omega (arith, high, hooks));
}
  where
    hooks : was.first + was.rows ≡ now.first + now.rows
    hooks = λ i. sym first i + sym rows i

-- the same rows
pub linked_anew : (was now : OwnRows) (r s : Rows) → HasRows was r → now.first ≡ was.first → now.rows ≡ was.rows →
    Ring (next_of now) s.free (free_hook was) → Ring (next_of now) (numbers s.named) (named_hook was) →
    Ring (next_of now) (numbers s.todo) (todo_hook was) → Ring (next_of now) (numbers s.gone) (gone_hook was) →
    ((k : ℕ) → times s k ≡ times r k) → HaveBuckets now s.named → HaveBuckets now s.todo → HaveBuckets now s.gone →
    ((k : ℕ) → 1 ≤ times s k → generation_of now k ≡ s.generation k) → 1 ≤ now.sweeps →
    ((k : ℕ) → was.first ≤ k → k < was.first + was.rows → lost_of now k ≤ now.sweeps) →
    ((k : ℕ) → 1 ≤ count (numbers s.gone) k → lost_of now k ≡ now.sweeps) →
    ((k : ℕ) → was.first ≤ k → k < was.first + was.rows → lost_of now k ≡ now.sweeps →
    1 ≤ count (numbers s.gone) k) → HasRows now s
linked_anew was now r s has first rows free named todo gone alike =
    linked_from was now s first rows free named todo gone (λ k. omega (arith, alike k, has.once k))
    (λ k h. has.mine k (omega (arith, h, alike k)))

module _ (was now : OwnRows) (same : AreKept was now) where
  pub bucket_same : (k : ℕ) → bucket_of now k ≡ bucket_of was k
  bucket_same k = λ i. get_or (same.buckets i).items (k - same.first i) 0

  pub generation_same : (k : ℕ) → generation_of now k ≡ generation_of was k
  generation_same k = λ i. get_or (same.generations i).items (k - same.first i) 0

  pub lost_same : (k : ℕ) → lost_of now k ≡ lost_of was k
  lost_same k = λ i. get_or (same.lost i).items (k - same.first i) 0

  pub buckets_same : (rows : List (ℕ × ℕ)) → HaveBuckets was rows → HaveBuckets now rows
  buckets_same rows h =
      each-alike (λ row. bucket_of was row.0 ≡ row.1) (λ row. bucket_of now row.0 ≡ row.1)
      (λ row e. bucket_same row.0 ∙ e) rows h

  -- the same rows in other rings
  pub relinked : (r s : Rows) → HasRows was r →
      Ring (next_of now) s.free (free_hook was) → Ring (next_of now) (numbers s.named) (named_hook was) →
      Ring (next_of now) (numbers s.todo) (todo_hook was) → Ring (next_of now) (numbers s.gone) (gone_hook was) →
      ((k : ℕ) → times s k ≡ times r k) → ((k : ℕ) → s.generation k ≡ r.generation k) →
      ((k : ℕ) → count (numbers s.gone) k ≡ count (numbers r.gone) k) →
      HaveBuckets was s.named → HaveBuckets was s.todo → HaveBuckets was s.gone → HasRows now s
  relinked r s has free named todo gone alike generations alone bn bt bg =
      linked_anew was now r s has same.first same.rows free named todo gone alike (buckets_same s.named bn)
      (buckets_same s.todo bt) (buckets_same s.gone bg)
      (λ k h. generation_same k ∙ has.generations k (omega (arith, h, alike k)) ∙ sym (generations k))
      (omega (arith, has.counted, same.sweeps))
      (λ k low high. omega (arith, lost_same k, has.early k low high, same.sweeps))
      (λ k h. lost_same k ∙ has.late k (omega (arith, h, alone k)) ∙ sym same.sweeps)
      (λ k low high e. omega (arith, alone k, has.only k low high (sym (lost_same k) ∙ e ∙ same.sweeps)))

-- one place of an array is written
pub written_here : (xs : List ℕ) (first k v : ℕ) → k - first < length xs →
    get_or (set xs (k - first) v) (k - first) 0 ≡ v
written_here xs first k v inside = get_or-set_same xs (k - first) v 0 inside

pub written_there : (xs : List ℕ) (first a k v : ℕ) → first ≤ a → first ≤ k → k ≢ a →
    get_or (set xs (a - first) v) (k - first) 0 ≡ get_or xs (k - first) 0
written_there xs first a k v low from other =
    get_or-set_other xs (a - first) (k - first) v 0 (λ e. other (omega (arith, e, low, from)))
