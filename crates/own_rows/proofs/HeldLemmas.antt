-- A row that a seat holds, among those that are gone.
use Rattle.std.proofs.Common.{◌≡◌, ◌≢◌, ℕ, ◌+◌, ◌-◌, ◌<◌, ◌≤◌, ◌∙◌, not, true, false, List, [], ◌∷◌, ◌++◌, length, get_or, set, refl, inl, inr, sym, ap, subst, append-nil, arith}
use Rattle.std.specs.Prelude.{◌==◌}
use Rattle.std.proofs.lemmas.Bool.{cases_eq, cases_lt, cond-true, cond-false}
use Rattle.std.proofs.lemmas.Bool.Decides.{nat_tests}
use Rattle.list_laws.proofs.Totals.{each-append}
use Rattle.own_rows.specs.declared.rows.OwnRows.{OwnRows}
use Rattle.own_rows.specs.Rings.{Ring, count, last_of, numbers}
use Rattle.own_rows.specs.Rows.{AreMoved, HasRows, HaveBuckets, IsLinked, IsSound, Rows, alone, back_of, bucket_of, free_hook, gone_hook, lost_of, named_hook, next_of, times, todo_hook, without}
use Rattle.own_rows.proofs.RingLemmas.{counts_both, counts_first, counts_last, front_of, last_linked, none_for, one_for, stays}
use Rattle.own_rows.proofs.KeepLemmas.{AreKept, buckets_same, counts_numbers, generation_same, linked_anew, lost_same, numbers_both, ringed, ringed_linked, ringed_once, written_here, written_there}
use Rattle.own_rows.proofs.MovedLemmas.{all_kept, now_else, now_from, now_to}

is_it : (a b : ℕ) → a ≡ b → (a == b) ≡ true
is_it a b is = grind (arith, nat_tests)

is_other : (a b : ℕ) → a ≢ b → (a == b) ≡ false
is_other a b is = grind (arith, nat_tests)

module _ (k : ℕ) where
  -- a row that is not there
  pub none_alone : (rows : List (ℕ × ℕ)) → count (numbers rows) k ≡ 0 → alone k rows ≡ []
  none_alone [] h = refl
  none_alone (x ∷ rows) h =
      cond-false (x.0 == k) (x ∷ alone k rows) (alone k rows)
      (is_other x.0 k (λ e. omega (arith, h, one_for x.0 k e)))
      ∙ none_alone rows (omega (arith, h))

  pub all_without : (rows : List (ℕ × ℕ)) → count (numbers rows) k ≡ 0 → without k rows ≡ rows
  all_without [] h = refl
  all_without (x ∷ rows) h =
      cond-true (not (x.0 == k)) (x ∷ without k rows) (without k rows)
      (ap not (is_other x.0 k (λ e. omega (arith, h, one_for x.0 k e))))
      ∙ ap (λ (l : List (ℕ × ℕ)). x ∷ l) (all_without rows (omega (arith, h)))

  -- a row that is there once
  pub record Found (rows : List (ℕ × ℕ)) : Type 0 where
    pub front : List (ℕ × ℕ)
    pub row : ℕ × ℕ
    pub back : List (ℕ × ℕ)
    pub number : row.0 ≡ k
    pub is : rows ≡ front ++ row ∷ back
    pub alone_is : alone k rows ≡ row ∷ []
    pub without_is : without k rows ≡ front ++ back

  pub found : (rows : List (ℕ × ℕ)) → 1 ≤ count (numbers rows) k → count (numbers rows) k ≤ 1 → Found rows
  found [] h once = absurd (omega (arith, h))
  found (x ∷ rows) h once = elim (cases_eq x.0 k) [
    | inl is ↦ (let none : count (numbers rows) k ≡ 0 = omega (arith, once, one_for x.0 k is) in
        record {
          front = [];
          row = x;
          back = rows;
          number = is;
          is = refl;
          alone_is = cond-true (x.0 == k) (x ∷ alone k rows) (alone k rows) (is_it x.0 k is)
              ∙ ap (λ (l : List (ℕ × ℕ)). x ∷ l) (none_alone rows none);
          without_is = cond-false (not (x.0 == k)) (x ∷ without k rows) (without k rows) (ap not (is_it x.0 k is))
              ∙ all_without rows none;
        })
    | inr other ↦ (let f = found rows (omega (arith, h, none_for x.0 k other)) (omega (arith, once)) in
        record {
          front = x ∷ f.front;
          row = f.row;
          back = f.back;
          number = f.number;
          is = ap (λ (l : List (ℕ × ℕ)). x ∷ l) f.is;
          alone_is = cond-false (x.0 == k) (x ∷ alone k rows) (alone k rows) (is_other x.0 k other) ∙ f.alone_is;
          without_is = cond-true (not (x.0 == k)) (x ∷ without k rows) (without k rows)
              (ap not (is_other x.0 k other)) ∙ ap (λ (l : List (ℕ × ℕ)). x ∷ l) f.without_is;
        })
  ]

-- a row is not gone that is none of the seat's, or was not lost in this sweep
pub gone_from_mine : (o : OwnRows) (r : Rows) (k : ℕ) → HasRows o r →
    ((o.first ≤ k) × (k < o.first + o.rows) → ⊥) → count (numbers r.gone) k ≡ 0
gone_from_mine o r k has none_of = elim (cases_lt 0 (count (numbers r.gone) k)) [
  | inl some ↦ absurd (none_of (has.mine k (omega (arith, some))))
  | inr none ↦ omega (arith, none)
]

pub gone_from_lost : (o : OwnRows) (r : Rows) (k : ℕ) → HasRows o r → (lost_of o k ≡ o.sweeps → ⊥) →
    count (numbers r.gone) k ≡ 0
gone_from_lost o r k has none_of = elim (cases_lt 0 (count (numbers r.gone) k)) [
  | inl some ↦ absurd (none_of (has.late k some))
  | inr none ↦ omega (arith, none)
]

-- a row that is not gone changes nothing
pub not_held : (o : OwnRows) (r : Rows) (held : ℕ) → HasRows o r → count (numbers r.gone) held ≡ 0 →
    HasRows o (record r { named = r.named ++ alone held r.gone; gone = without held r.gone })
not_held o r held has none =
    subst (λ (l : List (ℕ × ℕ)). HasRows o (record r { named = l; gone = without held r.gone }))
    (sym (append-nil r.named) ∙ ap (λ (l : List (ℕ × ℕ)). r.named ++ l) (sym (none_alone held r.gone none)))
    (subst (λ (l : List (ℕ × ℕ)). HasRows o (record r { gone = l })) (sym (all_without held r.gone none)) has)

module _ (was now end : OwnRows) (r : Rows) (front back : List (ℕ × ℕ)) (row : ℕ × ℕ)
    (has : HasRows was (record r { gone = front ++ row ∷ back }))
    (moved : AreMoved was now (last_of (numbers front) (gone_hook was)) row.0 (named_hook was))
    (same : AreKept now (record end { lost = now.lost })) (links : end.next ≡ now.next)
    (wide : row.0 - now.first < length now.lost.items)
    (written : end.lost.items ≡ set now.lost.items (row.0 - now.first) 0) where
  abbrev before : Rows
  before = record r { gone = front ++ row ∷ back }

  once : (k : ℕ) → ringed was before k ≤ 1
  once = ringed_once was before has

  in_it : (k : ℕ) → 1 ≤ ringed was before k → IsLinked was k
  in_it = ringed_linked was before has

  numbers_are : numbers (front ++ row ∷ back) ≡ numbers front ++ row.0 ∷ numbers back
  numbers_are = numbers_both front (row ∷ back)

  counts_are : (k : ℕ) → count (numbers (front ++ row ∷ back)) k ≡ count (numbers front ++ row.0 ∷ numbers back) k
  counts_are k = ap (λ (l : List ℕ). count l k) numbers_are

  two_once : (k : ℕ) → count (gone_hook was ∷ (numbers front ++ row.0 ∷ numbers back)) k
      + count (named_hook was ∷ numbers r.named) k ≤ 1
  two_once k = omega (arith, once k, counts_are k)

  two_linked : (k : ℕ) → 1 ≤ count (gone_hook was ∷ (numbers front ++ row.0 ∷ numbers back)) k
      + count (named_hook was ∷ numbers r.named) k → IsLinked was k
  two_linked k h = in_it k (omega (arith, h, counts_are k))

  gone_ring : Ring (next_of was) (numbers front ++ row.0 ∷ numbers back) (gone_hook was)
  gone_ring = subst (λ (l : List ℕ). Ring (next_of was) l (gone_hook was)) numbers_are has.gone

  all : AreKept was now
  all =
      all_kept was now (gone_hook was) row.0 (named_hook was) (numbers front) (numbers back) (numbers r.named) two_once
      two_linked gone_ring has.named moved

  other_stays : (hook : ℕ) (ws : List ℕ) →
      ((k : ℕ) → count (hook ∷ ws) k + (count (gone_hook was ∷ (numbers front ++ row.0 ∷ numbers back)) k
      + count (named_hook was ∷ numbers r.named) k) ≤ 1) →
      ((k : ℕ) → 1 ≤ count (hook ∷ ws) k → IsLinked was k) → Ring (next_of was) ws hook → Ring (next_of now) ws hook
  other_stays =
      now_else was now (gone_hook was) row.0 (named_hook was) (numbers front) (numbers back) (numbers r.named) two_once
      two_linked gone_ring has.named moved

  links_then : (ws : List ℕ) (hook : ℕ) → Ring (next_of now) ws hook → Ring (next_of end) ws hook
  links_then ws hook ring =
      stays (next_of now) (next_of end) ws hook hook
      (λ k h. λ i. get_or (links i).items (k - same.first i) 0) ring

  row_counts : 1 ≤ count (numbers (front ++ row ∷ back)) row.0
  row_counts =
      omega (
        arith,
        counts_are row.0,
        counts_both row.0 (numbers front) (row.0 ∷ numbers back),
        counts_first row.0 (numbers back),
      )

  row_mine : (was.first ≤ row.0) × (row.0 < was.first + was.rows)
  row_mine = has.mine row.0 (omega (arith, row_counts))

  lost_then : (k : ℕ) → lost_of end k ≡ get_or (set now.lost.items (row.0 - now.first) 0) (k - now.first) 0
  lost_then k = λ i. get_or (written i) (k - same.first i) 0

  lost_row : lost_of end row.0 ≡ 0
  lost_row = lost_then row.0 ∙ written_here now.lost.items now.first row.0 0 wide

  lost_else : (k : ℕ) → was.first ≤ k → k ≢ row.0 → lost_of end k ≡ lost_of was k
  lost_else k low other =
      lost_then k
      ∙ written_there now.lost.items now.first row.0 k 0 (omega (arith, row_mine, all.first))
      (omega (arith, low, all.first)) other
      ∙ lost_same was now all k

  sweeps_same : end.sweeps ≡ was.sweeps
  sweeps_same = same.sweeps ∙ all.sweeps

  buckets_then : (rows : List (ℕ × ℕ)) → HaveBuckets was rows → HaveBuckets end rows
  buckets_then rows h = buckets_same now (record end { lost = now.lost }) same rows (buckets_same was now all rows h)

  counts_split : (k : ℕ) → count (numbers (front ++ row ∷ back)) k
      ≡ count (numbers (front ++ back)) k + count (row.0 ∷ []) k
  counts_split k = omega (arith, counts_numbers front (row ∷ back) k, counts_numbers front back k)

  parted : (xs : List (ℕ × ℕ)) → HaveBuckets was (xs ++ row ∷ back) →
      (HaveBuckets was (xs ++ back)) × (bucket_of was row.0 ≡ row.1)
  parted [] h = (h.1, h.0)
  parted (x ∷ xs) h = (let p = parted xs h.1 in ((h.0, p.0), p.1))

  pub row_held : HasRows end (record r { named = r.named ++ row ∷ []; gone = front ++ back })
  row_held =
      linked_anew was end before (record r { named = r.named ++ row ∷ []; gone = front ++ back }) has
      (same.first ∙ all.first) (same.rows ∙ all.rows)
      (links_then r.free (free_hook was) (other_stays (free_hook was) r.free (λ k. omega (arith, once k, counts_are k))
      (λ k h. in_it k (omega (arith, h))) has.free))
      (subst (λ (ns : List ℕ). Ring (next_of end) ns (named_hook was)) (sym (numbers_both r.named (row ∷ [])))
      (links_then (numbers r.named ++ row.0 ∷ []) (named_hook was)
      (now_to was now (gone_hook was) row.0 (named_hook was) (numbers front) (numbers back) (numbers r.named) two_once
      two_linked gone_ring has.named moved)))
      (links_then (numbers r.todo) (todo_hook was)
      (other_stays (todo_hook was) (numbers r.todo) (λ k. omega (arith, once k, counts_are k))
      (λ k h. in_it k (omega (arith, h))) has.todo))
      (subst (λ (ns : List ℕ). Ring (next_of end) ns (gone_hook was)) (sym (numbers_both front back))
      (links_then (numbers front ++ numbers back) (gone_hook was)
      (now_from was now (gone_hook was) row.0 (named_hook was) (numbers front) (numbers back) (numbers r.named) two_once
      two_linked gone_ring has.named moved)))
      times_same
      (each-append (λ other. bucket_of end other.0 ≡ other.1) r.named (row ∷ [])
      (buckets_then r.named has.named_buckets)
      (buckets_then (row ∷ []) (row_bucket.1, tt)))
      (buckets_then r.todo has.todo_buckets) (buckets_then (front ++ back) row_bucket.0)
      (λ k h. generation_same now (record end { lost = now.lost }) same k ∙ generation_same was now all k
      ∙ has.generations k (omega (arith, h, times_same k)))
      (omega (arith, has.counted, sweeps_same)) early late only
    where
      row_bucket : (HaveBuckets was (front ++ back)) × (bucket_of was row.0 ≡ row.1)
      row_bucket = parted front has.gone_buckets

      times_same : (k : ℕ) → times (record r { named = r.named ++ row ∷ []; gone = front ++ back }) k ≡ times before k
      times_same k = omega (arith, counts_numbers r.named (row ∷ []) k, counts_split k)

      early : (k : ℕ) → was.first ≤ k → k < was.first + was.rows → lost_of end k ≤ end.sweeps
      early k low high = elim (cases_eq k row.0) [
        | inl is ↦ omega (arith, ap (lost_of end) is, lost_row)
        | inr other ↦ omega (arith, lost_else k low other, has.early k low high, sweeps_same)
      ]

      late : (k : ℕ) → 1 ≤ count (numbers (front ++ back)) k → lost_of end k ≡ end.sweeps
      late k h = elim (cases_eq k row.0) [
        | inl is ↦ absurd (omega (arith, h, once k, counts_split k, one_for row.0 k (sym is)))
        | inr other ↦ lost_else k (has.mine k (omega (arith, h, counts_split k))).0 other
            ∙ has.late k (omega (arith, h, counts_split k)) ∙ sym sweeps_same
      ]

      only : (k : ℕ) → was.first ≤ k → k < was.first + was.rows → lost_of end k ≡ end.sweeps →
          1 ≤ count (numbers (front ++ back)) k
      only k low high e = elim (cases_eq k row.0) [
        | inl is ↦ absurd (omega (arith, ap (lost_of end) is, lost_row, e, has.counted, sweeps_same))
        | inr other ↦ omega (
          arith,
          counts_split k,
          none_for row.0 k (λ e. other (sym e)),
          has.only k low high (sym (lost_else k low other) ∙ e ∙ sweeps_same),
        )
      ]

-- what stands before it in its ring
pub back_is : (o : OwnRows) (r : Rows) (front back : List (ℕ × ℕ)) (row : ℕ × ℕ) → IsSound o →
    HasRows o (record r { gone = front ++ row ∷ back }) → back_of o row.0 ≡ last_of (numbers front) (gone_hook o)
back_is o r front back row sound has =
    ap (back_of o) (sym (last_linked (next_of o) (numbers front) (gone_hook o) row.0
    (front_of (next_of o) (numbers front) (numbers back) (gone_hook o) row.0 (gone_hook o) ring)))
    ∙ sound.both (last_of (numbers front) (gone_hook o)) linked
  where
    ring : Ring (next_of o) (numbers front ++ row.0 ∷ numbers back) (gone_hook o)
    ring = subst (λ (l : List ℕ). Ring (next_of o) l (gone_hook o)) (numbers_both front (row ∷ back)) has.gone

    linked : IsLinked o (last_of (numbers front) (gone_hook o))
    linked =
        ringed_linked o (record r { gone = front ++ row ∷ back }) has (last_of (numbers front) (gone_hook o))
        (omega (
          arith,
          counts_last (numbers front) (gone_hook o),
          counts_numbers front (row ∷ back) (last_of (numbers front) (gone_hook o)),
        ))

-- a row that is held and gone stays named
pub held_named : (was now end : OwnRows) (r : Rows) (held : ℕ) (f : Found held r.gone)
    (has : HasRows was (record r { gone = f.front ++ f.row ∷ f.back })) →
    AreMoved was now (last_of (numbers f.front) (gone_hook was)) f.row.0 (named_hook was) →
    AreKept now (record end { lost = now.lost }) → end.next ≡ now.next →
    f.row.0 - now.first < length now.lost.items →
    end.lost.items ≡ set now.lost.items (f.row.0 - now.first) 0 →
    HasRows end (record r { named = r.named ++ alone held r.gone; gone = without held r.gone })
held_named was now end r held f has moved same links wide written =
    subst
    (λ (p : List (ℕ × ℕ) × List (ℕ × ℕ)). HasRows end (record r { named = r.named ++ p.0; gone = p.1 }))
    (λ i. (sym f.alone_is i, sym f.without_is i))
    (row_held was now end r f.front f.back f.row has moved same links wide written)
