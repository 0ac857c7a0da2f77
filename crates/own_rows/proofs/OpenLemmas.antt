-- The rows of a seat while its table is opened.
use Rattle.std.proofs.Common.{◌≡◌, ℕ, zero, suc, ◌+◌, ◌-◌, ◌*◌, ◌<◌, ◌≤◌, ◌∙◌, List, [], ◌∷◌, ◌++◌, map, length, drop, get_or, set, refl, inl, inr, sym, ap, subst, arith}
use Rattle.std.specs.List.{range_with_len}
use Rattle.std.proofs.lemmas.Bool.{cases_eq}
use Rattle.std.proofs.lemmas.List.{get_or-set_same, get_or-set_other}
use Rattle.std.proofs.lemmas.List.FromFn.{map-range_with_len_more}
use Rattle.own_rows.specs.declared.rows.OwnRows.{OwnRows}
use Rattle.own_rows.specs.Opening.{AreOpened, IsAdded, IsUnused, opening_so_far}
use Rattle.own_rows.specs.Rings.{count, numbers}
use Rattle.own_rows.specs.Rows.{HasOpened, HasRows, IsSound, generation_of}
use Rattle.own_rows.proofs.RingLemmas.{none_for}

-- one number more
pub one_more : (xs : List ℕ) (i first : ℕ) → i < length xs → ((k : ℕ) → k < i → get_or xs k 0 ≡ first + k) →
    (k : ℕ) → k < i + 1 → get_or (set xs i (first + i)) k 0 ≡ first + k
one_more xs i first inside before k less = elim (cases_eq k i) [
  | inl is ↦ ap (λ (j : ℕ). get_or (set xs i (first + i)) j 0) is ∙ get_or-set_same xs i (first + i) 0 inside
      ∙ ap (λ (j : ℕ). first + j) (sym is)
  | inr other ↦ get_or-set_other xs i k (first + i) 0 other ∙ before k (omega (arith, less, other))
]

-- a range with one number more
pub range_more : (a n : ℕ) → range_with_len a (n + 1) ≡ range_with_len a n ++ (a + n) ∷ []
range_more a zero = let e : a ≡ a + 0 = omega arith in ap (λ (k : ℕ). k ∷ []) e
range_more a (suc n) =
    let e : a + 1 + n ≡ a + suc n = omega arith in
    let more : suc n + 1 ≡ suc (n + 1) = omega arith in
    ap (range_with_len a) more
    ∙ ap (λ (xs : List ℕ). a ∷ xs) (range_more (a + 1) n ∙ ap (λ (k : ℕ). range_with_len (a + 1) n ++ k ∷ []) e)

-- the numbers of a range end before others
range_without : (a n k : ℕ) → a + n ≤ k → count (range_with_len a n) k ≡ 0
range_without a zero k h = refl
range_without a (suc n) k h =
    omega (arith, none_for a k (λ e. omega (arith, e, h)), range_without (a + 1) n k (omega (arith, h)))

-- the named rows, too
named_without : (first seats seat a n k : ℕ) → first + a + n ≤ k →
    count (numbers (map (λ i. (first + i, i * seats + seat)) (range_with_len a n))) k ≡ 0
named_without first seats seat a zero k h = refl
named_without first seats seat a (suc n) k h =
    omega (
      arith,
      none_for (first + a) k (λ e. omega (arith, e, h)),
      named_without first seats seat (a + 1) n k (omega (arith, h)),
    )

module _ (first rows named seats seat free : ℕ) (o : OwnRows) (at : AreOpened first rows named seats seat free o) where
  -- the next row is in no list
  pub next_unused : (row : ℕ) → row ≡ first + named + free → row < first + rows →
      IsUnused o (opening_so_far first named seats seat free) row
  next_unused row is inside = record {
    low = omega (arith, is, at.first_is);
    high = omega (arith, inside, at.first_is, at.rows_are);
    alone = at.alone row (omega (arith, is)) inside;
    new = omega (
      arith,
      range_without (first + named) free row (omega (arith, is)),
      named_without first seats seat 0 named row (omega (arith, is)),
    );
    generation = at.zero row;
  }

  -- it is free
  pub more_free : (now : OwnRows) (row : ℕ) → row ≡ first + named + free → row < first + rows → IsSound now →
      IsAdded o now (opening_so_far first named seats seat free) row →
      HasRows now (record (opening_so_far first named seats seat free) {
        free = range_with_len (first + named) free ++ row ∷ [];
      }) → AreOpened first rows named seats seat (free + 1) now
  more_free now row is inside sound added has = record {
    sound = sound;
    has = subst
        (λ (f : List ℕ). HasRows now (record (opening_so_far first named seats seat free) { free = f }))
        (ap (λ (k : ℕ). range_with_len (first + named) free ++ k ∷ []) is ∙ sym (range_more (first + named) free)) has;
    first_is = added.first ∙ at.first_is;
    rows_are = added.rows ∙ at.rows_are;
    sweeps = added.sweeps ∙ at.sweeps;
    zero = λ k. zero_still k;
    alone = λ k low high. added.alone at.has k (omega (arith, low, at.first_is))
        (omega (arith, high, at.first_is, at.rows_are)) (λ e. omega (arith, e, low, is))
        (at.alone k (omega (arith, low)) high);
  }
    where
      zero_still : (k : ℕ) → generation_of now k ≡ 0
      zero_still k = (λ i. get_or (added.generations i).items (k - added.first i) 0) ∙ at.zero k

-- or named
pub more_named : (first rows named seats seat : ℕ) (o now : OwnRows) (row bucket : ℕ) →
    AreOpened first rows named seats seat 0 o → row ≡ first + named → bucket ≡ named * seats + seat →
    row < first + rows → IsSound now → IsAdded o now (opening_so_far first named seats seat 0) row →
    HasRows now (record (opening_so_far first named seats seat 0) {
      named = map (λ i. (first + i, i * seats + seat)) (range_with_len 0 named) ++ (row, bucket) ∷ [];
    }) → AreOpened first rows (named + 1) seats seat 0 now
more_named first rows named seats seat o now row bucket at is bucket_is inside sound added has = record {
  sound = sound;
  has = subst
      (λ (n : List (ℕ × ℕ)). HasRows now (record (opening_so_far first named seats seat 0) { named = n }))
      ((λ i. map (λ j. (first + j, j * seats + seat)) (range_with_len 0 named) ++ (is i, bucket_is i) ∷ [])
      ∙ sym (map-range_with_len_more (λ j. (first + j, j * seats + seat)) 0 named named (omega arith))) has;
  first_is = added.first ∙ at.first_is;
  rows_are = added.rows ∙ at.rows_are;
  sweeps = added.sweeps ∙ at.sweeps;
  zero = λ k. (λ i. get_or (added.generations i).items (k - added.first i) 0) ∙ at.zero k;
  alone = λ k low high. added.alone at.has k (omega (arith, low, at.first_is))
      (omega (arith, high, at.first_is, at.rows_are)) (λ e. omega (arith, e, low, is))
      (at.alone k (omega (arith, low)) high);
}

-- the end of a range
drop_range : (a n m : ℕ) → drop n (range_with_len a (n + m)) ≡ range_with_len (a + n) m
drop_range a zero m =
    let e : zero + m ≡ m = omega arith in
    let f : a ≡ a + zero = omega arith in ap (range_with_len a) e ∙ ap (λ (k : ℕ). range_with_len k m) f
drop_range a (suc n) m =
    let e : suc n + m ≡ suc (n + m) = omega arith in
    let f : a + 1 + n ≡ a + suc n = omega arith in
    ap (λ (k : ℕ). drop (suc n) (range_with_len a k)) e ∙ drop_range (a + 1) n m
    ∙ ap (λ (k : ℕ). range_with_len k m) f

-- all rows are named or free
pub all_opened : (first rows named seats seat free : ℕ) (o : OwnRows) → named + free ≡ rows →
    AreOpened first rows named seats seat free o → HasOpened first rows named seats seat o
all_opened first rows named seats seat free o all at = record {
  sound = at.sound;
  has = subst
      (λ (f : List ℕ). HasRows o (record (opening_so_far first named seats seat free) { free = f }))
      (sym (drop_range first named free) ∙ ap (λ (n : ℕ). drop named (range_with_len first n)) all) at.has;
  first_is = at.first_is;
  rows_are = at.rows_are;
  sweeps = at.sweeps;
}
