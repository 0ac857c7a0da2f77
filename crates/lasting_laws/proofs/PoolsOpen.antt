-- The pools of a table that is opened; so those of every run, in which no two buckets have one row and no update is
-- refused.
use Rattle.std.proofs.Common.{◌≡◌, ◌≢◌, ℕ, zero, suc, ◌+◌, ◌-◌, ◌*◌, ◌/◌, ◌%◌, ◌^◌, ◌<◌, ◌≤◌, ◌⊎◌, inl, inr, Bool, cond, List, [], ◌∷◌, map, length, get_or, drop, refl, sym, ap, ◌∙◌, subst, arith, lt-ltb}
use Rattle.std.specs.Prelude.{◌==◌, fold}
use Rattle.std.specs.List.{range_with_len}
use Rattle.std.proofs.lemmas.Bool.{cases_eq, cases_lt, eq-eqb, ne_eqb}
use Rattle.std.proofs.lemmas.Nat.{div-add-mod'}
use Rattle.std.proofs.lemmas.List.Elements.{All-nil}
use Rattle.std.proofs.Math.Nat.{div-lt_iff_lt-mul, div-eq_of_lt-le, mul-le-mul, mod-lt}
use Rattle.list_laws.proofs.Lists.{In}
use Rattle.list_laws.proofs.Totals.{many, one_if}
use Rattle.lasting_model.specs.Plans.{Plan, IsPlan, buckets_of}
use Rattle.lasting_model.specs.Codes.{row_in}
use Rattle.lasting_model.specs.Words.{first_row}
use Rattle.lasting_model.specs.Laws.{BucketsAreApart, NoneIsRefused, IsTaken}
use Rattle.lasting_model.specs.Steps.{SeatNow}
use Rattle.lasting_model.specs.Worlds.{Lasting, Answer, Event, AreEvents, IsRun, opening_world, opening_seat, opening_store, opening_row, opening_count, opening_named, all_rows, world_after, happens, seat_in, nobody}
use Rattle.lasting_laws.proofs.Words.{row_of_tag}
use Rattle.lasting_laws.proofs.Pools.{owner_in, todo_of, gone_of, is_row, has_row, times, PoolOf, word_in, Placed, Pools, in_many, single}
use Rattle.lasting_laws.proofs.PoolEvents.{pools_keep}

-- ---- numbers that follow each other

abbrev flag : Bool → ℕ
flag b = cond b 1 0

pub length_range : (a n : ℕ) → length (range_with_len a n) ≡ n
length_range a zero = refl
length_range a (suc n) = ap suc (length_range (a + 1) n)

length_mapped : {A : Type 0} (f : ℕ → A) (xs : List ℕ) → length (map f xs) ≡ length xs
length_mapped f [] = refl
length_mapped f (x ∷ xs) = ap suc (length_mapped f xs)

-- all but the first are those from there on
drop_range : (k a n : ℕ) → drop k (range_with_len a (k + n)) ≡ range_with_len (a + k) n
drop_range zero a n =
    (let e : a ≡ a + 0 = omega arith in
    let none : 0 + n ≡ n = omega arith in
    (λ i. range_with_len (e i) (none i)))
drop_range (suc k) a n =
    (let more : suc k + n ≡ suc (k + n) = omega arith in
    let up : a + 1 + k ≡ a + suc k = omega arith in
    ap (λ m. drop (suc k) (range_with_len a m)) more ∙ drop_range k (a + 1) n ∙ ap (λ b. range_with_len b n) up)

-- a number that is none of them does not stand there
outside : (row a n : ℕ) → (row < a) ⊎ (a + n ≤ row) → many (is_row row) (range_with_len a n) ≡ 0
outside row a zero o = refl
outside row a (suc n) o =
    (let other : a ≢ row = λ e. elim o [ inl l ↦ omega (arith, l, e) | inr g ↦ omega (arith, g, e) ] in
    let none : one_if (is_row row) a ≡ 0 = ap flag (ne_eqb a row other) in
    let rest = outside row (a + 1) n (elim o [ inl l ↦ inl (omega (arith, l)) | inr g ↦ inr (omega (arith, g)) ]) in
    omega (arith, none, rest))

-- and one of them stands there once
within : (row a n : ℕ) → a ≤ row → row < a + n → many (is_row row) (range_with_len a n) ≡ 1
within row a zero low high = absurd (omega (arith, low, high))
within row a (suc n) low high = elim (cases_eq a row) [
  | inl e ↦
      let one : one_if (is_row row) a ≡ 1 = ap flag (eq-eqb a row e) in
      omega (arith, one, outside row (a + 1) n (inl (omega (arith, e))))
  | inr d ↦
      let none : one_if (is_row row) a ≡ 0 = ap flag (ne_eqb a row d) in
      omega (arith, none, within row (a + 1) n (omega (arith, low, d)) (omega (arith, high)))
]

-- rows with buckets beside them
many_named : (row a : ℕ) (g : ℕ → ℕ) (s n : ℕ) →
    many (has_row row) (map (λ i. (a + i, g i)) (range_with_len s n)) ≡ many (is_row row) (range_with_len (a + s) n)
many_named row a g s zero = refl
many_named row a g s (suc n) =
    (let up : a + (s + 1) ≡ a + s + 1 = omega arith in
    let rest = many_named row a g (s + 1) n ∙ ap (λ b. many (is_row row) (range_with_len b n)) up in
    ap (λ m. one_if (is_row row) (a + s) + m) rest)

-- what stands at a place, and which stand there
pub at_range : {A : Type 0} (f : ℕ → A) (s n i : ℕ) (d : A) → i < n → get_or (map f (range_with_len s n)) i d ≡ f
    (s + i)
at_range f s zero i d h = absurd (omega (arith, h))
at_range f s (suc n) zero d h = (let e : s ≡ s + 0 = omega arith in ap f e)
at_range f s (suc n) (suc i) d h =
    (let e : s + 1 + i ≡ s + suc i = omega arith in at_range f (s + 1) n i d (omega (arith, h)) ∙ ap f e)

in_range : {A : Type 0} (f : ℕ → A) (s n i : ℕ) → s ≤ i → i < s + n → In (f i) (map f (range_with_len s n))
in_range f s zero i low high = absurd (omega (arith, low, high))
in_range f s (suc n) i low high = elim (cases_eq i s) [
  | inl e ↦ inl (ap f e)
  | inr d ↦ inr (in_range f (s + 1) n i (omega (arith, low, d)) (omega (arith, high)))
]

pub of_range : {A : Type 0} (f : ℕ → A) (s n : ℕ) (r : A) → In r (map f (range_with_len s n)) →
    (i : ℕ) × (i < s + n) × (r ≡ f i)
of_range f s zero r i = absurd i
of_range f s (suc n) r (inl e) = (s, omega arith, e)
of_range f s (suc n) r (inr i) =
    (let z = of_range f (s + 1) n r i in (z.0, omega (arith, z.1), z.2))

-- ---- the opening

module _ (plan : Plan) (is : IsPlan plan) where
  abbrev n : ℕ
  n = plan.settings.seats

  abbrev buckets : ℕ
  buckets = buckets_of plan.settings

  some_seats : 0 < n
  some_seats = omega (arith, plan.settings.seats_in_range.0)

  module _ (p : ℕ) (inside : p < n) where
    abbrev pub count : ℕ
    count = opening_count plan p

    -- it has no more rows in use than there are buckets
    count_few : count ≤ buckets
    count_few =
        let one : 1 ≤ n = some_seats in
        let same : buckets ≤ buckets = omega arith in
        let most : buckets * 1 ≤ buckets * n = mul-le-mul same one in
        let below : buckets + (n - 1 - p) < (buckets + 1) * n = omega (arith, most, inside) in
        let less : count < buckets + 1 =
        (div-lt_iff_lt-mul {k = n} {x = buckets + (n - 1 - p)} {y = buckets + 1} some_seats).1 below in
        omega (arith, less)

    pub fits : count ≤ plan.rows
    fits = omega (arith, count_few, is.rows)

    -- the bucket of each is one that there is, and each bucket of the seat is among them
    bucket_below : (i : ℕ) → i < count → i * n + p < buckets
    bucket_below i less = elim (cases_lt (i * n + p) buckets) [
      | inl l ↦ l
      | inr g ↦
          let below : buckets + (n - 1 - p) < (i + 1) * n = omega (arith, g, inside) in
          let few : count < i + 1 =
          (div-lt_iff_lt-mul {k = n} {x = buckets + (n - 1 - p)} {y = i + 1} some_seats).1 below in
          absurd (omega (arith, few, less))
    ]

    counted : (i : ℕ) → i * n + p < buckets → i < count
    counted i less = elim (cases_lt i count) [
      | inl l ↦ l
      | inr g ↦
          let few : count < i + 1 = omega (arith, g) in
          let below : buckets + (n - 1 - p) < (i + 1) * n =
          (div-lt_iff_lt-mul {k = n} {x = buckets + (n - 1 - p)} {y = i + 1} some_seats).0 few in
          absurd (omega (arith, below, less, inside))
    ]

    abbrev first : ℕ
    first = first_row plan p

    free_is : drop count (all_rows plan p) ≡ range_with_len (first + count) (plan.rows - count)
    free_is =
        let e : plan.rows ≡ count + (plan.rows - count) = omega (arith, fits) in
        ap (λ m. drop count (range_with_len first m)) e ∙ drop_range count first (plan.rows - count)

    -- whose a row is
    own : (row : ℕ) → first ≤ row → row < first + plan.rows → owner_in plan row ≡ p
    own row low high = div-eq_of_lt-le plan.rows low (omega (arith, high))

    not_own : (row : ℕ) → (row < first) ⊎ (first + plan.rows ≤ row) → owner_in plan row ≢ p
    not_own row o e =
        let cut = div-add-mod' row plan.rows in
        let rest : row % plan.rows < plan.rows = mod-lt row (omega (arith, is.rows, some_seats)) in
        let start : row / plan.rows * plan.rows ≡ first = ap (λ k. k * plan.rows) e in
        elim o [ inl l ↦ omega (arith, l, cut, start) | inr g ↦ omega (arith, g, cut, start, rest) ]

    once : (row : ℕ) →
        times row (drop count (all_rows plan p)) (opening_named plan p) [] [] ≡ cond (owner_in plan row == p) 1 0
    once row =
        let front = many_named row first (λ i. i * n + p) 0 count in
        let back = ap (λ xs. many (is_row row) xs) free_is in
        let none : first + 0 ≡ first = omega arith in
        let same : many (is_row row) (range_with_len (first + 0) count) ≡ many (is_row row)
        (range_with_len first count) =
        ap (λ b. many (is_row row) (range_with_len b count)) none in
        elim (cases_lt row first) [
          | inl l ↦
              let zero_is : flag (owner_in plan row == p) ≡ 0 = ap flag
              (ne_eqb (owner_in plan row) p (not_own row (inl l))) in
              omega (
                arith,
                front,
                back,
                same,
                zero_is,
                outside row first count (inl l),
                outside row (first + count) (plan.rows - count) (inl (omega (arith, l))),
              )
          | inr g ↦ elim (cases_lt row (first + count)) [
            | inl l ↦
                let one_is : flag (owner_in plan row == p) ≡ 1 =
                ap flag (eq-eqb (owner_in plan row) p (own row g (omega (arith, l, fits)))) in
                omega (
                  arith,
                  front,
                  back,
                  same,
                  one_is,
                  within row first count g l,
                  outside row (first + count) (plan.rows - count) (inl l),
                )
            | inr m ↦ elim (cases_lt row (first + plan.rows)) [
              | inl l ↦
                  let one_is : flag (owner_in plan row == p) ≡ 1 =
                  ap flag (eq-eqb (owner_in plan row) p (own row g l)) in
                  omega (
                    arith,
                    front,
                    back,
                    same,
                    one_is,
                    outside row first count (inr m),
                    within row (first + count) (plan.rows - count) m (omega (arith, l, fits)),
                  )
              | inr o ↦
                  let zero_is : flag (owner_in plan row == p) ≡ 0 =
                  ap flag (ne_eqb (owner_in plan row) p (not_own row (inr o))) in
                  omega (
                    arith,
                    front,
                    back,
                    same,
                    zero_is,
                    outside row first count (inr m),
                    outside row (first + count) (plan.rows - count) (inr (omega (arith, o, fits))),
                  )
            ]
          ]
        ]

    named_long : length (opening_named plan p) ≡ count
    named_long =
        length_mapped (λ i. (first_row plan p + i, i * n + p)) (range_with_len 0 count) ∙ length_range 0 count

    free_long : length (drop count (all_rows plan p)) ≡ plan.rows - count
    free_long = ap (λ (xs : List ℕ). length xs) free_is ∙ length_range (first + count) (plan.rows - count)

    -- the pool of the seat
    pub opened : (word : ℕ → ℕ) → PoolOf plan word p (opening_seat plan p)
    opened word = record {
      lists = record {
        once = once;
        all = omega (arith, named_long, free_long, fits);
        homes = λ r i. elim i [
          | inl a ↦
              let z = of_range (λ i. (first_row plan p + i, i * n + p)) 0 count r a in
              subst (λ (y : ℕ × ℕ). y.1 < buckets) (sym z.2) (bucket_below z.0 (omega (arith, z.1)))
          | inr a ↦ elim a [ inl b ↦ absurd b | inr b ↦ absurd b ]
        ];
        left = λ r i. absurd i;
      };
      room = omega (arith, named_long, count_few, some_seats);
      row = tt;
    }

  abbrev x : Lasting
  x = opening_world plan

  pub seat_is : (p : ℕ) → p < n → seat_in x p ≡ opening_seat plan p
  seat_is p inside =
      (let e : 0 + p ≡ p = omega arith in at_range (opening_seat plan) 0 n p nobody inside ∙ ap (opening_seat plan) e)

  module _ (b : ℕ) (less : b < buckets) where
    abbrev p : ℕ
    p = b % n

    abbrev j : ℕ
    j = b / n

    pub p_inside : p < n
    p_inside = mod-lt b some_seats

    b_is : j * n + p ≡ b
    b_is = div-add-mod' b n

    pub j_counted : j < opening_count plan p
    j_counted = counted p p_inside j (omega (arith, b_is, less))

    row_owner : owner_in plan (opening_row plan b) ≡ p
    row_owner = own p p_inside (opening_row plan b) (omega arith) (omega (arith, j_counted, fits p p_inside))

    pub row_small : opening_row plan b < 2 ^ 17
    row_small =
        let some : 0 < plan.rows = omega (arith, is.rows, some_seats) in
        let below : opening_row plan b < n * plan.rows =
        (div-lt_iff_lt-mul {k = plan.rows} {x = opening_row plan b} {y = n} some).0
        (omega (arith, row_owner, p_inside)) in
        let most : n * plan.rows ≤ 8 * 2 ^ 14 = mul-le-mul plan.settings.seats_in_range.1 is.few in
        omega (arith, below, most)

    pub word_is : word_in x b ≡ opening_row plan b
    unfolding opening_store
    word_is =
        ap (λ (c : Bool). row_in (cond c (0 * 2 ^ 17 + opening_row plan b) 0)) (lt-ltb b buckets less)
        ∙ row_of_tag 0 (opening_row plan b) row_small

    pub placed_first : Placed plan x b
    placed_first =
        let stands : In (opening_row plan b, b) (seat_in x p).named =
        subst (λ (s : SeatNow). In (opening_row plan b, b) s.named) (sym (seat_is p p_inside))
        (subst (λ k. In (opening_row plan b, k) (opening_named plan p)) b_is
        (in_range (λ i. (first_row plan p + i, i * n + p)) 0 (opening_count plan p) j (omega arith)
        (omega (arith, j_counted)))) in
        record {
          owned = subst (λ q. q < n) (sym (ap (owner_in plan) word_is ∙ row_owner)) p_inside;
          is = subst (λ q. In (word_in x b, b) (seat_in x q).named ⊎ In (word_in x b, b) (todo_of (seat_in x q).sweep))
              (sym (ap (owner_in plan) word_is ∙ row_owner))
              (inl (subst (λ r. In (r, b) (seat_in x p).named) (sym word_is) stands));
        }

  pub pools_open : Pools plan x
  pools_open = record {
    long = length_mapped (opening_seat plan) (range_with_len 0 n) ∙ length_range 0 n;
    seats = λ q less. subst (PoolOf plan (word_in x) q) (sym (seat_is q less)) (opened q less (word_in x));
    placed = placed_first;
    taken = All-nil (λ (a : Answer). IsTaken a.told);
  }

-- ---- runs

pools_follow : (plan : Plan) → IsPlan plan → (events : List Event) (x : Lasting) → Pools plan x →
    AreEvents plan x events →
    Pools plan (fold (happens plan) x events)
pools_follow plan is [] x h follow = h
pools_follow plan is (event ∷ events) x h follow =
    pools_follow plan is events (happens plan x event) (pools_keep plan is x h event follow.0) follow.1

-- THE RESULT: of each run
pub pools_hold : (plan : Plan) (events : List Event) → IsRun plan events → Pools plan (world_after plan events)
pools_hold plan events run =
    pools_follow plan run.opened events (opening_world plan) (pools_open plan run.opened) run.follow

-- no update is refused
pub none_is_refused : NoneIsRefused
none_is_refused plan events run = (pools_hold plan events run).taken

-- a row that stands with two buckets is counted twice
in_twice : (r a b : ℕ) (rows : List (ℕ × ℕ)) → a ≢ b → In (r, a) rows → In (r, b) rows → 2 ≤ many (has_row r) rows
in_twice r a b [] other i j = absurd i
in_twice r a b (y ∷ rows) other (inl e) (inl f) = absurd (other (ap (λ (z : ℕ × ℕ). z.1) (e ∙ sym f)))
in_twice r a b (y ∷ rows) other (inl e) (inr j) =
    (let one : one_if (has_row r) y ≡ 1 = ap flag (eq-eqb (y.0) r (ap (λ (z : ℕ × ℕ). z.0) (sym e))) in
    omega (arith, one, in_many (r, b) rows j))
in_twice r a b (y ∷ rows) other (inr i) (inl f) =
    (let one : one_if (has_row r) y ≡ 1 = ap flag (eq-eqb (y.0) r (ap (λ (z : ℕ × ℕ). z.0) (sym f))) in
    omega (arith, one, in_many (r, a) rows i))
in_twice r a b (y ∷ rows) other (inr i) (inr j) = omega (arith, in_twice r a b rows other i j)

-- no two buckets have one row
pub apart : (plan : Plan) (x : Lasting) → Pools plan x → (a b : ℕ) → a < buckets_of plan.settings →
    b < buckets_of plan.settings → word_in x a ≡ word_in x b → a ≡ b
apart plan x h a b less few same = elim (cases_eq a b) [
  | inl e ↦ e
  | inr other ↦
      let r : ℕ = word_in x a in
      let s : SeatNow = seat_in x (owner_in plan r) in
      let pa = h.placed a less in
      let pb = h.placed b few in
      let ib : In (r, b) s.named ⊎ In (r, b) (todo_of s.sweep) =
      subst (λ q. (let t = seat_in x (owner_in plan q) in In (q, b) t.named ⊎ In (q, b) (todo_of t.sweep))) (sym same)
      pb.is in
      let lists = (h.seats (owner_in plan r) pa.owned).lists in
      let most = single plan (word_in x) (owner_in plan r) s.free s.named (todo_of s.sweep) (gone_of s.sweep) lists r in
      elim pa.is [
        | inl i ↦ elim ib [
          | inl j ↦ absurd (omega (arith, most, in_twice r a b s.named other i j))
          | inr j ↦ absurd (omega (arith, most, in_many (r, a) s.named i, in_many (r, b) (todo_of s.sweep) j))
        ]
        | inr i ↦ elim ib [
          | inl j ↦ absurd (omega (arith, most, in_many (r, b) s.named j, in_many (r, a) (todo_of s.sweep) i))
          | inr j ↦ absurd (omega (arith, most, in_twice r a b (todo_of s.sweep) other i j))
        ]
      ]
]

pub buckets_are_apart : BucketsAreApart
buckets_are_apart plan events a b run less few same =
    apart plan (world_after plan events) (pools_hold plan events run) a b less few same
