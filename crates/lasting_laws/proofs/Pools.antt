-- The rows of a seat: each stands once, free, named, or taken up by a sweep; and there are always enough of them. What
-- is said here is said of one seat and of the bucket words, and not of the ghost.
use Rattle.std.proofs.Common.{◌≡◌, ◌≢◌, ℕ, zero, suc, ◌+◌, ◌-◌, ◌*◌, ◌/◌, ◌<◌, ◌≤◌, ◌⊎◌, inl, inr, Bool, true, false, cond, not, List, [], ◌∷◌, ◌++◌, length, get_or, Option, Some, None, refl, sym, ap, ◌∙◌, subst, arith}
use Rattle.std.specs.Prelude.{◌==◌, filter, All}
use Rattle.std.proofs.lemmas.Bool.{cases_eq, eq-eqb, eqb-true}
use Rattle.std.proofs.lemmas.List.{length-append}
use Rattle.list_laws.proofs.Lists.{In, in_both, in_filter}
use Rattle.list_laws.proofs.Totals.{total, one_if, many, total-append, total-ones}
use Rattle.list_laws.proofs.Pigeons.{pigeons, passing_most}
use Rattle.lasting_model.specs.Plans.{Plan, PIECE, buckets_of}
use Rattle.lasting_model.specs.Codes.{row_in}
use Rattle.lasting_model.specs.Laws.{IsTaken}
use Rattle.lasting_model.specs.Steps as S
use Rattle.lasting_model.specs.Steps.{Step, Stand, Sweep, SeatNow}
use Rattle.lasting_model.specs.Goes.{without, alone, rows_of}
use Rattle.lasting_model.specs.Worlds as L
use Rattle.lasting_model.specs.Worlds.{Lasting, Answer}

-- ---- what is said

-- the seat whose row it is
abbrev pub owner_in : Plan → (row : ℕ) → ℕ
owner_in plan row = row / plan.rows

-- the rows that a sweep has still to look at, and those that are gone from their bucket words
abbrev pub todo_of : Option Sweep → List (ℕ × ℕ)
todo_of None = []
todo_of (Some (S.Homes todo gone)) = todo
todo_of (Some (S.Seats k gone)) = []
todo_of (Some (S.Sees k t gone)) = []
todo_of (Some (S.Loads k t bucket gone)) = []
todo_of (Some (S.Gives k t row gone)) = []

abbrev pub gone_of : Option Sweep → List (ℕ × ℕ)
gone_of None = []
gone_of (Some (S.Homes todo gone)) = gone
gone_of (Some (S.Seats k gone)) = gone
gone_of (Some (S.Sees k t gone)) = gone
gone_of (Some (S.Loads k t bucket gone)) = gone
gone_of (Some (S.Gives k t row gone)) = gone

-- how often a row stands in these lists
abbrev pub is_row : (row other : ℕ) → Bool
is_row row other = other == row

abbrev pub has_row : (row : ℕ) → (other : ℕ × ℕ) → Bool
has_row row other = other.0 == row

abbrev pub times : (row : ℕ) → (free : List ℕ) → (named todo gone : List (ℕ × ℕ)) → ℕ
times row free named todo gone =
    many (is_row row) free
    + (many (has_row row) named + (many (has_row row) todo + many (has_row row) gone))

-- each row of the seat stands once, and no other does; each that was named was named in the word of a bucket; and what
-- is gone is not in that word any more
pub record Lists (plan : Plan) (word : ℕ → ℕ) (p : ℕ) (free : List ℕ) (named todo gone : List (ℕ × ℕ)) : Type 0 where
  pub once : (row : ℕ) → times row free named todo gone ≡ cond (owner_in plan row == p) 1 0
  pub all : length free + (length named + (length todo + length gone)) ≡ plan.rows
  pub homes : (r : ℕ × ℕ) → In r named ⊎ (In r todo ⊎ In r gone) → r.1 < buckets_of plan.settings
  pub left : (r : ℕ × ℕ) → In r gone → word r.1 ≢ r.0

-- no bucket stands twice among these
abbrev pub Distinct : List ℕ → Type 0
Distinct [] = Unit {0}
Distinct (x ∷ xs) = (In x xs → ⊥) × Distinct xs

-- the buckets and the seats
abbrev pub places : Plan → ℕ
places plan = buckets_of plan.settings + plan.settings.seats

-- whether a row is still to be published by the update in flight; and how many rows of its piece it has looked at, 3
-- once it has gone on to its op
abbrev pub needs_at : Step → ℕ
needs_at S.StoreWant = 0
needs_at S.StoreAsking = 0
needs_at S.HeldWord = 0
needs_at (S.TakeHold word) = 0
needs_at (S.HeldNumber row) = 0
needs_at (S.HeldReply row) = 0
needs_at S.Stuck = 0
needs_at step = 1

abbrev pub spent_at : Step → ℕ
spent_at (S.Sweeps rows) = PIECE - rows
spent_at step = PIECE * needs_at step

-- and whether one has to be free for it
abbrev pub rows_at : Step → ℕ
rows_at (S.Sweeps rows) = 0
rows_at step = needs_at step

abbrev pub needs : Stand → ℕ
needs S.Idle = 0
needs (S.Goes u step) = needs_at step
needs (S.Glances aim glance) = 0

abbrev pub spent : Stand → ℕ
spent S.Idle = 0
spent (S.Goes u step) = spent_at step
spent (S.Glances aim glance) = 0

-- while a sweep looks at own rows: these buckets have a row of the seat that stood in their words, and so many rows
-- were named since it began
pub record HomesRoom (plan : Plan) (word : ℕ → ℕ) (named todo gone : List (ℕ × ℕ)) (spent : ℕ) : Type 0 where
  pub kept : List ℕ
  pub since : ℕ
  pub named_are : length named ≡ length kept + since
  pub inside : (b : ℕ) → In b kept → b < buckets_of plan.settings
  pub once : Distinct kept
  pub replaced : (r : ℕ × ℕ) → In r todo → In r.1 kept → word r.1 ≢ r.0
  pub start : 2 * (length todo + (length gone + length kept)) + 1 ≤ 3 * places plan
  pub slow : 3 * since + spent ≤ length gone + length kept

-- while it looks at the hold words: so many stood in bucket words, so many are held, so many were named since it began
pub record SeatsRoom (plan : Plan) (own : ℕ) (named : List (ℕ × ℕ)) (k : ℕ) : Type 0 where
  pub kept : ℕ
  pub held : ℕ
  pub since : ℕ
  pub named_are : length named ≡ kept + (held + since)
  pub few : kept ≤ buckets_of plan.settings
  pub slow : 2 * since + 1 ≤ places plan
  pub within : k ≤ plan.settings.seats
  pub each_one : held ≤ k
  pub past_own : own < k → held + 1 ≤ k

abbrev pub IsSweeping : Stand → Type 0
IsSweeping (S.Goes u (S.Sweeps rows)) = Unit {0}
IsSweeping stand = ⊥

-- one other seat is next
abbrev pub NextSeat : (plan : Plan) (own : ℕ) → List (ℕ × ℕ) → (k : ℕ) → Type 0
NextSeat plan own named k = SeatsRoom plan own named k × (k < plan.settings.seats) × (k ≢ own)

abbrev pub Room : (plan : Plan) (word : ℕ → ℕ) (own : ℕ) → List (ℕ × ℕ) → Option Sweep → Stand → Type 0
Room plan word own named None stand = 2 * (length named + needs stand) + 1 ≤ 3 * places plan
Room plan word own named (Some (S.Homes todo gone)) stand =
    HomesRoom plan word named todo gone (spent stand) × (1 ≤ length todo)
Room plan word own named (Some (S.Seats k gone)) stand = NextSeat plan own named k × IsSweeping stand
Room plan word own named (Some (S.Sees k t gone)) stand = NextSeat plan own named k × IsSweeping stand
Room plan word own named (Some (S.Loads k t bucket gone)) stand = NextSeat plan own named k × IsSweeping stand
Room plan word own named (Some (S.Gives k t row gone)) stand = NextSeat plan own named k × IsSweeping stand

-- from its op on until it publishes, a row is free for an update
abbrev pub HasRow : List ℕ → Stand → Type 0
HasRow free S.Idle = Unit {0}
HasRow free (S.Goes u step) = rows_at step ≤ length free
HasRow free (S.Glances aim glance) = Unit {0}

pub record Pool (plan : Plan) (word : ℕ → ℕ) (p : ℕ) (free : List ℕ) (named : List (ℕ × ℕ)) (sweep : Option Sweep)
    (stand : Stand) : Type 0 where
  pub lists : Lists plan word p free named (todo_of sweep) (gone_of sweep)
  pub room : Room plan word p named sweep stand
  pub row : HasRow free stand

abbrev pub PoolOf : (plan : Plan) (word : ℕ → ℕ) (p : ℕ) → SeatNow → Type 0
PoolOf plan word p now = Pool plan word p now.free now.named now.sweep now.stand

-- the row that stands in the word of a bucket
abbrev pub word_in : Lasting → (bucket : ℕ) → ℕ
word_in x b = row_in (x.store.bucket b)

-- it was named there, and the sweep of its owner has not seen another one
pub record Placed (plan : Plan) (x : Lasting) (b : ℕ) : Type 0 where
  pub owned : owner_in plan (word_in x b) < plan.settings.seats
  pub is : (let now = L.seat_in x (owner_in plan (word_in x b)) in
      In (word_in x b, b) now.named ⊎ In (word_in x b, b) (todo_of now.sweep))

pub record Pools (plan : Plan) (x : Lasting) : Type 0 where
  pub long : length x.seats ≡ plan.settings.seats
  pub seats : (p : ℕ) → p < plan.settings.seats → PoolOf plan (word_in x) p (L.seat_in x p)
  pub placed : (b : ℕ) → b < buckets_of plan.settings → Placed plan x b
  pub taken : All (λ (a : Answer). IsTaken a.told) x.answers

-- ---- lists

-- where it stands it is counted
pub in_many : (r : ℕ × ℕ) (rows : List (ℕ × ℕ)) → In r rows → 1 ≤ many (has_row r.0) rows
in_many r [] i = absurd i
in_many r (y ∷ rows) (inl e) =
    (let one : one_if (has_row r.0) y ≡ 1 =
    ap (λ b. cond b 1 0) (eq-eqb (y.0) (r.0) (ap (λ (z : ℕ × ℕ). z.0) (sym e))) in
    omega (arith, one))
in_many r (y ∷ rows) (inr i) = omega (arith, in_many r rows i)

-- the numbers of rows are as many
pub many_rows : (row : ℕ) (rows : List (ℕ × ℕ)) → many (is_row row) (rows_of rows) ≡ many (has_row row) rows
many_rows row [] = refl
many_rows row (r ∷ rows) = ap (λ n. cond (r.0 == row) 1 0 + n) (many_rows row rows)

pub length_rows : (rows : List (ℕ × ℕ)) → length (rows_of rows) ≡ length rows
length_rows [] = refl
length_rows (r ∷ rows) = ap suc (length_rows rows)

-- a list in two parts, by a test
parts : {A : Type 0} (f : A → ℕ) (test : A → Bool) (xs : List A) →
    total f (filter test xs) + total f (filter (λ x. not (test x)) xs) ≡ total f xs
parts f test [] = refl
parts {A} f test (x ∷ xs) = go (test x) (parts f test xs)
  where
    go : (b : Bool) → total f (filter test xs) + total f (filter (λ y. not (test y)) xs) ≡ total f xs →
        total f (cond b (x ∷ filter test xs) (filter test xs))
        + total f (cond (not b) (x ∷ filter (λ y. not (test y)) xs) (filter (λ y. not (test y)) xs))
        ≡ f x + total f xs
    go true e = omega (arith, e)
    go false e = omega (arith, e)

length_parts : {A : Type 0} (test : A → Bool) (xs : List A) →
    length (filter test xs) + length (filter (λ x. not (test x)) xs) ≡ length xs
length_parts test xs =
    omega (
      arith,
      parts (λ _. 1) test xs,
      total-ones (filter test xs),
      total-ones (filter (λ x. not (test x)) xs),
      total-ones xs,
    )

-- all that pass a test are as many as the list of them is long
many_long : {A : Type 0} (test : A → Bool) (xs : List A) → length (filter test xs) ≡ many test xs
many_long test [] = refl
many_long {A} test (x ∷ xs) = go (test x) (many_long test xs)
  where
    go : (b : Bool) → length (filter test xs) ≡ many test xs →
        length (cond b (x ∷ filter test xs) (filter test xs)) ≡ cond b 1 0 + many test xs
    go true e = omega (arith, e)
    go false e = omega (arith, e)

-- distinct numbers below a bound are at most as many
pub distinct_few : (n : ℕ) (xs : List ℕ) → Distinct xs → ((x : ℕ) → In x xs → x < n) → length xs ≤ n
distinct_few n xs once inside =
    omega (
      arith,
      passing_most (λ _. true) n,
      pigeons (λ _. true) n (length xs) (λ i. get_or xs i 0) (λ i h. (inside (get_or xs i 0) (stands xs i h), refl))
          (λ i j h k e. apart xs i j once h k e),
    )
  where
    stands : (ys : List ℕ) (i : ℕ) → i < length ys → In (get_or ys i 0) ys
    stands [] i h = absurd (omega (arith, h))
    stands (y ∷ ys) zero h = inl refl
    stands (y ∷ ys) (suc i) h = inr (stands ys i (omega (arith, h)))

    apart : (ys : List ℕ) (i j : ℕ) → Distinct ys → i < length ys → j < length ys → get_or ys i 0 ≡ get_or ys j 0 → i
        ≡ j
    apart [] i j d h k e = absurd (omega (arith, h))
    apart (y ∷ ys) zero zero d h k e = refl
    apart (y ∷ ys) zero (suc j) d h k e =
        absurd (d.0 (subst (λ z. In z ys) (sym e) (stands ys j (omega (arith, k)))))
    apart (y ∷ ys) (suc i) zero d h k e = absurd (d.0 (subst (λ z. In z ys) e (stands ys i (omega (arith, h)))))
    apart (y ∷ ys) (suc i) (suc j) d h k e =
        ap suc (apart ys i j d.1 (omega (arith, h)) (omega (arith, k)) e)

-- ---- the lists of a seat

module _ (plan : Plan) (word : ℕ → ℕ) (p : ℕ) where
  -- a row that stands is the seat's
  pub owned : (free : List ℕ) (named todo gone : List (ℕ × ℕ)) → Lists plan word p free named todo gone → (row : ℕ) →
      1 ≤ times row free named todo gone → owner_in plan row ≡ p
  owned free named todo gone l row some = go (owner_in plan row == p) refl
    where
      one_for : Bool → ℕ
      one_for b = cond b 1 0

      go : (b : Bool) → (owner_in plan row == p) ≡ b → owner_in plan row ≡ p
      go true e = eqb-true (owner_in plan row) p e
      go false e = absurd (omega (arith, some, l.once row, ap one_for e))

  -- and stands once
  pub single : (free : List ℕ) (named todo gone : List (ℕ × ℕ)) → Lists plan word p free named todo gone → (row : ℕ) →
      times row free named todo gone ≤ 1
  single free named todo gone l row = go (owner_in plan row == p) (l.once row)
    where
      go : (b : Bool) → times row free named todo gone ≡ cond b 1 0 → times row free named todo gone ≤ 1
      go true e = omega (arith, e)
      go false e = omega (arith, e)

  -- an own row that still stands in its word stays named
  pub keeps_one : (free : List ℕ) (named : List (ℕ × ℕ)) (r : ℕ × ℕ) (todo gone : List (ℕ × ℕ)) →
      Lists plan word p free named (r ∷ todo) gone → Lists plan word p free (named ++ r ∷ []) todo gone
  keeps_one free named r todo gone l = record {
    once = λ row.
        (let all = total-append (one_if (has_row row)) named (r ∷ []) in
        omega (arith, l.once row, all));
    all = omega (arith, l.all, length-append named (r ∷ []));
    homes = λ x i. l.homes x (elim i [
      | inl a ↦ elim (in_both x named (r ∷ []) a) [
        | inl b ↦ inl b
        | inr b ↦ elim b [ inl e ↦ inr (inl (inl e)) | inr n ↦ absurd n ]
      ]
      | inr a ↦ elim a [ inl b ↦ inr (inl (inr b)) | inr b ↦ inr (inr b) ]
    ]);
    left = l.left;
  }

  -- one that does not is gone
  pub loses_one : (free : List ℕ) (named : List (ℕ × ℕ)) (r : ℕ × ℕ) (todo gone : List (ℕ × ℕ)) →
      Lists plan word p free named (r ∷ todo) gone → word r.1 ≢ r.0 → Lists plan word p free named todo (r ∷ gone)
  loses_one free named r todo gone l other = record {
    once = λ row. omega (arith, l.once row);
    all = omega (arith, l.all);
    homes = λ x i. l.homes x (elim i [
      | inl a ↦ inl a
      | inr a ↦ elim a [
        | inl b ↦ inr (inl (inr b))
        | inr b ↦ elim b [ inl e ↦ inr (inl (inl e)) | inr n ↦ inr (inr n) ]
      ]
    ]);
    left = λ x i. elim i [
      | inl e ↦ subst (λ (z : ℕ × ℕ). word z.1 ≢ z.0) (sym e) other
      | inr n ↦ l.left x n
    ];
  }

  -- a row that is held stays named
  pub holds_one : (free : List ℕ) (named gone : List (ℕ × ℕ)) (row : ℕ) → Lists plan word p free named [] gone →
      Lists plan word p free (named ++ alone row gone) [] (without row gone)
  holds_one free named gone row l = record {
    once = λ x.
        (let all = total-append (one_if (has_row x)) named (alone row gone) in
        let both = parts (one_if (has_row x)) (λ other. other.0 == row) gone in
        omega (arith, l.once x, all, both));
    all = (let both = length_parts (λ (other : ℕ × ℕ). other.0 == row) gone in
        omega (arith, l.all, length-append named (alone row gone), both));
    homes = λ x i. l.homes x (elim i [
      | inl a ↦ elim (in_both x named (alone row gone) a) [
        | inl b ↦ inl b
        | inr b ↦ inr (inr (in_filter (λ (other : ℕ × ℕ). other.0 == row) gone x b).0)
      ]
      | inr a ↦ elim a [
        | inl b ↦ absurd b
        | inr b ↦ inr (inr (in_filter (λ (other : ℕ × ℕ). not (other.0 == row)) gone x b).0)
      ]
    ]);
    left = λ x i. l.left x (in_filter (λ (other : ℕ × ℕ). not (other.0 == row)) gone x i).0;
  }

  -- one row at most is held by one seat
  pub held_once : (free : List ℕ) (named gone : List (ℕ × ℕ)) (row : ℕ) → Lists plan word p free named [] gone →
      length (alone row gone) ≤ 1
  held_once free named gone row l =
      omega (arith, single free named [] gone l row, many_long (λ (other : ℕ × ℕ). other.0 == row) gone)

  -- what is gone is free, at once
  pub frees_all : (free : List ℕ) (named gone : List (ℕ × ℕ)) → Lists plan word p free named [] gone →
      Lists plan word p (free ++ rows_of gone) named [] []
  frees_all free named gone l = record {
    once = λ row.
        (let all = total-append (one_if (is_row row)) free (rows_of gone) in
        omega (arith, l.once row, all, many_rows row gone));
    all = omega (arith, l.all, length-append free (rows_of gone), length_rows gone);
    homes = λ x i. l.homes x (elim i [
      | inl a ↦ inl a
      | inr a ↦ elim a [ inl b ↦ absurd b | inr b ↦ absurd b ]
    ]);
    left = λ x i. absurd i;
  }

  -- a sweep takes up what is named
  pub takes_up : (free : List ℕ) (named : List (ℕ × ℕ)) → Lists plan word p free named [] [] →
      Lists plan word p free [] named []
  takes_up free named l = record {
    once = λ row. omega (arith, l.once row);
    all = omega (arith, l.all);
    homes = λ x i. l.homes x (elim i [
      | inl a ↦ absurd a
      | inr a ↦ elim a [ inl b ↦ inl b | inr b ↦ absurd b ]
    ]);
    left = l.left;
  }

  -- the first free row is published in the word of a bucket, and is that which stands there then
  pub publishes : (word' : ℕ → ℕ) (row : ℕ) (free : List ℕ) (named todo gone : List (ℕ × ℕ)) (b : ℕ) →
      Lists plan word p (row ∷ free) named todo gone → b < buckets_of plan.settings → word' b ≡ row →
      ((a : ℕ) → a ≢ b → word' a ≡ word a) → Lists plan word' p free (named ++ (row, b) ∷ []) todo gone
  publishes word' row free named todo gone b l inside is others = record {
    once = λ x.
        (let all = total-append (one_if (has_row x)) named ((row, b) ∷ []) in
        omega (arith, l.once x, all));
    all = omega (arith, l.all, length-append named ((row, b) ∷ []));
    homes = λ x i. elim i [
      | inl a ↦ elim (in_both x named ((row, b) ∷ []) a) [
        | inl c ↦ l.homes x (inl c)
        | inr c ↦ elim c [
          | inl e ↦ subst (λ (z : ℕ × ℕ). z.1 < buckets_of plan.settings) (sym e) inside
          | inr n ↦ absurd n
        ]
      ]
      | inr a ↦ l.homes x (inr a)
    ];
    left = λ x i. elim (cases_eq x.1 b) [
      | inl e ↦ λ same.
          (let here : row ≡ x.0 = sym is ∙ ap word' (sym e) ∙ same in
          let one : one_if (is_row x.0) row ≡ 1 = ap (λ (y : Bool). cond y 1 0) (eq-eqb row (x.0) here) in
          absurd (omega (arith, one, in_many x gone i, single (row ∷ free) named todo gone l (x.0))))
      | inr n ↦ λ same. l.left x i (sym (others x.1 n) ∙ same)
    ];
  }

  -- another seat publishes a row of its own
  pub stays_listed : (word' : ℕ → ℕ) (free : List ℕ) (named todo gone : List (ℕ × ℕ)) (b : ℕ) →
      Lists plan word p free named todo gone → owner_in plan (word' b) ≢ p → ((a : ℕ) → a ≢ b → word' a ≡ word a) →
      Lists plan word' p free named todo gone
  stays_listed word' free named todo gone b l foreign others = record {
    once = l.once;
    all = l.all;
    homes = l.homes;
    left = λ x i. elim (cases_eq x.1 b) [
      | inl e ↦ λ same. foreign
          (ap (owner_in plan) (ap word' (sym e) ∙ same)
          ∙ owned free named todo gone l (x.0) (omega (arith, in_many x gone i)))
      | inr n ↦ λ same. l.left x i (sym (others x.1 n) ∙ same)
    ];
  }
