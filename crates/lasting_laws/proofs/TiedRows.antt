-- An exchange that happens, and a step of a sweep, are events of the held look.
use Rattle.std.proofs.Common.{◌≡◌, ◌≢◌, ℕ, ◌+◌, ◌<◌, ◌≤◌, ◌⊎◌, inl, inr, Bool, true, false, cond, not, List, [], ◌∷◌, ◌++◌, Option, Some, refl, sym, ap, ◌∙◌, subst, arith, true≢false}
use Rattle.std.specs.Prelude.{◌==◌, ◌||◌, nat_lt}
use Rattle.std.proofs.lemmas.Bool.{cases_eq, cases_Bool, eq-eqb, ne_eqb, eqb-true}
use Rattle.list_laws.proofs.Lists.{In, in_both, in_filter}
use Rattle.word_rows.specs.Memory.{put}
use Rattle.word_rows.proofs.MemoryLemmas.{put_same, put_other}
use Rattle.lasting_model.specs.Plans.{Plan, ample, buckets_of}
use Rattle.lasting_model.specs.Codes.{row_in, is_asking, time_in, held_row}
use Rattle.lasting_model.specs.Words as W
use Rattle.lasting_model.specs.Words.{with_word}
use Rattle.lasting_model.specs.Steps as S
use Rattle.lasting_model.specs.Steps.{Step, Stand, Sweep, SeatNow, Update, Try, Aim, OfKey, OfBucket, Glance, Source, Scan, bucket_of_update, bucket_of_aim, next_row, next_generation, made}
use Rattle.lasting_model.specs.Goes.{SweepFate, SweepsOn, Swept, sweep_fate, swept, rows_of}
use Rattle.lasting_model.specs.Worlds.{Lasting, Answer, seat_in, with_seat, ticked}
use Rattle.lasting_laws.proofs.Pools.{owner_in, todo_of, gone_of, Pools, word_in}
use Rattle.lasting_laws.proofs.Holding as H
use Rattle.lasting_laws.proofs.HoldingSweeps as HS
use Rattle.lasting_laws.proofs.HeldStates.{hold_of, among, look_of, sweep_of, held_state}
use Rattle.lasting_laws.proofs.HeldSteps.{Arrives, among_in, in_among, among_both}
use Rattle.list_laws.proofs.Totals.{many, one_if}
use Rattle.lasting_model.specs.Goes.{without, alone, hold_or_end, seats_from, homes_on, past_hold}
use Rattle.table_model.specs.Setup.{seats_of}
use Rattle.lasting_laws.proofs.Pools.{has_row, is_row, Lists, owned, single, in_many}
use Rattle.lasting_laws.proofs.Marks.{in_free}
use Rattle.lasting_laws.proofs.Tied.{Tied, Ties, HoldsOf, Listed, Wants, ties, put_still}

-- ---- rows of a sweep are those that it had

-- each row that stays named, is still to be looked at or is gone is one of these
abbrev pub From : (Q : ℕ × ℕ → Type 0) → SweepFate → Type 0
From Q (SweepsOn kept sweep) =
    (r : ℕ × ℕ) → In r kept ⊎ (In r (todo_of (Some sweep)) ⊎ In r (gone_of (Some sweep))) → Q r
From Q (Swept kept gone) = (r : ℕ × ℕ) → In r kept ⊎ In r gone → Q r

module _ (plan : Plan) (p : ℕ) (Q : ℕ × ℕ → Type 0) where
  abbrev Each : List (ℕ × ℕ) → Type 0
  Each rows = (r : ℕ × ℕ) → In r rows → Q r

  none : Each []
  none r i = absurd i

  to_end : (kept gone : List (ℕ × ℕ)) (k : ℕ) → Each kept → Each gone → From Q (hold_or_end (ample plan) k kept gone)
  to_end kept gone k a b = go (nat_lt k (seats_of (ample plan)))
    where
      go : (c : Bool) → From Q (cond c (SweepsOn kept (S.Seats k gone)) (Swept kept gone))
      go true = λ r i. elim i [ inl j ↦ a r j | inr j ↦ elim j [ inl m ↦ absurd m | inr m ↦ b r m ] ]
      go false = λ r i. elim i [ inl j ↦ a r j | inr j ↦ b r j ]

  to_seats : (kept gone : List (ℕ × ℕ)) (k : ℕ) → Each kept → Each gone → From Q (seats_from (ample plan) p k kept gone)
  to_seats kept gone k a b = to_end kept gone (cond (k == p) (k + 1) k) a b

  to_homes : (kept todo gone : List (ℕ × ℕ)) → Each kept → Each todo → Each gone →
      From Q (homes_on (ample plan) p kept todo gone)
  to_homes kept [] gone a t b = to_seats kept gone 0 a b
  to_homes kept (x ∷ todo) gone a t b =
      λ r i. elim i [ inl j ↦ a r j | inr j ↦ elim j [ inl m ↦ t r m | inr m ↦ b r m ] ]

  to_hold : (k : ℕ) (gone : List (ℕ × ℕ)) (found : ℕ) → Each gone → From Q (past_hold (ample plan) p k gone found)
  to_hold k gone found b = go (found == 0)
    where
      go : (c : Bool) → From Q (cond c (seats_from (ample plan) p (k + 1) [] gone)
          (seats_from (ample plan) p (k + 1) (alone (held_row found) gone) (without (held_row found) gone)))
      go true = to_seats [] gone (k + 1) none b
      go false = to_seats (alone (held_row found) gone) (without (held_row found) gone) (k + 1)
          (λ r i. b r (in_filter (λ (o : ℕ × ℕ). o.0 == held_row found) gone r i).0)
          (λ r i. b r (in_filter (λ (o : ℕ × ℕ). not (o.0 == held_row found)) gone r i).0)

  pub from_fate : (sweep : S.Sweep) (found : ℕ) → Each (todo_of (Some sweep)) → Each (gone_of (Some sweep)) →
      From Q (sweep_fate (ample plan) p sweep found)
  from_fate (S.Homes [] gone) found t b = to_seats [] gone 0 none b
  from_fate (S.Homes (x ∷ todo) gone) found t b = go (row_in found == x.0)
    where
      go : (c : Bool) → From Q (cond c (homes_on (ample plan) p (x ∷ []) todo gone)
          (homes_on (ample plan) p [] todo (x ∷ gone)))
      go true = to_homes (x ∷ []) todo gone
          (λ r i. elim i [ inl e ↦ subst Q (sym e) (t x (inl refl)) | inr m ↦ absurd m ]) (λ r i. t r (inr i)) b
      go false = to_homes [] todo (x ∷ gone) none (λ r i. t r (inr i))
          (λ r i. elim i [ inl e ↦ subst Q (sym e) (t x (inl refl)) | inr m ↦ b r m ])
  from_fate (S.Seats k gone) found t b = go (is_asking found)
    where
      go : (c : Bool) → From Q (cond c (SweepsOn [] (S.Sees k (time_in found) gone))
          (past_hold (ample plan) p k gone found))
      go true = λ r i. elim i [ inl j ↦ absurd j | inr j ↦ elim j [ inl m ↦ absurd m | inr m ↦ b r m ] ]
      go false = to_hold k gone found b
  from_fate (S.Sees k time gone) found t b =
      λ r i. elim i [ inl j ↦ absurd j | inr j ↦ elim j [ inl m ↦ absurd m | inr m ↦ b r m ] ]
  from_fate (S.Loads k time bucket gone) found t b =
      λ r i. elim i [ inl j ↦ absurd j | inr j ↦ elim j [ inl m ↦ absurd m | inr m ↦ b r m ] ]
  from_fate (S.Gives k time row gone) found t b = go (is_asking found)
    where
      go : (c : Bool) → From Q (cond c (seats_from (ample plan) p (k + 1) [] gone)
          (past_hold (ample plan) p k gone found))
      go true = to_seats [] gone (k + 1) none b
      go false = to_hold k gone found b

-- of two truth values
either_way : (a b : Bool) → (a || b) ≡ (b || a)
either_way true true = refl
either_way true false = refl
either_way false true = refl
either_way false false = refl

-- what is not free then was not free
was_live : (a b : Bool) → (a || b) ≡ false → b ≡ false
was_live true b e = absurd (true≢false e)
was_live false b e = e

abbrev flag : Bool → ℕ
flag b = cond b 1 0

module _ (plan : Plan) (x : Lasting) (pools : Pools plan x) (tied : Tied plan x) (p : ℕ)
    (inside : p < plan.settings.seats) where
  abbrev now : SeatNow
  now = seat_in x p

  abbrev s : H.State
  s = held_state plan x tied.home tied.since

  abbrev bs : ℕ
  bs = buckets_of plan.settings

  abbrev n : ℕ
  n = plan.settings.seats

  abbrev o : ℕ → ℕ
  o = owner_in plan

  lists : Lists plan (word_in x) p now.free now.named (todo_of now.sweep) (gone_of now.sweep)
  lists = (pools.seats p inside).lists

  -- a row that is listed stands once
  listed_many : (r : ℕ × ℕ) → Listed plan r now →
      1 ≤ many (has_row r.0) now.named + (many (has_row r.0) (todo_of now.sweep) + many (has_row r.0)
      (gone_of now.sweep))
  listed_many r i = elim i [
    | inl a ↦ omega (arith, in_many r now.named a)
    | inr a ↦ elim a [
      | inl b ↦ omega (arith, in_many r (todo_of now.sweep) b)
      | inr b ↦ omega (arith, in_many r (gone_of now.sweep) b)
    ]
  ]

  pub listed_owned : (q : ℕ) → q < n → (r : ℕ × ℕ) → Listed plan r (seat_in x q) → o r.0 ≡ q
  listed_owned q less r i =
      let z = seat_in x q in
      owned plan (word_in x) q z.free z.named (todo_of z.sweep) (gone_of z.sweep) (pools.seats q less).lists (r.0)
      (elim i [
        | inl a ↦ omega (arith, in_many r z.named a)
        | inr a ↦ elim a [
          | inl b ↦ omega (arith, in_many r (todo_of z.sweep) b)
          | inr b ↦ omega (arith, in_many r (gone_of z.sweep) b)
        ]
      ])

  -- so it is not free
  pub listed_live : (r : ℕ × ℕ) → Listed plan r now → among now.free (r.0) ≡ false
  listed_live r i = go (cases_Bool (among now.free (r.0)))
    where
      go : (among now.free (r.0) ≡ true) ⊎ (among now.free (r.0) ≡ false) → among now.free (r.0) ≡ false
      go (inr e) = e
      go (inl e) = absurd (omega (
        arith,
        listed_many r i,
        in_free (r.0) now.free (among_in now.free (r.0) e),
        single plan (word_in x) p now.free now.named (todo_of now.sweep) (gone_of now.sweep) lists (r.0),
      ))

  module _ (store : W.Store) (then : SeatNow) (answers : List Answer) where
    -- ---- an exchange

    module _ (b : ℕ) (small : b < bs) (row : ℕ) (rest : List ℕ) (free_is : now.free ≡ row ∷ rest)
        (free_then : then.free ≡ rest) (named_then : then.named ≡ now.named ++ (row, b) ∷ [])
        (sweep_then : then.sweep ≡ now.sweep) where
      counted : 1 ≤ many (is_row row) now.free
      counted = subst (λ fs. 1 ≤ many (is_row row) fs) (sym free_is)
          (let one : one_if (is_row row) row ≡ 1 = ap flag (eq-eqb row row refl) in omega (arith, one))

      own : o row ≡ p
      own = owned plan (word_in x) p now.free now.named (todo_of now.sweep) (gone_of now.sweep) lists row
          (omega (arith, counted))

      other_row : (r : ℕ × ℕ) → Listed plan r now → r.0 ≢ row
      other_row r i e =
          let few = single plan (word_in x) p now.free now.named (todo_of now.sweep) (gone_of now.sweep) lists row in
          let many_are = subst (λ k.
          1 ≤ many (has_row k) now.named + (many (has_row k) (todo_of now.sweep) + many (has_row k)
          (gone_of now.sweep)))
          e (listed_many r i) in
          omega (arith, few, many_are, counted)

      not_in_rest : among rest row ≡ false
      not_in_rest = go (cases_Bool (among rest row))
        where
          go : (among rest row ≡ true) ⊎ (among rest row ≡ false) → among rest row ≡ false
          go (inr e) = e
          go (inl e) =
              let twice : 2 ≤ many (is_row row) now.free = subst (λ fs. 2 ≤ many (is_row row) fs) (sym free_is)
              (let one : one_if (is_row row) row ≡ 1 = ap flag (eq-eqb row row refl) in
              omega (arith, one, in_free row rest (among_in rest row e))) in
              absurd (omega (
                arith,
                twice,
                single plan (word_in x) p now.free now.named (todo_of now.sweep) (gone_of now.sweep) lists row,
              ))

      free_row : s.free row ≡ true
      free_row = ap (λ q. among (seat_in x q).free row) own
          ∙ in_among now.free row (subst (λ fs. In row fs) (sym free_is) (inl refl))

      free_then_is : (r : ℕ) →
          put (λ k. among (seat_in x k).free r) p (among then.free r) (o r) ≡ put s.free row false r
      free_then_is r = elim (cases_eq r row) [
        | inl e ↦
            ap (put (λ k. among (seat_in x k).free r) p (among then.free r)) (ap o e ∙ own)
            ∙ put_same (λ k. among (seat_in x k).free r) p (among then.free r)
            ∙ ap (λ fs. among fs r) free_then ∙ ap (among rest) e ∙ not_in_rest
            ∙ sym (ap (put s.free row false) e ∙ put_same s.free row false)
        | inr d ↦ elim (cases_eq (o r) p) [
          | inl e ↦
              let same : among now.free r ≡ among rest r =
              ap (λ fs. among fs r) free_is ∙ ap (λ (c : Bool). c || among rest r) (ne_eqb row r (λ f. d (sym f))) in
              ap (put (λ k. among (seat_in x k).free r) p (among then.free r)) e
              ∙ put_same (λ k. among (seat_in x k).free r) p (among then.free r)
              ∙ ap (λ fs. among fs r) free_then ∙ sym same ∙ ap (λ q. among (seat_in x q).free r) (sym e)
              ∙ sym (put_other s.free row false r d)
          | inr m ↦
              put_other (λ k. among (seat_in x k).free r) p (among then.free r) (o r) m
              ∙ sym (put_other s.free row false r d)
        ]
      ]

      old_home : (r : ℕ × ℕ) → Listed plan r now → put tied.home row b (r.0) ≡ r.1
      old_home r i = put_other tied.home row b (r.0) (other_row r i) ∙ tied.homes p r inside i

      own_homes : (r : ℕ × ℕ) → Listed plan r then → put tied.home row b (r.0) ≡ r.1
      own_homes r i = elim i [
        | inl a ↦ elim (in_both r now.named ((row, b) ∷ []) (subst (λ (ns : List (ℕ × ℕ)). In r ns) named_then a)) [
          | inl c ↦ old_home r (inl c)
          | inr c ↦ elim c [
            | inl e ↦
                ap (λ (z : ℕ × ℕ). put tied.home row b (z.0)) e ∙ put_same tied.home row b ∙ ap (λ (z : ℕ × ℕ). z.1)
                (sym e)
            | inr m ↦ absurd m
          ]
        ]
        | inr a ↦ old_home r
            (inr (subst (λ (w : Option Sweep). In r (todo_of w) ⊎ In r (gone_of w)) sweep_then a))
      ]

      pub published : ((a : ℕ) → row_in (store.bucket a) ≡ put s.word b row a) →
          ((q : ℕ) → store.hold q ≡ x.store.hold q) → ((q : ℕ) → store.want q ≡ x.store.want q) →
          then.time ≡ now.time → look_of then.stand ≡ look_of now.stand → Wants plan (store.want p) then.stand →
          Ties plan x tied (ticked (with_seat x p store then answers))
      published word hold want time look wants =
          ties plan x pools tied p inside store then answers (put tied.home row b)
          (λ q r. cond (r == row) (s.want q == b) (s.since q r)) (H.named_in bs n o s b row)
          (H.named_keeps bs n o s tied.holds b row small free_row) word (λ r. refl) free_then_is
          (λ q. ap hold_of (hold q)) want (put_still (λ k. (seat_in x k).time) p then.time time)
          (put_still (λ k. look_of (seat_in x k).stand) p (look_of then.stand) look)
          (put_still (λ k. sweep_of (seat_in x k).sweep) p (sweep_of then.sweep) (ap sweep_of sweep_then)) (λ q r. refl)
          own_homes
          (λ q r m less i.
          put_other tied.home row b (r.0) (λ e. m (sym (listed_owned q less r i) ∙ ap o e ∙ own))
          ∙ tied.homes q r less i)
          wants (λ q m. want q)
          (λ q r e f a. elim (cases_eq r row) [
            | inl z ↦
                let wanted : s.want q ≡ b = eqb-true (s.want q) b
                (sym (ap (λ (t : Bool). cond t (s.want q == b) (s.since q r)) (eq-eqb r row z)) ∙ e) in
                inr (z ∙ sym (put_same s.word b row) ∙ ap (put s.word b row) (sym wanted))
            | inr m ↦ inl (
              sym (ap (λ (t : Bool). cond t (s.want q == b) (s.since q r)) (ne_eqb r row m)) ∙ e,
              sym (put_other s.free row false r m) ∙ f,
              a,
            )
          ])

    -- ---- a step of a sweep

    module _ (hf : ℕ → H.Hold) (sf : ℕ → H.Sweep) (quiet : s.look p ≡ H.NoLook)
        (holds : HoldsOf plan (record s { hold = hf; sweep = sf }))
        (bucket : (b : ℕ) → row_in (store.bucket b) ≡ word_in x b) (hold : (q : ℕ) → hold_of (store.hold q) ≡ hf q)
        (want : (q : ℕ) → store.want q ≡ x.store.want q) (else_ : (q : ℕ) → q ≢ p → sf q ≡ s.sweep q)
        (time : then.time ≡ now.time) (look : look_of then.stand ≡ H.NoLook)
        (wants : Wants plan (store.want p) then.stand) where
      abbrev base : H.State
      base = record s { hold = hf; sweep = sf }

      look_is : (q : ℕ) → put (λ k. look_of (seat_in x k).stand) p (look_of then.stand) q ≡ s.look q
      look_is = put_still (λ k. look_of (seat_in x k).stand) p (look_of then.stand) (look ∙ sym quiet)

      sweep_to : (now_of : H.Sweep) → sweep_of then.sweep ≡ now_of → (q : ℕ) →
          put (λ k. sweep_of (seat_in x k).sweep) p (sweep_of then.sweep) q ≡ put sf p now_of q
      sweep_to now_of is q = elim (cases_eq q p) [
        | inl e ↦
            ap (put (λ k. sweep_of (seat_in x k).sweep) p (sweep_of then.sweep)) e
            ∙ put_same (λ k. sweep_of (seat_in x k).sweep) p (sweep_of then.sweep) ∙ is
            ∙ sym (ap (put sf p now_of) e ∙ put_same sf p now_of)
        | inr m ↦
            put_other (λ k. sweep_of (seat_in x k).sweep) p (sweep_of then.sweep) q m ∙ sym (else_ q m)
            ∙ sym (put_other sf p now_of q m)
      ]

      pub sweeps_to : (f : SweepFate) → Arrives plan base p inside holds quiet f → then.free ≡ (swept now f).free →
          then.sweep ≡ (swept now f).sweep → ((r : ℕ × ℕ) → Listed plan r then → Listed plan r now) →
          Ties plan x tied (ticked (with_seat x p store then answers))
      sweeps_to (SweepsOn kept sweep) a free_is sweep_is listed =
          ties plan x pools tied p inside store then answers tied.home tied.since
          (HS.swept bs n o base p (sweep_of (Some sweep)))
          (HS.swept_keeps bs n o base holds p (sweep_of (Some sweep)) a.0 a.1) bucket (λ r. refl)
          (λ r. put_still (λ k. among (seat_in x k).free r) p (among then.free r) (ap (λ fs. among fs r) free_is) (o r))
          hold want (put_still (λ k. (seat_in x k).time) p then.time time) look_is
          (sweep_to (sweep_of (Some sweep)) (ap sweep_of sweep_is)) (λ q r. refl)
          (λ r i. tied.homes p r inside (listed r i)) (λ q r m less i. tied.homes q r less i) wants (λ q m. want q)
          (λ q r e f a. inl (e, f, a))
      sweeps_to (Swept kept gone) a free_is sweep_is listed =
          let left = among (rows_of gone) in
          let s1 = HS.swept bs n o base p (H.Seats a.0 left) in
          let h1 = HS.swept_keeps bs n o base holds p (H.Seats a.0 left) a.2
          (λ q t r l e. absurd (omega (arith, ap H.sweep_kind e))) in
          let h2 = HS.freed_keeps bs n o s1 h1 p a.0 left (put_same sf p (H.Seats a.0 left)) a.1 in
          ties plan x pools tied p inside store then answers tied.home tied.since (HS.freed bs n o s1 p left) h2 bucket
          (λ r. refl) free_to hold want (put_still (λ k. (seat_in x k).time) p then.time time) look_is
          (λ q. sweep_to H.NoSweep (ap sweep_of sweep_is) q ∙ sym (twice q)) (λ q r. refl)
          (λ r i. tied.homes p r inside (listed r i)) (λ q r m less i. tied.homes q r less i) wants (λ q m. want q)
          (λ q r e f a. inl (e, was_live (left r) (s.free r) f, a))
        where
          twice : (q : ℕ) →
              put (put sf p (H.Seats a.0 (among (rows_of gone)))) p H.NoSweep q ≡ put sf p H.NoSweep q
          twice q = elim (cases_eq q p) [
            | inl e ↦
                ap (put (put sf p (H.Seats a.0 (among (rows_of gone)))) p H.NoSweep) e
                ∙ put_same (put sf p (H.Seats a.0 (among (rows_of gone)))) p H.NoSweep
                ∙ sym (ap (put sf p H.NoSweep) e ∙ put_same sf p H.NoSweep)
            | inr m ↦
                put_other (put sf p (H.Seats a.0 (among (rows_of gone)))) p H.NoSweep q m
                ∙ put_other sf p (H.Seats a.0 (among (rows_of gone))) q m ∙ sym (put_other sf p H.NoSweep q m)
          ]

          free_to : (r : ℕ) → put (λ k. among (seat_in x k).free r) p (among then.free r) (o r)
              ≡ (among (rows_of gone) r || s.free r)
          free_to r = elim (cases_eq (o r) p) [
            | inl e ↦
                ap (put (λ k. among (seat_in x k).free r) p (among then.free r)) e
                ∙ put_same (λ k. among (seat_in x k).free r) p (among then.free r) ∙ ap (λ fs. among fs r) free_is
                ∙ among_both now.free (rows_of gone) r ∙ either_way (among now.free r) (among (rows_of gone) r)
                ∙ ap (λ q. among (rows_of gone) r || among (seat_in x q).free r) (sym e)
            | inr m ↦
                put_other (λ k. among (seat_in x k).free r) p (among then.free r) (o r) m
                ∙ sym (ap (λ (c : Bool). c || s.free r) (not_gone m))
          ]
            where
              not_gone : o r ≢ p → among (rows_of gone) r ≡ false
              not_gone m = go (cases_Bool (among (rows_of gone) r))
                where
                  go : (among (rows_of gone) r ≡ true) ⊎ (among (rows_of gone) r ≡ false) → among (rows_of gone) r
                      ≡ false
                  go (inr e) = e
                  go (inl e) = absurd (m (a.2.own r e))
