-- The places that the events gave are those that the order needs.
use Rattle.std.proofs.Common.{◌≡◌, ◌≢◌, ℕ, zero, suc, ◌+◌, ◌<◌, ◌≤◌, Bool, true, cond, Option, Some, None, add-one, refl, inl, inr, sym, ap, ◌∙◌, subst, arith, eqb, eq-eqb}
use Rattle.std.proofs.lemmas.Bool.{cases_eq, cond-true, cond-false, ne_eqb, cases_Bool}
use Rattle.plain_map.specs.declared.records.Record.{Record}
use Rattle.plain_map.specs.History.{Placed, seat_of, number_of, seen_of}
use Rattle.table_model.specs.Setup.{Setup, seats_of}
use Rattle.table_model.specs.Order.{Closing, calls_of, lookups_of}
use Rattle.list_laws.proofs.Lists.{In}
use Rattle.closed_laws.proofs.Book.{Book, Written}
use Rattle.closed_laws.proofs.Ledger.{NewInRow, NewInVersion}
use Rattle.closed_laws.proofs.Clock.{Frame, Clock, Lists, Ticks, Between}
use Rattle.closed_laws.proofs.Ends.{Stamps, Stamped, HasPlace}

-- ---- what stands beside a number, where it stands among these
abbrev pub beside : (f val : ℕ → ℕ) → ℕ → ℕ → ℕ → ℕ
beside f val r zero d = d
beside f val r (suc n) d = cond (eqb (f n) r) (val n) (beside f val r n d)

-- without the row there is the value that is given
pub beside_none : (f val : ℕ → ℕ) (r n d : ℕ) → ((i : ℕ) → i < n → f i ≢ r) → beside f val r n d ≡ d
beside_none f val r zero d h = refl
beside_none f val r (suc n) d h = cond-false (eqb (f n) r) (val n) (beside f val r n d)
    (ne_eqb (f n) r (h n (omega arith))) ∙ beside_none f val r n d (λ i o. h i (omega (arith, o)))

-- at the row there is its value
pub beside_at : (f val : ℕ → ℕ) (n d i : ℕ) → i < n → ((j : ℕ) → j < n → f j ≡ f i → j ≡ i) →
    beside f val (f i) n d ≡ val i
beside_at f val zero d i o once = absurd (omega (arith, o))
beside_at f val (suc n) d i o once = elim (cases_eq (f n) (f i)) [
  | inl e ↦ cond-true (eqb (f n) (f i)) (val n) (beside f val (f i) n d) (eq-eqb (f n) (f i) e)
      ∙ ap val (once n (omega arith) e)
  | inr d' ↦ cond-false (eqb (f n) (f i)) (val n) (beside f val (f i) n d) (ne_eqb (f n) (f i) d')
      ∙ beside_at f val n d i (elim (cases_eq i n) [
        | inl e ↦ absurd (d' (ap f (sym e)))
        | inr m ↦ omega
            (arith, o, m)
      ]) (λ j p. once j (omega (arith, p)))
]

-- the value at the position of a row, among the rows of the first so many buckets
abbrev pub row_value : (named : ℕ → Bool) (top : ℕ → ℕ) (row_at value : ℕ → ℕ → ℕ) → ℕ → ℕ → ℕ
row_value named top row_at value r zero = 0
row_value named top row_at value r (suc b) =
    cond (named b) (beside (row_at b) (value b) r (top b + 1) (row_value named top row_at value r b))
    (row_value named top row_at value r b)

-- the value of a published row is found by its number
pub row_value_at : (named : ℕ → Bool) (top : ℕ → ℕ) (row_at value : ℕ → ℕ → ℕ) (n b i : ℕ) →
    ((a c j e : ℕ) → named a ≡ true → named c ≡ true → j ≤ top a → e ≤ top c → row_at a j ≡ row_at c e →
    (a ≡ c) × (j ≡ e)) →
    b < n → named b ≡ true → i ≤ top b → row_value named top row_at value (row_at b i) n ≡ value b i
row_value_at named top row_at value zero b i once o n h = absurd (omega (arith, o))
row_value_at named top row_at value (suc a) b i once o n h = elim (cases_eq a b) [
  | inl e ↦
      cond-true (named a) (beside (row_at a) (value a) (row_at b i) (top a + 1)
      (row_value named top row_at value (row_at b i) a)) (row_value named top row_at value (row_at b i) a)
      (ap named e ∙ n)
      ∙ ap (λ c. beside (row_at c) (value c) (row_at b i) (top c + 1)
      (row_value named top row_at value (row_at b i) a)) e
      ∙ beside_at (row_at b) (value b) (top b + 1) (row_value named top row_at value (row_at b i) a) i
      (omega (arith, h)) (λ j p q. (once b b j i n n (omega (arith, p)) h q).1)
  | inr d ↦
      let rest = row_value_at named top row_at value a b i once (omega (arith, o, d)) n h in
      elim (cases_Bool (named a)) [
        | inr f ↦ cond-false (named a) (beside (row_at a) (value a) (row_at b i) (top a + 1)
            (row_value named top row_at value (row_at b i) a)) (row_value named top row_at value (row_at b i) a) f
            ∙ rest
        | inl f ↦ cond-true (named a) (beside (row_at a) (value a) (row_at b i) (top a + 1)
            (row_value named top row_at value (row_at b i) a)) (row_value named top row_at value (row_at b i) a) f
            ∙ beside_none (row_at a) (value a) (row_at b i) (top a + 1)
            (row_value named top row_at value (row_at b i) a)
            (λ j p q. d (once a b j i f n (omega (arith, p)) h q).0)
            ∙ rest
      ]
]

-- ---- the clock's places, by the numbers of the rows
module _ (setup : Setup) (closing : Closing) (k : Book) (w : Written setup closing.words k) (from : ℕ → ℕ)
    (bound : ℕ) (few : (b : ℕ) → k.named b ≡ true → b < bound) (l : Lists) (t : Clock) where
  -- the rows, as the clock reads them
  abbrev pub frame : Frame
  frame = record { dir_top = k.dir_top; named = k.named; born = k.born; from = from; top = k.top }

  -- a place, or none
  abbrev pub some_or : Option ℕ → ℕ
  some_or None = 0
  some_or (Some x) = x

  -- the places of the clock, by the numbers of the rows
  abbrev pub stamps : Stamps
  stamps = record {
    of_row = λ row. row_value k.named k.top k.row_at t.row row bound;
    of_dir = λ row. beside k.dir_row t.dir row (k.dir_top + 1) 0;
    of_look = λ r. some_or (t.call r.seat r.number);
  }

  -- a published row has its place
  row_is : (b i : ℕ) → k.named b ≡ true → i ≤ k.top b → stamps.of_row (k.row_at b i) ≡ t.row b i
  row_is b i n o = row_value_at k.named k.top k.row_at t.row bound b i (λ a c j e. w.once a c j e) (few b n) n o

  -- and so has a directory row
  dir_is : (v : ℕ) → v ≤ k.dir_top → stamps.of_dir (k.dir_row v) ≡ t.dir v
  dir_is v o = beside_at k.dir_row t.dir (k.dir_top + 1) 0 v (omega (arith, o))
      (λ j p q. w.dir_once j v (omega (arith, p)) o q)

  -- how the clock's lists are those of the closed table
  pub record Links : Type 0 where
    pub ticks : Ticks frame l t
    pub new_row : (b i q m : ℕ) → NewInRow k b i q m → l.InRow b (i + 1) q m
    pub new_version : (v q m : ℕ) (n : NewInVersion k v q m) → l.InRow n.bucket 0 q m
    pub in_row : (b i q m : ℕ) → l.InRow b (i + 1) q m → NewInRow k b i q m
    pub in_first : (b q m : ℕ) → l.InRow b 0 q m → (v : ℕ) × (k.born b ≡ v + 1) × NewInVersion k v q m
    pub look : (r : Record) → In r (lookups_of closing) →
        (b : ℕ) × (i : ℕ) × l.Looked r.seat r.number b i × (r.place ≡ k.row_at b i)
    -- of the lookups that a call with a place stands after all are answered
    pub looked : (q m n s b i x : ℕ) → t.call q m ≡ Some x → l.After q m s n → l.Looked s n b i →
        (r : Record) × In r (lookups_of closing) × (r.seat ≡ s) × (r.number ≡ n)
    pub own : (q m n : ℕ) → q < seats_of setup → 1 ≤ n → n < m → l.After q m q n
    pub seen : (c : Placed) (seat n : ℕ) → In c (calls_of closing) → seat < seats_of setup → 1 ≤ n →
        n ≤ seen_of c seat → l.After (seat_of c) (number_of c) seat n
    pub parent : (b v old : ℕ) → k.named b ≡ true → k.born b ≡ v + 1 →
        k.base_at b 0 ≡ Some (k.row_at old (k.top old)) → k.named old ≡ true → from b ≡ old

  module _ (h : Links) where
    -- a place is a call's place
    call_of_place : (q m x : ℕ) → HasPlace closing k stamps q m x → t.call q m ≡ Some x
    call_of_place q m x (inl e) =
        let p = h.ticks.placed e.0 (e.1 + 1) q m (h.new_row e.0 e.1 q m e.2) in
        p.2 ∙ ap Some (sym (row_is e.0 (e.1 + 1) p.0 p.1) ∙ sym e.3)
    call_of_place q m x (inr (inl e)) =
        let n = e.1 in
        let p = h.ticks.placed n.bucket 0 q m (h.new_version e.0 q m n) in
        p.2 ∙ ap Some (h.ticks.born_is n.bucket n.named ∙ ap t.dir n.born
        ∙ sym (dir_is (e.0 + 1) (omega (arith, n.inside))) ∙ sym e.2)
    call_of_place q m x (inr (inr e)) =
        let k' = h.look e.0 e.1 in
        let p = h.ticks.looked e.0.seat e.0.number k'.0 k'.1 k'.2 in
        ap (λ z. t.call z m) (sym e.2) ∙ ap (t.call e.0.seat) (sym e.3) ∙ p.1 ∙ ap Some (ap some_or (sym p.1) ∙ sym e.4)

    -- a call that had to come before has a smaller place
    place_of_call : (q m x s n y : ℕ) → t.call q m ≡ Some x → l.After q m s n → t.call s n ≡ Some y →
        HasPlace closing k stamps s n y
    place_of_call q m x s n y has a e = elim (h.ticks.source s n y e) [
      | inl r ↦ go r.0 r.1 r.2
      | inr r ↦
          let f = h.looked q m n s r.0 r.1 x has a r.2 in
          inr (inr (
            f.0,
            f.1,
            f.2,
            f.3,
            ap some_or (sym e ∙ ap (λ z. t.call z n) (sym f.2)
                ∙ ap (t.call f.0.seat) (sym f.3)),
          ))
    ]
      where
        go : (b i : ℕ) → l.InRow b i s n → HasPlace closing k stamps s n y
        go b zero r =
            let v = h.in_first b s n r in
            let p = h.ticks.placed b 0 s n r in
            let same : Some (t.row b 0) ≡ Some y = sym p.2 ∙ e in
            let is : t.row b 0 ≡ y = cc in
            inr (inl (
              v.0,
              v.2,
              sym is ∙ h.ticks.born_is b p.0 ∙ ap t.dir v.1
                  ∙ sym (dir_is (v.0 + 1) (omega (arith, v.2.inside))),
            ))
        go b (suc i) r =
            let r2 = subst (λ j. l.InRow b j s n) (sym (add-one i)) r in
            let p = h.ticks.placed b (i + 1) s n r2 in
            let same : Some (t.row b (i + 1)) ≡ Some y = sym p.2 ∙ e in
            let is : t.row b (i + 1) ≡ y = cc in
            inl (b, i, h.in_row b i s n r2, sym is ∙ sym (row_is b (i + 1) p.0 p.1))

    -- a lookup lies after its row and before the next
    lies : (r : Record) → In r (lookups_of closing) →
        (b : ℕ) × (i : ℕ) × (r.place ≡ k.row_at b i) × Between frame t b i (stamps.of_look r)
    lies r m =
        let f = h.look r m in
        let p = h.ticks.looked r.seat r.number f.0 f.1 f.2 in
        (f.0, f.1, f.3, subst (Between frame t f.0 f.1) (ap some_or (sym p.1)) p.2)

    -- so the places are right
    pub stamped : Stamped setup closing k stamps
    stamped = record {
      rows_rise = λ b i n o. omega (
        arith,
        h.ticks.rows_rise b i n o,
        row_is b i n (omega (arith, o)),
        row_is b (i + 1) n (omega (arith, o)),
      );
      dirs_rise = λ v o. omega (
        arith,
        h.ticks.dirs_rise v o,
        dir_is v (omega (arith, o)),
        dir_is (v + 1) (omega (arith, o)),
      );
      born_is = λ b v n e. row_is b 0 n (omega arith) ∙ h.ticks.born_is b n ∙ ap t.dir e
          ∙ sym (dir_is (v + 1) (omega (arith, e, h.ticks.born_within b n)));
      retires = λ b v old n e on base.
          let was = h.ticks.retires b n (omega (arith, e)) in
          let same = h.parent b v old n e base on in
          omega (
            arith,
            was,
            ap (λ z. t.row z (k.top z)) same,
            ap t.dir e,
            row_is old (k.top old) on (omega arith),
            dir_is (v + 1) (omega (arith, e, h.ticks.born_within b n)),
          );
      looks_after = λ r b i m n o e.
          let p = lies r m in
          let one = w.once b p.0 i p.1 n p.3.named o p.3.inside (sym e ∙ p.2) in
          omega (arith, p.3.after, row_is b i n o, ap (λ z. t.row z i) one.0, ap (t.row p.0) one.1);
      looks_before = λ r b i m n o e.
          let p = lies r m in
          let one = w.once b p.0 i p.1 n p.3.named (omega (arith, o)) p.3.inside (sym e ∙ p.2) in
          omega (
            arith,
            p.3.before (omega (arith, o, one.1, ap k.top one.0)),
            row_is b (i + 1) n (omega (arith, o)),
            ap (λ z. t.row z (i + 1)) one.0,
            ap (λ j. t.row p.0 (j + 1)) one.1,
          );
      looks_before_change = λ r b v old m n e on base is.
          let p = lies r m in
          let one = w.once old p.0 (k.top old) p.1 on p.3.named (omega arith) p.3.inside (sym is ∙ p.2) in
          omega (
            arith,
            p.3.before_change b n (omega (arith, e)) (h.parent b v old n e base on ∙ one.0),
            ap t.dir e,
            dir_is (v + 1) (omega (arith, e, h.ticks.born_within b n)),
          );
      looked = λ r m. let p = lies r m in (p.0, p.1, p.3.named, p.3.inside, p.2);
      own = λ q m n x inside place one less.
          let a = h.own q m n inside one less in
          let has = call_of_place q m x place in
          let y = h.ticks.after q m x q n has a in
          (y.0, place_of_call q m x q n y.0 has a y.1, y.2);
      seen = λ c x seat n m place inside one less.
          let a = h.seen c seat n m inside one less in
          let has = call_of_place (seat_of c) (number_of c) x place in
          let y = h.ticks.after (seat_of c) (number_of c) x seat n has a in
          (y.0, place_of_call (seat_of c) (number_of c) x seat n y.0 has a y.1, y.2);
    }
