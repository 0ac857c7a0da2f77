-- What is known of the calls of a closed table, by positions; and the calls of its pieces.
use Rattle.std.proofs.Common.{◌≡◌, ℕ, zero, suc, ◌+◌, ◌<◌, ◌≤◌, ◌⊎◌, Bool, true, false, cond, List, [], ◌∷◌, ◌++◌, Option, Some, None, true≢false, refl, inl, inr, sym, ap, ◌∙◌, subst, arith, lt-ltb, ltb-true}
use Rattle.std.specs.Prelude.{find, flat_map, option_to_list, nat_lt}
use Rattle.std.specs.Option.{option_map_or}
use Rattle.std.specs.List.{range_with_len}
use Rattle.std.proofs.lemmas.Bool.{cond-true, cond_both}
use Rattle.plain_map.specs.declared.records.Record.{Record}
use Rattle.plain_map.specs.History.{Placed, call_in, seat_of, number_of, seen_of}
use Rattle.bucket_states.specs.States.{BucketState}
use Rattle.bucket_states.specs.Laws.{applied_of, reply_at}
use Rattle.table_model.specs.Setup.{Setup, seats_of}
use Rattle.plain_map.specs.Calls.{is_update}
use Rattle.table_model.specs.Reading.{bucket_row, applied_at}
use Rattle.table_model.specs.Order.{Closing, Piece, ByBucketRow, ByDirectoryRow, ByLookup, calls_of, is_call, number_beside, new_number, new_in_rows, first_rows, calls_in}
use Rattle.list_laws.proofs.Lists.{In, Once, in_both, in_flat_map, flat_map_in, find_in, in_range, range_in}
use Rattle.placing_laws.proofs.Stuck.{is_call_at, call_is_at}
use Rattle.closed_laws.proofs.Book.{Book, Written}
use Rattle.closed_laws.proofs.Read.{base_is, state_is, first_rows_in, in_first_rows}

-- the seat's number is new in a bucket's row that was exchanged
pub record NewInRow (k : Book) (b i q m : ℕ) : Type 0 where
  pub named : k.named b ≡ true
  pub inside : i < k.top b
  pub above : applied_of (k.state_at b i) q < m
  pub is : applied_of (k.state_at b (i + 1)) q ≡ m

-- or in a bucket that the version after this one named first
pub record NewInVersion (k : Book) (v q m : ℕ) : Type 0 where
  pub inside : v < k.dir_top
  pub bucket : ℕ
  pub named : k.named bucket ≡ true
  pub born : k.born bucket ≡ v + 1
  pub old : ℕ
  pub old_named : k.named old ≡ true
  pub base : k.base_at bucket 0 ≡ Some (k.row_at old (k.top old))
  pub above : applied_of (k.state_at old (k.top old)) q < m
  pub is : applied_of (k.state_at bucket 0) q ≡ m

-- a call that there is, of this seat and with this number
pub record IsCallOf (closing : Closing) (q m : ℕ) (c : Placed) : Type 0 where
  pub there : In c (calls_of closing)
  pub seat : seat_of c ≡ q
  pub number : number_of c ≡ m

-- what the layers know of the calls
pub record Ledger (setup : Setup) (closing : Closing) (k : Book) : Type 0 where
  pub once : Once (calls_of closing)
  pub same : (c d : Placed) → In c (calls_of closing) → In d (calls_of closing) → seat_of c ≡ seat_of d →
      number_of c ≡ number_of d → c ≡ d
  pub seats : (c : Placed) → In c (calls_of closing) → seat_of c < seats_of setup
  pub numbered : (c : Placed) → In c (calls_of closing) → 1 ≤ number_of c
  pub sees : (c : Placed) (seat : ℕ) → In c (calls_of closing) → seats_of setup ≤ seat → seen_of c seat ≡ 0
  -- applied numbers are those of updates that there are
  pub applied : (b i q : ℕ) → k.named b ≡ true → i ≤ k.top b → q < seats_of setup → 0 < applied_of (k.state_at b i) q →
      (c : Placed) × IsCallOf closing q (applied_of (k.state_at b i) q) c × (is_update (call_in c) ≡ true)
  -- each has its unit, and no number has two
  pub unit : (b i q : ℕ) → k.named b ≡ true → i ≤ k.top b → q < seats_of setup → 0 < applied_of (k.state_at b i) q →
      ((a : ℕ) × (j : ℕ) × NewInRow k a j q (applied_of (k.state_at b i) q))
      ⊎ ((v : ℕ) × NewInVersion k v q (applied_of (k.state_at b i) q))
  pub one_row : (a b i j q m : ℕ) → NewInRow k a i q m → NewInRow k b j q m → (a ≡ b) × (i ≡ j)
  pub row_or_version : (a i v q m : ℕ) → NewInRow k a i q m → NewInVersion k v q m → ⊥
  pub one_version : (u v q m : ℕ) → NewInVersion k u q m → NewInVersion k v q m → u ≡ v
  pub one_number : (v q m n : ℕ) → NewInVersion k v q m → NewInVersion k v q n → m ≡ n
  -- an answered update is in the row of its place
  pub updated : (r : Record) → In r closing.records → is_update r.call ≡ true →
      (b : ℕ) × (i : ℕ) × (k.named b ≡ true) × (i ≤ k.top b) × (r.place ≡ k.row_at b i)
      × (applied_of (k.state_at b i) r.seat ≡ r.number) × (reply_at (k.state_at b i) r.seat ≡ Some r.reply)

-- where a member passes a test, one is found
find_some : {A : Type 0} → (f : A → Bool) (xs : List A) (x : A) → In x xs → f x ≡ true → (y : A) × (find f xs ≡ Some y)
find_some {A = A} f [] x i h = elim i [ ]
find_some {A = A} f (y ∷ xs) x i h = go (f y) refl i (find_some f xs x)
  where
    go : (b : Bool) → f y ≡ b → In x (y ∷ xs) → (In x xs → f x ≡ true → (z : A) × (find f xs ≡ Some z)) →
        (z : A) × (cond b (Some y) (find f xs) ≡ Some z)
    go true e j rest = (y, refl)
    go false e (inl s) rest = absurd (true≢false (sym h ∙ ap f s ∙ e))
    go false e (inr j) rest = rest j h

module _ (setup : Setup) (words : List ℕ) where
  -- a number that is new beside a base is above the base's
  beside_some : (q row base m : ℕ) → number_beside setup.shape words q row (Some base) ≡ Some m →
      (applied_at setup.shape words base q < m) × (applied_at setup.shape words row q ≡ m)
  beside_some q row base m = cond_both (nat_lt (applied_at setup.shape words base q)
      (applied_at setup.shape words row q)) (Some (applied_at setup.shape words row q)) None
      (λ (o : Option ℕ). o ≡ Some m → (applied_at setup.shape words base q < m)
      × (applied_at setup.shape words row q ≡ m))
      (λ e h. let is : applied_at setup.shape words row q ≡ m = cc in (
        omega (arith, is, ltb-true (applied_at setup.shape words base q) (applied_at setup.shape words row q) e),
        is,
      ))
      (λ e h. cc)

  -- and one above the base's is new
  some_beside : (q row base m : ℕ) → applied_at setup.shape words base q < m →
      applied_at setup.shape words row q ≡ m → number_beside setup.shape words q row (Some base) ≡ Some m
  some_beside q row base m less is =
      cond-true (nat_lt (applied_at setup.shape words base q) (applied_at setup.shape words row q))
      (Some (applied_at setup.shape words row q)) None
      (lt-ltb (applied_at setup.shape words base q) (applied_at setup.shape words row q) (omega (arith, less, is)))
      ∙ ap Some is

  -- a number that is new in some rows is new in one of them
  pub new_from : (rows : List ℕ) (q m : ℕ) → new_in_rows setup.shape words rows q ≡ Some m →
      (row : ℕ) × In row rows × (new_number setup.shape words q row ≡ Some m)
  new_from [] q m h = cc
  new_from (row ∷ rows) q m h = go (new_number setup.shape words q row) refl (new_from rows q m) h
    where
      go : (o : Option ℕ) → new_number setup.shape words q row ≡ o →
          (new_in_rows setup.shape words rows q ≡ Some m →
          (r : ℕ) × In r rows × (new_number setup.shape words q r ≡ Some m)) →
          option_map_or Some o (new_in_rows setup.shape words rows q) ≡ Some m →
          (r : ℕ) × In r (row ∷ rows) × (new_number setup.shape words q r ≡ Some m)
      go None e rest s = let r = rest s in (r.0, inr r.1, r.2)
      go (Some n) e rest s = (row, inl refl, e ∙ s)

  -- and one that is new in one of them is new in them
  pub in_new : (rows : List ℕ) (row q m : ℕ) → In row rows → new_number setup.shape words q row ≡ Some m →
      (n : ℕ) × (new_in_rows setup.shape words rows q ≡ Some n)
  in_new [] row q m i h = elim i [ ]
  in_new (r ∷ rows) row q m i h = go (new_number setup.shape words q r) refl i (in_new rows row q m)
    where
      go : (o : Option ℕ) → new_number setup.shape words q r ≡ o → In row (r ∷ rows) →
          (In row rows → new_number setup.shape words q row ≡ Some m →
          (n : ℕ) × (new_in_rows setup.shape words rows q ≡ Some n)) →
          (n : ℕ) × (option_map_or Some o (new_in_rows setup.shape words rows q) ≡ Some n)
      go (Some n) e j rest = (n, refl)
      go None e (inl s) rest = let no_one : None ≡ Some m =
          sym e ∙ ap (new_number setup.shape words q) (sym s) ∙ h in cc
      go None e (inr j) rest = rest j h

module _ (setup : Setup) (closing : Closing) (k : Book) (w : Written setup closing.words k) where
  -- the words have the book's applied numbers
  pub applied_is : (b i q : ℕ) → k.named b ≡ true → i ≤ k.top b →
      applied_at setup.shape closing.words (k.row_at b i) q ≡ applied_of (k.state_at b i) q
  applied_is b i q n o = ap (λ (s : BucketState). applied_of s q) (state_is setup closing.words k w b i n o)

  -- what is new in a row is so beside its base
  pub new_by : (q row : ℕ) (o : Option ℕ) → (bucket_row setup.shape closing.words row).base ≡ o →
      new_number setup.shape closing.words q row ≡ number_beside setup.shape closing.words q row o
  new_by q row o e = ap (number_beside setup.shape closing.words q row) e

  -- the base of a later row is the row before it
  pub base_then : (b i : ℕ) → k.named b ≡ true → i < k.top b →
      (bucket_row setup.shape closing.words (k.row_at b (i + 1))).base ≡ Some (k.row_at b i)
  base_then b i n h = base_is setup closing.words k w b (i + 1) n (omega (arith, h)) ∙ w.bases b i n h

  -- what the words tell as new in a row is so in the book
  pub row_new : (b i q m : ℕ) → k.named b ≡ true → i < k.top b →
      new_number setup.shape closing.words q (k.row_at b (i + 1)) ≡ Some m → NewInRow k b i q m
  row_new b i q m n h e =
      let r = beside_some setup closing.words q (k.row_at b (i + 1)) (k.row_at b i) m
      (sym (new_by q (k.row_at b (i + 1)) (Some (k.row_at b i)) (base_then b i n h)) ∙ e) in
      record {
        named = n;
        inside = h;
        above = omega (arith, r.0, applied_is b i q n (omega (arith, h)));
        is = sym (applied_is b (i + 1) q n (omega (arith, h))) ∙ r.1;
      }

  -- and back
  pub new_row : (b i q m : ℕ) → NewInRow k b i q m →
      new_number setup.shape closing.words q (k.row_at b (i + 1)) ≡ Some m
  new_row b i q m r =
      new_by q (k.row_at b (i + 1)) (Some (k.row_at b i)) (base_then b i r.named r.inside)
      ∙ some_beside setup closing.words q (k.row_at b (i + 1)) (k.row_at b i) m
      (omega (arith, r.above, r.inside, applied_is b i q r.named (omega (arith, r.inside))))
      (applied_is b (i + 1) q r.named (omega (arith, r.inside)) ∙ r.is)

  -- what they tell as new in a first row is so in the version
  pub version_new : (v row q m : ℕ) → v < k.dir_top →
      In row (first_rows setup.shape closing.words (k.dir_row (v + 1))) →
      new_number setup.shape closing.words q row ≡ Some m → NewInVersion k v q m
  version_new v row q m h i e =
      let f = first_rows_in setup closing.words k w v row h i in
      let p = w.parent f.0 v f.1 f.2 in
      let base : (bucket_row setup.shape closing.words row).base ≡ Some (k.row_at p.old (k.top p.old)) =
      ap (λ r. (bucket_row setup.shape closing.words r).base) f.3
      ∙ base_is setup closing.words k w f.0 0 f.1 (omega arith) ∙ p.base in
      let r = beside_some setup closing.words q row (k.row_at p.old (k.top p.old)) m
      (sym (new_by q row (Some (k.row_at p.old (k.top p.old))) base) ∙ e) in
      record {
        inside = h;
        bucket = f.0;
        named = f.1;
        born = f.2;
        old = p.old;
        old_named = p.named;
        base = p.base;
        above = omega (arith, r.0, applied_is p.old (k.top p.old) q p.named (omega arith));
        is = sym (applied_is f.0 0 q f.1 (omega arith))
            ∙ ap (λ x. applied_at setup.shape closing.words x q) (sym f.3) ∙ r.1;
      }

  -- and back
  pub new_version : (v q m : ℕ) (n : NewInVersion k v q m) →
      In (k.row_at n.bucket 0) (first_rows setup.shape closing.words (k.dir_row (v + 1)))
      × (new_number setup.shape closing.words q (k.row_at n.bucket 0) ≡ Some m)
  new_version v q m n =
      let base : (bucket_row setup.shape closing.words (k.row_at n.bucket 0)).base ≡ Some
      (k.row_at n.old (k.top n.old)) = base_is setup closing.words k w n.bucket 0 n.named (omega arith) ∙ n.base in (
        in_first_rows setup closing.words k w v n.bucket n.inside n.named n.born,
        new_by q (k.row_at n.bucket 0) (Some (k.row_at n.old (k.top n.old))) base
            ∙ some_beside setup closing.words q (k.row_at n.bucket 0) (k.row_at n.old (k.top n.old)) m
            (omega (arith, n.above, applied_is n.old (k.top n.old) q n.old_named (omega arith)))
            (applied_is n.bucket 0 q n.named (omega arith) ∙ n.is),
      )

  module _ (l : Ledger setup closing k) where
    -- the call of a seat whose number is new in some rows
    abbrev pub call_at : List ℕ → ℕ → List Placed
    call_at rows q = option_map_or (λ number. option_to_list (find (is_call q number) (calls_of closing)))
        (new_in_rows setup.shape closing.words rows q) []

    -- what stands in an optional list is what was found
    found_in : (o : Option Placed) (c : Placed) → In c (option_to_list o) → o ≡ Some c
    found_in None c i = elim i [ ]
    found_in (Some d) c (inl e) = ap Some (sym e)
    found_in (Some d) c (inr j) = elim j [ ]

    -- it is the call of the seat with the new number
    pub call_at_in : (rows : List ℕ) (q : ℕ) (c : Placed) → In c (call_at rows q) →
        (m : ℕ) × (new_in_rows setup.shape closing.words rows q ≡ Some m) × IsCallOf closing q m c
    call_at_in rows q c i = go (new_in_rows setup.shape closing.words rows q) refl i
      where
        go : (o : Option ℕ) → new_in_rows setup.shape closing.words rows q ≡ o →
            In c (option_map_or (λ number. option_to_list (find (is_call q number) (calls_of closing))) o []) →
            (m : ℕ) × (new_in_rows setup.shape closing.words rows q ≡ Some m) × IsCallOf closing q m c
        go None e j = elim j [ ]
        go (Some m) e j =
            let f = find_in (is_call q m) (calls_of closing) c (found_in (find (is_call q m) (calls_of closing)) c j) in
            let is = call_is_at c q m f.1 in
            (m, e, record { there = f.0; seat = is.0; number = is.1 })

    -- and the call of the seat with the new number is it
    pub in_call_at : (rows : List ℕ) (q m : ℕ) (c : Placed) → new_in_rows setup.shape closing.words rows q ≡ Some m →
        IsCallOf closing q m c → In c (call_at rows q)
    in_call_at rows q m c e is =
        let f = find_some (is_call q m) (calls_of closing) c is.there (is_call_at c q m is.seat is.number) in
        let g = find_in (is_call q m) (calls_of closing) f.0 f.1 in
        let h = call_is_at f.0 q m g.1 in
        let same : f.0 ≡ c = l.same f.0 c g.0 is.there (h.0 ∙ sym is.seat) (h.1 ∙ sym is.number) in
        subst (λ o. In c (option_map_or (λ number. option_to_list (find (is_call q number) (calls_of closing))) o
        [])) (sym e)
        (subst (λ o. In c (option_to_list o)) (sym f.1) (inl (sym same)))

    -- what is found is the call
    pub find_exactly : (q m : ℕ) (c : Placed) → IsCallOf closing q m c → find (is_call q m) (calls_of closing) ≡ Some c
    find_exactly q m c is =
        let f = find_some (is_call q m) (calls_of closing) c is.there (is_call_at c q m is.seat is.number) in
        let g = find_in (is_call q m) (calls_of closing) f.0 f.1 in
        let h = call_is_at f.0 q m g.1 in
        f.1 ∙ ap Some (l.same f.0 c g.0 is.there (h.0 ∙ sym is.seat) (h.1 ∙ sym is.number))

    -- the calls of a bucket row are those whose numbers are new in it
    pub row_call : (b i : ℕ) (c : Placed) → k.named b ≡ true → i < k.top b →
        In c (calls_in setup.shape closing (ByBucketRow (k.row_at b (i + 1)))) →
        IsCallOf closing (seat_of c) (number_of c) c × NewInRow k b i (seat_of c) (number_of c)
    row_call b i c n h m =
        let rows = k.row_at b (i + 1) ∷ [] in
        let r = in_flat_map (call_at rows) (range_with_len 0 (seats_of setup)) c m in
        let a = call_at_in rows r.0 c r.2 in
        let f = new_from setup closing.words rows r.0 a.0 a.1 in
        let new : NewInRow k b i r.0 a.0 = elim f.1 [
          | inl e ↦ row_new b i r.0 a.0 n h
              (ap (new_number setup.shape closing.words r.0) (sym e) ∙ f.2)
          | inr x ↦ elim x [ ]
        ] in (
          record { there = a.2.there; seat = refl; number = refl },
          subst (λ q. NewInRow k b i q (number_of c)) (sym a.2.seat)
              (subst (NewInRow k b i r.0) (sym a.2.number) new),
        )

    -- and the call of a number that is new in it is one of them
    pub call_of_row : (b i q m : ℕ) (c : Placed) → q < seats_of setup → NewInRow k b i q m → IsCallOf closing q m c →
        In c (calls_in setup.shape closing (ByBucketRow (k.row_at b (i + 1))))
    call_of_row b i q m c few new is =
        let rows = k.row_at b (i + 1) ∷ [] in
        flat_map_in (call_at rows) (range_with_len 0 (seats_of setup)) q c
        (range_in 0 (seats_of setup) q (omega arith) (omega (arith, few)))
        (in_call_at rows q m c (ap (λ o. option_map_or Some o None) (new_row b i q m new)) is)

    -- and those of a directory row the ones whose numbers are new in its new leaves
    pub version_call : (v : ℕ) (c : Placed) → v < k.dir_top →
        In c (calls_in setup.shape closing (ByDirectoryRow (k.dir_row (v + 1)))) →
        IsCallOf closing (seat_of c) (number_of c) c × NewInVersion k v (seat_of c) (number_of c)
    version_call v c h m =
        let rows = first_rows setup.shape closing.words (k.dir_row (v + 1)) in
        let r = in_flat_map (call_at rows) (range_with_len 0 (seats_of setup)) c m in
        let a = call_at_in rows r.0 c r.2 in
        let f = new_from setup closing.words rows r.0 a.0 a.1 in
        let new = version_new v f.0 r.0 a.0 h f.1 f.2 in (
          record { there = a.2.there; seat = refl; number = refl },
          subst (λ q. NewInVersion k v q (number_of c)) (sym a.2.seat)
              (subst (NewInVersion k v r.0) (sym a.2.number) new),
        )

    -- and the call of a number that is new by it is one of them
    pub call_of_version : (v q m : ℕ) (c : Placed) → q < seats_of setup → NewInVersion k v q m →
        IsCallOf closing q m c → In c (calls_in setup.shape closing (ByDirectoryRow (k.dir_row (v + 1))))
    call_of_version v q m c few new is =
        let rows = first_rows setup.shape closing.words (k.dir_row (v + 1)) in
        let there = new_version v q m new in
        let some = in_new setup closing.words rows (k.row_at new.bucket 0) q m there.0 there.1 in
        let back = new_from setup closing.words rows q some.0 some.1 in
        let number = l.one_number v q some.0 m (version_new v back.0 q some.0 new.inside back.1 back.2) new in
        flat_map_in (call_at rows) (range_with_len 0 (seats_of setup)) q c
        (range_in 0 (seats_of setup) q (omega arith) (omega (arith, few)))
        (in_call_at rows q m c (some.1 ∙ ap Some number) is)

    -- each seat stands once
    once_from : (rows : List ℕ) (a n : ℕ) → Once (flat_map (call_at rows) (range_with_len a n))
    once_from rows a zero = tt
    once_from rows a (suc n) = joined (call_at rows a) (flat_map (call_at rows) (range_with_len (a + 1) n))
        (single a) (once_from rows (a + 1) n)
        (λ c i j. let here = call_at_in rows a c i in
        let far = in_flat_map (call_at rows) (range_with_len (a + 1) n) c j in
        let there = call_at_in rows far.0 c far.2 in
        let low = in_range (a + 1) n far.0 far.1 in
        omega (arith, low.0, here.2.seat, there.2.seat))
      where
        joined : (xs ys : List Placed) → Once xs → Once ys → ((c : Placed) → In c xs → In c ys → ⊥) → Once (xs ++ ys)
        joined [] ys o q no_both = q
        joined (x ∷ xs) ys o q no_both = (
          (λ i. elim (in_both x xs ys i)
              [ inl j ↦ o.0 j | inr j ↦ no_both x (inl refl) j ]),
          joined xs ys o.1 q (λ z i. no_both z (inr i)),
        )

        of_option : (o : Option Placed) → Once (option_to_list o)
        of_option None = tt
        of_option (Some c) = ((λ i. elim i [ ]), tt)

        of_number : (q : ℕ) (o : Option ℕ) →
            Once (option_map_or (λ number. option_to_list (find (is_call q number) (calls_of closing))) o [])
        of_number q None = tt
        of_number q (Some m) = of_option (find (is_call q m) (calls_of closing))

        single : (q : ℕ) → Once (call_at rows q)
        single q = of_number q (new_in_rows setup.shape closing.words rows q)

    -- no piece has a call twice
    pub calls_once : (x : Piece) → Once (calls_in setup.shape closing x)
    calls_once (ByBucketRow row) = once_from (row ∷ []) 0 (seats_of setup)
    calls_once (ByDirectoryRow row) = once_from (first_rows setup.shape closing.words row) 0 (seats_of setup)
    calls_once (ByLookup r) = ((λ i. elim i [ ]), tt)
