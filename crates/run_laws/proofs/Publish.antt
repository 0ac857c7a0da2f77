-- A bucket row is published.
use Rattle.std.proofs.Common.{◌≡◌, ◌≢◌, ℕ, ◌+◌, ◌-◌, ◌^◌, ◌<◌, ◌≤◌, ◌⊎◌, Bool, true, false, cond, List, length, get_or, inl, inr, refl, sym, ap, ◌∙◌, subst, arith}
use Rattle.std.specs.Prelude.{Option, Some, None}
use Rattle.std.proofs.lemmas.Bool.{cond_both, leb-true, leb-false, eqb-true, eqb-false, cases_lt, cases_eq}
use Rattle.std.proofs.lemmas.List.{get_or_past}
use Rattle.step_counts.specs.declared.rows.SeatRows.{SeatRows}
use Rattle.plain_map.specs.declared.full.FullKind.TheVariants.{BucketRows}
use Rattle.plain_map.specs.Calls.{key_in}
use Rattle.word_rows.specs.Shape.{count_of}
use Rattle.word_rows.specs.declared.addresses.Address.{Address}
use Rattle.word_rows.specs.declared.addresses.Address.TheVariants.{OpWord, BucketRowWord, BucketWord, DirectoryWord}
use Rattle.word_rows.specs.Memory.{put, put_at, read}
use Rattle.word_rows.proofs.MemoryLemmas.{put_is, put_at_is, put_same, put_other, put_at_same, put_at_row, put_at_place}
use Rattle.bucket_states.specs.declared.ops.Op.{Op}
use Rattle.bucket_states.specs.States.{BucketState}
use Rattle.bucket_states.specs.Laws.{applied_of}
use Rattle.bucket_states.specs.Values.{AreUpdates, IsUpdate}
use Rattle.table_model.specs.Setup.{Setup, seats_of}
use Rattle.table_model.specs.declared.rounds.Round.{Round}
use Rattle.table_model.specs.Phases.{BucketTry, TryExchange, DirRoot, Stuck}
use Rattle.table_model.specs.SeatStates.{Account, Flight, InFlight}
use Rattle.table_model.specs.Stores.{made_bucket}
use Rattle.table_model.specs.Goes.{after_exchange, answered_by, is_applied}
use Rattle.run_invariant.proofs.Numbers.{row_no_apart, row_no_within}
use Rattle.run_invariant.proofs.RowLemmas.{answered, BucketLaws, made_sound, made_has, made_rises, put_at_each, put_at_all}
use Rattle.run_invariant.proofs.Events.{published}
use Rattle.run_invariant.proofs.Invariant.{Calls, op_no, IsOwn, InRound, Directories, Comes, Common, Descends, Recalls, line, Local, Shared, Rows, Helped, IsRow, Keeps, Moves, Goes, HasOp, Leads, Carried, lead, last, row_room, bits, row_no, made_words}
use Rattle.list_laws.proofs.Options.{some_same}
use Rattle.plain_map.specs.Updates.{number_limit}

ruleset writes = (put_is, put_at_is, eqb-true, eqb-false)

module _ (laws : BucketLaws) (setup : Setup) (me : ℕ) (c : Common) (account : Account) (flight : Flight)
    (local : Local) (h : me < seats_of setup) (s : Shared setup c) (round : Round) (attempt : BucketTry)
    (found : List (Option Op)) (k : Keeps setup c me account.used flight local (TryExchange round attempt found))
    (same : c.memory.bucket round.bucket ≡ attempt.row) where
  -- the bucket, the number of the new row, and all that is shared after the exchange
  abbrev b : ℕ
  b = round.bucket

  -- the number of the new row
  abbrev no : ℕ
  no = row_no setup me (c.used me).bucket_rows

  -- all that is shared after the exchange
  abbrev d : Common
  d = published setup me b attempt found c

  -- it loaded the row that is the bucket's now
  pub current : local.base ≡ c.top b
  current = (s.rows.once b b local.base (c.top b) k.in_round.there k.in_round.there k.opens.looks.old (omega arith)
      (sym k.opens.looks.row_is ∙ sym same ∙ s.rows.word_is b k.in_round.there)).1

  -- the row that it loaded is sound
  was : IsRow setup (c.base_at b local.base) (c.pre b) (c.deep b) (c.words_at b local.base) attempt.state
  was = subst (IsRow setup (c.base_at b local.base) (c.pre b) (c.deep b) (c.words_at b local.base))
      (sym k.opens.state_is) (s.rows.sound b local.base k.in_round.there k.opens.looks.old)

  -- all that was found are updates
  updates : AreUpdates found
  updates seat op e = elim (cases_lt seat (length found)) [
    | inr n ↦ absurd (let past = get_or_past found seat None (omega arith) in grind (arith, past, e))
    | inl n ↦ elim (k.entries seat n).real [
      | inl z ↦ absurd (grind (arith, z, e))
      | inr r ↦ (let sound = s.calls.sound seat r.0 (omega (arith, k.all)) r.1 in
          let is : c.op_at seat r.0 ≡ op = some_same (sym r.2 ∙ e) in
          (subst (λ o. IsUpdate o.call) is sound.update, subst (λ (o : Op). o.number < number_limit) is sound.few))
    ]
  ]

  -- its number can be spelled
  few : attempt.row + 1 < 2 ^ 64
  few = omega (
    arith,
    s.rows.within b local.base k.in_round.there k.opens.looks.old,
    k.opens.looks.row_is,
    s.opened.shape.few.bucket_rows,
  )

  -- the new row is sound
  pub new_sound : IsRow setup (Some attempt.row) (c.pre b) (c.deep b) (made_words setup attempt found)
      (made_bucket setup attempt found)
  new_sound = made_sound laws setup attempt found (c.pre b) (c.deep b) (c.words_at b local.base)
      (c.base_at b local.base) was k.all updates few

  -- what was found of a seat is in it
  pub has : (p : ℕ) (op : Op) → get_or found p None ≡ Some op → bits setup (c.deep b) (key_in op.call) ≡ c.pre b →
      HasOp (made_bucket setup attempt found) p op
  has p op e f = made_has laws setup attempt found (c.pre b) (c.deep b) (c.words_at b local.base)
      (c.base_at b local.base) was k.all updates p op e f

  -- the row that it was made from is open, and has no larger numbers
  pub was_open : (last c b).frozen ≡ false
  was_open = (let e = k.opens.state_is in let o = k.opens.open_ in grind (arith, current, e, o))

  -- no number falls
  pub grows : (p : ℕ) → applied_of (last c b) p ≤ applied_of (made_bucket setup attempt found) p
  grows p = omega (
    arith,
    made_rises laws setup attempt found (c.pre b) (c.deep b) (c.words_at b local.base)
        (c.base_at b local.base) was k.all updates p,
    ap (λ (x : BucketState). applied_of x p) k.opens.state_is,
    ap (λ i. applied_of (c.state_at b i) p) current,
  )

  -- there is a number for the new row
  pub room : (c.used me).bucket_rows < row_room setup me
  room = omega (arith, k.room.rows, k.in_round.two)

  -- a place that there was before
  older : (a i : ℕ) → (a ≢ b) ⊎ (i ≢ c.top b + 1) → i ≤ put c.top b (c.top b + 1) a → i ≤ c.top a
  older a i n m = grind (arith, writes)

  -- no row that there was has the new number
  fresh_no : (a i : ℕ) → c.named a ≡ true → i ≤ c.top a → c.row_at a i ≢ no
  fresh_no a i n m = s.rows.fresh a i me (c.used me).bucket_rows n m h (omega arith) room

  -- the last rows then
  pub last_now : last d b ≡ made_bucket setup attempt found
  last_now = ap (λ t. d.state_at b t) (put_same c.top b (c.top b + 1))
      ∙ put_at_same c.state_at b (c.top b + 1) (made_bucket setup attempt found)

  -- every other bucket's last row is as it was
  pub last_other : (a : ℕ) → a ≢ b → last d a ≡ last c a
  last_other a n = ap (λ t. d.state_at a t) (put_other c.top b (c.top b + 1) a n)
      ∙ put_at_row c.state_at b (c.top b + 1) (made_bucket setup attempt found) a (c.top a) n

  -- a bucket that is frozen is another
  pub frozen_other : (a : ℕ) → (last c a).frozen ≡ true → a ≢ b
  frozen_other a f e = clash (sym (ap (λ q. (last c q).frozen) e) ∙ f) was_open
    where
      clash : (last c b).frozen ≡ true → (last c b).frozen ≡ false → ⊥
      clash t o = cc

  -- and so is every first row
  pub first_same : (a : ℕ) → d.state_at a 0 ≡ c.state_at a 0
  first_same a = put_at_place c.state_at b (c.top b + 1) (made_bucket setup attempt found) a 0 (omega arith)

  -- so no number of any bucket falls
  last_up : (a p : ℕ) → applied_of (last c a) p ≤ applied_of (last d a) p
  last_up a p = elim (cases_eq a b) [
    | inl e ↦ subst (λ q. applied_of (last c q) p ≤ applied_of (last d q) p) (sym e)
        (omega (arith, ap (λ (x : BucketState). applied_of x p) last_now, grows p))
    | inr o ↦ omega (arith, ap (λ (x : BucketState). applied_of x p) (last_other a o))
  ]

  -- the directories lead as they did
  leads : Leads setup d.dir_top d.dir_at d.named d.pre d.deep d.born d.top d.state_at
  leads = record {
    there = s.leads.there;
    for_it = s.leads.for_it;
    every = s.leads.every;
    stands = s.leads.stands;
    born_by = s.leads.born_by;
    step = λ v key o n. (let r = s.leads.step v key o n in
        let same = last_other (lead setup c v key) (frozen_other (lead setup c v key) r.frozen) in record {
          frozen = ap (λ (x : BucketState). x.frozen) same ∙ r.frozen;
          newborn = r.newborn;
          carries = λ p. omega (
            arith,
            r.carries p,
            ap (λ (x : BucketState). applied_of x p) same,
            ap (λ (x : BucketState). applied_of x p) (first_same (lead setup c (v + 1) key)),
          );
        });
  }

  -- no op is announced
  ops_same : (p : ℕ) → (d.used p).op_rows ≡ (c.used p).op_rows
  ops_same p = grind (arith, writes)

  -- the directory rows are as they were
  directories_same : Directories setup d.memory.root d.memory.directory d.dir_top d.dir_row d.dir_at d.used
  directories_same = grind (arith, writes, s.directories.fresh)

  -- what holds of a seat's last op still does
  of_op : (p : ℕ) (P : Op → Type 0) → P (c.op_at p ((c.used p).op_rows - 1)) → P (d.op_at p ((d.used p).op_rows - 1))
  of_op p P z = subst (λ n. P (c.op_at p (n - 1))) (sym (ops_same p)) z

  -- what the directories have of each seat's op
  carried : Carried setup d.dir_top d.dir_at d.top d.state_at d.used d.op_at d.rooted d.first_dir d.tried_at
      d.dir_tried d.dir_since
  carried = record {
    announced = λ p hp t. omega (arith, ops_same p, s.carried.announced p hp t);
    begun = s.carried.begun;
    carried = λ p v hp r o q. of_op p (λ z. lead setup c (v + 1) (key_in z.call) ≢ lead setup c v (key_in z.call) →
        z.number ≤ applied_of (d.state_at (lead setup c (v + 1) (key_in z.call)) 0) p)
        (λ n. omega (
          arith,
          s.carried.carried p v hp r o q n,
          ap (λ (x : BucketState). applied_of x p) (first_same (lead setup c (v + 1)
              (key_in (c.op_at p ((c.used p).op_rows - 1)).call))),
        ));
    dir_begun = s.carried.dir_begun;
    frozen = λ p hp t. (let f = s.carried.frozen p hp t in
        ap (λ (x : BucketState). x.frozen) (last_other (c.tried_at p) (frozen_other (c.tried_at p) f)) ∙ f);
    lacks = λ p hp t. of_op p (λ z. applied_of (last d (c.tried_at p)) p < z.number)
        (let f = s.carried.frozen p hp t in omega (
          arith,
          s.carried.lacks p hp t,
          ap (λ (x : BucketState). applied_of x p) (last_other (c.tried_at p) (frozen_other (c.tried_at p) f)),
        ));
    led = λ p hp t. of_op p (λ z. (u : ℕ) × (u ≤ c.dir_since p) × (lead setup c u (key_in z.call) ≡ c.tried_at p))
        (s.carried.led p hp t);
    replaced = λ p v hp t o q. of_op p (λ z. lead setup c (v + 1) (key_in z.call) ≢ c.tried_at p)
        (s.carried.replaced p v hp t o q);
  }

  -- the new row is the bucket's last, open rows stay open, and no number comes twice
  rows : Rows setup d.memory.bucket d.memory.bucket_row d.named d.pre d.deep d.top d.row_at d.base_at d.words_at
      d.state_at d.used
  rows = record {
    word_is = grind (arith, writes, s.rows.word_is);
    inside = s.rows.inside;
    fresh_word = λ a p j n hp hu hj. s.rows.fresh_word a p j n hp (grind (arith, writes, hu)) hj;
    within = λ a i n m. put_at_each c.row_at c.row_at b (c.top b + 1) no no
        (λ r _. r < count_of setup.shape BucketRows) a i (λ o. s.rows.within a i n (older a i o m))
        (λ e f. row_no_within setup me (c.used me).bucket_rows s.opened h room);
    fresh = λ a i p j n m hp hu hj. put_at_each c.row_at c.row_at b (c.top b + 1) no no (λ r _. r ≢ row_no setup p j)
        a i (λ o. s.rows.fresh a i p j n (older a i o m) hp (used_up p j hu) hj)
        (λ e f same_no. other p j hu (row_no_apart setup me p (c.used me).bucket_rows j s.opened h hp room hj same_no));
    once = λ x y i j nx ny hi hj. put_at_each c.row_at c.row_at b (c.top b + 1) no no
        (λ r _. r ≡ put_at c.row_at b (c.top b + 1) no y j → (x ≡ y) × (i ≡ j)) x i
        (λ o. put_at_each c.row_at c.row_at b (c.top b + 1) no no (λ r _. c.row_at x i ≡ r → (x ≡ y) × (i ≡ j)) y j
        (λ q. s.rows.once x y i j nx ny (older x i o hi) (older y j q hj))
        (λ e f g. absurd (fresh_no x i nx (older x i o hi) g)))
        (λ e f. put_at_each c.row_at c.row_at b (c.top b + 1) no no (λ r _. no ≡ r → (x ≡ y) × (i ≡ j)) y j
        (λ q g. absurd (fresh_no y j ny (older y j q hj) (sym g))) (λ e' f' g. (e ∙ sym e', f ∙ sym f')));
    rows_are = λ a i t n m ht. put_at_each c.row_at c.words_at b (c.top b + 1) no (made_words setup attempt found)
        (λ r ws. c.memory.bucket_row r t ≡ get_or ws t 0) a i (λ o. s.rows.rows_are a i t n (older a i o m) ht)
        (λ e f. k.so_far t ht);
    sound = λ a i n m. put_at_all c.base_at c.words_at c.state_at b (c.top b + 1) (Some attempt.row)
        (made_words setup attempt found) (made_bucket setup attempt found)
        (λ bs ws st. IsRow setup bs (c.pre a) (c.deep a) ws st) a i (λ o. s.rows.sound a i n (older a i o m))
        (λ e f. subst (λ q. IsRow setup (Some attempt.row) (c.pre q) (c.deep q) (made_words setup attempt found)
        (made_bucket setup attempt found)) (sym e) new_sound);
    open_ = λ a i n m. put_at_each c.state_at c.state_at b (c.top b + 1) (made_bucket setup attempt found)
        (made_bucket setup attempt found) (λ st _. i < d.top a → st.frozen ≡ false) a i
        (λ o z. old_open a i n (older a i o (omega (arith, z))) z)
        (λ e f z. absurd (top_new a e (omega (arith, z, f)))) m;
    rises = λ a i p n m. put_at_each c.state_at c.state_at b (c.top b + 1) (made_bucket setup attempt found)
        (made_bucket setup attempt found) (λ st _. applied_of st p ≤ applied_of (last d a) p) a i
        (λ o. old_rises a i p n (older a i o m)) (λ e f. new_rises a p e);
  }
    where
      top_new : (a : ℕ) → a ≡ b → c.top b + 1 < d.top a → ⊥
      top_new a e z = grind (arith, writes, e, z)

      old_open : (a i : ℕ) → c.named a ≡ true → i ≤ c.top a → i < d.top a → (c.state_at a i).frozen ≡ false
      old_open a i n m z = (let open_ = s.rows.open_ a i n in grind (arith, writes, open_, was_open, m, z))

      new_rises : (a p : ℕ) → a ≡ b → applied_of (made_bucket setup attempt found) p ≤ applied_of (last d a) p
      new_rises a p e = subst (λ q. applied_of (made_bucket setup attempt found) p ≤ applied_of (last d q) p) (sym e)
          (omega (arith, ap (λ (x : BucketState). applied_of x p) last_now))

      old_rises : (a i p : ℕ) → c.named a ≡ true → i ≤ c.top a → applied_of (c.state_at a i) p ≤ applied_of (last d a) p
      old_rises a i p n m = elim (cases_eq a b) [
        | inl e ↦ subst (λ q. applied_of (c.state_at q i) p ≤ applied_of (last d q) p) (sym e)
            (omega (
              arith,
              ap (λ (x : BucketState). applied_of x p) last_now,
              grows p,
              s.rows.rises b i p k.in_round.there (omega (arith, m, ap c.top e)),
            ))
        | inr o ↦ omega (arith, ap (λ (x : BucketState). applied_of x p) (last_other a o), s.rows.rises a i p n m)
      ]

      used_up : (p j : ℕ) → (put c.used me (record (c.used me) { bucket_rows = (c.used me).bucket_rows + 1 })
          p).bucket_rows ≤ j → (c.used p).bucket_rows ≤ j
      used_up p j hu = grind (arith, writes)

      other : (p j : ℕ) → (put c.used me (record (c.used me) { bucket_rows = (c.used me).bucket_rows + 1 })
          p).bucket_rows ≤ j → (me ≡ p) × ((c.used me).bucket_rows ≡ j) → ⊥
      other p j hu e = grind (arith, writes)

  -- the op of a seat whose tries began before
  new_has : (p : ℕ) → p < seats_of setup → c.tried p ≡ true → c.tried_at p ≡ b → c.since p < c.top b →
      HasOp (made_bucket setup attempt found) p (c.op_at p ((c.used p).op_rows - 1))
  new_has p hp t a n =
      has p (c.op_at p ((c.used p).op_rows - 1)) ((k.entries p (omega (arith, k.all))).late t a
      (omega (arith, current)))
      (ap (λ q. bits setup (c.deep q) (key_in (c.op_at p ((c.used p).op_rows - 1)).call)) (sym a)
      ∙ s.helped.for_it p hp t ∙ ap c.pre a)

  -- whose tries began before the row from which the new one was made has its op in the new row, or the bucket is frozen
  helped : Helped setup d.named d.pre d.deep d.top d.state_at d.used d.op_at d.tried d.tried_at d.since
  helped = record {
    announced = grind (arith, writes, s.helped.announced);
    there = s.helped.there;
    begun = grind (arith, writes, s.helped.begun);
    for_it = grind (arith, writes, s.helped.for_it);
    helped = λ p i hp t n m. subst (λ o. HasOp (d.state_at (c.tried_at p) i) p (c.op_at p (o - 1))) (sym (ops_same p))
        (put_at_each c.state_at c.state_at b (c.top b + 1) (made_bucket setup attempt found)
        (made_bucket setup attempt found) (λ st _. HasOp st p (c.op_at p ((c.used p).op_rows - 1))) (c.tried_at p) i
        (λ o. s.helped.helped p i hp t n (older (c.tried_at p) i o m)) (λ e f. new_has p hp t e (omega (arith, n, f))));
  }

  -- what the exchange changes for the other seats
  moves : Moves setup me c d
  moves = record {
    dir_up = omega arith;
    dirs = λ v o. (refl, refl);
    named_up = λ a n. (n, refl, refl, grind (arith, writes));
    rows = λ a i n o. grind (arith, writes, o);
    last_up = λ a p n. last_up a p;
    now_up = λ key p. last_up (lead setup c c.dir_top key) p;
    frozen = λ a n f. put_other c.top b (c.top b + 1) a (frozen_other a f);
    left = λ key v o n. n;
    used = λ q n. put_other c.used me (record (c.used me) { bucket_rows = (c.used me).bucket_rows + 1 }) q n;
    ops_up = λ p. omega (arith, ops_same p);
    calls = λ p j n. (refl, refl);
    roots = λ q n. (refl, refl);
    tries = λ q n. (refl, refl, refl);
    dir_tries = λ q n. (refl, refl);
    late = λ p t n. (t, refl, refl, ops_same p);
    late_root = λ p t n. (t, refl, ops_same p);
    late_dir = λ p t n. (t, refl, refl);
    own = λ q a n hq o. own q a n hq o;
  }
    where
      own : (q : ℕ) (a : Address) → q ≢ me → q < seats_of setup → IsOwn setup q (c.used q) a →
          read d.memory a ≡ read c.memory a
      own q (OpWord r i) n hq o = refl
      own q (BucketRowWord r i) n hq o = refl
      own q (DirectoryWord r i) n hq o = refl
      own q (BucketWord r) n hq o =
          put_other c.memory.bucket b no r (λ e. s.rows.fresh_word b q o.0 k.in_round.there hq o.1 o.2 (sym e ∙ o.3))
      own q a n hq o = absurd (grind (arith, o))

  -- the new row is made from the one before it; a bucket that another comes from is frozen, so it is not this one
  pub descends : Descends setup c → Descends setup d
  descends t = record {
    dir_says = t.dir_says;
    dir_first = t.dir_first;
    dir_bases = t.dir_bases;
    bases = λ a i n m. elim (cases_eq a b) [
      | inl e ↦ subst (λ q. i < d.top q → d.base_at q (i + 1) ≡ Some (d.row_at q i)) (sym e) (own_base i) m
      | inr o ↦ put_at_row c.base_at b (c.top b + 1) (Some attempt.row) a (i + 1) o
          ∙ t.bases a i n (omega (arith, m, put_other c.top b (c.top b + 1) a o))
          ∙ ap (λ r. Some r) (sym (put_at_row c.row_at b (c.top b + 1) no a i o))
    ];
    opening = λ a n e. first_base a ∙ t.opening a n e;
    starts = t.starts;
    born_within = t.born_within;
    entries = t.entries;
    present = t.present;
    newcomers = t.newcomers;
    there = t.there;
    comes = λ a v n e. comes a (c.from a) (t.comes a v n e);
    stood = t.stood;
    gone = t.gone;
    parent_leads = t.parent_leads;
  }
    where
      first_base : (a : ℕ) → d.base_at a 0 ≡ c.base_at a 0
      first_base a = put_at_place c.base_at b (c.top b + 1) (Some attempt.row) a 0 (omega arith)

      own_base : (i : ℕ) → i < d.top b → d.base_at b (i + 1) ≡ Some (d.row_at b i)
      own_base i m = elim (cases_eq i (c.top b)) [
        | inl e ↦ subst (λ j. d.base_at b (j + 1) ≡ Some (d.row_at b j)) (sym e)
            (put_at_same c.base_at b (c.top b + 1) (Some attempt.row)
            ∙ ap (λ r. Some r) (k.opens.looks.row_is ∙ ap (c.row_at b) current
            ∙ sym (put_at_place c.row_at b (c.top b + 1) no b (c.top b) (omega arith))))
        | inr o ↦
            let low : i < c.top b = omega (arith, o, m, put_same c.top b (c.top b + 1)) in
            put_at_place c.base_at b (c.top b + 1) (Some attempt.row) b (i + 1) (omega (arith, low))
            ∙ t.bases b i k.in_round.there low ∙ ap (λ r. Some r) (sym (put_at_place c.row_at b (c.top b + 1) no b i
            (omega (arith, low))))
      ]

      comes : (a old : ℕ) → Comes (line c old) (line c a) → Comes (line d old) (line d a)
      comes a old x =
          let other : old ≢ b = frozen_other old x.frozen in
          let same : last d old ≡ last c old = last_other old other in
          let top : d.top old ≡ c.top old = put_other c.top b (c.top b + 1) old other in
          let row : d.row_at old (d.top old) ≡ c.row_at old (c.top old) =
          ap (d.row_at old) top ∙ put_at_row c.row_at b (c.top b + 1) no old (c.top old) other in
          record {
            frozen = ap (λ (y : BucketState). y.frozen) same ∙ x.frozen;
            shallow = x.shallow;
            prefix = x.prefix;
            base = first_base a ∙ x.base ∙ ap (λ r. Some r) (sym row);
            carries = λ p. omega (
              arith,
              x.carries p,
              ap (λ (y : BucketState). applied_of y p) same,
              ap (λ (y : BucketState). applied_of y p) (first_same a),
            );
          }

  -- nothing that was published comes from elsewhere now
  pub recalls : Recalls c d
  recalls = record {
    origins = λ a n. (refl, refl);
    bases = λ a i n o. put_at_each c.base_at c.base_at b (c.top b + 1) (Some attempt.row) (Some attempt.row)
        (λ s _. i ≤ c.top a → s ≡ c.base_at a i) a i (λ _ _. refl)
        (λ e f m. absurd (omega (arith, m, f, ap c.top e))) o;
    dir_bases = λ v o. refl;
  }

  -- the announced ops are as they were
  calls : Calls setup d.memory.announced d.memory.op d.used d.op_at d.op_words
  calls = record {
    none = λ p hp e. ops_same p ∙ s.calls.none p hp e;
    posted = λ p hp n. (let q = s.calls.posted p hp n in (
      omega (arith, ops_same p, q.0),
      subst (λ o. c.memory.announced p ≡ op_no setup p (o - 1) + 1)
          (sym (ops_same p)) q.1,
    ));
    ops_are = λ p j i hp hj hi. s.calls.ops_are p j i hp (omega (arith, hj, ops_same p)) hi;
    sound = λ p j hp hj. s.calls.sound p j hp (omega (arith, hj, ops_same p));
    few = λ p hp. omega (arith, ops_same p, s.calls.few p hp);
  }

  -- the bucket that was made
  abbrev made : BucketState
  made = made_bucket setup attempt found

  -- its own op is in it, or it is frozen without it
  pub mine : (flight.number ≤ applied_of (made_bucket setup attempt found) me)
      ⊎ ((made_bucket setup attempt found).frozen ≡ true)
  mine = elim (has me (c.op_at me ((c.used me).op_rows - 1)) ((k.entries me (omega (arith, k.all, h))).own refl)
      (ap (λ (o : Op). bits setup (c.deep b) (key_in o.call)) k.works.op_is ∙ k.in_round.for_it)) [
        | inl a ↦ inl (omega (arith, a, ap (λ (o : Op). o.number) k.works.op_is))
        | inr f ↦ inr f
      ]

  -- the seat has published one row more
  pub used_now : d.used me ≡ record account.used { bucket_rows = account.used.bucket_rows + 1 }
  used_now = put_same c.used me (record (c.used me) { bucket_rows = (c.used me).bucket_rows + 1 })
      ∙ ap (λ (u : SeatRows). record u { bucket_rows = u.bucket_rows + 1 }) k.works.flies.used_is

  -- its round goes on
  in_round : InRound setup d me flight.number flight.call local.dir round
  in_round = (let r = k.in_round in record {
    roots = record { rooted = r.roots.rooted; first_is = r.roots.first_is };
    one = r.one;
    two = r.two;
    old = r.old;
    from = r.from;
    led = r.led;
    there = r.there;
    for_it = r.for_it;
    same = r.same;
    second = λ t. elim (r.second t) [ inl a ↦ inl (omega (arith, a, last_up b me)) | inr a ↦ inr a ];
  })

  -- the exchange that happens
  pub won : Goes setup me c d local (record {
    account = record account { used = record account.used { bucket_rows = account.used.bucket_rows + 1 } };
    stand = InFlight (record flight { steps = flight.steps + 1 })
        (after_exchange me flight round (made_bucket setup attempt found) no);
  })
  won = record {
    shared = record {
      opened = s.opened;
      rows = rows;
      directories = directories_same;
      leads = leads;
      calls = calls;
      helped = helped;
      carried = carried;
    };
    moves = moves;
    keeps = cond_both (is_applied me flight made) (answered_by me made no)
        (cond made.frozen (DirRoot round 1 None) Stuck)
        (λ ph. Keeps setup d me (record account.used { bucket_rows = account.used.bucket_rows + 1 })
        (record flight { steps = flight.steps + 1 }) local ph)
        (λ e. answered setup d me (record account.used { bucket_rows = account.used.bucket_rows + 1 })
        (record flight { steps = flight.steps + 1 }) local made no
        (record { used_is = used_now; some = k.works.flies.some; few = k.works.flies.few }) new_sound.good
        (leb-true flight.number (applied_of made me) e))
        (λ e. let lacks : applied_of made me < flight.number = leb-false flight.number (applied_of made me) e in
        let frozen : made.frozen ≡ true = elim mine [ inl a ↦ absurd (omega (arith, a, lacks)) | inr f ↦ f ] in
        subst (λ (t : Bool). Keeps setup d me (record account.used { bucket_rows = account.used.bucket_rows + 1 })
        (record flight { steps = flight.steps + 1 }) local (cond t (DirRoot round 1 None) Stuck)) (sym frozen) (record {
          works = record {
            flies = record { used_is = used_now; some = k.works.flies.some; few = k.works.flies.few };
            announced = omega (arith, ops_same me, k.works.announced);
            op_is = of_op me (λ z. z ≡ record { seat = me; number = flight.number; call = flight.call }) k.works.op_is;
          };
          room = record {
            rows = omega (arith, k.room.rows, k.in_round.one, rows_more);
            words = omega (
              arith,
              k.room.words,
              ap (λ (u : SeatRows). u.bucket_words)
                  (put_same c.used me (record (c.used me) { bucket_rows = (c.used me).bucket_rows + 1 })),
            );
            dirs = omega (
              arith,
              k.room.dirs,
              ap (λ (u : SeatRows). u.directory_rows)
                  (put_same c.used me (record (c.used me) { bucket_rows = (c.used me).bucket_rows + 1 })),
            );
          };
          in_round = in_round;
          froze = record {
            frozen = ap (λ (x : BucketState). x.frozen) last_now ∙ frozen;
            lacks = omega (arith, lacks, ap (λ (x : BucketState). applied_of x me) last_now);
            tried_at = k.opens.looks.tries.tried_at;
          };
          begun = inl (refl, refl);
        }));
  }
    where
      rows_more : (d.used me).bucket_rows ≡ (c.used me).bucket_rows + 1
      rows_more = ap (λ (u : SeatRows). u.bucket_rows) (put_same c.used me
          (record (c.used me) { bucket_rows = (c.used me).bucket_rows + 1 }))
