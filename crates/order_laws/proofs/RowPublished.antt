-- A bucket row is published: each number that is new in it had no unit, has one now, and has its place by it.
use Rattle.std.proofs.Common.{◌≡◌, ◌≢◌, ℕ, ◌+◌, ◌*◌, ◌<◌, ◌⊎◌, Bool, true, false, cond, eqb, ltb, List, length, Option, Some, None, true≢false, inl, inr, refl, sym, ap, ◌∙◌, subst, arith, eqb-true, eq-eqb, lt-ltb}
use Rattle.std.specs.Prelude.{◌&&◌}
use Rattle.std.proofs.lemmas.Bool.{cases_eq, cases_lt, cases_Bool, and_parts, and_from, ltb-true}
use Rattle.std.proofs.lemmas.List.{get_or_past}
use Rattle.plain_map.specs.declared.keys.Key.{Key}
use Rattle.plain_map.specs.declared.calls.Reply.{Reply}
use Rattle.plain_map.specs.Calls.{key_in}
use Rattle.word_rows.specs.Memory.{put_at}
use Rattle.word_rows.proofs.MemoryLemmas.{put_is, put_same, put_other, put_at_same}
use Rattle.bucket_states.specs.declared.ops.Op.{Op}
use Rattle.bucket_states.specs.States.{BucketState}
use Rattle.bucket_states.specs.Laws.{Announces, HasSeats, IsTaken, applied_of, reply_at}
use Rattle.bucket_states.proofs.WalkLemmas.{only_announced}
use Rattle.table_model.specs.Setup.{Setup, seats_of, rules_of}
use Rattle.table_model.specs.declared.rounds.Round.{Round}
use Rattle.table_model.specs.Phases.{BucketTry, TryExchange}
use Rattle.table_model.specs.SeatStates.{Account, Flight}
use Rattle.table_model.specs.Stores.{made_bucket}
use Rattle.run_invariant.proofs.Invariant.{Common, Local, Shared, Keeps, Moves, lead, last, bits}
use Rattle.run_invariant.proofs.Events.{published}
use Rattle.run_invariant.proofs.RowLemmas.{put_at_each}
use Rattle.run_laws.proofs.Publish
use Rattle.run_laws.proofs.Opened.{bucket_laws}
use Rattle.closed_laws.proofs.Clock.{Publishes, publishes_ticks, published as published_at}
use Rattle.closed_laws.proofs.Units.{Tally, NewAt, Exchanges, counts_kept, new_at_was, new_at_up, not_new_at}
use Rattle.order_laws.proofs.Tale.{past_of, Tale, frame, tally, lists, IsAnnounced, RowMade, Told}
use Rattle.order_laws.proofs.Grows.{Grows, grows_moved, row_made, version_made}
use Rattle.order_laws.proofs.Facts.{open_leads, from_frozen, IsCall, is_call, unplaced, ready}
use Rattle.list_laws.proofs.Options.{some_same, none_some}
use Rattle.std.proofs.Math.Numerals.{add-one}

module _ (setup : Setup) (me : ℕ) (c : Common) (account : Account) (flight : Flight) (local : Local)
    (h : me < seats_of setup) (s : Shared setup c) (round : Round) (attempt : BucketTry) (found : List (Option Op))
    (k : Keeps setup c me account.used flight local (TryExchange round attempt found))
    (same : c.memory.bucket round.bucket ≡ attempt.row) (t : Tale) (told : Told setup (past_of c) t) where
  -- the bucket
  abbrev b : ℕ
  b = round.bucket

  -- the state of its last row
  abbrev was : BucketState
  was = last c b

  -- the state of the new row
  abbrev now : BucketState
  now = made_bucket setup attempt found

  -- the history afterwards
  abbrev d : Common
  d = published setup me b attempt found c

  -- it moves as it must
  m : Moves setup me c d
  m = (Publish.won bucket_laws setup me c account flight local h s round attempt found k same).moves

  -- the bucket is named
  there : c.named b ≡ true
  there = k.in_round.there

  -- the number is new in the row
  abbrev pub is_new : ℕ → ℕ → Bool
  is_new q n = ltb (applied_of was q) (applied_of now q) && eqb n (applied_of now q)

  -- the numbers that are new in the row
  abbrev New : ℕ → ℕ → Type 0
  New q n = is_new q n ≡ true

  -- the tale with the row
  abbrev pub u : Tale
  u = record t {
    row_ops = put_at t.row_ops b (c.top b) found;
    clock = published_at (frame setup (past_of c) t) t.clock is_new;
  }

  -- it was made of the last row
  was_is : attempt.state ≡ was
  was_is = k.opens.state_is ∙ ap (c.state_at b) (Publish.current bucket_laws setup me c account flight local h s
      round attempt found k same)

  -- the ops are those of all seats
  seats : HasSeats attempt.state found
  seats =
      let good = (s.rows.sound b (c.top b) there (omega arith)).good in
      let numbers = ap (λ (x : BucketState). length x.applied) was_is in
      let answers = ap (λ (x : BucketState). length x.replies) was_is in
      (omega (arith, good.numbers, numbers, k.all), omega (arith, good.answers, answers, k.all))

  -- the last row was not frozen
  was_open : (last c b).frozen ≡ false
  was_open = ap (λ (x : BucketState). x.frozen) (sym was_is) ∙ k.opens.open_

  -- what was found of a seat it had announced
  real : (q : ℕ) (op : Op) → Announces found q op → (q < seats_of setup) × IsAnnounced setup (past_of c) t q op
  real q op e = elim (cases_lt q (length found)) [
    | inr past ↦ absurd (none_some (sym (get_or_past found q None past) ∙ e))
    | inl inside ↦ (
      omega (arith, inside, k.all),
      elim (k.entries q inside).real [
        | inl none ↦ absurd (none_some (sym none ∙ e))
        | inr r ↦ (r.0, r.1, some_same (sym e ∙ r.2))
      ],
    )
  ]

  -- a number that is new is that of an op that was found, whose key has the bucket's prefix
  pub record IsNew (q n : ℕ) : Type 0 where
    pub op : Op
    pub announced : Announces found q op
    pub number : op.number ≡ n
    pub for_it : bits setup (c.deep b) (key_in op.call) ≡ c.pre b
    pub above : applied_of was q < n
    pub is : applied_of now q ≡ n

  -- it has the bucket's depth
  sound_depth : was.depth ≡ c.deep b
  sound_depth = (s.rows.sound b (c.top b) there (omega arith)).depth_is

  -- and its prefix
  sound_prefix : was.prefix ≡ c.pre b
  sound_prefix = (s.rows.sound b (c.top b) there (omega arith)).prefix_is

  -- a taken op is new
  taken_new : (q : ℕ) → IsTaken (rules_of setup) found attempt.state now q → IsNew q (applied_of now q)
  taken_new q x = record {
    op = x.op;
    announced = x.announced;
    number = sym x.applied;
    for_it = ap (λ z. bits setup z (key_in x.op.call)) (sym (ap (λ (y : BucketState). y.depth) was_is ∙ sound_depth))
        ∙ x.for_it ∙ ap (λ (y : BucketState). y.prefix) was_is ∙ sound_prefix;
    above = omega (arith, x.above, x.applied, ap (λ (y : BucketState). applied_of y q) was_is);
    is = refl;
  }

  -- each seat's number and reply stay, or its number is new
  goes : (q : ℕ) → ((applied_of now q ≡ applied_of was q) × (reply_at now q ≡ reply_at was q))
      ⊎ IsNew q (applied_of now q)
  goes q = elim (only_announced (rules_of setup) found attempt.state q seats) [
    | inl x ↦ inl (
      x.applied ∙ ap (λ (y : BucketState). applied_of y q) was_is,
      x.reply
          ∙ ap (λ (y : BucketState). reply_at y q) was_is,
    )
    | inr x ↦ inr (taken_new q x)
  ]

  -- and what is new was taken
  new_is : (q n : ℕ) → New q n → IsNew q n
  new_is q n e =
      let parts = and_parts (ltb (applied_of was q) (applied_of now q)) (eqb n (applied_of now q)) e in
      let up = ltb-true (applied_of was q) (applied_of now q) parts.0 in
      subst (IsNew q) (sym (eqb-true n (applied_of now q) parts.1))
      (elim (goes q) [ inl x ↦ absurd (omega (arith, up, x.0)) | inr x ↦ x ])

  -- a number that is above the last row's is new
  is_new_from : (q : ℕ) → applied_of was q < applied_of now q → New q (applied_of now q)
  is_new_from q up = and_from (ltb (applied_of was q) (applied_of now q)) (eqb (applied_of now q) (applied_of now q))
      (lt-ltb (applied_of was q) (applied_of now q) up) (eq-eqb (applied_of now q) (applied_of now q) refl)

  -- the bucket is the one in use of the keys of its prefix
  leads : (key : Key) → bits setup (c.deep b) key ≡ c.pre b → lead setup c c.dir_top key ≡ b
  leads key suits = open_leads setup c s local.dir b (key_in flight.call) key k.in_round.old k.in_round.led was_open
      suits

  -- ---- the history with the row

  -- the bucket has one more row
  top_here : d.top b ≡ c.top b + 1
  top_here = put_same c.top b (c.top b + 1)

  -- the others have as many as before
  top_other : (a : ℕ) → a ≢ b → d.top a ≡ c.top a
  top_other a n = put_other c.top b (c.top b + 1) a n

  -- so it alone has more
  grew : (a : ℕ) → c.top a < d.top a → a ≡ b
  grew a less = elim (cases_eq a b) [ inl e ↦ e | inr n ↦ absurd (omega (arith, less, top_other a n)) ]

  -- the new row has the new state
  state_here : d.state_at b (c.top b + 1) ≡ now
  state_here = put_at_same c.state_at b (c.top b + 1) now

  -- the numbers before
  abbrev before : Tally (Option Reply)
  before = tally setup (past_of c) t

  -- and afterwards
  abbrev after : Tally (Option Reply)
  after = tally setup (past_of d) u

  -- the op's call is that of the number
  call_of : (q n : ℕ) (x : IsNew q n) → IsCall setup (past_of c) t told q x.op
  call_of q n x = let r = real q x.op x.announced in is_call setup (past_of c) t told q x.op r.0 r.1

  -- the key of a new number's call is its op's
  key_is : (q n : ℕ) (x : IsNew q n) → key_in (t.call_at q n) ≡ key_in x.op.call
  key_is q n x = ap (λ z. key_in (t.call_at q z)) (sym x.number) ∙ ap key_in (call_of q n x).call_is

  -- so the numbers are exchanged as they must
  exchanges : Exchanges before after New
  exchanges = record {
    keys = λ q n. refl;
    dir_up = omega arith;
    dir_one = omega arith;
    named_up = λ a n. n;
    top_up = λ a n. (m.named_up a n).3;
    top_one = λ a n. elim (cases_eq a b) [
      | inl e ↦ omega (arith, ap d.top e, ap c.top e, top_here)
      | inr o ↦ omega
          (arith, top_other a o)
    ];
    old_born = λ a n. (refl, refl);
    old_rows = λ a i q r. let e = (m.rows a i r.named r.inside).2 in
        (ap (λ (x : BucketState). applied_of x q) e, ap (λ (x : BucketState). reply_at x q) e);
    old_suits = λ a key n x. x;
    suits_up = λ a key n x. x;
    newborn = λ a n f. absurd (true≢false (sym n ∙ f));
    frozen = λ a n one. let f = from_frozen setup (past_of c) t told a n one in m.frozen (c.from a) f.0 f.1;
    rises = λ key q. m.now_up key q;
    there = λ key. s.leads.there c.dir_top key (omega arith);
    grown = λ a key n less suits. let e = grew a less in
        leads key (subst (λ x. bits setup (c.deep x) key ≡ c.pre x) e suits) ∙ sym e;
    leads_new = λ a key n f. absurd (true≢false (sym n ∙ f));
    row_new = λ a q n less. subst (λ x. ((applied_of (d.state_at x (c.top x + 1)) q ≡ applied_of
        (c.state_at x (c.top x)) q) × (reply_at (d.state_at x (c.top x + 1)) q ≡ reply_at (c.state_at x (c.top x)) q))
        ⊎ (New q (applied_of (d.state_at x (c.top x + 1)) q)
        × (applied_of (c.state_at x (c.top x)) q < applied_of (d.state_at x (c.top x + 1)) q)
        × (bits setup (c.deep x) (key_in (t.call_at q (applied_of (d.state_at x (c.top x + 1)) q))) ≡ c.pre x)))
        (sym (grew a less))
        (subst (λ (y : BucketState). ((applied_of y q ≡ applied_of was q) × (reply_at y q ≡ reply_at was q))
        ⊎ (New q (applied_of y q) × (applied_of was q < applied_of y q)
        × (bits setup (c.deep b) (key_in (t.call_at q (applied_of y q))) ≡ c.pre b))) (sym state_here)
        (elim (goes q) [
          | inl x ↦ inl x
          | inr x ↦ inr (
            is_new_from q x.above,
            x.above,
            ap (bits setup (c.deep b)) (key_is q (applied_of now q) x)
                ∙ x.for_it,
          )
        ]));
    leaf_new = λ a q n f. absurd (true≢false (sym n ∙ f));
    new_above = λ q n e. let x = new_is q n e in
        let at : lead setup c c.dir_top (key_in (t.call_at q n)) ≡ b =
        leads (key_in (t.call_at q n)) (ap (bits setup (c.deep b)) (key_is q n x) ∙ x.for_it) in
        omega (arith, x.above, ap (λ z. applied_of (last c z) q) at);
    new_leaf = λ a q n f. absurd (true≢false (sym n ∙ f));
    new_one = λ q n j e f. sym (new_is q n e).is ∙ (new_is q j f).is;
    one_bucket = λ x y n o l r. grew x l ∙ sym (grew y r);
    row_not_version = λ a n l. refl;
    leaf_reply = λ x y q n f. absurd (true≢false (sym n ∙ f));
  }

  -- and the places rise
  pub publishes : Publishes (frame setup (past_of c) t) (frame setup (past_of d) u) (lists setup (past_of c) t)
      (lists setup (past_of d) u) t.clock New is_new
  publishes = record {
    dir_up = omega arith;
    dir_one = omega arith;
    named_up = λ a n. n;
    top_up = exchanges.top_up;
    top_one = exchanges.top_one;
    born_same = λ a n. (refl, refl);
    newborn = λ a n f. absurd (true≢false (sym n ∙ f));
    frozen = exchanges.frozen;
    which = λ q n e. e;
    without = λ q n e.
        let x = new_is q n e in
        let r = real q x.op x.announced in
        subst (λ z. t.clock.call q z ≡ None) x.number
        (unplaced setup (past_of c) t told q x.op r.0 r.1
        (λ a i at. not_new_at before after New exchanges told.counts a i q x.op.number at
        (subst (New q) (sym x.number) e)));
    ready = λ q n z j e a.
        let x = new_is q n e in
        let r = real q x.op x.announced in
        ready setup (past_of c) t told q n z j r.0 (omega (arith, (call_of q n x).few, x.number)) a;
    after = λ q n z j a. a;
    looked = λ q n a i e. e;
    looked_up = λ q n a i e. e;
    in_row = λ a i q n at. elim (new_at_was before after New exchanges told.counts a i q n at)
        [ inl o ↦ inl o | inr o ↦ inr (o.0, o.1.named, o.1.inside, o.2) ];
    in_row_up = λ a i q n at. new_at_up before after New exchanges told.counts a i q n at;
    new_in = λ q n e. let x = new_is q n e in (
      b,
      c.top b + 1,
      subst (λ i. NewAt after b i q n) (sym (add-one (c.top b))) (record {
        named = there;
        inside = omega (arith, top_here);
        above = omega (
          arith,
          x.above,
          ap (λ (y : BucketState). applied_of y q)
              (m.rows b (c.top b) there (omega arith)).2,
        );
        is = ap (λ (y : BucketState). applied_of y q) state_here ∙ x.is;
      }),
    );
    waits = λ q n v e. e;
  }

  -- the tale grows
  pub grows : Grows me flight.number (past_of c) t (past_of d) u
  grows = grows_moved setup me flight.number c d t u m (λ q. refl) (λ q n. (refl, λ x. refl, refl, refl))

  -- so it is told afterwards
  pub told_then : Told setup (past_of d) u
  told_then = record {
    counts = counts_kept before after New exchanges told.counts;
    ticks = publishes_ticks (frame setup (past_of c) t) (frame setup (past_of d) u) (lists setup (past_of c) t)
        (lists setup (past_of d) u) t.clock New is_new publishes told.ticks;
    seen_few = told.seen_few;
    seen_none = told.seen_none;
    placed = λ q n inside one few. let r = told.placed q n inside one few in (r.0, keeps q n r.0 r.1);
    ops = λ q j inside less. told.ops q j inside (omega (arith, less, ops_same q));
    applied = λ a i q n o inside some. elim (cases_lt (c.top a) i) [
      | inr old ↦
          let e = ap (λ (x : BucketState). applied_of x q) (m.rows a i n old).2 in
          let r = told.applied a i q n old inside (omega (arith, some, e)) in
          (r.0, omega (arith, r.1, ops_same q), e ∙ r.2)
      | inl new ↦
          let here : a ≡ b = grew a (omega (arith, new, o)) in
          let at : i ≡ c.top b + 1 = omega (arith, new, o, ap c.top here, ap d.top here, top_here) in
          let state : d.state_at a i ≡ now = ap (λ x. d.state_at x i) here ∙ ap (d.state_at b) at ∙ state_here in
          subst (λ (y : BucketState). 0 < applied_of y q →
          (j : ℕ) × (j < (d.used q).op_rows) × (applied_of y q ≡ (c.op_at q j).number)) (sym state)
          (made_of q inside) some
    ];
    looks = told.looks;
    first_leaf = λ a n e. let r = told.first_leaf a n e in (r.0, (m.rows a 0 n (omega arith)).2 ∙ r.1);
    first_dir = told.first_dir;
    rows = λ a i n o. put_at_each t.row_ops t.row_ops b (c.top b) found found
        (λ ops _. RowMade setup (past_of d) u (d.state_at a i) (d.state_at a (i + 1)) ops) a i
        (λ other. old_row a i n o other)
        (λ e f. subst (λ x. RowMade setup (past_of d) u (d.state_at x i) (d.state_at x (i + 1)) found) (sym e)
        (subst (λ j. RowMade setup (past_of d) u (d.state_at b j) (d.state_at b (j + 1)) found) (sym f) new_row));
    versions = λ v o. version_made setup me flight.number (past_of c) t (past_of d) u grows v (c.dir_at v)
        (c.dir_at (v + 1)) (t.dir_made v) (λ a n. (refl, refl)) (λ a n e. n) (λ a n f. m.frozen a n f)
        (told.versions v o);
  }
    where
      ops_same : (q : ℕ) → (d.used q).op_rows ≡ (c.used q).op_rows
      ops_same q = grind (arith, put_is, eqb-true)

      keeps : (q n y : ℕ) → t.clock.call q n ≡ Some y → u.clock.call q n ≡ Some y
      keeps q n y e = elim (cases_Bool (is_new q n)) [
        | inl new ↦ absurd (none_some (sym (publishes.without q n new) ∙ e))
        | inr old ↦ ap (λ (z : Bool). cond z (Some (2 * t.clock.time + 1)) (t.clock.call q n)) old ∙ e
      ]

      made_of : (q : ℕ) → q < seats_of setup → 0 < applied_of now q →
          (j : ℕ) × (j < (d.used q).op_rows) × (applied_of now q ≡ (c.op_at q j).number)
      made_of q inside some = elim (goes q) [
        | inl x ↦ let r = told.applied b (c.top b) q there (omega arith) inside (omega (arith, some, x.0)) in
            (r.0, omega (arith, r.1, ops_same q), x.0 ∙ r.2)
        | inr x ↦ let r = (real q x.op x.announced).1 in
            (r.0, omega (arith, r.1, ops_same q), sym x.number ∙ ap (λ (z : Op). z.number) r.2)
      ]

      old_row : (a i : ℕ) → c.named a ≡ true → i < d.top a → (a ≢ b) ⊎ (i ≢ c.top b) →
          RowMade setup (past_of d) u (d.state_at a i) (d.state_at a (i + 1)) (t.row_ops a i)
      old_row a i n o other =
          let less : i < c.top a = elim (cases_eq a b) [
            | inl e ↦ elim other [
              | inl x ↦ absurd (x e)
              | inr x ↦ omega
                  (arith, x, o, ap c.top e, ap d.top e, top_here)
            ]
            | inr x ↦ omega (arith, o, top_other a x)
          ] in
          let low = (m.rows a i n (omega (arith, less))).2 in
          let high = (m.rows a (i + 1) n (omega (arith, less))).2 in
          subst (λ x. RowMade setup (past_of d) u x (d.state_at a (i + 1)) (t.row_ops a i)) (sym low)
          (subst (λ x. RowMade setup (past_of d) u (c.state_at a i) x (t.row_ops a i)) (sym high)
          (row_made setup me flight.number (past_of c) t (past_of d) u grows (c.state_at a i) (c.state_at a (i + 1))
          (t.row_ops a i) (told.rows a i n less)))

      new_row : RowMade setup (past_of d) u (d.state_at b (c.top b)) (d.state_at b (c.top b + 1)) found
      new_row = record {
        long = k.all;
        is = state_here ∙ ap (λ x. made_bucket setup (record attempt { state = x }) found)
            (was_is ∙ sym (m.rows b (c.top b) there (omega arith)).2);
        real = λ q op e. let r = (real q op e).1 in (r.0, omega (arith, r.1, ops_same q), r.2);
      }
