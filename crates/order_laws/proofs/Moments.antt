-- The events that keep something new and publish no row: a call sees one more done word, announces itself, finds the
-- directory row of its lookup, looks at a bucket word, and ends.
use Rattle.std.proofs.Common.{◌≡◌, ◌≢◌, ℕ, zero, suc, ◌+◌, ◌<◌, ◌≤◌, ◌⊎◌, true, false, ltb, List, [], ◌∷◌, ◌++◌, length, get_or, Option, Some, None, true≢false, inl, inr, refl, sym, ap, ◌∙◌, subst, arith}
use Rattle.std.proofs.lemmas.Bool.{cases_eq, cases_lt, cases_Bool, cond_both}
use Rattle.std.proofs.lemmas.List.{get_or_past, get_or_push, get_or_append_left, length_push}
use Rattle.plain_map.specs.declared.calls.Reply.{Reply}
use Rattle.plain_map.specs.declared.records.Record.{Record}
use Rattle.plain_map.specs.Calls.{key_in, is_update}
use Rattle.word_rows.specs.Memory.{put, put_at}
use Rattle.word_rows.proofs.MemoryLemmas.{put_same, put_other, put_at_same, put_at_row, put_at_place}
use Rattle.bucket_states.specs.declared.ops.Op.{Op}
use Rattle.bucket_states.specs.Laws.{applied_of}
use Rattle.table_model.specs.Setup.{Setup, seats_of}
use Rattle.table_model.specs.declared.rounds.Aim.TheVariants.{ForLookup}
use Rattle.table_model.specs.Phases.{SeeDone, StoreOp, Announce, FindRoot, LookWord, StoreDone}
use Rattle.table_model.specs.SeatStates.{Account, Flight, record_of}
use Rattle.table_model.specs.Goes.{after_seeing, state_after}
use Rattle.run_invariant.proofs.Invariant.{Common, Local, Shared, Descends, Keeps, Moves, bits, last}
use Rattle.run_invariant.proofs.Events.{announced}
use Rattle.run_invariant.proofs.RowLemmas.{put_at_each}
use Rattle.run_laws.proofs.Begin
use Rattle.closed_laws.proofs.Told.{bases, descends, parent_in, gone, parent_leads}
use Rattle.closed_laws.proofs.LoadStates.{load_state}
use Rattle.closed_laws.proofs.Clock.{Clock, Ticks, Quiet, ticked, quiet_ticks, Loads, loads_ticks, with_call, called_keeps}
use Rattle.closed_laws.proofs.Units.{NewAt}
use Rattle.order_laws.proofs.Tale.{Past, past_of, Tale, Look, look_at, frame, tally, lists, StandsAfter, Told, Upto, IsRecord, Answers, Knows, Flying}
use Rattle.order_laws.proofs.Grows.{Grows, grows_moved, row_made, version_made, is_record, has_reply}
use Rattle.order_laws.proofs.Facts.{ready}
use Rattle.order_laws.proofs.Phases.{Went, is_update_call}
use Rattle.order_laws.proofs.Calls.{seen_in}
use Rattle.list_laws.proofs.Options.{some_same, none_some}

-- a table of rows at a place that is another
pub at_other : {A : Type 0} → (f : ℕ → ℕ → A) (r i : ℕ) (x : A) (q j : ℕ) → (q ≢ r) ⊎ (j ≢ i) →
    put_at f r i x q j ≡ f q j
at_other f r i x q j (inl n) = put_at_row f r i x q j n
at_other f r i x q j (inr n) = put_at_place f r i x q j n

-- a place is this one or another
here_or : (q m r i : ℕ) → ((q ≡ r) × (m ≡ i)) ⊎ ((q ≢ r) ⊎ (m ≢ i))
here_or q m r i = elim (cases_eq q r) [
  | inr n ↦ inr (inl n)
  | inl e ↦ elim (cases_eq m i) [ inl f ↦ inl (e, f) | inr n ↦ inr (inr n) ]
]

-- one that is none, or some
none_or : {A : Type 0} (o : Option A) → (o ≡ None) ⊎ ((x : A) × (o ≡ Some x))
none_or None = inl refl
none_or (Some x) = inr (x, refl)

-- two events of one seat in one call
pub grows_both : (me number : ℕ) (p : Past) (t : Tale) (q : Past) (u : Tale) (r : Past) (v : Tale) →
    Grows me number p t q u → Grows me number q u r v → Grows me number p t r v
grows_both me number p t q u r v a b = record {
  named_up = λ x n. let one = a.named_up x n in let two = b.named_up x one.0 in
      (two.0, two.1 ∙ one.1, two.2 ∙ one.2, omega (arith, one.3, two.3));
  rows = λ x i n o. let one = a.rows x i n o in let up = a.named_up x n in let two =
      b.rows x i up.0 (omega (arith, o, up.3)) in (two.0 ∙ one.0, two.1 ∙ one.1, two.2 ∙ one.2);
  dirs = λ x o. let one = a.dirs x o in let two = b.dirs x one.0 in (two.0, two.1 ∙ one.1);
  announced = λ s j o. let one = a.announced s j o in let two = b.announced s j one.0 in (two.0, two.1 ∙ one.1);
  others = λ s n. let one = a.others s n in let two = b.others s n in (two.0 ∙ one.0, two.1 ∙ one.1);
  calls = λ s m o. let one = a.calls s m o in let two = b.calls s m o in
      (two.0 ∙ one.0, λ x. two.1 x ∙ one.1 x, two.2 ∙ one.2, two.3 ∙ one.3);
}

-- the seat's own records stay, where no more are answered
pub own_answers : (setup : Setup) (me number : ℕ) (p : Past) (t : Tale) (q : Past) (u : Tale) →
    Grows me number p t q u → (last : ℕ) (records : List Record) → length records < number → last ≤ number →
    u.answers me ≡ t.answers me → Answers setup p t me last records → Answers setup q u me number records
own_answers setup me number p t q u g last records few low same k = record {
  many = same ∙ k.many;
  each = λ i d h. is_record setup me number p t q u g me (i + 1) (get_or records i d) (inr (omega (arith, h, few)))
      (k.each i d h);
  unseen = λ m s h. (g.calls me m (inr (omega (arith, h)))).1 s ∙ k.unseen m s (omega (arith, low, h));
}

module _ (setup : Setup) (me : ℕ) (c : Common) (h : me < seats_of setup) (s : Shared setup c) (t : Tale)
    (told : Told setup (past_of c) t) (done : (x : ℕ) → c.memory.done x ≡ t.answers x) where
  -- the past before the event
  abbrev p : Past
  p = past_of c

  -- a number that is new at a row is one that is applied
  applied_at : (b i q m : ℕ) → NewAt (tally setup p t) b i q m →
      (a : ℕ) × (j : ℕ) × (c.named a ≡ true) × (j ≤ c.top a) × (applied_of (c.state_at a j) q ≡ m) × (0 < m)
  applied_at b zero q m r = (r.1.bucket, 0, r.1.named, omega arith, r.1.is, omega (arith, r.1.above))
  applied_at b (suc i) q m r = (b, i + 1, r.named, omega (arith, r.inside), r.is, omega (arith, r.above))

  -- a call that is beyond all that its seat announced and looked at has no place
  pub beyond : (low m : ℕ) → low < m → Upto setup p t me low → t.clock.call me m ≡ None
  beyond low m less upto = elim (none_or (t.clock.call me m)) [
    | inl e ↦ e
    | inr y ↦ absurd (elim (told.ticks.source me m y.0 y.1) [
      | inl r ↦
          let a = applied_at r.0 r.1 me m r.2 in
          let op = told.applied a.0 a.1 me a.2 a.3 h (omega (arith, a.4, a.5)) in
          omega (arith, less, a.4, op.2, upto.ops op.0 op.1)
      | inr r ↦ omega (arith, less, upto.looks m (look_at r.0 r.1) r.2)
    ])
  ]

  -- ---- one more done word is seen
  module _ (account : Account) (flight : Flight) (local : Local)
      (k : Keeps setup c me account.used flight local SeeDone)
      (y : Flying setup p t me account flight local SeeDone) where
    -- the number of the call that begins
    abbrev n : ℕ
    n = flight.number

    -- the seat that is seen
    abbrev x : ℕ
    x = length flight.seen

    -- how many answers it has
    abbrev w : ℕ
    w = c.memory.done x

    -- the tale with what the seat has seen
    abbrev saw : Tale
    saw = record t { seen = put_at t.seen me n (put (t.seen me n) x w); clock = ticked t.clock }

    -- what others had seen stays
    saw_other : (q m : ℕ) → (q ≢ me) ⊎ (m ≢ n) → (a : ℕ) → saw.seen q m a ≡ t.seen q m a
    saw_other q m o a = ap (λ f. f a) (at_other t.seen me n (put (t.seen me n) x w) q m o)

    -- the seat has seen one more
    saw_here : (a : ℕ) → saw.seen me n a ≡ put (t.seen me n) x w a
    saw_here a = ap (λ f. f a) (put_at_same t.seen me n (put (t.seen me n) x w))

    -- the tale grows
    saw_grows : Grows me n p t p saw
    saw_grows = record {
      named_up = λ b m. (m, refl, refl, omega arith);
      rows = λ b i m o. (refl, refl, refl);
      dirs = λ v o. (o, refl);
      announced = λ q j o. (o, refl);
      others = λ q o. (refl, refl);
      calls = λ q m o. (refl, saw_other q m o, refl, refl);
    }

    -- the call has no place yet
    no_place : t.clock.call me n ≡ None
    no_place = let b = y.knows.begun in beyond b.0 n (omega (arith, b.1)) b.2

    -- what stands after others stood so before
    after_was : (q m a z : ℕ) → (q ≢ me) ⊎ (m ≢ n) → StandsAfter saw q m a z → StandsAfter t q m a z
    after_was q m a z o r = (r.0, elim r.1 [ inl e ↦ inl e | inr e ↦ inr (omega (arith, e, saw_other q m o a)) ])

    -- no place changes
    saw_quiet : Quiet (frame setup p t) (lists setup p t) (lists setup p saw) t.clock
    saw_quiet = record {
      after = λ q m z a b e r. elim (here_or q m me n) [
        | inl here ↦ absurd (none_some (sym no_place ∙ ap (λ j. t.clock.call j n) (sym here.0)
            ∙ ap (t.clock.call q) (sym here.1) ∙ e))
        | inr o ↦ after_was q m a b o r
      ];
      looked = λ q m b i e. e;
      looked_up = λ q m b i e. e;
      in_row = λ b i q m e. e;
      in_row_up = λ b i q m e. e;
      waits = λ q m v e. elim (here_or q m me n) [
        | inl here ↦ absurd (let b = y.knows.begun in
            omega (arith, b.1, here.1, b.2.waits m v (ap (λ j. t.waits j m) (sym here.0) ∙ e)))
        | inr o ↦ inl (e, λ a b r. after_was q m a b o r)
      ];
    }

    -- so the tale is told
    saw_told : Told setup p saw
    saw_told = record {
      counts = told.counts;
      ticks = quiet_ticks (frame setup p t) (lists setup p t) (lists setup p saw) t.clock saw_quiet told.ticks;
      seen_few = λ q m a. elim (here_or q m me n) [
        | inl here ↦ subst (λ j. saw.seen j m a ≤ t.answers a) (sym here.0)
            (subst (λ j. saw.seen me j a ≤ t.answers a) (sym here.1) (elim (cases_eq a x) [
              | inl e ↦ omega (
                arith,
                saw_here a,
                ap (put (t.seen me n) x w) e,
                put_same (t.seen me n) x w,
                done x,
                ap t.answers e,
              )
              | inr o ↦ omega (arith, saw_here a, put_other (t.seen me n) x w a o, told.seen_few me n a)
            ]))
        | inr o ↦ omega (arith, saw_other q m o a, told.seen_few q m a)
      ];
      seen_none = λ q m a past. elim (here_or q m me n) [
        | inl here ↦ subst (λ j. saw.seen j m a ≡ 0) (sym here.0) (subst (λ j. saw.seen me j a ≡ 0) (sym here.1)
            (saw_here a ∙ put_other (t.seen me n) x w a (omega (arith, past, k.short)) ∙ told.seen_none me n a past))
        | inr o ↦ saw_other q m o a ∙ told.seen_none q m a past
      ];
      placed = told.placed;
      ops = told.ops;
      applied = told.applied;
      looks = told.looks;
      first_leaf = told.first_leaf;
      first_dir = told.first_dir;
      rows = λ b i m o. row_made setup me n p t p saw saw_grows (c.state_at b i) (c.state_at b (i + 1))
          (t.row_ops b i) (told.rows b i m o);
      versions = λ v o. version_made setup me n p t p saw saw_grows v (c.dir_at v) (c.dir_at (v + 1)) (t.dir_made v)
          (λ b m. (refl, refl)) (λ b m e. m) (λ b m f. refl) (told.versions v o);
    }

    -- the list of what is seen is as long as what was seen
    seen_more : (a : ℕ) → get_or (flight.seen ++ w ∷ []) a 0 ≡ saw.seen me n a
    seen_more a = elim (cases_eq a x) [
      | inl e ↦ get_or_push flight.seen w 0 a (sym e)
          ∙ sym (saw_here a ∙ ap (put (t.seen me n) x w) e ∙ put_same (t.seen me n) x w)
      | inr o ↦ old a o ∙ y.seen_is a ∙ sym (saw_here a ∙ put_other (t.seen me n) x w a o)
    ]
      where
        old : (a : ℕ) → a ≢ x → get_or (flight.seen ++ w ∷ []) a 0 ≡ get_or flight.seen a 0
        old a o = elim (cases_lt a x) [
          | inl less ↦ get_or_append_left flight.seen (w ∷ []) 0 a less
          | inr most ↦ get_or_past (flight.seen ++ w ∷ []) a 0 (omega (arith, most, o, length_push flight.seen w))
              ∙ sym (get_or_past flight.seen a 0 most)
        ]

    -- no number changes
    saw_upto : (low : ℕ) → Upto setup p t me low → Upto setup p saw me low
    saw_upto low u = record { ops = u.ops; looks = u.looks; waits = u.waits }

    -- so the seat goes on to its call
    pub see_done : Went setup me n p t p c.memory local (state_after setup me account flight SeeDone w)
    see_done = record {
      tale = saw;
      told = saw_told;
      grows = saw_grows;
      done = done;
      seat = record {
        answers = own_answers setup me n p t p saw saw_grows n account.records (omega (arith, y.number_is))
            (omega arith) refl y.answers;
        upto = saw_upto n y.upto;
        number_is = y.number_is;
        call_is = y.call_is;
        seen_is = seen_more;
        knows = cond_both (ltb (length flight.seen + 1) (seats_of setup)) SeeDone (after_seeing flight)
            (λ ph. Knows setup p saw me n flight.call local ph)
            (λ e. record { begun = (y.knows.begun.0, y.knows.begun.1, saw_upto y.knows.begun.0 y.knows.begun.2) })
            (λ e. cond_both (is_update flight.call) (StoreOp 0) (FindRoot ForLookup)
            (λ ph. Knows setup p saw me n flight.call local ph)
            (λ f. tt)
            (λ f. record {
              lookup = f;
              none = elim (none_or (t.looked me n)) [
                | inl z ↦ z
                | inr z ↦ absurd
                    (let b = y.knows.begun in omega (arith, b.1, b.2.looks n z.0 z.1))
              ];
            }));
      };
    }

  -- ---- an update announces itself
  module _ (account : Account) (flight : Flight) (local : Local)
      (k : Keeps setup c me account.used flight local Announce)
      (y : Flying setup p t me account flight local Announce) where
    -- the op that is announced
    abbrev mine : Op
    mine = record { seat = me; number = flight.number; call = flight.call }

    -- the history afterwards
    abbrev then : Common
    then = announced setup me flight.number flight.call c

    -- it moves as it must
    told_moves : Moves setup me c then
    told_moves = (Begin.announce setup me c account flight local h s 0 k).moves

    -- the tale grows
    told_grows : Grows me flight.number p t (past_of then) t
    told_grows = grows_moved setup me flight.number c then t t told_moves (λ q. refl)
        (λ q m. (refl, λ a. refl, refl, refl))

    -- the seat has one more op
    ops_here : (then.used me).op_rows ≡ (c.used me).op_rows + 1
    ops_here = ap (λ u. u.op_rows) (put_same c.used me (record (c.used me) { op_rows = (c.used me).op_rows + 1 }))

    -- the others have as many as before
    ops_other : (q : ℕ) → q ≢ me → (then.used q).op_rows ≡ (c.used q).op_rows
    ops_other q n = ap (λ u. u.op_rows) (put_other c.used me
        (record (c.used me) { op_rows = (c.used me).op_rows + 1 }) q n)

    -- an op of a seat was there, or is this one
    each_op : (P : ℕ → Op → Type 0) (q j : ℕ) → j < (then.used q).op_rows →
        (j < (c.used q).op_rows → P q (c.op_at q j)) → P me mine → P q (then.op_at q j)
    each_op P q j less old new = put_at_each c.op_at c.op_at me (c.used me).op_rows mine mine (λ op _. P q op) q j
        (λ o. old (before o)) (λ e f. subst (λ z. P z mine) (sym e) new)
      where
        before : (q ≢ me) ⊎ (j ≢ (c.used me).op_rows) → j < (c.used q).op_rows
        before o = elim (cases_eq q me) [
          | inr n ↦ omega (arith, less, ops_other q n)
          | inl e ↦ elim o [
            | inl n ↦ absurd (n e)
            | inr n ↦ omega (
              arith,
              n,
              less,
              ap (λ z. (then.used z).op_rows) e,
              ops_here,
              ap (λ z. (c.used z).op_rows) e,
            )
          ]
        ]

    -- so the seat has announced its op
    pub announce : Went setup me flight.number p t (past_of then) then.memory local
        (state_after setup me account flight Announce 0)
    announce = record {
      tale = t;
      grows = told_grows;
      done = done;
      told = record {
        counts = told.counts;
        ticks = told.ticks;
        seen_few = told.seen_few;
        seen_none = told.seen_none;
        placed = told.placed;
        ops = λ q j inside less. each_op (λ q op. q < seats_of setup →
            (1 ≤ op.number) × (op.number ≤ t.answers q + 1) × (t.call_at q op.number ≡ op.call)
            × (is_update op.call ≡ true)) q j less
            (λ old in_it. told.ops q j in_it old)
            (λ in_it. (
              k.begins.flies.some,
              omega (arith, y.number_is, y.answers.many),
              y.call_is,
              is_update_call flight.call k.begins.update,
            )) inside;
        applied = λ b i q n o inside some.
            let r = told.applied b i q n o inside some in
            let g = told_grows.announced q r.0 r.1 in
            (r.0, g.0, r.2 ∙ ap (λ (z : Op). z.number) (sym g.1));
        looks = told.looks;
        first_leaf = told.first_leaf;
        first_dir = told.first_dir;
        rows = λ b i n o. row_made setup me flight.number p t (past_of then) t told_grows (c.state_at b i)
            (c.state_at b (i + 1)) (t.row_ops b i) (told.rows b i n o);
        versions = λ v o. version_made setup me flight.number p t (past_of then) t told_grows v (c.dir_at v)
            (c.dir_at (v + 1)) (t.dir_made v) (λ b n. (refl, refl)) (λ b n e. n) (λ b n f. refl) (told.versions v o);
      };
      seat = record {
        answers = own_answers setup me flight.number p t (past_of then) t told_grows flight.number account.records
            (omega (arith, y.number_is)) (omega arith) refl y.answers;
        upto = record {
          ops = λ j less. each_op (λ q op. q ≡ me → op.number ≤ flight.number) me j less (λ old e. y.upto.ops j old)
              (λ e. omega arith) refl;
          looks = y.upto.looks;
          waits = y.upto.waits;
        };
        number_is = y.number_is;
        call_is = y.call_is;
        seen_is = y.seen_is;
        knows = tt;
      };
    }

  -- ---- a lookup finds the directory row of its bucket
  module _ (account : Account) (flight : Flight) (local : Local)
      (y : Flying setup p t me account flight local (FindRoot ForLookup)) where
    -- the tale with the version that the lookup found
    abbrev finds : Tale
    finds = record t { waits = put_at t.waits me flight.number (Some c.dir_top); clock = ticked t.clock }

    -- what others found stays
    finds_other : (q m : ℕ) → (q ≢ me) ⊎ (m ≢ flight.number) → finds.waits q m ≡ t.waits q m
    finds_other q m o = at_other t.waits me flight.number (Some c.dir_top) q m o

    -- the lookup found the last version
    finds_here : finds.waits me flight.number ≡ Some c.dir_top
    finds_here = put_at_same t.waits me flight.number (Some c.dir_top)

    -- the tale grows
    finds_grows : Grows me flight.number p t p finds
    finds_grows = record {
      named_up = λ b m. (m, refl, refl, omega arith);
      rows = λ b i m o. (refl, refl, refl);
      dirs = λ v o. (o, refl);
      announced = λ q j o. (o, refl);
      others = λ q o. (refl, refl);
      calls = λ q m o. (refl, λ a. refl, refl, finds_other q m o);
    }

    -- no place changes
    finds_quiet : Quiet (frame setup p t) (lists setup p t) (lists setup p finds) t.clock
    finds_quiet = record {
      after = λ q m z a b e r. r;
      looked = λ q m b i e. e;
      looked_up = λ q m b i e. e;
      in_row = λ b i q m e. e;
      in_row_up = λ b i q m e. e;
      waits = λ q m v e. elim (here_or q m me flight.number) [
        | inr o ↦ inl (sym (finds_other q m o) ∙ e, λ a b r. r)
        | inl here ↦
            let few : flight.number ≤ t.answers me + 1 = omega (arith, y.number_is, y.answers.many) in
            inr (
              sym (some_same (sym finds_here ∙ ap (finds.waits me) (sym here.1)
                  ∙ ap (λ j. finds.waits j m) (sym here.0) ∙ e)),
              λ a b r. ready setup p t told me flight.number a b h few
                  (subst (λ z. StandsAfter t me z a b) here.1 (subst (λ z. StandsAfter t z m a b) here.0 r)),
            )
      ];
    }

    -- so the lookup goes on to its bucket
    pub find_lookup : Went setup me flight.number p t p c.memory (record local { dir = c.dir_top })
        (state_after setup me account flight (FindRoot ForLookup) c.memory.root)
    find_lookup = record {
      tale = finds;
      grows = finds_grows;
      done = done;
      told = record {
        counts = told.counts;
        ticks = quiet_ticks (frame setup p t) (lists setup p t) (lists setup p finds) t.clock finds_quiet told.ticks;
        seen_few = told.seen_few;
        seen_none = told.seen_none;
        placed = told.placed;
        ops = told.ops;
        applied = told.applied;
        looks = told.looks;
        first_leaf = told.first_leaf;
        first_dir = told.first_dir;
        rows = λ b i m o. row_made setup me flight.number p t p finds finds_grows (c.state_at b i)
            (c.state_at b (i + 1)) (t.row_ops b i) (told.rows b i m o);
        versions = λ v o. version_made setup me flight.number p t p finds finds_grows v (c.dir_at v)
            (c.dir_at (v + 1)) (t.dir_made v) (λ b m. (refl, refl)) (λ b m e. m) (λ b m f. refl) (told.versions v o);
      };
      seat = record {
        answers = own_answers setup me flight.number p t p finds finds_grows flight.number account.records
            (omega (arith, y.number_is)) (omega arith) refl y.answers;
        upto = record {
          ops = y.upto.ops;
          looks = y.upto.looks;
          waits = λ m d e. elim (here_or me m me flight.number)
              [ inl here ↦ omega (arith, here.1) | inr o ↦ y.upto.waits m d (sym (finds_other me m o) ∙ e) ];
        };
        number_is = y.number_is;
        call_is = y.call_is;
        seen_is = y.seen_is;
        knows = record { later = record { lookup = y.knows.lookup; none = y.knows.none }; waits = finds_here };
      };
    }

  -- ---- it looks at its bucket word
  module _ (d : Descends setup c) (account : Account) (flight : Flight) (local : Local) (root bucket : ℕ)
      (k : Keeps setup c me account.used flight local (LookWord root bucket))
      (y : Flying setup p t me account flight local (LookWord root bucket)) where
    -- the number of the lookup
    abbrev num : ℕ
    num = flight.number

    -- the row that it looks at
    abbrev here : Look
    here = look_at bucket (c.top bucket)

    -- the tale with the lookup's row
    abbrev looked_with : Clock → Tale
    looked_with clock = record t { looked = put_at t.looked me num (Some here); clock = clock }

    -- what others looked at stays
    looked_other : (q m : ℕ) → (q ≢ me) ⊎ (m ≢ num) → put_at t.looked me num (Some here) q m ≡ t.looked q m
    looked_other q m o = at_other t.looked me num (Some here) q m o

    -- the lookup looks at this row
    looked_here : put_at t.looked me num (Some here) me num ≡ Some here
    looked_here = put_at_same t.looked me num (Some here)

    -- it has no place: no row has its number, since that is of a lookup
    unplaced : t.clock.call me num ≡ None
    unplaced = elim (none_or (t.clock.call me num)) [
      | inl e ↦ e
      | inr z ↦ absurd (elim (told.ticks.source me num z.0 z.1) [
        | inl r ↦
            let a = applied_at r.0 r.1 me num r.2 in
            let op = told.applied a.0 a.1 me a.2 a.3 h (omega (arith, a.4, a.5)) in
            let o = told.ops me op.0 h op.1 in
            let number : (c.op_at me op.0).number ≡ num = sym op.2 ∙ a.4 in
            true≢false (sym o.3 ∙ ap is_update (sym o.2 ∙ ap (t.call_at me) number ∙ y.call_is)
            ∙ y.knows.by.later.lookup)
        | inr r ↦ none_some (sym y.knows.by.later.none ∙ r.2)
      ])
    ]

    -- a look that is there then was there, or is this one
    looked_cases : (q m : ℕ) (l : Look) → put_at t.looked me num (Some here) q m ≡ Some l →
        (t.looked q m ≡ Some l) ⊎ ((q ≡ me) × (m ≡ num) × (l ≡ here))
    looked_cases q m l e = elim (here_or q m me num) [
      | inr o ↦ inl (sym (looked_other q m o) ∙ e)
      | inl at ↦ inr (
        at.0,
        at.1,
        sym (some_same (sym looked_here
            ∙ ap (put_at t.looked me num (Some here) me) (sym at.1)
            ∙ ap (λ j. put_at t.looked me num (Some here) j m) (sym at.0) ∙ e)),
      )
    ]

    -- none that was there is lost
    looked_keeps : (q m : ℕ) (l : Look) → t.looked q m ≡ Some l → put_at t.looked me num (Some here) q m ≡ Some l
    looked_keeps q m l e = elim (here_or q m me num) [
      | inr o ↦ looked_other q m o ∙ e
      | inl at ↦ absurd (none_some (sym y.knows.by.later.none ∙ ap (t.looked me) (sym at.1)
          ∙ ap (λ j. t.looked j m) (sym at.0) ∙ e))
    ]

    -- its key has the bucket's prefix
    suits : bits setup (c.deep bucket) (key_in flight.call) ≡ c.pre bucket
    suits = subst (λ b. bits setup (c.deep b) (key_in flight.call) ≡ c.pre b) y.knows.led
        (s.leads.for_it local.dir (key_in flight.call) y.knows.old)

    -- so it loads the current row of its key
    loads : Loads (frame setup p t) (lists setup p t) (lists setup p (looked_with t.clock)) t.clock me num bucket
    loads = record {
      named = k.there;
      new = unplaced;
      found = local.dir;
      waited = y.knows.by.waits;
      state = load_state setup c s (bases setup c s d) (descends setup c s d) c.from (parent_in setup c s d)
          (gone setup c s d) (parent_leads setup c s d) local.dir (key_in flight.call) bucket y.knows.old y.knows.led;
      after = λ q m a z r. r;
      looked = λ q m b i e. elim (looked_cases q m (look_at b i) e)
          [ inl o ↦ inl o | inr o ↦ inr (o.0, o.1, ap (λ (l : Look). l.bucket) o.2, ap (λ (l : Look). l.at) o.2) ];
      looked_up = λ q m b i e. looked_keeps q m (look_at b i) e;
      looked_it = looked_here;
      in_row = λ b i q m r. r;
      in_row_up = λ b i q m r. r;
      waits = λ q m v e. e;
    }

    -- and goes on to read it
    pub look_word : Went setup me num p t p c.memory (record local { at = bucket; base = c.top bucket })
        (state_after setup me account flight (LookWord root bucket) (c.memory.bucket bucket))
    look_word = looked_at (loads_ticks (frame setup p t) (lists setup p t)
        (lists setup p (looked_with t.clock)) t.clock me num bucket loads told.ticks)
      where
        looked_at : (x : ℕ) × Ticks (frame setup p t) (lists setup p (looked_with t.clock))
            (with_call t.clock me num x) → Went setup me num p t p c.memory
            (record local { at = bucket; base = c.top bucket })
            (state_after setup me account flight (LookWord root bucket) (c.memory.bucket bucket))
        looked_at r =
            let u : Tale = looked_with (with_call t.clock me num r.0) in
            let g : Grows me num p t p u = record {
              named_up = λ b m. (m, refl, refl, omega arith);
              rows = λ b i m o. (refl, refl, refl);
              dirs = λ v o. (o, refl);
              announced = λ q j o. (o, refl);
              others = λ q o. (refl, refl);
              calls = λ q m o. (refl, λ a. refl, looked_other q m o, refl);
            } in
            record {
              tale = u;
              grows = g;
              done = done;
              told = record {
                counts = told.counts;
                ticks = r.1;
                seen_few = told.seen_few;
                seen_none = told.seen_none;
                placed = λ q m inside one few. let z = told.placed q m inside one few in
                    (z.0, called_keeps t.clock.call me num r.0 q m z.0 unplaced z.1);
                ops = told.ops;
                applied = told.applied;
                looks = λ q m l e. elim (looked_cases q m l e) [
                  | inl o ↦ told.looks q m l o
                  | inr o ↦ (
                    omega (arith, o.0, h),
                    subst (λ j. is_update (t.call_at j m) ≡ false) (sym o.0)
                        (subst (λ j. is_update (t.call_at me j) ≡ false) (sym o.1)
                        (ap is_update y.call_is ∙ y.knows.by.later.lookup)),
                  )
                ];
                first_leaf = told.first_leaf;
                first_dir = told.first_dir;
                rows = λ b i m o. row_made setup me num p t p u g (c.state_at b i) (c.state_at b (i + 1))
                    (t.row_ops b i) (told.rows b i m o);
                versions = λ v o. version_made setup me num p t p u g v (c.dir_at v) (c.dir_at (v + 1))
                    (t.dir_made v) (λ b m. (refl, refl)) (λ b m e. m) (λ b m f. refl) (told.versions v o);
              };
              seat = record {
                answers = own_answers setup me num p t p u g num account.records (omega (arith, y.number_is))
                    (omega arith) refl y.answers;
                upto = record {
                  ops = y.upto.ops;
                  looks = λ m l e. elim (looked_cases me m l e)
                      [ inl o ↦ y.upto.looks m l o | inr o ↦ omega (arith, o.1) ];
                  waits = y.upto.waits;
                };
                number_is = y.number_is;
                call_is = y.call_is;
                seen_is = y.seen_is;
                knows = record { lookup = y.knows.by.later.lookup; looked_is = looked_here; suits = suits };
              };
            }

  -- ---- it ends: its done word tells it
  module _ (account : Account) (flight : Flight) (local : Local) (reply : Reply) (place : ℕ)
      (y : Flying setup p t me account flight local (StoreDone reply place)) where
    -- the tale with one more answer
    abbrev ended : Tale
    ended = record t { answers = put t.answers me (t.answers me + 1) }

    -- the seat has one more
    ended_here : ended.answers me ≡ t.answers me + 1
    ended_here = put_same t.answers me (t.answers me + 1)

    -- the others have as many as before
    ended_other : (q : ℕ) → q ≢ me → ended.answers q ≡ t.answers q
    ended_other q o = put_other t.answers me (t.answers me + 1) q o

    -- nobody has fewer
    ended_up : (q : ℕ) → t.answers q ≤ ended.answers q
    ended_up q = elim (cases_eq q me) [
      | inl e ↦ omega (arith, ap ended.answers e, ap t.answers e, ended_here)
      | inr
          o ↦ omega (arith, ended_other q o)
    ]

    -- the tale grows
    ended_grows : Grows me flight.number p t p ended
    ended_grows = record {
      named_up = λ b m. (m, refl, refl, omega arith);
      rows = λ b i m o. (refl, refl, refl);
      dirs = λ v o. (o, refl);
      announced = λ q j o. (o, refl);
      others = λ q o. (refl, ended_other q o);
      calls = λ q m o. (refl, λ a. refl, refl, refl);
    }

    -- the call that ends has a place
    has_place : (z : ℕ) × (t.clock.call me flight.number ≡ Some z)
    has_place = elim (cases_Bool (is_update flight.call)) [
      | inl u ↦
          let r = y.knows.update u in
          let some : 0 < applied_of (c.state_at r.bucket r.at) me = omega (arith, r.number_is, y.number_is) in
          elim (told.counts.unit r.bucket r.at me (record { named = r.named; inside = r.inside }) some) [
            | inl a ↦
                let at = subst (λ z. NewAt (tally setup p t) a.0 (suc a.1) me z) r.number_is a.2 in
                let z = told.ticks.placed a.0 (suc a.1) me flight.number at in
                (t.clock.row a.0 (suc a.1), z.2)
            | inr v ↦
                let at = subst (λ z. NewAt (tally setup p t) v.1.bucket zero me z) r.number_is (v.0, v.1, refl) in
                let z = told.ticks.placed v.1.bucket zero me flight.number at in
                (t.clock.row v.1.bucket zero, z.2)
          ]
      | inr u ↦ let r = y.knows.lookup u in let z = told.ticks.looked me flight.number r.bucket r.at r.looked_is in
          (z.0, z.1)
    ]

    -- each record of the seat is right
    record_is : (i : ℕ) → i ≡ length account.records →
        IsRecord setup p ended me (i + 1) (record_of me flight reply place)
    record_is i e = subst (λ z. IsRecord setup p ended me z (record_of me flight reply place))
        (omega (arith, y.number_is, e)) (record {
          seat_is = refl;
          number_is = refl;
          call_is = sym y.call_is;
          seen_is = λ a. seen_in flight.seen a ∙ y.seen_is a;
          reply = has_reply setup me flight.number p t p ended ended_grows me flight.number flight.call place reply refl
              y.knows;
        })

    -- so the seat has answered
    pub store_done : Went setup me flight.number p t p
        (record c.memory { done = put c.memory.done me flight.number }) local
        (state_after setup me account flight (StoreDone reply place) 0)
    store_done = record {
      tale = ended;
      grows = ended_grows;
      done = λ q. elim (cases_eq q me) [
        | inl e ↦ subst (λ z. put c.memory.done me flight.number z ≡ ended.answers z) (sym e)
            (put_same c.memory.done me flight.number ∙ y.number_is ∙ ap (λ z. z + 1) (sym y.answers.many)
            ∙ sym ended_here)
        | inr o ↦ put_other c.memory.done me flight.number q o ∙ done q ∙ sym (ended_other q o)
      ];
      told = record {
        counts = told.counts;
        ticks = told.ticks;
        seen_few = λ q m a. omega (arith, told.seen_few q m a, ended_up a);
        seen_none = told.seen_none;
        placed = λ q m inside one few. elim (here_or q m me flight.number) [
          | inl at ↦ (has_place.0, ap (λ j. t.clock.call j m) at.0 ∙ ap (t.clock.call me) at.1 ∙ has_place.1)
          | inr o ↦ told.placed q m inside one (elim (cases_eq q me) [
            | inr n ↦ omega (arith, few, ended_other q n)
            | inl e ↦ elim o [
              | inl n ↦ absurd (n e)
              | inr n ↦ omega
                  (arith, few, n, ap ended.answers e, ended_here, ap t.answers e, y.number_is, y.answers.many)
            ]
          ])
        ];
        ops = λ q j inside less. let o = told.ops q j inside less in (o.0, omega (arith, o.1, ended_up q), o.2, o.3);
        applied = told.applied;
        looks = told.looks;
        first_leaf = told.first_leaf;
        first_dir = told.first_dir;
        rows = λ b i m o. row_made setup me flight.number p t p ended ended_grows (c.state_at b i)
            (c.state_at b (i + 1)) (t.row_ops b i) (told.rows b i m o);
        versions = λ v o. version_made setup me flight.number p t p ended ended_grows v (c.dir_at v)
            (c.dir_at (v + 1)) (t.dir_made v) (λ b m. (refl, refl)) (λ b m e. m) (λ b m f. refl) (told.versions v o);
      };
      seat = record {
        answers = record {
          many = ended_here ∙ ap (λ z. z + 1) y.answers.many
              ∙ sym (length_push account.records (record_of me flight reply place));
          each = λ i d less. elim (cases_lt i (length account.records)) [
            | inl old ↦ subst (IsRecord setup p ended me (i + 1))
                (sym (get_or_append_left account.records (record_of me flight reply place ∷ []) d i old))
                (is_record setup me flight.number p t p ended ended_grows me (i + 1) (get_or account.records i d)
                (inr (omega (arith, old, y.number_is))) (y.answers.each i d old))
            | inr new ↦
                let at : i ≡ length account.records =
                omega (arith, new, less, length_push account.records (record_of me flight reply place)) in
                subst (IsRecord setup p ended me (i + 1))
                (sym (get_or_push account.records (record_of me flight reply place) d i (sym at))) (record_is i at)
          ];
          unseen = λ m a over. y.answers.unseen m a
              (omega (arith, over, y.number_is, length_push account.records (record_of me flight reply place)));
        };
        upto =
            let last : length (account.records ++ record_of me flight reply place ∷ []) ≡ flight.number =
            length_push account.records (record_of me flight reply place) ∙ sym y.number_is in
            record {
              ops = λ j less. omega (arith, y.upto.ops j less, last);
              looks = λ m l e. omega (arith, y.upto.looks m l e, last);
              waits = λ m v e. omega (arith, y.upto.waits m v e, last);
            };
      };
    }
