-- What an event of one seat leaves to the others: a row that was loaded is known by its place, what was read of it
-- stays read, a try that is lost stays lost, and each stands as it did.
use Rattle.std.proofs.Common.{◌≡◌, ◌≢◌, ℕ, ◌-◌, ◌<◌, ◌≤◌, ◌⊎◌, inl, inr, true, false, true≢false, List, [], ◌∷◌, ◌++◌, length, get_or, take, Option, Some, sym, ap, ◌∙◌, subst, arith}
use Rattle.list_laws.proofs.Lists.{In}
use Rattle.plain_map.specs.declared.keys.Key.{Key}
use Rattle.plain_map.specs.declared.records.Record.{Record}
use Rattle.plain_map.specs.Calls.{key_in}
use Rattle.bucket_states.specs.declared.ops.Op.{Op}
use Rattle.bucket_states.specs.States.{BucketState}
use Rattle.bucket_states.specs.Laws.{applied_of}
use Rattle.table_model.specs.declared.rounds.Round.{Round}
use Rattle.table_model.specs.Phases.{Phase, BucketTry}
use Rattle.table_model.specs.Goes.{more, after_found}
use Rattle.word_rows.specs.OpWords.{words_of_call}
use Rattle.run_invariant.proofs.Invariant.{last, op_now}
use Rattle.step_counts.specs.declared.rows.SeatRows.{SeatRows}
use Rattle.helping_laws.proofs.Extends.{Extends}
use Rattle.lasting_model.specs.Plans.{Plan, ample, bucket_for}
use Rattle.lasting_model.specs.Codes.{generation_in, row_in, state_words, number_place, reply_place}
use Rattle.lasting_model.specs.Steps as S
use Rattle.lasting_model.specs.Steps.{Update, Step, SeatNow, Try, bucket_of_update, next_row}
use Rattle.lasting_model.specs.Worlds as L
use Rattle.lasting_laws.proofs.Pools.{owner_in, word_in, rows_at}
use Rattle.lasting_laws.proofs.Holding as H
use Rattle.lasting_laws.proofs.HeldStates.{among, look_of}
use Rattle.lasting_laws.proofs.HeldSteps.{in_among}
use Rattle.lasting_laws.proofs.Marks.{Turn, known_of}
use Rattle.lasting_laws.proofs.Shown.{View, Rows, IsIn, OpStands, SlotOf, Moved, Waits, Begins, InStep, Late, IsRow, Reads, IsTry, Looked, Found, Reading, Says, Held, Keeps, IsMade, Seated, Stands}

-- what an event of seat p leaves
pub record After (plan : Plan) (p : ℕ) (v y : View) : Type 0 where
  pub extends : Extends v.c y.c
  pub used : (q : ℕ) → q ≢ p → y.c.used q ≡ v.c.used q
  pub state : (q : ℕ) → q ≢ p → y.g q ≡ v.g q
  pub past : (q : ℕ) → q ≢ p → y.past q ≡ v.past q
  pub grow : (k : ℕ) → length (v.g k).account.records ≤ length (y.g k).account.records
  pub seat : (q : ℕ) → q ≢ p → L.seat_in y.x q ≡ L.seat_in v.x q
  pub words : (b i : ℕ) → v.c.named b ≡ true → i ≤ v.c.top b → y.word_at b i ≡ v.word_at b i
  pub turn : Turn plan v.x y.x
  pub touch : (row : ℕ) → ((i : ℕ) → y.x.store.row row i ≡ v.x.store.row row i)
      ⊎ ((owner_in plan row ≡ p) × In row (L.seat_in v.x p).free)
  pub slot : (q j : ℕ) → q ≢ p → y.x.store.op q j ≡ v.x.store.op q j
  pub want : (q : ℕ) → q ≢ p → y.x.store.want q ≡ v.x.store.want q
  pub up : (b q : ℕ) → v.c.named b ≡ true → applied_of (last v.c b) q ≤ applied_of (last y.c b) q
  pub since : (q row : ℕ) → y.since q row ≡ true → among (L.seat_in y.x (owner_in plan row)).free row ≡ false →
      H.IsActive (look_of (L.seat_in y.x q).stand) →
      ((v.since q row ≡ true) × (among (L.seat_in v.x (owner_in plan row)).free row ≡ false)
      × H.IsActive (look_of (L.seat_in v.x q).stand))
      ⊎ (row ≡ word_in y.x (y.x.store.want q))
  pub rows : Rows plan y

module _ (plan : Plan) (p : ℕ) (v y : View) (a : After plan p v y) (was : Rows plan v)
    (named : (key : Key) → v.c.named (bucket_for (ample plan) key) ≡ true) where
  abbrev pub b : Update → ℕ
  b u = bucket_of_update (ample plan) u

  pub there : (u : Update) → v.c.named (b u) ≡ true
  there u = named (key_in u.call)

  -- a row stays where it is
  abbrev pub row_stays : (u : Update) (word : ℕ) → IsRow plan v u word → IsRow plan y u word
  row_stays u word r =
      let up = a.extends.named_up (b u) (there u) in
      record {
        at = r.at;
        old = omega (arith, r.old, up.3);
        word_is = r.word_is ∙ sym (a.words (b u) r.at (there u) r.old);
      }

  -- its owner has published it no less often than it knows
  pub low : (u : Update) (word : ℕ) → IsRow plan v u word → generation_in word ≤ known_of plan v.x (row_in word)
  low u word r = subst (λ w. generation_in w ≤ known_of plan v.x (row_in w)) (sym r.word_is)
      (was.old (b u) r.at (there u) r.old)

  -- what stands now stood before
  pub stood : (word : ℕ) → generation_in word ≤ known_of plan v.x (row_in word) → Stands plan y word →
      Stands plan v word
  stood word small e = elim (a.turn.rows (row_in word)) [
    | inl same ↦ sym (same 0) ∙ e
    | inr new ↦ absurd (omega (arith, new, e, small))
  ]

  -- a row of the ghost says what it said
  pub said_same : (u : Update) (at : ℕ) → at ≤ v.c.top (b u) → y.c.state_at (b u) at ≡ v.c.state_at (b u) at
  said_same u at old = (a.extends.rows (b u) at (there u) old).2

  -- what was read stays read
  pub reads_stay : (u : Update) (word : ℕ) (words : List ℕ) (r : IsRow plan v u word) →
      Reads plan v u word r.at words → Reads plan y u word r.at words
  reads_stay u word words r reads stands =
      reads (stood word (low u word r) stands)
      ∙ ap (λ (s : BucketState). take (length words) (state_words (ample plan) s)) (sym (said_same u r.at r.old))

  -- and a try that is lost stays lost: no word returns
  pub moved_stays : (u : Update) (word : ℕ) → IsRow plan v u word → Moved plan v u word → Moved plan y u word
  moved_stays u word r moved e =
      let up = a.extends.named_up (b u) (there u) in
      let then_row = row_stays u word r in
      let place : y.c.top (b u) ≡ r.at =
      a.rows.once (b u) (y.c.top (b u)) r.at up.0 (omega arith) then_row.old
      (sym (a.rows.word_is (b u) up.0) ∙ e ∙ then_row.word_is) in
      let top : r.at ≡ v.c.top (b u) = omega (arith, place, r.old, up.3) in
      moved (was.word_is (b u) (there u) ∙ ap (v.word_at (b u)) (sym top) ∙ sym r.word_is)

  pub try_stays : (u : Update) (turn at : ℕ) (round : Round) (attempt : BucketTry) → at ≤ v.c.top (b u) →
      IsTry plan v u turn at round attempt → IsTry plan y u turn at round attempt
  try_stays u turn at round attempt old t = record {
    of_key = t.of_key;
    number_is = t.number_is ∙ sym (a.extends.rows (b u) at (there u) old).0;
    state_is = t.state_is ∙ sym (said_same u at old);
    turn_is = t.turn_is;
    one = t.one;
  }

  -- an op that is in its bucket stays there
  pub in_stays : (q : ℕ) (op : Op) → IsIn plan v q op → IsIn plan y q op
  in_stays q op i =
      let up = a.up (bucket_for (ample plan) (key_in op.call)) q (named (key_in op.call)) in
      omega (arith, i, up)

  -- what was found stays found
  abbrev pub found_stays : (q : ℕ) (u : Update) (t : Try) (found : List (Option Op)) → Found plan v q u t found →
      Found plan y q u t found
  found_stays q u t found f = record {
    row = row_stays u t.word f.row;
    round = f.round;
    attempt = f.attempt;
    theirs = f.theirs;
    is_try = try_stays u t.turn f.row.at f.round f.attempt f.row.old f.is_try;
    same = f.same;
    lacks = f.lacks;
    as_many = f.as_many;
    alike = elim f.alike [ inl m ↦ inl (moved_stays u t.word f.row m) | inr all ↦ inr all ];
  }

  -- ---- a seat whose ghost stands as it did

  module _ (q : ℕ) (used_q : y.c.used q ≡ v.c.used q) (state_q : y.g q ≡ v.g q) where
    pub rows_same : (y.c.used q).op_rows ≡ (v.c.used q).op_rows
    rows_same = ap (λ (s : SeatRows). s.op_rows) (used_q)

    pub op_same : 0 < (v.c.used q).op_rows → op_now y.c q ≡ op_now v.c q
    op_same some = ap (λ n. y.c.op_at q (n - 1)) rows_same
        ∙ (a.extends.calls q ((v.c.used q).op_rows - 1) (omega (arith, some))).0

    pub waits_stay : (n : ℕ) → Waits plan v q n → Waits plan y q n
    waits_stay n w = record {
      idle = ap (λ s. s.stand) (state_q) ∙ w.idle;
      count = ap (λ s. length s.account.records) (state_q) ∙ w.count;
      applied = λ some.
          let was_some : 0 < (v.c.used q).op_rows = omega (arith, some, rows_same) in
          subst (IsIn plan y q) (sym (op_same was_some)) (in_stays q (op_now v.c q) (w.applied was_some));
    }

    pub ops_stay : ((j : ℕ) → y.x.store.op q j ≡ v.x.store.op q j) → OpStands plan v q → OpStands plan y q
    ops_stay slot k some =
        let was_some : 0 < (v.c.used q).op_rows = omega (arith, some, rows_same) in
        λ j less. slot j ∙ k was_some j less
        ∙ ap (λ (o : Op). get_or (words_of_call o.call) j 0) (sym (op_same was_some))

    -- and is in the same call
    module _ (past_q : y.past q ≡ v.past q)
        (answered_q : (L.seat_in y.x q).answered ≡ (L.seat_in v.x q).answered) where
      pub waits_now : Waits plan v q (L.seat_in v.x q).answered → Waits plan y q (L.seat_in y.x q).answered
      waits_now w = subst (Waits plan y q) (sym answered_q) (waits_stay (L.seat_in v.x q).answered w)

      pub begins_stay : Begins plan v q → Begins plan y q
      begins_stay w = record {
        waits = waits_now w.waits;
        past_is = ap (λ s. s.account.records) (state_q) ∙ w.past_is
            ∙ ap (λ (f : ℕ → List Record). f q) (sym past_q);
        grown = λ k. (let was = w.grown k in let up = a.grow k in
            let same = ap (λ (f : ℕ → List Record). length (f k)) past_q in omega (arith, was, up, same));
      }

      pub step_stays : (u : Update) (phase : Phase) → InStep plan v q u phase → InStep plan y q u phase
      step_stays u phase s = record {
        account = s.account;
        flight = s.flight;
        state = state_q ∙ s.state;
        number_is = s.number_is;
        call_is = s.call_is;
        past_is = s.past_is ∙ ap (λ (f : ℕ → List Record). f q) (sym past_q);
        saw = λ k h. (let was = s.saw k h in let same = ap (λ (f : ℕ → List Record). length (f k)) past_q in
            omega (arith, was, same));
      }

      abbrev pub late_stays : (u : Update) → Late plan v q u → Late plan y q u
      late_stays u l = record {
        idle = ap (λ s. s.stand) (state_q) ∙ l.idle;
        made = l.made;
        records_are = ap (λ s. s.account.records) (state_q) ∙ l.records_are
            ∙ ap (λ (f : ℕ → List Record). f q ++ l.made ∷ []) (sym past_q);
        saw = λ k h. (let was = l.saw k h in let same = ap (λ (f : ℕ → List Record). length (f k)) past_q in
            omega (arith, was, same));
        number_is = l.number_is;
        call_is = l.call_is;
        spelled = l.spelled;
        some = omega (arith, l.some, rows_same);
        op_is = op_same l.some ∙ l.op_is;
        has = (let up = a.up (b u) q (there u) in omega (arith, l.has, up));
      }

      pub looked_stays : (u : Update) (turn at : ℕ) → at ≤ v.c.top (b u) → Looked plan v q u turn at →
          Looked plan y q u turn at
      looked_stays u turn at old (inl l) = inl (record {
        round = l.round;
        attempt = l.attempt;
        is_try = try_stays u turn at l.round l.attempt old l.is_try;
        in_step = step_stays u _ l.in_step;
        lacks = l.lacks;
      })
      looked_stays u turn at old (inr l) = inr (
        late_stays u l.0,
        subst (λ (s : BucketState). u.number ≤ applied_of s q) (sym (said_same u at old)) l.1,
      )

      abbrev pub reading_stays : (u : Update) (t : Try) (found : List (Option Op)) (announced : ℕ) (words : List ℕ) →
          Reading plan v q u t found announced words → Reading plan y q u t found announced words
      reading_stays u t found announced words r =
          let r' = length found in
          let same : y.c.op_at r' r.j ≡ v.c.op_at r' r.j = (a.extends.calls r' r.j r.less).0 in
          record {
            finds = found_stays q u t found r.finds;
            j = r.j;
            less = (let up = a.extends.ops_up r' in omega (arith, r.less, up));
            in_step = subst (λ (o : Op). InStep plan y q u (after_found (ample plan) r.finds.round r.finds.attempt
                (more r.finds.theirs (Some o)))) (sym same) (step_stays u _ r.in_step);
            tells = r.tells ∙ ap (λ (o : Op). o.number) (sym same);
            of_bucket = ap (λ (o : Op). bucket_for (ample plan) (key_in o.call)) same ∙ r.of_bucket;
            due = subst (λ (o : Op). applied_of r.finds.attempt.state r' < o.number) (sym same) r.due;
            reads = elim r.reads [
              | inl m ↦ inl (moved_stays u t.word r.finds.row m)
              | inr e ↦ inr (e ∙ ap (λ (o : Op). take (length words) (words_of_call o.call)) (sym same))
            ];
          }

      pub made_stays : (u : Update) → IsMade plan v q u → IsMade plan y q u
      made_stays u m =
          record {
            number_is = omega (arith, m.number_is, answered_q);
            long = ap (λ (f : ℕ → List Record). length (f q)) past_q ∙ m.long ∙ sym answered_q;
            update = m.update;
            key = m.key;
            few = omega (arith, m.few, answered_q);
          }

      -- ---- another seat

      module _ (other : q ≢ p) (exact : (u : Update) (late : Late plan y q u) → IsMade plan y q u →
          Says plan y q u late.made (word_in y.x (b u)))
          (mine : (u : Update) (step : Step) → (L.seat_in v.x q).stand ≡ S.Goes u step → 1 ≤ rows_at step →
          owner_in plan (next_row (L.seat_in v.x q)) ≡ q) where
        -- a row that is not free stays as it is
        live_same : (row : ℕ) → among (L.seat_in v.x (owner_in plan row)).free row ≡ false → (i : ℕ) →
            y.x.store.row row i ≡ v.x.store.row row i
        live_same row live = elim (a.touch row) [
          | inl same ↦ same
          | inr t ↦ absurd (true≢false (sym (in_among (L.seat_in v.x p).free row t.1)
              ∙ ap (λ k. among (L.seat_in v.x k).free row) (sym t.0) ∙ live))
        ]

        held_stays : (u : Update) → IsMade plan y q u → H.IsActive (look_of (L.seat_in y.x q).stand) →
            Held plan v q u → Held plan y q u
        held_stays u made active h = record {
          late = late_stays u h.late;
          want = a.want q other ∙ h.want;
          says = λ row e f. elim (a.since q row e f active) [
            | inl z ↦
                let s = h.says row z.0 z.1 in
                (live_same row z.1 (number_place q) ∙ s.0, live_same row z.1 (reply_place q) ∙ s.1)
            | inr z ↦ subst (Says plan y q u h.late.made)
                (sym (z ∙ ap (word_in y.x) (a.want q other ∙ h.want))) (exact u (late_stays u h.late) made)
          ];
        }

        -- its own row, while it writes that
        so_far_stays : (u : Update) (step : Step) (t : Try) (found : List (Option Op)) (n : ℕ) →
            (L.seat_in v.x q).stand ≡ S.Goes u step → 1 ≤ rows_at step →
            ((j : ℕ) → j < n → v.x.store.row (next_row (L.seat_in v.x q)) j
            ≡ get_or (S.new_words (ample plan) (L.seat_in v.x q) t found) j 0) →
            (j : ℕ) → j < n → y.x.store.row (next_row (L.seat_in y.x q)) j
            ≡ get_or (S.new_words (ample plan) (L.seat_in y.x q) t found) j 0
        so_far_stays u step t found n at some so_far = subst (λ (s : SeatNow). (j : ℕ) → j < n →
            y.x.store.row (next_row s) j ≡ get_or (S.new_words (ample plan) s t found) j 0) (sym (a.seat q other))
            (λ j less. elim (a.touch (next_row (L.seat_in v.x q))) [
              | inl same ↦ same j ∙ so_far j less
              | inr z ↦ absurd (other (sym (mine u step at some) ∙ z.0))
            ])

        keeps_stay : (u : Update) (step : Step) → IsMade plan y q u → (L.seat_in v.x q).stand ≡ S.Goes u step →
            Keeps plan v q u step →
            Keeps plan y q u step
        keeps_stay u (S.Sweeps rows) made at k = begins_stay k
        keeps_stay u (S.StoreOp i) made at k = (begins_stay k.0, k.1)
        keeps_stay u S.Announce made at k = begins_stay k
        keeps_stay u (S.LoadWord turn) made at k = (
          k.0,
          elim k.1 [
            | inl z ↦ inl (z.0, z.1, z.2, step_stays u _ z.3)
            | inr l ↦ inr (late_stays u l)
          ],
        )
        keeps_stay u (S.LoadRow turn word words) made at k = record {
          row = row_stays u word k.row;
          looked = looked_stays u turn k.row.at k.row.old k.looked;
          reads = reads_stay u word words k.row k.reads;
          short = k.short;
        }
        keeps_stay u (S.CheckRow turn word words) made at k = record {
          row = row_stays u word k.row;
          looked = looked_stays u turn k.row.at k.row.old k.looked;
          reads = reads_stay u word words k.row k.reads;
          whole = k.whole;
        }
        keeps_stay u (S.LoadAnnounced t found) made at k = record {
          finds = found_stays q u t found k.finds;
          in_step = step_stays u _ k.in_step;
          few = k.few;
          other = k.other;
        }
        keeps_stay u (S.LoadOp t found announced words) made at k = record {
          reading = reading_stays u t found announced words k.reading;
          short = k.short;
          few = k.few;
          other = k.other;
        }
        keeps_stay u (S.StoreRow t found i) made at k = record {
          finds = found_stays q u t found k.finds;
          in_step = step_stays u _ k.in_step;
          so_far = so_far_stays u (S.StoreRow t found i) t found i at (omega arith) k.so_far;
        }
        keeps_stay u (S.Exchange t found) made at k = record {
          finds = found_stays q u t found k.finds;
          in_step = step_stays u _ k.in_step;
          whole = subst (λ (s : SeatNow). (j : ℕ) → j < length (S.new_words (ample plan) s t found) →
              y.x.store.row (next_row s) j ≡ get_or (S.new_words (ample plan) s t found) j 0) (sym (a.seat q other))
              (subst (λ (s : SeatNow). (j : ℕ) → j < length (S.new_words (ample plan) (L.seat_in v.x q) t found) →
              y.x.store.row (next_row s) j ≡ get_or (S.new_words (ample plan) s t found) j 0) (a.seat q other)
              (so_far_stays u (S.Exchange t found) t found (length (S.new_words (ample plan) (L.seat_in v.x q) t found))
              at (omega arith) k.whole));
        }
        keeps_stay u S.StoreWant made at k = late_stays u k
        keeps_stay u S.StoreAsking made at k = (late_stays u k.0, a.want q other ∙ k.1)
        keeps_stay u S.HeldWord made at k = held_stays u made (subst (λ (s : S.Stand). H.IsActive (look_of s))
            (sym (ap (λ (s : SeatNow). s.stand) (a.seat q other) ∙ at)) tt) k
        keeps_stay u (S.TakeHold word) made at k = held_stays u made (subst (λ (s : S.Stand). H.IsActive (look_of s))
            (sym (ap (λ (s : SeatNow). s.stand) (a.seat q other) ∙ at)) tt) k
        keeps_stay u (S.HeldNumber row) made at k = held_stays u made (subst (λ (s : S.Stand). H.IsActive (look_of s))
            (sym (ap (λ (s : SeatNow). s.stand) (a.seat q other) ∙ at)) tt) k
        keeps_stay u (S.HeldReply row) made at k = held_stays u made (subst (λ (s : S.Stand). H.IsActive (look_of s))
            (sym (ap (λ (s : SeatNow). s.stand) (a.seat q other) ∙ at)) tt) k
        keeps_stay u S.Stuck made at k = k

        -- THE RESULT: another seat stands as it did
        pub seated_stays : (stand : S.Stand) → (L.seat_in v.x q).stand ≡ stand → Seated plan v q stand →
            Seated plan y q stand
        seated_stays S.Idle at k = waits_now k
        seated_stays (S.Glances aim glance) at k = waits_now k
        seated_stays (S.Goes u step) at k = (made_stays u k.0, keeps_stay u step (made_stays u k.0) at k.1)

      -- and the words of its op stand
      pub slot_stays : (slot : (j : ℕ) → y.x.store.op q j ≡ v.x.store.op q j) (stand : S.Stand) →
          SlotOf plan v q stand → SlotOf plan y q stand
      slot_stays slot S.Idle k = ops_stay slot k
      slot_stays slot (S.Glances aim glance) k = ops_stay slot k
      slot_stays slot (S.Goes u (S.StoreOp i)) k = λ j less. slot j ∙ k j less
      slot_stays slot (S.Goes u S.Announce) k = λ j less. slot j ∙ k j less
      slot_stays slot (S.Goes u (S.Sweeps rows)) k = ops_stay slot k
      slot_stays slot (S.Goes u (S.LoadWord turn)) k = ops_stay slot k
      slot_stays slot (S.Goes u (S.LoadRow turn word words)) k = ops_stay slot k
      slot_stays slot (S.Goes u (S.CheckRow turn word words)) k = ops_stay slot k
      slot_stays slot (S.Goes u (S.LoadAnnounced t found)) k = ops_stay slot k
      slot_stays slot (S.Goes u (S.LoadOp t found announced words)) k = ops_stay slot k
      slot_stays slot (S.Goes u (S.StoreRow t found i)) k = ops_stay slot k
      slot_stays slot (S.Goes u (S.Exchange t found)) k = ops_stay slot k
      slot_stays slot (S.Goes u S.StoreWant) k = ops_stay slot k
      slot_stays slot (S.Goes u S.StoreAsking) k = ops_stay slot k
      slot_stays slot (S.Goes u S.HeldWord) k = ops_stay slot k
      slot_stays slot (S.Goes u (S.TakeHold word)) k = ops_stay slot k
      slot_stays slot (S.Goes u (S.HeldNumber row)) k = ops_stay slot k
      slot_stays slot (S.Goes u (S.HeldReply row)) k = ops_stay slot k
      slot_stays slot (S.Goes u S.Stuck) k = ops_stay slot k
