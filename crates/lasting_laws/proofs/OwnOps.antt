-- What an update loads of the ops of the others: what is announced, and where it is due the op.
use Rattle.std.proofs.Common.{◌≡◌, ℕ, ◌+◌, ◌-◌, ◌^◌, ◌<◌, ◌≤◌, ◌⊎◌, inl, inr, Bool, true, false, true≢false, cond, List, [], ◌∷◌, length, get_or, take, Option, Some, None, refl, sym, ap, ◌∙◌, subst, arith}
use Rattle.std.specs.Prelude.{◌==◌, ◌&&◌, nat_lt, slice_index, IfSome}
use Rattle.std.proofs.Math.Pow.{pow_mono}
use Rattle.std.proofs.lemmas.Bool.{cases_lt, eqb-true, ltb-true, ltb-false}
use Rattle.std.proofs.lemmas.List.{length-append, take_all}
use Rattle.plain_map.specs.declared.calls.Call.{Call}
use Rattle.plain_map.specs.declared.calls.Call.TheVariants.{Insert, Remove, Lookup, Tally, Count, Put}
use Rattle.plain_map.specs.declared.keys.Key.{Key}
use Rattle.plain_map.specs.Calls.{key_in}
use Rattle.plain_map.specs.Updates.{IsUpdate}
use Rattle.word_rows.specs.OpWords.{words_of_call}
use Rattle.bucket_states.specs.declared.ops.Op.{Op}
use Rattle.bucket_states.specs.Items.{prefix_of}
use Rattle.bucket_states.specs.States.{BucketState}
use Rattle.bucket_states.specs.Laws.{applied_of}
use Rattle.bucket_states.specs.Change as Change
use Rattle.table_model.specs.Setup.{Setup, settings_of, seats_of, rules_of}
use Rattle.table_model.specs.Phases.{TryAnnouncement}
use Rattle.table_model.specs.SeatStates.{Account}
use Rattle.table_model.specs.Goes.{more, after_found}
use Rattle.run_invariant.proofs.Invariant.{Common, IsOpRow, last, op_now}
use Rattle.lasting_model.specs.Plans.{Plan, IsPlan, ample, bucket_for}
use Rattle.lasting_model.specs.Codes.{SLOT_WORDS, announcing, update_in, class_in, call_in}
use Rattle.lasting_model.specs.Steps as S
use Rattle.lasting_model.specs.Steps.{SeatNow, Update, Step, Stand, Try, bucket_of_update, is_due}
use Rattle.lasting_model.specs.Goes.{On, op_in, found_so_far}
use Rattle.lasting_model.specs.Worlds.{Lasting, goes, seat_after, answers_after, stepped, ticked, with_seat}
use Rattle.lasting_model.specs.Worlds as L
use Rattle.lasting_laws.proofs.Words.{update_of, class_of, call_of_slot}
use Rattle.lasting_laws.proofs.PoolEvents.{bucket_small}
use Rattle.lasting_laws.proofs.FixedDepth.{prefix_is_class}
use Rattle.lasting_laws.proofs.Alike.{Alike}
use Rattle.lasting_laws.proofs.Shown.{View, SlotOf, OpStands, IsIn, Moved, InStep, Found, Reading, IsMade, Keeps, Seated, Moment, view, IsShown, IsNext}
use Rattle.lasting_laws.proofs.Stays.{found_stays, reading_stays}
use Rattle.lasting_laws.proofs.Exact.{update_tested}
use Rattle.lasting_laws.proofs.Ghost.{seats_are, inside_ghost, there, prefix_is, depth_is}
use Rattle.lasting_laws.proofs.Moments.{no_burst, At, Finds, finds}
use Rattle.lasting_laws.proofs.Next.{Lawful}
use Rattle.lasting_laws.proofs.Own.{after, named, own_ops, step_now, w_on, goes_to}
use Rattle.lasting_laws.proofs.OwnStill.{kept, slotted, still, goes_still, ops_still, w_still, after_still, past_still, answered_still}
use Rattle.lasting_laws.proofs.RowWords.{longer}
use Rattle.lasting_laws.proofs.OwnFound.{alike_more, To, free, calm, found_on}

-- the words of an update's call are as many as a slot has
call_long : (call : Call) → IsUpdate call → length (words_of_call call) ≡ SLOT_WORDS
call_long (Insert key value) u = refl
call_long (Remove key) u = refl
call_long (Lookup key) u = absurd u
call_long (Tally key amount) u = refl
call_long (Count key value amount) u = refl
call_long (Put key value) u = refl

-- a class fits into an announcement
class_fits : (plan : Plan) (key : Key) → bucket_for (ample plan) key < 2 ^ 15
class_fits plan key =
    let small = bucket_small plan key in
    let places : 2 ^ plan.settings.depth ≤ 2 ^ 12 = pow_mono plan.settings.depth_in_range.1 in
    omega (arith, small, places)

module _ (plan : Plan) (is_plan : IsPlan plan) (x : Lasting) (shown : IsShown plan x) (p : ℕ)
    (inside : p < plan.settings.seats) (u : Update) (t : Try) where
  abbrev setup : Setup
  setup = ample plan

  abbrev now : SeatNow
  now = L.seat_in x p

  abbrev m : Moment setup
  m = shown.moment

  abbrev c : Common
  c = shown.moment.common

  abbrev v : View
  v = view plan x shown.moment shown.word_at shown.cut shown.tied

  -- how many answers of each seat there were when its call began
  abbrev pub least : ℕ → ℕ
  least k = length (v.past p k)

  abbrev b : ℕ
  b = bucket_of_update setup u

  named_b : c.named b ≡ true
  named_b = there plan is_plan m shown.shows.rows.numbered (key_in u.call)

  -- an op that is due in the row of the try and is in the row in use: the try is lost
  due_moved : (found : List (Option Op)) (f : Found plan v p u t found) (r : ℕ) (op : Op) →
      bucket_for setup (key_in op.call) ≡ b → applied_of f.attempt.state r < op.number → IsIn plan v r op →
      Moved plan v u t.word
  due_moved found f r op of_bucket due is e =
      let top : c.top b ≡ f.row.at =
      shown.shows.rows.once b (c.top b) f.row.at named_b (omega arith) f.row.old
      (sym (shown.shows.rows.word_is b named_b) ∙ e ∙ f.row.word_is) in
      let here : applied_of (last c (bucket_for setup (key_in op.call))) r ≡ applied_of f.attempt.state r =
      ap (λ k. applied_of (last c k) r) of_bucket ∙ ap (λ n. applied_of (c.state_at b n) r) top
      ∙ ap (λ (s : BucketState). applied_of s r) (sym f.is_try.state_is) in
      omega (arith, due, is, here)

  -- ---- what is announced

  -- whether an announced op is due, as the ghost sees it
  due_same : (found : List (Option Op)) (f : Found plan v p u t found) (r : ℕ) (op : Op) (word : ℕ) →
      word ≡ announcing op.number (bucket_for setup (key_in op.call)) →
      Change.is_due (rules_of setup) f.attempt.state r op ≡ is_due b t.state r word
  due_same found f r op word e =
      let fits = class_fits plan (key_in op.call) in
      let row = f.row in
      let prefix : f.attempt.state.prefix ≡ b =
      ap (λ (s : BucketState). s.prefix) f.is_try.state_is
      ∙ prefix_is plan is_plan m shown.shows.rows.numbered b row.at named_b row.old in
      let depth : f.attempt.state.depth ≡ (settings_of setup).depth =
      ap (λ (s : BucketState). s.depth) f.is_try.state_is
      ∙ depth_is plan is_plan m shown.shows.rows.numbered b row.at named_b row.old in
      let class : prefix_of (rules_of setup) f.attempt.state.depth (key_in op.call) ≡ class_in word =
      ap (λ d. prefix_of (rules_of setup) d (key_in op.call)) depth ∙ prefix_is_class setup (key_in op.call)
      ∙ sym (ap class_in e ∙ class_of op.number (bucket_for setup (key_in op.call)) fits) in
      let number : op.number ≡ update_in word =
      sym (ap update_in e ∙ update_of op.number (bucket_for setup (key_in op.call)) fits) in
      (λ i. (class i == prefix i) && nat_lt (slice_index ((sym f.same) i).applied r) (number i))

  -- what is due is of this bucket, and not in the row yet
  due_means : (r word : ℕ) → is_due b t.state r word ≡ true →
      (class_in word ≡ b) × (slice_index t.state.applied r < update_in word)
  due_means r word e = go (class_in word == b) refl (nat_lt (slice_index t.state.applied r) (update_in word)) refl e
    where
      go : (k : Bool) → (class_in word == b) ≡ k → (l : Bool) →
          nat_lt (slice_index t.state.applied r) (update_in word) ≡ l → (k && l) ≡ true →
          (class_in word ≡ b) × (slice_index t.state.applied r < update_in word)
      go true a true less both =
          (eqb-true (class_in word) b a, ltb-true (slice_index t.state.applied r) (update_in word) less)
      go true a false less both = absurd (true≢false (sym both))
      go false a l less both = absurd (true≢false (sym both))

  pub announced_step : (found : List (Option Op)) → now.stand ≡ S.Goes u (S.LoadAnnounced t found) →
      Lawful plan x shown (ticked (goes plan x p now u (S.LoadAnnounced t found))) →
      IsNext plan x (ticked (goes plan x p now u (S.LoadAnnounced t found))) shown
  announced_step found stood = go (is_due b t.state r word) refl
    where
      r : ℕ
      r = length found

      word : ℕ
      word = x.store.announced r

      k : IsMade plan v p u × Keeps plan v p u (S.LoadAnnounced t found)
      k = kept plan is_plan x shown p inside u (S.LoadAnnounced t found) stood

      f : Found plan v p u t found
      f = k.1.finds

      s : InStep plan v p u (TryAnnouncement k.1.finds.round k.1.finds.attempt k.1.finds.theirs)
      s = k.1.in_step

      account : Account
      account = k.1.in_step.account

      slot : OpStands plan v p
      slot = slotted plan is_plan x shown p inside u (S.LoadAnnounced t found) stood

      few : r < seats_of setup
      few = (let all = seats_are plan in let less = k.1.few in omega (arith, less, all))

      z : Finds setup m p (inside_ghost plan p inside) k.1.in_step.account u least (update_tested u.call k.0.update)
          k.1.finds.round k.1.finds.attempt k.1.finds.theirs
      z = finds setup m p (inside_ghost plan p inside) k.1.in_step.account u least (update_tested u.call k.0.update)
          k.1.finds.round k.1.finds.attempt k.1.finds.theirs (record {
            flight = k.1.in_step.flight;
            state = k.1.in_step.state;
            number_is = k.1.in_step.number_is;
            call_is = k.1.in_step.call_is;
            saw = k.1.in_step.saw;
          }) (let many = k.1.finds.as_many in omega (arith, few, many))

      -- what there is to be found of the seat
      found_is : (((c.used r).op_rows ≡ 0) × (z.op ≡ None)) ⊎ ((0 < (c.used r).op_rows) × (z.op ≡ Some (op_now c r)))
      found_is = subst (λ n. (((c.used n).op_rows ≡ 0) × (z.op ≡ None))
          ⊎ ((0 < (c.used n).op_rows) × (z.op ≡ Some (op_now c n)))) k.1.finds.as_many z.is

      go : (d : Bool) → is_due b t.state r word ≡ d → To plan is_plan x shown p inside u t
          (cond d (On (S.LoadOp t found word [])) (found_so_far setup p u t (more found None)))
      go true e law = elim found_is [
        | inl none ↦ absurd (
            let nothing : word ≡ 0 = shown.shows.ops.none r k.1.few none.0 in
            let means = due_means r word e in
            let zero_is : update_in word ≡ 0 = ap update_in nothing in
            omega (arith, means.1, zero_is))
        | inr some ↦
            let step = S.LoadOp t found word [] in
            let then = seat_after now u (On step) in
            let y = w_on plan is_plan x shown p inside x.store now u step law
            (free plan is_plan x shown p inside u t) (calm plan is_plan x shown p inside u t) z.burst refl refl in
            let j = (c.used r).op_rows - 1 in
            let op_w : y.c.op_at r j ≡ op_now c r = (λ i. z.burst.past.op_at i r j) in
            let word_is = shown.shows.ops.some r k.1.few some.0 in
            let fits = class_fits plan (key_in (op_now c r).call) in
            let number : update_in word ≡ (op_now c r).number =
            ap update_in word_is ∙ update_of (op_now c r).number (bucket_for setup (key_in (op_now c r).call)) fits in
            let class : class_in word ≡ bucket_for setup (key_in (op_now c r).call) =
            ap class_in word_is ∙ class_of (op_now c r).number (bucket_for setup (key_in (op_now c r).call)) fits in
            let means = due_means r word e in
            let a = after plan is_plan x shown p inside x.store then x.answers law
            (free plan is_plan x shown p inside u t) (calm plan is_plan x shown p inside u t) z.burst in
            let n = named plan is_plan x shown p inside x.store then x.answers law
            (free plan is_plan x shown p inside u t) (calm plan is_plan x shown p inside u t) z.burst in
            goes_to plan is_plan x shown p inside x.store now u step law (free plan is_plan x shown p inside u t)
            (calm plan is_plan x shown p inside u t) z.burst refl refl
            (own_ops plan is_plan x shown p inside x.store then x.answers law (free plan is_plan x shown p inside u t)
            (calm plan is_plan x shown p inside u t) z.burst (λ i. refl) slot)
            (record {
              reading = record {
                finds = found_stays plan p v y a shown.shows.rows n p u t found f;
                j = j;
                less = subst (λ h. j < (h r).op_rows) (sym z.burst.past.used)
                    (let some_rows = some.0 in omega (arith, some_rows));
                in_step = step_now plan is_plan x shown p inside x.store then x.answers law
                    (free plan is_plan x shown p inside u t) (calm plan is_plan x shown p inside u t) z.burst refl u
                    (after_found setup f.round f.attempt (more f.theirs (Some (y.c.op_at r j)))) account s.past_is
                    (subst (λ (o : Option Op). At setup z.burst.next p account u least
                    (after_found setup f.round f.attempt (more f.theirs o))) (some.1 ∙ ap Some (sym op_w)) z.at);
                tells = number ∙ ap (λ (o : Op). o.number) (sym op_w);
                of_bucket = ap (λ (o : Op). bucket_for setup (key_in o.call)) op_w ∙ sym class ∙ means.0;
                due = (let same = ap (λ (q : BucketState). applied_of q r) f.same in
                    let last_number = ap (λ (o : Op). o.number) op_w in
                    let less = means.1 in omega (arith, less, number, same, last_number));
                reads = inr refl;
              };
              short = omega arith;
              few = k.1.few;
              other = k.1.other;
            }) k.0
      ]
      go false e law =
          let long = length-append found (None ∷ []) in
          let their_long = length-append f.theirs (z.op ∷ []) in
          let many = f.as_many in
          found_on plan is_plan x shown p inside u t k.0 slot account s.past_is (more found None) (record {
            row = f.row;
            round = f.round;
            attempt = f.attempt;
            theirs = more f.theirs z.op;
            is_try = f.is_try;
            same = f.same;
            lacks = f.lacks;
            as_many = omega (arith, long, their_long, many);
            alike = elim f.alike [
              | inl gone ↦ inl gone
              | inr all ↦ inr (alike_more (rules_of setup) f.attempt.state 0 f.theirs found z.op None all
                  (subst (λ n. Alike (rules_of setup) f.attempt.state n z.op None)
                  (let turn : length found ≡ 0 + length f.theirs = omega (arith, many) in turn) (elim found_is [
                    | inl none ↦ inl (sym none.1)
                    | inr some ↦ inr (
                      refl,
                      subst (λ (o : Option Op).
                          IfSome o (λ op. Change.is_due (rules_of setup) f.attempt.state r op ≡ false)) (sym some.1)
                          (due_same found f r (op_now c r) word (shown.shows.ops.some r k.1.few some.0) ∙ e),
                    )
                  ])))
            ];
          }) z.burst z.at law

  -- ---- the op

  -- the words of an op that is announced stand, or it has ended and the try is lost
  op_word : (found : List (Option Op)) (f : Found plan v p u t found) (r j i : ℕ) → r < plan.settings.seats →
      j < (c.used r).op_rows → bucket_for setup (key_in (c.op_at r j).call) ≡ b →
      applied_of f.attempt.state r < (c.op_at r j).number → i < SLOT_WORDS →
      Moved plan v u t.word ⊎ (x.store.op r i ≡ get_or (words_of_call (c.op_at r j).call) i 0)
  op_word found f r j i few less of_bucket due within = elim (cases_lt (j + 1) (c.used r).op_rows) [
    | inl later ↦ inl (due_moved found f r (c.op_at r j) of_bucket due (shown.shows.ops.past r j few later))
    | inr past ↦
        let place : (c.used r).op_rows - 1 ≡ j = omega (arith, less, past) in
        go (L.seat_in x r).stand (shown.shows.slots r few) (shown.shows.seats r few) (ap (c.op_at r) place)
  ]
    where
      some : 0 < (c.used r).op_rows
      some = omega (arith, less)

      stands : op_now c r ≡ c.op_at r j → OpStands plan v r →
          Moved plan v u t.word ⊎ (x.store.op r i ≡ get_or (words_of_call (c.op_at r j).call) i 0)
      stands e o = inr (o some i within ∙ ap (λ (q : Op). get_or (words_of_call q.call) i 0) e)

      ends : op_now c r ≡ c.op_at r j → IsIn plan v r (op_now c r) →
          Moved plan v u t.word ⊎ (x.store.op r i ≡ get_or (words_of_call (c.op_at r j).call) i 0)
      ends e is = inl (due_moved found f r (c.op_at r j) of_bucket due (subst (IsIn plan v r) e is))

      go : (stand : Stand) → SlotOf plan v r stand → Seated plan v r stand → op_now c r ≡ c.op_at r j →
          Moved plan v u t.word ⊎ (x.store.op r i ≡ get_or (words_of_call (c.op_at r j).call) i 0)
      go S.Idle o s e = stands e o
      go (S.Glances aim glance) o s e = stands e o
      go (S.Goes a (S.StoreOp n)) o s e = ends e (s.1.0.waits.applied some)
      go (S.Goes a S.Announce) o s e = ends e (s.1.waits.applied some)
      go (S.Goes a (S.Sweeps rows)) o s e = stands e o
      go (S.Goes a (S.LoadWord turn)) o s e = stands e o
      go (S.Goes a (S.LoadRow turn word words)) o s e = stands e o
      go (S.Goes a (S.CheckRow turn word words)) o s e = stands e o
      go (S.Goes a (S.LoadAnnounced q l)) o s e = stands e o
      go (S.Goes a (S.LoadOp q l announced words)) o s e = stands e o
      go (S.Goes a (S.StoreRow q l n)) o s e = stands e o
      go (S.Goes a (S.Exchange q l)) o s e = stands e o
      go (S.Goes a S.StoreWant) o s e = stands e o
      go (S.Goes a S.StoreAsking) o s e = stands e o
      go (S.Goes a S.HeldWord) o s e = stands e o
      go (S.Goes a (S.TakeHold word)) o s e = stands e o
      go (S.Goes a (S.HeldNumber row)) o s e = stands e o
      go (S.Goes a (S.HeldReply row)) o s e = stands e o
      go (S.Goes a S.Stuck) o s e = stands e o

  pub op_load : (found : List (Option Op)) (announced : ℕ) (words : List ℕ) →
      now.stand ≡ S.Goes u (S.LoadOp t found announced words) →
      Lawful plan x shown (ticked (goes plan x p now u (S.LoadOp t found announced words))) →
      IsNext plan x (ticked (goes plan x p now u (S.LoadOp t found announced words))) shown
  op_load found announced words stood = go (nat_lt (length words + 1) SLOT_WORDS) refl
    where
      r : ℕ
      r = length found

      word : ℕ
      word = x.store.op r (length words)

      k : IsMade plan v p u × Keeps plan v p u (S.LoadOp t found announced words)
      k = kept plan is_plan x shown p inside u (S.LoadOp t found announced words) stood

      slot : OpStands plan v p
      slot = slotted plan is_plan x shown p inside u (S.LoadOp t found announced words) stood

      rd : Reading plan v p u t found announced words
      rd = k.1.reading

      op : Op
      op = c.op_at r k.1.reading.j

      few : r < seats_of setup
      few = (let all = seats_are plan in let less = k.1.few in omega (arith, less, all))

      -- it is an update of that seat
      row_is : IsOpRow r (c.op_words r k.1.reading.j) (c.op_at r k.1.reading.j)
      row_is = m.follows.shared.calls.sound r k.1.reading.j few k.1.reading.less

      seat_is : (c.op_at r k.1.reading.j).seat ≡ r
      seat_is = ap (λ (o : Op). o.seat) (sym row_is.says)

      long : length (words_of_call (c.op_at r k.1.reading.j).call) ≡ SLOT_WORDS
      long = call_long (c.op_at r k.1.reading.j).call row_is.update

      -- one word more of it
      reads : Moved plan v u t.word
          ⊎ (more words word ≡ take (length (more words word)) (words_of_call (c.op_at r k.1.reading.j).call))
      reads = elim k.1.reading.reads [
        | inl gone ↦ inl gone
        | inr e ↦ elim (op_word found k.1.reading.finds r k.1.reading.j (length words) k.1.few k.1.reading.less
            k.1.reading.of_bucket k.1.reading.due k.1.short) [
              | inl gone ↦ inl gone
              | inr is ↦ inr (longer words (words_of_call (c.op_at r k.1.reading.j).call) word e
                  (let l = long in let s = k.1.short in omega (arith, l, s)) is)
            ]
      ]

      many : length (more words word) ≡ length words + 1
      many = length-append words (word ∷ [])

      go : (d : Bool) → nat_lt (length words + 1) SLOT_WORDS ≡ d → To plan is_plan x shown p inside u t
          (cond d (On (S.LoadOp t found announced (more words word)))
          (found_so_far setup p u t (more found (Some (op_in r announced (more words word))))))
      go true e law =
          let step = S.LoadOp t found announced (more words word) in
          let then = seat_after now u (On step) in
          let fr = free plan is_plan x shown p inside u t in
          let cl = calm plan is_plan x shown p inside u t in
          goes_still plan is_plan x shown p inside x.store now u step law fr cl refl refl
          (ops_still plan is_plan x shown p inside x.store now u step law fr cl refl refl (λ i. refl) slot)
          (record {
            reading = reading_stays plan p v
                (w_still plan is_plan x shown p inside x.store now u step law fr cl refl refl)
                (after_still plan is_plan x shown p inside x.store now u step law fr cl refl refl) shown.shows.rows
                (named plan is_plan x shown p inside x.store then x.answers law fr cl
                (still plan is_plan x shown p inside))
                p refl refl (past_still plan is_plan x shown p inside x.store now u step law fr cl refl refl)
                (answered_still plan is_plan x shown p inside x.store now u step law fr cl refl refl) u t found
                announced
                (more words word) (record {
                  finds = rd.finds;
                  j = rd.j;
                  less = rd.less;
                  in_step = rd.in_step;
                  tells = rd.tells;
                  of_bucket = rd.of_bucket;
                  due = rd.due;
                  reads = reads;
                });
            short = (let less = ltb-true (length words + 1) SLOT_WORDS e in let l = many in omega (arith, less, l));
            few = k.1.few;
            other = k.1.other;
          }) k.0
      go false e law =
          let f = rd.finds in
          let o = op_in r announced (more words word) in
          let now_long = length-append found (Some o ∷ []) in
          let their_long = length-append f.theirs (Some op ∷ []) in
          let as_many = f.as_many in
          let past = ltb-false (length words + 1) SLOT_WORDS e in
          found_on plan is_plan x shown p inside u t k.0 slot rd.in_step.account rd.in_step.past_is
          (more found (Some o)) (record {
            row = f.row;
            round = f.round;
            attempt = f.attempt;
            theirs = more f.theirs (Some op);
            is_try = f.is_try;
            same = f.same;
            lacks = f.lacks;
            as_many = omega (arith, now_long, their_long, as_many);
            alike = elim f.alike [
              | inl gone ↦ inl gone
              | inr all ↦ elim reads [
                | inl gone ↦ inl gone
                | inr whole ↦
                    let l = long in
                    let ms = many in
                    let words_are : more words word ≡ words_of_call op.call =
                    whole ∙ take_all (length (more words word)) (words_of_call op.call) (omega (arith, l, ms, past)) in
                    let call_is : call_in (more words word) ≡ op.call =
                    ap call_in words_are ∙ call_of_slot op.call row_is.update in
                    let same : o ≡ op =
                    (λ i. record { seat = (sym seat_is) i; number = rd.tells i; call = call_is i }) in
                    inr (alike_more (rules_of setup) f.attempt.state 0 f.theirs found (Some op) (Some o) all
                    (inl (ap Some same)))
              ]
            ];
          }) (no_burst setup m p) (record {
            flight = rd.in_step.flight;
            state = rd.in_step.state;
            number_is = rd.in_step.number_is;
            call_is = rd.in_step.call_is;
            saw = rd.in_step.saw;
          }) law
