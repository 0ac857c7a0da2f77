-- The steps of an update at which its ghost rests, one by one.
use Rattle.std.proofs.Common.{◌≡◌, ℕ, ◌+◌, ◌-◌, ◌<◌, ◌≤◌, inl, inr, Bool, true, false, true≢false, cond, List, [], ◌∷◌, ◌++◌, length, get_or, Option, Some, None, refl, sym, ap, ◌∙◌, subst, arith}
use Rattle.std.specs.Prelude.{◌==◌, nat_lt, slice_index}
use Rattle.std.proofs.lemmas.Bool.{cases_eq, eq-eqb, ltb-true, ltb-false}
use Rattle.list_laws.proofs.Lists.{In}
use Rattle.list_laws.proofs.Options.{some_same, none_some}
use Rattle.plain_map.specs.declared.calls.Reply.{Reply}
use Rattle.plain_map.specs.Calls.{key_in}
use Rattle.std.proofs.lemmas.List.{length-append}
use Rattle.word_rows.specs.OpWords.{words_of_call}
use Rattle.word_rows.specs.ReplyWords.{reply_of_word}
use Rattle.word_rows.specs.Memory.{put_at}
use Rattle.word_rows.proofs.MemoryLemmas.{put_same, put_other, put_at_same, put_at_row, put_at_place}
use Rattle.bucket_states.specs.declared.ops.Op.{Op}
use Rattle.table_model.specs.Setup.{Setup}
use Rattle.table_model.specs.Goes.{more}
use Rattle.lasting_model.specs.Plans.{Plan, IsPlan, ample}
use Rattle.lasting_model.specs.Codes.{SLOT_WORDS, state_words, asking, holding, row_in, held_row, generation_in, number_place, reply_place, length_by}
use Rattle.lasting_model.specs.Words as W
use Rattle.lasting_model.specs.Words.{with_word}
use Rattle.lasting_model.specs.Steps as S
use Rattle.lasting_model.specs.Steps.{SeatNow, Update, Step, Stand, Try, Sweep, Course, next_row, bucket_of_update, sweep_deed}
use Rattle.lasting_model.specs.Goes.{Fate, On, Ends, Refuses, SweepFate, SweepsOn, Swept, swept, sweep_fate_of, piece_fate, with_free, rows_of, ends_with, Called, Refused}
use Rattle.lasting_model.specs.Worlds.{Lasting, Answer, BySeat, found_by, store_after, seat_after, answers_after, with_answer, stepped, goes, ticked, with_seat}
use Rattle.lasting_model.specs.Worlds as L
use Rattle.lasting_laws.proofs.Pools.{owner_in, rows_at}
use Rattle.lasting_laws.proofs.Marks.{next_in, writer_owns}
use Rattle.lasting_laws.proofs.Holding as H
use Rattle.lasting_laws.proofs.HeldStates.{look_of}
use Rattle.lasting_laws.proofs.Shown.{View, SlotOf, OpStands, Waits, Begins, Late, Reads, Says, Held, Keeps, IsMade, view, IsShown, IsNext}
use Rattle.lasting_laws.proofs.Stays.{waits_stay}
use Rattle.lasting_laws.proofs.Ghost.{there, spelled, prefix_is, depth_is, open_at}
use Rattle.lasting_laws.proofs.RowWords.{longer, short_said}
use Rattle.lasting_laws.proofs.Next.{Untouched, Lawful, mine, one_more}
use Rattle.lasting_laws.proofs.Own.{untouched_same, Calm, calm_same, w, after, stepped_is, named, own_ops, quiet_next}
use Rattle.lasting_laws.proofs.OwnStill.{refused_is, still, kept, slotted, w_still, late_still, begins_still, row_still, looked_still, found_still, step_still, ops_still, goes_still, held_still, ends_still}

module _ (plan : Plan) (is_plan : IsPlan plan) (x : Lasting) (shown : IsShown plan x) (p : ℕ)
    (inside : p < plan.settings.seats) where
  abbrev setup : Setup
  setup = ample plan

  abbrev now : SeatNow
  now = L.seat_in x p

  abbrev v : View
  v = view plan x shown.moment shown.word_at shown.cut shown.tied

  abbrev Shows_next : Lasting → Type 0
  Shows_next y = Lawful plan x shown y → IsNext plan x y shown

  kept_at : (u : Update) (step : Step) → now.stand ≡ S.Goes u step → IsMade plan v p u × Keeps plan v p u step
  kept_at = kept plan is_plan x shown p inside

  slot_at : (u : Update) (step : Step) → now.stand ≡ S.Goes u step → SlotOf plan v p (S.Goes u step)
  slot_at = slotted plan is_plan x shown p inside

  -- ---- the held look

  pub want_free : (word : ℕ) → Untouched plan x p (with_word x.store (W.Want p) word)
  want_free word = record {
    slot = λ q j n. refl;
    want = λ q n. put_other x.store.want p word q n;
    touch = λ row. inl (λ i. refl);
  }

  pub hold_free : (q word : ℕ) → Untouched plan x p (with_word x.store (W.Hold q) word)
  hold_free q word = record { slot = λ q j n. refl; want = λ q n. refl; touch = λ row. inl (λ i. refl) }

  pub calm_want : (word : ℕ) → Calm x (with_word x.store (W.Want p) word)
  calm_want word = record { words = λ b. refl; announced = λ q. refl }

  pub calm_hold : (q word : ℕ) → Calm x (with_word x.store (W.Hold q) word)
  calm_hold q word = record { words = λ b. refl; announced = λ q. refl }

  pub want_step : (u : Update) → now.stand ≡ S.Goes u S.StoreWant → Shows_next (ticked
      (goes plan x p now u S.StoreWant))
  want_step u stood law =
      let k = kept_at u S.StoreWant stood in
      let word = bucket_of_update setup u in
      goes_still plan is_plan x shown p inside (with_word x.store (W.Want p) word) now u S.StoreAsking law
      (want_free word) (calm_want word) refl refl
      (ops_still plan is_plan x shown p inside (with_word x.store (W.Want p) word) now u S.StoreAsking law
      (want_free word) (calm_want word) refl refl (λ j. refl) (slot_at u S.StoreWant stood)) (
        late_still plan is_plan x shown p inside (with_word x.store (W.Want p) word) now u S.StoreAsking law
            (want_free word) (calm_want word) refl refl k.1,
        put_same x.store.want p word,
      ) k.0

  pub ask_step : (u : Update) → now.stand ≡ S.Goes u S.StoreAsking →
      Shows_next (ticked (goes plan x p now u S.StoreAsking))
  ask_step u stood law =
      let k = kept_at u S.StoreAsking stood in
      let word = asking (now.time + 1) in
      let own : SeatNow = record now { time = now.time + 1 } in
      goes_still plan is_plan x shown p inside (with_word x.store (W.Hold p) word) own u S.HeldWord law
      (hold_free p word) (calm_hold p word) refl refl
      (ops_still plan is_plan x shown p inside (with_word x.store (W.Hold p) word) own u S.HeldWord law
      (hold_free p word) (calm_hold p word) refl refl (λ j. refl) (slot_at u S.StoreAsking stood))
      (held_still plan is_plan x shown p inside (with_word x.store (W.Hold p) word) own u S.HeldWord law
      (hold_free p word) (calm_hold p word) refl refl k.0 k.1.0 tt k.1.1
      (λ row e f a. absurd (subst H.IsActive (ap look_of stood) a))) k.0

  -- a held look goes on, whatever its hold word has
  held_on : (store : W.Store) (free : Untouched plan x p store) (calm : Calm x store) (u : Update) (step : Step) →
      IsMade plan v p u → Held plan v p u → OpStands plan v p → ((j : ℕ) → store.op p j ≡ x.store.op p j) →
      store.want p ≡ x.store.want p → ((row i : ℕ) → store.row row i ≡ x.store.row row i) →
      H.IsActive (look_of (S.Goes u step)) →
      (law : Lawful plan x shown (ticked (with_seat x p store (seat_after now u (On step)) x.answers))) →
      Held plan (w_still plan is_plan x shown p inside store now u step law free calm refl refl) p u
  held_on store free calm u step made h slot ops want rows active law =
      held_still plan is_plan x shown p inside store now u step law free calm refl refl made h.late active
      (want ∙ h.want)
      (λ row e f a. (let s = h.says row e f in (rows row (number_place p) ∙ s.0, rows row (reply_place p) ∙ s.1)))

  pub word_step : (u : Update) → now.stand ≡ S.Goes u S.HeldWord → Shows_next (ticked (goes plan x p now u S.HeldWord))
  word_step u stood law =
      let k = kept_at u S.HeldWord stood in
      let step = S.TakeHold (x.store.bucket (bucket_of_update setup u)) in
      let free = untouched_same plan x p in
      let calm = calm_same x in
      goes_still plan is_plan x shown p inside x.store now u step law free calm refl refl
      (ops_still plan is_plan x shown p inside x.store now u step law free calm refl refl (λ j. refl)
      (slot_at u S.HeldWord stood))
      (held_on x.store free calm u step k.0 k.1 (slot_at u S.HeldWord stood) (λ j. refl) refl (λ row i. refl) tt law)
      k.0

  pub take_step : (u : Update) (old : ℕ) → now.stand ≡ S.Goes u (S.TakeHold old) →
      Shows_next (ticked (goes plan x p now u (S.TakeHold old)))
  take_step u old stood = go (x.store.hold p == asking now.time)
    where
      go : (c : Bool) → Shows_next (ticked (with_seat x p
          (cond c (with_word x.store (W.Hold p) (holding (row_in old))) x.store)
          (seat_after now u (On (S.HeldNumber (cond c (row_in old) (held_row (x.store.hold p)))))) x.answers))
      go true law =
          let k = kept_at u (S.TakeHold old) stood in
          let store = with_word x.store (W.Hold p) (holding (row_in old)) in
          let free = hold_free p (holding (row_in old)) in
          let calm = calm_hold p (holding (row_in old)) in
          let step = S.HeldNumber (row_in old) in
          goes_still plan is_plan x shown p inside store now u step law free calm refl refl
          (ops_still plan is_plan x shown p inside store now u step law free calm refl refl (λ j. refl)
          (slot_at u (S.TakeHold old) stood))
          (held_on store free calm u step k.0 k.1 (slot_at u (S.TakeHold old) stood) (λ j. refl) refl (λ row i. refl)
          tt law)
          k.0
      go false law =
          let k = kept_at u (S.TakeHold old) stood in
          let free = untouched_same plan x p in
          let calm = calm_same x in
          let step = S.HeldNumber (held_row (x.store.hold p)) in
          goes_still plan is_plan x shown p inside x.store now u step law free calm refl refl
          (ops_still plan is_plan x shown p inside x.store now u step law free calm refl refl (λ j. refl)
          (slot_at u (S.TakeHold old) stood))
          (held_on x.store free calm u step k.0 k.1 (slot_at u (S.TakeHold old) stood) (λ j. refl) refl (λ row i. refl)
          tt law)
          k.0

  -- the row that it reads says the update
  reads_it : (u : Update) (row : ℕ) → look_of now.stand ≡ H.Reads row → (h : Held plan v p u) →
      Says plan v p u h.late.made row
  reads_it u row look h = (let g = (shown.tied.holds.reads p row look).1 in h.says row g.1 g.0)

  pub number_step : (u : Update) (row : ℕ) → now.stand ≡ S.Goes u (S.HeldNumber row) →
      Shows_next (ticked (goes plan x p now u (S.HeldNumber row)))
  number_step u row stood =
      go (x.store.row row (number_place p) == u.number)
      (eq-eqb (x.store.row row (number_place p)) u.number
      (reads_it u row (ap look_of stood) (kept_at u (S.HeldNumber row) stood).1).0)
    where
      go : (c : Bool) → c ≡ true → Shows_next (ticked (with_seat x p x.store
          (seat_after now u (On (cond c (S.HeldReply row) S.Stuck))) x.answers))
      go false e law = absurd (true≢false (sym e))
      go true e law =
          let k = kept_at u (S.HeldNumber row) stood in
          let step = S.HeldReply row in
          let free = untouched_same plan x p in
          let calm = calm_same x in
          goes_still plan is_plan x shown p inside x.store now u step law free calm refl refl
          (ops_still plan is_plan x shown p inside x.store now u step law free calm refl refl (λ j. refl)
          (slot_at u (S.HeldNumber row) stood))
          (held_on x.store free calm u step k.0 k.1 (slot_at u (S.HeldNumber row) stood) (λ j. refl) refl
          (λ row i. refl) tt law)
          k.0

  -- a reply that the ghost gave
  pub replies : (u : Update) (o : Option Reply) → IsMade plan v p u → OpStands plan v p → (late : Late plan v p u) →
      o ≡ Some late.made.reply →
      Shows_next (ticked (with_seat x p x.store (seat_after now u (ends_with o))
      (answers_after x p u.call (stepped now.course) (ends_with o))))
  replies u None made slot late e law = absurd (none_some e)
  replies u (Some reply) made slot late e law =
      ends_still plan is_plan x shown p inside u reply law made slot late (some_same e)

  pub reply_step : (u : Update) (row : ℕ) → now.stand ≡ S.Goes u (S.HeldReply row) →
      Shows_next (ticked (goes plan x p now u (S.HeldReply row)))
  reply_step u row stood =
      let k = kept_at u (S.HeldReply row) stood in
      replies u (reply_of_word (x.store.row row (reply_place p))) k.0 (slot_at u (S.HeldReply row) stood) k.1.late
      (ap reply_of_word (reads_it u row (ap look_of stood) k.1).1 ∙ k.1.late.spelled)

  -- ---- the op

  op_free : (i word : ℕ) → Untouched plan x p (with_word x.store (W.OpWord p i) word)
  op_free i word = record {
    slot = λ q j n. put_at_row x.store.op p i word q j n;
    want = λ q n. refl;
    touch = λ row. inl (λ i. refl);
  }

  calm_op : (i word : ℕ) → Calm x (with_word x.store (W.OpWord p i) word)
  calm_op i word = record { words = λ b. refl; announced = λ q. refl }

  pub op_step : (u : Update) (i : ℕ) → now.stand ≡ S.Goes u (S.StoreOp i) →
      Shows_next (ticked (goes plan x p now u (S.StoreOp i)))
  op_step u i stood = go (nat_lt (i + 1) SLOT_WORDS) refl
    where
      word : ℕ
      word = slice_index (words_of_call u.call) i

      store : W.Store
      store = with_word x.store (W.OpWord p i) word

      stores : (j : ℕ) → j < i + 1 → put_at x.store.op p i word p j ≡ get_or (words_of_call u.call) j 0
      stores j less = elim (cases_eq j i) [
        | inl e ↦ ap (put_at x.store.op p i word p) e ∙ put_at_same x.store.op p i word
            ∙ ap (λ k. get_or (words_of_call u.call) k 0) (sym e)
        | inr n ↦ put_at_place x.store.op p i word p j n
            ∙ slot_at u (S.StoreOp i) stood j (omega (arith, less, n))
      ]

      short : i < SLOT_WORDS
      short = (kept_at u (S.StoreOp i) stood).1.1

      go : (c : Bool) → nat_lt (i + 1) SLOT_WORDS ≡ c → Shows_next (ticked (with_seat x p store
          (seat_after now u (On (cond c (S.StoreOp (i + 1)) S.Announce))) x.answers))
      go true e law =
          let k = kept_at u (S.StoreOp i) stood in
          goes_still plan is_plan x shown p inside store now u (S.StoreOp (i + 1)) law (op_free i word) (calm_op i word)
          refl refl stores (
            begins_still plan is_plan x shown p inside store now u (S.StoreOp (i + 1)) law (op_free i word)
                (calm_op i word) refl refl k.1.0,
            ltb-true (i + 1) SLOT_WORDS e,
          ) k.0
      go false e law =
          let k = kept_at u (S.StoreOp i) stood in
          goes_still plan is_plan x shown p inside store now u S.Announce law (op_free i word) (calm_op i word)
          refl refl (λ j less. stores j (let past = ltb-false (i + 1) SLOT_WORDS e in omega (arith, less, short, past)))
          (begins_still plan is_plan x shown p inside store now u S.Announce law (op_free i word)
          (calm_op i word) refl refl k.1.0) k.0

  -- ---- a sweep

  pub by_test : (P : W.Store → Type 0) (a : W.Store) (c : Bool) → P a → P x.store → P (cond c a x.store)
  by_test P a true pa px = pa
  by_test P a false pa px = px

  sweep_free : (sweep : Option Sweep) → Untouched plan x p (store_after (sweep_deed sweep) x.store)
  sweep_free None = untouched_same plan x p
  sweep_free (Some (S.Homes [] gone)) = untouched_same plan x p
  sweep_free (Some (S.Homes (row ∷ todo) gone)) = untouched_same plan x p
  sweep_free (Some (S.Seats k gone)) = untouched_same plan x p
  sweep_free (Some (S.Sees k t gone)) = untouched_same plan x p
  sweep_free (Some (S.Loads k t b gone)) = untouched_same plan x p
  sweep_free (Some (S.Gives k t row gone)) =
      by_test (Untouched plan x p) (with_word x.store (W.Hold k) (holding row)) (x.store.hold k == asking t)
      (hold_free k (holding row)) (untouched_same plan x p)

  sweep_calm : (sweep : Option Sweep) → Calm x (store_after (sweep_deed sweep) x.store)
  sweep_calm None = calm_same x
  sweep_calm (Some (S.Homes [] gone)) = calm_same x
  sweep_calm (Some (S.Homes (row ∷ todo) gone)) = calm_same x
  sweep_calm (Some (S.Seats k gone)) = calm_same x
  sweep_calm (Some (S.Sees k t gone)) = calm_same x
  sweep_calm (Some (S.Loads k t b gone)) = calm_same x
  sweep_calm (Some (S.Gives k t row gone)) =
      by_test (Calm x) (with_word x.store (W.Hold k) (holding row)) (x.store.hold k == asking t)
      (calm_hold k (holding row)) (calm_same x)

  abbrev OpSame : W.Store → Type 0
  OpSame store = (j : ℕ) → store.op p j ≡ x.store.op p j

  sweep_op : (sweep : Option Sweep) → OpSame (store_after (sweep_deed sweep) x.store)
  sweep_op None = λ j. refl
  sweep_op (Some (S.Homes [] gone)) = λ j. refl
  sweep_op (Some (S.Homes (row ∷ todo) gone)) = λ j. refl
  sweep_op (Some (S.Seats k gone)) = λ j. refl
  sweep_op (Some (S.Sees k t gone)) = λ j. refl
  sweep_op (Some (S.Loads k t b gone)) = λ j. refl
  sweep_op (Some (S.Gives k t row gone)) =
      by_test OpSame (with_word x.store (W.Hold k) (holding row)) (x.store.hold k == asking t) (λ j. refl) (λ j. refl)

  -- where a piece leads
  abbrev pub IsPiece : Fate → Type 0
  IsPiece (On (S.Sweeps rows)) = Unit {0}
  IsPiece (On (S.StoreOp i)) = i ≡ 0
  IsPiece (On step) = ⊥
  IsPiece (Ends reply) = ⊥
  IsPiece Refuses = Unit {0}

  pub free_piece : (free : List ℕ) → IsPiece (with_free free)
  free_piece [] = tt
  free_piece (r ∷ free) = refl

  piece_leads : (free : List ℕ) (rows : ℕ) (f : SweepFate) → IsPiece (piece_fate free rows f)
  piece_leads free rows (SweepsOn kept (S.Homes todo gone)) = go (nat_lt 1 rows)
    where
      go : (c : Bool) → IsPiece (cond c (On (S.Sweeps (rows - 1))) (with_free free))
      go true = tt
      go false = free_piece free
  piece_leads free rows (SweepsOn kept (S.Seats k gone)) = tt
  piece_leads free rows (SweepsOn kept (S.Sees k t gone)) = tt
  piece_leads free rows (SweepsOn kept (S.Loads k t b gone)) = tt
  piece_leads free rows (SweepsOn kept (S.Gives k t row gone)) = tt
  piece_leads free rows (Swept kept gone) = free_piece (free ++ rows_of gone)

  swept_course : (f : SweepFate) → (swept now f).course ≡ now.course
  swept_course (SweepsOn kept sweep) = refl
  swept_course (Swept kept gone) = refl

  swept_answered : (f : SweepFate) → (swept now f).answered ≡ now.answered
  swept_answered (SweepsOn kept sweep) = refl
  swept_answered (Swept kept gone) = refl

  -- an update that is refused has made nothing
  refuses : (store : W.Store) (own : SeatNow) (u : Update) (course : Course) → Untouched plan x p store →
      Calm x store → OpSame store → own.answered ≡ now.answered → course.began ≤ x.clock → own.course.began ≤ x.clock →
      Waits plan v p now.answered → OpStands plan v p →
      Shows_next (ticked (with_seat x p store (record own { stand = S.Idle })
      (with_answer x (BySeat p) (Called u.call) Refused course)))
  refuses store own u course free calm ops answered began own_began waits slot law =
      let then : SeatNow = record own { stand = S.Idle } in
      let answers = with_answer x (BySeat p) (Called u.call) Refused course in
      let b = still plan is_plan x shown p inside in
      let w_end = w plan is_plan x shown p inside store then answers law free calm b in
      quiet_next plan is_plan x shown p inside store then answers law free calm b
      (own_ops plan is_plan x shown p inside store then answers law free calm b ops slot)
      (subst (Waits plan w_end p)
      (sym (ap (λ (s : SeatNow). s.answered) (mine plan is_plan x shown p inside store then answers) ∙ answered))
      (waits_stay plan p v w_end (after plan is_plan x shown p inside store then answers law free calm b)
      shown.shows.rows (named plan is_plan x shown p inside store then answers law free calm b) p refl refl
      now.answered waits))
      own_began
      (one_more plan is_plan x shown p inside store then answers law free shown.moment shown.word_at
      (stepped_is plan is_plan x shown p inside store then answers law free calm b) (Called u.call) Refused course began
      (refused_is setup (shown.cut course.began) shown.moment.events p u.call))

  -- an update goes on with the sweep, or begins with its op, or is refused
  piece_on : (store : W.Store) (own : SeatNow) (u : Update) (next : Fate) → IsPiece next → Untouched plan x p store →
      Calm x store → OpSame store → own.answered ≡ now.answered → own.course ≡ now.course → IsMade plan v p u →
      Begins plan v p → OpStands plan v p →
      Shows_next (ticked (with_seat x p store (seat_after own u next)
      (answers_after x p u.call (stepped now.course) next)))
  piece_on store own u (On (S.Sweeps rows)) is free calm ops answered course made begins slot law =
      goes_still plan is_plan x shown p inside store own u (S.Sweeps rows) law free calm course answered
      (ops_still plan is_plan x shown p inside store own u (S.Sweeps rows) law free calm course answered ops slot)
      (begins_still plan is_plan x shown p inside store own u (S.Sweeps rows) law free calm course answered begins) made
  piece_on store own u (On (S.StoreOp i)) is free calm ops answered course made begins slot law =
      goes_still plan is_plan x shown p inside store own u (S.StoreOp i) law free calm course answered
      (λ j less. absurd (omega (arith, less, is))) (
        begins_still plan is_plan x shown p inside store own u (S.StoreOp i) law free calm course answered begins,
        omega (arith, is),
      ) made
  piece_on store own u (On step) is free calm ops answered course made begins slot law = absurd is
  piece_on store own u (Ends reply) is free calm ops answered course made begins slot law = absurd is
  piece_on store own u Refuses is free calm ops answered course made begins slot law =
      refuses store (record own { course = stepped own.course }) u (stepped now.course) free calm ops answered
      (shown.began p)
      (let o = shown.began p in let e = ap (λ (k : Course). k.began) course in omega
      (arith, o, e)) begins.waits slot law

  pub sweep_step : (u : Update) (rows : ℕ) → now.stand ≡ S.Goes u (S.Sweeps rows) →
      Shows_next (ticked (goes plan x p now u (S.Sweeps rows)))
  sweep_step u rows stood law =
      let f = sweep_fate_of setup p now.sweep (found_by (sweep_deed now.sweep) x.store) in
      let k = kept_at u (S.Sweeps rows) stood in
      piece_on (store_after (sweep_deed now.sweep) x.store) (swept now f) u (piece_fate now.free rows f)
      (piece_leads now.free rows f) (sweep_free now.sweep) (sweep_calm now.sweep) (sweep_op now.sweep)
      (swept_answered f) (swept_course f) k.0 k.1 (slot_at u (S.Sweeps rows) stood) law

  -- ---- the words of a row

  pub load_step : (u : Update) (turn word : ℕ) (words : List ℕ) → now.stand ≡ S.Goes u (S.LoadRow turn word words) →
      Shows_next (ticked (goes plan x p now u (S.LoadRow turn word words)))
  load_step u turn word words stood =
      go (nat_lt (length words + 1) (length_by setup (more words found))) refl
    where
      found : ℕ
      found = x.store.row (row_in word) (length words + 1)

      b : ℕ
      b = bucket_of_update setup u

      k : IsMade plan v p u × Keeps plan v p u (S.LoadRow turn word words)
      k = kept_at u (S.LoadRow turn word words) stood

      reads : Reads plan v u word k.1.row.at (more words found)
      reads stands =
          let r = k.1.row in
          let c = shown.moment.common in
          let named = there plan is_plan shown.moment shown.shows.rows.numbered (key_in u.call) in
          let says = spelled plan is_plan shown.moment shown.shows.rows.numbered b r.at named r.old in
          let less = short_said setup b (c.state_at b r.at)
          (prefix_is plan is_plan shown.moment shown.shows.rows.numbered b r.at named r.old)
          (depth_is plan is_plan shown.moment shown.shows.rows.numbered b r.at named r.old)
          (open_at plan is_plan shown.moment shown.shows.rows.numbered b r.at named r.old)
          says.0 says.1 words (k.1.reads stands) k.1.short in
          longer words (state_words setup (c.state_at b r.at)) found (k.1.reads stands) less
          (ap (λ w. x.store.row (row_in w) (length words + 1)) r.word_is
          ∙ shown.shows.rows.says b r.at (length words) named r.old
          (subst (λ w. x.store.row (row_in w) 0 ≡ generation_in w) r.word_is stands) less)

      free : Untouched plan x p x.store
      free = untouched_same plan x p

      calm : Calm x x.store
      calm = calm_same x

      go : (c : Bool) → nat_lt (length words + 1) (length_by setup (more words found)) ≡ c →
          Shows_next (ticked (with_seat x p x.store (seat_after now u (On (cond c
          (S.LoadRow turn word (more words found)) (S.CheckRow turn word (more words found))))) x.answers))
      go true e law =
          let step = S.LoadRow turn word (more words found) in
          goes_still plan is_plan x shown p inside x.store now u step law free calm refl refl
          (ops_still plan is_plan x shown p inside x.store now u step law free calm refl refl (λ j. refl)
          (slot_at u (S.LoadRow turn word words) stood))
          (record {
            row = row_still plan is_plan x shown p inside x.store now u step law free calm refl refl word k.1.row;
            looked = looked_still plan is_plan x shown p inside x.store now u step law free calm refl refl turn
                k.1.row.at k.1.row.old k.1.looked;
            reads = reads;
            short = (let less = ltb-true (length words + 1) (length_by setup (more words found)) e in
                let many = length-append words (found ∷ []) in omega (arith, less, many));
          }) k.0
      go false e law =
          let step = S.CheckRow turn word (more words found) in
          goes_still plan is_plan x shown p inside x.store now u step law free calm refl refl
          (ops_still plan is_plan x shown p inside x.store now u step law free calm refl refl (λ j. refl)
          (slot_at u (S.LoadRow turn word words) stood))
          (record {
            row = row_still plan is_plan x shown p inside x.store now u step law free calm refl refl word k.1.row;
            looked = looked_still plan is_plan x shown p inside x.store now u step law free calm refl refl turn
                k.1.row.at k.1.row.old k.1.looked;
            reads = reads;
            whole = (let past = ltb-false (length words + 1) (length_by setup (more words found)) e in
                let many = length-append words (found ∷ []) in omega (arith, past, many));
          }) k.0

  -- ---- the new row

  pub row_step : (u : Update) (t : Try) (found : List (Option Op)) (i : ℕ) →
      now.stand ≡ S.Goes u (S.StoreRow t found i) → Shows_next (ticked (goes plan x p now u (S.StoreRow t found i)))
  row_step u t found i stood = go (nat_lt (i + 1) (length all)) refl
    where
      all : List ℕ
      all = S.new_words setup now t found

      row : ℕ
      row = next_row now

      word : ℕ
      word = slice_index all i

      store : W.Store
      store = with_word x.store (W.RowWord row i) word

      k : IsMade plan v p u × Keeps plan v p u (S.StoreRow t found i)
      k = kept_at u (S.StoreRow t found i) stood

      some : 1 ≤ length now.free
      some = subst (λ (s : Stand). HasFree s) stood (shown.pools.seats p inside).row
        where
          HasFree : Stand → Type 0
          HasFree S.Idle = Unit {0}
          HasFree (S.Goes a s) = rows_at s ≤ length now.free
          HasFree (S.Glances aim glance) = Unit {0}

      own : owner_in plan row ≡ p
      own = writer_owns plan is_plan x shown.pools p inside u (S.StoreRow t found i) stood (omega arith)

      free : Untouched plan x p store
      free = record {
        slot = λ q j n. refl;
        want = λ q n. refl;
        touch = λ r. elim (cases_eq r row) [
          | inl e ↦ inr (ap (owner_in plan) e ∙ own, subst (λ s. In s now.free) (sym e) (next_in now.free some))
          | inr n ↦ inl (λ j. put_at_row x.store.row row i word r j n)
        ];
      }

      calm : Calm x store
      calm = record { words = λ b. refl; announced = λ q. refl }

      so_far : (j : ℕ) → j < i + 1 → put_at x.store.row row i word row j ≡ get_or all j 0
      so_far j less = elim (cases_eq j i) [
        | inl e ↦ ap (put_at x.store.row row i word row) e ∙ put_at_same x.store.row row i word
            ∙ ap (λ n. get_or all n 0) (sym e)
        | inr n ↦ put_at_place x.store.row row i word row j n ∙ k.1.so_far j (omega (arith, less, n))
      ]

      go : (c : Bool) → nat_lt (i + 1) (length all) ≡ c → Shows_next (ticked (with_seat x p store
          (seat_after now u (On (cond c (S.StoreRow t found (i + 1)) (S.Exchange t found)))) x.answers))
      go true e law =
          let step = S.StoreRow t found (i + 1) in
          let here = mine plan is_plan x shown p inside store (seat_after now u (On step)) x.answers in
          goes_still plan is_plan x shown p inside store now u step law free calm refl refl
          (ops_still plan is_plan x shown p inside store now u step law free calm refl refl (λ j. refl)
          (slot_at u (S.StoreRow t found i) stood))
          (record {
            finds = found_still plan is_plan x shown p inside store now u step law free calm refl refl t found
                k.1.finds;
            in_step = step_still plan is_plan x shown p inside store now u step law free calm refl refl _ k.1.in_step;
            so_far = subst (λ (s : SeatNow). (j : ℕ) → j < i + 1 →
                store.row (next_row s) j ≡ get_or (S.new_words setup s t found) j 0) (sym here) so_far;
          }) k.0
      go false e law =
          let step = S.Exchange t found in
          let here = mine plan is_plan x shown p inside store (seat_after now u (On step)) x.answers in
          goes_still plan is_plan x shown p inside store now u step law free calm refl refl
          (ops_still plan is_plan x shown p inside store now u step law free calm refl refl (λ j. refl)
          (slot_at u (S.StoreRow t found i) stood))
          (record {
            finds = found_still plan is_plan x shown p inside store now u step law free calm refl refl t found
                k.1.finds;
            in_step = step_still plan is_plan x shown p inside store now u step law free calm refl refl _ k.1.in_step;
            whole = subst (λ (s : SeatNow). (j : ℕ) → j < length (S.new_words setup s t found) →
                store.row (next_row s) j ≡ get_or (S.new_words setup s t found) j 0) (sym here)
                (λ j less. so_far j (let past = ltb-false (i + 1) (length all) e in omega (arith, less, past)));
          }) k.0
