-- An exchange that happens: the ghost publishes the row, and ends.
use Rattle.std.proofs.Common.{◌≡◌, ◌≢◌, ℕ, suc, ◌+◌, ◌-◌, ◌^◌, ◌<◌, ◌≤◌, ◌⊎◌, inl, inr, Bool, true, false, true≢false, cond, List, [], ◌∷◌, ◌++◌, length, get_or, Option, Some, None, refl, sym, ap, ◌∙◌, subst, arith}
use Rattle.std.specs.Prelude.{◌==◌, slice_index, slice_index_or}
use Rattle.std.proofs.lemmas.Bool.{cases_eq, eqb-true, eqb-false, leb-true}
use Rattle.std.proofs.lemmas.List.{length-append}
use Rattle.list_laws.proofs.Options.{some_same, none_some}
use Rattle.step_counts.specs.declared.rows.SeatRows.{SeatRows}
use Rattle.plain_map.specs.declared.calls.Reply.{Reply}
use Rattle.plain_map.specs.declared.records.Record.{Record}
use Rattle.plain_map.specs.declared.full.FullKind.TheVariants.{BucketRows}
use Rattle.plain_map.specs.Calls.{is_update}
use Rattle.word_rows.specs.OpWords.{words_of_call}
use Rattle.word_rows.specs.Memory.{put, put_at}
use Rattle.word_rows.proofs.MemoryLemmas.{put_same, put_other, put_at_same}
use Rattle.bucket_states.specs.declared.ops.Op.{Op}
use Rattle.bucket_states.specs.States.{BucketState}
use Rattle.bucket_states.specs.Laws.{applied_of, reply_at}
use Rattle.bucket_states.specs.Change.{change}
use Rattle.table_model.specs.declared.rounds.Round.{Round}
use Rattle.table_model.specs.Setup.{Setup, seats_of, rules_of, next_number}
use Rattle.table_model.specs.Phases.{BucketTry, TryStore, DirRoot}
use Rattle.table_model.specs.Stores.{made_bucket}
use Rattle.table_model.specs.Goes.{with_answer}
use Rattle.table_model.specs.SeatStates.{Account, Idle, InFlight, SeatState, record_of}
use Rattle.table_model.specs.Worlds.{world_after, seat_in}
use Rattle.run_invariant.proofs.Invariant.{Common, last, op_now}
use Rattle.run_invariant.proofs.Events.{published}
use Rattle.helping_laws.proofs.Extends.{Extends}
use Rattle.lasting_model.specs.Plans.{Plan, IsPlan, ample}
use Rattle.lasting_model.specs.Codes.{tag, row_in, generation_in, state_words}
use Rattle.lasting_model.specs.Words as W
use Rattle.lasting_model.specs.Words.{with_word}
use Rattle.lasting_model.specs.Steps as S
use Rattle.lasting_model.specs.Steps.{SeatNow, Update, Step, Try, bucket_of_update, next_row, next_generation, made, new_words}
use Rattle.lasting_model.specs.Goes.{Fate, Ends, lost, reply_by, ends_with, with_published, own_op, Called, Replied}
use Rattle.lasting_model.specs.Worlds.{Lasting, Answer, BySeat, goes, seat_after, answers_after, stepped, ticked, with_seat}
use Rattle.lasting_model.specs.Worlds as L
use Rattle.lasting_laws.proofs.Words.{row_of_tag, generation_of_tag}
use Rattle.lasting_laws.proofs.Alike.{made_alike}
use Rattle.lasting_laws.proofs.Alone as Alone
use Rattle.lasting_laws.proofs.Won.{Comes, Won, wins, with_row}
use Rattle.lasting_laws.proofs.Won as Win
use Rattle.lasting_laws.proofs.Pools.{owner_in}
use Rattle.lasting_laws.proofs.Marks.{known_of, own_small, writer_owns}
use Rattle.lasting_laws.proofs.FixedDepth.{never_frozen}
use Rattle.lasting_laws.proofs.Shown.{View, OpStands, Rows, Ops, IsIn, Waits, IsMade, Keeps, Moment, view, IsShown, IsNext}
use Rattle.lasting_laws.proofs.Records.{counts_kept}
use Rattle.lasting_laws.proofs.Exact.{update_tested}
use Rattle.lasting_laws.proofs.Ghost.{inside_ghost, deepest, open_rows, extends_same, extends_both, extends_published, put_before}
use Rattle.lasting_laws.proofs.Next.{Untouched, Lawful, z, mine, Stepped, numbered, ops_quiet, one_more, shown_next}
use Rattle.lasting_laws.proofs.OwnStill.{kept, slotted, updated_is}
use Rattle.lasting_laws.proofs.OwnLooks.{try_lost, named_b}

module _ (plan : Plan) (is_plan : IsPlan plan) (x : Lasting) (shown : IsShown plan x) (p : ℕ)
    (inside : p < plan.settings.seats) (u : Update) (t : Try) (found : List (Option Op))
    (stood : (L.seat_in x p).stand ≡ S.Goes u (S.Exchange t found)) where
  abbrev setup : Setup
  setup = ample plan

  abbrev now : SeatNow
  now = L.seat_in x p

  abbrev m : Moment setup
  m = shown.moment

  abbrev c : Common
  c = shown.moment.common

  abbrev v : View
  v = view plan x shown.moment shown.word_at shown.cut shown.tied

  -- how many answers of each seat there were when its call began
  abbrev pub least : ℕ → ℕ
  least k = length (v.past p k)

  abbrev b : ℕ
  b = bucket_of_update setup u

  abbrev row : ℕ
  row = next_row now

  abbrev generation : ℕ
  generation = next_generation now

  abbrev word : ℕ
  word = tag generation row

  k : IsMade plan v p u × Keeps plan v p u (S.Exchange t found)
  k = kept plan is_plan x shown p inside u (S.Exchange t found) stood

  slot : OpStands plan v p
  slot = slotted plan is_plan x shown p inside u (S.Exchange t found) stood

  h : p < seats_of setup
  h = inside_ghost plan p inside

  abbrev named : c.named b ≡ true
  named = named_b plan is_plan x shown p inside u

  -- the row of the try is that in use where the word is the same
  top_is : x.store.bucket b ≡ t.word → c.top b ≡ k.1.finds.row.at
  top_is e = shown.shows.rows.once b (c.top b) k.1.finds.row.at named (omega arith) k.1.finds.row.old
      (sym (shown.shows.rows.word_is b named) ∙ e ∙ k.1.finds.row.word_is)

  own : owner_in plan row ≡ p
  own = writer_owns plan is_plan x shown.pools p inside u (S.Exchange t found) stood (omega arith)

  small : row < 2 ^ 17
  small = own_small plan is_plan x shown.pools row (let e = own in omega (arith, e, inside))

  abbrev account : Account
  account = k.1.in_step.account

  abbrev round : Round
  round = k.1.finds.round

  abbrev attempt : BucketTry
  attempt = k.1.finds.attempt

  abbrev theirs : List (Option Op)
  theirs = k.1.finds.theirs

  -- ---- lost

  lost_step : x.store.bucket b ≢ t.word →
      Lawful plan x shown (ticked (with_seat x p x.store (seat_after now u (lost t.turn))
      (answers_after x p u.call (stepped now.course) (lost t.turn)))) →
      IsNext plan x (ticked (with_seat x p x.store (seat_after now u (lost t.turn))
      (answers_after x p u.call (stepped now.course) (lost t.turn)))) shown
  lost_step other = try_lost plan is_plan x shown p inside u k.0 slot (TryStore round attempt theirs 0) account
      k.1.in_step.past_is round attempt t.turn k.1.finds.row.at (record {
        flight = k.1.in_step.flight;
        state = k.1.in_step.state;
        number_is = k.1.in_step.number_is;
        call_is = k.1.in_step.call_is;
        saw = k.1.in_step.saw;
      }) (refl, refl) k.1.finds.row.old k.1.finds.is_try
      (λ e. other (shown.shows.rows.word_is b named ∙ ap (shown.word_at b) (sym e) ∙ sym k.1.finds.row.word_is))
      (t.turn == 1) refl

  -- ---- won

  module _ (same : x.store.bucket b ≡ t.word) where
    -- what the ghost makes
    abbrev theirs_made : BucketState
    theirs_made = made_bucket setup attempt theirs

    made_same : made setup t found ≡ theirs_made
    made_same = ap (change (rules_of setup) found) k.1.finds.same ∙ elim k.1.finds.alike [
      | inl gone ↦ absurd (gone same)
      | inr all ↦ made_alike (rules_of setup) attempt.state theirs found all
    ]

    bucket_same : c.memory.bucket round.bucket ≡ attempt.row
    bucket_same = ap c.memory.bucket k.1.finds.is_try.of_key ∙ m.follows.shared.rows.word_is b named
        ∙ ap (c.row_at b) (top_is same) ∙ sym k.1.finds.is_try.number_is

    abbrev d0 : Common
    d0 = published setup p round.bucket attempt theirs c

    module _ (state : SeatState) (comes : Comes setup p m.events d0 state) where
      abbrev d : Common
      d = comes.common

      abbrev next : Moment setup
      next = record {
        events = comes.last;
        run = comes.run;
        common = comes.common;
        locals = comes.locals;
        follows = comes.follows;
      }

      extends : Extends c d
      extends = extends_both c d0 d (extends_published setup p round.bucket attempt theirs c
          (open_rows plan is_plan m shown.shows.rows.numbered)) (extends_same d0 d comes.past)

      -- the line of the bucket has one row more
      top_own : d.top b ≡ c.top b + 1
      top_own = ap (λ (f : ℕ → ℕ). f b) comes.past.top ∙ ap (λ r. put c.top r (c.top r + 1) b) k.1.finds.is_try.of_key
          ∙ put_same c.top b (c.top b + 1)

      top_other : (a : ℕ) → a ≢ b → d.top a ≡ c.top a
      top_other a n = ap (λ (f : ℕ → ℕ). f a) comes.past.top
          ∙ ap (λ r. put c.top r (c.top r + 1) a) k.1.finds.is_try.of_key ∙ put_other c.top b (c.top b + 1) a n

      state_own : d.state_at b (c.top b + 1) ≡ theirs_made
      state_own = (λ i. comes.past.state_at i b (c.top b + 1))
          ∙ ap (λ r. put_at c.state_at r (c.top r + 1) theirs_made b (c.top b + 1)) k.1.finds.is_try.of_key
          ∙ put_at_same c.state_at b (c.top b + 1) theirs_made

      last_own : last d b ≡ theirs_made
      last_own = ap (d.state_at b) top_own ∙ state_own

      was_named : (a : ℕ) → d.named a ≡ true → c.named a ≡ true
      was_named a n = sym (ap (λ (f : ℕ → Bool). f a) comes.past.named) ∙ n

      named_d : d.named b ≡ true
      named_d = ap (λ (f : ℕ → Bool). f b) comes.past.named ∙ named

      -- it is open
      not_frozen : theirs_made.frozen ≡ false
      not_frozen = ap (λ (s : BucketState). s.frozen) (sym last_own)
          ∙ never_frozen setup d next.follows.shared next.follows.descent (deepest plan is_plan) b named_d

      abbrev word_at : (bucket at : ℕ) → ℕ
      word_at = put_at shown.word_at b (c.top b + 1) word

      -- a row is the new one, or was there
      place : (a i : ℕ) → i ≤ d.top a → ((a ≡ b) × (i ≡ c.top b + 1))
          ⊎ ((i ≤ c.top a) × (word_at a i ≡ shown.word_at a i))
      place a i o = elim (cases_eq a b) [
        | inl e ↦ elim (cases_eq i (c.top b + 1)) [
          | inl f ↦ inl (e, f)
          | inr n ↦
              let top : d.top a ≡ c.top b + 1 = ap d.top e ∙ top_own in
              let was = ap c.top e in
              inr (omega (arith, o, n, top, was), put_before shown.word_at b (c.top b + 1) word a i (λ _. n))
        ]
        | inr n ↦ (let top = top_other a n in
            inr (omega (arith, o, top), put_before shown.word_at b (c.top b + 1) word a i (λ e. absurd (n e))))
      ]

      abbrev store : W.Store
      store = with_word x.store (W.Bucket b) word

      module _ (reply : Reply) where
        abbrev then : SeatNow
        then = seat_after (with_published now b) u (Ends reply)

        abbrev answers : List Answer
        answers = L.with_answer x (BySeat p) (Called u.call) (Replied reply) (stepped now.course)

        module _ (law : Lawful plan x shown (ticked (with_seat x p store then answers))) where
          free : Untouched plan x p store
          free = record { slot = λ q j n. refl; want = λ q n. refl; touch = λ r. inl (λ i. refl) }

          abbrev w : View
          w = z plan is_plan x shown p inside store then answers law free next word_at

          ghost : Stepped plan is_plan x shown p inside store then answers law free next word_at
          ghost = record {
            extends = extends;
            used = λ q n. ap (λ (f : ℕ → SeatRows). f q) comes.past.used
                ∙ put_other c.used p (record (c.used p) { bucket_rows = (c.used p).bucket_rows + 1 }) q n;
            state = comes.others;
            later = (comes.more, comes.is);
            words = λ a i n o. put_before shown.word_at b (c.top b + 1) word a i
                (λ e f. (let top = ap c.top e in omega (arith, o, f, top)));
          }

          own_seat : L.seat_in w.x p ≡ then
          own_seat = mine plan is_plan x shown p inside store then answers

          -- the new row says its bucket
          new_says : (j : ℕ) → j < length (state_words setup (d.state_at b (c.top b + 1))) →
              x.store.row (row_in word) (j + 1) ≡ get_or (state_words setup (d.state_at b (c.top b + 1))) j 0
          new_says j less =
              let says : d.state_at b (c.top b + 1) ≡ made setup t found = state_own ∙ sym made_same in
              let one : j + 1 ≡ suc j = omega arith in
              let inside_row : j < length (state_words setup (made setup t found)) =
              subst (λ (s : BucketState). j < length (state_words setup s)) says less in
              ap (λ r. x.store.row r (j + 1)) (row_of_tag generation row small)
              ∙ k.1.whole (j + 1) (omega (arith, inside_row))
              ∙ ap (λ n. get_or (new_words setup now t found) n 0) one
              ∙ ap (λ (s : BucketState). get_or (state_words setup s) j 0) (sym says)

          low : (a i : ℕ) → c.named a ≡ true → i ≤ c.top a →
              generation_in (shown.word_at a i) ≤ known_of plan x (row_in (shown.word_at a i))
          low a i n o = shown.shows.rows.old a i n o

          -- its word is no other's
          new_word : (i : ℕ) → i ≤ c.top b → word ≢ shown.word_at b i
          new_word i o e =
              let known : known_of plan x row ≡ now.generation row = ap (λ q. (L.seat_in x q).generation row) own in
              let was = low b i named o in
              let mark = ap generation_in (sym e) ∙ generation_of_tag generation row small in
              let at : row_in (shown.word_at b i) ≡ row = ap row_in (sym e) ∙ row_of_tag generation row small in
              let known_at = ap (known_of plan x) at in
              omega (arith, known, was, mark, known_at)

          rows : Rows plan w
          rows = record {
            numbered = numbered plan is_plan x shown p inside store then answers law free next word_at ghost;
            word_is = λ a n. elim (cases_eq a b) [
              | inl e ↦ ap (put x.store.bucket b word) e ∙ put_same x.store.bucket b word
                  ∙ sym (ap (word_at b) top_own ∙ put_at_same shown.word_at b (c.top b + 1) word)
                  ∙ ap (λ r. word_at r (d.top r)) (sym e)
              | inr o ↦ put_other x.store.bucket b word a o ∙ shown.shows.rows.word_is a (was_named a n)
                  ∙ sym (put_before shown.word_at b (c.top b + 1) word a (c.top a) (λ e. absurd (o e)))
                  ∙ ap (word_at a) (sym (top_other a o))
            ];
            says = λ a i j n o stands less. elim (place a i o) [
              | inl e ↦
                  let at : word_at a i ≡ word =
                  (λ f. word_at (e.0 f) (e.1 f)) ∙ put_at_same shown.word_at b (c.top b + 1) word in
                  let state : d.state_at a i ≡ d.state_at b (c.top b + 1) = (λ f. d.state_at (e.0 f) (e.1 f)) in
                  ap (λ r. x.store.row (row_in r) (j + 1)) at
                  ∙ new_says j (subst (λ (s : BucketState). j < length (state_words setup s)) state less)
                  ∙ ap (λ (s : BucketState). get_or (state_words setup s) j 0) (sym state)
              | inr f ↦
                  let state = (extends.rows a i (was_named a n) f.0).2 in
                  ap (λ r. x.store.row (row_in r) (j + 1)) f.1
                  ∙ shown.shows.rows.says a i j (was_named a n) f.0
                  (subst (λ r. x.store.row (row_in r) 0 ≡ generation_in r) f.1 stands)
                  (subst (λ (s : BucketState). j < length (state_words setup s)) state less)
                  ∙ ap (λ (s : BucketState). get_or (state_words setup s) j 0) (sym state)
            ];
            old = λ a i n o. elim (place a i o) [
              | inl e ↦
                  let at : word_at a i ≡ word =
                  (λ f. word_at (e.0 f) (e.1 f)) ∙ put_at_same shown.word_at b (c.top b + 1) word in
                  let mark = ap generation_in at ∙ generation_of_tag generation row small in
                  let here : row_in (word_at a i) ≡ row = ap row_in at ∙ row_of_tag generation row small in
                  let known : known_of plan w.x (row_in (word_at a i)) ≡ generation =
                  ap (known_of plan w.x) here ∙ ap (λ q. (L.seat_in w.x q).generation row) own
                  ∙ ap (λ (s : SeatNow). s.generation row) own_seat ∙ put_same now.generation row generation in
                  omega (arith, mark, known)
              | inr f ↦
                  let was = low a i (was_named a n) f.0 in
                  let up = law.turn.known (row_in (shown.word_at a i)) in
                  subst (λ r. generation_in r ≤ known_of plan w.x (row_in r)) (sym f.1) (omega (arith, was, up))
            ];
            once = λ a i j n o r e. elim (place a i o) [
              | inl f ↦ elim (place a j r) [
                | inl g ↦ f.1 ∙ sym g.1
                | inr g ↦ absurd (new_word j (subst (λ q. j ≤ c.top q) f.0 g.0)
                    (sym ((λ q. word_at (f.0 q) (f.1 q)) ∙ put_at_same shown.word_at b (c.top b + 1) word) ∙ e ∙ g.1
                    ∙ ap (λ q. shown.word_at q j) f.0))
              ]
              | inr f ↦ elim (place a j r) [
                | inl g ↦ absurd (new_word i (subst (λ q. i ≤ c.top q) g.0 f.0)
                    (sym ((λ q. word_at (g.0 q) (g.1 q)) ∙ put_at_same shown.word_at b (c.top b + 1) word) ∙ sym e
                    ∙ f.1 ∙ ap (λ q. shown.word_at q i) g.0))
                | inr g ↦ shown.shows.rows.once a i j (was_named a n) f.0 g.0 (sym f.1 ∙ e ∙ g.1)
              ]
            ];
          }

          rows_used : (q : ℕ) → (d.used q).op_rows ≡ (c.used q).op_rows
          rows_used q = ap (λ (f : ℕ → SeatRows). (f q).op_rows) comes.past.used ∙ elim (cases_eq q p) [
            | inl e ↦
                ap (λ r. (put c.used p (record (c.used p) { bucket_rows = (c.used p).bucket_rows + 1 }) r).op_rows) e
                ∙ ap (λ (s : SeatRows). s.op_rows)
                (put_same c.used p (record (c.used p) { bucket_rows = (c.used p).bucket_rows + 1 }))
                ∙ ap (λ r. (c.used r).op_rows) (sym e)
            | inr n ↦ ap (λ (s : SeatRows). s.op_rows)
                (put_other c.used p (record (c.used p) { bucket_rows = (c.used p).bucket_rows + 1 }) q n)
          ]

          op_same : (q j : ℕ) → d.op_at q j ≡ c.op_at q j
          op_same q j = (λ i. comes.past.op_at i q j)

          ops : Ops plan w
          ops = ops_quiet plan is_plan x shown p inside store then answers law free next word_at ghost (λ q. refl)
              rows_used op_same

          op_last : op_now d p ≡ op_now c p
          op_last = op_same p ((d.used p).op_rows - 1) ∙ ap (λ n. c.op_at p (n - 1)) (rows_used p)

          slot_then : OpStands plan w p
          slot_then some j less = slot (let e = rows_used p in omega (arith, some, e)) j less
              ∙ ap (λ (o : Op). get_or (words_of_call o.call) j 0) (sym op_last)

          -- the ghost's op is this update
          op_own : op_now c p ≡ own_op p u
          op_own = (Alone.kept setup p m.events m.run c m.locals m.follows h account k.1.in_step.flight
              (TryStore round attempt theirs 0) k.1.in_step.state).works.op_is
              ∙ (λ i. record { seat = p; number = k.1.in_step.number_is i; call = k.1.in_step.call_is i })

          won_ends : (ghost_made : Record) → state.stand ≡ Idle →
              state.account.records ≡ account.records ++ ghost_made ∷ [] → ghost_made.call ≡ u.call →
              ghost_made.reply ≡ reply →
              ((j : ℕ) → j < seats_of setup → least j ≤ slice_index ghost_made.seen.counts j) →
              u.number ≤ applied_of theirs_made p →
              IsNext plan x (ticked (with_seat x p store then answers)) shown
          won_ends ghost_made idle records call_is reply_is saw has =
              let now_records : (seat_in (world_after setup next.events) p).account.records
              ≡ v.past p p ++ ghost_made ∷ [] =
              ap (λ (s : SeatState). s.account.records) comes.mine ∙ records
              ∙ ap (λ (rs : List Record). rs ++ ghost_made ∷ []) k.1.in_step.past_is in
              shown_next plan is_plan x shown p inside store then answers law free next word_at ghost comes.more
              comes.is
              rows ops slot_then
              (subst (Waits plan w p) (sym (ap (λ (s : SeatNow). s.answered) own_seat)) (record {
                idle = ap (λ (s : SeatState). s.stand) comes.mine ∙ idle;
                count = ap (λ (rs : List Record). length rs) now_records
                    ∙ length-append (v.past p p) (ghost_made ∷ [])
                    ∙ (let a = k.0.long in omega (arith, a));
                applied = λ some. subst (IsIn plan w p) (sym (op_last ∙ op_own))
                    (let e = ap (λ (s : BucketState). applied_of s p) last_own in omega (arith, has, e));
              }))
              (shown.began p)
              (one_more plan is_plan x shown p inside store then answers law free next word_at ghost (Called u.call)
              (Replied reply) (stepped now.course) (shown.began p)
              (updated_is setup (shown.cut now.course.began) next.events p u.call reply k.0.update (record {
                made = ghost_made;
                records_are = now_records;
                call_is = call_is;
                reply_is = reply_is;
                saw = saw;
              })))

    abbrev To : Fate → Type 0
    To fate = Lawful plan x shown (ticked (with_seat x p (with_word x.store (W.Bucket b) word)
        (seat_after (with_published now b) u fate) (answers_after x p u.call (stepped now.course) fate))) →
        IsNext plan x (ticked (with_seat x p (with_word x.store (W.Bucket b) word)
        (seat_after (with_published now b) u fate) (answers_after x p u.call (stepped now.course) fate))) shown

    by_reply : (o : Option Reply) (reply : Reply) → o ≡ Some reply → To (Ends reply) → To (ends_with o)
    by_reply None reply e to = absurd (none_some e)
    by_reply (Some other) reply e to = subst (λ r. To (Ends r)) (sym (some_same e)) to

    won_step : To (reply_by p (made setup t found))
    won_step = go (wins setup p round attempt theirs m.events m.run c m.locals m.follows h account k.1.in_step.flight 0
        k.1.in_step.state (ap is_update k.1.in_step.call_is ∙ update_tested u.call k.0.update) bucket_same)
      where
        go : Won setup p round attempt theirs m.events c account k.1.in_step.flight →
            To (reply_by p (made setup t found))
        go (Win.ended reply steps has reply_is comes) =
            by_reply (slice_index_or (made setup t found).replies p None) reply
            (ap (λ (s : BucketState). reply_at s p) made_same ∙ reply_is)
            (λ law. won_ends (record {
              account = with_answer p (with_row setup p round attempt theirs account)
                  (record k.1.in_step.flight { steps = steps }) reply (next_number setup p BucketRows account.used);
              stand = Idle;
            }) comes reply law
            (record_of p (record k.1.in_step.flight { steps = steps }) reply
            (next_number setup p BucketRows account.used))
            refl refl k.1.in_step.call_is refl
            (λ j less. (let was = k.1.in_step.saw j less in let kept_all = counts_kept k.1.in_step.flight.seen j in
            omega (arith, was, kept_all)))
            (let less = leb-true k.1.in_step.flight.number (applied_of theirs_made p) has in
            let n = k.1.in_step.number_is in omega (arith, less, n)))
        go (Win.frozen steps cold comes) = absurd (true≢false (sym cold ∙ not_frozen (record {
          account = with_row setup p round attempt theirs account;
          stand = InFlight (record k.1.in_step.flight { steps = steps }) (DirRoot round 1 None);
        }) comes))

  -- THE RESULT
  pub exchange_step : Lawful plan x shown (ticked (goes plan x p now u (S.Exchange t found))) →
      IsNext plan x (ticked (goes plan x p now u (S.Exchange t found))) shown
  exchange_step = go (x.store.bucket b == t.word) refl
    where
      go : (q : Bool) → (x.store.bucket b == t.word) ≡ q →
          Lawful plan x shown (ticked (with_seat x p (cond q (with_word x.store (W.Bucket b) word) x.store)
          (seat_after (cond q (with_published now b) now) u (cond q (reply_by p (made setup t found)) (lost t.turn)))
          (answers_after x p u.call (stepped now.course)
          (cond q (reply_by p (made setup t found)) (lost t.turn))))) →
          IsNext plan x (ticked (with_seat x p (cond q (with_word x.store (W.Bucket b) word) x.store)
          (seat_after (cond q (with_published now b) now) u (cond q (reply_by p (made setup t found)) (lost t.turn)))
          (answers_after x p u.call (stepped now.course)
          (cond q (reply_by p (made setup t found)) (lost t.turn))))) shown
      go true e law = won_step (eqb-true (x.store.bucket b) t.word e) law
      go false e law = lost_step (eqb-false (x.store.bucket b) t.word e) law
