-- The looks of an update at its bucket, and what comes of a try that is lost.
use Rattle.std.proofs.Common.{◌≡◌, ◌≢◌, ℕ, ◌+◌, ◌-◌, ◌<◌, ◌≤◌, ◌⊎◌, inl, inr, Bool, true, false, cond, List, [], ◌∷◌, ◌++◌, length, Option, Some, None, refl, sym, ap, ◌∙◌, subst, arith, lt-ltb}
use Rattle.std.specs.Prelude.{◌==◌, nat_le, slice_index, slice_index_or}
use Rattle.std.proofs.lemmas.Bool.{eqb-true, eqb-false, le-leb, leb-true}
use Rattle.step_counts.specs.declared.rows.SeatRows.{SeatRows}
use Rattle.plain_map.specs.declared.calls.Reply.{Reply}
use Rattle.plain_map.specs.declared.records.Record.{Record}
use Rattle.plain_map.specs.Calls.{key_in}
use Rattle.word_rows.specs.ReplyWords.{word_of_reply, reply_of_word}
use Rattle.bucket_states.specs.States.{BucketState}
use Rattle.bucket_states.specs.Laws.{applied_of, reply_at}
use Rattle.table_model.specs.declared.rounds.Round.{Round}
use Rattle.table_model.specs.Setup.{Setup, seats_of}
use Rattle.table_model.specs.Phases.{Phase, BucketTry, TryWord, TryAnnouncement, TryStore}
use Rattle.table_model.specs.SeatStates.{Account, Idle, SeatState, record_of}
use Rattle.table_model.specs.Worlds.{world_after, seat_in}
use Rattle.run_invariant.proofs.Invariant.{Common, last, op_now}
use Rattle.lasting_model.specs.Plans.{Plan, IsPlan, ample}
use Rattle.lasting_model.specs.Codes.{row_in, generation_in, state_in}
use Rattle.lasting_model.specs.Steps as S
use Rattle.lasting_model.specs.Steps.{SeatNow, Update, Step, Try, bucket_of_update}
use Rattle.lasting_model.specs.Goes.{On, lost, looked, own_op, is_applied, reply_by, found_so_far}
use Rattle.lasting_model.specs.Worlds.{Lasting, goes, seat_after, answers_after, stepped, ticked, with_seat}
use Rattle.lasting_model.specs.Worlds as L
use Rattle.lasting_laws.proofs.Lost.{IsOfTry, next_try}
use Rattle.lasting_laws.proofs.Alone as Alone
use Rattle.lasting_laws.proofs.Shown.{View, SlotOf, OpStands, Stands, InStep, Late, IsRow, IsTry, Looked, IsMade, Keeps, Moment, view, IsShown, IsNext}
use Rattle.lasting_laws.proofs.Stays.{row_stays}
use Rattle.lasting_laws.proofs.Records.{counts_kept}
use Rattle.lasting_laws.proofs.Exact.{update_tested, row_exact}
use Rattle.lasting_laws.proofs.Ghost.{inside_ghost, there, open_rows, named_small, spelled, prefix_is, depth_is, open_at, reply_spelled}
use Rattle.lasting_laws.proofs.RowWords.{whole_is}
use Rattle.lasting_laws.proofs.Moments.{Burst, no_burst, both_bursts, At, again, looks, HasIt, LacksIt}
use Rattle.lasting_laws.proofs.Next.{Untouched, Lawful}
use Rattle.lasting_laws.proofs.Own.{untouched_same, Calm, calm_same, after, named, own_ops, past_p, step_now, w_on, goes_to}
use Rattle.lasting_laws.proofs.OwnStill.{kept, slotted, still, late_still}
use Rattle.lasting_laws.proofs.OwnRests.{replies}
use Rattle.lasting_laws.proofs.OwnFound.{To, found_on}

-- a test that fails
not_le : (a n : ℕ) → n < a → nat_le a n ≡ false
not_le a n less = go (nat_le a n) refl
  where
    go : (q : Bool) → nat_le a n ≡ q → nat_le a n ≡ false
    go true e = absurd (omega (arith, less, leb-true a n e))
    go false e = e

module _ (plan : Plan) (is_plan : IsPlan plan) (x : Lasting) (shown : IsShown plan x) (p : ℕ)
    (inside : p < plan.settings.seats) (u : Update) where
  abbrev setup : Setup
  setup = ample plan

  abbrev now : SeatNow
  now = L.seat_in x p

  abbrev m : Moment setup
  m = shown.moment

  abbrev c : Common
  c = shown.moment.common

  abbrev v : View
  v = view plan x shown.moment shown.word_at shown.cut shown.tied

  -- how many answers of each seat there were when its call began
  abbrev pub least : ℕ → ℕ
  least k = length (v.past p k)

  abbrev b : ℕ
  b = bucket_of_update setup u

  pub named_b : c.named b ≡ true
  named_b = there plan is_plan m shown.shows.rows.numbered (key_in u.call)

  h : p < seats_of setup
  h = inside_ghost plan p inside

  -- the ghost has ended at this moment
  pub record EndedAt (n : Moment setup) : Type 0 where
    pub idle : (seat_in (world_after setup n.events) p).stand ≡ Idle
    pub made : Record
    pub records_are : (seat_in (world_after setup n.events) p).account.records ≡ v.past p p ++ made ∷ []
    pub number_is : made.number ≡ u.number
    pub call_is : made.call ≡ u.call
    pub saw : (k : ℕ) → k < seats_of setup → least k ≤ slice_index made.seen.counts k
    pub spelled : reply_of_word (word_of_reply (Some made.reply)) ≡ Some made.reply
    pub some : 0 < (n.common.used p).op_rows
    pub op_is : op_now n.common p ≡ own_op p u
    pub has : u.number ≤ applied_of (last n.common b) p

  -- the row in use has it, and the ghost has ended
  pub record HasAt : Type 0 where
    pub burst : Burst setup m p
    pub ended : EndedAt burst.next
    pub has : u.number ≤ applied_of (c.state_at b (c.top b)) p

  -- or lacks it, and the ghost is at the announcements
  pub record LacksAt (account : Account) (turn : ℕ) : Type 0 where
    pub burst : Burst setup m p
    pub round : Round
    pub attempt : BucketTry
    pub at : At setup burst.next p account u least (TryAnnouncement round attempt [])
    pub of_key : round.bucket ≡ b
    pub number_is : attempt.row ≡ c.row_at b (c.top b)
    pub state_is : attempt.state ≡ c.state_at b (c.top b)
    pub turn_is : attempt.turn ≡ turn
    pub two : turn ≤ 2
    pub lacks : applied_of attempt.state p < u.number

  -- a look from a later moment with the same history
  look_at : IsMade plan v p u → (b0 : Burst setup m p) (account : Account) → account.records ≡ v.past p p →
      (round : Round) (turn : ℕ) (before : Option ℕ) → At setup b0.next p account u least (TryWord round turn before) →
      round.bucket ≡ b → HasAt ⊎ LacksAt account turn
  look_at made b0 account past round turn before a of_key = go
      (looks setup n p h account u least (update_tested u.call made.update) round turn before a live named_n)
    where
      n : Moment setup
      n = b0.next

      named_n : n.common.named round.bucket ≡ true
      named_n = ap (λ (f : ℕ → Bool). f round.bucket) b0.past.named ∙ ap c.named of_key ∙ named_b

      live : (k : ℕ) → n.common.named k ≡ true → (n.common.state_at k (n.common.top k)).frozen ≡ false
      live k e = (λ i. (b0.past.state_at i k (b0.past.top i k)).frozen)
          ∙ open_rows plan is_plan m shown.shows.rows.numbered k (sym (ap (λ (f : ℕ → Bool). f k) b0.past.named) ∙ e)

      -- the row in use was that of the moment before
      state_n : n.common.state_at round.bucket (n.common.top round.bucket) ≡ c.state_at b (c.top b)
      state_n = (λ i. b0.past.state_at i round.bucket (b0.past.top i round.bucket))
          ∙ ap (λ k. c.state_at k (c.top k)) of_key

      row_n : n.common.row_at round.bucket (n.common.top round.bucket) ≡ c.row_at b (c.top b)
      row_n = (λ i. b0.past.row_at i round.bucket (b0.past.top i round.bucket))
          ∙ ap (λ k. c.row_at k (c.top k)) of_key

      go : HasIt setup n p h account u least (update_tested u.call made.update) round
          ⊎ LacksIt setup n p h account u least (update_tested u.call made.update) round turn →
          HasAt ⊎ LacksAt account turn
      go (inl z) =
          let d = z.burst.next.common in
          let works = (Alone.kept setup p n.events n.run n.common n.locals n.follows h account a.flight
          (TryWord round turn before) a.state).works in
          let reply_is : reply_at (c.state_at b (c.top b)) p ≡ Some z.reply =
          ap (λ (s : BucketState). reply_at s p) (sym state_n) ∙ z.reply_is in
          let state_d : last d b ≡ c.state_at b (c.top b) =
          (λ i. z.burst.past.state_at i b (z.burst.past.top i b)) ∙ (λ i. b0.past.state_at i b (b0.past.top i b)) in
          let same_has = ap (λ (s : BucketState). applied_of s p) state_n in
          let there_has = ap (λ (s : BucketState). applied_of s p) state_d in
          let has = z.has in
          inl (record {
            burst = both_bursts setup m p b0 z.burst;
            ended = record {
              idle = ap (λ (s : SeatState). s.stand) z.state;
              made = record_of p z.flight z.reply z.row;
              records_are = ap (λ (s : SeatState). s.account.records) z.state
                  ∙ ap (λ (rs : List Record). rs ++ record_of p z.flight z.reply z.row ∷ []) past;
              number_is = z.number_is;
              call_is = z.call_is;
              saw = λ k less. (let was = z.saw k less in let kept_all = counts_kept z.flight.seen k in
                  omega (arith, was, kept_all));
              spelled = subst (λ (o : Option Reply). reply_of_word (word_of_reply o) ≡ o) reply_is
                  (reply_spelled plan is_plan m shown.shows.rows.numbered b (c.top b) p named_b (omega arith) h);
              some = subst (λ (f : ℕ → SeatRows). 0 < (f p).op_rows) (sym z.burst.past.used) works.announced;
              op_is = (λ i. z.burst.past.op_at i p ((z.burst.past.used i p).op_rows - 1)) ∙ works.op_is
                  ∙ (λ i. record { seat = p; number = a.number_is i; call = a.call_is i });
              has = omega (arith, has, same_has, there_has);
            };
            has = omega (arith, has, same_has);
          })
      go (inr z) = inr (record {
        burst = both_bursts setup m p b0 z.burst;
        round = round;
        attempt = record {
          turn = turn;
          first = z.first;
          row = n.common.row_at round.bucket (n.common.top round.bucket);
          state = n.common.state_at round.bucket (n.common.top round.bucket);
        };
        at = z.at;
        of_key = of_key;
        number_is = row_n;
        state_is = state_n;
        turn_is = refl;
        two = z.two;
        lacks = z.lacks;
      })

  -- ---- to the next step, by what the ghost has done

  abbrev fr : Untouched plan x p x.store
  fr = untouched_same plan x p

  abbrev cl : Calm x x.store
  cl = calm_same x

  abbrev pub Goes_to : Step → Type 0
  Goes_to step = Lawful plan x shown (ticked (with_seat x p x.store (seat_after now u (On step)) x.answers)) →
      IsNext plan x (ticked (with_seat x p x.store (seat_after now u (On step)) x.answers)) shown

  module _ (made : IsMade plan v p u) (slot : OpStands plan v p) where
    module _ (burst : Burst setup m p) (step : Step)
        (law : Lawful plan x shown (ticked (with_seat x p x.store (seat_after now u (On step)) x.answers))) where
      abbrev then : SeatNow
      then = seat_after now u (On step)

      abbrev y : View
      y = w_on plan is_plan x shown p inside x.store now u step law fr cl burst refl refl

      past_y : y.past p ≡ v.past p
      past_y = past_p plan is_plan x shown p inside x.store then x.answers law fr cl burst refl

      abbrev row_y : (word : ℕ) → IsRow plan v u word → IsRow plan y u word
      row_y word r = row_stays plan p v y (after plan is_plan x shown p inside x.store then x.answers law fr cl burst)
          shown.shows.rows (named plan is_plan x shown p inside x.store then x.answers law fr cl burst) u word r

      late_y : EndedAt burst.next → Late plan y p u
      late_y e = record {
        idle = e.idle;
        made = e.made;
        records_are = e.records_are ∙ ap (λ (f : ℕ → List Record). f p ++ e.made ∷ []) (sym past_y);
        saw = λ k less. (let was = e.saw k less in let same = ap (λ (f : ℕ → List Record). length (f k)) past_y in
            omega (arith, was, same));
        number_is = e.number_is;
        call_is = e.call_is;
        spelled = e.spelled;
        some = e.some;
        op_is = e.op_is;
        has = e.has;
      }

      step_y : (phase : Phase) (account : Account) → account.records ≡ v.past p p →
          At setup burst.next p account u least phase → InStep plan y p u phase
      step_y phase account past a =
          step_now plan is_plan x shown p inside x.store then x.answers law fr cl burst refl u phase account past a

      to_y : Keeps plan y p u step → SlotOf plan y p (S.Goes u step) →
          IsNext plan x (ticked (with_seat x p x.store (seat_after now u (On step)) x.answers)) shown
      to_y keeps s = goes_to plan is_plan x shown p inside x.store now u step law fr cl burst refl refl s keeps made

      ops_y : OpStands plan y p
      ops_y = own_ops plan is_plan x shown p inside x.store then x.answers law fr cl burst (λ i. refl) slot

    late_now : (step : Step) (law : Lawful plan x shown
        (ticked (with_seat x p x.store (seat_after now u (On step)) x.answers))) → Late plan v p u →
        Late plan (y (still plan is_plan x shown p inside) step law) p u
    late_now step law l = late_still plan is_plan x shown p inside x.store now u step law fr cl refl refl l

    -- ---- a try that is lost

    -- the row is not in use any more
    left_word : (round : Round) (attempt : BucketTry) (turn at : ℕ) → at ≤ c.top b →
        IsTry plan v u turn at round attempt →
        at ≢ c.top b → c.memory.bucket round.bucket ≢ attempt.row
    left_word round attempt turn at old t other e =
        let word : c.memory.bucket b ≡ c.row_at b (c.top b) = m.follows.shared.rows.word_is b named_b in
        let place = (m.follows.shared.rows.once b b (c.top b) at named_b named_b (omega arith) old
        (sym word ∙ ap c.memory.bucket (sym t.of_key) ∙ e ∙ t.number_is)).1 in
        other (sym place)

    -- what has ended goes on to another look, or to the held one
    pub late_lost : (turn : ℕ) → Late plan v p u → (test : Bool) → Goes_to (cond test (S.LoadWord 2) S.StoreWant)
    late_lost turn l true law =
        to_y (still plan is_plan x shown p inside) (S.LoadWord 2) law (omega arith, inr (late_now (S.LoadWord 2) law l))
        (ops_y (still plan is_plan x shown p inside) (S.LoadWord 2) law)
    late_lost turn l false law =
        to_y (still plan is_plan x shown p inside) S.StoreWant law (late_now S.StoreWant law l)
        (ops_y (still plan is_plan x shown p inside) S.StoreWant law)

    -- and so does the ghost of a try that is lost
    pub try_lost : (phase : Phase) (account : Account) → account.records ≡ v.past p p → (round : Round)
        (attempt : BucketTry) (turn at : ℕ) → At setup m p account u least phase → IsOfTry round attempt phase →
        at ≤ c.top b → IsTry plan v u turn at round attempt → at ≢ c.top b →
        (test : Bool) → (turn == 1) ≡ test → Goes_to (cond test (S.LoadWord 2) S.StoreWant)
    try_lost phase account past round attempt turn at a is old t other = go
      where
        z : (b0 : Burst setup m p) × At setup b0.next p account u least (next_try round attempt)
        z = again setup m p h account u least (update_tested u.call made.update) phase round attempt a is
            (left_word round attempt turn at old t other)

        go : (test : Bool) → (turn == 1) ≡ test → Goes_to (cond test (S.LoadWord 2) S.StoreWant)
        go true e law =
            let two : attempt.turn + 1 ≡ 2 = (let one = eqb-true turn 1 e in let same = t.turn_is in omega
            (arith, one, same)) in
            to_y z.0 (S.LoadWord 2) law (
              omega arith,
              inl (
                round,
                Some attempt.first,
                t.of_key,
                step_y z.0 (S.LoadWord 2) law (TryWord round 2 (Some attempt.first)) account past
                    (subst (λ k. At setup z.0.next p account u least (TryWord round k (Some attempt.first))) two z.1),
              ),
            ) (ops_y z.0 (S.LoadWord 2) law)
        go false e law = elim (look_at made z.0 account past round (attempt.turn + 1)
            (Some attempt.first) z.1 t.of_key) [
              | inl k ↦ to_y k.burst S.StoreWant law (late_y k.burst S.StoreWant law k.ended)
                  (ops_y k.burst S.StoreWant law)
              | inr k ↦ absurd (let two = k.two in let other_turn = eqb-false turn 1 e in let same = t.turn_is in
                  let one = t.one in omega (arith, two, other_turn, same, one))
            ]

    -- ---- the bucket word

    abbrev word_row : IsRow plan v u (x.store.bucket b)
    word_row = record { at = c.top b; old = omega arith; word_is = shown.shows.rows.word_is b named_b }

    pub word_look : (turn : ℕ) → 1 ≤ turn → (((round : Round) × (first : Option ℕ) × (round.bucket ≡ b)
        × InStep plan v p u (TryWord round turn first)) ⊎ Late plan v p u) →
        Goes_to (S.LoadRow turn (x.store.bucket b) [])
    word_look turn one (inr l) law =
        let step = S.LoadRow turn (x.store.bucket b) [] in
        let none = still plan is_plan x shown p inside in
        to_y none step law (record {
          row = row_y none step law (x.store.bucket b) word_row;
          looked = inr (late_now step law l, l.has);
          reads = λ stands. refl;
          short = omega arith;
        }) (ops_y none step law)
    word_look turn one (inl k) law =
        let step = S.LoadRow turn (x.store.bucket b) [] in
        let s = k.3 in
        elim (look_at made (no_burst setup m p) s.account s.past_is k.0 turn k.1
        (record { flight = s.flight; state = s.state; number_is = s.number_is; call_is = s.call_is; saw = s.saw })
        k.2) [
          | inl z ↦ to_y z.burst step law (record {
            row = row_y z.burst step law (x.store.bucket b) word_row;
            looked = inr (
              late_y z.burst step law z.ended,
              subst (λ (q : BucketState). u.number ≤ applied_of q p) (λ i. (sym z.burst.past.state_at) i b
                  (c.top b)) z.has,
            );
            reads = λ stands. refl;
            short = omega arith;
          }) (ops_y z.burst step law)
          | inr z ↦ to_y z.burst step law (record {
            row = row_y z.burst step law (x.store.bucket b) word_row;
            looked = inl (record {
              round = z.round;
              attempt = z.attempt;
              is_try = record {
                of_key = z.of_key;
                number_is = z.number_is ∙ (λ i. (sym z.burst.past.row_at) i b (c.top b));
                state_is = z.state_is ∙ (λ i. (sym z.burst.past.state_at) i b (c.top b));
                turn_is = z.turn_is;
                one = one;
              };
              in_step = step_y z.burst step law (TryAnnouncement z.round z.attempt []) s.account s.past_is z.at;
              lacks = z.lacks;
            });
            reads = λ stands. refl;
            short = omega arith;
          }) (ops_y z.burst step law)
        ]

  pub word_step : (turn : ℕ) → now.stand ≡ S.Goes u (S.LoadWord turn) → Goes_to (S.LoadRow turn (x.store.bucket b) [])
  word_step turn stood =
      let k = kept plan is_plan x shown p inside u (S.LoadWord turn) stood in
      word_look k.0 (slotted plan is_plan x shown p inside u (S.LoadWord turn) stood) turn k.1.0 k.1.1

  -- ---- the generation

  pub check_step : (turn old : ℕ) (words : List ℕ) → now.stand ≡ S.Goes u (S.CheckRow turn old words) →
      Lawful plan x shown (ticked (goes plan x p now u (S.CheckRow turn old words))) →
      IsNext plan x (ticked (goes plan x p now u (S.CheckRow turn old words))) shown
  check_step turn old words stood = go (found == generation_in old) refl
    where
      found : ℕ
      found = x.store.row (row_in old) 0

      k : IsMade plan v p u × Keeps plan v p u (S.CheckRow turn old words)
      k = kept plan is_plan x shown p inside u (S.CheckRow turn old words) stood

      slot : OpStands plan v p
      slot = slotted plan is_plan x shown p inside u (S.CheckRow turn old words) stood

      t : Try
      t = record { turn = turn; word = old; state = state_in setup b words }

      -- the words are those of the row
      whole : Stands plan v old → state_in setup b words ≡ c.state_at b k.1.row.at
      whole stands =
          let says = spelled plan is_plan m shown.shows.rows.numbered b k.1.row.at named_b k.1.row.old in
          whole_is setup b (c.state_at b k.1.row.at)
          (prefix_is plan is_plan m shown.shows.rows.numbered b k.1.row.at named_b k.1.row.old)
          (depth_is plan is_plan m shown.shows.rows.numbered b k.1.row.at named_b k.1.row.old)
          (open_at plan is_plan m shown.shows.rows.numbered b k.1.row.at named_b k.1.row.old) says.0 says.1 words
          (k.1.reads stands) k.1.whole

      -- where the generation is another the row is not in use any more
      moved : found ≢ generation_in old → k.1.row.at ≢ c.top b
      moved other e = other (subst (λ w. x.store.row (row_in w) 0 ≡ generation_in w)
          (shown.shows.rows.word_is b named_b ∙ ap (shown.word_at b) (sym e) ∙ sym k.1.row.word_is)
          (shown.marks.fresh b (named_small plan is_plan m shown.shows.rows.numbered b named_b)))

      truly : Stands plan v old → Looked plan v p u turn k.1.row.at → To plan is_plan x shown p inside u t
          (looked setup p u t)
      truly stands (inl l) =
          let state : t.state ≡ l.attempt.state = whole stands ∙ sym l.is_try.state_is in
          let number = ap (λ (s : BucketState). applied_of s p) state in
          let none : is_applied p u t.state ≡ false =
          (let lacks = l.lacks in not_le u.number (applied_of t.state p) (omega (arith, lacks, number))) in
          subst (λ (q : Bool). To plan is_plan x shown p inside u t
          (cond q (reply_by p t.state) (found_so_far setup p u t []))) (sym none)
          (found_on plan is_plan x shown p inside u t k.0 slot l.in_step.account l.in_step.past_is [] (record {
            row = k.1.row;
            round = l.round;
            attempt = l.attempt;
            theirs = [];
            is_try = l.is_try;
            same = state;
            lacks = l.lacks;
            as_many = refl;
            alike = inr tt;
          }) (no_burst setup m p) (subst (At setup m p l.in_step.account u least)
          (λ i. cond ((sym (lt-ltb 0 (seats_of setup) (let hh = h in omega (arith, hh)))) i)
          (TryAnnouncement l.round l.attempt []) (TryStore l.round l.attempt [] 0))
          (record {
            flight = l.in_step.flight;
            state = l.in_step.state;
            number_is = l.in_step.number_is;
            call_is = l.in_step.call_is;
            saw = l.in_step.saw;
          })))
      truly stands (inr l) =
          let number = ap (λ (s : BucketState). applied_of s p) (whole stands) in
          let some : is_applied p u t.state ≡ true =
          (let has = l.1 in le-leb u.number (applied_of t.state p) (omega (arith, has, number))) in
          let e = row_exact plan is_plan x m shown.word_at shown.cut shown.tied shown.marks shown.shows.rows p inside
          u l.0
          k.0.update k.1.row.at k.1.row.old l.1
          (let a = k.0.long in let n = k.0.number_is in omega (arith, a, n)) in
          subst (λ (q : Bool). To plan is_plan x shown p inside u t
          (cond q (reply_by p t.state) (found_so_far setup p u t []))) (sym some)
          (replies plan is_plan x shown p inside u (slice_index_or t.state.replies p None) k.0 slot l.0
          (ap (λ (s : BucketState). reply_at s p) (whole stands) ∙ e.1))

      another : Looked plan v p u turn k.1.row.at → found ≢ generation_in old →
          To plan is_plan x shown p inside u t (lost turn)
      another (inl l) other = try_lost k.0 slot
          (TryAnnouncement l.round l.attempt []) l.in_step.account l.in_step.past_is
          l.round l.attempt turn k.1.row.at (record {
            flight = l.in_step.flight;
            state = l.in_step.state;
            number_is = l.in_step.number_is;
            call_is = l.in_step.call_is;
            saw = l.in_step.saw;
          }) (refl, refl) k.1.row.old l.is_try (moved other) (turn == 1) refl
      another (inr l) other = late_lost k.0 slot turn l.0 (turn == 1)

      go : (q : Bool) → (found == generation_in old) ≡ q → To plan is_plan x shown p inside u t
          (cond q (looked setup p u t) (lost turn))
      go true e = truly (eqb-true found (generation_in old) e) k.1.looked
      go false e = another k.1.looked (eqb-false found (generation_in old) e)
