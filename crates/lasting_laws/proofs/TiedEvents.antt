-- In every run of a lasting table its events are those of the held look.
use Rattle.std.proofs.Common.{◌≡◌, ◌≢◌, ℕ, ◌+◌, ◌-◌, ◌^◌, ◌<◌, ◌≤◌, ◌⊎◌, inl, inr, Bool, true, false, cond, List, [], ◌∷◌, ◌++◌, length, drop, Option, Some, None, refl, sym, ap, ◌∙◌, subst, arith}
use Rattle.std.specs.Prelude.{◌==◌, nat_lt, slice_index, slice_index_or}
use Rattle.std.proofs.lemmas.Bool.{cases_eq, eqb-true, eqb-false}
use Rattle.std.proofs.lemmas.List.{append-nil}
use Rattle.list_laws.proofs.Lists.{In, in_both}
use Rattle.plain_map.specs.declared.calls.Reply.{Reply}
use Rattle.plain_map.specs.Calls.{key_in}
use Rattle.word_rows.specs.Memory.{put}
use Rattle.word_rows.proofs.MemoryLemmas.{put_same, put_other}
use Rattle.bucket_states.specs.declared.ops.Op.{Op}
use Rattle.table_model.specs.Setup.{Setup, seats_of}
use Rattle.table_model.specs.Goes.{more}
use Rattle.lasting_model.specs.Plans.{Plan, IsPlan, ample, buckets_of}
use Rattle.lasting_model.specs.Codes.{SLOT_WORDS, tag, row_in, generation_in, state_in, asking, holding, is_asking}
use Rattle.lasting_model.specs.Words as W
use Rattle.lasting_model.specs.Words.{with_word}
use Rattle.lasting_model.specs.Steps as S
use Rattle.lasting_model.specs.Steps.{Step, Stand, Sweep, SeatNow, ReaderNow, Update, Try, Course, Aim, OfKey, OfBucket, Glance, Source, Tried, HeldIn, Scan, deed_of, glance_deed, sweep_deed, bucket_of_update, bucket_of_aim, is_due, next_row, next_generation, made, new_words}
use Rattle.lasting_model.specs.Goes.{SweepFate, SweepsOn, Swept, sweep_fate, sweep_fate_of, swept, rows_of, seats_from, past_hold, Fate, On, Ends, Refuses, with_free, first_fate, piece_fate, ends_with, lost, reply_by, is_applied, looked, found_so_far, ops_or_row, with_own, op_in, fate, with_published}
use Rattle.lasting_model.specs.Worlds.{Lasting, Answer, seat_in, with_seat, ticked, found_by, store_after, seat_after, answers_after, stepped, goes}
use Rattle.lasting_laws.proofs.Words.{row_of_tag, asking_asks, time_of_asking, holding_asks_not, row_of_holding, holding_some}
use Rattle.lasting_laws.proofs.Pools.{owner_in, todo_of, gone_of, Pools, word_in, rows_at}
use Rattle.lasting_laws.proofs.PoolEvents.{bucket_small}
use Rattle.lasting_laws.proofs.Marks.{own_small, writer_owns}
use Rattle.lasting_laws.proofs.Holding as H
use Rattle.lasting_laws.proofs.HoldingSweeps as HS
use Rattle.lasting_laws.proofs.HeldStates.{hold_of, among, look_of, look_of_step, sweep_of, held_state}
use Rattle.lasting_laws.proofs.HeldSteps.{Arrives, IsSeen, arrives, from_seat, hold_asks, hold_has}
use Rattle.lasting_laws.proofs.Tied.{Tied, Ties, HoldsOf, Listed, Wants, WantStep, quietly}
use Rattle.lasting_laws.proofs.TiedRows.{From, from_fate, listed_live, listed_owned, published, sweeps_to}

-- ---- what comes of a step that holds nothing

abbrev pub NoHeld : Fate → Type 0
NoHeld (On step) = (look_of_step step ≡ H.NoLook) × ((want bucket : ℕ) → WantStep want bucket step)
NoHeld next = Unit {0}

either : (a b : Fate) (c : Bool) → NoHeld a → NoHeld b → NoHeld (cond c a b)
either a b true na nb = na
either a b false na nb = nb

either_on : (a b : Step) (c : Bool) → NoHeld (On a) → NoHeld (On b) → NoHeld (On (cond c a b))
either_on a b true na nb = na
either_on a b false na nb = nb

pub replied : (reply : Option Reply) → NoHeld (ends_with reply)
replied None = (refl, λ w b. tt)
replied (Some reply) = tt

loses : (turn : ℕ) → NoHeld (lost turn)
loses turn = either_on (S.LoadWord 2) S.StoreWant (turn == 1) (refl, λ w b. tt) (refl, λ w b. tt)

to_ops : (setup : Setup) (t : Try) (found : List (Option Op)) → NoHeld (ops_or_row setup t found)
to_ops setup t found =
    either_on (S.LoadAnnounced t found) (S.StoreRow t found 0) (nat_lt (length found) (seats_of setup))
    (refl, λ w b. tt) (refl, λ w b. tt)

free_on : (free : List ℕ) → NoHeld (with_free free)
free_on [] = tt
free_on (r ∷ free) = (refl, λ w b. tt)

piece_on : (free : List ℕ) (rows : ℕ) (f : SweepFate) → NoHeld (piece_fate free rows f)
piece_on free rows (SweepsOn kept (S.Homes todo gone)) =
    either (On (S.Sweeps (rows - 1))) (with_free free) (nat_lt 1 rows) (refl, λ w b. tt) (free_on free)
piece_on free rows (SweepsOn kept (S.Seats k gone)) = (refl, λ w b. tt)
piece_on free rows (SweepsOn kept (S.Sees k t gone)) = (refl, λ w b. tt)
piece_on free rows (SweepsOn kept (S.Loads k t bucket gone)) = (refl, λ w b. tt)
piece_on free rows (SweepsOn kept (S.Gives k t row gone)) = (refl, λ w b. tt)
piece_on free rows (Swept kept gone) = free_on (free ++ rows_of gone)

pub first_on : (free : List ℕ) (sweep : Option Sweep) → NoHeld (first_fate free sweep)
first_on free None = free_on free
first_on free (Some sweep) = (refl, λ w b. tt)

abbrev pub IsPlain : Step → Type 0
IsPlain (S.StoreOp i) = Unit {0}
IsPlain S.Announce = Unit {0}
IsPlain (S.LoadWord turn) = Unit {0}
IsPlain (S.LoadRow turn word words) = Unit {0}
IsPlain (S.CheckRow turn word words) = Unit {0}
IsPlain (S.LoadAnnounced t found) = Unit {0}
IsPlain (S.LoadOp t found announced words) = Unit {0}
IsPlain (S.StoreRow t found i) = Unit {0}
IsPlain S.Stuck = Unit {0}
IsPlain step = ⊥

pub plain_on : (setup : Setup) (seat : ℕ) (now : SeatNow) (u : Update) (step : Step) (word : ℕ) → IsPlain step →
    NoHeld (fate setup seat now u step word)
plain_on setup seat now u (S.StoreOp i) word p =
    either_on (S.StoreOp (i + 1)) S.Announce (nat_lt (i + 1) SLOT_WORDS) (refl, λ w b. tt) (refl, λ w b. tt)
plain_on setup seat now u S.Announce word p = (refl, λ w b. tt)
plain_on setup seat now u (S.LoadWord turn) word p = (refl, λ w b. tt)
plain_on setup seat now u (S.LoadRow turn old words) word p =
    either_on (S.LoadRow turn old (more words word)) (S.CheckRow turn old (more words word)) _ (refl, λ w b. tt)
    (refl, λ w b. tt)
plain_on setup seat now u (S.CheckRow turn old words) word p =
    let t : Try = record { turn = turn; word = old; state = state_in setup (bucket_of_update setup u) words } in
    either (looked setup seat u t) (lost turn) (word == generation_in old)
    (either (reply_by seat t.state) (found_so_far setup seat u t []) (is_applied seat u t.state)
    (replied (slice_index_or t.state.replies seat None)) (to_ops setup t (with_own seat u []))) (loses turn)
plain_on setup seat now u (S.LoadAnnounced t found) word p =
    either (On (S.LoadOp t found word [])) (found_so_far setup seat u t (more found None))
    (is_due (bucket_of_update setup u) t.state (length found) word) (refl, λ w b. tt)
    (to_ops setup t (with_own seat u (more found None)))
plain_on setup seat now u (S.LoadOp t found announced words) word p =
    let op : Option Op = Some (op_in (length found) announced (more words word)) in
    either (On (S.LoadOp t found announced (more words word))) (found_so_far setup seat u t (more found op))
    (nat_lt (length words + 1) SLOT_WORDS) (refl, λ w b. tt) (to_ops setup t (with_own seat u (more found op)))
plain_on setup seat now u (S.StoreRow t found i) word p =
    either_on (S.StoreRow t found (i + 1)) (S.Exchange t found) _ (refl, λ w b. tt) (refl, λ w b. tt)
plain_on setup seat now u S.Stuck word p = (refl, λ w b. tt)
plain_on setup seat now u (S.Sweeps rows) word p = absurd p
plain_on setup seat now u (S.Exchange t found) word p = absurd p
plain_on setup seat now u S.StoreWant word p = absurd p
plain_on setup seat now u S.StoreAsking word p = absurd p
plain_on setup seat now u S.HeldWord word p = absurd p
plain_on setup seat now u (S.TakeHold old) word p = absurd p
plain_on setup seat now u (S.HeldNumber row) word p = absurd p
plain_on setup seat now u (S.HeldReply row) word p = absurd p

-- where the seat stands then
held_look : (own : SeatNow) (u : Update) (next : Fate) → NoHeld next →
    look_of (seat_after own u next).stand ≡ H.NoLook
held_look own u (On step) n = n.0
held_look own u (Ends reply) n = refl
held_look own u Refuses n = refl

held_wants : (plan : Plan) (want : ℕ) (own : SeatNow) (u : Update) (next : Fate) → NoHeld next →
    Wants plan want (seat_after own u next).stand
held_wants plan want own u (On step) n = n.1 want (bucket_of_update (ample plan) u)
held_wants plan want own u (Ends reply) n = tt
held_wants plan want own u Refuses n = tt

pub after_free : (own : SeatNow) (u : Update) (next : Fate) → (seat_after own u next).free ≡ own.free
after_free own u (On step) = refl
after_free own u (Ends reply) = refl
after_free own u Refuses = refl

pub after_time : (own : SeatNow) (u : Update) (next : Fate) → (seat_after own u next).time ≡ own.time
after_time own u (On step) = refl
after_time own u (Ends reply) = refl
after_time own u Refuses = refl

pub after_named : (own : SeatNow) (u : Update) (next : Fate) → (seat_after own u next).named ≡ own.named
after_named own u (On step) = refl
after_named own u (Ends reply) = refl
after_named own u Refuses = refl

pub after_sweep : (own : SeatNow) (u : Update) (next : Fate) → (seat_after own u next).sweep ≡ own.sweep
after_sweep own u (On step) = refl
after_sweep own u (Ends reply) = refl
after_sweep own u Refuses = refl

pub after_listed : (plan : Plan) (own : SeatNow) (u : Update) (next : Fate) (r : ℕ × ℕ) →
    Listed plan r (seat_after own u next) → Listed plan r own
after_listed plan own u (On step) r i = i
after_listed plan own u (Ends reply) r i = i
after_listed plan own u Refuses r i = i

swept_time : (now : SeatNow) (f : SweepFate) → (swept now f).time ≡ now.time
swept_time now (SweepsOn kept sweep) = refl
swept_time now (Swept kept gone) = refl

module _ (plan : Plan) (is_plan : IsPlan plan) (x : Lasting) (pools : Pools plan x) (tied : Tied plan x) (p : ℕ)
    (inside : p < plan.settings.seats) where
  abbrev now : SeatNow
  now = seat_in x p

  abbrev s : H.State
  s = held_state plan x tied.home tied.since

  abbrev bs : ℕ
  bs = buckets_of plan.settings

  abbrev n : ℕ
  n = plan.settings.seats

  abbrev o : ℕ → ℕ
  o = owner_in plan

  wants_now : (stand : Stand) → now.stand ≡ stand → Wants plan (x.store.want p) stand
  wants_now stand e = subst (λ (k : Stand). Wants plan (x.store.want p) k) e (tied.wants p inside)

  -- ---- an update

  -- a step that holds nothing and changes none of these words
  pub quiet_fate : (store : W.Store) → ((b : ℕ) → row_in (store.bucket b) ≡ word_in x b) →
      ((q : ℕ) → store.hold q ≡ x.store.hold q) → ((q : ℕ) → store.want q ≡ x.store.want q) → (u : Update)
      (next : Fate) (answers : List Answer) → NoHeld next → look_of now.stand ≡ H.NoLook →
      Ties plan x tied (ticked (with_seat x p store (seat_after now u next) answers))
  quiet_fate store bucket hold want u next answers none quiet =
      quietly plan x pools tied p inside store (seat_after now u next) answers
      (record { bucket = bucket; free = after_free now u next; listed = after_listed plan now u next }) hold want
      (after_time now u next) (held_look now u next none ∙ sym quiet) (ap sweep_of (after_sweep now u next))
      (held_wants plan (store.want p) now u next none)

  -- its next row in the word of a bucket
  pub exchange_step : (u : Update) (t : Try) (found : List (Option Op)) → now.stand ≡ S.Goes u (S.Exchange t found) →
      Ties plan x tied (ticked (goes plan x p now u (S.Exchange t found)))
  exchange_step u t found stood = go (x.store.bucket b == t.word)
    where
      b : ℕ
      b = bucket_of_update (ample plan) u

      row : ℕ
      row = next_row now

      store : W.Store
      store = with_word x.store (W.Bucket b) (tag (next_generation now) row)

      quiet : look_of now.stand ≡ H.NoLook
      quiet = ap look_of stood

      some : 1 ≤ length now.free
      some = subst (λ (k : Stand). HasFree k) stood (pools.seats p inside).row
        where
          HasFree : Stand → Type 0
          HasFree S.Idle = Unit {0}
          HasFree (S.Goes v k) = rows_at k ≤ length now.free
          HasFree (S.Glances aim glance) = Unit {0}

      small : row < 2 ^ 17
      small = own_small plan is_plan x pools row (subst (λ q. q < n)
          (sym (writer_owns plan is_plan x pools p inside u (S.Exchange t found) stood (omega arith))) inside)

      word : (a : ℕ) → row_in (store.bucket a) ≡ put s.word b row a
      word a = elim (cases_eq a b) [
        | inl e ↦
            ap (λ k. row_in (store.bucket k)) e ∙ ap row_in (put_same x.store.bucket b (tag (next_generation now) row))
            ∙ row_of_tag (next_generation now) row small ∙ sym (ap (put s.word b row) e ∙ put_same s.word b row)
        | inr m ↦
            ap row_in (put_other x.store.bucket b (tag (next_generation now) row) a m) ∙ sym
            (put_other s.word b row a m)
      ]

      won : (r : Option Reply) → Ties plan x tied (ticked (with_seat x p store
          (seat_after (with_published now b) u (ends_with r))
          (answers_after x p u.call (stepped now.course) (ends_with r))))
      won r =
          let own = with_published now b in
          let next = ends_with r in
          published plan x pools tied p inside store (seat_after own u next)
          (answers_after x p u.call (stepped now.course) next) b (bucket_small plan (key_in u.call)) row
          (drop 1 now.free) (cut now.free some) (after_free own u next) (after_named own u next)
          (after_sweep own u next)
          word (λ q. refl) (λ q. refl) (after_time own u next) (held_look own u next (replied r) ∙ sym quiet)
          (held_wants plan (store.want p) own u next (replied r))
        where
          cut : (fs : List ℕ) → 1 ≤ length fs → fs ≡ slice_index fs 0 ∷ drop 1 fs
          cut [] k = absurd (omega (arith, k))
          cut (f ∷ fs) k = refl

      reply : Fate
      reply = reply_by p (made (ample plan) t found)

      go : (c : Bool) → Ties plan x tied (ticked (with_seat x p (cond c store x.store)
          (seat_after (cond c (with_published now b) now) u (cond c reply (lost t.turn)))
          (answers_after x p u.call (stepped now.course) (cond c reply (lost t.turn)))))
      go true = won (slice_index_or (made (ample plan) t found).replies p None)
      go false = quiet_fate x.store (λ a. refl) (λ q. refl) (λ q. refl) u (lost t.turn)
          (answers_after x p u.call (stepped now.course) (lost t.turn)) (loses t.turn) quiet

  -- a sweep
  listed_swept : (sweep : Sweep) → now.sweep ≡ Some sweep → (f : SweepFate) →
      From (λ r. In r (todo_of (Some sweep)) ⊎ In r (gone_of (Some sweep))) f → (r : ℕ × ℕ) →
      Listed plan r (swept now f) → Listed plan r now
  listed_swept sweep e f from r i = go f from i
    where
      back : In r (todo_of (Some sweep)) ⊎ In r (gone_of (Some sweep)) → Listed plan r now
      back j = inr (subst (λ (w : Option Sweep). In r (todo_of w) ⊎ In r (gone_of w)) (sym e) j)

      go : (g : SweepFate) → From (λ r. In r (todo_of (Some sweep)) ⊎ In r (gone_of (Some sweep))) g →
          Listed plan r (swept now g) → Listed plan r now
      go (SweepsOn kept next) from (inl a) = elim (in_both r now.named kept a) [
        | inl c ↦ inl c
        | inr c ↦ back (from r (inl c))
      ]
      go (SweepsOn kept next) from (inr a) = back (from r (inr a))
      go (Swept kept gone) from (inl a) = elim (in_both r now.named kept a) [
        | inl c ↦ inl c
        | inr c ↦ back (from r (inl c))
      ]
      go (Swept kept gone) from (inr a) = elim a [ inl c ↦ absurd c | inr c ↦ absurd c ]

  module _ (u : Update) (rows : ℕ) (stood : now.stand ≡ S.Goes u (S.Sweeps rows)) where
    quiet : look_of now.stand ≡ H.NoLook
    quiet = ap look_of stood

    -- by the sweep and what it finds
    swept_by : (sweep : Sweep) → now.sweep ≡ Some sweep → (store : W.Store) (hf : ℕ → H.Hold) (sf : ℕ → H.Sweep)
        (holds : HoldsOf plan (record s { hold = hf; sweep = sf })) →
        ((b : ℕ) → row_in (store.bucket b) ≡ word_in x b) →
        ((q : ℕ) → hold_of (store.hold q) ≡ hf q) → ((q : ℕ) → store.want q ≡ x.store.want q) →
        ((q : ℕ) → q ≢ p → sf q ≡ s.sweep q) → (found : ℕ) →
        Arrives plan (record s { hold = hf; sweep = sf }) p inside holds quiet (sweep_fate (ample plan) p sweep found) →
        (answers : List Answer) →
        (let f = sweep_fate (ample plan) p sweep found in
        Ties plan x tied (ticked (with_seat x p store (seat_after (swept now f) u
        (piece_fate now.free rows f)) answers)))
    swept_by sweep e store hf sf holds bucket hold want else_ found arrives_at answers =
        let f = sweep_fate (ample plan) p sweep found in
        let next = piece_fate now.free rows f in
        let none = piece_on now.free rows f in
        sweeps_to plan x pools tied p inside store (seat_after
        (swept now f) u next) answers hf sf quiet holds bucket hold
        want else_ (after_time (swept now f) u next ∙ swept_time now f) (held_look (swept now f) u next none)
        (held_wants plan (store.want p) (swept now f) u next none) f arrives_at (after_free (swept now f) u next)
        (after_sweep (swept now f) u next)
        (λ r i. listed_swept sweep e f
        (from_fate plan p (λ k. In k (todo_of (Some sweep)) ⊎ In k (gone_of (Some sweep))) sweep found (λ k j. inl j)
        (λ k j. inr j)) r (after_listed plan (swept now f) u next r i))

    left_of : (sweep : Sweep) → now.sweep ≡ Some sweep → H.Sweeps bs n o s p (sweep_of (Some sweep))
    left_of sweep e = subst (H.Sweeps bs n o s p) (ap sweep_of e) (tied.holds.sweeps p)

    -- where nothing is exchanged
    by_load : (sweep : Sweep) → (e : now.sweep ≡ Some sweep) → (found : ℕ) →
        IsSeen plan s p inside tied.holds quiet sweep found → (answers : List Answer) →
        (let f = sweep_fate (ample plan) p sweep found in
        Ties plan x tied (ticked (with_seat x p x.store (seat_after (swept now f) u
        (piece_fate now.free rows f)) answers)))
    by_load sweep e found seen answers =
        swept_by sweep e x.store s.hold s.sweep tied.holds (λ b. refl) (λ q. refl) (λ q. refl) (λ q m. refl) found
        (arrives plan s p inside tied.holds quiet sweep found (left_of sweep e) seen) answers

    listed_todo : (r : ℕ × ℕ) (todo gone : List (ℕ × ℕ)) → now.sweep ≡ Some (S.Homes (r ∷ todo) gone) →
        Listed plan r now
    listed_todo r todo gone e =
        inr (inl (subst (λ (w : Option Sweep). In r (todo_of w)) (sym e) (inl refl)))

    sweep_by : (sweep : Option Sweep) → now.sweep ≡ sweep → (answers : List Answer) →
        (let found = found_by (sweep_deed sweep) x.store in
        let f = sweep_fate_of (ample plan) p sweep found in
        Ties plan x tied (ticked (with_seat x p (store_after (sweep_deed sweep) x.store)
        (seat_after (swept now f) u (piece_fate now.free rows f)) answers)))
    sweep_by None e answers =
        let f = Swept [] [] in
        let next = piece_fate now.free rows f in
        let none = piece_on now.free rows f in
        quietly plan x pools tied p inside x.store (seat_after (swept now f) u next) answers
        (record {
          bucket = λ b. refl;
          free = after_free (swept now f) u next ∙ append-nil now.free;
          listed = λ r i. listed_none r (after_listed plan (swept now f) u next r i);
        }) (λ q. refl) (λ q. refl) (after_time (swept now f) u next) (held_look (swept now f) u next none ∙ sym quiet)
        (ap sweep_of (after_sweep (swept now f) u next ∙ sym e))
        (held_wants plan (x.store.want p) (swept now f) u next none)
      where
        listed_none : (r : ℕ × ℕ) → Listed plan r (swept now (Swept [] [])) → Listed plan r now
        listed_none r i = elim i [
          | inl a ↦ inl (subst (λ (ns : List (ℕ × ℕ)). In r ns) (append-nil now.named) a)
          | inr a ↦ elim a [ inl c ↦ absurd c | inr c ↦ absurd c ]
        ]
    sweep_by (Some (S.Homes [] gone)) e answers = by_load (S.Homes [] gone) e 0 tt answers
    sweep_by (Some (S.Homes (r ∷ todo) gone)) e answers =
        let listed = listed_todo r todo gone e in
        let own = listed_owned plan x pools tied p inside p inside r listed in
        by_load (S.Homes (r ∷ todo) gone) e (x.store.bucket (r.1)) (
          own,
          ap (λ q. among (seat_in x q).free (r.0)) own ∙ listed_live plan x pools tied p inside r listed,
          tied.homes p r inside listed,
          refl,
        ) answers
    sweep_by (Some (S.Seats k gone)) e answers = by_load (S.Seats k gone) e (x.store.hold k) refl answers
    sweep_by (Some (S.Sees k t gone)) e answers = by_load (S.Sees k t gone) e (x.store.want k) refl answers
    sweep_by (Some (S.Loads k t bucket gone)) e answers =
        by_load (S.Loads k t bucket gone) e (x.store.bucket bucket) refl answers
    sweep_by (Some (S.Gives k t row gone)) e answers = go (x.store.hold k == asking t) refl
      where
        found : ℕ
        found = x.store.hold k

        f : SweepFate
        f = sweep_fate (ample plan) p (S.Gives k t row gone) found

        go : (c : Bool) → (x.store.hold k == asking t) ≡ c → Ties plan x tied (ticked (with_seat x p
            (cond c (with_word x.store (W.Hold k) (holding row)) x.store)
            (seat_after (swept now f) u (piece_fate now.free rows f)) answers))
        go false not_it =
            by_load (S.Gives k t row gone) e found (refl, eqb-false (x.store.hold k) (asking t) not_it) answers
        go true it =
            let left = among (rows_of gone) in
            let asks : s.hold k ≡ H.Asking t =
            ap hold_of (eqb-true (x.store.hold k) (asking t) it) ∙ hold_asks (asking t) (asking_asks t)
            ∙ ap H.Asking (time_of_asking t) in
            let holds = HS.gave_keeps bs n o s tied.holds p k t row left (ap sweep_of e) asks in
            let base = HS.gave bs n o s p k row left in
            let at : H.Sweeps bs n o base p (H.Seats (k + 1) left) =
            subst (H.Sweeps bs n o base p) (put_same s.sweep p (H.Seats (k + 1) left)) (holds.sweeps p) in
            let is_one : is_asking found ≡ true =
            ap is_asking (eqb-true (x.store.hold k) (asking t) it) ∙ asking_asks t in
            swept_by (S.Gives k t row gone) e (with_word x.store (W.Hold k) (holding row))
            (put s.hold k (H.Holding row)) (put s.sweep p (H.Seats (k + 1) left)) holds (λ b. refl) hold_then
            (λ q. refl) (λ q m. put_other s.sweep p (H.Seats (k + 1) left) q m) found
            (subst (λ (c : Bool). Arrives plan base p inside holds quiet
            (cond c (seats_from (ample plan) p (k + 1) [] gone)
            (past_hold (ample plan) p k gone found))) (sym is_one)
            (from_seat plan base p inside holds quiet [] gone (k + 1) at)) answers
          where
            hold_then : (q : ℕ) → hold_of (put x.store.hold k (holding row) q) ≡ put s.hold k (H.Holding row) q
            hold_then q = elim (cases_eq q k) [
              | inl z ↦
                  ap hold_of (ap (put x.store.hold k (holding row)) z ∙ put_same x.store.hold k (holding row))
                  ∙ hold_has (holding row) (holding_some row) (holding_asks_not row) ∙ ap H.Holding (row_of_holding row)
                  ∙ sym (ap (put s.hold k (H.Holding row)) z ∙ put_same s.hold k (H.Holding row))
              | inr m ↦
                  ap hold_of (put_other x.store.hold k (holding row) q m) ∙ sym (put_other s.hold k (H.Holding row) q m)
            ]

    pub sweep_step : Ties plan x tied (ticked (goes plan x p now u (S.Sweeps rows)))
    sweep_step =
        let f = sweep_fate_of (ample plan) p now.sweep (found_by (sweep_deed now.sweep) x.store) in
        sweep_by now.sweep refl (answers_after x p u.call (stepped now.course) (piece_fate now.free rows f))
