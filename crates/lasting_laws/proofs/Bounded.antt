-- Each call of a seat is answered within its bound.
use Rattle.std.proofs.Common.{◌≡◌, ℕ, ◌+◌, ◌-◌, ◌<◌, ◌≤◌, inl, inr, Bool, true, false, cond, List, [], ◌∷◌, length, Option, Some, None, refl, sym, ap, ◌∙◌, subst, arith, get_or-set_same, get_or-set_other, lt-ltb}
use Rattle.std.specs.Prelude.{◌==◌, All, fold}
use Rattle.std.proofs.lemmas.Bool.{cases_eq}
use Rattle.std.proofs.lemmas.List.Elements.{All-nil, All-cons, All-append}
use Rattle.plain_map.specs.declared.calls.Call.{Call}
use Rattle.plain_map.specs.declared.calls.Call.TheVariants.{Insert, Remove, Lookup, Tally, Count, Put}
use Rattle.bucket_states.specs.declared.ops.Op.{Op}
use Rattle.lasting_model.specs.Plans.{Plan, IsPlan, PIECE, ample}
use Rattle.lasting_model.specs.Bounds.{update_bound, look_bound}
use Rattle.lasting_model.specs.Words as W
use Rattle.lasting_model.specs.Laws.{IsWithin, call_bound, StepsAreBounded}
use Rattle.lasting_model.specs.Steps as S
use Rattle.lasting_model.specs.Steps.{Step, Stand, Sweep, SeatNow, ReaderNow, Peeking, Update, Try, Course, Aim, OfKey, OfBucket, Glance, deed_of, glance_deed, sweep_deed, made, bucket_of_update}
use Rattle.lasting_model.specs.Goes.{SweepFate, SweepsOn, Swept, sweep_fate_of, swept, sweep_begins, Fate, On, Ends, Refuses, with_free, first_fate, piece_fate, reply_by, lost, fate, with_published, GlanceFate, Looks, Shows, Disturbed, glance_fate, Asked, Called, Told, Replied, Again, Refused, asked_by_aim, told_by_items}
use Rattle.lasting_model.specs.Worlds.{Lasting, Answer, Asker, BySeat, ByReader, Event, OfSeat, OfReader, IsEvent, AreEvents, What, Begin, Copy, Step_on, Peek, Open, Peek_on, LOOK_TRIES, seat_in, with_seat, ticked, found_by, store_after, seat_after, answers_after, with_answer, stepped, goes, glances, look_after, look_answers, peek_answers, stand_at, next_update, course_from, update_begins, look_begins, call_begins, goes_on, act, peeks_on, peek_acts, happens, nobody, opening_world, IsFlying, Fits, IsPeeking, PeekFits, IsRun, world_after}
use Rattle.lasting_laws.proofs.Pools.{Pools, Room, word_in}
use Rattle.lasting_laws.proofs.PoolSteps.{IsOther}
use Rattle.lasting_laws.proofs.PoolEvents.{pools_keep}
use Rattle.lasting_laws.proofs.PoolsOpen.{pools_open, seat_is}
use Rattle.lasting_laws.proofs.StepBounds.{left, Fine, Next, fates, sweeps_low, AtSeat, look_left, FineLook, NextLook, looks}

-- a call that is no lookup
abbrev IsChange : Call → Type 0
IsChange (Lookup key) = ⊥
IsChange call = Unit {0}

-- who asked, as a number
abbrev asker : Asker → ℕ
asker (BySeat seat) = 0
asker (ByReader reader) = 1

-- whether there is no further step
abbrev stuck_code : Step → ℕ
stuck_code S.Stuck = 1
stuck_code step = 0

module _ (plan : Plan) where
  abbrev bound : ℕ
  bound = update_bound plan.settings

  abbrev looks_bound : ℕ
  looks_bound = look_bound plan.settings

  -- the bound of a change is that of an update
  change_bound : (call : Call) → IsChange call → call_bound plan.settings (Called call) ≡ bound
  change_bound (Insert key value) is = refl
  change_bound (Remove key) is = refl
  change_bound (Lookup key) is = absurd is
  change_bound (Tally key amount) is = refl
  change_bound (Count key value amount) is = refl
  change_bound (Put key value) is = refl

  aim_bound : (aim : Aim) → call_bound plan.settings (asked_by_aim aim) ≡ looks_bound
  aim_bound (OfKey key) = refl
  aim_bound (OfBucket bucket) = refl

  module _ (p : ℕ) (inside : p < plan.settings.seats) where
    -- the steps that were taken, and those that are left, are within the bound
    abbrev OnTime : Option Sweep → Stand → (steps : ℕ) → Type 0
    OnTime sweep S.Idle steps = Unit {0}
    OnTime sweep (S.Goes u step) steps =
        IsChange u.call × Fine plan p inside step
        × (stuck_code step ≡ 0 → steps + left plan p inside sweep step ≤ bound)
    OnTime sweep (S.Glances aim glance) steps =
        FineLook plan p inside glance × (steps + look_left plan p inside glance ≤ looks_bound)

  pub record Bounded (x : Lasting) : Type 0 where
    pub pools : Pools plan x
    pub seats : (p : ℕ) (inside : p < plan.settings.seats) →
        OnTime p inside (seat_in x p).sweep (seat_in x p).stand (seat_in x p).course.steps
    pub within : All (IsWithin plan.settings) x.answers

  -- how far a seat has come
  abbrev pub HasCome : (p : ℕ) → p < plan.settings.seats → Stand → Type 0
  HasCome p inside S.Idle = Unit {0}
  HasCome p inside (S.Goes u step) = Fine plan p inside step
  HasCome p inside (S.Glances aim glance) = FineLook plan p inside glance

  come_by : (p : ℕ) (inside : p < plan.settings.seats) (sweep : Option Sweep) (stand : Stand) (steps : ℕ) →
      OnTime p inside sweep stand steps → HasCome p inside stand
  come_by p inside sweep S.Idle steps k = tt
  come_by p inside sweep (S.Goes u step) steps k = k.1
  come_by p inside sweep (S.Glances aim glance) steps k = k.0

  pub has_come : (x : Lasting) → Bounded x → (p : ℕ) (inside : p < plan.settings.seats) →
      HasCome p inside (seat_in x p).stand
  has_come x h p inside =
      come_by p inside (seat_in x p).sweep (seat_in x p).stand (seat_in x p).course.steps (h.seats p inside)

  -- one answer more, within its bound
  one_within : (x : Lasting) (by : Asker) (asked : Asked) (told : Told) (course : Course) →
      All (IsWithin plan.settings) x.answers → (asker by ≡ 0 → course.steps ≤ call_bound plan.settings asked) →
      All (IsWithin plan.settings) (with_answer x by asked told course)
  one_within x by asked told course all this =
      let a : Answer = record {
        by = by;
        asked = asked;
        told = told;
        began = course.began;
        ended = x.clock + 1;
        steps = course.steps;
      } in
      All-append (IsWithin plan.settings) x.answers (a ∷ []) all
      (All-cons (IsWithin plan.settings) a [] (λ seat e. this (ap asker e)) (All-nil (IsWithin plan.settings)))

  module _ (is_plan : IsPlan plan) (x : Lasting) (h : Bounded x) where
    module _ (p : ℕ) (inside : p < plan.settings.seats) where
      abbrev now : SeatNow
      now = seat_in x p

      long : p < length x.seats
      long = omega (arith, inside, h.pools.long)

      -- a seat is another then
      another : (store : W.Store) (then : SeatNow) (answers : List Answer) →
          Pools plan (ticked (with_seat x p store then answers)) →
          OnTime p inside then.sweep then.stand then.course.steps → All (IsWithin plan.settings) answers →
          Bounded (ticked (with_seat x p store then answers))
      another store then answers pools time within =
          let y = ticked (with_seat x p store then answers) in
          record {
            pools = pools;
            seats = λ q less. elim (cases_eq q p) [
              | inl e ↦ at q less e then (ap (seat_in y) e ∙ get_or-set_same x.seats p then nobody long) time
              | inr n ↦ subst (λ (s : SeatNow). OnTime q less s.sweep s.stand s.course.steps)
                  (sym (get_or-set_other x.seats p q then nobody n)) (h.seats q less)
            ];
            within = within;
          }
        where
          at : (q : ℕ) (less : q < plan.settings.seats) → q ≡ p → (s : SeatNow) →
              seat_in (ticked (with_seat x p store then answers)) q ≡ s →
              OnTime p inside s.sweep s.stand s.course.steps →
              OnTime q less (seat_in (ticked (with_seat x p store then answers)) q).sweep
              (seat_in (ticked (with_seat x p store then answers)) q).stand
              (seat_in (ticked (with_seat x p store then answers)) q).course.steps
          at q less e s is time_s =
              subst (λ (t : SeatNow). OnTime q less t.sweep t.stand t.course.steps) (sym is)
              (moved q p e less inside s.sweep s.stand s.course.steps time_s)
            where
              moved : (i j : ℕ) → i ≡ j → (a : i < plan.settings.seats) (b : j < plan.settings.seats)
                  (sweep : Option Sweep) (stand : Stand) (steps : ℕ) → OnTime j b sweep stand steps →
                  OnTime i a sweep stand steps
              moved i j same a b sweep S.Idle steps t = t
              moved i j same a b sweep (S.Goes u step) steps t =
                  subst (λ k. (c : k < plan.settings.seats) → OnTime k c sweep (S.Goes u step) steps) (sym same)
                  (λ c. t) a
              moved i j same a b sweep (S.Glances aim glance) steps t =
                  subst (λ k. (c : k < plan.settings.seats) → OnTime k c sweep (S.Glances aim glance) steps) (sym same)
                  (λ c. t) a

      -- ---- an update

      -- after a step that leaves fewer
      goes_by : (own : SeatNow) (u : Update) (next : Fate) (steps l : ℕ) → own.course.steps ≡ steps → IsChange u.call →
          steps + l ≤ bound → Next plan p inside own.sweep l next →
          OnTime p inside (seat_after own u next).sweep (seat_after own u next).stand
          (seat_after own u next).course.steps
      goes_by own u (On step) steps l e change enough n = (change, n.0, λ live. omega (arith, e, enough, n.1))
      goes_by own u (Ends reply) steps l e change enough n = tt
      goes_by own u Refuses steps l e change enough n = tt

      answers_by : (sweep : Option Sweep) (u : Update) (next : Fate) (l : ℕ) → IsChange u.call →
          now.course.steps + l ≤ bound → Next plan p inside sweep l next →
          All (IsWithin plan.settings) (answers_after x p u.call (stepped now.course) next)
      answers_by sweep u (On step) l change enough n = h.within
      answers_by sweep u (Ends reply) l change enough n =
          one_within x (BySeat p) (Called u.call) (Replied reply) (stepped now.course) h.within
          (λ e. omega (arith, enough, n, change_bound u.call change))
      answers_by sweep u Refuses l change enough n =
          one_within x (BySeat p) (Called u.call) Refused (stepped now.course) h.within
          (λ e. omega (arith, enough, n, change_bound u.call change))

      time_at : (u : Update) (step : Step) → now.stand ≡ S.Goes u step →
          OnTime p inside now.sweep (S.Goes u step) now.course.steps
      time_at u step stood =
          subst (λ (s : Stand). OnTime p inside now.sweep s now.course.steps) stood (h.seats p inside)

      -- where there is no further step it stays so
      stays_stuck : (u : Update) → now.stand ≡ S.Goes u S.Stuck → Pools plan (ticked (goes plan x p now u S.Stuck)) →
          Bounded (ticked (goes plan x p now u S.Stuck))
      stays_stuck u stood pools =
          another x.store (seat_after now u (On S.Stuck)) x.answers pools
          ((time_at u S.Stuck stood).0, tt, λ live. absurd (omega (arith, live))) h.within

      -- a step that leaves what the seat has for its sweep
      steps_on : (own : SeatNow) (u : Update) (step : Step) (next : Fate) (store : W.Store) → now.stand
          ≡ S.Goes u step →
          stuck_code step ≡ 0 → own.sweep ≡ now.sweep → own.course ≡ now.course →
          Next plan p inside now.sweep (left plan p inside now.sweep step) next →
          Pools plan (ticked (with_seat x p store (seat_after own u next)
          (answers_after x p u.call (stepped now.course) next))) →
          Bounded (ticked (with_seat x p store (seat_after own u next)
          (answers_after x p u.call (stepped now.course) next)))
      steps_on own u step next store stood live same course n pools =
          let t = time_at u step stood in
          let l = left plan p inside now.sweep step in
          another store (seat_after own u next) (answers_after x p u.call (stepped now.course) next) pools
          (goes_by own u next now.course.steps l (ap (λ c. c.steps) course) t.0 (t.2 live)
          (subst (λ (s : Option Sweep). Next plan p inside s l next) (sym same) n))
          (answers_by now.sweep u next l t.0 (t.2 live) n)

      plainly : (u : Update) (step : Step) → now.stand ≡ S.Goes u step → IsOther step → stuck_code step ≡ 0 →
          (step ≡ S.Stuck → ⊥) →
          (let next = fate (ample plan) p now u step (found_by (deed_of (ample plan) p now u step) x.store) in
          let store = store_after (deed_of (ample plan) p now u step) x.store in
          let y = ticked (with_seat x p store (seat_after now u next)
          (answers_after x p u.call (stepped now.course) next)) in
          Pools plan y → Bounded y)
      plainly u step stood other live not_stuck pools =
          let found = found_by (deed_of (ample plan) p now u step) x.store in
          steps_on now u step (fate (ample plan) p now u step found)
          (store_after (deed_of (ample plan) p now u step) x.store) stood live refl refl
          (fates plan p inside now u step found other (time_at u step stood).1 not_stuck) pools

      not_stuck_by : (step : Step) → stuck_code step ≡ 0 → step ≡ S.Stuck → ⊥
      not_stuck_by step live e = omega (arith, live, ap stuck_code e)

      same_course : (f : SweepFate) → (swept now f).course ≡ now.course
      same_course (SweepsOn kept sweep) = refl
      same_course (Swept kept gone) = refl

      -- where its sweep stands
      at_seat : (u : Update) (rows : ℕ) → now.stand ≡ S.Goes u (S.Sweeps rows) → (s : Sweep) → now.sweep ≡ Some s →
          AtSeat plan p inside s
      at_seat u rows stood s e =
          of_room s (subst (λ (w : Option Sweep). Room plan (word_in x) p now.named w (S.Goes u (S.Sweeps rows))) e
          (subst (λ (t : Stand). Room plan (word_in x) p now.named now.sweep t) stood (h.pools.seats p inside).room))
        where
          of_room : (w : Sweep) → Room plan (word_in x) p now.named (Some w) (S.Goes u (S.Sweeps rows)) →
              AtSeat plan p inside w
          of_room (S.Homes todo gone) r = tt
          of_room (S.Seats k gone) r = (r.0.1, r.0.2)
          of_room (S.Sees k t gone) r = tt
          of_room (S.Loads k t bucket gone) r = tt
          of_room (S.Gives k t own_row gone) r = tt

      sweep_step : (u : Update) (rows : ℕ) → now.stand ≡ S.Goes u (S.Sweeps rows) →
          Pools plan (ticked (goes plan x p now u (S.Sweeps rows))) →
          Bounded (ticked (goes plan x p now u (S.Sweeps rows)))
      sweep_step u rows stood pools =
          let t = time_at u (S.Sweeps rows) stood in
          let found = found_by (sweep_deed now.sweep) x.store in
          let f = sweep_fate_of (ample plan) p now.sweep found in
          let next = piece_fate now.free rows f in
          let l = left plan p inside now.sweep (S.Sweeps rows) in
          let n = sweeps_low plan p inside now rows found t.1 now.sweep refl (at_seat u rows stood) in
          another (store_after (sweep_deed now.sweep) x.store) (seat_after (swept now f) u next)
          (answers_after x p u.call (stepped now.course) next) pools
          (goes_by (swept now f) u next now.course.steps l (ap (λ c. c.steps) (same_course f)) t.0 (t.2 refl) n)
          (answers_by (swept now f).sweep u next l t.0 (t.2 refl) n)

      exchange_step : (u : Update) (attempt : Try) (found : List (Option Op)) →
          now.stand ≡ S.Goes u (S.Exchange attempt found) →
          Pools plan (ticked (goes plan x p now u (S.Exchange attempt found))) →
          Bounded (ticked (goes plan x p now u (S.Exchange attempt found)))
      exchange_step u attempt found stood pools =
          go (word == attempt.word)
          (fates plan p inside now u (S.Exchange attempt found) word tt tt
          (not_stuck_by (S.Exchange attempt found) refl)) pools
        where
          word : ℕ
          word = x.store.bucket (bucket_of_update (ample plan) u)

          reply : Fate
          reply = reply_by p (made (ample plan) attempt found)

          store : W.Store
          store = store_after (deed_of (ample plan) p now u (S.Exchange attempt found)) x.store

          go : (c : Bool) →
              Next plan p inside now.sweep (left plan p inside now.sweep (S.Exchange attempt found))
              (cond c reply (lost attempt.turn)) →
              (let y = ticked (with_seat x p store
              (seat_after (cond c (with_published now (bucket_of_update (ample plan) u)) now) u
              (cond c reply (lost attempt.turn)))
              (answers_after x p u.call (stepped now.course) (cond c reply (lost attempt.turn)))) in
              Pools plan y → Bounded y)
          go true n keeps = steps_on (with_published now (bucket_of_update (ample plan) u)) u
              (S.Exchange attempt found) reply
              store stood refl refl refl n keeps
          go false n keeps = steps_on now u (S.Exchange attempt found)
              (lost attempt.turn) store stood refl refl refl n keeps

      update_step : (u : Update) (step : Step) → now.stand ≡ S.Goes u step → Pools plan
          (ticked (goes plan x p now u step)) →
          Bounded (ticked (goes plan x p now u step))
      update_step u (S.Sweeps rows) stood k = sweep_step u rows stood k
      update_step u (S.Exchange attempt found) stood k = exchange_step u attempt found stood k
      update_step u S.StoreAsking stood k =
          steps_on (record now { time = now.time + 1 }) u S.StoreAsking (On S.HeldWord)
          (store_after (deed_of (ample plan) p now u S.StoreAsking) x.store) stood refl refl refl
          (fates plan p inside now u S.StoreAsking 0 tt tt (not_stuck_by S.StoreAsking refl)) k
      update_step u (S.StoreOp i) stood k = plainly u (S.StoreOp i) stood tt refl (not_stuck_by (S.StoreOp i) refl) k
      update_step u S.Announce stood k = plainly u S.Announce stood tt refl (not_stuck_by S.Announce refl) k
      update_step u (S.LoadWord turn) stood k =
          plainly u (S.LoadWord turn) stood tt refl (not_stuck_by (S.LoadWord turn) refl) k
      update_step u (S.LoadRow turn word words) stood k =
          plainly u (S.LoadRow turn word words) stood tt refl (not_stuck_by (S.LoadRow turn word words) refl) k
      update_step u (S.CheckRow turn word words) stood k =
          plainly u (S.CheckRow turn word words) stood tt refl (not_stuck_by (S.CheckRow turn word words) refl) k
      update_step u (S.LoadAnnounced attempt found) stood k =
          plainly u (S.LoadAnnounced attempt found) stood tt refl (not_stuck_by (S.LoadAnnounced attempt found) refl) k
      update_step u (S.LoadOp attempt found announced words) stood k =
          plainly u (S.LoadOp attempt found announced words) stood tt refl
          (not_stuck_by (S.LoadOp attempt found announced words) refl) k
      update_step u (S.StoreRow attempt found i) stood k =
          plainly u (S.StoreRow attempt found i) stood tt refl (not_stuck_by (S.StoreRow attempt found i) refl) k
      update_step u S.StoreWant stood k = plainly u S.StoreWant stood tt refl (not_stuck_by S.StoreWant refl) k
      update_step u S.HeldWord stood k = plainly u S.HeldWord stood tt refl (not_stuck_by S.HeldWord refl) k
      update_step u (S.TakeHold word) stood k =
          plainly u (S.TakeHold word) stood tt refl (not_stuck_by (S.TakeHold word) refl) k
      update_step u (S.HeldNumber held) stood k =
          plainly u (S.HeldNumber held) stood tt refl (not_stuck_by (S.HeldNumber held) refl) k
      update_step u (S.HeldReply held) stood k =
          plainly u (S.HeldReply held) stood tt refl (not_stuck_by (S.HeldReply held) refl) k
      update_step u S.Stuck stood k = stays_stuck u stood k

      -- ---- looks

      look_step : (aim : Aim) (glance : Glance) → now.stand ≡ S.Glances aim glance →
          Pools plan (ticked (glances plan x p now aim glance)) → Bounded (ticked (glances plan x p now aim glance))
      look_step aim glance stood pools =
          another (store_after deed x.store) (look_after now aim glance next)
          (look_answers (ample plan) x p aim (stepped now.course) next) pools (after next n) (told next n)
        where
          deed : S.Deed
          deed = glance_deed (ample plan) p now.time aim glance

          next : GlanceFate
          next = glance_fate (ample plan) now.time aim glance (found_by deed x.store)

          time : FineLook plan p inside glance × (now.course.steps + look_left plan p inside glance ≤ looks_bound)
          time = subst (λ (s : Stand). OnTime p inside now.sweep s now.course.steps) stood (h.seats p inside)

          n : NextLook plan p inside (look_left plan p inside glance) next
          n = looks plan p inside now.time aim glance (found_by deed x.store) time.0

          after : (f : GlanceFate) → NextLook plan p inside (look_left plan p inside glance) f →
              OnTime p inside (look_after now aim glance f).sweep (look_after now aim glance f).stand
              (look_after now aim glance f).course.steps
          after (Looks on) m = (m.0, omega (arith, time.1, m.1))
          after (Shows items) m = tt
          after Disturbed m = (tt, omega (arith, time.1, m))

          told : (f : GlanceFate) → NextLook plan p inside (look_left plan p inside glance) f →
              All (IsWithin plan.settings) (look_answers (ample plan) x p aim (stepped now.course) f)
          told (Looks on) m = h.within
          told (Shows items) m =
              one_within x (BySeat p) (asked_by_aim aim) (told_by_items (ample plan) aim items)
              (stepped now.course) h.within
              (λ e. omega (arith, time.1, m, aim_bound aim))
          told Disturbed m = h.within

      -- ---- begins

      look_first : (aim : Aim) → Pools plan (ticked (look_begins x p now aim)) →
          Bounded (ticked (look_begins x p now aim))
      look_first aim pools =
          another x.store (record now {
            stand = S.Glances aim
                (S.GlanceWord (LOOK_TRIES - 1));
            course = course_from x.clock;
          })
          x.answers pools (tt, omega arith) h.within

      -- the first step of an update
      abbrev First : Option Sweep → Fate → Type 0
      First sweep (On step) = Fine plan p inside step × (left plan p inside sweep step ≤ bound)
      First sweep (Ends reply) = Unit {0}
      First sweep Refuses = Unit {0}

      with_one : (sweep : Option Sweep) (free : List ℕ) → First sweep (with_free free)
      with_one sweep [] = tt
      with_one sweep (r ∷ free) = (omega arith, omega arith)

      first : (named : List (ℕ × ℕ)) (sweep : Option Sweep) → now.sweep ≡ sweep → now.stand ≡ S.Idle →
          (let taken = sweep_begins named sweep now in First taken.sweep (first_fate now.free taken.sweep))
      first named (Some sweep) e stood =
          subst (λ (s : Option Sweep). First s (first_fate now.free s)) (sym e)
          (goes_first sweep (subst (λ (w : Option Sweep). Room plan (word_in x) p now.named w S.Idle) e
          (subst (λ (t : Stand). Room plan (word_in x) p now.named now.sweep t) stood (h.pools.seats p inside).room)))
        where
          goes_first : (w : Sweep) → Room plan (word_in x) p now.named (Some w) S.Idle →
              First (Some w) (On (S.Sweeps PIECE))
          goes_first (S.Homes todo gone) r = (omega arith, omega arith)
          goes_first (S.Seats k gone) r = absurd r.1
          goes_first (S.Sees k t gone) r = absurd r.1
          goes_first (S.Loads k t bucket gone) r = absurd r.1
          goes_first (S.Gives k t own_row gone) r = absurd r.1
      first [] None e stood =
          subst (λ (s : Option Sweep). First s (first_fate now.free s)) (sym e) (with_one None now.free)
      first (r ∷ named) None e stood = (omega arith, omega arith)

      update_first : (call : Call) → IsChange call → now.stand ≡ S.Idle → Pools plan
          (ticked (update_begins x p now call)) →
          Bounded (ticked (update_begins x p now call))
      update_first call change stood pools =
          another x.store (record taken { stand = stand_at u next; course = course_from x.clock })
          (answers_after x p call (course_from x.clock) next) pools (time next f) (told next)
        where
          u : Update
          u = next_update now call

          taken : SeatNow
          taken = sweep_begins now.named now.sweep now

          next : Fate
          next = first_fate now.free taken.sweep

          f : First taken.sweep next
          f = first now.named now.sweep refl stood

          time : (d : Fate) → First taken.sweep d → OnTime p inside taken.sweep (stand_at u d) 0
          time (On step) k = (change, k.0, λ live. omega (arith, k.1))
          time (Ends reply) k = tt
          time Refuses k = tt

          told : (d : Fate) → All (IsWithin plan.settings) (answers_after x p call (course_from x.clock) d)
          told (On step) = h.within
          told (Ends reply) =
              one_within x (BySeat p) (Called call) (Replied reply) (course_from x.clock) h.within (λ e. omega arith)
          told Refuses = one_within x (BySeat p) (Called call) Refused (course_from x.clock) h.within (λ e. omega arith)

      call_first : (call : Call) → now.stand ≡ S.Idle → Pools plan (ticked (call_begins x p now call)) →
          Bounded (ticked (call_begins x p now call))
      call_first (Lookup key) stood k = look_first (OfKey key) k
      call_first (Insert key value) stood k = update_first (Insert key value) tt stood k
      call_first (Remove key) stood k = update_first (Remove key) tt stood k
      call_first (Tally key amount) stood k = update_first (Tally key amount) tt stood k
      call_first (Count key value amount) stood k = update_first (Count key value amount) tt stood k
      call_first (Put key value) stood k = update_first (Put key value) tt stood k

      seat_goes : (stand : Stand) → now.stand ≡ stand → IsFlying stand → Pools plan
          (ticked (goes_on plan x p now stand)) →
          Bounded (ticked (goes_on plan x p now stand))
      seat_goes S.Idle e flies k = absurd flies
      seat_goes (S.Goes u step) e flies k = update_step u step e k
      seat_goes (S.Glances aim glance) e flies k = look_step aim glance e k

      seat_acts : (what : What) → Fits plan now what → Pools plan (ticked (act plan x p now what)) →
          Bounded (ticked (act plan x p now what))
      seat_acts (Begin call) fits k = call_first call fits.0 k
      seat_acts (Copy bucket) fits k = look_first (OfBucket bucket) k
      seat_acts Step_on fits k = seat_goes now.stand refl fits k

    -- ---- readers

    peek_told : (r : ℕ) (aim : Aim) (course : Course) (next : GlanceFate) →
        All (IsWithin plan.settings) (peek_answers (ample plan) x r aim course next)
    peek_told r aim course (Looks glance) = h.within
    peek_told r aim course (Shows items) =
        one_within x (ByReader r) (asked_by_aim aim) (told_by_items (ample plan) aim items) course h.within
        (λ e. absurd (omega (arith, e)))
    peek_told r aim course Disturbed =
        one_within x (ByReader r) (asked_by_aim aim) Again course h.within (λ e. absurd (omega (arith, e)))

    reader_goes : (r : ℕ) (stand : Peeking) → IsPeeking stand →
        Pools plan (ticked (peeks_on plan x r (x.readers r) stand)) →
        Bounded (ticked (peeks_on plan x r (x.readers r) stand))
    reader_goes r S.Rests flies k = absurd flies
    reader_goes r (S.Peeks aim glance) flies k =
        let deed = glance_deed (ample plan) 0 0 aim glance in
        let next = glance_fate (ample plan) 0 aim glance (found_by deed x.store) in
        record { pools = k; seats = h.seats; within = peek_told r aim (stepped (x.readers r).course) next }

    reader_acts : (r : ℕ) (peek : Peek) → PeekFits plan (x.readers r) peek →
        Pools plan (ticked (peek_acts plan x r (x.readers r) peek)) →
        Bounded (ticked (peek_acts plan x r (x.readers r) peek))
    reader_acts r (Open aim tries) fits k = record { pools = k; seats = h.seats; within = h.within }
    reader_acts r Peek_on fits k = reader_goes r (x.readers r).stand fits k

    -- each event
    pub bounds_keep : (event : Event) → IsEvent plan x event → Bounded (happens plan x event)
    bounds_keep (OfSeat p what) fits =
        let keeps = pools_keep plan is_plan x h.pools (OfSeat p what) fits in
        let test = lt-ltb p plan.settings.seats fits.0 in
        subst (λ (b : Bool). Bounded (cond b (ticked (act plan x p (seat_in x p) what)) x)) (sym test)
        (seat_acts p fits.0 what fits.1
        (subst (λ (b : Bool). Pools plan (cond b (ticked (act plan x p (seat_in x p) what)) x)) test keeps))
    bounds_keep (OfReader r peek) fits =
        reader_acts r peek fits (pools_keep plan is_plan x h.pools (OfReader r peek) fits)

  -- the opening, where all are idle
  bounds_open : IsPlan plan → Bounded (opening_world plan)
  bounds_open is = record {
    pools = pools_open plan is;
    seats = λ p less. subst (λ (s : SeatNow). OnTime p less s.sweep s.stand s.course.steps)
        (sym (seat_is plan is p less)) tt;
    within = All-nil (IsWithin plan.settings);
  }

  bounds_follow : IsPlan plan → (events : List Event) (x : Lasting) → Bounded x → AreEvents plan x events →
      Bounded (fold (happens plan) x events)
  bounds_follow is [] x h follow = h
  bounds_follow is (event ∷ events) x h follow =
      bounds_follow is events (happens plan x event) (bounds_keep is x h event follow.0) follow.1

-- so it is in each run
pub bounds_hold : (plan : Plan) (events : List Event) → IsRun plan events → Bounded plan (world_after plan events)
bounds_hold plan events run =
    bounds_follow plan run.opened events (opening_world plan) (bounds_open plan run.opened) run.follow

-- THE RESULT
pub steps_are_bounded : StepsAreBounded
steps_are_bounded plan events run = (bounds_hold plan events run).within
