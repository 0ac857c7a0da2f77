-- One event of a party in a run: it may come, it leads to where the calls lead, and it takes its word of the table.
use Rattle.std.proofs.Common.{◌≡◌, ℕ, ◌+◌, ◌-◌, ◌<◌, ◌≤◌, List, [], ◌∷◌, ◌++◌, length, refl, sym, ap, ◌∙◌, subst, arith, get_or-set_same}
use Rattle.word_rows.proofs.MemoryLemmas.{put_same}
use Rattle.plain_map.specs.declared.calls.Call.{Call}
use Rattle.plain_map.specs.declared.calls.Call.TheVariants.{Insert, Remove, Lookup, Tally, Count, Put}
use Rattle.exchange_model.specs.Plans.{Plan, holders_of}
use Rattle.exchange_model.specs.Words as W
use Rattle.exchange_model.specs.Steps as S
use Rattle.exchange_model.specs.Steps.{MadeBySeat, Step, Stand, SeatNow, Aim, OfKey, OfBucket, Glance, Course, Peeking, ReaderNow, Deed, deed_of, glance_deed}
use Rattle.exchange_model.specs.Goes.{Fate, On, Ends, Spends, Refuses, fate, own_after, first_fate, scan_begins, GlanceFate, Looks, Shows, Disturbed, glance_fate, Asked, Called, Copied, Told, Again, Spent, Refused, Replied, asked_by_aim, told_by_items}
use Rattle.exchange_model.specs.Worlds.{World, Answer, Asker, BySeat, ByReader, Event, OfSeat, OfReader, Begin, Copy, Step_on, Open, Peek_on, IsEvent, CanBegin, IsPeeking, IsRun, IsFlying, LOOK_TRIES, answers_after, call_begins, course_from, found_by, goes_on, happens, look_after, look_answers, look_begins, made_by_step, nobody, peek_acts, peek_after, peek_answers, peeks, peeks_on, seat_after, seat_in, stand_at, stepped, store_after, ticked, update_begins, with_answer, with_reader, with_seat, world_after}
use Rattle.exchange_model.specs.Laws.{IsLoadThere, IsOnTable, next_deed}
use Rattle.exchange_laws.proofs.NearSteps.{NearPeek, NearPeeking, NearStand}
use Rattle.exchange_laws.proofs.NearRuns.{all_known, peeks_are_on_table, steps_are_on_table}
use Rattle.exchange_calls.specs.Going.{IsOn, begun_look, begun_update, deed, deed_at, goes as goes_by_word, goes_at}
use Rattle.exchange_table.specs.Parties.{CanCall, IsAnswered, IsParty, Under, UnderIn, answers_by, as_seat, begin_of, begun, by_event, clean, going_in, party, stand_of, step_of}
use Rattle.exchange_table.proofs.Events.{look_begun, own_course, own_more, deed_clean, peek_begun, peek_goes, seat_happens, step_goes, step_store, update_begun}

-- a load leaves all words as they are
pub load_same : (plan : Plan) (d : Deed) (s : W.Store) → IsLoadThere plan d → store_after d s ≡ s
load_same plan S.Nothing s k = absurd k
load_same plan (S.Load from) s k = refl
load_same plan (S.Store to word) s k = absurd k
load_same plan (S.Swap at old new) s k = absurd k
load_same plan (S.Raise at) s k = absurd k
load_same plan (S.Lower at) s k = absurd k

-- and is on the table
load_on : (plan : Plan) (d : Deed) → IsLoadThere plan d → IsOn plan d
load_on plan S.Nothing k = absurd k
load_on plan (S.Load from) k = k
load_on plan (S.Store to word) k = absurd k
load_on plan (S.Swap at old new) k = absurd k
load_on plan (S.Raise at) k = absurd k
load_on plan (S.Lower at) k = absurd k

table_on : (plan : Plan) (d : Deed) → IsOnTable plan d → IsOn plan d
table_on plan S.Nothing k = k
table_on plan (S.Load from) k = k
table_on plan (S.Store to word) k = k.0
table_on plan (S.Swap at old new) k = k.0
table_on plan (S.Raise at) k = k
table_on plan (S.Lower at) k = k

-- whether a call is under way
abbrev pub stand_code : Stand → ℕ
stand_code S.Idle = 0
stand_code (S.Goes call step) = 1
stand_code (S.Glances aim glance) = 1

abbrev pub Flies : Stand → Type 0
Flies S.Idle = ⊥
Flies (S.Goes call step) = Unit {0}
Flies (S.Glances aim glance) = Unit {0}

-- ---- who is answered

-- a call is answered now
answered_now : (x : World) (who : Asker) (asked it : Asked) (told : Told) (course : Course) (start : ℕ)
    (had : List Answer) → asked ≡ it → start ≤ course.began → answers_by who x.answers ≡ had →
    IsAnswered who asked start had (with_answer x who it told course)
answered_now x who asked it told course start had is after kept =
    let answer : Answer = record {
      by = who;
      asked = it;
      told = told;
      began = course.began;
      ended = x.clock + 1;
      steps = course.steps;
    } in
    record {
      front = x.answers;
      answer = answer;
      is = refl;
      by = refl;
      asks = sym is;
      after = after;
      only = own_more who x.answers answer refl ∙ ap (λ (as_now : List Answer). as_now ++ answer ∷ []) kept;
    }

module _ (plan : Plan) (x : World) (q : ℕ) (long : q < length x.seats) (asked : Asked) (start : ℕ)
    (had : List Answer) where
  abbrev now : SeatNow
  now = seat_in x q

  abbrev UnderOf : SeatNow → List Answer → Type 0
  UnderOf then answers = Under (BySeat q) asked start had then then.stand answers

  under_there : (store : W.Store) (then : SeatNow) (answers : List Answer) (updates : List MadeBySeat) →
      UnderOf then answers → UnderIn (BySeat q) asked start had (ticked (with_seat x q store then answers updates))
  under_there store then answers updates k =
      subst (λ (s : SeatNow). UnderOf s answers) (sym (get_or-set_same x.seats q then nobody long)) k

  update_under : (own : SeatNow) (call : Call) (next : Fate) → own.course ≡ now.course → asked ≡ Called call →
      start ≤ now.course.began → answers_by (BySeat q) x.answers ≡ had →
      UnderOf (seat_after own call next) (answers_after x q call (stepped now.course) next)
  update_under own call (On step) same is after kept =
      (is, (let e = ap (λ (c : Course). c.began) same in omega (arith, e, after)), kept)
  update_under own call (Ends reply) same is after kept =
      answered_now x (BySeat q) asked (Called call) (Replied reply) (stepped now.course) start had is after kept
  update_under own call Spends same is after kept =
      answered_now x (BySeat q) asked (Called call) Spent (stepped now.course) start had is after kept
  update_under own call Refuses same is after kept =
      answered_now x (BySeat q) asked (Called call) Refused (stepped now.course) start had is after kept

  look_under : (aim : Aim) (was : Glance) (next : GlanceFate) → asked ≡ asked_by_aim aim → start ≤ now.course.began →
      answers_by (BySeat q) x.answers ≡ had →
      UnderOf (look_after now aim was next) (look_answers plan x q aim (stepped now.course) next)
  look_under aim was (Looks glance) is after kept = (is, after, kept)
  look_under aim was (Shows items) is after kept =
      answered_now x (BySeat q) asked (asked_by_aim aim) (told_by_items plan aim items) (stepped now.course)
      start had is after kept
  look_under aim was Disturbed is after kept = (is, after, kept)

  pub step_under : (stand : Stand) → IsFlying plan q stand → Under (BySeat q) asked start had now stand x.answers →
      UnderIn (BySeat q) asked start had (ticked (goes_on plan x q now stand))
  step_under S.Idle f k = absurd f
  step_under (S.Goes call step) f k =
      let word = found_by (deed_of plan q now call step) x.store in
      let own = own_after plan q now call step word in
      let next = fate plan q now call step word in
      under_there (store_after (deed_of plan q now call step) x.store) (seat_after own call next)
      (answers_after x q call (stepped now.course) next) (x.made ++ made_by_step plan q call step word)
      (update_under own call next (own_course plan q now call step word) k.0 k.1 k.2)
  step_under (S.Glances aim glance) f k =
      let d = glance_deed plan q now.time aim glance in
      let next = glance_fate plan now.time aim glance (found_by d x.store) in
      under_there (store_after d x.store) (look_after now aim glance next)
      (look_answers plan x q aim (stepped now.course) next) x.made (look_under aim glance next k.0 k.1 k.2)

  pub look_first : (aim : Aim) → asked ≡ asked_by_aim aim → start ≤ x.clock →
      answers_by (BySeat q) x.answers ≡ had → UnderIn (BySeat q) asked start had (ticked (look_begins x q now aim))
  look_first aim is after kept = under_there x.store
      (record now { stand = S.Glances aim (S.GlanceWord (LOOK_TRIES - 1)); course = course_from x.clock }) x.answers
      x.made
      (is, after, kept)

  first_under : (call : Call) (taken : SeatNow) (next : Fate) → asked ≡ Called call → start ≤ x.clock →
      answers_by (BySeat q) x.answers ≡ had →
      UnderOf (record taken { stand = stand_at call next; course = course_from x.clock })
      (answers_after x q call (course_from x.clock) next)
  first_under call taken (On step) is after kept = (is, after, kept)
  first_under call taken (Ends reply) is after kept =
      answered_now x (BySeat q) asked (Called call) (Replied reply) (course_from x.clock) start had is after kept
  first_under call taken Spends is after kept =
      answered_now x (BySeat q) asked (Called call) Spent (course_from x.clock) start had is after kept
  first_under call taken Refuses is after kept =
      answered_now x (BySeat q) asked (Called call) Refused (course_from x.clock) start had is after kept

  pub update_first : (call : Call) → asked ≡ Called call → start ≤ x.clock →
      answers_by (BySeat q) x.answers ≡ had →
      UnderIn (BySeat q) asked start had (ticked (update_begins plan x q now call))
  update_first call is after kept =
      let taken = scan_begins plan q now.free now in
      let next = first_fate taken.free taken.scan in
      under_there x.store (record taken { stand = stand_at call next; course = course_from x.clock })
      (answers_after x q call (course_from x.clock) next) x.made (first_under call taken next is after kept)

module _ (plan : Plan) (x : World) (r : ℕ) (asked : Asked) (start : ℕ) (had : List Answer) where
  abbrev peeking : ReaderNow
  peeking = x.readers r

  peek_there : (then : ReaderNow) (answers : List Answer) →
      Under (ByReader r) asked start had (as_seat then) (stand_of then.stand) answers →
      UnderIn (ByReader r) asked start had (ticked (with_reader x r then answers))
  peek_there then answers k =
      subst (λ (s : ReaderNow). Under (ByReader r) asked start had (as_seat s) (stand_of s.stand) answers)
      (sym (put_same x.readers r then)) k

  peek_under : (aim : Aim) (next : GlanceFate) → asked ≡ asked_by_aim aim → start ≤ peeking.course.began →
      answers_by (ByReader r) x.answers ≡ had →
      Under (ByReader r) asked start had (as_seat (peek_after peeking aim next))
      (stand_of (peek_after peeking aim next).stand)
      (peek_answers plan x r aim (stepped peeking.course) next)
  peek_under aim (Looks glance) is after kept = (is, after, kept)
  peek_under aim (Shows items) is after kept =
      answered_now x (ByReader r) asked (asked_by_aim aim) (told_by_items plan aim items)
      (stepped peeking.course) start had is after kept
  peek_under aim Disturbed is after kept =
      answered_now x (ByReader r) asked (asked_by_aim aim) Again (stepped peeking.course) start had is after kept

  pub peek_on_under : (aim : Aim) (glance : Glance) →
      (asked ≡ asked_by_aim aim) × (start ≤ peeking.course.began) × (answers_by (ByReader r) x.answers ≡ had) →
      UnderIn (ByReader r) asked start had (ticked (peeks plan x r peeking aim glance))
  peek_on_under aim glance k =
      let next = glance_fate plan 0 aim glance (found_by (glance_deed plan 0 0 aim glance) x.store) in
      peek_there (peek_after peeking aim next) (peek_answers plan x r aim (stepped peeking.course) next)
      (peek_under aim next k.0 k.1 k.2)

  pub peek_first : (aim : Aim) (tries : ℕ) → asked ≡ asked_by_aim aim → start ≤ x.clock →
      answers_by (ByReader r) x.answers ≡ had →
      UnderIn (ByReader r) asked start had (ticked (peek_acts plan x r peeking (Open aim tries)))
  peek_first aim tries is after kept = peek_there
      (record { stand = S.Peeks aim (S.GlanceWord (tries - 1)); course = course_from x.clock }) x.answers
      (is, after, kept)

-- ---- a step of a party

-- the step may come, and leads on
pub record Steps (plan : Plan) (who : Asker) (x : World) : Type 0 where
  pub event : IsEvent plan x (step_of who)
  pub goes : going_in plan who (happens plan x (step_of who))
      ≡ goes_by_word (going_in plan who x) (found_by (deed (going_in plan who x)) x.store)
  pub store : (happens plan x (step_of who)).store ≡ store_after (deed (going_in plan who x)) x.store
  pub on_table : IsOn plan (deed (going_in plan who x))
  pub under : (asked : Asked) (start : ℕ) (had : List Answer) → UnderIn who asked start had x →
      UnderIn who asked start had (happens plan x (step_of who))

-- a call may begin, and does
pub record Begins (plan : Plan) (who : Asker) (asked : Asked) (tries : ℕ) (x : World) : Type 0 where
  pub event : Event
  pub is : begin_of who asked tries ≡ event ∷ []
  pub by : by_event event ≡ who
  pub can : IsEvent plan x event
  pub goes : going_in plan who (happens plan x event) ≡ begun asked tries (going_in plan who x)
  pub store : (happens plan x event).store ≡ x.store
  pub under : (start : ℕ) (had : List Answer) → start ≤ x.clock → answers_by who x.answers ≡ had →
      UnderIn who asked start had (happens plan x event)

module _ (plan : Plan) (events : List Event) (run : IsRun plan events) where
  abbrev x : World
  x = world_after plan events

  -- only a seat makes an update
  pub flies_there : (q : ℕ) → q < holders_of plan.settings → (stand : Stand) → (seat_in x q).stand ≡ stand →
      Flies stand → IsFlying plan q stand
  flies_there q inside S.Idle e f = absurd f
  flies_there q inside (S.Goes call step) e f =
      (subst (NearStand plan q (seat_in x q).time (seat_in x q).posted (x.store.hold q)) e
      ((all_known plan events run).near.seats q inside).0).2
  flies_there q inside (S.Glances aim glance) e f = tt

  -- the next step of a seat is on the table
  on_at : (q : ℕ) (stand : Stand) → IsOnTable plan (next_deed plan q (seat_in x q) stand) →
      IsOn plan (deed_at (going_in plan (BySeat q) x) stand)
  on_at q S.Idle k = tt
  on_at q (S.Goes call step) k = table_on plan (deed_of plan q (clean (seat_in x q)) call step)
      (subst (IsOnTable plan) (sym (deed_clean plan q (seat_in x q) call step)) k)
  on_at q (S.Glances aim glance) k = table_on plan (glance_deed plan q (seat_in x q).time aim glance) k

  seat_long : (q : ℕ) → q < holders_of plan.settings → q < length x.seats
  seat_long q inside = (let long = (all_known plan events run).owned.long in omega (arith, inside, long))

  seat_steps : (q : ℕ) → q < holders_of plan.settings → Flies (seat_in x q).stand → Steps plan (BySeat q) x
  seat_steps q inside under_way =
      let now = seat_in x q in
      let flies = flies_there q inside now.stand refl under_way in
      let acts = seat_happens plan x q Step_on inside in
      record {
        event = (inside, flies);
        goes = ap (going_in plan (BySeat q)) acts ∙ step_goes plan x q (seat_long q inside) now.stand refl flies;
        store = ap (λ (z : World). z.store) acts ∙ step_store plan x q (seat_long q inside) now.stand flies;
        on_table = on_at q now.stand (steps_are_on_table plan events q run inside);
        under = λ asked start had k. subst (UnderIn (BySeat q) asked start had) (sym acts)
            (step_under plan x q (seat_long q inside) asked start had now.stand flies k);
      }

  -- a reader's look is one of its tries
  peeking_near : (r : ℕ) (aim : Aim) (glance : Glance) → (x.readers r).stand ≡ S.Peeks aim glance → NearPeek plan glance
  peeking_near r aim glance e =
      (subst (NearPeeking plan) e ((all_known plan events run).near.readers r)).1

  reader_steps : (r : ℕ) (stand : Peeking) → (x.readers r).stand ≡ stand → Flies (stand_of stand) →
      Steps plan (ByReader r) x
  reader_steps r S.Rests e flies = absurd flies
  reader_steps r (S.Peeks aim glance) e flies =
      let peeking = x.readers r in
      let there = peeks_are_on_table plan events r aim glance run e in
      let d = glance_deed plan 0 0 aim glance in
      let acts : happens plan x (OfReader r Peek_on) ≡ ticked (peeks plan x r peeking aim glance) =
      ap (λ (s : Peeking). ticked (peeks_on plan x r peeking s)) e in
      let same : deed (going_in plan (ByReader r) x) ≡ d =
      ap (λ (s : Peeking). deed_at (going_in plan (ByReader r) x) (stand_of s)) e in
      record {
        event = subst IsPeeking (sym e) tt;
        goes = ap (going_in plan (ByReader r)) acts
            ∙ peek_goes plan x r (S.Peeks aim glance) e aim glance refl (peeking_near r aim glance e)
            ∙ sym (ap (λ (s : Peeking). goes_at (going_in plan (ByReader r) x) (stand_of s)
            (found_by (deed_at (going_in plan (ByReader r) x) (stand_of s)) x.store)) e);
        store = ap (λ (z : World). z.store) acts ∙ sym (load_same plan d x.store there)
            ∙ ap (λ (k : Deed). store_after k x.store) (sym same);
        on_table = subst (IsOn plan) (sym same) (load_on plan d there);
        under = λ asked start had k. subst (UnderIn (ByReader r) asked start had) (sym acts)
            (peek_on_under plan x r asked start had aim glance
            (subst (λ (s : Peeking). Under (ByReader r) asked start had (as_seat peeking) (stand_of s) x.answers) e k));
      }

  -- THE RESULT
  pub steps_on : (who : Asker) → IsParty plan who → Flies (party x who).stand → Steps plan who x
  steps_on (BySeat q) inside flies = seat_steps q inside flies
  steps_on (ByReader r) inside flies = reader_steps r (x.readers r).stand refl flies

  -- ---- a begin

  resting : (stand : Peeking) → stand_of stand ≡ S.Idle → stand ≡ S.Rests
  resting S.Rests e = refl
  resting (S.Peeks aim glance) e = absurd (omega (arith, ap stand_code e))

  seat_update : (q : ℕ) → q < holders_of plan.settings → (call : Call) (tries : ℕ) → (seat_in x q).stand ≡ S.Idle →
      CanBegin plan q (seat_in x q) call →
      ticked (call_begins plan x q (seat_in x q) call) ≡ ticked (update_begins plan x q (seat_in x q) call) →
      begun (Called call) tries (going_in plan (BySeat q) x) ≡ begun_update (going_in plan (BySeat q) x) call →
      Begins plan (BySeat q) (Called call) tries x
  seat_update q inside call tries idle can updates same =
      let acts = seat_happens plan x q (Begin call) inside ∙ updates in
      record {
        event = OfSeat q (Begin call);
        is = refl;
        by = refl;
        can = (inside, (idle, can));
        goes = ap (going_in plan (BySeat q)) acts ∙ update_begun plan x q (seat_long q inside) call ∙ sym same;
        store = ap (λ (z : World). z.store) acts;
        under = λ start had after kept. subst (UnderIn (BySeat q) (Called call) start had) (sym acts)
            (update_first plan x q (seat_long q inside) (Called call) start had call refl after kept);
      }

  seat_begins : (q : ℕ) → q < holders_of plan.settings → (asked : Asked) (tries : ℕ) → (seat_in x q).stand ≡ S.Idle →
      CanCall plan (BySeat q) (seat_in x q) asked tries → Begins plan (BySeat q) asked tries x
  seat_begins q inside (Called (Lookup key)) tries idle can =
      let acts = seat_happens plan x q (Begin (Lookup key)) inside in
      record {
        event = OfSeat q (Begin (Lookup key));
        is = refl;
        by = refl;
        can = (inside, (idle, can.0));
        goes = ap (going_in plan (BySeat q)) acts ∙ look_begun plan x q (seat_long q inside) (OfKey key)
            ∙ ap (begun_look (going_in plan (BySeat q) x) (OfKey key)) (sym can.1);
        store = ap (λ (z : World). z.store) acts;
        under = λ start had after kept. subst (UnderIn (BySeat q) (Called (Lookup key)) start had) (sym acts)
            (look_first plan x q (seat_long q inside) (Called (Lookup key)) start had (OfKey key) refl after kept);
      }
  seat_begins q inside (Called (Insert key value)) tries idle can =
      seat_update q inside (Insert key value) tries idle can refl refl
  seat_begins q inside (Called (Remove key)) tries idle can = seat_update q inside (Remove key) tries idle can refl refl
  seat_begins q inside (Called (Tally key amount)) tries idle can =
      seat_update q inside (Tally key amount) tries idle can refl refl
  seat_begins q inside (Called (Count key value amount)) tries idle can =
      seat_update q inside (Count key value amount) tries idle can refl refl
  seat_begins q inside (Called (Put key value)) tries idle can =
      seat_update q inside (Put key value) tries idle can refl refl
  seat_begins q inside (Copied bucket) tries idle can =
      let acts = seat_happens plan x q (Copy bucket) inside in
      record {
        event = OfSeat q (Copy bucket);
        is = refl;
        by = refl;
        can = (inside, (idle, can.0, can.1));
        goes = ap (going_in plan (BySeat q)) acts ∙ look_begun plan x q (seat_long q inside) (OfBucket bucket)
            ∙ ap (begun_look (going_in plan (BySeat q) x) (OfBucket bucket)) (sym can.2);
        store = ap (λ (z : World). z.store) acts;
        under = λ start had after kept. subst (UnderIn (BySeat q) (Copied bucket) start had) (sym acts)
            (look_first plan x q (seat_long q inside) (Copied bucket) start had (OfBucket bucket) refl after kept);
      }

  reader_begins : (r : ℕ) (asked : Asked) (tries : ℕ) → stand_of (x.readers r).stand ≡ S.Idle →
      CanCall plan (ByReader r) (as_seat (x.readers r)) asked tries → Begins plan (ByReader r) asked tries x
  reader_begins r (Called (Lookup key)) tries idle can = record {
    event = OfReader r (Open (OfKey key) tries);
    is = refl;
    by = refl;
    can = (resting (x.readers r).stand idle, can.0, can.1);
    goes = peek_begun plan x r (OfKey key) tries;
    store = refl;
    under = λ start had after kept.
        peek_first plan x r (Called (Lookup key)) start had (OfKey key) tries refl after kept;
  }
  reader_begins r (Called (Insert key value)) tries idle can = absurd can
  reader_begins r (Called (Remove key)) tries idle can = absurd can
  reader_begins r (Called (Tally key amount)) tries idle can = absurd can
  reader_begins r (Called (Count key value amount)) tries idle can = absurd can
  reader_begins r (Called (Put key value)) tries idle can = absurd can
  reader_begins r (Copied bucket) tries idle can = record {
    event = OfReader r (Open (OfBucket bucket) tries);
    is = refl;
    by = refl;
    can = (resting (x.readers r).stand idle, can.0, can.1);
    goes = peek_begun plan x r (OfBucket bucket) tries;
    store = refl;
    under = λ start had after kept. peek_first plan x r (Copied bucket) start had (OfBucket bucket) tries refl after
        kept;
  }

  -- THE RESULT
  pub begins_on : (who : Asker) → IsParty plan who → (asked : Asked) (tries : ℕ) → (party x who).stand ≡ S.Idle →
      CanCall plan who (party x who) asked tries → Begins plan who asked tries x
  begins_on (BySeat q) inside asked tries idle can = seat_begins q inside asked tries idle can
  begins_on (ByReader r) inside asked tries idle can = reader_begins r asked tries idle can
