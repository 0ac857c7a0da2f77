-- An update is announced: its ghost begins, announces it, and has found its bucket.
use Rattle.std.proofs.Common.{◌≡◌, ◌≢◌, ℕ, ◌+◌, ◌-◌, ◌<◌, inl, inr, Bool, true, List, length, get_or, None, refl, sym, ap, ◌∙◌, subst, arith}
use Rattle.std.proofs.lemmas.Bool.{cases_eq, cases_lt}
use Rattle.std.proofs.lemmas.List.Sums.{count_by-le-length}
use Rattle.step_counts.specs.declared.rows.SeatRows.{SeatRows}
use Rattle.plain_map.specs.declared.calls.Call.{Call}
use Rattle.plain_map.specs.declared.calls.Call.TheVariants.{Insert, Remove, Lookup, Tally, Count, Put}
use Rattle.plain_map.specs.declared.records.Record.{Record}
use Rattle.plain_map.specs.Calls.{key_in, is_update}
use Rattle.plain_map.specs.Serving.{IsAskable}
use Rattle.plain_map.specs.Updates.{IsUpdate}
use Rattle.word_rows.specs.OpWords.{words_of_call}
use Rattle.word_rows.specs.Memory.{put}
use Rattle.word_rows.proofs.MemoryLemmas.{put_same, put_other, put_at_same}
use Rattle.bucket_states.specs.declared.ops.Op.{Op}
use Rattle.table_model.specs.Setup.{Setup, seats_of}
use Rattle.table_model.specs.Phases.{TryWord}
use Rattle.table_model.specs.SeatStates.{Account, Flight, Idle, InFlight}
use Rattle.table_model.specs.Worlds.{CanBegin, refusal_of, world_after, seat_in}
use Rattle.run_invariant.proofs.Invariant.{Common, op_now}
use Rattle.run_invariant.proofs.Events.{announced}
use Rattle.helping_laws.proofs.Extends.{Extends}
use Rattle.lasting_model.specs.Plans.{Plan, IsPlan, ample, bucket_for, MOST_UPDATES}
use Rattle.lasting_model.specs.Codes.{SLOT_WORDS, announcing}
use Rattle.lasting_model.specs.Words as W
use Rattle.lasting_model.specs.Words.{with_word}
use Rattle.lasting_model.specs.Steps as S
use Rattle.lasting_model.specs.Steps.{SeatNow, Update, Step, bucket_of_update}
use Rattle.lasting_model.specs.Goes.{On}
use Rattle.lasting_model.specs.Worlds.{Lasting, Answer, goes, seat_after, stepped, ticked, with_seat}
use Rattle.lasting_model.specs.Worlds as L
use Rattle.lasting_laws.proofs.Ample.{never_refused, ample_limit}
use Rattle.lasting_laws.proofs.Announces.{announces_at_once, with_op, first_round}
use Rattle.lasting_laws.proofs.Won.{Comes}
use Rattle.lasting_laws.proofs.FixedDepth.{lead_is_class}
use Rattle.lasting_laws.proofs.Shown.{View, Rows, IsIn, Ops, Slot, Begins, IsMade, Moment, view, IsShown, IsNext}
use Rattle.lasting_laws.proofs.Exact.{update_tested}
use Rattle.lasting_laws.proofs.Ghost.{inside_ghost, deepest, there, rises, extends_same, extends_both, extends_announced}
use Rattle.lasting_laws.proofs.Next.{Untouched, Lawful, z, mine, past_same, Stepped, rows_quiet, none_more, shown_next}
use Rattle.lasting_laws.proofs.OwnStill.{kept, slotted}

-- what can be asked
askable : (call : Call) → IsUpdate call → IsAskable call
askable (Insert key value) u = u
askable (Remove key) u = tt
askable (Lookup key) u = tt
askable (Tally key amount) u = u
askable (Count key value amount) u = u
askable (Put key value) u = u

module _ (plan : Plan) (is_plan : IsPlan plan) (x : Lasting) (shown : IsShown plan x) (p : ℕ)
    (inside : p < plan.settings.seats) (u : Update) (stood : (L.seat_in x p).stand ≡ S.Goes u S.Announce)
    (law : Lawful plan x shown (ticked (goes plan x p (L.seat_in x p) u S.Announce))) where
  abbrev setup : Setup
  setup = ample plan

  abbrev now : SeatNow
  now = L.seat_in x p

  abbrev m : Moment setup
  m = shown.moment

  abbrev c : Common
  c = shown.moment.common

  abbrev v : View
  v = view plan x shown.moment shown.word_at shown.cut shown.tied

  abbrev b : ℕ
  b = bucket_of_update setup u

  h : p < seats_of setup
  h = inside_ghost plan p inside

  made : IsMade plan v p u
  made = (kept plan is_plan x shown p inside u S.Announce stood).0

  begins : Begins plan v p
  begins = (kept plan is_plan x shown p inside u S.Announce stood).1

  slot : Slot plan v p u.call SLOT_WORDS
  slot = slotted plan is_plan x shown p inside u S.Announce stood

  abbrev account : Account
  account = (seat_in (world_after setup m.events) p).account

  abbrev idle : seat_in (world_after setup m.events) p ≡ record { account = account; stand = Idle }
  idle = λ i. record { account = account; stand = begins.waits.idle i }

  few : length account.records < MOST_UPDATES
  few = (let count = begins.waits.count in let less = made.few in omega (arith, count, less))

  update : is_update u.call ≡ true
  update = update_tested u.call made.update

  can : CanBegin setup account (0, u.call)
  can = record {
    packet = omega arith;
    key = made.key;
    value = askable u.call made.update;
    count = (let less = few in omega (arith, less, ample_limit plan));
  }

  free : refusal_of setup p account u.call ≡ None
  free = never_refused plan m.events p u.call m.run h begins.waits.idle
      (let less = few in let some = count_by-le-length (λ (r : Record). is_update r.call) account.records in
      omega (arith, less, some))

  abbrev d0 : Common
  d0 = announced setup p (length account.records + 1) u.call c

  -- what the ghost does
  tells : (flight : Flight) × (flight.number ≡ length account.records + 1) × (flight.call ≡ u.call)
      × Comes setup p m.events d0 (record {
        account = with_op setup p m.events m.run c m.locals m.follows h account u.call update idle can free;
        stand = InFlight flight (TryWord (first_round setup p u.call d0) 1 None);
      })
      × ((q : ℕ) → q < seats_of setup →
      get_or flight.seen q 0 ≡ length (seat_in (world_after setup m.events) q).account.records)
  tells = announces_at_once setup p m.events m.run c m.locals m.follows h account u.call update idle can free

  abbrev d : Common
  d = tells.3.common

  abbrev next : Moment setup
  next = record {
    events = tells.3.last;
    run = tells.3.run;
    common = tells.3.common;
    locals = tells.3.locals;
    follows = tells.3.follows;
  }

  abbrev word : ℕ
  word = announcing u.number b

  abbrev store : W.Store
  store = with_word x.store (W.Announced p) word

  abbrev then : SeatNow
  then = seat_after now u (On (S.LoadWord 1))

  free_of : Untouched plan x p store
  free_of = record { slot = λ q j n. refl; want = λ q n. refl; touch = λ row. inl (λ i. refl) }

  abbrev w : View
  w = z plan is_plan x shown p inside store then x.answers law free_of next shown.word_at

  extends : Extends c d
  extends = extends_both c d0 d (extends_announced setup p (length account.records + 1) u.call c)
      (extends_same d0 d tells.3.past)

  used_other : (q : ℕ) → q ≢ p → d.used q ≡ c.used q
  used_other q n = ap (λ (f : ℕ → SeatRows). f q) tells.3.past.used
      ∙ put_other c.used p (record (c.used p) { op_rows = (c.used p).op_rows + 1 }) q n

  used_own : (d.used p).op_rows ≡ (c.used p).op_rows + 1
  used_own = ap (λ (f : ℕ → SeatRows). (f p).op_rows) tells.3.past.used
      ∙ ap (λ (s : SeatRows). s.op_rows) (put_same c.used p (record (c.used p) { op_rows = (c.used p).op_rows + 1 }))

  number_is : length account.records + 1 ≡ u.number
  number_is = (let count = begins.waits.count in let n = made.number_is in omega (arith, count, n))

  op_own : op_now d p ≡ record { seat = p; number = u.number; call = u.call }
  op_own = ap (λ n. d.op_at p (n - 1)) used_own
      ∙ (let same : (c.used p).op_rows + 1 - 1 ≡ (c.used p).op_rows = omega arith in ap (d.op_at p) same)
      ∙ (λ i. tells.3.past.op_at i p (c.used p).op_rows)
      ∙ put_at_same c.op_at p (c.used p).op_rows
      (record { seat = p; number = length account.records + 1; call = u.call })
      ∙ (λ i. record { seat = p; number = number_is i; call = u.call })

  op_past : (q j : ℕ) → j < (c.used q).op_rows → d.op_at q j ≡ c.op_at q j
  op_past q j less = (extends.calls q j less).0

  ghost : Stepped plan is_plan x shown p inside store then x.answers law free_of next shown.word_at
  ghost = record {
    extends = extends;
    used = used_other;
    state = tells.3.others;
    later =
        (tells.3.more, tells.3.is);
    words = λ a i n o. refl;
  }

  rows : Rows plan w
  rows = rows_quiet plan is_plan x shown p inside store then x.answers law free_of next shown.word_at ghost (λ a. refl)
      (λ a. ap (λ (f : ℕ → Bool). f a) tells.3.past.named) (λ a. ap (λ (f : ℕ → ℕ). f a) tells.3.past.top)
      (λ a i. (λ e. tells.3.past.state_at e a i)) (λ a i. refl)

  in_stays : (q : ℕ) (op : Op) → IsIn plan v q op → IsIn plan w q op
  in_stays q op is =
      let up = rises setup c d next.follows.shared extends (bucket_for setup (key_in op.call)) q
      (there plan is_plan m shown.shows.rows.numbered (key_in op.call)) in
      omega (arith, is, up)

  ops : Ops plan w
  ops = record {
    none = λ q less none. elim (cases_eq q p) [
      | inl e ↦ absurd (let own = used_own in let rows_of = ap (λ n. (d.used n).op_rows) (sym e) ∙ none in
          omega (arith, own, rows_of))
      | inr n ↦ put_other x.store.announced p word q n
          ∙ shown.shows.ops.none q less (sym (ap (λ (s : SeatRows). s.op_rows) (used_other q n)) ∙ none)
    ];
    some = λ q less some. elim (cases_eq q p) [
      | inl e ↦ ap (put x.store.announced p word) e ∙ put_same x.store.announced p word
          ∙ ap (λ (o : Op). announcing o.number (bucket_for setup (key_in o.call))) (sym op_own)
          ∙ ap (λ n. announcing (op_now d n).number (bucket_for setup (key_in (op_now d n).call))) (sym e)
      | inr n ↦
          let same = ap (λ (s : SeatRows). s.op_rows) (used_other q n) in
          let last_same : op_now d q ≡ op_now c q =
          ap (λ k. d.op_at q (k - 1)) same ∙ op_past q ((c.used q).op_rows - 1) (omega (arith, some, same)) in
          put_other x.store.announced p word q n ∙ shown.shows.ops.some q less (omega (arith, some, same))
          ∙ ap (λ (o : Op). announcing o.number (bucket_for setup (key_in o.call))) (sym last_same)
    ];
    past = λ q j less later. elim (cases_eq q p) [
      | inl e ↦ subst (λ k. IsIn plan w k (d.op_at k j)) (sym e)
          (own_past j (let rows_of = ap (λ n. (d.used n).op_rows) e in let own = used_own in
          omega (arith, later, rows_of, own)))
      | inr n ↦
          let same = ap (λ (s : SeatRows). s.op_rows) (used_other q n) in
          subst (IsIn plan w q) (sym (op_past q j (omega (arith, later, same))))
          (in_stays q (c.op_at q j) (shown.shows.ops.past q j less (omega (arith, later, same))))
    ];
  }
    where
      own_past : (j : ℕ) → j < (c.used p).op_rows → IsIn plan w p (d.op_at p j)
      own_past j less = subst (IsIn plan w p) (sym (op_past p j less)) (in_stays p (c.op_at p j)
          (elim (cases_lt (j + 1) (c.used p).op_rows) [
            | inl later ↦ shown.shows.ops.past p j inside later
            | inr all ↦
                let place : (c.used p).op_rows - 1 ≡ j = omega (arith, less, all) in
                subst (λ k. IsIn plan v p (c.op_at p k)) place (begins.waits.applied (omega (arith, less)))
          ]))

  own_seat : L.seat_in w.x p ≡ then
  own_seat = mine plan is_plan x shown p inside store then x.answers

  past_own : w.past p ≡ v.past p
  past_own = past_same plan is_plan x shown p inside store then x.answers law free_of next shown.word_at p
      (ap (λ (s : SeatNow). s.course.began) own_seat)

  -- THE RESULT
  pub announce_step : IsNext plan x (ticked (goes plan x p now u S.Announce)) shown
  announce_step =
      let same = ap (λ (s : SeatNow). s.answered) own_seat in
      shown_next plan is_plan x shown p inside store then x.answers law free_of next shown.word_at ghost tells.3.more
      tells.3.is rows ops
      (λ some j less. slot j less ∙ ap (λ (o : Op). get_or (words_of_call o.call) j 0) (sym op_own)) (
        record {
          number_is = (let n = made.number_is in omega (arith, n, same));
          long = ap (λ (f : ℕ → List Record). length (f p)) past_own ∙ made.long ∙ sym same;
          update = made.update;
          key = made.key;
          few = (let less = made.few in omega (arith, less, same));
        },
        (
          omega arith,
          inl (
            first_round setup p u.call d0,
            None,
            lead_is_class setup c m.follows.shared m.follows.descent (deepest plan is_plan)
                shown.shows.rows.numbered c.dir_top (key_in u.call) (omega arith),
            record {
              account = with_op setup p m.events m.run c m.locals m.follows h account u.call update idle can free;
              flight = tells.0;
              state = tells.3.mine;
              number_is = tells.1 ∙ number_is;
              call_is = tells.2;
              past_is = begins.past_is ∙ ap (λ (f : ℕ → List Record). f p) (sym past_own);
              saw = λ j less. (let was = begins.grown j in let seen = tells.4 j less in
                  let same = ap (λ (f : ℕ → List Record). length (f j)) past_own in omega (arith, was, seen, same));
            },
          ),
        ),
      ) (shown.began p)
      (none_more plan is_plan x shown p inside store then x.answers law free_of next shown.word_at ghost)
