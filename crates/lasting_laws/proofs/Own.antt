-- A step of a seat that changes neither bucket words nor announcements, and a ghost that changes no history: what
-- becomes of the seat itself is all that is to be shown.
use Rattle.std.proofs.Common.{◌≡◌, ℕ, ◌+◌, ◌-◌, ◌<◌, ◌≤◌, inl, Bool, true, cond, List, length, get_or, refl, sym, ap, ◌∙◌, subst, arith, lt-ltb}
use Rattle.std.specs.Prelude.{All}
use Rattle.step_counts.specs.declared.rows.SeatRows.{SeatRows}
use Rattle.plain_map.specs.declared.keys.Key.{Key}
use Rattle.plain_map.specs.declared.records.Record.{Record}
use Rattle.word_rows.specs.OpWords.{words_of_call}
use Rattle.table_model.specs.SeatStates.{Account}
use Rattle.bucket_states.specs.declared.ops.Op.{Op}
use Rattle.table_model.specs.Phases.{Phase}
use Rattle.run_invariant.proofs.Invariant.{op_now}
use Rattle.lasting_model.specs.Plans.{Plan, IsPlan, ample, bucket_for}
use Rattle.lasting_model.specs.Words as W
use Rattle.lasting_model.specs.Words.{with_word}
use Rattle.lasting_model.specs.Steps as S
use Rattle.lasting_model.specs.Steps.{SeatNow, Update, Step, Try, Sweep, Course, Deed, deed_of, glance_deed, sweep_deed, next_row, bucket_of_update}
use Rattle.lasting_model.specs.Worlds.{Lasting, Answer, What, Begin, Copy, Step_on, Fits, OfSeat, store_after, seat_after, ticked, with_seat, act, goes_on}
use Rattle.lasting_model.specs.Worlds as L
use Rattle.lasting_model.specs.Goes.{On}
use Rattle.lasting_laws.proofs.Pools.{Pools}
use Rattle.lasting_laws.proofs.PoolEvents.{pools_keep}
use Rattle.lasting_laws.proofs.Turns.{seat_leaves}
use Rattle.lasting_laws.proofs.TiedRuns.{seat_ties}
use Rattle.lasting_laws.specs.Promises.{IsRight}
use Rattle.lasting_laws.proofs.Shown.{View, Rows, Ops, SlotOf, OpStands, InStep, Seated, Keeps, IsMade, view, IsShown, IsNext}
use Rattle.lasting_laws.proofs.Stays.{After}
use Rattle.lasting_laws.proofs.Ghost.{extends_same, there}
use Rattle.lasting_laws.proofs.Moments.{Burst, At}
use Rattle.lasting_laws.proofs.Next.{Untouched, Lawful, cut, z, mine, past_same, Stepped, rows_quiet, ops_quiet, after_is, none_more, shown_next}

-- a step that changes no word
pub untouched_same : (plan : Plan) (x : Lasting) (p : ℕ) → Untouched plan x p x.store
untouched_same plan x p = record { slot = λ q j n. refl; want = λ q n. refl; touch = λ row. inl (λ i. refl) }

-- what stays of the words
pub record Calm (x : Lasting) (store : W.Store) : Type 0 where
  pub words : (b : ℕ) → store.bucket b ≡ x.store.bucket b
  pub announced : (q : ℕ) → store.announced q ≡ x.store.announced q

pub calm_same : (x : Lasting) → Calm x x.store
calm_same x = record { words = λ b. refl; announced = λ q. refl }

-- ---- what is known of each event of a seat

module _ (plan : Plan) (is_plan : IsPlan plan) (x : Lasting) (shown : IsShown plan x) (p : ℕ)
    (inside : p < plan.settings.seats) where
  abbrev now : SeatNow
  now = L.seat_in x p

  pub lawful : (what : What) → Fits plan now what → Lawful plan x shown (ticked (act plan x p now what))
  lawful what fits =
      let l = seat_leaves plan is_plan x shown.pools shown.marks p inside what fits in
      record {
        ties = seat_ties plan is_plan x shown.pools shown.tied p inside what fits;
        marks = l.marks;
        turn = l.turn;
        pools = subst (λ (b : Bool). Pools plan (cond b (ticked (act plan x p now what)) x))
            (lt-ltb p plan.settings.seats inside)
            (pools_keep plan is_plan x shown.pools (OfSeat p what) (inside, fits));
      }

  -- ---- a quiet step

  module _ (store : W.Store) (then : SeatNow) (answers : List Answer)
      (law : Lawful plan x shown (ticked (with_seat x p store then answers))) (free : Untouched plan x p store)
      (calm : Calm x store) (burst : Burst (ample plan) shown.moment p) where
    abbrev pub y : Lasting
    y = ticked (with_seat x p store then answers)

    abbrev pub v : View
    v = view plan x shown.moment shown.word_at shown.cut shown.tied

    abbrev pub w : View
    w = z plan is_plan x shown p inside store then answers law free burst.next shown.word_at

    pub stepped_is : Stepped plan is_plan x shown p inside store then answers law free burst.next shown.word_at
    stepped_is = record {
      extends = extends_same shown.moment.common burst.next.common burst.past;
      used = λ q n. ap (λ (f : ℕ → SeatRows). f q) burst.past.used;
      state = burst.others;
      later = (burst.more, burst.is);
      words = λ b i n o. refl;
    }

    pub rows : Rows plan w
    rows = rows_quiet plan is_plan x shown p inside store then answers law free burst.next shown.word_at stepped_is
        calm.words
        (λ b. ap (λ (f : ℕ → Bool). f b) burst.past.named) (λ b. ap (λ (f : ℕ → ℕ). f b) burst.past.top)
        (λ b i. (λ k. burst.past.state_at k b i)) (λ b i. refl)

    ops : Ops plan w
    ops = ops_quiet plan is_plan x shown p inside store then answers law free burst.next shown.word_at stepped_is
        calm.announced (λ q. ap (λ (f : ℕ → SeatRows). (f q).op_rows) burst.past.used)
        (λ q j. (λ i. burst.past.op_at i q j))

    pub after : After plan p v w
    after = after_is plan is_plan x shown p inside store then answers law free burst.next shown.word_at stepped_is rows

    pub named : (key : Key) → shown.moment.common.named (bucket_for (ample plan) key) ≡ true
    named = there plan is_plan shown.moment shown.shows.rows.numbered

    pub used_p : burst.next.common.used p ≡ shown.moment.common.used p
    used_p = ap (λ (f : ℕ → SeatRows). f p) burst.past.used

    -- the words of its op stand
    pub own_ops : ((j : ℕ) → store.op p j ≡ x.store.op p j) → OpStands plan v p → OpStands plan w p
    own_ops slot k some =
        let same : op_now burst.next.common p ≡ op_now shown.moment.common p =
        (λ i. burst.past.op_at i p ((burst.past.used i p).op_rows - 1)) in
        let was_some : 0 < (shown.moment.common.used p).op_rows =
        subst (λ (s : SeatRows). 0 < s.op_rows) used_p some in
        λ j less. slot j ∙ k was_some j less
        ∙ ap (λ (o : Op). get_or (words_of_call o.call) j 0) (sym same)

    -- THE RESULT
    pub quiet_next : SlotOf plan w p then.stand → Seated plan w p then.stand → then.course.began ≤ x.clock →
        All (λ (a : Answer). (a.ended ≤ x.clock + 1) × IsRight (ample plan)
        (cut plan is_plan x shown p inside store then answers law free burst.next shown.word_at) a)
        answers → IsNext plan x y shown
    quiet_next slot seat began right =
        shown_next plan is_plan x shown p inside store then answers law free burst.next shown.word_at stepped_is
        burst.more
        burst.is rows ops slot seat began right

    module _ (began : then.course.began ≡ now.course.began) where
      pub past_p : w.past p ≡ v.past p
      past_p = past_same plan is_plan x shown p inside store then answers law free burst.next shown.word_at p
          (ap (λ (s : SeatNow). s.course.began) (mine plan is_plan x shown p inside store then answers) ∙ began)

      pub answered_p : then.answered ≡ now.answered → (L.seat_in y p).answered ≡ now.answered
      answered_p e = ap (λ (s : SeatNow). s.answered) (mine plan is_plan x shown p inside store then answers) ∙ e

      -- the update is the one that it makes
      pub made_now : then.answered ≡ now.answered → (u : Update) → IsMade plan v p u → IsMade plan w p u
      made_now e u k =
          let same = answered_p e in
          record {
            number_is = omega (arith, k.number_is, same);
            long = ap (λ (f : ℕ → List Record). length (f p)) past_p ∙ k.long ∙ sym same;
            update = k.update;
            key = k.key;
            few = omega (arith, k.few, same);
          }

      -- its ghost is in this phase of it
      pub step_now : (u : Update) (phase : Phase) (account : Account) → account.records ≡ v.past p p →
          At (ample plan) burst.next p account u (λ k. length (v.past p k)) phase → InStep plan w p u phase
      step_now u phase account past a = record {
        account = account;
        flight = a.flight;
        state = a.state;
        number_is = a.number_is;
        call_is = a.call_is;
        past_is = past ∙ ap (λ (f : ℕ → List Record). f p) (sym past_p);
        saw = λ k h. (let was = a.saw k h in let same = ap (λ (f : ℕ → List Record). length (f k)) past_p in
            omega (arith, was, same));
      }

      -- none was answered since the call began
      pub no_answer : answers ≡ x.answers → All (λ (a : Answer). (a.ended ≤ x.clock + 1) × IsRight (ample plan)
          (cut plan is_plan x shown p inside store then answers law free burst.next shown.word_at) a) answers
      no_answer e = subst (All (λ (a : Answer). (a.ended ≤ x.clock + 1) × IsRight (ample plan)
          (cut plan is_plan x shown p inside store then answers law free burst.next shown.word_at) a)) (sym e)
          (none_more plan is_plan x shown p inside store then answers law free burst.next shown.word_at stepped_is)

      pub began_before : then.course.began ≤ x.clock
      began_before = (let o = shown.began p in omega (arith, o, began))

  -- it goes on to another step of its update
  module _ (store : W.Store) (own : SeatNow) (u : Update) (step : Step)
      (law : Lawful plan x shown (ticked (with_seat x p store (seat_after own u (On step)) x.answers)))
      (free : Untouched plan x p store) (calm : Calm x store) (burst : Burst (ample plan) shown.moment p)
      (course : own.course ≡ now.course) (answered : own.answered ≡ now.answered) where
    abbrev then : SeatNow
    then = seat_after own u (On step)

    abbrev pub w_on : View
    w_on = w store then x.answers law free calm burst

    began : then.course.began ≡ now.course.began
    began = ap (λ (k : Course). k.began) course

    pub after_on : After plan p (v store then x.answers law free calm burst) w_on
    after_on = after store then x.answers law free calm burst

    pub past_on : w_on.past p ≡ (v store then x.answers law free calm burst).past p
    past_on = past_p store then x.answers law free calm burst began

    pub answered_on : (L.seat_in w_on.x p).answered ≡ now.answered
    answered_on = answered_p store then x.answers law free calm burst began answered

    pub goes_to : SlotOf plan w_on p (S.Goes u step) → Keeps plan w_on p u step →
        IsMade plan (v store then x.answers law free calm burst) p u →
        IsNext plan x (ticked (with_seat x p store (seat_after own u (On step)) x.answers)) shown
    goes_to slot keeps made = quiet_next store then x.answers law free calm burst slot
        (made_now store then x.answers law free calm burst began answered u made, keeps)
        (began_before store then x.answers law free calm burst began)
        (no_answer store then x.answers law free calm burst began refl)
