-- Steps of an update at which its ghost rests: its op, the words of rows, its own new row, and the held look.
use Rattle.std.proofs.Common.{◌≡◌, ℕ, ◌+◌, ◌<◌, ◌≤◌, inl, inr, true, false, List, [], ◌∷◌, length, Option, refl, sym, ap, ◌∙◌, subst, arith}
use Rattle.std.proofs.lemmas.List.{length-append}
use Rattle.plain_map.specs.declared.calls.Call.{Call}
use Rattle.plain_map.specs.declared.calls.Call.TheVariants.{Insert, Remove, Lookup, Tally, Count, Put}
use Rattle.plain_map.specs.declared.calls.Reply.{Reply}
use Rattle.plain_map.specs.declared.records.Record.{Record}
use Rattle.plain_map.specs.Updates.{IsUpdate}
use Rattle.bucket_states.specs.declared.ops.Op.{Op}
use Rattle.table_model.specs.declared.events.Event.{Event}
use Rattle.table_model.specs.Setup.{Setup}
use Rattle.table_model.specs.Phases.{Phase}
use Rattle.lasting_model.specs.Plans.{Plan, IsPlan, ample}
use Rattle.lasting_model.specs.Codes.{row_in}
use Rattle.lasting_model.specs.Words as W
use Rattle.lasting_model.specs.Words.{with_word}
use Rattle.lasting_model.specs.Steps as S
use Rattle.lasting_model.specs.Steps.{SeatNow, Update, Step, Try, Sweep, Course, next_row, bucket_of_update, sweep_deed}
use Rattle.lasting_model.specs.Goes.{On, Ends, Called, Replied, Refused}
use Rattle.lasting_model.specs.Worlds.{Lasting, Answer, BySeat, found_by, store_after, seat_after, answers_after, with_answer, stepped, goes, ticked, with_seat}
use Rattle.lasting_model.specs.Worlds as L
use Rattle.lasting_laws.proofs.Pools.{owner_in}
use Rattle.lasting_laws.proofs.Holding as H
use Rattle.lasting_laws.proofs.HeldStates.{among, look_of}
use Rattle.lasting_laws.specs.Promises.{HasRecord, IsUpdated}
use Rattle.lasting_laws.proofs.Shown.{View, IsIn, SlotOf, OpStands, Waits, Begins, InStep, Late, IsRow, Looked, Found, Says, Held, Seated, Keeps, IsMade, view, IsShown, IsNext}
use Rattle.lasting_laws.proofs.Stays.{After, late_stays, step_stays, begins_stay, looked_stays, found_stays, row_stays}
use Rattle.lasting_laws.proofs.Exact.{exact}
use Rattle.lasting_laws.proofs.Moments.{Burst, no_burst}
use Rattle.lasting_laws.proofs.Next.{Untouched, Lawful, mine, cut, one_more}
use Rattle.lasting_laws.proofs.Own.{untouched_same, Calm, calm_same, w, stepped_is, named, own_ops, quiet_next, w_on, after_on, past_on, answered_on, goes_to}

-- what an answered update is, by its call
pub updated_is : (setup : Setup) (first last : List Event) (p : ℕ) (call : Call) (reply : Reply) → IsUpdate call →
    HasRecord setup first last p call reply →
    IsUpdated setup first last (BySeat p) (Called call) (Replied reply)
updated_is setup first last p (Insert key value) reply u r = r
updated_is setup first last p (Remove key) reply u r = r
updated_is setup first last p (Lookup key) reply u r = absurd u
updated_is setup first last p (Tally key amount) reply u r = r
updated_is setup first last p (Count key value amount) reply u r = r
updated_is setup first last p (Put key value) reply u r = r

pub refused_is : (setup : Setup) (first last : List Event) (p : ℕ) (call : Call) →
    IsUpdated setup first last (BySeat p) (Called call) Refused
refused_is setup first last p (Insert key value) = tt
refused_is setup first last p (Remove key) = tt
refused_is setup first last p (Lookup key) = tt
refused_is setup first last p (Tally key amount) = tt
refused_is setup first last p (Count key value amount) = tt
refused_is setup first last p (Put key value) = tt

module _ (plan : Plan) (is_plan : IsPlan plan) (x : Lasting) (shown : IsShown plan x) (p : ℕ)
    (inside : p < plan.settings.seats) where
  abbrev setup : Setup
  setup = ample plan

  abbrev now : SeatNow
  now = L.seat_in x p

  abbrev v : View
  v = view plan x shown.moment shown.word_at shown.cut shown.tied

  abbrev pub still : Burst setup shown.moment p
  still = no_burst setup shown.moment p

  -- where the seat stands
  pub kept : (u : Update) (step : Step) → now.stand ≡ S.Goes u step → IsMade plan v p u × Keeps plan v p u step
  kept u step stood = subst (Seated plan v p) stood (shown.shows.seats p inside)

  pub slotted : (u : Update) (step : Step) → now.stand ≡ S.Goes u step → SlotOf plan v p (S.Goes u step)
  slotted u step stood = subst (SlotOf plan v p) stood (shown.shows.slots p inside)

  -- a step to another one, while the ghost rests
  module _ (store : W.Store) (own : SeatNow) (u : Update) (step : Step)
      (law : Lawful plan x shown (ticked (with_seat x p store (seat_after own u (On step)) x.answers)))
      (free : Untouched plan x p store) (calm : Calm x store) (course : own.course ≡ now.course)
      (answered : own.answered ≡ now.answered) where
    abbrev pub w_still : View
    w_still = w_on plan is_plan x shown p inside store own u step law free calm still course answered

    abbrev then : SeatNow
    then = seat_after own u (On step)

    pub after_still : After plan p v w_still
    after_still = after_on plan is_plan x shown p inside store own u step law free calm still course answered

    pub past_still : w_still.past p ≡ v.past p
    past_still = past_on plan is_plan x shown p inside store own u step law free calm still course answered

    pub answered_still : (L.seat_in w_still.x p).answered ≡ now.answered
    answered_still = answered_on plan is_plan x shown p inside store own u step law free calm still course answered

    abbrev pub late_still : Late plan v p u → Late plan w_still p u
    late_still l = late_stays plan p v w_still after_still shown.shows.rows
        (named plan is_plan x shown p inside store then x.answers law free calm still) p refl refl past_still
        answered_still u l

    pub begins_still : Begins plan v p → Begins plan w_still p
    begins_still b = begins_stay plan p v w_still after_still shown.shows.rows
        (named plan is_plan x shown p inside store then x.answers law free calm still) p refl refl past_still
        answered_still b

    pub looked_still : (turn at : ℕ) → at ≤ v.c.top (bucket_of_update setup u) → Looked plan v p u turn at →
        Looked plan w_still p u turn at
    looked_still turn at old l = looked_stays plan p v w_still after_still shown.shows.rows
        (named plan is_plan x shown p inside store then x.answers law free calm still) p refl refl past_still
        answered_still u turn at old l

    abbrev pub row_still : (word : ℕ) → IsRow plan v u word → IsRow plan w_still u word
    row_still word r = row_stays plan p v w_still after_still shown.shows.rows
        (named plan is_plan x shown p inside store then x.answers law free calm still) u word r

    abbrev pub found_still : (t : Try) (found : List (Option Op)) → Found plan v p u t found →
        Found plan w_still p u t found
    found_still t found f = found_stays plan p v w_still after_still shown.shows.rows
        (named plan is_plan x shown p inside store then x.answers law free calm still) p u t found f

    pub step_still : (phase : Phase) → InStep plan v p u phase → InStep plan w_still p u phase
    step_still phase s = step_stays plan p v w_still after_still shown.shows.rows
        (named plan is_plan x shown p inside store then x.answers law free calm still) p refl refl past_still
        answered_still u phase s

    pub ops_still : ((j : ℕ) → store.op p j ≡ x.store.op p j) → OpStands plan v p → OpStands plan w_still p
    ops_still = own_ops plan is_plan x shown p inside store then x.answers law free calm still

    pub goes_still : SlotOf plan w_still p (S.Goes u step) → Keeps plan w_still p u step → IsMade plan v p u →
        IsNext plan x (ticked (with_seat x p store (seat_after own u (On step)) x.answers)) shown
    goes_still = goes_to plan is_plan x shown p inside store own u step law free calm still course answered

    -- a held look goes on
    pub held_still : IsMade plan v p u → (late : Late plan v p u) → H.IsActive (look_of (S.Goes u step)) →
        store.want p ≡ bucket_of_update setup u →
        ((row : ℕ) → v.since p row ≡ true → among (L.seat_in x (owner_in plan row)).free row ≡ false →
        H.IsActive (look_of now.stand) → Says plan w_still p u late.made row) → Held plan w_still p u
    held_still made late active want says = record {
      late = late_still late;
      want = want;
      says = λ row e f. elim (law.ties.step p row e f (subst (λ (s : SeatNow). H.IsActive (look_of s.stand))
          (sym (mine plan is_plan x shown p inside store then x.answers)) active)) [
            | inl z ↦ says row z.0 z.1 z.2
            | inr z ↦ subst (Says plan w_still p u late.made)
                (sym (z ∙ ap (λ k. row_in (store.bucket k)) want))
                (exact plan is_plan w_still.x shown.moment shown.word_at w_cut law.ties.next law.marks
                after_still.rows p inside
                u (late_still late) made.update (ap (λ (f : ℕ → List Record). length (f p) + 1) past_still
                ∙ (let a = made.long in let b = made.number_is in omega (arith, a, b))))
          ];
    }
      where
        w_cut : ℕ → List Event
        w_cut = cut plan is_plan x shown p inside store then x.answers law free shown.moment shown.word_at

  -- it has ended, and answers
  pub ends_still : (u : Update) (reply : Reply) →
      Lawful plan x shown (ticked (with_seat x p x.store (seat_after now u (Ends reply))
      (with_answer x (BySeat p) (Called u.call) (Replied reply) (stepped now.course)))) → IsMade plan v p u →
      OpStands plan v p → (late : Late plan v p u) → reply ≡ late.made.reply →
      IsNext plan x (ticked (with_seat x p x.store (seat_after now u (Ends reply))
      (with_answer x (BySeat p) (Called u.call) (Replied reply) (stepped now.course)))) shown
  ends_still u reply law made slot late is =
      quiet_next plan is_plan x shown p inside x.store then answers law free calm still
      (own_ops plan is_plan x shown p inside x.store then answers law free calm still (λ j. refl) slot)
      (subst (Waits plan w_end p)
      (sym (ap (λ (s : SeatNow). s.answered) (mine plan is_plan x shown p inside x.store then answers)))
      (record {
        idle = late.idle;
        count = ap (λ (rs : List Record). length rs) late.records_are ∙ length-append (v.past p p) (late.made ∷ [])
            ∙ (let a = made.long in omega (arith, a));
        applied = λ some. subst (IsIn plan w_end p) (sym late.op_is) late.has;
      }))
      (shown.began p)
      (one_more plan is_plan x shown p inside x.store then answers law free shown.moment shown.word_at
      (stepped_is plan is_plan x shown p inside x.store then answers law free calm still) (Called u.call)
      (Replied reply) (stepped now.course) (shown.began p)
      (updated_is setup (shown.cut now.course.began) shown.moment.events p u.call reply made.update (record {
        made = late.made;
        records_are = late.records_are;
        call_is = late.call_is;
        reply_is = sym is;
        saw = late.saw;
      })))
    where
      then : SeatNow
      then = seat_after now u (Ends reply)

      answers : List Answer
      answers = with_answer x (BySeat p) (Called u.call) (Replied reply) (stepped now.course)

      free : Untouched plan x p x.store
      free = untouched_same plan x p

      calm : Calm x x.store
      calm = calm_same x

      w_end : View
      w_end = w plan is_plan x shown p inside x.store then answers law free calm still
