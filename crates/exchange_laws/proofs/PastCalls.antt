-- Each call of who can hold that is under way began before now, and so did each that was answered.
use Rattle.std.proofs.Common.{◌≡◌, ℕ, ◌+◌, ◌<◌, inl, inr, Bool, cond, List, [], ◌∷◌, refl, sym, ap, ◌∙◌, subst, arith, lt-ltb, get_or-set_same, get_or-set_other}
use Rattle.std.specs.Prelude.{All}
use Rattle.std.proofs.lemmas.Bool.{cases_eq}
use Rattle.std.proofs.lemmas.List.Elements.{All-nil, All-cons, All-append, All-weaker}
use Rattle.plain_map.specs.declared.calls.Call.{Call}
use Rattle.plain_map.specs.declared.calls.Call.TheVariants.{Insert, Remove, Lookup, Tally, Count, Put}
use Rattle.exchange_model.specs.Plans.{Plan, IsPlan, holders_of}
use Rattle.exchange_model.specs.Words as W
use Rattle.exchange_model.specs.Steps as S
use Rattle.exchange_model.specs.Steps.{MadeBySeat, Step, Stand, SeatNow, Course, Aim, OfKey, OfBucket, Glance, deed_of, glance_deed}
use Rattle.exchange_model.specs.Goes.{Fate, On, Ends, Spends, Refuses, first_fate, scan_begins, fate, own_after, GlanceFate, Looks, Shows, Disturbed, glance_fate, Asked, Told}
use Rattle.exchange_model.specs.Worlds.{World, Answer, Asker, BySeat, ByReader, Event, OfSeat, OfReader, IsEvent, What, Begin, Copy, Step_on, Fits, IsFlying, seat_in, with_seat, with_answer, ticked, found_by, store_after, seat_after, answers_after, stepped, goes, glances, look_after, look_answers, peek_answers, course_from, stand_at, update_begins, look_begins, call_begins, goes_on, act, happens, nobody, opening_world, Peek, Open, Peek_on, peeks_on}
use Rattle.exchange_laws.proofs.Owned.{Owned}
use Rattle.exchange_laws.proofs.OwnedRuns.{seat_is}
use Rattle.exchange_laws.proofs.SpentBuckets.{own_course}

abbrev asker_kind : Asker → ℕ
asker_kind (BySeat seat) = 0
asker_kind (ByReader reader) = 1

-- a call of a seat that was answered began before
abbrev pub BeganBefore : (clock : ℕ) → Answer → Type 0
BeganBefore clock a = (seat : ℕ) → a.by ≡ BySeat seat → a.began < clock

abbrev pub FliesSince : (clock began : ℕ) → Stand → Type 0
FliesSince clock began S.Idle = Unit {0}
FliesSince clock began (S.Goes call step) = began < clock
FliesSince clock began (S.Glances aim glance) = began < clock

module _ (plan : Plan) where
  pub record Past (x : World) : Type 0 where
    pub flights : (q : ℕ) → q < holders_of plan.settings →
        FliesSince x.clock (seat_in x q).course.began (seat_in x q).stand
    pub answers : All (BeganBefore x.clock) x.answers

  still : (clock began : ℕ) (stand : Stand) → FliesSince clock began stand → FliesSince (clock + 1) began stand
  still clock began S.Idle f = tt
  still clock began (S.Goes call step) f = omega (arith, f)
  still clock began (S.Glances aim glance) f = omega (arith, f)

  module _ (x : World) (h : Owned plan x) (past : Past x) where
    abbrev then : ℕ
    then = x.clock + 1

    answers_still : All (BeganBefore then) x.answers
    answers_still =
        All-weaker (BeganBefore x.clock) (BeganBefore then) (λ a b seat by. (let old = b seat by in
        omega (arith, old))) x.answers
        past.answers

    -- one answer more
    told_more : (by : Asker) (asked : Asked) (told : Told) (course : Course) → course.began < then →
        All (BeganBefore then) (with_answer x by asked told course)
    told_more by asked told course early =
        All-append (BeganBefore then) x.answers (_ ∷ []) answers_still
        (All-cons (BeganBefore then) _ [] (λ seat e. early) (All-nil (BeganBefore then)))

    told_reader : (r : ℕ) (asked : Asked) (told : Told) (course : Course) →
        All (BeganBefore then) (with_answer x (ByReader r) asked told course)
    told_reader r asked told course =
        All-append (BeganBefore then) x.answers (_ ∷ []) answers_still
        (All-cons (BeganBefore then) _ [] (λ seat e. absurd (let k = ap asker_kind e in omega (arith, k)))
        (All-nil (BeganBefore then)))

    module _ (p : ℕ) (inside : p < holders_of plan.settings) where
      abbrev now : SeatNow
      now = seat_in x p

      next : (store : W.Store) (own : SeatNow) (answers : List Answer) (updates : List MadeBySeat) →
          FliesSince then own.course.began own.stand → All (BeganBefore then) answers →
          Past (ticked (with_seat x p store own answers updates))
      next store own answers updates here told = record {
        flights = λ q less. elim (cases_eq q p) [
          | inl e ↦ subst (λ (k : SeatNow). FliesSince then k.course.began k.stand)
              (sym (ap (seat_in (ticked (with_seat x p store own answers updates))) e
              ∙ get_or-set_same x.seats p own nobody (let long = h.long in omega (arith, inside, long)))) here
          | inr n ↦ subst (λ (k : SeatNow). FliesSince then k.course.began k.stand)
              (sym (get_or-set_other x.seats p q own nobody n))
              (still x.clock (seat_in x q).course.began (seat_in x q).stand (past.flights q less))
        ];
        answers = told;
      }

      update_step : (call : Call) (step : Step) → now.stand ≡ S.Goes call step →
          Past (ticked (goes plan x p now call step))
      update_step call step stood =
          let deed = deed_of plan p now call step in
          let w = found_by deed x.store in
          let own = own_after plan p now call step w in
          let f = fate plan p now call step w in
          let early : now.course.began < x.clock =
          subst (FliesSince x.clock now.course.began) stood (past.flights p inside) in
          let same = ap (λ (c : Course). c.began) (own_course plan p now call step w) in
          next (store_after deed x.store) (seat_after own call f) (answers_after x p call (stepped now.course) f) _
          (stands own f (omega (arith, early, same))) (told f (omega (arith, early)))
        where
          stands : (own : SeatNow) (f : Fate) → own.course.began < then →
              FliesSince then (seat_after own call f).course.began (seat_after own call f).stand
          stands own (On s) early = early
          stands own (Ends reply) early = tt
          stands own Spends early = tt
          stands own Refuses early = tt

          told : (f : Fate) → now.course.began < then →
              All (BeganBefore then) (answers_after x p call (stepped now.course) f)
          told (On s) early = answers_still
          told (Ends reply) early = told_more _ _ _ (stepped now.course) early
          told Spends early = told_more _ _ _ (stepped now.course) early
          told Refuses early = told_more _ _ _ (stepped now.course) early

      look_step : (aim : Aim) (glance : Glance) → now.stand ≡ S.Glances aim glance →
          Past (ticked (glances plan x p now aim glance))
      look_step aim glance stood =
          let deed = glance_deed plan p now.time aim glance in
          let f = glance_fate plan now.time aim glance (found_by deed x.store) in
          let early : now.course.began < x.clock =
          subst (FliesSince x.clock now.course.began) stood (past.flights p inside) in
          next (store_after deed x.store) (look_after now aim glance f) _ x.made (stands f (omega (arith, early)))
          (told f (omega (arith, early)))
        where
          stands : (f : GlanceFate) → now.course.began < then →
              FliesSince then (look_after now aim glance f).course.began (look_after now aim glance f).stand
          stands (Looks g) early = early
          stands (Shows items) early = tt
          stands Disturbed early = early

          told : (f : GlanceFate) → now.course.began < then →
              All (BeganBefore then) (look_answers plan x p aim (stepped now.course) f)
          told (Looks g) early = answers_still
          told (Shows items) early = told_more _ _ _ (stepped now.course) early
          told Disturbed early = answers_still

      look_first : (aim : Aim) → Past (ticked (look_begins x p now aim))
      look_first aim = next x.store _ x.answers x.made (omega arith) answers_still

      update_first : (call : Call) → Past (ticked (update_begins plan x p now call))
      update_first call =
          let begun = scan_begins plan p now.free now in
          let f = first_fate begun.free begun.scan in
          next x.store (record begun { stand = stand_at call f; course = course_from x.clock })
          (answers_after x p call (course_from x.clock) f) x.made (stands f) (told f)
        where
          stands : (f : Fate) → FliesSince then x.clock (stand_at call f)
          stands (On s) = omega arith
          stands (Ends reply) = tt
          stands Spends = tt
          stands Refuses = tt

          told : (f : Fate) → All (BeganBefore then) (answers_after x p call (course_from x.clock) f)
          told (On s) = answers_still
          told (Ends reply) = told_more _ _ _ (course_from x.clock) (omega arith)
          told Spends = told_more _ _ _ (course_from x.clock) (omega arith)
          told Refuses = told_more _ _ _ (course_from x.clock) (omega arith)

      call_first : (call : Call) → Past (ticked (call_begins plan x p now call))
      call_first (Lookup key) = look_first (OfKey key)
      call_first (Insert key value) = update_first (Insert key value)
      call_first (Remove key) = update_first (Remove key)
      call_first (Tally key amount) = update_first (Tally key amount)
      call_first (Count key value amount) = update_first (Count key value amount)
      call_first (Put key value) = update_first (Put key value)

      seat_goes : (stand : Stand) → now.stand ≡ stand → IsFlying plan p stand →
          Past (ticked (goes_on plan x p now stand))
      seat_goes S.Idle e flies = absurd flies
      seat_goes (S.Goes call step) e flies = update_step call step e
      seat_goes (S.Glances aim glance) e flies = look_step aim glance e

      seat_past : (what : What) → Fits plan p now what → Past (ticked (act plan x p now what))
      seat_past (Begin call) fits = call_first call
      seat_past (Copy bucket) fits = look_first (OfBucket bucket)
      seat_past Step_on fits = seat_goes now.stand refl fits

    all_still : (q : ℕ) → q < holders_of plan.settings → FliesSince then (seat_in x q).course.began (seat_in x q).stand
    all_still q less = still x.clock (seat_in x q).course.began (seat_in x q).stand (past.flights q less)

    reader_past : (r : ℕ) (peek : Peek) → Past (happens plan x (OfReader r peek))
    reader_past r (Open aim tries) = record { flights = all_still; answers = answers_still }
    reader_past r Peek_on = go (x.readers r).stand
      where
        go : (stand : S.Peeking) → Past (ticked (peeks_on plan x r (x.readers r) stand))
        go S.Rests = record { flights = all_still; answers = answers_still }
        go (S.Peeks aim glance) = record {
          flights = all_still;
          answers = told (glance_fate plan 0 aim glance (found_by (glance_deed plan 0 0 aim glance) x.store));
        }
          where
            told : (f : GlanceFate) →
                All (BeganBefore then) (peek_answers plan x r aim (stepped (x.readers r).course) f)
            told (Looks g) = answers_still
            told (Shows items) = told_reader r _ _ (stepped (x.readers r).course)
            told Disturbed = told_reader r _ _ (stepped (x.readers r).course)

  pub past_keep : (x : World) → Owned plan x → Past x → (event : Event) → IsEvent plan x event →
      Past (happens plan x event)
  past_keep x h past (OfSeat p what) fits =
      subst (λ (c : Bool). Past (cond c (ticked (act plan x p (seat_in x p) what)) x))
      (sym (lt-ltb p (holders_of plan.settings) fits.0)) (seat_past x h past p fits.0 what fits.1)
  past_keep x h past (OfReader r peek) fits = reader_past x h past r peek

  pub past_first : IsPlan plan → Past (opening_world plan)
  past_first is = record {
    flights = λ q less. subst (λ (k : SeatNow). FliesSince 0 k.course.began k.stand) (sym (seat_is plan is q less)) tt;
    answers = All-nil (BeganBefore 0);
  }
