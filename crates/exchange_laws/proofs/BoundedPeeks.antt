-- Each call of a reader that cannot hold is answered within the bound of the tries that it began with.
use Rattle.std.proofs.Common.{◌≡◌, ℕ, zero, suc, ◌+◌, ◌-◌, ◌*◌, ◌≤◌, inl, inr, Bool, cond, List, [], ◌∷◌, ◌++◌, length, refl, sym, ap, ◌∙◌, subst, arith, append_assoc, append-nil, lt-ltb}
use Rattle.std.specs.Prelude.{All, fold}
use Rattle.std.proofs.lemmas.List.{length-append}
use Rattle.std.proofs.lemmas.List.Elements.{All-nil, All-cons, All-append, All-weaker}
use Rattle.plain_map.specs.declared.calls.Call.{Call}
use Rattle.plain_map.specs.declared.calls.Call.TheVariants.{Insert, Remove, Lookup, Tally, Count, Put}
use Rattle.exchange_model.specs.Plans.{Plan, holders_of}
use Rattle.exchange_model.specs.Bounds.{peek_bound}
use Rattle.exchange_model.specs.Steps as S
use Rattle.exchange_model.specs.Steps.{Stand, SeatNow, ReaderNow, Peeking, Course, Aim, glance_deed}
use Rattle.exchange_model.specs.Goes.{Fate, On, Ends, Spends, Refuses, GlanceFate, Looks, Shows, Disturbed, glance_fate, Told, Again, asked_by_aim, told_by_items}
use Rattle.exchange_model.specs.Worlds.{World, Answer, Asker, BySeat, ByReader, Event, OfSeat, OfReader, IsEvent, AreEvents, What, Begin, Copy, Step_on, Peek, Open, Peek_on, IsPeeking, PeekFits, seat_in, ticked, found_by, stepped, with_reader, peek_after, peek_answers, answers_after, look_answers, peeks_on, goes_on, act, call_begins, happens, course_from, opening_world}
use Rattle.exchange_laws.specs.PeekBounds.{IsPeekWithin, PeeksAreBounded}
use Rattle.exchange_laws.proofs.Places.{either_put}
use Rattle.exchange_laws.proofs.LookBounds.{again, look_left, FineLook, NextLook, looks}

-- who asked, as a number
abbrev asker_code : Asker → ℕ
asker_code (BySeat seat) = 0
asker_code (ByReader reader) = reader + 1

-- ---- a seat's event answers seats alone, and leaves readers as they are

module _ (P : Answer → Type 0) (seats : (a : Answer) (seat : ℕ) → a.by ≡ BySeat seat → P a) where
  one_more : (x : World) (p : ℕ) (a : Answer) → a.by ≡ BySeat p → All P x.answers → All P (x.answers ++ a ∷ [])
  one_more x p a by all = All-append P x.answers (a ∷ []) all (All-cons P a [] (seats a p by) (All-nil P))

  by_fate : (x : World) (p : ℕ) (call : Call) (course : Course) (f : Fate) → All P x.answers →
      All P (answers_after x p call course f)
  by_fate x p call course (On step) all = all
  by_fate x p call course (Ends reply) all = one_more x p _ refl all
  by_fate x p call course Spends all = one_more x p _ refl all
  by_fate x p call course Refuses all = one_more x p _ refl all

  by_look : (plan : Plan) (x : World) (p : ℕ) (aim : Aim) (course : Course) (f : GlanceFate) → All P x.answers →
      All P (look_answers plan x p aim course f)
  by_look plan x p aim course (Looks glance) all = all
  by_look plan x p aim course (Shows items) all = one_more x p _ refl all
  by_look plan x p aim course Disturbed all = all

  by_call : (plan : Plan) (x : World) (p : ℕ) (now : SeatNow) (call : Call) → All P x.answers →
      All P (call_begins plan x p now call).answers
  by_call plan x p now (Lookup key) all = all
  by_call plan x p now (Insert key value) all = by_fate x p (Insert key value) _ _ all
  by_call plan x p now (Remove key) all = by_fate x p (Remove key) _ _ all
  by_call plan x p now (Tally key amount) all = by_fate x p (Tally key amount) _ _ all
  by_call plan x p now (Count key value amount) all = by_fate x p (Count key value amount) _ _ all
  by_call plan x p now (Put key value) all = by_fate x p (Put key value) _ _ all

  by_stand : (plan : Plan) (x : World) (p : ℕ) (now : SeatNow) (stand : Stand) → All P x.answers →
      All P (goes_on plan x p now stand).answers
  by_stand plan x p now S.Idle all = all
  by_stand plan x p now (S.Goes call step) all = by_fate x p call _ _ all
  by_stand plan x p now (S.Glances aim glance) all = by_look plan x p aim _ _ all

  seat_answers : (plan : Plan) (x : World) (p : ℕ) (now : SeatNow) (what : What) → All P x.answers →
      All P (act plan x p now what).answers
  seat_answers plan x p now (Begin call) all = by_call plan x p now call all
  seat_answers plan x p now (Copy bucket) all = all
  seat_answers plan x p now Step_on all = by_stand plan x p now now.stand all

abbrev Left : World → World → Type 0
Left x y = (y.readers ≡ x.readers) × (y.clock ≡ x.clock)

call_left : (plan : Plan) (x : World) (p : ℕ) (now : SeatNow) (call : Call) → Left x (call_begins plan x p now call)
call_left plan x p now (Lookup key) = (refl, refl)
call_left plan x p now (Insert key value) = (refl, refl)
call_left plan x p now (Remove key) = (refl, refl)
call_left plan x p now (Tally key amount) = (refl, refl)
call_left plan x p now (Count key value amount) = (refl, refl)
call_left plan x p now (Put key value) = (refl, refl)

stand_left : (plan : Plan) (x : World) (p : ℕ) (now : SeatNow) (stand : Stand) → Left x (goes_on plan x p now stand)
stand_left plan x p now S.Idle = (refl, refl)
stand_left plan x p now (S.Goes call step) = (refl, refl)
stand_left plan x p now (S.Glances aim glance) = (refl, refl)

act_left : (plan : Plan) (x : World) (p : ℕ) (now : SeatNow) (what : What) → Left x (act plan x p now what)
act_left plan x p now (Begin call) = call_left plan x p now call
act_left plan x p now (Copy bucket) = (refl, refl)
act_left plan x p now Step_on = stand_left plan x p now now.stand

module _ (plan : Plan) where
  -- the bound of so many tries
  again_is : (tries : ℕ) → again plan 0 tries ≡ peek_bound plan.settings tries
  again_is zero = omega arith
  again_is (suc tries) =
      let rest = again_is tries in
      let k : ℕ = 1 + (1 + 7 * plan.settings.items) + 1 in
      let step : suc tries * (1 + (1 + 7 * plan.settings.items) + 1)
      ≡ (1 + (1 + 7 * plan.settings.items) + 1) + tries * (1 + (1 + 7 * plan.settings.items) + 1) = omega arith in
      omega (arith, rest, step)

  -- its call began so, and what it has taken and has left is within the bound
  pub record Within (es : List Event) (r : ℕ) (aim : Aim) (began steps left : ℕ) : Type 0 where
    pub front : List Event
    pub back : List Event
    pub tries : ℕ
    pub cut : es ≡ front ++ OfReader r (Open aim tries) ∷ back
    pub since : began ≡ length front
    pub few : steps + left ≤ again plan 0 tries

  longer : (es : List Event) (event : Event) (r : ℕ) (aim : Aim) (began steps left : ℕ) →
      Within es r aim began steps left → Within (es ++ event ∷ []) r aim began steps left
  longer es event r aim began steps left w = record {
    front = w.front;
    back = w.back ++ event ∷ [];
    tries = w.tries;
    cut = ap (λ (xs : List Event). xs ++ event ∷ []) w.cut
        ∙ append_assoc w.front (OfReader r (Open aim w.tries) ∷ w.back) (event ∷ []);
    since = w.since;
    few = w.few;
  }

  abbrev InCall : (es : List Event) (r : ℕ) → Course → Peeking → Type 0
  InCall es r course S.Rests = Unit {0}
  InCall es r course (S.Peeks aim glance) =
      FineLook plan 0 glance × Within es r aim course.began course.steps (look_left plan 0 glance)

  abbrev IsAnswered : (es : List Event) → Answer → Type 0
  IsAnswered es a = (reader : ℕ) → a.by ≡ ByReader reader → IsPeekWithin plan.settings es a reader

  call_longer : (es : List Event) (event : Event) (r : ℕ) (course : Course) (stand : Peeking) →
      InCall es r course stand →
      InCall (es ++ event ∷ []) r course stand
  call_longer es event r course S.Rests k = tt
  call_longer es event r course (S.Peeks aim glance) k =
      (k.0, longer es event r aim course.began course.steps (look_left plan 0 glance) k.1)

  answer_longer : (es : List Event) (event : Event) (a : Answer) → IsAnswered es a → IsAnswered (es ++ event ∷ []) a
  answer_longer es event a k reader by =
      let w = k reader by in
      record {
        front = w.front;
        back = w.back ++ event ∷ [];
        aim = w.aim;
        tries = w.tries;
        cut = ap (λ (xs : List Event). xs ++ event ∷ []) w.cut
            ∙ append_assoc w.front (OfReader reader (Open w.aim w.tries) ∷ w.back) (event ∷ []);
        began = w.began;
        asked = w.asked;
        steps = w.steps;
      }

  pub record Timed (es : List Event) (x : World) : Type 0 where
    pub clock : x.clock ≡ length es
    pub readers : (r : ℕ) → InCall es r (x.readers r).course (x.readers r).stand
    pub answers : All (IsAnswered es) x.answers

  module _ (es : List Event) (x : World) (k : Timed es x) where
    -- a reader is answered now
    told_now : (r : ℕ) (aim : Aim) (told : Told) (course : Course) (left : ℕ) →
        Within es r aim course.began course.steps left →
        All (IsAnswered es) (x.answers ++ record {
          by = ByReader r;
          asked = asked_by_aim aim;
          told = told;
          began = course.began;
          ended = x.clock + 1;
          steps = course.steps;
        } ∷ [])
    told_now r aim told course left w =
        All-append (IsAnswered es) x.answers (a ∷ []) k.answers
        (All-cons (IsAnswered es) a [] here (All-nil (IsAnswered es)))
      where
        a : Answer
        a = record {
          by = ByReader r;
          asked = asked_by_aim aim;
          told = told;
          began = course.began;
          ended = x.clock + 1;
          steps = course.steps;
        }

        mine : IsPeekWithin plan.settings es a r
        mine = record {
          front = w.front;
          back = w.back;
          aim = aim;
          tries = w.tries;
          cut = w.cut;
          began = w.since;
          asked = refl;
          steps = (let few = w.few in let is = again_is w.tries in omega (arith, few, is));
        }

        here : IsAnswered es a
        here reader by =
            let same : r ≡ reader = (let e = ap asker_code by in omega (arith, e)) in
            subst (λ i. IsPeekWithin plan.settings es a i) same mine

    reader_next : (event : Event) (r : ℕ) (then : ReaderNow) (answers : List Answer) →
        InCall (es ++ event ∷ []) r then.course then.stand → All (IsAnswered es) answers →
        Timed (es ++ event ∷ []) (ticked (with_reader x r then answers))
    reader_next event r then answers stand all = record {
      clock = (let long = length-append es (event ∷ []) in let was = k.clock in omega (arith, long, was));
      readers = λ q. elim (either_put x.readers r then q) [
        | inl e ↦ subst (λ (s : ReaderNow). InCall (es ++ event ∷ []) q s.course s.stand) (sym e.1)
            (subst (λ i. InCall (es ++ event ∷ []) i then.course then.stand) (sym e.0) stand)
        | inr n ↦ subst (λ (s : ReaderNow). InCall (es ++ event ∷ []) q s.course s.stand) (sym n.1)
            (call_longer es event q (x.readers q).course (x.readers q).stand (k.readers q))
      ];
      answers = All-weaker (IsAnswered es) (IsAnswered (es ++ event ∷ [])) (λ a h. answer_longer es event a h) answers
          all;
    }

    goes : (r : ℕ) (stand : Peeking) → (x.readers r).stand ≡ stand → IsPeeking stand →
        Timed (es ++ OfReader r Peek_on ∷ []) (ticked (peeks_on plan x r (x.readers r) stand))
    goes r S.Rests e flies = absurd flies
    goes r (S.Peeks aim glance) e flies =
        reader_next (OfReader r Peek_on) r (peek_after me aim f) (peek_answers plan x r aim (stepped me.course) f)
        (stand f (looks plan 0 0 aim glance word was.0)) (told f (looks plan 0 0 aim glance word was.0))
      where
        me : ReaderNow
        me = x.readers r

        word : ℕ
        word = found_by (glance_deed plan 0 0 aim glance) x.store

        f : GlanceFate
        f = glance_fate plan 0 aim glance word

        was : FineLook plan 0 glance × Within es r aim me.course.began me.course.steps (look_left plan 0 glance)
        was = subst (InCall es r me.course) e (k.readers r)

        fewer : (left : ℕ) → left + 1 ≤ look_left plan 0 glance →
            Within es r aim me.course.began (me.course.steps + 1) left
        fewer left less =
            let w = was.1 in record {
              front = w.front;
              back = w.back;
              tries = w.tries;
              cut = w.cut;
              since = w.since;
              few = (let most = w.few in omega (arith, most, less));
            }

        stand : (d : GlanceFate) → NextLook plan 0 (look_left plan 0 glance) d →
            InCall (es ++ OfReader r Peek_on ∷ []) r (peek_after me aim d).course (peek_after me aim d).stand
        stand (Looks then) n = (
          n.0,
          longer es (OfReader r Peek_on) r aim me.course.began (me.course.steps + 1) (look_left plan 0 then)
              (fewer (look_left plan 0 then) n.1),
        )
        stand (Shows items) n = tt
        stand Disturbed n = tt

        told : (d : GlanceFate) → NextLook plan 0 (look_left plan 0 glance) d →
            All (IsAnswered es) (peek_answers plan x r aim (stepped me.course) d)
        told (Looks then) n = k.answers
        told (Shows items) n = told_now r aim (told_by_items plan aim items) (stepped me.course) 0 (fewer 0 n)
        told Disturbed n = told_now r aim Again (stepped me.course) 0 (fewer 0 n)

    reader_acts : (r : ℕ) (peek : Peek) → PeekFits plan (x.readers r) peek →
        Timed (es ++ OfReader r peek ∷ []) (happens plan x (OfReader r peek))
    reader_acts r (Open aim tries) fits =
        reader_next (OfReader r (Open aim tries)) r
        (record { stand = S.Peeks aim (S.GlanceWord (tries - 1)); course = course_from x.clock }) x.answers (
          tt,
          record {
            front = es;
            back = [];
            tries = tries;
            cut = refl;
            since = k.clock;
            few = first tries fits.2;
          },
        ) k.answers
      where
        first : (t : ℕ) → 1 ≤ t → 0 + look_left plan 0 (S.GlanceWord (t - 1)) ≤ again plan 0 t
        first zero some = absurd (omega (arith, some))
        first (suc t) some =
            let e : suc t - 1 ≡ t = omega arith in
            let same = ap (again plan 0) e in omega (arith, same)
    reader_acts r Peek_on fits = goes r (x.readers r).stand refl fits

    seat_acts : (p : ℕ) (what : What) → IsEvent plan x (OfSeat p what) →
        Timed (es ++ OfSeat p what ∷ []) (happens plan x (OfSeat p what))
    seat_acts p what fits =
        let event = OfSeat p what in
        let y = ticked (act plan x p (seat_in x p) what) in
        let left = act_left plan x p (seat_in x p) what in
        subst (λ (c : Bool). Timed (es ++ event ∷ []) (cond c y x)) (sym (lt-ltb p (holders_of plan.settings) fits.0))
        (record {
          clock = (let long = length-append es (event ∷ []) in let was = k.clock in let same = left.1 in
              omega (arith, long, was, same));
          readers = λ r. subst (λ (f : ℕ → ReaderNow). InCall (es ++ event ∷ []) r (f r).course (f r).stand)
              (sym left.0)
              (call_longer es event r (x.readers r).course (x.readers r).stand (k.readers r));
          answers = seat_answers (IsAnswered (es ++ event ∷ []))
              (λ a seat by reader of. absurd (let e = ap asker_code (sym by ∙ of) in omega (arith, e))) plan x p
              (seat_in x p) what
              (All-weaker (IsAnswered es) (IsAnswered (es ++ event ∷ [])) (λ a h. answer_longer es event a h) x.answers
              k.answers);
        })

    timed_next : (event : Event) → IsEvent plan x event → Timed (es ++ event ∷ []) (happens plan x event)
    timed_next (OfSeat p what) fits = seat_acts p what fits
    timed_next (OfReader r peek) fits = reader_acts r peek fits

  timed_follow : (es events : List Event) (x : World) → Timed es x → AreEvents plan x events →
      Timed (es ++ events) (fold (happens plan) x events)
  timed_follow es [] x k follow = subst (λ (l : List Event). Timed l x) (sym (append-nil es)) k
  timed_follow es (event ∷ events) x k follow =
      subst (λ (l : List Event). Timed l (fold (happens plan) (happens plan x event) events))
      (append_assoc es (event ∷ []) events)
      (timed_follow (es ++ event ∷ []) events (happens plan x event) (timed_next es x k event follow.0) follow.1)

-- THE RESULT
pub peeks_are_bounded : PeeksAreBounded
peeks_are_bounded plan events run =
    (timed_follow plan [] events (opening_world plan) (record {
      clock = refl;
      readers = λ r. tt;
      answers = All-nil (λ (a : Answer). (reader : ℕ) → a.by ≡ ByReader reader →
          IsPeekWithin plan.settings [] a reader);
    }) run.follow).answers
