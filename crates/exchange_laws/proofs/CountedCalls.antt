-- What a seat has counted: it asks at most once in a call, and counts its answered updates. An update under way is
-- answered before all else.
use Rattle.std.proofs.Common.{◌≡◌, ℕ, ◌+◌, ◌≤◌, ◌⊎◌, inl, inr, List, [], ◌∷◌, ◌++◌, Option, Some, None, length, refl, sym, ap, ◌∙◌, subst, arith, append_assoc, append-nil}
use Rattle.std.proofs.lemmas.List.{length-append}
use Rattle.list_laws.proofs.Lists.{In, in_right, in_filter}
use Rattle.list_laws.proofs.Places.{in_all}
use Rattle.plain_map.specs.declared.calls.Call.{Call}
use Rattle.plain_map.specs.declared.calls.Reply.{Reply}
use Rattle.plain_map.specs.Updates.{IsUpdate}
use Rattle.exchange_model.specs.Plans.{Plan}
use Rattle.exchange_model.specs.Steps as S
use Rattle.exchange_model.specs.Steps.{Stand, Step, SeatNow}
use Rattle.exchange_model.specs.Goes.{Called, Told, Replied, Pairs, Again, Spent, Refused, asked_by_aim}
use Rattle.exchange_model.specs.Worlds.{World, Answer, BySeat, opening_world, world_after, seat_in}
use Rattle.exchange_model.specs.Laws.{IsTaken}
use Rattle.map_laws.specs.ByKey.{Made}
use Rattle.exchange_model.specs.Laws.{update_by, updates_by}
use Rattle.exchange_laws.specs.Orders.{is_by, answers_by, AskingsAreCounted, IsAnsweredFirst, InFlightIsAnswered}
use Rattle.exchange_laws.proofs.OwnedRuns.{seat_is, none_is_refused}
use Rattle.exchange_laws.proofs.CallEvents.{spare_small, glance_small, spare, answer_now, IsFailure, Passes, LookBegins, LookGoes, LookEnds, UpdateBegins, UpdateGoes, UpdateEnds, FailsFirst, FailsLater, Happens, run_from}
use Rattle.exchange_laws.proofs.SeatEvents.{PassesBy, of_seat, adds_some}
use Rattle.exchange_laws.proofs.SeatAnswers.{answers_more, own_answer, one_more, look_tells, update_tells, no_update_more, one_update_more, updates_more}

-- ---- counts

-- whether a call is under way, as a number
abbrev flying : Stand → ℕ
flying S.Idle = 0
flying stand = 1

-- what it makes is an update
abbrev MayMake : Stand → Type 0
MayMake (S.Goes call step) = IsUpdate call
MayMake stand = Unit {0}

-- what a seat has counted, and what its call may still ask
record Counted (p : ℕ) (y : World) : Type 0 where
  pub answered : (seat_in y p).answered ≡ length (updates_by p y.answers)
  pub time : (seat_in y p).time + spare (seat_in y p).stand
      ≤ length (answers_by p y.answers) + flying (seat_in y p).stand
  pub update : MayMake (seat_in y p).stand

-- an update that was not made is none of those that were answered
failure_tells : (p : ℕ) (call : Call) (told : Told) → IsFailure told → update_by p (BySeat p) (Called call) told ≡ None
failure_tells p call (Replied reply) is = absurd is
failure_tells p call (Pairs pairs) is = absurd is
failure_tells p call Again is = absurd is
failure_tells p call Spent is = refl
failure_tells p call Refused is = refl

module _ (p : ℕ) (x y : World) (k : Counted p x) where
  abbrev then : SeatNow
  then = seat_in y p

  abbrev now : SeatNow
  now = seat_in x p

  -- nothing is answered
  none : (was is : Stand) → now.stand ≡ was → then.stand ≡ is → then.answered ≡ now.answered →
      (now.time + spare was ≤ length (answers_by p x.answers) + flying was →
      then.time + spare is ≤ length (answers_by p x.answers) + flying is) → MayMake is → y.answers ≡ x.answers →
      Counted p y
  none was is stood stands a t update e = record {
    answered = a ∙ k.answered ∙ ap (λ (all : List Answer). length (updates_by p all)) (sym e);
    time =
        subst (λ (all : List Answer). then.time + spare then.stand ≤ length (answers_by p all) + flying then.stand)
        (sym e)
        (subst (λ (s : Stand). then.time + spare s ≤ length (answers_by p x.answers) + flying s) (sym stands)
        (t (subst (λ (s : Stand). now.time + spare s ≤ length (answers_by p x.answers) + flying s) stood k.time)));
    update = subst MayMake (sym stands) update;
  }

  -- a call is answered
  one : (was : Stand) (a : Answer) → now.stand ≡ was → then.stand ≡ S.Idle → a.by ≡ BySeat p →
      then.answered ≡ length (updates_by p (x.answers ++ a ∷ [])) →
      (now.time + spare was ≤ length (answers_by p x.answers) + flying was →
      then.time ≤ length (answers_by p x.answers) + 1) → y.answers ≡ x.answers ++ a ∷ [] → Counted p y
  one was a stood stands by_is answered t e = record {
    answered = answered ∙ ap (λ (all : List Answer). length (updates_by p all)) (sym e);
    time =
        let low = t (subst (λ (s : Stand). now.time + spare s ≤ length (answers_by p x.answers) + flying s) stood
        k.time) in
        let more = one_more p x.answers a by_is in
        subst (λ (all : List Answer). then.time + spare then.stand ≤ length (answers_by p all) + flying then.stand)
        (sym e)
        (subst (λ (s : Stand). then.time + spare s ≤ length (answers_by p (x.answers ++ a ∷ [])) + flying s)
        (sym stands) (omega (arith, low, more)));
    update = subst MayMake (sym stands) tt;
  }

  -- an answer that tells no update leaves the count
  same_updates : (a : Answer) → then.answered ≡ now.answered →
      updates_by p (x.answers ++ a ∷ []) ≡ updates_by p x.answers →
      then.answered ≡ length (updates_by p (x.answers ++ a ∷ []))
  same_updates a same e = same ∙ k.answered ∙ ap (λ (all : List Made). length all) (sym e)

  -- its own event keeps it
  count_passes : Passes x y p now then → Counted p y
  count_passes (LookBegins aim glance stood is began same a t e) =
      none S.Idle (S.Glances aim glance) stood is a
      (λ was. (let small = glance_small glance in omega (arith, was, t, small))) tt e
  count_passes (LookGoes aim glance next stood is began same a t e) =
      none (S.Glances aim glance) (S.Glances aim next) stood is a (λ was. omega (arith, was, t)) tt e
  count_passes (LookEnds aim glance told course stood is began same a t e) =
      let here = answer_now x (BySeat p) (asked_by_aim aim) told course in
      one (S.Glances aim glance) here stood is refl
      (same_updates here a (no_update_more p x.answers here (look_tells p aim told)))
      (λ was. omega (arith, was, t)) e
  count_passes (UpdateBegins call step stood is update began same a t e) =
      none S.Idle (S.Goes call step) stood is a
      (λ was. (let small = spare_small step in omega (arith, was, t, small))) update e
  count_passes (UpdateGoes call step next stood is began same still a t e) =
      none (S.Goes call step) (S.Goes call next) stood is a (λ was. omega (arith, was, t))
      (subst MayMake stood k.update) e
  count_passes (UpdateEnds call step reply course stood is began a t e) =
      let here = answer_now x (BySeat p) (Called call) (Replied reply) course in
      let more = one_update_more p x.answers here (call, reply)
      (update_tells p call reply (subst MayMake stood k.update)) in
      one (S.Goes call step) here stood is refl
      (let long = ap (λ (all : List Made). length all) more in
      let two = length-append (updates_by p x.answers) ((call, reply) ∷ []) in
      let was = k.answered in
      omega (arith, a, long, two, was))
      (λ was. omega (arith, was, t)) e
  count_passes (FailsFirst call told course stood is update began fails same a t e) =
      let here = answer_now x (BySeat p) (Called call) told course in
      one S.Idle here stood is refl (same_updates here a
      (no_update_more p x.answers here (failure_tells p call told fails)))
      (λ was. omega (arith, was, t)) e
  count_passes (FailsLater call step told course stood is began fails same still a t e) =
      let here = answer_now x (BySeat p) (Called call) told course in
      one (S.Goes call step) here stood is refl
      (same_updates here a (no_update_more p x.answers here (failure_tells p call told fails)))
      (λ was. omega (arith, was, t)) e

  -- others answer
  count_stays : PassesBy x y p → Counted p y
  count_stays l =
      let answers_are : answers_by p y.answers ≡ answers_by p x.answers =
      ap (answers_by p) l.answers ∙ answers_more p x.answers l.more
      ∙ ap (λ (more : List Answer). answers_by p x.answers ++ more) l.none ∙ append-nil (answers_by p x.answers) in
      let updates_are : updates_by p y.answers ≡ updates_by p x.answers =
      ap (updates_by p) l.answers ∙ updates_more p x.answers l.more
      ∙ ap (λ (more : List Made). updates_by p x.answers ++ more) l.no_update
      ∙ append-nil (updates_by p x.answers) in
      record {
        answered = ap (λ (s : SeatNow). s.answered) l.seat ∙ k.answered
            ∙ ap (λ (all : List Made). length all) (sym updates_are);
        time = subst (λ (all : List Answer). then.time + spare then.stand ≤ length all + flying then.stand)
            (sym answers_are)
            (subst (λ (s : SeatNow). s.time + spare s.stand ≤ length (answers_by p x.answers) + flying s.stand)
            (sym l.seat) k.time);
        update = subst (λ (s : SeatNow). MayMake s.stand) (sym l.seat) k.update;
      }

-- so does each event
count_keeps : (plan : Plan) (p : ℕ) (x y : World) → Counted p x → Happens plan x y → Counted p y
count_keeps plan p x y k event =
    elim (of_seat plan x y event p) [ inl passes ↦ count_passes p x y k passes | inr l ↦ count_stays p x y k l ]

-- THE RESULT
pub askings_are_counted : AskingsAreCounted
askings_are_counted plan events p run inside idle =
    let k = run_from plan (Counted p) (count_keeps plan p) [] events run start in
    let t = subst (λ (s : Stand). (seat_in (world_after plan events) p).time + spare s
    ≤ length (answers_by p (world_after plan events).answers) + flying s) idle k.time in
    (omega (arith, t), k.answered)
  where
    start : Counted p (opening_world plan)
    start = record {
      answered = ap (λ (s : SeatNow). s.answered) (seat_is plan run.opened p inside);
      time = subst (λ (s : SeatNow). s.time + spare s.stand ≤ 0 + flying s.stand)
          (sym (seat_is plan run.opened p inside)) (omega arith);
      update = subst (λ (s : SeatNow). MayMake s.stand) (sym (seat_is plan run.opened p inside)) tt;
    }

-- ---- an update under way

-- the call of the update that a seat makes
abbrev call_at : Stand → Option Call
call_at (S.Goes call step) = Some call
call_at stand = None

-- it was answered, or not made
abbrev IsEnded : Told → Type 0
IsEnded told = ((reply : Reply) × (told ≡ Replied reply)) ⊎ IsFailure told

module _ (plan : Plan) (first : World) (p : ℕ) (call : Call) where
  -- the first answer since is to the call
  record Answered (later : List Answer) : Type 0 where
    pub answer : Answer
    pub others : List Answer
    pub of_seat : answers_by p later ≡ answer ∷ others
    pub asked_is : answer.asked ≡ Called call
    pub ended : IsEnded answer.told

  -- it is under way, and nothing was answered since
  abbrev Waits : World → List Answer → Type 0
  Waits y later = (call_at (seat_in y p).stand ≡ Some call) × (answers_by p later ≡ [])

  -- one of both
  record Awaits (y : World) : Type 0 where
    pub later : List Answer
    pub answers : y.answers ≡ first.answers ++ later
    pub state : Waits y later ⊎ Answered later

  module _ (x y : World) (later more : List Answer) (was : x.answers ≡ first.answers ++ later)
      (e : y.answers ≡ x.answers ++ more) where
    -- the answers since, with more
    answers_are : y.answers ≡ first.answers ++ (later ++ more)
    answers_are = e ∙ ap (λ (all : List Answer). all ++ more) was ∙ append_assoc first.answers later more

    -- what was answered first stays the first
    answered_stays : Answered later → Awaits y
    answered_stays k = record {
      later = later ++ more;
      answers = answers_are;
      state = inr (record {
        answer = k.answer;
        others = k.others ++ answers_by p more;
        of_seat = answers_more p later more
            ∙ ap (λ (all : List Answer). all ++ answers_by p more) k.of_seat;
        asked_is = k.asked_is;
        ended = k.ended;
      });
    }

    -- it is still under way
    waits_on : call_at (seat_in y p).stand ≡ Some call → answers_by p later ≡ [] → answers_by p more ≡ [] → Awaits y
    waits_on there none no_more = record {
      later = later ++ more;
      answers = answers_are;
      state = inl (
        there,
        answers_more p later more ∙ ap (λ (all : List Answer). all ++ answers_by p more) none ∙ no_more,
      );
    }

  -- it is answered now
  answered_now : (x y : World) (later : List Answer) (a : Answer) → x.answers ≡ first.answers ++ later →
      y.answers ≡ x.answers ++ a ∷ [] → answers_by p later ≡ [] → a.by ≡ BySeat p → a.asked ≡ Called call →
      IsEnded a.told → Awaits y
  answered_now x y later a was e none by_is asked_is ended = record {
    later = later ++ a ∷ [];
    answers = answers_are x y later (a ∷ []) was e;
    state = inr (record {
      answer = a;
      others = [];
      of_seat = answers_more p later (a ∷ [])
          ∙ ap (λ (all : List Answer). all ++ answers_by p (a ∷ [])) none ∙ own_answer p a by_is;
      asked_is = asked_is;
      ended = ended;
    });
  }

  -- its own event leaves it under way or answers it
  waits_pass : (x y : World) (later : List Answer) → x.answers ≡ first.answers ++ later →
      call_at (seat_in x p).stand ≡ Some call → answers_by p later ≡ [] →
      Passes x y p (seat_in x p) (seat_in y p) → Awaits y
  waits_pass x y later was there none passes = go passes
    where
      away : (stand : Stand) → call_at stand ≡ None → (seat_in x p).stand ≡ stand → ⊥
      away stand away_is stood = let clash : None ≡ Some call = sym away_is ∙ ap call_at (sym stood) ∙ there in cc

      its : (c : Call) (step : Step) → (seat_in x p).stand ≡ S.Goes c step → c ≡ call
      its c step stood = let same : Some c ≡ Some call = ap call_at (sym stood) ∙ there in cc

      go : Passes x y p (seat_in x p) (seat_in y p) → Awaits y
      go (LookBegins aim glance stood is began same a t e) = absurd (away S.Idle refl stood)
      go (LookGoes aim glance next stood is began same a t e) = absurd (away (S.Glances aim glance) refl stood)
      go (LookEnds aim glance told course stood is began same a t e) = absurd (away (S.Glances aim glance) refl stood)
      go (UpdateBegins c step stood is update began same a t e) = absurd (away S.Idle refl stood)
      go (UpdateGoes c step next stood is began same still a t e) =
          waits_on x y later [] was (e ∙ sym (append-nil x.answers)) (ap call_at is ∙ ap Some (its c step stood)) none
          refl
      go (UpdateEnds c step reply course stood is began a t e) =
          answered_now x y later (answer_now x (BySeat p) (Called c) (Replied reply) course) was e none refl
          (ap Called (its c step stood)) (inl (reply, refl))
      go (FailsFirst c told course stood is update began fails same a t e) = absurd (away S.Idle refl stood)
      go (FailsLater c step told course stood is began fails same still a t e) =
          answered_now x y later (answer_now x (BySeat p) (Called c) told course) was e none refl
          (ap Called (its c step stood)) (inr fails)

  -- each event keeps it
  awaits_on : (x y : World) → Awaits x → Happens plan x y → Awaits y
  awaits_on x y k event = elim k.state [
    | inr answered ↦ (let more = adds_some plan x y event in
        answered_stays x y k.later more.0 k.answers more.1 answered)
    | inl waits ↦ elim (of_seat plan x y event p) [
      | inl passes ↦ waits_pass x y k.later k.answers waits.0 waits.1 passes
      | inr l ↦ waits_on x y k.later l.more k.answers l.answers
          (ap (λ (s : SeatNow). call_at s.stand) l.seat ∙ waits.0) waits.1 l.none
    ]
  ]

-- none was refused
replied : (told : Told) → IsTaken told → IsEnded told → ((reply : Reply) × (told ≡ Replied reply)) ⊎ (told ≡ Spent)
replied told taken (inl r) = inl r
replied (Replied reply) taken (inr fails) = absurd fails
replied (Pairs pairs) taken (inr fails) = absurd fails
replied Again taken (inr fails) = absurd fails
replied Spent taken (inr fails) = inr refl
replied Refused taken (inr fails) = absurd taken

-- THE RESULT
pub in_flight_is_answered : InFlightIsAnswered
in_flight_is_answered plan front back p call step run inside stood idle =
    let f = world_after plan front in
    let start : Awaits plan f p call f = record {
      later = [];
      answers = sym (append-nil f.answers);
      state = inl (ap call_at stood, refl);
    } in
    let k = run_from plan (Awaits plan f p call) (awaits_on plan f p call) front back run start in
    elim k.state [
      | inl waits ↦ (let clash : None ≡ Some call = ap call_at (sym idle) ∙ waits.0 in absurd (none_some clash))
      | inr answered ↦ ended k answered
    ]
  where
    none_some : None ≡ Some call → ⊥
    none_some e = cc

    ended : (k : Awaits plan (world_after plan front) p call (world_after plan (front ++ back))) →
        Answered plan (world_after plan front) p call k.later →
        IsAnsweredFirst plan front (front ++ back) p call
    ended k answered =
        let there = in_filter (λ (a : Answer). is_by p a.by) k.later answered.answer
        (subst (In answered.answer) (sym answered.of_seat) (inl refl)) in
        let taken = in_all (λ (a : Answer). IsTaken a.told) (world_after plan (front ++ back)).answers answered.answer
        (none_is_refused plan (front ++ back) run)
        (subst (In answered.answer) (sym k.answers)
        (in_right answered.answer (world_after plan front).answers k.later there.0)) in
        record {
          later = k.later;
          answers = k.answers;
          answer = answered.answer;
          others = answered.others;
          of_seat = answered.of_seat;
          asked_is = answered.asked_is;
          told_is = replied answered.answer.told taken answered.ended;
        }
