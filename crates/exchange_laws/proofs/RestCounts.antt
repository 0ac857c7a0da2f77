-- Where no seat has answered more updates, no update was answered; and answers stay.
use Rattle.std.proofs.Common.{◌≡◌, ℕ, ◌<◌, ◌≤◌, inl, inr, List, [], ◌∷◌, ◌++◌, get_or, refl, sym, ap, ◌∙◌, subst, arith, append_assoc, append-nil}
use Rattle.std.specs.Prelude.{All}
use Rattle.std.proofs.lemmas.List.Elements.{All-nil, All-cons, All-append}
use Rattle.list_laws.proofs.Lists.{In, in_left, in_right}
use Rattle.list_laws.proofs.Places.{in_all}
use Rattle.exchange_model.specs.Plans.{Plan}
use Rattle.exchange_model.specs.Steps.{SeatNow, Aim, OfKey, OfBucket}
use Rattle.exchange_model.specs.Goes.{Asked, Called, Told, Replied, Pairs, Again, Spent, Refused, asked_by_aim}
use Rattle.exchange_model.specs.Laws.{IsTaken}
use Rattle.exchange_model.specs.Worlds.{World, Answer, Asker, BySeat, ByReader, world_after, seat_in}
use Rattle.exchange_laws.specs.Orders.{IsNoUpdate, MakesNothing, Rests, AnswersStay, CountsTellRests}
use Rattle.exchange_laws.proofs.OwnedRuns.{none_is_refused}
use Rattle.exchange_laws.proofs.CallEvents.{IsReader, IsGoing, answer_now, IsFailure, Passes, LookBegins, LookGoes, LookEnds, UpdateBegins, UpdateGoes, UpdateEnds, FailsFirst, FailsLater, Happens, SeatPasses, ReaderPeeks, run_from}
use Rattle.exchange_laws.proofs.SeatEvents.{of_seat, adds_some}

-- ---- answers

-- each event keeps the answers
answers_go_on : (plan : Plan) (first x y : World) →
    ((later : List Answer) × (x.answers ≡ first.answers ++ later)) → Happens plan x y →
    (later : List Answer) × (y.answers ≡ first.answers ++ later)
answers_go_on plan first x y k event =
    let more = adds_some plan x y event in (
      k.0 ++ more.0,
      more.1 ∙ ap (λ (all : List Answer). all ++ more.0) k.1 ∙ append_assoc first.answers k.0 more.0,
    )

-- THE RESULT: answers stay
pub answers_stay : AnswersStay
answers_stay plan front back run =
    let f = world_after plan front in
    run_from plan (λ y. (later : List Answer) × (y.answers ≡ f.answers ++ later)) (answers_go_on plan f) front back run
    ([], sym (append-nil f.answers))

-- ---- counts

-- a seat's count of its updates does not fall
passes_up : (x y : World) (p : ℕ) → Passes x y p (seat_in x p) (seat_in y p) →
    (seat_in x p).answered ≤ (seat_in y p).answered
passes_up x y p (LookBegins aim glance stood is began same a t e) = omega (arith, a)
passes_up x y p (LookGoes aim glance next stood is began same a t e) = omega (arith, a)
passes_up x y p (LookEnds aim glance told course stood is began same a t e) = omega (arith, a)
passes_up x y p (UpdateBegins call step stood is update began same a t e) = omega (arith, a)
passes_up x y p (UpdateGoes call step next stood is began same still a t e) = omega (arith, a)
passes_up x y p (UpdateEnds call step reply course stood is began a t e) = omega (arith, a)
passes_up x y p (FailsFirst call told course stood is update began fails same a t e) = omega (arith, a)
passes_up x y p (FailsLater call step told course stood is began fails same still a t e) = omega (arith, a)

-- so with each event
counts_up : (plan : Plan) (x y : World) → Happens plan x y → (q : ℕ) →
    (seat_in x q).answered ≤ (seat_in y q).answered
counts_up plan x y event q = elim (of_seat plan x y event q) [
  | inl passes ↦ passes_up x y q passes
  | inr l ↦ (let same = ap (λ (s : SeatNow). s.answered) l.seat in omega (arith, same))
]

-- a reader makes no update
reader_looks : (by : Asker) (asked : Asked) → IsReader by → IsNoUpdate by asked
reader_looks (BySeat seat) asked r = absurd r
reader_looks (ByReader reader) asked r = tt

-- nor does a look of a seat
aim_looks : (p : ℕ) (aim : Aim) → IsNoUpdate (BySeat p) (asked_by_aim aim)
aim_looks p (OfKey key) = tt
aim_looks p (OfBucket bucket) = tt

-- these are no updates
abbrev AreLooks : List Answer → Type 0
AreLooks later = All MakesNothing later

module _ (plan : Plan) (first : World) where
  -- these answers are looks, or a seat has counted an update, or one was refused
  data Calm (y : World) (later : List Answer) : Type 0 where
    OnlyLooks : AreLooks later → Calm y later
    OneCounted : (q : ℕ) → q < plan.settings.seats → (seat_in first q).answered < (seat_in y q).answered →
        Calm y later
    OneRefused : (a : Answer) → In a later → a.told ≡ Refused → Calm y later

  -- with the answers since
  record Counts (y : World) : Type 0 where
    pub later : List Answer
    pub answers : y.answers ≡ first.answers ++ later
    pub up : (q : ℕ) → (seat_in first q).answered ≤ (seat_in y q).answered
    pub calm : Calm y later

  module _ (x y : World) (k : Counts x) (event : Happens plan x y) where
    -- with these answers
    counts_by : (more : List Answer) → y.answers ≡ x.answers ++ more → Calm y (k.later ++ more) → Counts y
    counts_by more e calm = record {
      later = k.later ++ more;
      answers = e ∙ ap (λ (all : List Answer). all ++ more) k.answers ∙ append_assoc first.answers k.later more;
      up = λ q. (let was = k.up q in let up = counts_up plan x y event q in omega (arith, was, up));
      calm = calm;
    }

    -- with looks, all is as before
    looks_more : (more : List Answer) → AreLooks more → Calm x k.later → Calm y (k.later ++ more)
    looks_more more looks (OnlyLooks all) =
        OnlyLooks (All-append MakesNothing k.later more all looks)
    looks_more more looks (OneCounted q inside less) =
        OneCounted q inside (let up = counts_up plan x y event q in omega (arith, less, up))
    looks_more more looks (OneRefused a i told) = OneRefused a (in_left a k.later more i) told

    -- an event that adds looks
    looks : (more : List Answer) → y.answers ≡ x.answers ++ more → AreLooks more → Counts y
    looks more e all = counts_by more e (looks_more more all k.calm)

    -- an event that adds no answer
    silent : y.answers ≡ x.answers → Counts y
    silent e = looks [] (e ∙ sym (append-nil x.answers)) (All-nil MakesNothing)

    -- an event that refuses
    refuses : (a : Answer) → a.told ≡ Refused → y.answers ≡ x.answers ++ a ∷ [] → Counts y
    refuses a told e = counts_by (a ∷ []) e (OneRefused a (in_right a k.later (a ∷ []) (inl refl)) told)

    -- an update that was not made: its bucket is spent, or it is refused
    fails_so : (a : Answer) (told : Told) → IsFailure told → a.told ≡ told → y.answers ≡ x.answers ++ a ∷ [] → Counts y
    fails_so a (Replied reply) fails is e = absurd fails
    fails_so a (Pairs pairs) fails is e = absurd fails
    fails_so a Again fails is e = absurd fails
    fails_so a Spent fails is e = looks (a ∷ []) e (All-cons MakesNothing a [] (inr is) (All-nil MakesNothing))
    fails_so a Refused fails is e = refuses a is e

    -- any event of a seat
    passes : (p : ℕ) → (IsGoing (seat_in x p).stand → p < plan.settings.seats) →
        Passes x y p (seat_in x p) (seat_in y p) → Counts y
    passes p seat (LookBegins aim glance stood is began same a t e) = silent e
    passes p seat (LookGoes aim glance next stood is began same a t e) = silent e
    passes p seat (LookEnds aim glance told course stood is began same a t e) =
        let here = answer_now x (BySeat p) (asked_by_aim aim) told course in
        looks (here ∷ []) e (All-cons MakesNothing here [] (inl (aim_looks p aim)) (All-nil MakesNothing))
    passes p seat (UpdateBegins call step stood is update began same a t e) = silent e
    passes p seat (UpdateGoes call step next stood is began same still a t e) = silent e
    passes p seat (UpdateEnds call step reply course stood is began a t e) =
        counts_by (answer_now x (BySeat p) (Called call) (Replied reply) course ∷ []) e
        (OneCounted p (seat (subst IsGoing (sym stood) tt)) (let was = k.up p in omega (arith, was, a)))
    passes p seat (FailsFirst call told course stood is update began fails same a t e) =
        fails_so (answer_now x (BySeat p) (Called call) told course) told fails refl e
    passes p seat (FailsLater call step told course stood is began fails same still a t e) =
        fails_so (answer_now x (BySeat p) (Called call) told course) told fails refl e

  -- each event keeps it
  counts_on : (x y : World) → Counts x → Happens plan x y → Counts y
  counts_on x y k (SeatPasses p inside seat others does) =
      passes x y k (SeatPasses p inside seat others does) p seat does
  counts_on x y k (ReaderPeeks more same quiet e readers) =
      looks x y k (ReaderPeeks more same quiet e readers) more e
      (λ i d h. (let a : Answer = get_or more i d in inl (reader_looks a.by a.asked (readers i d h))))

-- THE RESULT: counts tell that a run rests
pub counts_tell_rests : CountsTellRests
counts_tell_rests plan front back run first last same = by k.calm
  where
    f : World
    f = world_after plan front

    k : Counts plan (world_after plan front) (world_after plan (front ++ back))
    k = run_from plan (Counts plan (world_after plan front)) (counts_on plan (world_after plan front)) front back run
        (record {
          later = [];
          answers = sym (append-nil (world_after plan front).answers);
          up = λ q. omega arith;
          calm = OnlyLooks (All-nil MakesNothing);
        })

    by : Calm plan (world_after plan front) (world_after plan (front ++ back)) k.later →
        Rests plan front (front ++ back)
    by (OnlyLooks all) = record {
      back = back;
      cut = refl;
      first = first;
      last = last;
      later = k.later;
      answers = k.answers;
      nothing = all;
    }
    by (OneCounted q inside less) = absurd (let e = same q inside in omega (arith, less, e))
    by (OneRefused a i told) = absurd (subst IsTaken told
        (in_all (λ (b : Answer). IsTaken b.told) (world_after plan (front ++ back)).answers a
        (none_is_refused plan (front ++ back) run)
        (subst (In a) (sym k.answers) (in_right a f.answers k.later i))))
