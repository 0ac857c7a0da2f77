-- Where no seat has answered more updates, no update was answered; and answers stay.
use Rattle.std.proofs.Common.{◌≡◌, ℕ, ◌<◌, ◌≤◌, inl, inr, List, [], ◌∷◌, ◌++◌, get_or, refl, sym, ap, ◌∙◌, subst, arith, append_assoc, append-nil}
use Rattle.std.specs.Prelude.{All}
use Rattle.std.proofs.lemmas.List.Elements.{All-nil, All-cons, All-append}
use Rattle.list_laws.proofs.Lists.{In, in_left, in_right}
use Rattle.list_laws.proofs.Places.{in_all}
use Rattle.lasting_model.specs.Plans.{Plan}
use Rattle.lasting_model.specs.Steps.{SeatNow, Aim, OfKey, OfBucket}
use Rattle.lasting_model.specs.Goes.{Asked, Called, Replied, Refused, asked_by_aim}
use Rattle.lasting_model.specs.Laws.{IsTaken}
use Rattle.lasting_model.specs.Worlds.{Lasting, Answer, Asker, BySeat, ByReader, world_after, seat_in}
use Rattle.lasting_laws.specs.Orders.{IsNoUpdate, Rests, AnswersStay, CountsTellRests}
use Rattle.lasting_laws.proofs.PoolsOpen.{none_is_refused}
use Rattle.lasting_laws.proofs.Events.{IsReader, answer_now, Passes, LookBegins, LookGoes, LookEnds, UpdateBegins, UpdateGoes, UpdateEnds, RefusedFirst, RefusedLater, Happens, SeatPasses, ReaderPeeks, of_seat, adds_some, run_from}

-- ---- answers

-- each event keeps the answers
answers_go_on : (plan : Plan) (first x y : Lasting) →
    ((later : List Answer) × (x.answers ≡ first.answers ++ later)) → Happens plan x y →
    (later : List Answer) × (y.answers ≡ first.answers ++ later)
answers_go_on plan first x y k event =
    let more = adds_some plan x y event in (
      k.0 ++ more.0,
      more.1 ∙ ap (λ (all : List Answer). all ++ more.0) k.1 ∙ append_assoc first.answers k.0 more.0,
    )

-- THE RESULT: answers stay
pub answers_stay : AnswersStay
answers_stay plan front back run =
    let f = world_after plan front in
    run_from plan (λ y. (later : List Answer) × (y.answers ≡ f.answers ++ later)) (answers_go_on plan f) front back run
    ([], sym (append-nil f.answers))

-- ---- counts

-- a seat's count of its updates does not fall
passes_up : (x y : Lasting) (p : ℕ) → Passes x y p (seat_in x p) (seat_in y p) →
    (seat_in x p).answered ≤ (seat_in y p).answered
passes_up x y p (LookBegins aim glance stood is quiet a t e) = omega (arith, a)
passes_up x y p (LookGoes aim glance next stood is quiet a t e) = omega (arith, a)
passes_up x y p (LookEnds aim glance told course stood is quiet a t e) = omega (arith, a)
passes_up x y p (UpdateBegins u step stood is update began a t e) = omega (arith, a)
passes_up x y p (UpdateGoes u step next stood is began a t e) = omega (arith, a)
passes_up x y p (UpdateEnds u step reply course stood is began a t e) = omega (arith, a)
passes_up x y p (RefusedFirst call course stood is update a t e) = omega (arith, a)
passes_up x y p (RefusedLater u step course stood is a t e) = omega (arith, a)

-- so with each event
counts_up : (plan : Plan) (x y : Lasting) → Happens plan x y → (q : ℕ) →
    (seat_in x q).answered ≤ (seat_in y q).answered
counts_up plan x y event q = elim (of_seat plan x y event q) [
  | inl passes ↦ passes_up x y q passes
  | inr l ↦ (let same = ap (λ (s : SeatNow). s.answered) l.seat in omega (arith, same))
]

-- a reader makes no update
reader_looks : (by : Asker) (asked : Asked) → IsReader by → IsNoUpdate by asked
reader_looks (BySeat seat) asked r = absurd r
reader_looks (ByReader reader) asked r = tt

-- nor does a look of a seat
aim_looks : (p : ℕ) (aim : Aim) → IsNoUpdate (BySeat p) (asked_by_aim aim)
aim_looks p (OfKey key) = tt
aim_looks p (OfBucket bucket) = tt

-- these are no updates
abbrev AreLooks : List Answer → Type 0
AreLooks later = All (λ (a : Answer). IsNoUpdate a.by a.asked) later

module _ (plan : Plan) (first : Lasting) where
  -- these answers are looks, or a seat has counted an update, or one was refused
  data Calm (y : Lasting) (later : List Answer) : Type 0 where
    OnlyLooks : AreLooks later → Calm y later
    OneCounted : (q : ℕ) → q < plan.settings.seats → (seat_in first q).answered < (seat_in y q).answered →
        Calm y later
    OneRefused : (a : Answer) → In a later → a.told ≡ Refused → Calm y later

  -- with the answers since
  record Counts (y : Lasting) : Type 0 where
    pub later : List Answer
    pub answers : y.answers ≡ first.answers ++ later
    pub up : (q : ℕ) → (seat_in first q).answered ≤ (seat_in y q).answered
    pub calm : Calm y later

  module _ (x y : Lasting) (k : Counts x) (event : Happens plan x y) where
    -- with these answers
    counts_by : (more : List Answer) → y.answers ≡ x.answers ++ more → Calm y (k.later ++ more) → Counts y
    counts_by more e calm = record {
      later = k.later ++ more;
      answers = e ∙ ap (λ (all : List Answer). all ++ more) k.answers ∙ append_assoc first.answers k.later more;
      up = λ q. (let was = k.up q in let up = counts_up plan x y event q in omega (arith, was, up));
      calm = calm;
    }

    -- with looks, all is as before
    looks_more : (more : List Answer) → AreLooks more → Calm x k.later → Calm y (k.later ++ more)
    looks_more more looks (OnlyLooks all) =
        OnlyLooks (All-append (λ (a : Answer). IsNoUpdate a.by a.asked) k.later more all looks)
    looks_more more looks (OneCounted q inside less) =
        OneCounted q inside (let up = counts_up plan x y event q in omega (arith, less, up))
    looks_more more looks (OneRefused a i told) = OneRefused a (in_left a k.later more i) told

    -- an event that adds looks
    looks : (more : List Answer) → y.answers ≡ x.answers ++ more → AreLooks more → Counts y
    looks more e all = counts_by more e (looks_more more all k.calm)

    -- an event that adds no answer
    silent : y.answers ≡ x.answers → Counts y
    silent e = looks [] (e ∙ sym (append-nil x.answers)) (All-nil (λ (a : Answer). IsNoUpdate a.by a.asked))

    -- an event that refuses
    refuses : (a : Answer) → a.told ≡ Refused → y.answers ≡ x.answers ++ a ∷ [] → Counts y
    refuses a told e = counts_by (a ∷ []) e (OneRefused a (in_right a k.later (a ∷ []) (inl refl)) told)

    -- any event of a seat
    passes : (p : ℕ) → p < plan.settings.seats → Passes x y p (seat_in x p) (seat_in y p) → Counts y
    passes p inside (LookBegins aim glance stood is quiet a t e) = silent e
    passes p inside (LookGoes aim glance next stood is quiet a t e) = silent e
    passes p inside (LookEnds aim glance told course stood is quiet a t e) =
        let here = answer_now x (BySeat p) (asked_by_aim aim) told course in
        looks (here ∷ []) e
        (All-cons (λ (a : Answer). IsNoUpdate a.by a.asked) here [] (aim_looks p aim)
        (All-nil (λ (a : Answer). IsNoUpdate a.by a.asked)))
    passes p inside (UpdateBegins u step stood is update began a t e) = silent e
    passes p inside (UpdateGoes u step next stood is began a t e) = silent e
    passes p inside (UpdateEnds u step reply course stood is began a t e) =
        counts_by (answer_now x (BySeat p) (Called u.call) (Replied reply) course ∷ []) e
        (OneCounted p inside (let was = k.up p in omega (arith, was, a)))
    passes p inside (RefusedFirst call course stood is update a t e) =
        refuses (answer_now x (BySeat p) (Called call) Refused course) refl e
    passes p inside (RefusedLater u step course stood is a t e) =
        refuses (answer_now x (BySeat p) (Called u.call) Refused course) refl e

  -- each event keeps it
  counts_on : (x y : Lasting) → Counts x → Happens plan x y → Counts y
  counts_on x y k (SeatPasses p inside others does) =
      passes x y k (SeatPasses p inside others does) p inside does
  counts_on x y k (ReaderPeeks more same quiet e readers) =
      looks x y k (ReaderPeeks more same quiet e readers) more e
      (λ i d h. (let a : Answer = get_or more i d in reader_looks a.by a.asked (readers i d h)))

-- THE RESULT: counts tell that a run rests
pub counts_tell_rests : CountsTellRests
counts_tell_rests plan front back run first last same = by k.calm
  where
    f : Lasting
    f = world_after plan front

    k : Counts plan (world_after plan front) (world_after plan (front ++ back))
    k = run_from plan (Counts plan (world_after plan front)) (counts_on plan (world_after plan front)) front back run
        (record {
          later = [];
          answers = sym (append-nil (world_after plan front).answers);
          up = λ q. omega arith;
          calm = OnlyLooks (All-nil (λ (a : Answer). IsNoUpdate a.by a.asked));
        })

    by : Calm plan (world_after plan front) (world_after plan (front ++ back)) k.later →
        Rests plan front (front ++ back)
    by (OnlyLooks all) = record {
      back = back;
      cut = refl;
      first = first;
      last = last;
      later = k.later;
      answers = k.answers;
      looks = all;
    }
    by (OneCounted q inside less) = absurd (let e = same q inside in omega (arith, less, e))
    by (OneRefused a i told) = absurd (subst IsTaken told
        (in_all (λ (b : Answer). IsTaken b.told) (world_after plan (front ++ back)).answers a
        (none_is_refused plan (front ++ back) run)
        (subst (In a) (sym k.answers) (in_right a f.answers k.later i))))
