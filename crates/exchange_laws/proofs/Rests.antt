-- Where all seats are idle, later are idle again, and no update was made between, no bucket has changed between.
use Rattle.std.proofs.Common.{◌≡◌, ℕ, ◌<◌, ◌≤◌, ◌⊎◌, inl, inr, List, [], ◌∷◌, ◌++◌, length, get_or, drop, refl, sym, ap, ◌∙◌, subst, arith, append_assoc, append-nil}
use Rattle.std.specs.Prelude.{slice_index_or}
use Rattle.std.proofs.lemmas.Bool.{cases_eq}
use Rattle.std.proofs.lemmas.List.{append_cancel_left}
use Rattle.list_laws.proofs.Lists.{In, in_left, in_right}
use Rattle.list_laws.proofs.Places.{in_all}
use Rattle.plain_map.specs.declared.calls.Call.{Call}
use Rattle.plain_map.specs.declared.calls.Call.TheVariants.{Insert, Remove, Lookup, Tally, Count, Put}
use Rattle.plain_map.specs.declared.calls.Reply.{Reply}
use Rattle.plain_map.specs.Updates.{IsUpdate}
use Rattle.exchange_model.specs.Plans.{Plan, holders_of, buckets_of}
use Rattle.exchange_model.specs.Codes.{row_in, pairs_of_row}
use Rattle.exchange_model.specs.Steps as S
use Rattle.exchange_model.specs.Steps.{Stand, SeatNow, OfBucket}
use Rattle.exchange_model.specs.Goes.{Called, Told, Replied, Pairs, Spent}
use Rattle.exchange_model.specs.Worlds.{World, Answer, Asker, BySeat, Event, IsRun, world_after, seat_in, nobody}
use Rattle.exchange_model.specs.Laws.{pairs_in, IsOfMoment, IsLook}
use Rattle.exchange_laws.specs.Orders.{IsNoUpdate, MakesNothing, Rests, RestsAreAlike, CopiesAreOfRests}
use Rattle.exchange_laws.proofs.OwnedRuns.{rows_stay_in_their_words}
use Rattle.exchange_laws.proofs.SeatLooks.{looks_are_of_moments}
use Rattle.exchange_laws.proofs.NearSteps.{NearStand}
use Rattle.exchange_laws.proofs.NearRuns.{all_known}
use Rattle.exchange_laws.proofs.CallEvents.{SameBuckets, IsApplied, IsGoing, answer_now, Passes, LookBegins, LookGoes, LookEnds, UpdateBegins, UpdateGoes, UpdateEnds, FailsFirst, FailsLater, Happens, SeatPasses, ReaderPeeks, run_first, run_from}
use Rattle.exchange_laws.proofs.SeatEvents.{of_seat, adds_some}

-- what a seat makes is an update
abbrev MayMake : Stand → Type 0
MayMake S.Idle = Unit {0}
MayMake (S.Goes call step) = IsUpdate call
MayMake (S.Glances aim glance) = Unit {0}

-- it was applied, and is not answered yet
abbrev HasMade : Stand → Type 0
HasMade S.Idle = ⊥
HasMade (S.Goes call step) = IsUpdate call × IsApplied step
HasMade (S.Glances aim glance) = ⊥

-- an answer of an update that was made
abbrev TellsUpdate : Answer → Type 0
TellsUpdate a = MakesNothing a → ⊥

-- a call that is an update is no look
is_updated : (p : ℕ) (call : Call) → IsUpdate call → IsNoUpdate (BySeat p) (Called call) → ⊥
is_updated p (Lookup key) update n = update
is_updated p (Insert key value) update n = n
is_updated p (Remove key) update n = n
is_updated p (Tally key amount) update n = n
is_updated p (Count key value amount) update n = n
is_updated p (Put key value) update n = n

-- a reply does not say that a bucket is spent
abbrev told_code : Told → ℕ
told_code Spent = 1
told_code told = 0

module _ (plan : Plan) (first : World) where
  -- all bucket words are as at first
  record IsAlike (y : World) : Type 0 where
    pub same : (b : ℕ) → y.store.bucket b ≡ first.store.bucket b
    pub may : (q : ℕ) → q < holders_of plan.settings → MayMake (seat_in y q).stand
    pub later : List Answer
    pub answers : y.answers ≡ first.answers ++ later

  -- an update was made
  abbrev IsBegun : World → List Answer → Type 0
  IsBegun y later = ((q : ℕ) × HasMade (seat_in y q).stand × (q < plan.settings.seats))
      ⊎ ((a : Answer) × In a later × TellsUpdate a)

  -- so the answers and the seats tell it
  record Changed (y : World) : Type 0 where
    pub later : List Answer
    pub answers : y.answers ≡ first.answers ++ later
    pub begun : IsBegun y later

  -- one of both
  abbrev Since : World → Type 0
  Since y = IsAlike y ⊎ Changed y

  -- ---- an event

  module _ (x y : World) where
    -- an answer is there for ever
    told_stays : (later more : List Answer) → x.answers ≡ first.answers ++ later → y.answers ≡ x.answers ++ more →
        ((a : Answer) × In a later × TellsUpdate a) → Changed y
    told_stays later more was e t = record {
      later = later ++ more;
      answers = e ∙ ap (λ (all : List Answer). all ++ more) was ∙ append_assoc first.answers later more;
      begun = inr (t.0, in_left t.0 later more t.1, t.2);
    }

    -- one is given
    told_now : (later : List Answer) (a : Answer) → x.answers ≡ first.answers ++ later →
        y.answers ≡ x.answers ++ a ∷ [] → TellsUpdate a → Changed y
    told_now later a was e t = record {
      later = later ++ a ∷ [];
      answers = e ∙ ap (λ (all : List Answer). all ++ a ∷ []) was ∙ append_assoc first.answers later (a ∷ []);
      begun = inr (a, in_right a later (a ∷ []) (inl refl), t);
    }

    -- an update that was made is not answered yet
    flies_on : (later more : List Answer) → x.answers ≡ first.answers ++ later → y.answers ≡ x.answers ++ more →
        (q : ℕ) → HasMade (seat_in y q).stand → q < plan.settings.seats → Changed y
    flies_on later more was e q made inside = record {
      later = later ++ more;
      answers = e ∙ ap (λ (all : List Answer). all ++ more) was ∙ append_assoc first.answers later more;
      begun = inl (q, made, inside);
    }

    -- no answer more
    none_more : y.answers ≡ x.answers → y.answers ≡ x.answers ++ []
    none_more e = e ∙ sym (append-nil x.answers)

    -- a reply to an update
    replied : (q : ℕ) (call : Call) (reply : Reply) (course : S.Course) → IsUpdate call →
        TellsUpdate (answer_now x (BySeat q) (Called call) (Replied reply) course)
    replied q call reply course update (inl n) = is_updated q call update n
    replied q call reply course update (inr e) = omega (arith, ap told_code e)

    -- an update that was made goes on, or is answered
    making_goes : (later : List Answer) → x.answers ≡ first.answers ++ later → (q : ℕ) → HasMade (seat_in x q).stand →
        q < plan.settings.seats → Passes x y q (seat_in x q) (seat_in y q) → Changed y
    making_goes later was q made inside (LookBegins aim glance stood is began same a t e) =
        absurd (subst HasMade stood made)
    making_goes later was q made inside (LookGoes aim glance next stood is began same a t e) =
        absurd (subst HasMade stood made)
    making_goes later was q made inside (LookEnds aim glance told course stood is began same a t e) =
        absurd (subst HasMade stood made)
    making_goes later was q made inside (UpdateBegins call step stood is update began same a t e) =
        absurd (subst HasMade stood made)
    making_goes later was q made inside (UpdateGoes call step next stood is began same still a t e) =
        let m : IsUpdate call × IsApplied step = subst HasMade stood made in
        flies_on later [] was (none_more e) q (subst HasMade (sym is) (m.0, still m.1)) inside
    making_goes later was q made inside (UpdateEnds call step reply course stood is began a t e) =
        let m : IsUpdate call × IsApplied step = subst HasMade stood made in
        told_now later (answer_now x (BySeat q) (Called call) (Replied reply) course) was e
        (replied q call reply course m.0)
    making_goes later was q made inside (FailsFirst call told course stood is update began fails same a t e) =
        absurd (subst HasMade stood made)
    making_goes later was q made inside (FailsLater call step told course stood is began fails same still a t e) =
        let m : IsUpdate call × IsApplied step = subst HasMade stood made in absurd (still m.1)

    -- what has changed stays so
    stays_changed : Changed x → Happens plan x y → Changed y
    stays_changed c event = elim c.begun [
      | inl f ↦ elim (of_seat plan x y event f.0) [
        | inl passes ↦ making_goes c.later c.answers f.0 f.1 f.2 passes
        | inr leaves ↦ flies_on c.later leaves.more c.answers leaves.answers f.0
            (subst (λ (s : SeatNow). HasMade s.stand) (sym leaves.seat) f.1) f.2
      ]
      | inr t ↦ (let more = adds_some plan x y event in told_stays c.later more.0 c.answers more.1 t)
    ]

    -- and what was alike stays so, or an update is made
    module _ (k : IsAlike x) where
      quietly : SameBuckets x y → ((q : ℕ) → q < holders_of plan.settings → MayMake (seat_in y q).stand) →
          (more : List Answer) →
          y.answers ≡ x.answers ++ more → Since y
      quietly same may more e = inl (record {
        same = λ b. (λ i. same i b) ∙ k.same b;
        may = may;
        later = k.later ++ more;
        answers = e ∙ ap (λ (all : List Answer). all ++ more) k.answers ∙ append_assoc first.answers k.later more;
      })

      others_may : (p : ℕ) → MayMake (seat_in y p).stand → ((q : ℕ) → (q ≡ p → ⊥) → seat_in y q ≡ seat_in x q) →
          (q : ℕ) →
          q < holders_of plan.settings → MayMake (seat_in y q).stand
      others_may p here others q less = elim (cases_eq q p) [
        | inl e ↦ subst (λ j. MayMake (seat_in y j).stand) (sym e) here
        | inr n ↦ subst (λ (s : SeatNow). MayMake s.stand) (sym (others q n)) (k.may q less)
      ]

      seat_alike : (p : ℕ) → p < holders_of plan.settings → (IsGoing (seat_in x p).stand → p < plan.settings.seats) →
          ((q : ℕ) → (q ≡ p → ⊥) → seat_in y q ≡ seat_in x q) → Passes x y p (seat_in x p) (seat_in y p) → Since y
      seat_alike p inside goes others (LookBegins aim glance stood is began same a t e) =
          quietly same (others_may p (subst MayMake (sym is) tt) others) [] (none_more e)
      seat_alike p inside goes others (LookGoes aim glance next stood is began same a t e) =
          quietly same (others_may p (subst MayMake (sym is) tt) others) [] (none_more e)
      seat_alike p inside goes others (LookEnds aim glance told course stood is began same a t e) =
          quietly same (others_may p (subst MayMake (sym is) tt) others) (_ ∷ []) e
      seat_alike p inside goes others (UpdateBegins call step stood is update began same a t e) =
          quietly same (others_may p (subst MayMake (sym is) update) others) [] (none_more e)
      seat_alike p inside goes others (UpdateGoes call step next stood is began (inl same) still a t e) =
          let update : IsUpdate call = subst MayMake stood (k.may p inside) in
          quietly same (others_may p (subst MayMake (sym is) update) others) [] (none_more e)
      seat_alike p inside goes others (UpdateGoes call step next stood is began (inr applied) still a t e) =
          let update : IsUpdate call = subst MayMake stood (k.may p inside) in
          inr (flies_on k.later [] k.answers (none_more e) p (subst HasMade (sym is) (update, applied))
          (goes (subst IsGoing (sym stood) tt)))
      seat_alike p inside goes others (UpdateEnds call step reply course stood is began a t e) =
          let update : IsUpdate call = subst MayMake stood (k.may p inside) in
          inr (told_now k.later (answer_now x (BySeat p) (Called call) (Replied reply) course) k.answers e
          (replied p call reply course update))
      seat_alike p inside goes others (FailsFirst call told course stood is update began fails same a t e) =
          quietly same (others_may p (subst MayMake (sym is) tt) others) (_ ∷ []) e
      seat_alike p inside goes others (FailsLater call step told course stood is began fails same still a t e) =
          quietly same (others_may p (subst MayMake (sym is) tt) others) (_ ∷ []) e

      alike_goes : Happens plan x y → Since y
      alike_goes (ReaderPeeks more seats same e readers) =
          quietly same
          (λ q less. subst (λ (w : List SeatNow). MayMake (slice_index_or w q nobody).stand) (sym seats) (k.may q less))
          more e
      alike_goes (SeatPasses p inside goes others passes) = seat_alike p inside goes others passes

  -- each event keeps it
  since_goes : (x y : World) → Since x → Happens plan x y → Since y
  since_goes x y (inl alike) event = alike_goes x y alike event
  since_goes x y (inr changed) event = inr (stays_changed x y changed event)

-- where a run rests nothing has changed in the end
none_changed : (plan : Plan) (front events : List Event) → Rests plan front events →
    Changed plan (world_after plan front) (world_after plan events) → ⊥
none_changed plan front events rests c = elim c.begun [
  | inl f ↦ subst HasMade (rests.last f.0 f.2) f.1
  | inr t ↦ t.2 (in_all MakesNothing rests.later t.0 rests.nothing
      (subst (In t.0) (append_cancel_left (world_after plan front).answers c.later rests.later
      (sym c.answers ∙ rests.answers)) t.1))
]

-- what a seat makes always is an update
all_may : (plan : Plan) (events : List Event) → IsRun plan events → (q : ℕ) → q < holders_of plan.settings →
    MayMake (seat_in (world_after plan events) q).stand
all_may plan events run q less = by_stand (seat_in x q).stand ((all_known plan events run).near.seats q less).0
  where
    x : World
    x = world_after plan events

    by_stand : (stand : Stand) → NearStand plan q (seat_in x q).time (seat_in x q).posted (x.store.hold q) stand →
        MayMake stand
    by_stand S.Idle k = tt
    by_stand (S.Goes call step) k = k.0.0
    by_stand (S.Glances aim glance) k = tt

-- THE RESULT: meanwhile each bucket has the same pairs
pub rests_are_alike : RestsAreAlike
rests_are_alike plan front middle back events bucket run rests small cut =
    elim (run_from plan (Since plan f) (since_goes plan f) front middle first_run (inl start)) [
      | inl alike ↦ same_pairs (alike.same bucket)
      | inr changed ↦ absurd (none_changed plan front events rests
          (subst (λ (es : List Event). Changed plan f (world_after plan es)) (sym in_parts)
          (run_from plan (Changed plan f) (λ x y c event. stays_changed plan f x y c event) (front ++ middle) back
          whole changed)))
    ]
  where
    f : World
    f = world_after plan front

    in_parts : events ≡ (front ++ middle) ++ back
    in_parts = cut

    whole : IsRun plan ((front ++ middle) ++ back)
    whole = subst (IsRun plan) in_parts run

    first_run : IsRun plan (front ++ middle)
    first_run = run_first plan (front ++ middle) back whole

    start : IsAlike plan f f
    start = record {
      same = λ b. refl;
      may = all_may plan front (run_first plan front middle first_run);
      later = [];
      answers = sym (append-nil f.answers);
    }

    same_pairs : (world_after plan (front ++ middle)).store.bucket bucket ≡ f.store.bucket bucket →
        pairs_in plan (world_after plan (front ++ middle)) bucket ≡ pairs_in plan f bucket
    same_pairs same =
        ap (λ w. pairs_of_row plan ((world_after plan (front ++ middle)).store.row (row_in plan w))) same
        ∙ ap (pairs_of_row plan)
        (λ k i. rows_stay_in_their_words plan front middle bucket i first_run small same k)

-- of two fronts of one list the longer one goes on from the other
goes_on_from : (xs ys us vs : List Event) → xs ++ ys ≡ us ++ vs → length xs ≤ length us →
    (middle : List Event) × (us ≡ xs ++ middle)
goes_on_from [] ys us vs e h = (us, refl)
goes_on_from (x ∷ xs) ys [] vs e h = absurd (omega (arith, h))
goes_on_from (x ∷ xs) ys (u ∷ us) vs e h =
    let r = goes_on_from xs ys us vs (ap (drop 1) e) (omega (arith, h)) in
    let head : u ≡ x = ap (λ (l : List Event). get_or l 0 u) (sym e) in
    (r.0, ap (λ (l : List Event). u ∷ l) r.1 ∙ ap (λ (z : Event). z ∷ (xs ++ r.0)) head)

-- so a copy tells what the bucket had at first
copied : (plan : Plan) (front events : List Event) → IsRun plan events → Rests plan front events → (a : Answer)
    (bucket : ℕ) → bucket < buckets_of plan.settings → length front ≤ a.began →
    IsOfMoment plan events a (OfBucket bucket) → a.told ≡ Pairs (pairs_in plan (world_after plan front) bucket)
copied plan front events run rests a bucket small began o =
    let z = goes_on_from front rests.back o.front o.back (sym rests.cut ∙ o.cut)
    (let after = o.after in omega (arith, began, after)) in
    let cut : events ≡ front ++ z.0 ++ o.back =
    o.cut ∙ ap (λ (es : List Event). es ++ o.back) z.1 in
    o.is ∙ ap (λ (es : List Event). Pairs (pairs_in plan (world_after plan es) bucket)) z.1
    ∙ ap Pairs (rests_are_alike plan front z.0 o.back events bucket run rests small cut)

pub copies_are_of_rests : CopiesAreOfRests
copies_are_of_rests plan front events run rests = λ i d h seat bucket by_is asked_is small began.
    let a : Answer = get_or (world_after plan events).answers i d in
    copied plan front events run rests a bucket small began
    (subst (IsLook plan events a (BySeat seat)) asked_is
    (subst (λ (by : Asker). IsLook plan events a by a.asked) by_is (looks_are_of_moments plan events run i d h)))
