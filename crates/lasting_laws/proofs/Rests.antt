-- Where all seats are idle, later are idle again, and no update was answered between, no bucket has changed between.
use Rattle.std.proofs.Common.{◌≡◌, ℕ, ◌<◌, ◌≤◌, ◌⊎◌, inl, inr, List, [], ◌∷◌, ◌++◌, length, get_or, drop, refl, sym, ap, ◌∙◌, subst, arith, append_assoc, append-nil}
use Rattle.std.specs.Prelude.{slice_index_or}
use Rattle.std.proofs.lemmas.Bool.{cases_eq}
use Rattle.std.proofs.lemmas.List.{append_cancel_left}
use Rattle.list_laws.proofs.Lists.{In, in_left, in_right}
use Rattle.list_laws.proofs.Places.{in_all}
use Rattle.plain_map.specs.declared.calls.Call.{Call}
use Rattle.plain_map.specs.declared.calls.Call.TheVariants.{Insert, Remove, Lookup, Tally, Count, Put}
use Rattle.plain_map.specs.Updates.{IsUpdate}
use Rattle.lasting_model.specs.Plans.{Plan, ample}
use Rattle.lasting_model.specs.Codes.{row_in, pairs_of_row}
use Rattle.lasting_model.specs.Steps as S
use Rattle.lasting_model.specs.Steps.{Stand, SeatNow, OfBucket}
use Rattle.lasting_model.specs.Goes.{Called, Replied, Pairs, Refused, asked_by_aim}
use Rattle.lasting_model.specs.Worlds.{Lasting, Answer, Asker, BySeat, Event, IsRun, world_after, seat_in, nobody}
use Rattle.lasting_model.specs.Laws.{pairs_in, IsOfMoment, IsLook}
use Rattle.lasting_laws.specs.Orders.{IsNoUpdate, Rests, RestsAreAlike, CopiesAreOfRests}
use Rattle.lasting_laws.proofs.SeatLooks.{looks_are_of_moments}
use Rattle.lasting_laws.proofs.Events.{IsQuiet, answer_now, Passes, LookBegins, LookGoes, LookEnds, UpdateBegins, UpdateGoes, UpdateEnds, RefusedFirst, RefusedLater, Happens, SeatPasses, ReaderPeeks, of_seat, adds_some, run_first, run_from}

-- a seat makes no update
abbrev IsStill : Stand → Type 0
IsStill (S.Goes u step) = ⊥
IsStill stand = Unit {0}

-- or makes one
abbrev IsMaking : Stand → Type 0
IsMaking (S.Goes u step) = IsUpdate u.call
IsMaking stand = ⊥

-- an update is one
abbrev TellsUpdate : Answer → Type 0
TellsUpdate a = IsNoUpdate a.by a.asked → ⊥

-- a call that is an update is no look
is_updated : (p : ℕ) (call : Call) → IsUpdate call → IsNoUpdate (BySeat p) (Called call) → ⊥
is_updated p (Lookup key) update n = update
is_updated p (Insert key value) update n = n
is_updated p (Remove key) update n = n
is_updated p (Tally key amount) update n = n
is_updated p (Count key value amount) update n = n
is_updated p (Put key value) update n = n

module _ (plan : Plan) (first : Lasting) where
  -- all stands as at first
  record IsAlike (y : Lasting) : Type 0 where
    pub quiet : IsQuiet first y
    pub still : (q : ℕ) → q < plan.settings.seats → IsStill (seat_in y q).stand
    pub later : List Answer
    pub answers : y.answers ≡ first.answers ++ later

  -- an update was begun
  abbrev IsBegun : Lasting → List Answer → Type 0
  IsBegun y later = ((q : ℕ) × (q < plan.settings.seats) × IsMaking (seat_in y q).stand)
      ⊎ ((a : Answer) × In a later × TellsUpdate a)

  -- so the answers and the seats tell it
  record Changed (y : Lasting) : Type 0 where
    pub later : List Answer
    pub answers : y.answers ≡ first.answers ++ later
    pub begun : IsBegun y later

  -- one of both
  abbrev Since : Lasting → Type 0
  Since y = IsAlike y ⊎ Changed y

  -- ---- an event

  module _ (x y : Lasting) where
    -- an answer is there for ever
    told_stays : (later more : List Answer) → x.answers ≡ first.answers ++ later → y.answers ≡ x.answers ++ more →
        ((a : Answer) × In a later × TellsUpdate a) → Changed y
    told_stays later more was e t = record {
      later = later ++ more;
      answers = e ∙ ap (λ (all : List Answer). all ++ more) was ∙ append_assoc first.answers later more;
      begun = inr (t.0, in_left t.0 later more t.1, t.2);
    }

    -- one is given
    told_now : (later : List Answer) (a : Answer) → x.answers ≡ first.answers ++ later →
        y.answers ≡ x.answers ++ a ∷ [] → TellsUpdate a → Changed y
    told_now later a was e t = record {
      later = later ++ a ∷ [];
      answers = e ∙ ap (λ (all : List Answer). all ++ a ∷ []) was ∙ append_assoc first.answers later (a ∷ []);
      begun = inr (a, in_right a later (a ∷ []) (inl refl), t);
    }

    -- an update stays under way
    flies_on : (later more : List Answer) → x.answers ≡ first.answers ++ later → y.answers ≡ x.answers ++ more →
        (q : ℕ) → q < plan.settings.seats → IsMaking (seat_in y q).stand → Changed y
    flies_on later more was e q inside making = record {
      later = later ++ more;
      answers = e ∙ ap (λ (all : List Answer). all ++ more) was ∙ append_assoc first.answers later more;
      begun = inl (q, inside, making);
    }

    -- no answer more
    none_more : y.answers ≡ x.answers → y.answers ≡ x.answers ++ []
    none_more e = e ∙ sym (append-nil x.answers)

    -- an update under way goes on, or is answered
    making_goes : (later : List Answer) → x.answers ≡ first.answers ++ later → (q : ℕ) → q < plan.settings.seats →
        IsMaking (seat_in x q).stand → Passes x y q (seat_in x q) (seat_in y q) → Changed y
    making_goes later was q inside making (LookBegins aim glance stood is quiet a t e) =
        absurd (subst IsMaking stood making)
    making_goes later was q inside making (LookGoes aim glance next stood is quiet a t e) =
        absurd (subst IsMaking stood making)
    making_goes later was q inside making (LookEnds aim glance told course stood is quiet a t e) =
        absurd (subst IsMaking stood making)
    making_goes later was q inside making (UpdateBegins u step stood is update began a t e) =
        absurd (subst IsMaking stood making)
    making_goes later was q inside making (UpdateGoes u step next stood is began a t e) =
        flies_on later [] was (none_more e) q inside (subst IsMaking (sym is) (subst IsMaking stood making))
    making_goes later was q inside making (UpdateEnds u step reply course stood is began a t e) =
        told_now later (answer_now x (BySeat q) (Called u.call) (Replied reply) course) was e
        (is_updated q u.call (subst IsMaking stood making))
    making_goes later was q inside making (RefusedFirst call course stood is update a t e) =
        absurd (subst IsMaking stood making)
    making_goes later was q inside making (RefusedLater u step course stood is a t e) =
        told_now later (answer_now x (BySeat q) (Called u.call) Refused course) was e
        (is_updated q u.call (subst IsMaking stood making))

    -- what has changed stays so
    stays_changed : Changed x → Happens plan x y → Changed y
    stays_changed c event = elim c.begun [
      | inl f ↦ elim (of_seat plan x y event f.0) [
        | inl passes ↦ making_goes c.later c.answers f.0 f.1 f.2 passes
        | inr leaves ↦ flies_on c.later leaves.more c.answers leaves.answers f.0 f.1
            (subst (λ (s : SeatNow). IsMaking s.stand) (sym leaves.seat) f.2)
      ]
      | inr t ↦ (let more = adds_some plan x y event in told_stays c.later more.0 c.answers more.1 t)
    ]

    -- and what was alike stays so, or an update begins
    alike_goes : IsAlike x → Happens plan x y → Since y
    alike_goes k (ReaderPeeks more seats quiet e readers) = inl (record {
      quiet = (quiet.0 ∙ k.quiet.0, quiet.1 ∙ k.quiet.1);
      still = λ q h. subst (λ (s : SeatNow). IsStill s.stand)
          (sym (ap (λ (w : List SeatNow). slice_index_or w q nobody) seats)) (k.still q h);
      later = k.later ++ more;
      answers = e ∙ ap (λ (all : List Answer). all ++ more) k.answers ∙ append_assoc first.answers k.later more;
    })
    alike_goes k (SeatPasses p inside others passes) = go passes
      where
        quietly : IsQuiet x y → IsStill (seat_in y p).stand → (more : List Answer) → y.answers ≡ x.answers ++ more →
            Since y
        quietly quiet stands more e = inl (record {
          quiet = (quiet.0 ∙ k.quiet.0, quiet.1 ∙ k.quiet.1);
          still = λ q h. elim (cases_eq q p) [
            | inl e ↦ subst (λ j. IsStill (seat_in y j).stand) (sym e) stands
            | inr n ↦ subst (λ (s : SeatNow). IsStill s.stand) (sym (others q n)) (k.still q h)
          ];
          later = k.later ++ more;
          answers = e ∙ ap (λ (all : List Answer). all ++ more) k.answers ∙ append_assoc first.answers k.later more;
        })

        go : Passes x y p (seat_in x p) (seat_in y p) → Since y
        go (LookBegins aim glance stood is quiet a t e) = quietly quiet (subst IsStill (sym is) tt) [] (none_more e)
        go (LookGoes aim glance next stood is quiet a t e) =
            quietly quiet (subst IsStill (sym is) tt) [] (none_more e)
        go (LookEnds aim glance told course stood is quiet a t e) =
            quietly quiet (subst IsStill (sym is) tt)
            (answer_now x (BySeat p) (asked_by_aim aim) told course ∷ []) e
        go (UpdateBegins u step stood is update began a t e) =
            inr (flies_on k.later [] k.answers (none_more e) p inside (subst IsMaking (sym is) update))
        go (UpdateGoes u step next stood is began a t e) = absurd (subst IsStill stood (k.still p inside))
        go (UpdateEnds u step reply course stood is began a t e) = absurd (subst IsStill stood (k.still p inside))
        go (RefusedFirst call course stood is update a t e) =
            inr (told_now k.later (answer_now x (BySeat p) (Called call) Refused course) k.answers e
            (is_updated p call update))
        go (RefusedLater u step course stood is a t e) = absurd (subst IsStill stood (k.still p inside))

  -- each event keeps it
  since_goes : (x y : Lasting) → Since x → Happens plan x y → Since y
  since_goes x y (inl alike) event = alike_goes x y alike event
  since_goes x y (inr changed) event = inr (stays_changed x y changed event)

  -- where it is alike the buckets are
  same_pairs : (y : Lasting) (bucket : ℕ) → IsAlike y → pairs_in plan y bucket ≡ pairs_in plan first bucket
  same_pairs y bucket k = λ i. pairs_of_row (ample plan) ((k.quiet.0 i) (row_in ((k.quiet.1 i) bucket)))

-- where a run rests nothing has changed in the end
none_changed : (plan : Plan) (front events : List Event) → Rests plan front events →
    Changed plan (world_after plan front) (world_after plan events) → ⊥
none_changed plan front events rests c = elim c.begun [
  | inl f ↦ subst IsMaking (rests.last f.0 f.1) f.2
  | inr t ↦ t.2 (in_all (λ (a : Answer). IsNoUpdate a.by a.asked) rests.later t.0 rests.looks
      (subst (In t.0) (append_cancel_left (world_after plan front).answers c.later rests.later
      (sym c.answers ∙ rests.answers)) t.1))
]

-- THE RESULT: meanwhile each bucket has the same pairs
pub rests_are_alike : RestsAreAlike
rests_are_alike plan front middle back events bucket run rests cut =
    elim (run_from plan (Since plan f) (since_goes plan f) front middle (run_first plan (front ++ middle) back whole)
    (inl start)) [
      | inl alike ↦ same_pairs plan f (world_after plan (front ++ middle)) bucket alike
      | inr changed ↦ absurd (none_changed plan front events rests
          (subst (λ (es : List Event). Changed plan f (world_after plan es)) (sym in_parts)
          (run_from plan (Changed plan f) (λ x y c event. stays_changed plan f x y c event) (front ++ middle) back
          whole changed)))
    ]
  where
    f : Lasting
    f = world_after plan front

    in_parts : events ≡ (front ++ middle) ++ back
    in_parts = cut

    whole : IsRun plan ((front ++ middle) ++ back)
    whole = subst (IsRun plan) in_parts run

    start : IsAlike plan f f
    start = record {
      quiet = (refl, refl);
      still = λ q h. subst IsStill (sym (rests.first q h)) tt;
      later = [];
      answers = sym (append-nil f.answers);
    }

-- of two fronts of one list the longer one goes on from the other
goes_on_from : (xs ys us vs : List Event) → xs ++ ys ≡ us ++ vs → length xs ≤ length us →
    (middle : List Event) × (us ≡ xs ++ middle)
goes_on_from [] ys us vs e h = (us, refl)
goes_on_from (x ∷ xs) ys [] vs e h = absurd (omega (arith, h))
goes_on_from (x ∷ xs) ys (u ∷ us) vs e h =
    let r = goes_on_from xs ys us vs (ap (drop 1) e) (omega (arith, h)) in
    let head : u ≡ x = ap (λ (l : List Event). get_or l 0 u) (sym e) in
    (r.0, ap (λ (l : List Event). u ∷ l) r.1 ∙ ap (λ (z : Event). z ∷ (xs ++ r.0)) head)

-- so a copy tells what the bucket had at first
copied : (plan : Plan) (front events : List Event) → IsRun plan events → Rests plan front events → (a : Answer)
    (bucket : ℕ) → length front ≤ a.began → IsOfMoment plan events a (OfBucket bucket) →
    a.told ≡ Pairs (pairs_in plan (world_after plan front) bucket)
copied plan front events run rests a bucket began o =
    let z = goes_on_from front rests.back o.front o.back (sym rests.cut ∙ o.cut)
    (let after = o.after in omega (arith, began, after)) in
    let cut : events ≡ front ++ z.0 ++ o.back =
    o.cut ∙ ap (λ (es : List Event). es ++ o.back) z.1 in
    o.is ∙ ap (λ (es : List Event). Pairs (pairs_in plan (world_after plan es) bucket)) z.1
    ∙ ap Pairs (rests_are_alike plan front z.0 o.back events bucket run rests cut)

pub copies_are_of_rests : CopiesAreOfRests
copies_are_of_rests plan front events run rests = λ i d h seat bucket by_is asked_is began.
    let a : Answer = get_or (world_after plan events).answers i d in
    copied plan front events run rests a bucket began
    (subst (IsLook plan events a (BySeat seat)) asked_is
    (subst (λ (by : Asker). IsLook plan events a by a.asked) by_is (looks_are_of_moments plan events run i d h)))
