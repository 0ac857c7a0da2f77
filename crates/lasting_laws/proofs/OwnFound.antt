-- An update goes through the seats: the ghost has found of each what was announced, and so many are gone through.
use Rattle.std.proofs.Common.{◌≡◌, ◌≢◌, ℕ, suc, ◌+◌, ◌<◌, ◌≤◌, inl, inr, Bool, true, false, cond, List, [], ◌∷◌, length, Option, Some, refl, sym, ap, ◌∙◌, subst, arith, lt-ltb}
use Rattle.std.specs.Prelude.{nat_lt}
use Rattle.std.proofs.lemmas.Bool.{cases_eq, eq-eqb, ne_eqb, ltb-true, ltb-false}
use Rattle.std.proofs.lemmas.List.{length-append}
use Rattle.plain_map.specs.declared.rules.Rules.{Rules}
use Rattle.bucket_states.specs.declared.ops.Op.{Op}
use Rattle.bucket_states.specs.States.{BucketState}
use Rattle.bucket_states.proofs.AnswerLemmas.{lt_false}
use Rattle.table_model.specs.declared.rounds.Round.{Round}
use Rattle.table_model.specs.Setup.{Setup, seats_of, rules_of}
use Rattle.table_model.specs.Phases.{BucketTry, TryAnnouncement, TryStore}
use Rattle.table_model.specs.SeatStates.{Account}
use Rattle.table_model.specs.Goes.{more, after_found}
use Rattle.run_invariant.proofs.Invariant.{op_now}
use Rattle.lasting_model.specs.Plans.{Plan, IsPlan, ample}
use Rattle.lasting_model.specs.Steps as S
use Rattle.lasting_model.specs.Steps.{SeatNow, Update, Step, Try, bucket_of_update}
use Rattle.lasting_model.specs.Goes.{Fate, On, own_op, ops_or_row, found_so_far}
use Rattle.lasting_model.specs.Worlds.{Lasting, seat_after, answers_after, stepped, ticked, with_seat}
use Rattle.lasting_model.specs.Worlds as L
use Rattle.lasting_laws.proofs.Alike.{Alike, AllAlike}
use Rattle.lasting_laws.proofs.Alone.{kept}
use Rattle.lasting_laws.proofs.Shown.{View, OpStands, Found, IsMade, Moment, view, IsShown, IsNext}
use Rattle.lasting_laws.proofs.Stays.{found_stays}
use Rattle.lasting_laws.proofs.Exact.{update_tested}
use Rattle.lasting_laws.proofs.Ghost.{seats_are, inside_ghost}
use Rattle.lasting_laws.proofs.Moments.{Burst, both_bursts, At, finds}
use Rattle.lasting_laws.proofs.Next.{Untouched, Lawful}
use Rattle.lasting_laws.proofs.Own.{untouched_same, Calm, calm_same, after, named, own_ops, step_now, w_on, goes_to}

-- one seat more
pub alike_more : (rules : Rules) (bucket : BucketState) (k : ℕ) (os rs : List (Option Op)) (o r : Option Op) →
    AllAlike rules bucket k os rs → Alike rules bucket (k + length os) o r →
    AllAlike rules bucket k (more os o) (more rs r)
alike_more rules bucket k [] [] o r all one =
    (subst (λ n. Alike rules bucket n o r) (let none : k + 0 ≡ k = omega arith in none) one, tt)
alike_more rules bucket k [] (x ∷ rs) o r all one = absurd all
alike_more rules bucket k (x ∷ os) [] o r all one = absurd all
alike_more rules bucket k (x ∷ os) (y ∷ rs) o r all one = (
  all.0,
  alike_more rules bucket (suc k) os rs o r all.1
      (subst (λ n. Alike rules bucket n o r) (let next : k + length
      (x ∷ os) ≡ suc k + length os = omega arith in next) one),
)

module _ (plan : Plan) (is_plan : IsPlan plan) (x : Lasting) (shown : IsShown plan x) (p : ℕ)
    (inside : p < plan.settings.seats) (u : Update) (t : Try) where
  abbrev setup : Setup
  setup = ample plan

  abbrev now : SeatNow
  now = L.seat_in x p

  abbrev m : Moment setup
  m = shown.moment

  abbrev v : View
  v = view plan x shown.moment shown.word_at shown.cut shown.tied

  -- how many answers of each seat there were when its call began
  abbrev pub least : ℕ → ℕ
  least k = length (v.past p k)

  abbrev Shows_next : Lasting → Type 0
  Shows_next y = Lawful plan x shown y → IsNext plan x y shown

  -- where a fate leads that changes no word
  abbrev pub To : Fate → Type 0
  To next = Shows_next (ticked (with_seat x p x.store (seat_after now u next)
      (answers_after x p u.call (stepped now.course) next)))

  abbrev pub free : Untouched plan x p x.store
  free = untouched_same plan x p

  abbrev pub calm : Calm x x.store
  calm = calm_same x

  module _ (made : IsMade plan v p u) (slot : OpStands plan v p) (account : Account)
      (past : account.records ≡ v.past p p) where
    -- the ghost's phase, where so many seats are left
    on_less : (b : Burst setup m p) (round : Round) (attempt : BucketTry) (theirs : List (Option Op)) →
        length theirs < seats_of setup → At setup b.next p account u least (after_found setup round attempt theirs) →
        At setup b.next p account u least (TryAnnouncement round attempt theirs)
    on_less b round attempt theirs less a = subst (At setup b.next p account u least)
        (λ i. cond (lt-ltb (length theirs) (seats_of setup) less i) (TryAnnouncement round attempt theirs)
        (TryStore round attempt theirs 0)) a

    on_all : (b : Burst setup m p) (round : Round) (attempt : BucketTry) (theirs : List (Option Op)) →
        seats_of setup ≤ length theirs → At setup b.next p account u least (after_found setup round attempt theirs) →
        At setup b.next p account u least (TryStore round attempt theirs 0)
    on_all b round attempt theirs past_all a = subst (At setup b.next p account u least)
        (λ i. cond (lt_false (length theirs) (seats_of setup) past_all i) (TryAnnouncement round attempt theirs)
        (TryStore round attempt theirs 0)) a

    -- the next seat, or the new row
    ops_on : (found : List (Option Op)) (f : Found plan v p u t found) (b : Burst setup m p) →
        At setup b.next p account u least (after_found setup f.round f.attempt f.theirs) → length found ≢ p →
        To (ops_or_row setup t found)
    ops_on found f b at other = go (nat_lt (length found) (seats_of setup)) refl
      where
        found_w : (step : Step) (law : Lawful plan x shown (ticked (with_seat x p x.store (seat_after now u
            (On step)) x.answers))) →
            Found plan (w_on plan is_plan x shown p inside x.store now u step law free calm b refl refl) p u t found
        found_w step law =
            found_stays plan p v (w_on plan is_plan x shown p inside x.store now u step law free calm b refl refl)
            (after plan is_plan x shown p inside x.store (seat_after now u (On step)) x.answers law free calm b)
            shown.shows.rows
            (named plan is_plan x shown p inside x.store (seat_after now u (On step)) x.answers law free calm b)
            p u t found f

        go : (c : Bool) → nat_lt (length found) (seats_of setup) ≡ c →
            To (On (cond c (S.LoadAnnounced t found) (S.StoreRow t found 0)))
        go true e law =
            let step = S.LoadAnnounced t found in
            let less = ltb-true (length found) (seats_of setup) e in
            let then = seat_after now u (On step) in
            goes_to plan is_plan x shown p inside x.store now u step law free calm b refl refl
            (own_ops plan is_plan x shown p inside x.store then x.answers law free calm b (λ j. refl) slot)
            (record {
              finds = found_w step law;
              in_step = step_now plan is_plan x shown p inside x.store then x.answers law free calm b refl u
                  (TryAnnouncement f.round f.attempt f.theirs) account past
                  (on_less b f.round f.attempt f.theirs (let many = f.as_many in omega (arith, less, many)) at);
              few = (let all = seats_are plan in omega (arith, less, all));
              other = other;
            }) made
        go false e law =
            let step = S.StoreRow t found 0 in
            let all = ltb-false (length found) (seats_of setup) e in
            let then = seat_after now u (On step) in
            goes_to plan is_plan x shown p inside x.store now u step law free calm b refl refl
            (own_ops plan is_plan x shown p inside x.store then x.answers law free calm b (λ j. refl) slot)
            (record {
              finds = found_w step law;
              in_step = step_now plan is_plan x shown p inside x.store then x.answers law free calm b refl u
                  (TryStore f.round f.attempt f.theirs 0) account past
                  (on_all b f.round f.attempt f.theirs (let many = f.as_many in omega (arith, all, many)) at);
              so_far = λ j less. absurd (omega (arith, less));
            }) made

    -- THE RESULT: with the own op where its turn is
    pub found_on : (found : List (Option Op)) (f : Found plan v p u t found) (b : Burst setup m p) →
        At setup b.next p account u least (after_found setup f.round f.attempt f.theirs) →
        To (found_so_far setup p u t found)
    found_on found f b at = elim (cases_eq (length found) p) [
      | inl e ↦ subst (λ (c : Bool). To (ops_or_row setup t (cond c (more found (Some (own_op p u))) found)))
          (sym (eq-eqb (length found) p e)) (own_turn e)
      | inr n ↦ subst (λ (c : Bool). To (ops_or_row setup t (cond c (more found (Some (own_op p u))) found)))
          (sym (ne_eqb (length found) p n)) (ops_on found f b at n)
    ]
      where
        own_turn : length found ≡ p → To (ops_or_row setup t (more found (Some (own_op p u))))
        own_turn e =
            let turn : length f.theirs ≡ p = f.as_many ∙ e in
            let h = inside_ghost plan p inside in
            let less : length f.theirs < seats_of setup = omega (arith, turn, h) in
            let update = update_tested u.call made.update in
            let a = on_less b f.round f.attempt f.theirs less at in
            let n = b.next in
            let k = kept setup p n.events n.run n.common n.locals n.follows h account a.flight
            (TryAnnouncement f.round f.attempt f.theirs) a.state in
            let z = finds setup n p h account u least update f.round f.attempt f.theirs a less in
            let own : op_now n.common p ≡ own_op p u =
            k.works.op_is ∙ (λ i. record { seat = p; number = a.number_is i; call = a.call_is i }) in
            let is_own : z.op ≡ Some (own_op p u) = elim z.is [
              | inl none ↦ absurd (let some = k.works.announced in
                  let zero_rows = ap (λ q. (n.common.used q).op_rows) (sym turn)
                  ∙ none.0 in omega (arith, some, zero_rows))
              | inr some ↦ some.1 ∙ ap Some (ap (op_now n.common) turn ∙ own)
            ] in
            let long = length-append found (Some (own_op p u) ∷ []) in
            let their_long = length-append f.theirs (z.op ∷ []) in
            let many = f.as_many in
            ops_on (more found (Some (own_op p u))) (record {
              row = f.row;
              round = f.round;
              attempt = f.attempt;
              theirs = more f.theirs z.op;
              is_try = f.is_try;
              same = f.same;
              lacks = f.lacks;
              as_many = omega (arith, long, their_long, many);
              alike = elim f.alike [
                | inl gone ↦ inl gone
                | inr all ↦ inr (alike_more (rules_of setup) f.attempt.state 0 f.theirs found z.op (Some
                    (own_op p u)) all
                    (inl (sym is_own)))
              ];
            }) (both_bursts setup m p b z.burst) z.at (λ same. omega (arith, same, long, e))
