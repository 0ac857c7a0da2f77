-- The calls that an idle seat tries in one slot.
use Rattle.std.proofs.Common.{◌≡◌, ℕ, ◌+◌, ◌-◌, ◌<◌, ◌≤◌, Bool, true, cond, not, ◌||◌, List, [], ◌∷◌, map, length, drop, get_or, suc, Option, Some, fold, sym, ap, ◌∙◌, subst, arith, append_assoc}
use Rattle.plain_map.specs.declared.calls.Call.{Call}
use Rattle.table_model.specs.declared.events.Event.{Event}
use Rattle.table_model.specs.Setup.{Setup, seats_of}
use Rattle.std.proofs.Math.Seq.{drop-cons}
use Rattle.table_model.specs.SeatStates.{Account, Idle}
use Rattle.table_model.specs.Worlds.{World, happens, refusal_of, seat_in}
use Rattle.table_model.specs.Schedules as S
use Rattle.table_model.specs.Schedules.{hand_after_slot, is_refused, one_begins, tried_of, untried_of, with_step}
use Rattle.play_laws.specs.Good.{ArePlayable}
use Rattle.play_laws.proofs.Slots as slots
use Rattle.core_steps.specs.Values.{CoreValue, stepped_of, with_event}
use Rattle.play_runner.specs.Plays.{IsAtSlot, was_refused, with_all}
use Rattle.play_runner.proofs.Outcomes.{refused_is}

-- a seat begins this call, or is refused
abbrev pub beginning : (seat : ℕ) → ℕ × Call → Event
beginning seat begin = record { seat = seat; begin = Some begin }

-- the table after an idle seat has tried these calls
abbrev pub after_tries : Setup → (seat : ℕ) → Account → List Event → World → List (ℕ × Call) → CoreValue
after_tries setup seat account events w calls =
    with_all (record { setup = setup; events = events; world = w })
    (map (beginning seat) (tried_of (is_refused setup seat account) calls))

-- and its hand
abbrev pub hand_after : Setup → (seat : ℕ) → Account → Option ℕ → List (ℕ × Call) → S.Hand
hand_after setup seat account may calls =
    hand_after_slot setup seat account (record { calls = calls; may = may }) Idle

-- how far the tries are, with these calls left: the calls before them were refused, so that nothing has changed
pub record AreTrying (before now : CoreValue) (seat : ℕ) (hand : S.Hand) (left : List (ℕ × Call)) : Type 0 where
  pub setup_is : now.setup ≡ before.setup
  pub world_is : now.world ≡ before.world
  pub core_is : after_tries before.setup seat (seat_in before.world seat).account now.events now.world left
      ≡ after_tries before.setup seat (seat_in before.world seat).account before.events before.world hand.calls
  pub hand_is : hand_after before.setup seat (seat_in before.world seat).account hand.may left
      ≡ hand_after before.setup seat (seat_in before.world seat).account hand.may hand.calls
  pub playable : ArePlayable left
  pub few : length (seat_in before.world seat).account.records + length left ≤ before.setup.shape.limit - 1

module _ (before : CoreValue) (seat : ℕ) (hand : S.Hand) (h : seat < seats_of before.setup)
    (long : length before.world.seats ≡ seats_of before.setup)
    (idle : (seat_in before.world seat).stand ≡ Idle) where
  abbrev account : Account
  account = (seat_in before.world seat).account

  is : seat_in before.world seat ≡ record { account = account; stand = Idle }
  is = λ i. record { account = (seat_in before.world seat).account; stand = idle i }

  -- the hand by whether the next call is refused
  abbrev hand_by : Option ℕ → ℕ × Call → List (ℕ × Call) → Bool → S.Hand
  hand_by may begin left b =
      let calls : List (ℕ × Call) = cond b (untried_of (is_refused before.setup seat account) left) left in
      cond (not b || one_begins (is_refused before.setup seat account) left)
      (with_step (record { calls = calls; may = may })) (record { calls = calls; may = may })

  -- it is refused
  pub goes_past : (now : CoreValue) (begin : ℕ × Call) (left : List (ℕ × Call)) →
      AreTrying before now seat hand (begin ∷ left) → is_refused before.setup seat account begin.1 ≡ true →
      AreTrying before (with_event now (beginning seat begin)) seat hand left
  goes_past now begin left t e = record {
    setup_is = t.setup_is;
    world_is = ap (λ (setup : Setup). happens setup now.world (beginning seat begin)) t.setup_is
        ∙ ap (λ (w : World). happens before.setup w (beginning seat begin)) t.world_is
        ∙ slots.begins before.setup seat h before.world account long is begin
        ∙ slots.refuses before.setup seat h before.world account long is begin
        (refusal_of before.setup seat account begin.1) e;
    core_is = (λ i. record {
      setup = before.setup;
      events = append_assoc now.events (beginning seat begin ∷ []) later i;
      world = fold (happens before.setup) (happens (t.setup_is i) now.world (beginning seat begin)) later;
    })
        ∙ ap (λ (b : Bool). with_all (record { setup = before.setup; events = now.events; world = now.world })
        (map (beginning seat) (cond b (begin ∷ tried_of (is_refused before.setup seat account) left) (begin ∷ []))))
        (sym e)
        ∙ t.core_is;
    hand_is = ap (hand_by hand.may begin left) (sym e) ∙ t.hand_is;
    playable = t.playable.1;
    few = omega (arith, t.few);
  }
    where
      later : List Event
      later = map (beginning seat) (tried_of (is_refused before.setup seat account) left)

-- the next call, and those after it
next_of : (before : CoreValue) (seat : ℕ) (hand : S.Hand) (now : CoreValue) (i : ℕ) (d : ℕ × Call) →
    AreTrying before now seat hand (drop i hand.calls) → i < length hand.calls →
    AreTrying before now seat hand (get_or hand.calls i d ∷ drop (suc i) hand.calls)
next_of before seat hand now i d t h = subst (AreTrying before now seat hand) (drop-cons hand.calls i d h) t

-- what is told of it
answer_is : (before : CoreValue) (seat : ℕ) (hand : S.Hand) → (seat_in before.world seat).stand ≡ Idle →
    (now : CoreValue) (i : ℕ) (d : ℕ × Call) (refused : Bool) → AreTrying before now seat hand (drop i hand.calls) →
    refused ≡ was_refused (stepped_of now.setup now.world (beginning seat (get_or hand.calls i d))) →
    refused ≡ is_refused before.setup seat (seat_in before.world seat).account (get_or hand.calls i d).1
answer_is before seat hand idle now i d refused t told =
    told
    ∙ ap (λ (setup : Setup). was_refused (stepped_of setup now.world (beginning seat (get_or hand.calls i d))))
    t.setup_is
    ∙ ap (λ (w : World). was_refused (stepped_of before.setup w (beginning seat (get_or hand.calls i d)))) t.world_is
    ∙ refused_is before.setup before.world seat (seat_in before.world seat).account (get_or hand.calls i d)
    (λ j. record { account = (seat_in before.world seat).account; stand = idle j })

-- of the calls from this one on the first is refused
pub past_one : (before : CoreValue) (seat : ℕ) (hand : S.Hand) → IsAtSlot before seat hand →
    (seat_in before.world seat).stand ≡ Idle → (now after : CoreValue) (i : ℕ) (d : ℕ × Call) (refused : Bool) →
    AreTrying before now seat hand (drop i hand.calls) → i < length hand.calls →
    after ≡ with_event now (beginning seat (get_or hand.calls i d)) →
    refused ≡ was_refused (stepped_of now.setup now.world (beginning seat (get_or hand.calls i d))) →
    refused ≡ true → AreTrying before after seat hand (drop (i + 1) hand.calls)
past_one before seat hand at idle now after i d refused t h is told e =
    subst (λ (core : CoreValue). AreTrying before core seat hand (drop (i + 1) hand.calls)) (sym is)
    (subst (λ (n : ℕ). AreTrying before (with_event now (beginning seat (get_or hand.calls i d))) seat hand
    (drop n hand.calls)) (let one : suc i ≡ i + 1 = omega arith in one)
    (goes_past before seat hand at.inside at.long idle now (get_or hand.calls i d) (drop (suc i) hand.calls)
    (next_of before seat hand now i d t h) (sym (answer_is before seat hand idle now i d refused t told) ∙ e)))
