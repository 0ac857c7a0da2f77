-- What holds of every call that ends holds of all that a run tells: of what a last step records, and of what is refused
-- where too little is left.
use Rattle.std.proofs.Common.{◌≡◌, ◌<◌, ℕ, List, [], ◌∷◌, Bool, cond, length, Option, Some, None, refl, sym, ap, ◌∙◌, subst, arith, lt-ltb}
use Rattle.std.specs.List.{All}
use Rattle.std.proofs.lemmas.Bool.{false≢true}
use Rattle.std.proofs.lemmas.List.Elements.{All-append, All-cons, All-nil}
use Rattle.plain_map.specs.declared.calls.Call.{Call}
use Rattle.plain_map.specs.declared.calls.Reply.{Reply}
use Rattle.plain_map.specs.declared.full.Full.{Full}
use Rattle.plain_map.specs.declared.records.Record.{Record}
use Rattle.trace_share.specs.declared.outcome.Outcome.{Outcome}
use Rattle.trace_share.specs.declared.outcome.Outcome.TheVariants.{Answered, Refused}
use Rattle.table_model.specs.declared.events.Event.{Event}
use Rattle.table_model.specs.Setup.{Setup, seats_of}
use Rattle.table_model.specs.Phases.{Phase, SeeDone, StoreDone}
use Rattle.table_model.specs.SeatStates.{Account, Flight, Stand, Idle, InFlight, SeatState, begun, record_of}
use Rattle.table_model.specs.Asks.{ask_in}
use Rattle.table_model.specs.Goes.{state_after}
use Rattle.table_model.specs.Worlds.{World, AreEvents, FitsStand, IsEvent, act, begin_or_refuse, found_by, happens, refusal_of, seat_in, step_of}
use Rattle.bound_laws.proofs.WorldSteps.{step_same}
use Rattle.bound_laws.proofs.Given.{long_happens}
use Rattle.core_steps.specs.Values.{new_record, refused_at, stepped_of, told_of}
use Rattle.play_runner.specs.Played.{outcome_in, outcomes_from, refused_with}
use Rattle.play_runner.proofs.WeighedPlays.{first_past, none_past}

-- what holds of each call that a seat answers or refuses
pub record HoldsOfEnds (setup : Setup) (P : ℕ × Outcome → Type 0) : Type 0 where
  pub answered : (seat : ℕ) (flight : Flight) (reply : Reply) (place : ℕ) → seat < seats_of setup →
      P (seat, Answered (record_of seat flight reply place))
  pub refused : (seat : ℕ) (account : Account) (begin : ℕ × Call) (full : Full) → seat < seats_of setup →
      refusal_of setup seat account begin.1 ≡ Some full → P (seat, Refused begin.0 begin.1 full)

module _ (setup : Setup) (P : ℕ × Outcome → Type 0) (holds : HoldsOfEnds setup P) where
  -- of a step of a call
  step_holds : (event : Event) (account : Account) (flight : Flight) (phase : Phase) (word : ℕ) →
      event.seat < seats_of setup →
      All P (outcome_in event (told_of None
      (new_record account (state_after setup event.seat account flight phase word).account)))
  step_holds event account flight (StoreDone reply place) word inside =
      let r : Record = record_of event.seat flight reply place in
      subst (λ (made : Option Record). All P (outcome_in event (told_of None made)))
      (sym (first_past account.records r))
      (All-cons P (event.seat, Answered r) [] (holds.answered event.seat flight reply place inside) (All-nil P))
  step_holds event account flight phase word inside =
      subst (λ (made : Option Record). All P (outcome_in event (told_of None made)))
      (sym (none_past account.records)) (All-nil P)

  module _ (w : World) (event : Event) (within : event.seat < length w.seats)
      (inside : event.seat < seats_of setup) where
    -- of what an event tells, where this is refused
    abbrev Told : Option Full → Account → World → Type 0
    Told full account next =
        All P (outcome_in event (told_of full (new_record account (seat_in next event.seat).account)))

    -- of what a step tells
    step_told : (account : Account) (flight : Flight) (phase : Phase) →
        Told None account (step_of setup w event.seat account flight phase)
    step_told account flight phase =
        let word : ℕ = found_by setup (ask_in setup event.seat account.used flight phase) w.words in
        subst (λ (s : SeatState). All P (outcome_in event (told_of None (new_record account s.account))))
        (sym (step_same setup w event.seat account flight phase within))
        (step_holds event account flight phase word inside)

    -- and the act of a seat
    act_told : (account : Account) (stand : Stand) (begin : Option (ℕ × Call)) → event.begin ≡ begin →
        FitsStand setup account stand begin →
        Told (refused_at setup event.seat account stand begin) account (act setup w event.seat account stand begin)
    act_told account Idle None same fits = absurd (false≢true fits.0)
    act_told account Idle (Some begin) same fits = go (refusal_of setup event.seat account begin.1) refl
      where
        go : (full : Option Full) → refusal_of setup event.seat account begin.1 ≡ full →
            Told full account (begin_or_refuse setup w event.seat account begin.0 begin.1 full)
        go (Some full) e =
            subst (λ (b : Option (ℕ × Call)). All P (refused_with event.seat b full)) (sym same)
            (All-cons P (event.seat, Refused begin.0 begin.1 full) []
            (holds.refused event.seat account begin full inside e) (All-nil P))
        go None e = step_told account (begun account begin.0 begin.1) SeeDone
    act_told account (InFlight flight phase) begin same fits = step_told account flight phase

  -- of an event
  event_holds : (w : World) (event : Event) → length w.seats ≡ seats_of setup → IsEvent setup w event →
      All P (outcome_in event (stepped_of setup w event))
  event_holds w event long fits =
      subst (λ (next : World). Told w event inside fits.seat
      (refused_at setup event.seat account stand event.begin) account next)
      (sym (ap (λ (c : Bool). cond c (act setup w event.seat account stand event.begin) w)
      (lt-ltb event.seat (seats_of setup) fits.seat)))
      (act_told w event inside fits.seat account stand event.begin refl fits.begin)
    where
      account : Account
      account = (seat_in w event.seat).account

      stand : Stand
      stand = (seat_in w event.seat).stand

      inside : event.seat < length w.seats
      inside = omega (arith, fits.seat, long)

  -- and of events
  pub events_hold : (events : List Event) (w : World) → length w.seats ≡ seats_of setup → AreEvents setup w events →
      All P (outcomes_from setup w events)
  events_hold [] w long fit = All-nil P
  events_hold (event ∷ events) w long fit =
      All-append P (outcome_in event (stepped_of setup w event)) (outcomes_from setup (happens setup w event) events)
      (event_holds w event long fit.0)
      (events_hold events (happens setup w event) (long_happens setup w event ∙ long) fit.1)
