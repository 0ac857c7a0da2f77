-- Each call that is dealt is begun once at most: however calls are weighed, those that ended, those that are under way
-- and those that are left weigh no more together than those that were dealt.
use Rattle.std.proofs.Common.{◌≡◌, ◌≤◌, ◌<◌, ℕ, zero, suc, ◌+◌, List, [], ◌∷◌, ◌++◌, Bool, true, false, cond, map, length, drop, get_or, Option, Some, None, fold, replicate, ◌*◌, inl, inr, refl, sym, ap, ◌∙◌, subst, arith, lt-ltb}
use Rattle.std.specs.Prelude.{slice_get}
use Rattle.std.specs.List.{range_with_len, sum_by}
use Rattle.std.proofs.Math.Seq.{drop-cons}
use Rattle.std.proofs.lemmas.Bool.{cases_lt, false≢true}
use Rattle.std.proofs.lemmas.List.{drop_all, get_or_past, set_past, length-replicate}
use Rattle.std.proofs.lemmas.List.Sums.{sum_by-append, sum_by-cons, sum_by-set}
use Rattle.std.proofs.lemmas.List.Folds.{sum_by-replicate}
use Rattle.plain_map.specs.declared.calls.Call.{Call}
use Rattle.plain_map.specs.declared.full.Full.{Full}
use Rattle.plain_map.specs.declared.records.Record.{Record}
use Rattle.trace_share.specs.declared.outcome.Outcome.{Outcome}
use Rattle.trace_share.specs.declared.outcome.Outcome.TheVariants.{Answered, Refused}
use Rattle.trace_share.specs.Outcomes.{asked_in}
use Rattle.table_model.specs.declared.events.Event.{Event}
use Rattle.table_model.specs.Setup.{Setup, seats_of}
use Rattle.table_model.specs.Phases.{Phase, SeeDone, StoreDone}
use Rattle.table_model.specs.SeatStates.{Account, Flight, Stand, Idle, InFlight, SeatState, begun, fresh_seat, record_of}
use Rattle.table_model.specs.Asks.{ask_in}
use Rattle.table_model.specs.Goes.{state_after}
use Rattle.table_model.specs.Worlds.{World, AreEvents, FitsStand, IsEvent, act, begin_or_refuse, found_by, happens, opening_world, refusal_of, seat_in, step_of, world_after, IsRun}
use Rattle.table_model.specs.Schedules.{Hand, Play, Segment, empty_hand, events_of_slot, first_play, hand_after_slot, hand_of, is_refused, is_stopped, one_begins, play_of, slot, tried_of, untried_of, with_events, with_step}
use Rattle.bound_laws.proofs.WorldSteps.{step_same}
use Rattle.bound_laws.proofs.Given.{long_happens}
use Rattle.core_steps.specs.Values.{new_record, refused_at, stepped_of, told_of}
use Rattle.play_runner.specs.Played.{outcome_in, outcomes_from, outcomes_of, refused_with}
use Rattle.play_laws.proofs.PlayedBySlots.{play_keeps}

-- the first one past the end
pub first_past : (xs : List Record) (r : Record) → slice_get (xs ++ r ∷ []) (length xs) ≡ Some r
first_past [] r = refl
first_past (x ∷ xs) r = first_past xs r

-- there is none in the list itself
pub none_past : (xs : List Record) → slice_get xs (length xs) ≡ None
none_past [] = refl
none_past (x ∷ xs) = none_past xs

module _ (weight : ℕ × Call → ℕ) where
  -- ---- how calls are weighed

  -- a call that comes with an event, where one does
  abbrev pub of_begin : Option (ℕ × Call) → ℕ
  of_begin None = 0
  of_begin (Some begin) = weight begin

  -- a seat's call under way
  abbrev pub of_stand : Stand → ℕ
  of_stand Idle = 0
  of_stand (InFlight flight phase) = weight (flight.packet, flight.call)

  -- a call that ended
  abbrev pub of_outcome : ℕ × Outcome → ℕ
  of_outcome ended = weight (asked_in ended.1)

  -- calls that ended
  abbrev pub of_ended : List (ℕ × Outcome) → ℕ
  of_ended outcomes = sum_by of_outcome outcomes

  -- that are under way
  abbrev pub of_flying : World → ℕ
  of_flying world = sum_by (λ state. of_stand state.stand) world.seats

  -- that came with events
  abbrev pub of_asked : List Event → ℕ
  of_asked events = sum_by (λ event. of_begin event.begin) events

  -- that a seat has left
  abbrev pub of_hand : Hand → ℕ
  of_hand hand = sum_by weight hand.calls

  -- and all seats
  abbrev pub of_hands : List Hand → ℕ
  of_hands hands = sum_by of_hand hands

  -- ---- one event

  -- a step of a call ends it or keeps it under way
  step_weighs : (setup : Setup) (event : Event) (me : ℕ) (account : Account) (flight : Flight) (phase : Phase)
      (word : ℕ) →
      of_ended (outcome_in event (told_of None
      (new_record account (state_after setup me account flight phase word).account)))
      + of_stand (state_after setup me account flight phase word).stand ≡ weight (flight.packet, flight.call)
  step_weighs setup event me account flight (StoreDone reply place) word =
      let r : Record = record_of me flight reply place in
      let told : of_ended (outcome_in event (told_of None (slice_get (account.records ++ r ∷ [])
      (length account.records)))) ≡ of_ended ((event.seat, Answered r) ∷ []) =
      ap (λ (made : Option Record). of_ended (outcome_in event (told_of None made)))
      (first_past account.records r) in
      omega (arith, told, sum_by-cons of_outcome (event.seat, Answered r) [])
  step_weighs setup event me account flight phase word =
      let told : of_ended (outcome_in event (told_of None (slice_get account.records (length account.records)))) ≡ 0 =
      ap (λ (made : Option Record). of_ended (outcome_in event (told_of None made))) (none_past account.records) in
      omega (arith, told)

  module _ (setup : Setup) (w : World) (event : Event) (within : event.seat < length w.seats) where
    -- what weighs more than before, where this is refused
    abbrev Weighs : Option Full → Account → World → (more : ℕ) → Type 0
    Weighs full account next more =
        of_ended (outcome_in event (told_of full (new_record account (seat_in next event.seat).account)))
        + of_flying next ≡ of_flying w + more

    -- a step of a seat whose call weighs so much more
    step_flies : (account : Account) (flight : Flight) (phase : Phase) (more : ℕ) →
        of_stand (seat_in w event.seat).stand + more ≡ weight (flight.packet, flight.call) →
        Weighs None account (step_of setup w event.seat account flight phase) more
    step_flies account flight phase more is =
        let word : ℕ = found_by setup (ask_in setup event.seat account.used flight phase) w.words in
        let state : SeatState = state_after setup event.seat account flight phase word in
        let told : of_ended (outcome_in event (told_of None (new_record account
        (seat_in (step_of setup w event.seat account flight phase) event.seat).account)))
        ≡ of_ended (outcome_in event (told_of None (new_record account state.account))) =
        ap (λ (s : SeatState). of_ended (outcome_in event (told_of None (new_record account s.account))))
        (step_same setup w event.seat account flight phase within) in
        omega (
          arith,
          told,
          step_weighs setup event event.seat account flight phase word,
          sum_by-set (λ (s : SeatState). of_stand s.stand) w.seats event.seat state fresh_seat within,
          is,
        )

    -- the act of its seat
    act_flies : (account : Account) (stand : Stand) (begin : Option (ℕ × Call)) → event.begin ≡ begin →
        seat_in w event.seat ≡ record { account = account; stand = stand } → FitsStand setup account stand begin →
        Weighs (refused_at setup event.seat account stand begin) account (act setup w event.seat account stand begin)
        (of_begin begin)
    act_flies account Idle None same is fits = absurd (false≢true fits.0)
    act_flies account Idle (Some begin) same is fits = go (refusal_of setup event.seat account begin.1)
      where
        none : of_stand (seat_in w event.seat).stand ≡ 0
        none = ap (λ (s : SeatState). of_stand s.stand) is

        go : (full : Option Full) → Weighs full account
            (begin_or_refuse setup w event.seat account begin.0 begin.1 full) (weight begin)
        go (Some full) =
            let told : of_ended (refused_with event.seat event.begin full)
            ≡ of_ended ((event.seat, Refused begin.0 begin.1 full) ∷ []) =
            ap (λ (b : Option (ℕ × Call)). of_ended (refused_with event.seat b full)) same in
            omega (arith, told, sum_by-cons of_outcome (event.seat, Refused begin.0 begin.1 full) [])
        go None = step_flies account (begun account begin.0 begin.1) SeeDone (weight begin) (omega (arith, none))
    act_flies account (InFlight flight phase) (Some begin) same is fits = absurd (cc)
    act_flies account (InFlight flight phase) None same is fits =
        step_flies account flight phase 0
        (omega (arith, ap (λ (s : SeatState). of_stand s.stand) is))

  module _ (setup : Setup) where
    -- an event ends calls, or keeps them under way
    event_weighs : (w : World) (event : Event) → length w.seats ≡ seats_of setup → IsEvent setup w event →
        of_ended (outcome_in event (stepped_of setup w event)) + of_flying (happens setup w event)
        ≡ of_flying w + of_begin event.begin
    event_weighs w event long fits =
        subst (λ (next : World). Weighs setup w event inside (refused_at setup event.seat account stand event.begin)
        account next (of_begin event.begin))
        (sym (ap (λ (c : Bool). cond c (act setup w event.seat account stand event.begin) w)
        (lt-ltb event.seat (seats_of setup) fits.seat)))
        (act_flies setup w event inside account stand event.begin refl refl fits.begin)
      where
        account : Account
        account = (seat_in w event.seat).account

        stand : Stand
        stand = (seat_in w event.seat).stand

        inside : event.seat < length w.seats
        inside = omega (arith, fits.seat, long)

    -- and so do events
    pub events_weigh : (events : List Event) (w : World) → length w.seats ≡ seats_of setup →
        AreEvents setup w events →
        of_ended (outcomes_from setup w events) + of_flying (fold (happens setup) w events)
        ≡ of_flying w + of_asked events
    events_weigh [] w long fit = omega arith
    events_weigh (event ∷ events) w long fit =
        let next : World = happens setup w event in
        omega (
          arith,
          sum_by-append of_outcome (outcome_in event (stepped_of setup w event)) (outcomes_from setup next events),
          sum_by-cons (λ (e : Event). of_begin e.begin) event events,
          event_weighs w event long fit.0,
          events_weigh events next (long_happens setup w event ∙ long) fit.1,
        )

    -- ---- one slot

    -- what a seat tries in a slot, and what it keeps, is what it had
    tried_weigh : (seat : ℕ) (refused : Call → Bool) (calls : List (ℕ × Call)) →
        of_asked (map (λ begin. record { seat = seat; begin = Some begin }) (tried_of refused calls))
        + sum_by weight (untried_of refused calls) ≡ sum_by weight calls
    tried_weigh seat refused [] = refl
    tried_weigh seat refused (begin ∷ calls) = go (tried_weigh seat refused calls) (refused begin.1)
      where
        event : Event
        event = record { seat = seat; begin = Some begin }

        go : of_asked (map (λ begin. record { seat = seat; begin = Some begin }) (tried_of refused calls))
            + sum_by weight (untried_of refused calls) ≡ sum_by weight calls → (b : Bool) →
            of_asked (map (λ begin. record { seat = seat; begin = Some begin })
            (cond b (begin ∷ tried_of refused calls) (begin ∷ [])))
            + sum_by weight (cond b (untried_of refused calls) calls) ≡ sum_by weight (begin ∷ calls)
        go rest true = omega (
          arith,
          rest,
          sum_by-cons (λ (e : Event). of_begin e.begin) event
              (map (λ begin. record { seat = seat; begin = Some begin }) (tried_of refused calls)),
          sum_by-cons weight begin calls,
        )
        go rest false = omega (
          arith,
          sum_by-cons (λ (e : Event). of_begin e.begin) event [],
          sum_by-cons weight begin calls,
        )

    -- so it is with its whole hand
    slot_weighs : (seat : ℕ) (account : Account) (hand : Hand) (stand : Stand) →
        of_asked (events_of_slot setup seat account hand stand)
        + of_hand (hand_after_slot setup seat account hand stand) ≡ of_hand hand
    slot_weighs seat account hand Idle =
        go (tried_weigh seat (is_refused setup seat account) hand.calls)
        (one_begins (is_refused setup seat account) hand.calls)
      where
        now : Hand
        now = record { calls = untried_of (is_refused setup seat account) hand.calls; may = hand.may }

        go : of_asked (events_of_slot setup seat account hand Idle)
            + sum_by weight (untried_of (is_refused setup seat account) hand.calls) ≡ of_hand hand → (b : Bool) →
            of_asked (events_of_slot setup seat account hand Idle) + of_hand (cond b (with_step now) now)
            ≡ of_hand hand
        go is true = is
        go is false = is
    slot_weighs seat account hand (InFlight flight phase) =
        omega (arith, sum_by-cons (λ (e : Event). of_begin e.begin) (record { seat = seat; begin = None }) [])

    -- ---- the play

    -- what came with events and what is left weighs so much
    abbrev Weighing : (all : ℕ) → Play → Type 0
    Weighing all play = of_asked play.events + of_hands play.hands ≡ all

    -- so it stays where events come with just what the hand gives away
    with_weighs : (all seat : ℕ) (play : Play) (events : List Event) (hand : Hand) → Weighing all play →
        of_asked events + of_hand hand ≡ of_hand (hand_of play seat) →
        Weighing all (with_events setup play seat events hand)
    with_weighs all seat play events hand is own = elim (cases_lt seat (length play.hands)) [
      | inl within ↦ omega (
        arith,
        is,
        own,
        both,
        sum_by-set of_hand play.hands seat hand empty_hand within,
      )
      | inr past ↦ omega (
        arith,
        is,
        own,
        both,
        ap of_hands (set_past play.hands seat hand past),
        ap of_hand (get_or_past play.hands seat empty_hand past),
      )
    ]
      where
        both : of_asked (play.events ++ events) ≡ of_asked play.events + of_asked events
        both = sum_by-append (λ (e : Event). of_begin e.begin) play.events events

    -- as in each slot
    slot_keeps_weight : (all seat : ℕ) (play : Play) → Weighing all play → Weighing all (slot setup seat play)
    slot_keeps_weight all seat play is = go (is_stopped (hand_of play seat))
      where
        go : (b : Bool) → Weighing all (cond b play (with_events setup play seat
            (events_of_slot setup seat (seat_in play.world seat).account (hand_of play seat)
            (seat_in play.world seat).stand)
            (hand_after_slot setup seat (seat_in play.world seat).account (hand_of play seat)
            (seat_in play.world seat).stand)))
        go true = is
        go false = with_weighs all seat play _ _ is
            (slot_weighs seat (seat_in play.world seat).account (hand_of play seat) (seat_in play.world seat).stand)

    -- the hands at the beginning have no more than was dealt
    first_weighs : (stops : List (Option ℕ)) (calls : List (List (ℕ × Call))) (from many : ℕ) →
        of_hands (map (λ seat. record { calls = get_or calls seat []; may = get_or stops seat None })
        (range_with_len from many)) ≤ sum_by (λ own. sum_by weight own) (drop from calls)
    first_weighs stops calls from zero = omega arith
    first_weighs stops calls from (suc many) = elim (cases_lt from (length calls)) [
      | inl within ↦ omega (
        arith,
        first_weighs stops calls (from + 1) many,
        split,
        ap all (drop-cons calls from [] within
            ∙ ap (λ (n : ℕ). get_or calls from [] ∷ drop n calls) next),
        sum_by-cons (λ (own : List (ℕ × Call)). sum_by weight own) (get_or calls from []) (drop (from + 1) calls),
      )
      | inr past ↦ omega (
        arith,
        first_weighs stops calls (from + 1) many,
        split,
        ap all (drop_all (from + 1) calls (omega (arith, past))),
        ap (sum_by weight) (get_or_past calls from [] past),
      )
    ]
      where
        next : suc from ≡ from + 1
        next = omega arith

        all : List (List (ℕ × Call)) → ℕ
        all shares = sum_by (λ own. sum_by weight own) shares

        hand_at : (seat : ℕ) → Hand
        hand_at seat = record { calls = get_or calls seat []; may = get_or stops seat None }

        split : of_hands (map hand_at (range_with_len from (suc many)))
            ≡ sum_by weight (get_or calls from []) + of_hands (map hand_at (range_with_len (from + 1) many))
        split = sum_by-cons of_hand (hand_at from) (map hand_at (range_with_len (from + 1) many))

    -- nobody is under way at the opening
    opening_weighs : of_flying (opening_world setup) ≡ 0
    opening_weighs =
        let none : sum_by (λ (state : SeatState). of_stand state.stand) (replicate (seats_of setup) fresh_seat)
        ≡ seats_of setup * 0 =
        sum_by-replicate (λ (state : SeatState). of_stand state.stand) (seats_of setup) fresh_seat in
        omega (arith, none)

    -- calls that ended, that are under way and that are left are no more than those that were dealt
    pub play_weighs : (calls : List (List (ℕ × Call))) (stops : List (Option ℕ)) (schedule : List Segment) →
        IsRun setup (play_of setup calls stops schedule).events →
        (play_of setup calls stops schedule).world ≡ world_after setup (play_of setup calls stops schedule).events →
        of_ended (outcomes_of setup (play_of setup calls stops schedule).events)
        + of_flying (play_of setup calls stops schedule).world
        + of_hands (play_of setup calls stops schedule).hands
        ≤ sum_by (λ own. sum_by weight own) calls
    play_weighs calls stops schedule run comes =
        let play : Play = play_of setup calls stops schedule in
        let first : Play = first_play setup calls stops in
        let kept : Weighing (of_hands first.hands) play =
        play_keeps setup (Weighing (of_hands first.hands)) (slot_keeps_weight (of_hands first.hands)) calls stops
        schedule (omega arith) in
        omega (
          arith,
          kept,
          events_weigh play.events (opening_world setup) (length-replicate (seats_of setup) fresh_seat) run.follow,
          opening_weighs,
          ap of_flying comes,
          first_weighs stops calls 0 (seats_of setup),
        )
