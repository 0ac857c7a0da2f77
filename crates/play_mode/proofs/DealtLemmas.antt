-- What is told of a play is told of calls that were dealt: what holds of each of these holds of each call that ended,
-- that is under way, or that was answered.
use Rattle.std.proofs.Common.{◌≡◌, ℕ, ◌+◌, List, [], ◌∷◌, Bool, true, false, cond, map, length, get_or, Option, Some, None, fold, inl, inr, refl, sym, subst, nat_lt}
use Rattle.std.specs.Prelude.{slice_get}
use Rattle.std.specs.List.{All, enumerate_from, flat_map, range_with_len}
use Rattle.std.proofs.lemmas.List.{get_or_past}
use Rattle.std.proofs.lemmas.List.Elements.{All-append, All-cons, All-get_or, All-head, All-map, All-nil, All-replicate, All-set, All-tail}
use Rattle.std.proofs.lemmas.Bool.{cases_lt}
use Rattle.std.proofs.lemmas.Option.{slice_get_cases}
use Rattle.plain_map.specs.declared.calls.Call.{Call}
use Rattle.plain_map.specs.declared.full.Full.{Full}
use Rattle.plain_map.specs.declared.records.Record.{Record}
use Rattle.plain_map.specs.declared.records.Pending.{Pending}
use Rattle.trace_share.specs.declared.outcome.Outcome.{Outcome}
use Rattle.trace_share.specs.declared.outcome.Outcome.TheVariants.{Answered, Refused}
use Rattle.trace_share.specs.Outcomes.{asked_in}
use Rattle.table_model.specs.declared.events.Event.{Event}
use Rattle.table_model.specs.Setup.{Setup, seats_of}
use Rattle.table_model.specs.Phases.{Phase, SeeDone, StoreDone}
use Rattle.table_model.specs.SeatStates.{Account, Flight, Stand, Idle, InFlight, SeatState, begun, fresh_seat, record_of}
use Rattle.table_model.specs.Asks.{ask_in}
use Rattle.table_model.specs.Goes.{state_after}
use Rattle.table_model.specs.Worlds.{World, act, begin_or_refuse, found_by, happens, opening_world, refusal_of, seat_in, step_of}
use Rattle.table_model.specs.Closed.{begun_by, begun_of, records_of}
use Rattle.table_model.specs.Schedules.{Hand, Play, Segment, empty_hand, events_of_slot, first_play, hand_after_slot, hand_of, is_refused, is_stopped, one_begins, play_of, slot, tried_of, untried_of, with_events, with_step}
use Rattle.bound_laws.specs.Moments.{asked_of}
use Rattle.core_steps.specs.Values.{new_record, refused_at, stepped_of, told_of}
use Rattle.play_runner.specs.Played.{outcome_in, outcomes_from, outcomes_of, refused_with}
use Rattle.play_laws.proofs.PlayedBySlots.{play_keeps}

-- a list of one element that is right
one_right : {A : Type 0} (Q : A → Type 0) (x : A) → Q x → All Q (x ∷ [])
one_right Q x right = All-cons Q x [] right (All-nil Q)

module _ (P : ℕ × Call → Type 0) where
  -- ---- what seats begin

  abbrev OfBegin : Option (ℕ × Call) → Type 0
  OfBegin None = Unit {0}
  OfBegin (Some begin) = P begin

  abbrev OfEvent : Event → Type 0
  OfEvent event = OfBegin event.begin

  abbrev OfHand : Hand → Type 0
  OfHand hand = All P hand.calls

  -- the calls that a seat tries in one slot
  tried_right : (seat : ℕ) (refused : Call → Bool) (calls : List (ℕ × Call)) → All P calls →
      All OfEvent (map (λ begin. record { seat = seat; begin = Some begin }) (tried_of refused calls))
  tried_right seat refused [] all = All-nil OfEvent
  tried_right seat refused (begin ∷ calls) all =
      go (tried_right seat refused calls (All-tail P begin calls all)) (refused begin.1)
    where
      event : Event
      event = record { seat = seat; begin = Some begin }

      go : All OfEvent (map (λ begin. record { seat = seat; begin = Some begin }) (tried_of refused calls)) →
          (b : Bool) →
          All OfEvent (map (λ begin. record { seat = seat; begin = Some begin })
          (cond b (begin ∷ tried_of refused calls) (begin ∷ [])))
      go rest true = All-cons OfEvent event _ (All-head P begin calls all) rest
      go rest false = one_right OfEvent event (All-head P begin calls all)

  -- and those that it keeps
  untried_right : (refused : Call → Bool) (calls : List (ℕ × Call)) → All P calls → All P (untried_of refused calls)
  untried_right refused [] all = All-nil P
  untried_right refused (begin ∷ calls) all =
      go (untried_right refused calls (All-tail P begin calls all)) (refused begin.1)
    where
      go : All P (untried_of refused calls) → (b : Bool) → All P (cond b (untried_of refused calls) calls)
      go rest true = rest
      go rest false = All-tail P begin calls all

  -- ---- what seats have begun

  abbrev OfRecord : Record → Type 0
  OfRecord r = P (asked_of r)

  abbrev OfStand : Stand → Type 0
  OfStand Idle = Unit {0}
  OfStand (InFlight flight phase) = P (flight.packet, flight.call)

  record OfSeat (state : SeatState) : Type 0 where
    answered : All OfRecord state.account.records
    now : OfStand state.stand

  -- a step of a call answers that call, if any
  step_right : (setup : Setup) (me : ℕ) (account : Account) (flight : Flight) (phase : Phase) (word : ℕ) →
      All OfRecord account.records → P (flight.packet, flight.call) →
      OfSeat (state_after setup me account flight phase word)
  step_right setup me account flight (StoreDone reply place) word records call =
      record {
        answered = All-append OfRecord account.records (record_of me flight reply place ∷ []) records
            (one_right OfRecord (record_of me flight reply place) call);
        now = tt;
      }
  step_right setup me account flight phase word records call = record { answered = records; now = call }

  module _ (setup : Setup) where
    -- a step of a seat in a world
    step_of_right : (world : World) (seat : ℕ) (account : Account) (flight : Flight) (phase : Phase) →
        All OfRecord account.records → P (flight.packet, flight.call) → All OfSeat world.seats →
        All OfSeat (step_of setup world seat account flight phase).seats
    step_of_right world seat account flight phase records call all =
        All-set OfSeat world.seats seat _
        (step_right setup seat account flight phase
        (found_by setup (ask_in setup seat account.used flight phase) world.words) records call) all

    begin_right : (world : World) (seat : ℕ) (account : Account) (packet : ℕ) (call : Call) (refused : Option Full) →
        All OfRecord account.records → P (packet, call) → All OfSeat world.seats →
        All OfSeat (begin_or_refuse setup world seat account packet call refused).seats
    begin_right world seat account packet call (Some full) records right all = all
    begin_right world seat account packet call None records right all =
        step_of_right world seat account (begun account packet call) SeeDone records right all

    act_right : (world : World) (seat : ℕ) (account : Account) (stand : Stand) (begin : Option (ℕ × Call)) →
        All OfRecord account.records → OfStand stand → OfBegin begin → All OfSeat world.seats →
        All OfSeat (act setup world seat account stand begin).seats
    act_right world seat account Idle None records now right all = all
    act_right world seat account Idle (Some begin) records now right all =
        begin_right world seat account begin.0 begin.1 (refusal_of setup seat account begin.1) records right all
    act_right world seat account (InFlight flight phase) begin records now right all =
        step_of_right world seat account flight phase records now all

    -- each seat
    seat_right : (world : World) (seat : ℕ) → All OfSeat world.seats → OfSeat (seat_in world seat)
    seat_right world seat all = elim (cases_lt seat (length world.seats)) [
      | inl within ↦ All-get_or OfSeat world.seats seat fresh_seat within all
      | inr past ↦ subst OfSeat (sym (get_or_past world.seats seat fresh_seat past))
          (record { answered = All-nil OfRecord; now = tt })
    ]

    -- an event whose call is right
    happens_right : (world : World) (event : Event) → OfEvent event → All OfSeat world.seats →
        All OfSeat (happens setup world event).seats
    happens_right world event right all =
        let own = seat_right world event.seat all in
        go (act_right world event.seat (seat_in world event.seat).account (seat_in world event.seat).stand event.begin
        own.answered own.now right all) (nat_lt event.seat (seats_of setup))
      where
        go : All OfSeat (act setup world event.seat (seat_in world event.seat).account
            (seat_in world event.seat).stand event.begin).seats → (b : Bool) →
            All OfSeat (cond b (act setup world event.seat (seat_in world event.seat).account
            (seat_in world event.seat).stand event.begin) world).seats
        go acted true = acted
        go acted false = all

    after_right : (events : List Event) (world : World) → All OfEvent events → All OfSeat world.seats →
        All OfSeat (fold (happens setup) world events).seats
    after_right [] world right all = all
    after_right (event ∷ events) world right all =
        after_right events (happens setup world event) (All-tail OfEvent event events right)
        (happens_right world event (All-head OfEvent event events right) all)

    -- ---- what is told of the events

    abbrev OfOutcome : ℕ × Outcome → Type 0
    OfOutcome ended = P (asked_in ended.1)

    refused_right : (seat : ℕ) (begin : Option (ℕ × Call)) (full : Full) → OfBegin begin →
        All OfOutcome (refused_with seat begin full)
    refused_right seat None full right = All-nil OfOutcome
    refused_right seat (Some begin) full right =
        one_right OfOutcome (seat, Refused begin.0 begin.1 full) right

    -- an element of a list
    got_right : (records : List Record) (k : ℕ) (made : Record) → slice_get records k ≡ Some made →
        All OfRecord records → OfRecord made
    got_right records k made got all = elim (slice_get_cases records k).1 [
      | inl here ↦
          let same : here.0 ≡ made = cc in
          subst OfRecord same (subst OfRecord here.3 (All-get_or OfRecord records k here.0 here.1 all))
      | inr past ↦ absurd (cc)
    ]

    told_right : (event : Event) (full : Option Full) (made : Option Record) → OfEvent event →
        ((r : Record) → made ≡ Some r → OfRecord r) → All OfOutcome (outcome_in event (told_of full made))
    told_right event (Some full) made right records = refused_right event.seat event.begin full right
    told_right event None (Some r) right records =
        one_right OfOutcome (event.seat, Answered r) (records r refl)
    told_right event None None right records = All-nil OfOutcome

    outcome_right : (world : World) (event : Event) → OfEvent event → All OfSeat (happens setup world event).seats →
        All OfOutcome (outcome_in event (stepped_of setup world event))
    outcome_right world event right all =
        told_right event
        (refused_at setup event.seat (seat_in world event.seat).account (seat_in world event.seat).stand event.begin)
        (new_record (seat_in world event.seat).account (seat_in (happens setup world event) event.seat).account) right
        (λ r is. got_right (seat_in (happens setup world event) event.seat).account.records
        (length (seat_in world event.seat).account.records) r is
        (seat_right (happens setup world event) event.seat all).answered)

    outcomes_right : (events : List Event) (world : World) → All OfEvent events → All OfSeat world.seats →
        All OfOutcome (outcomes_from setup world events)
    outcomes_right [] world right all = All-nil OfOutcome
    outcomes_right (event ∷ events) world right all =
        let next = happens_right world event (All-head OfEvent event events right) all in
        All-append OfOutcome (outcome_in event (stepped_of setup world event))
        (outcomes_from setup (happens setup world event) events)
        (outcome_right world event (All-head OfEvent event events right) next)
        (outcomes_right events (happens setup world event) (All-tail OfEvent event events right) next)

    -- ---- the play

    record OfPlay (play : Play) : Type 0 where
      events : All OfEvent play.events
      hands : All OfHand play.hands
      seats : All OfSeat play.world.seats

    hand_right : (play : Play) (seat : ℕ) → OfPlay play → OfHand (hand_of play seat)
    hand_right play seat of = elim (cases_lt seat (length play.hands)) [
      | inl within ↦ All-get_or OfHand play.hands seat empty_hand within of.hands
      | inr past ↦ subst OfHand (sym (get_or_past play.hands seat empty_hand past)) (All-nil P)
    ]

    slot_events_right : (seat : ℕ) (account : Account) (hand : Hand) (stand : Stand) → OfHand hand →
        All OfEvent (events_of_slot setup seat account hand stand)
    slot_events_right seat account hand Idle right =
        tried_right seat (is_refused setup seat account) hand.calls right
    slot_events_right seat account hand (InFlight flight phase) right =
        one_right OfEvent (record { seat = seat; begin = None }) tt

    slot_hand_right : (seat : ℕ) (account : Account) (hand : Hand) (stand : Stand) → OfHand hand →
        OfHand (hand_after_slot setup seat account hand stand)
    slot_hand_right seat account hand Idle right =
        go (untried_right (is_refused setup seat account) hand.calls right)
        (one_begins (is_refused setup seat account) hand.calls)
      where
        now : Hand
        now = record { calls = untried_of (is_refused setup seat account) hand.calls; may = hand.may }

        go : All P (untried_of (is_refused setup seat account) hand.calls) → (b : Bool) →
            OfHand (cond b (with_step now) now)
        go rest true = rest
        go rest false = rest
    slot_hand_right seat account hand (InFlight flight phase) right = right

    with_events_right : (play : Play) (seat : ℕ) (events : List Event) (hand : Hand) → OfPlay play →
        All OfEvent events → OfHand hand → OfPlay (with_events setup play seat events hand)
    with_events_right play seat events hand of right own =
        record {
          events = All-append OfEvent play.events events of.events right;
          hands = All-set OfHand play.hands seat hand own of.hands;
          seats = after_right events play.world right of.seats;
        }

    slot_right : (seat : ℕ) (play : Play) → OfPlay play → OfPlay (slot setup seat play)
    slot_right seat play of = go (is_stopped (hand_of play seat))
      where
        account : Account
        account = (seat_in play.world seat).account

        stand : Stand
        stand = (seat_in play.world seat).stand

        go : (b : Bool) → OfPlay (cond b play (with_events setup play seat
            (events_of_slot setup seat (seat_in play.world seat).account (hand_of play seat)
            (seat_in play.world seat).stand)
            (hand_after_slot setup seat (seat_in play.world seat).account (hand_of play seat)
            (seat_in play.world seat).stand)))
        go true = of
        go false =
            with_events_right play seat (events_of_slot setup seat account (hand_of play seat) stand)
            (hand_after_slot setup seat account (hand_of play seat) stand) of
            (slot_events_right seat account (hand_of play seat) stand (hand_right play seat of))
            (slot_hand_right seat account (hand_of play seat) stand (hand_right play seat of))

    opening_right : All OfSeat (opening_world setup).seats
    opening_right = All-replicate OfSeat (seats_of setup) fresh_seat (record { answered = All-nil OfRecord; now = tt })

    module _ (calls : List (List (ℕ × Call))) (right : All (All P) calls) where
      own_right : (seat : ℕ) → All P (get_or calls seat [])
      own_right seat = elim (cases_lt seat (length calls)) [
        | inl within ↦ All-get_or (All P) calls seat [] within right
        | inr past ↦ subst (All P) (sym (get_or_past calls seat [] past)) (All-nil P)
      ]

      first_right : (stops : List (Option ℕ)) → OfPlay (first_play setup calls stops)
      first_right stops =
          record {
            events = All-nil OfEvent;
            hands = All-map OfHand
                (λ (seat : ℕ). record { calls = get_or calls seat []; may = get_or stops seat None })
                (range_with_len 0 (seats_of setup))
                (λ k d within. own_right (get_or (range_with_len 0 (seats_of setup)) k d));
            seats = opening_right;
          }

      play_right : (stops : List (Option ℕ)) (schedule : List Segment) → OfPlay (play_of setup calls stops schedule)
      play_right stops schedule = play_keeps setup OfPlay slot_right calls stops schedule (first_right stops)

  -- ---- what is left of the play

  records_right : (seats : List SeatState) → All OfSeat seats →
      All OfRecord (flat_map (λ (state : SeatState). state.account.records) seats)
  records_right [] all = All-nil OfRecord
  records_right (state ∷ seats) all =
      All-append OfRecord state.account.records (flat_map (λ (other : SeatState). other.account.records) seats)
      (All-head OfSeat state seats all).answered (records_right seats (All-tail OfSeat state seats all))

  abbrev OfPending : Pending → Type 0
  OfPending u = P (u.packet, u.call)

  begun_by_right : (seat : ℕ) (stand : Stand) → OfStand stand → All OfPending (begun_by seat stand)
  begun_by_right seat Idle now = All-nil OfPending
  begun_by_right seat (InFlight flight phase) now = one_right OfPending _ now

  begun_right : (from : ℕ) (seats : List SeatState) → All OfSeat seats →
      All OfPending (flat_map (λ (numbered : ℕ × SeatState). begun_by numbered.0 numbered.1.stand)
      (enumerate_from from seats))
  begun_right from [] all = All-nil OfPending
  begun_right from (state ∷ seats) all =
      All-append OfPending (begun_by from state.stand) _
      (begun_by_right from state.stand (All-head OfSeat state seats all).now)
      (begun_right (from + 1) seats (All-tail OfSeat state seats all))

  -- what is told of a play
  pub record ToldRight (setup : Setup) (play : Play) : Type 0 where
    pub ended : All (λ (ended : ℕ × Outcome). P (asked_in ended.1)) (outcomes_of setup play.events)
    pub answered : All (λ (r : Record). P (asked_of r)) (records_of play.world)
    pub under_way : All (λ (u : Pending). P (u.packet, u.call)) (begun_of play.world)

  pub told-dealt :
      (setup : Setup) (calls : List (List (ℕ × Call))) (stops : List (Option ℕ)) (schedule : List Segment) →
      All (All P) calls → ToldRight setup (play_of setup calls stops schedule)
  told-dealt setup calls stops schedule right =
      let play : Play = play_of setup calls stops schedule in
      let of = play_right setup calls right stops schedule in
      record {
        ended = outcomes_right setup play.events (opening_world setup) of.events (opening_right setup);
        answered = records_right play.world.seats of.seats;
        under_way = begun_right 0 play.world.seats of.seats;
      }
