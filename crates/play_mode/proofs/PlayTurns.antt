-- Each seat of a play makes its calls in the order of their packets, as they are dealt.
use Rattle.std.proofs.Common.{◌≡◌, ◌<◌, ℕ, ◌+◌, List, [], ◌∷◌, ◌++◌, Bool, true, false, cond, map, length, get_or, Option, Some, None, is_some, fold, inl, inr, refl, sym, ap, ◌∙◌, subst, arith, append-nil, append_assoc, lt-ltb, All}
use Rattle.std.specs.Prelude.{filter}
use Rattle.std.specs.List.{enumerate_from, range_with_len}
use Rattle.std.proofs.lemmas.List.Elements.{All-map}
use Rattle.std.proofs.lemmas.List.{get_or_past, get_or-replicate, get_or-set_same}
use Rattle.std.proofs.lemmas.List.FromFn.{get_or-map-range_with_len}
use Rattle.std.proofs.lemmas.Bool.{cases_eq, cases_lt}
use Rattle.plain_map.specs.declared.calls.Call.{Call}
use Rattle.plain_map.specs.declared.full.Full.{Full}
use Rattle.plain_map.specs.declared.records.Record.{Record}
use Rattle.trace_share.specs.declared.deals.Share.{Share}
use Rattle.trace_share.specs.Deal.{calls_of, dealt, makes}
use Rattle.list_laws.proofs.Lists.{In, map_in}
use Rattle.table_model.specs.Setup.{Setup, seats_of}
use Rattle.table_model.specs.Phases.{Phase, SeeDone}
use Rattle.table_model.specs.SeatStates.{Account, Flight, Stand, Idle, InFlight, SeatState, begun, fresh_seat}
use Rattle.table_model.specs.Asks.{ask_in}
use Rattle.table_model.specs.Worlds.{World, act, begin_or_refuse, found_by, happens, refusal_of, seat_in, step_of}
use Rattle.table_model.specs.Schedules.{CanPlay, Hand, Play, Segment, empty_hand, events_of_slot, first_play, hand_after_slot, hand_of, is_refused, is_stopped, one_begins, play_of, slot, tried_of, untried_of, with_events, with_step}
use Rattle.bound_laws.specs.Moments.{asked_calls, asked_now, asked_of}
use Rattle.bound_laws.proofs.WorldSteps.{step_same}
use Rattle.bound_laws.proofs.Moments.{asked_step}
use Rattle.play_laws.proofs.Ends.{first_good}
use Rattle.play_laws.proofs.Slots.{slot_keeps}
use Rattle.play_laws.specs.Good.{IsGoodPlay}
use Rattle.order_laws.proofs.Calls.{at_in}
use Rattle.mode_parts.specs.Reading.{Ascending}
use Rattle.play_mode.proofs.PacketOrder.{Rises, rises-front, rises-without}
use Rattle.play_laws.proofs.PlayedBySlots.{play_keeps}

-- calls in the order of their packets
abbrev pub InTurn : List (ℕ × Call) → Type 0
InTurn calls = Rises (λ call. call.0) calls

-- what a seat has begun, and has still to begin
abbrev TakesTurns : SeatState → Hand → Type 0
TakesTurns state hand = InTurn (asked_calls state ++ hand.calls)

-- its records then
record-turns : (records : List Record) → InTurn (map asked_of records) → Rises (λ r. r.packet) records
record-turns [] rises = tt
record-turns (r ∷ records) rises =
    ((λ s i. rises.0 (asked_of s) (map_in asked_of records s i)), record-turns records rises.1)

pub records-rise : (state : SeatState) (hand : Hand) → TakesTurns state hand →
    Rises (λ r. r.packet) state.account.records
records-rise state hand rises =
    record-turns state.account.records
    (rises-front (λ call. call.0) (map asked_of state.account.records) (asked_now state.stand)
    (rises-front (λ call. call.0) (asked_calls state) hand.calls rises))

module _ (setup : Setup) (seat : ℕ) (h : seat < seats_of setup) (w : World) (within : seat < length w.seats) where
  -- an event of the seat is its act
  pub acts : (account : Account) (stand : Stand) (begin : Option (ℕ × Call)) →
      seat_in w seat ≡ record { account = account; stand = stand } →
      happens setup w (record { seat = seat; begin = begin }) ≡ act setup w seat account stand begin
  acts account stand begin is =
      ap (λ (b : Bool). cond b (act setup w seat (seat_in w seat).account (seat_in w seat).stand begin) w)
      (lt-ltb seat (seats_of setup) h)
      ∙ ap (λ (s : SeatState). act setup w seat s.account s.stand begin) is

  -- after a step the seat has begun the same
  step_asked : (account : Account) (flight : Flight) (phase : Phase) →
      asked_calls (seat_in (step_of setup w seat account flight phase) seat)
      ≡ map asked_of account.records ++ (flight.packet, flight.call) ∷ []
  step_asked account flight phase =
      ap asked_calls (step_same setup w seat account flight phase within)
      ∙ asked_step setup seat account flight phase
      (found_by setup (ask_in setup seat account.used flight phase) w.words)

  -- the step of a call in flight
  flying : (account : Account) (flight : Flight) (phase : Phase) (hand : Hand) →
      seat_in w seat ≡ record { account = account; stand = InFlight flight phase } →
      TakesTurns (record { account = account; stand = InFlight flight phase }) hand →
      TakesTurns (seat_in (happens setup w (record { seat = seat; begin = None })) seat) hand
  flying account flight phase hand is rises =
      subst (λ asked. InTurn (asked ++ hand.calls))
      (sym (ap (λ (x : World). asked_calls (seat_in x seat)) (acts account (InFlight flight phase) None is)
      ∙ step_asked account flight phase)) rises

  module _ (account : Account) (is : seat_in w seat ≡ record { account = account; stand = Idle }) where
    -- the world, and the calls that are left, after an idle seat has tried these
    abbrev after : List (ℕ × Call) → World
    after tried = fold (happens setup) w (map (λ begin. record { seat = seat; begin = Some begin }) tried)

    abbrev Left : (tried left : List (ℕ × Call)) → Type 0
    Left tried left = InTurn (asked_calls (seat_in (after tried) seat) ++ left)

    -- of those that it tries, all but the last are refused
    trying : (calls : List (ℕ × Call)) → InTurn (map asked_of account.records ++ calls) →
        Left (tried_of (is_refused setup seat account) calls) (untried_of (is_refused setup seat account) calls)
    trying [] rises =
        subst (λ (state : SeatState). InTurn (asked_calls state ++ [])) (sym is)
        (subst InTurn (sym (append-nil (map asked_of account.records ++ []))) rises)
    trying (begin ∷ calls) rises =
        go (refusal_of setup seat account begin.1) refl
        (trying calls (rises-without (λ call. call.0) (map asked_of account.records) calls begin rises))
      where
        tried : List (ℕ × Call)
        tried = tried_of (is_refused setup seat account) calls

        left : List (ℕ × Call)
        left = untried_of (is_refused setup seat account) calls

        now : (full : Option Full) → refusal_of setup seat account begin.1 ≡ full →
            happens setup w (record { seat = seat; begin = Some begin })
            ≡ begin_or_refuse setup w seat account begin.0 begin.1 full
        now full e = acts account Idle (Some begin) is ∙ ap (begin_or_refuse setup w seat account begin.0 begin.1) e

        go : (full : Option Full) → refusal_of setup seat account begin.1 ≡ full → Left tried left →
            Left (cond (is_some full) (begin ∷ tried) (begin ∷ [])) (cond (is_some full) left calls)
        go (Some full) e rest =
            subst (λ (x : World). InTurn (asked_calls (seat_in (fold (happens setup) x
            (map (λ one. record { seat = seat; begin = Some one }) tried)) seat) ++ left))
            (sym (now (Some full) e)) rest
        go None e rest =
            subst (λ asked. InTurn (asked ++ calls))
            (sym (ap (λ (x : World). asked_calls (seat_in x seat)) (now None e)
            ∙ step_asked account (begun account begin.0 begin.1) SeeDone))
            (subst InTurn (sym (append_assoc (map asked_of account.records) (begin ∷ []) calls)) rises)

  -- one slot
  one_slot : (account : Account) (stand : Stand) (hand : Hand) →
      seat_in w seat ≡ record { account = account; stand = stand } →
      TakesTurns (record { account = account; stand = stand }) hand →
      TakesTurns (seat_in (fold (happens setup) w (events_of_slot setup seat account hand stand)) seat)
      (hand_after_slot setup seat account hand stand)
  one_slot account Idle hand is rises =
      go (one_begins (is_refused setup seat account) hand.calls)
      (trying account is hand.calls (subst (λ asked. InTurn (asked ++ hand.calls))
      (append-nil (map asked_of account.records)) rises))
    where
      now : Hand
      now = record { calls = untried_of (is_refused setup seat account) hand.calls; may = hand.may }

      go : (b : Bool) → Left account is (tried_of (is_refused setup seat account) hand.calls) now.calls →
          TakesTurns (seat_in (after account is (tried_of (is_refused setup seat account) hand.calls)) seat)
          (cond b (with_step now) now)
      go true rises = rises
      go false rises = rises
  one_slot account (InFlight flight phase) hand is rises = flying account flight phase hand is rises

module _ (setup : Setup) where
  -- so far each seat takes turns
  record AllTurn (play : Play) : Type 0 where
    good : IsGoodPlay setup play
    turns : (seat : ℕ) → seat < seats_of setup → TakesTurns (seat_in play.world seat) (hand_of play seat)

  -- one slot more
  slot_turns : (seat : ℕ) (play : Play) → AllTurn play → AllTurn (slot setup seat play)
  slot_turns seat play turns =
      let keeps = slot_keeps setup seat play turns.good in
      record {
        good = keeps.good;
        turns = λ q h. elim (cases_eq q seat) [
          | inl same ↦ subst Turns (sym same) (own (subst (λ s. s < seats_of setup) same h))
          | inr apart ↦ subst (λ (state : SeatState). TakesTurns state (hand_of (slot setup seat play) q))
              (sym (keeps.other_seats q apart))
              (subst (TakesTurns (seat_in play.world q)) (sym (keeps.other_hands q apart)) (turns.turns q h))
        ];
      }
    where
      Turns : ℕ → Type 0
      Turns q = TakesTurns (seat_in (slot setup seat play).world q) (hand_of (slot setup seat play) q)

      own : seat < seats_of setup → Turns seat
      own h = by (is_stopped (hand_of play seat))
        where
          account : Account
          account = (seat_in play.world seat).account

          stand : Stand
          stand = (seat_in play.world seat).stand

          then : Play
          then = with_events setup play seat
              (events_of_slot setup seat (seat_in play.world seat).account (hand_of play seat)
              (seat_in play.world seat).stand)
              (hand_after_slot setup seat (seat_in play.world seat).account (hand_of play seat)
              (seat_in play.world seat).stand)

          by : (b : Bool) →
              TakesTurns (seat_in (cond b play then).world seat) (hand_of (cond b play then) seat)
          by true = turns.turns seat h
          by false =
              subst (TakesTurns (seat_in then.world seat))
              (sym (get_or-set_same play.hands seat
              (hand_after_slot setup seat account (hand_of play seat) stand) empty_hand
              (omega (arith, h, turns.good.hands))))
              (one_slot setup seat h play.world (omega (arith, h, turns.good.long)) account stand (hand_of play seat)
              refl (turns.turns seat h))

  module _ (calls : List (List (ℕ × Call))) (stops : List (Option ℕ)) (can : CanPlay setup calls)
      (dealt : All InTurn calls) where
    -- what a seat is dealt
    own_dealt : (seat : ℕ) → InTurn (get_or calls seat [])
    own_dealt seat = elim (cases_lt seat (length calls)) [
      | inl within ↦ dealt seat [] within
      | inr past ↦ subst InTurn (sym (get_or_past calls seat [] past)) tt
    ]

    first_turns : AllTurn (first_play setup calls stops)
    first_turns = record {
      good = first_good setup calls stops can;
      turns = λ seat h.
          subst (λ (state : SeatState). TakesTurns state (hand_of (first_play setup calls stops) seat))
          (sym (get_or-replicate (seats_of setup) seat fresh_seat fresh_seat h))
          (subst (TakesTurns fresh_seat)
          (sym (get_or-map-range_with_len
          (λ (q : ℕ). record { calls = get_or calls q []; may = get_or stops q None }) 0 (seats_of setup) seat seat
          empty_hand h (omega arith)))
          (own_dealt seat));
    }

    -- at the end each seat's records are in that order
    pub play_turns : (schedule : List Segment) (seat : ℕ) → seat < seats_of setup →
        Rises (λ r. r.packet) (seat_in (play_of setup calls stops schedule).world seat).account.records
    play_turns schedule seat h =
        let play : Play = play_of setup calls stops schedule in
        records-rise (seat_in play.world seat) (hand_of play seat)
        ((play_keeps setup AllTurn slot_turns calls stops schedule first_turns).turns seat h)

-- ---- what is dealt

-- the calls that pass a test
abbrev chosen : (ℕ × (ℕ × Call) → Bool) → (place : ℕ) → List (ℕ × Call) → List (ℕ × Call)
chosen test place calls = map (λ placed. placed.1) (filter test (enumerate_from place calls))

chosen-in : (test : ℕ × (ℕ × Call) → Bool) (place : ℕ) (calls : List (ℕ × Call)) (call : ℕ × Call) →
    In call (chosen test place calls) → In call calls
chosen-in test place [] call i = i
chosen-in test place (first ∷ calls) call i = go (test (place, first)) i (chosen-in test (place + 1) calls call)
  where
    go : (b : Bool) →
        In call (map (λ (placed : ℕ × (ℕ × Call)). placed.1)
        (cond b ((place, first) ∷ filter test (enumerate_from (place + 1) calls))
        (filter test (enumerate_from (place + 1) calls)))) →
        (In call (chosen test (place + 1) calls) → In call calls) → In call (first ∷ calls)
    go true (inl is) rest = inl is
    go true (inr j) rest = inr (rest j)
    go false j rest = inr (rest j)

chosen-turn : (test : ℕ × (ℕ × Call) → Bool) (place : ℕ) (calls : List (ℕ × Call)) → InTurn calls →
    InTurn (chosen test place calls)
chosen-turn test place [] turn = tt
chosen-turn test place (first ∷ calls) turn =
    go (test (place, first)) (chosen-turn test (place + 1) calls turn.1)
  where
    go : (b : Bool) → InTurn (chosen test (place + 1) calls) →
        InTurn (map (λ (placed : ℕ × (ℕ × Call)). placed.1)
        (cond b ((place, first) ∷ filter test (enumerate_from (place + 1) calls))
        (filter test (enumerate_from (place + 1) calls))))
    go true rest = ((λ call i. turn.0 call (chosen-in test (place + 1) calls call i)), rest)
    go false rest = rest

pub dealt-turn : (share : Share) (seats : ℕ) (calls : List (ℕ × Call)) → InTurn calls →
    All InTurn (dealt share seats calls)
unfolding dealt calls_of
dealt-turn share seats calls turn =
    All-map InTurn (calls_of share seats calls) (range_with_len 0 seats)
    (λ k d within. chosen-turn (makes share seats (length calls) (get_or (range_with_len 0 seats) k d)) 0 calls turn)

-- calls of which each is of a later packet than those before it
pub ascending-turn : (calls : List (ℕ × Call)) → Ascending calls → InTurn calls
ascending-turn [] ascend = tt
ascending-turn (call ∷ calls) ascend = (
  (λ other i. let at = at_in calls other other i in
      subst (λ (one : ℕ × Call). call.0 < one.0) (sym at.2) (ascend.0 at.0 other at.1)),
  ascending-turn calls ascend.1,
)
