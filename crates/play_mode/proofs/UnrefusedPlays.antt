-- Where each seat has the automatic rows for the calls that it is dealt, no call of a play is refused.
use Rattle.std.proofs.Common.{◌≡◌, ◌<◌, ◌≤◌, ℕ, ◌+◌, ◌⊎◌, List, [], ◌∷◌, ◌++◌, Bool, true, false, cond, map, length, get_or, Option, Some, None, is_some, fold, inl, inr, refl, sym, ap, ◌∙◌, subst, arith, append-nil, append_assoc, All}
use Rattle.std.specs.Prelude.{count_by, slice_index}
use Rattle.std.proofs.lemmas.List.{get_or_past, get_or-map, get_or-replicate, get_or-set_same}
use Rattle.std.proofs.lemmas.List.FromFn.{get_or-map-range_with_len}
use Rattle.std.proofs.lemmas.Simd.{map-map}
use Rattle.std.proofs.lemmas.List.Elements.{All-append, All-cons, All-nil}
use Rattle.std.proofs.lemmas.List.Sums.{sum_by-append, sum_by-cons}
use Rattle.std.proofs.lemmas.Bool.{cases_eq, cases_lt, false≢true}
use Rattle.plain_map.specs.declared.calls.Call.{Call}
use Rattle.plain_map.specs.declared.calls.Call.TheVariants.{Insert, Remove, Lookup, Tally, Count, Put}
use Rattle.plain_map.specs.declared.full.Full.{Full}
use Rattle.plain_map.specs.declared.records.Record.{Record}
use Rattle.trace_share.specs.declared.outcome.Outcome.{Outcome}
use Rattle.trace_share.specs.Outcomes.{full_in}
use Rattle.table_model.specs.declared.events.Event.{Event}
use Rattle.table_model.specs.Setup.{Setup, seats_of, settings_of}
use Rattle.table_model.specs.Phases.{Phase, SeeDone}
use Rattle.table_model.specs.SeatStates.{Account, Flight, Stand, Idle, InFlight, SeatState, begun, fresh_seat}
use Rattle.plain_map.specs.Calls.{is_update}
use Rattle.table_model.specs.Asks.{ask_in}
use Rattle.table_model.specs.Worlds.{World, begin_or_refuse, found_by, happens, opening_world, refusal_of, seat_in, step_of, world_after}
use Rattle.table_model.specs.Promises.{RowsSuffice, updates_in}
use Rattle.step_counts.specs.StepCounts.{automatic_rows_of}
use Rattle.table_model.specs.Schedules.{CanPlay, Hand, Play, Segment, empty_hand, events_of_slot, first_play, hand_after_slot, hand_of, is_refused, is_stopped, one_begins, play_of, slot, tried_of, untried_of, with_events, with_step}
use Rattle.bound_laws.specs.Moments.{asked_calls, asked_of}
use Rattle.bound_laws.proofs.WorldSteps.{step_same}
use Rattle.bound_laws.proofs.Moments.{asked_step}
use Rattle.play_laws.proofs.Ends.{first_good}
use Rattle.play_laws.proofs.Slots.{no_seat, slot_keeps}
use Rattle.play_laws.specs.Good.{IsGoodPlay}
use Rattle.core_steps.specs.Values.{new_record, refused_at, stepped_of, told_of}
use Rattle.batch_rows.specs.BatchRows.{updates_in_calls}
use Rattle.play_runner.specs.Played.{outcome_in, outcomes_from, outcomes_of}
use Rattle.play_laws.proofs.PlayedBySlots.{play_keeps}
use Rattle.play_mode.proofs.PlayTurns.{acts}

-- the call was not refused
abbrev pub NotRefused : ℕ × Outcome → Type 0
NotRefused ended = full_in ended.1 ≡ None

-- updates of two lists of calls
updates_both : (xs ys : List (ℕ × Call)) →
    updates_in_calls (xs ++ ys) ≡ updates_in_calls xs + updates_in_calls ys
updates_both xs ys = sum_by-append (λ (asked : ℕ × Call). cond (is_update asked.1) 1 0) xs ys

updates_first : (x : ℕ × Call) (xs : List (ℕ × Call)) →
    updates_in_calls (x ∷ xs) ≡ cond (is_update x.1) 1 0 + updates_in_calls xs
updates_first x xs = sum_by-cons (λ (asked : ℕ × Call). cond (is_update asked.1) 1 0) x xs

-- of records
updates_asked : (records : List Record) →
    count_by (λ (r : Record). is_update r.call) records ≡ updates_in_calls (map asked_of records)
updates_asked [] = refl
updates_asked (r ∷ records) = omega (
  arith,
  sum_by-cons (λ (made : Record). cond (is_update made.call) 1 0) r records,
  sum_by-cons (λ (asked : ℕ × Call). cond (is_update asked.1) 1 0) (asked_of r) (map asked_of records),
  updates_asked records,
)

-- what is told of events, one part after the other
outcomes_both : (setup : Setup) (front back : List Event) (world : World) →
    outcomes_from setup world (front ++ back)
    ≡ outcomes_from setup world front ++ outcomes_from setup (fold (happens setup) world front) back
outcomes_both setup [] back world = refl
outcomes_both setup (event ∷ front) back world =
    ap (λ more. outcome_in event (stepped_of setup world event) ++ more)
    (outcomes_both setup front back (happens setup world event))
    ∙ sym (append_assoc (outcome_in event (stepped_of setup world event))
    (outcomes_from setup (happens setup world event) front)
    (outcomes_from setup (fold (happens setup) (happens setup world event) front) back))

-- an event whose call is not refused tells of none that is
told_unrefused : (event : Event) (full : Option Full) (made : Option Record) → full ≡ None →
    All NotRefused (outcome_in event (told_of full made))
told_unrefused event (Some full) made none = absurd (cc)
told_unrefused event None (Some r) none = All-cons NotRefused _ [] refl (All-nil NotRefused)
told_unrefused event None None none = All-nil NotRefused

module _ (setup : Setup) (seat : ℕ) (h : seat < seats_of setup) (room : ℕ) where
  -- what a seat has begun and has still to begin has no more updates than its rows were made for
  abbrev HasRoom : SeatState → Hand → Type 0
  HasRoom state hand = updates_in_calls (asked_calls state) + updates_in_calls hand.calls ≤ room

  -- events of the seat refuse nothing and keep that
  record Kept (w : World) (events : List Event) (hand : Hand) : Type 0 where
    none : All NotRefused (outcomes_from setup w events)
    room_left : HasRoom (seat_in (fold (happens setup) w events) seat) hand

  module _ (w : World) (within : seat < length w.seats) where
    -- one event, after which the seat has begun these calls
    one_event : (begin : Option (ℕ × Call)) (asked : List (ℕ × Call)) (hand : Hand) →
        refused_at setup seat (seat_in w seat).account (seat_in w seat).stand begin ≡ None →
        asked_calls (seat_in (happens setup w (record { seat = seat; begin = begin })) seat) ≡ asked →
        updates_in_calls asked + updates_in_calls hand.calls ≤ room →
        Kept w (record { seat = seat; begin = begin } ∷ []) hand
    one_event begin asked hand none now few =
        let event : Event = record { seat = seat; begin = begin } in
        record {
          none = subst (All NotRefused) (sym (append-nil (outcome_in event (stepped_of setup w event))))
              (told_unrefused event _
              (new_record (seat_in w seat).account (seat_in (happens setup w event) seat).account) none);
          room_left = subst (λ (calls : List (ℕ × Call)). updates_in_calls calls + updates_in_calls hand.calls ≤ room)
              (sym now) few;
        }

    -- the step of a call in flight
    flying : (account : Account) (flight : Flight) (phase : Phase) (hand : Hand) →
        seat_in w seat ≡ record { account = account; stand = InFlight flight phase } →
        HasRoom (record { account = account; stand = InFlight flight phase }) hand →
        Kept w (record { seat = seat; begin = None } ∷ []) hand
    flying account flight phase hand is few =
        one_event None (map asked_of account.records ++ (flight.packet, flight.call) ∷ []) hand
        (ap (λ (s : SeatState). refused_at setup seat s.account s.stand None) is)
        (ap (λ (x : World). asked_calls (seat_in x seat))
        (acts setup seat h w within account (InFlight flight phase) None is)
        ∙ ap asked_calls (step_same setup w seat account flight phase within)
        ∙ asked_step setup seat account flight phase
        (found_by setup (ask_in setup seat account.used flight phase) w.words))
        few

    module _ (account : Account) (is : seat_in w seat ≡ record { account = account; stand = Idle })
        (lets : (call : Call) → updates_in account < room → refusal_of setup seat account call ≡ None) where
      -- the next call of an idle seat is not refused
      next_goes : (begin : ℕ × Call) (calls : List (ℕ × Call)) →
          updates_in_calls (map asked_of account.records) + updates_in_calls (begin ∷ calls) ≤ room →
          refusal_of setup seat account begin.1 ≡ None
      next_goes begin calls few = go begin.1 (λ update. lets begin.1 (omega (
        arith,
        few,
        updates_first begin calls,
        ap {B = ℕ} (λ (b : Bool). cond b 1 0) update,
        updates_asked account.records,
      )))
        where
          go : (call : Call) → (is_update call ≡ true → refusal_of setup seat account call ≡ None) →
              refusal_of setup seat account call ≡ None
          go (Insert key value) free = free refl
          go (Remove key) free = free refl
          go (Lookup key) free = refl
          go (Tally key amount) free = free refl
          go (Count key value amount) free = free refl
          go (Put key value) free = free refl

      idle_goes : (calls : List (ℕ × Call)) (may : Option ℕ) →
          updates_in_calls (map asked_of account.records) + updates_in_calls calls ≤ room →
          Kept w (events_of_slot setup seat account (record { calls = calls; may = may }) Idle)
          (hand_after_slot setup seat account (record { calls = calls; may = may }) Idle)
      idle_goes [] may few =
          record {
            none = All-nil NotRefused;
            room_left = subst (λ (s : SeatState). HasRoom s (record { calls = []; may = may })) (sym is)
                (omega (arith, few, updates_both (map asked_of account.records) []));
          }
      idle_goes (begin ∷ calls) may few =
          go (is_refused setup seat account begin.1) (ap is_some none)
          (one_begins (is_refused setup seat account) (begin ∷ calls))
        where
          none : refusal_of setup seat account begin.1 ≡ None
          none = next_goes begin calls few

          now : happens setup w (record { seat = seat; begin = Some begin })
              ≡ step_of setup w seat account (begun account begin.0 begin.1) SeeDone
          now = acts setup seat h w within account Idle (Some begin) is
              ∙ ap (λ (r : Option Full). begin_or_refuse setup w seat account begin.0 begin.1 r) none

          kept : (hand : Hand) → hand.calls ≡ calls →
              Kept w (record { seat = seat; begin = Some begin } ∷ []) hand
          kept hand same =
              one_event (Some begin) (map asked_of account.records ++ begin ∷ []) hand
              (ap (λ (s : SeatState). refused_at setup seat s.account s.stand (Some begin)) is ∙ none)
              (ap (λ (x : World). asked_calls (seat_in x seat)) now
              ∙ ap asked_calls (step_same setup w seat account (begun account begin.0 begin.1) SeeDone within)
              ∙ asked_step setup seat account (begun account begin.0 begin.1) SeeDone
              (found_by setup (ask_in setup seat account.used (begun account begin.0 begin.1) SeeDone) w.words))
              (omega (
                arith,
                few,
                updates_first begin calls,
                updates_both (map asked_of account.records) (begin ∷ []),
                updates_first begin [],
                ap updates_in_calls same,
              ))

          go : (b : Bool) → b ≡ false → (t : Bool) →
              Kept w (map (λ one. record { seat = seat; begin = Some one })
              (cond b (begin ∷ tried_of (is_refused setup seat account) calls) (begin ∷ [])))
              (cond t
              (with_step
              (record { calls = cond b (untried_of (is_refused setup seat account) calls) calls; may = may }))
              (record { calls = cond b (untried_of (is_refused setup seat account) calls) calls; may = may }))
          go true e t = absurd (false≢true (sym e))
          go false e true = kept (with_step (record { calls = calls; may = may })) refl
          go false e false = kept (record { calls = calls; may = may }) refl

module _ (setup : Setup) (updates : List ℕ)
    (ranges : setup.shape.ranges ≡ map (automatic_rows_of (settings_of setup)) updates) (law : RowsSuffice) where
  -- so far no call was refused, and each seat has room for what it has still to do
  pub record AllGo (play : Play) : Type 0 where
    pub good : IsGoodPlay setup play
    pub room : (seat : ℕ) → (h : seat < seats_of setup) →
        HasRoom setup seat h (slice_index updates seat) (seat_in play.world seat) (hand_of play seat)
    pub none : All NotRefused (outcomes_of setup play.events)

  -- the law at a moment of a play
  lets_in : (play : Play) → IsGoodPlay setup play → (seat : ℕ) → seat < seats_of setup → (account : Account) →
      seat_in play.world seat ≡ record { account = account; stand = Idle } → (call : Call) →
      updates_in account < slice_index updates seat → refusal_of setup seat account call ≡ None
  lets_in play good seat h account is call few =
      let there : seat_in (world_after setup play.events) seat ≡ record { account = account; stand = Idle } =
      ap (λ (w : World). seat_in w seat) (sym good.world_is) ∙ is in
      ap (λ (s : SeatState). refusal_of setup seat s.account call) (sym there)
      ∙ law setup updates play.events seat call good.run h ranges (ap (λ (s : SeatState). s.stand) there)
      (subst (λ (s : SeatState). updates_in s.account < slice_index updates seat) (sym there) few)

  -- one slot of a seat that is there and not stopped
  own_slot : (play : Play) → AllGo play → (seat : ℕ) → (h : seat < seats_of setup) → (account : Account) →
      (stand : Stand) → seat_in play.world seat ≡ record { account = account; stand = stand } →
      Kept setup seat h (slice_index updates seat) play.world
      (events_of_slot setup seat account (hand_of play seat) stand)
      (hand_after_slot setup seat account (hand_of play seat) stand)
  own_slot play goes seat h account Idle is =
      idle_goes setup seat h (slice_index updates seat) play.world (omega (arith, h, goes.good.long)) account is
      (lets_in play goes.good seat h account is) (hand_of play seat).calls (hand_of play seat).may
      (subst (λ (calls : List (ℕ × Call)). updates_in_calls calls + updates_in_calls (hand_of play seat).calls
      ≤ slice_index updates seat) (append-nil (map asked_of account.records))
      (subst (λ (s : SeatState). HasRoom setup seat h (slice_index updates seat) s (hand_of play seat)) is
      (goes.room seat h)))
  own_slot play goes seat h account (InFlight flight phase) is =
      flying setup seat h (slice_index updates seat) play.world (omega (arith, h, goes.good.long)) account flight phase
      (with_step (hand_of play seat)) is
      (subst (λ (s : SeatState). HasRoom setup seat h (slice_index updates seat) s (hand_of play seat)) is
      (goes.room seat h))

  module _ (seat : ℕ) (play : Play) (goes : AllGo play) where
    abbrev events : List Event
    events = events_of_slot setup seat (seat_in play.world seat).account (hand_of play seat)
        (seat_in play.world seat).stand

    abbrev hand : Hand
    hand = hand_after_slot setup seat (seat_in play.world seat).account (hand_of play seat)
        (seat_in play.world seat).stand

    -- the other seats are as they were
    slot_room : (after : Play) → slot setup seat play ≡ after → IsGoodPlay setup after →
        ((h : seat < seats_of setup) →
        HasRoom setup seat h (slice_index updates seat) (seat_in after.world seat) (hand_of after seat)) →
        All NotRefused (outcomes_of setup after.events) → AllGo (slot setup seat play)
    slot_room after is good own none =
        let keeps = slot_keeps setup seat play goes.good in
        record {
          good = keeps.good;
          room = λ q h. elim (cases_eq q seat) [
            | inl same ↦ at q h same
            | inr apart ↦
                subst (λ (state : SeatState). HasRoom setup q h (slice_index updates q) state
                (hand_of (slot setup seat play) q)) (sym (keeps.other_seats q apart))
                (subst (λ (one : Hand). HasRoom setup q h (slice_index updates q) (seat_in play.world q) one)
                (sym (keeps.other_hands q apart)) (goes.room q h))
          ];
          none = subst (λ (p : Play). All NotRefused (outcomes_of setup p.events)) (sym is) none;
        }
      where
        at : (q : ℕ) (h : q < seats_of setup) → q ≡ seat → HasRoom setup q h (slice_index updates q)
            (seat_in (slot setup seat play).world q) (hand_of (slot setup seat play) q)
        at q h same =
            subst (λ (p : Play). HasRoom setup q h (slice_index updates q) (seat_in p.world q) (hand_of p q)) (sym is)
            (subst (λ (k : ℕ). (within : k < seats_of setup) →
            HasRoom setup k within (slice_index updates k) (seat_in after.world k) (hand_of after k)) (sym same) own h)

    slot_goes : AllGo (slot setup seat play)
    slot_goes = elim (cases_lt seat (seats_of setup)) [
      | inl h ↦ here h (is_stopped (hand_of play seat)) refl
      | inr n ↦ slot_room play
          (no_seat setup seat play (omega (arith, n, goes.good.long)) (omega (arith, n, goes.good.hands))) goes.good
          (λ h. absurd (omega (arith, h, n))) goes.none
    ]
      where
        here : seat < seats_of setup → (t : Bool) → is_stopped (hand_of play seat) ≡ t → AllGo (slot setup seat play)
        here h true e =
            slot_room play
            (ap (λ (b : Bool). cond b play (with_events setup play seat events hand)) e) goes.good (goes.room seat)
            goes.none
        here h false e =
            let kept =
            own_slot play goes seat h (seat_in play.world seat).account (seat_in play.world seat).stand refl in
            let after : Play = with_events setup play seat events hand in
            let is : slot setup seat play ≡ after =
            ap (λ (b : Bool). cond b play (with_events setup play seat events hand)) e in
            let good : IsGoodPlay setup after =
            subst (IsGoodPlay setup) is (slot_keeps setup seat play goes.good).good in
            slot_room after is good
            (λ within. subst (λ (one : Hand). HasRoom setup seat within (slice_index updates seat)
            (seat_in after.world seat) one)
            (sym (get_or-set_same play.hands seat hand _ (omega (arith, h, goes.good.hands)))) kept.room_left)
            (subst (All NotRefused) (sym (outcomes_both setup play.events events (opening_world setup)
            ∙ ap (λ (w : World). outcomes_of setup play.events ++ outcomes_from setup w events)
            (sym goes.good.world_is)))
            (All-append NotRefused (outcomes_of setup play.events) (outcomes_from setup play.world events) goes.none
            kept.none))

-- before the first event each seat has room for all that it is dealt
first_goes :
    (setup : Setup) (calls : List (List (ℕ × Call))) (stops : List (Option ℕ))
    (ranges : setup.shape.ranges ≡ map (automatic_rows_of (settings_of setup)) (map updates_in_calls calls))
    (law : RowsSuffice) → CanPlay setup calls →
    AllGo setup (map updates_in_calls calls) ranges law (first_play setup calls stops)
first_goes setup calls stops ranges law can =
    record {
      good = first_good setup calls stops can;
      room = λ seat h.
          let own : Hand = record { calls = get_or calls seat []; may = get_or stops seat None } in
          subst (λ (state : SeatState). HasRoom setup seat h (slice_index (map updates_in_calls calls) seat) state
          (hand_of (first_play setup calls stops) seat))
          (sym (get_or-replicate (seats_of setup) seat fresh_seat fresh_seat h))
          (subst (HasRoom setup seat h (slice_index (map updates_in_calls calls) seat) fresh_seat)
          (sym (get_or-map-range_with_len
          (λ (q : ℕ). record { calls = get_or calls q []; may = get_or stops q None }) 0 (seats_of setup) seat seat
          empty_hand h (omega arith)))
          (few seat (cases_lt seat (length calls))));
      none = All-nil NotRefused;
    }
  where
    few : (seat : ℕ) → (seat < length calls) ⊎ (length calls ≤ seat) →
        updates_in_calls [] + updates_in_calls (get_or calls seat []) ≤ slice_index (map updates_in_calls calls) seat
    few seat (inl within) = omega (arith, get_or-map updates_in_calls calls seat [] 0 within)
    few seat (inr past) = omega (arith, ap updates_in_calls (get_or_past calls seat [] past))

-- no call of a play is refused where each seat has the automatic rows for its calls
pub none_is_refused :
    (setup : Setup) (calls : List (List (ℕ × Call))) (stops : List (Option ℕ)) (schedule : List Segment) →
    RowsSuffice → CanPlay setup calls →
    setup.shape.ranges ≡ map (λ share. automatic_rows_of (settings_of setup) (updates_in_calls share)) calls →
    All NotRefused (outcomes_of setup (play_of setup calls stops schedule).events)
none_is_refused setup calls stops schedule law can ranges =
    let twice : setup.shape.ranges ≡ map (automatic_rows_of (settings_of setup)) (map updates_in_calls calls) =
    ranges ∙ sym (map-map (automatic_rows_of (settings_of setup)) updates_in_calls calls) in
    (play_keeps setup (AllGo setup (map updates_in_calls calls) twice law)
    (λ seat play goes. slot_goes setup (map updates_in_calls calls) twice law seat play goes) calls stops schedule
    (first_goes setup calls stops twice law can)).none
