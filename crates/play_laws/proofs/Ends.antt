-- Every play is a run, and in the end each seat has made its calls or is stopped.
use Rattle.std.proofs.Common.{◌≡◌, ◌≢◌, ℕ, zero, suc, ◌+◌, ◌-◌, ◌*◌, ◌^◌, ◌<◌, ◌≤◌, ◌⊎◌, Bool, true, cond, not, ◌||◌, nat_lt, List, [], ◌∷◌, length, get_or, Option, None, fold, sum_by, inl, inr, refl, sym, ap, ◌∙◌, subst, arith, add-mul, one-mul, suc-mul, All}
use Rattle.std.specs.List.{range_with_len}
use Rattle.std.specs.Option.{option_map_or}
use Rattle.std.proofs.lemmas.List.{get_or_past, get_or-replicate, length-replicate}
use Rattle.std.proofs.lemmas.List.Elements.{All-head, All-tail, All-get_or}
use Rattle.std.proofs.lemmas.List.FromFn.{get_or-map-range_with_len, length-map-range_with_len}
use Rattle.std.proofs.lemmas.List.Sums.{get_or-le-sum_by}
use Rattle.std.proofs.lemmas.Bool.{cases_eq, cases_lt}
use Rattle.plain_map.specs.declared.calls.Call.{Call}
use Rattle.table_model.specs.Setup.{Setup, seats_of, settings_of}
use Rattle.table_model.specs.SeatStates.{Stand, Idle, InFlight, SeatState, fresh_seat}
use Rattle.table_model.specs.Worlds.{World, seat_in}
use Rattle.table_model.specs.Schedules.{Hand, Play, Segment, IsPlayable, CanPlay, PlaysAreRuns, PlaysEnd, empty_hand, hand_of, is_stopped, has_ended, call_steps, most_slots, slot, slots, with_events, events_of_slot, hand_after_slot, run_segment, run_round, run_rounds, first_play, scheduled, play_of}
use Rattle.play_laws.specs.Good.{ArePlayable, IsPlayableHand, IsGoodPlay}
use Rattle.play_laws.proofs.Slots.{left_at, MayFly, slot_keeps, may_fly, some_steps}
use Rattle.std.proofs.Math.Bool.{or-true}

-- calls of which each can be played
are_playable : (calls : List (ℕ × Call)) → All IsPlayable calls → ArePlayable calls
are_playable [] all = tt
are_playable (begin ∷ calls) all =
    (All-head IsPlayable begin calls all, are_playable calls (All-tail IsPlayable begin calls all))

module _ (setup : Setup) (calls : List (List (ℕ × Call))) (stops : List (Option ℕ)) (can : CanPlay setup calls) where
  -- the calls of a seat
  own_calls : (seat : ℕ) →
      IsPlayableHand setup fresh_seat (record { calls = get_or calls seat []; may = get_or stops seat None })
  own_calls seat = elim (cases_lt seat (length calls)) [
    | inl h ↦ record {
      calls = are_playable (get_or calls seat [])
          (All-get_or (λ (own : List (ℕ × Call)). All IsPlayable own) calls seat [] h can.playable);
      few = omega (
        arith,
        All-get_or (λ (own : List (ℕ × Call)). length own ≤ setup.shape.limit - 1) calls seat [] h can.few,
      );
    }
    | inr n ↦ subst (λ (own : List (ℕ × Call)). IsPlayableHand setup fresh_seat
        (record { calls = own; may = get_or stops seat None }))
        (sym (get_or_past calls seat [] n)) (record { calls = tt; few = omega arith })
  ]

  -- a play before its first event
  pub first_good : IsGoodPlay setup (first_play setup calls stops)
  first_good = record {
    run = record { opened = can.opened; follow = tt };
    world_is = refl;
    long = length-replicate (seats_of setup) fresh_seat;
    hands = length-map-range_with_len
        (λ (seat : ℕ). record { calls = get_or calls seat []; may = get_or stops seat None }) 0 (seats_of setup);
    dealt = λ seat h.
        subst (λ (state : SeatState). IsPlayableHand setup state (hand_of (first_play setup calls stops) seat))
        (sym (get_or-replicate (seats_of setup) seat fresh_seat fresh_seat h))
        (subst (IsPlayableHand setup fresh_seat)
        (sym (get_or-map-range_with_len
        (λ (q : ℕ). record { calls = get_or calls q []; may = get_or stops q None }) 0 (seats_of setup) seat seat
        empty_hand h (omega arith)))
        (own_calls seat));
  }

module _ (setup : Setup) where
  -- so many slots of a seat keep a play a run
  pub slots_good : (seat many : ℕ) (play : Play) → IsGoodPlay setup play → IsGoodPlay setup (slots setup seat many play)
  slots_good seat zero play good = good
  slots_good seat (suc many) play good =
      slots_good seat many (slot setup seat play) (slot_keeps setup seat play good).good

  -- and so do the segments of a schedule
  pub schedule_good : (schedule : List Segment) (play : Play) → IsGoodPlay setup play →
      IsGoodPlay setup (fold (run_segment setup) play schedule)
  schedule_good [] play good = good
  schedule_good (segment ∷ schedule) play good =
      schedule_good schedule (run_segment setup play segment) (slots_good segment.seat
      (option_map_or (λ many. many) segment.slots (most_slots (settings_of setup) (hand_of play segment.seat))) play
      good)

  -- what a seat may still need, and that it needs no more than so many slots
  abbrev pub left_in : Play → (seat : ℕ) → ℕ
  left_in play seat = left_at (call_steps (settings_of setup)) (length (hand_of play seat).calls)
      (seat_in play.world seat).stand

  abbrev pub IsWithin : ℕ → Play → (seat : ℕ) → Type 0
  IsWithin n play seat = (is_stopped (hand_of play seat) ≡ true) ⊎ (left_in play seat ≤ n)

  -- a stopped seat does nothing
  pub stopped_stays : (seat : ℕ) (play : Play) → is_stopped (hand_of play seat) ≡ true → slot setup seat play ≡ play
  stopped_stays seat play e =
      ap (λ (b : Bool). cond b play (with_events setup play seat
      (events_of_slot setup seat (seat_in play.world seat).account (hand_of play seat) (seat_in play.world seat).stand)
      (hand_after_slot setup seat (seat_in play.world seat).account (hand_of play seat)
      (seat_in play.world seat).stand))) e

  -- a slot takes its seat nearer
  slot_own : (n seat : ℕ) (play : Play) → IsGoodPlay setup play → seat < seats_of setup → IsWithin (suc n) play seat →
      IsWithin n (slot setup seat play) seat
  slot_own n seat play good h within = elim within [
    | inl stopped ↦ subst (λ (after : Play). IsWithin n after seat) (sym (stopped_stays seat play stopped))
        (inl stopped)
    | inr few ↦ elim (slot_keeps setup seat play good).nearer [
      | inl w ↦ subst (λ (after : Play). IsWithin n after seat) (sym w.1) (inl w.0)
      | inr near ↦ inr (omega (arith, near h, few))
    ]
  ]

  -- and leaves the others where they are
  slot_other : (n seat q : ℕ) (play : Play) → IsGoodPlay setup play → q ≢ seat → IsWithin n play q →
      IsWithin n (slot setup seat play) q
  slot_other n seat q play good apart within =
      let keeps = slot_keeps setup seat play good in
      subst (λ (hand : Hand). (is_stopped hand ≡ true) ⊎ (left_at (call_steps (settings_of setup)) (length hand.calls)
      (seat_in (slot setup seat play).world q).stand ≤ n)) (sym (keeps.other_hands q apart))
      (subst (λ (state : SeatState). (is_stopped (hand_of play q) ≡ true) ⊎ (left_at (call_steps (settings_of setup))
      (length (hand_of play q).calls) state.stand ≤ n)) (sym (keeps.other_seats q apart)) within)

  -- a run in which each seat needs no more than so many slots
  pub record AllWithin (n : ℕ) (play : Play) : Type 0 where
    pub good : IsGoodPlay setup play
    pub each : (q : ℕ) → q < seats_of setup → IsWithin n play q

  -- the rest of a round
  round_from : (many from n : ℕ) (play : Play) → IsGoodPlay setup play → ((q : ℕ) → q < from → IsWithin n play q) →
      ((q : ℕ) → from ≤ q → q < seats_of setup → IsWithin (suc n) play q) → from + many ≡ seats_of setup →
      AllWithin n (fold (λ so_far seat. slot setup seat so_far) play (range_with_len from many))
  round_from zero from n play good before after is =
      record { good = good; each = λ q h. before q (omega (arith, h, is)) }
  round_from (suc many) from n play good before after is =
      round_from many (from + 1) n (slot setup from play) (slot_keeps setup from play good).good
      (λ q h. elim (cases_eq q from) [
        | inl e ↦ subst (IsWithin n (slot setup from play)) (sym e)
            (slot_own n from play good (omega (arith, is)) (after from (omega arith) (omega (arith, is))))
        | inr apart ↦ slot_other n from q play good apart (before q (omega (arith, h, apart)))
      ])
      (λ q h k. slot_other (suc n) from q play good (λ e. absurd (omega (arith, h, e))) (after q (omega (arith, h)) k))
      (omega (arith, is))

  -- so many rounds
  rounds_within : (n : ℕ) (play : Play) → AllWithin n play → AllWithin 0 (run_rounds setup n play)
  rounds_within zero play within = within
  rounds_within (suc n) play within =
      rounds_within n (run_round setup play) (round_from (seats_of setup) 0 n play within.good
      (λ q h. absurd (omega (arith, h))) (λ q k h. within.each q h) (omega arith))

  -- a seat needs no more slots than there are rounds
  left_few : (calls : ℕ) (stand : Stand) →
      left_at (call_steps (settings_of setup)) calls stand ≤ (calls + 1) * call_steps (settings_of setup)
  left_few calls Idle =
      omega (arith, add-mul calls 1 (call_steps (settings_of setup)), one-mul (call_steps (settings_of setup)))
  left_few calls (InFlight flight phase) =
      omega (arith, add-mul calls 1 (call_steps (settings_of setup)), one-mul (call_steps (settings_of setup)))

  -- after the schedule all seats need no more slots than there are rounds
  pub enough : (play : Play) → IsGoodPlay setup play →
      AllWithin (sum_by (most_slots (settings_of setup)) play.hands) play
  enough play good = record {
    good = good;
    each = λ q h. inr (omega (
      arith,
      left_few (length (hand_of play q).calls) (seat_in play.world q).stand,
      get_or-le-sum_by (most_slots (settings_of setup)) play.hands q empty_hand (omega (arith, good.hands, h)),
    ));
  }

  -- a seat that needs no slot is stopped or has ended
  pub done : (play : Play) (seat : ℕ) → IsGoodPlay setup play → seat < seats_of setup → IsWithin 0 play seat →
      (is_stopped (hand_of play seat) || has_ended (hand_of play seat) (seat_in play.world seat).stand) ≡ true
  done play seat good h within = elim within [
    | inl stopped ↦ ap (λ (b : Bool). b || has_ended (hand_of play seat) (seat_in play.world seat).stand) stopped
    | inr none ↦ go (seat_in play.world seat).stand
        (may_fly setup play.events seat good.run h (seat_in play.world seat).account (seat_in play.world seat).stand
        (ap (λ (x : World). seat_in x seat) (sym good.world_is))) none
  ]
    where
      none_left : (calls : List (ℕ × Call)) → length calls * call_steps (settings_of setup) ≤ 0 →
          not (nat_lt 0 (length calls)) ≡ true
      none_left [] none = refl
      none_left (begin ∷ calls) none =
          absurd (omega (arith, none, some_steps setup seat h, suc-mul (length calls) (call_steps (settings_of setup))))

      go : (stand : Stand) → MayFly setup stand →
          left_at (call_steps (settings_of setup)) (length (hand_of play seat).calls) stand ≤ 0 →
          (is_stopped (hand_of play seat) || has_ended (hand_of play seat) stand) ≡ true
      go Idle may none =
          ap (λ (b : Bool). is_stopped (hand_of play seat) || b) (none_left (hand_of play seat).calls none)
          ∙ or-true (is_stopped (hand_of play seat))
      go (InFlight flight phase) may none = absurd (omega (arith, may.0, none))

-- the play after its schedule, and at its end
pub scheduled_good : (setup : Setup) (calls : List (List (ℕ × Call))) (stops : List (Option ℕ))
    (schedule : List Segment) → CanPlay setup calls → IsGoodPlay setup (scheduled setup calls stops schedule)
scheduled_good setup calls stops schedule can =
    schedule_good setup schedule (first_play setup calls stops) (first_good setup calls stops can)

pub all_done : (setup : Setup) (calls : List (List (ℕ × Call))) (stops : List (Option ℕ))
    (schedule : List Segment) → CanPlay setup calls → AllWithin setup 0 (play_of setup calls stops schedule)
unfolding play_of
all_done setup calls stops schedule can =
    rounds_within setup _ (scheduled setup calls stops schedule)
    (enough setup (scheduled setup calls stops schedule) (scheduled_good setup calls stops schedule can))

pub plays_are_runs : PlaysAreRuns
plays_are_runs setup calls stops schedule can =
    ((all_done setup calls stops schedule can).good.run, (all_done setup calls stops schedule can).good.world_is)

pub plays_end : PlaysEnd
plays_end setup calls stops schedule seat can h =
    done setup (play_of setup calls stops schedule) seat (all_done setup calls stops schedule can).good h
    ((all_done setup calls stops schedule can).each seat h)
