-- How far a play is after one slot, many slots and a round.
use Rattle.std.proofs.Common.{◌≡◌, ℕ, suc, ◌+◌, ◌-◌, ◌<◌, ◌≤◌, ◌⊎◌, inl, inr, Bool, false, cond, List, [], map, length, drop, Option, set, fold, refl, sym, ap, ◌∙◌, subst, arith}
use Rattle.std.specs.List.{range_with_len}
use Rattle.std.proofs.lemmas.List.{drop_all, map-set}
use Rattle.step_counts.specs.declared.settings.Settings.{Settings}
use Rattle.plain_map.specs.declared.calls.Call.{Call}
use Rattle.word_rows.specs.Shape.{record_limit}
use Rattle.table_model.specs.Setup.{Setup, seats_of, settings_of}
use Rattle.table_model.specs.SeatStates.{SeatState}
use Rattle.table_model.specs.Worlds.{opening_world, seat_in}
use Rattle.table_model.specs.Schedules as S
use Rattle.table_model.specs.Schedules.{Play, events_of_slot, first_play, hand_after_slot, hand_of, is_stopped, play_of, run_round, run_rounds, run_segment, scheduled, slot, slots, with_events}
use Rattle.play_laws.specs.Good.{IsGoodPlay}
use Rattle.play_laws.proofs.Slots.{slot_keeps}
use Rattle.play_laws.proofs.Skipped.{rounds_stay, slots_stay}
use Rattle.core_steps.specs.Values.{CoreValue, opened}
use Rattle.play_runner.specs.declared.hands.Hand.{Hand}
use Rattle.play_runner.specs.declared.turns.Playing.{Playing}
use Rattle.play_runner.specs.Hands.{as_hand, as_hands, hands_of, rounds_of}
use Rattle.play_runner.specs.declared.values.Segment.{Segment}
use Rattle.play_runner.specs.Played.{as_segment}
use Rattle.play_runner.specs.Told.{AreTold, play_with}
use Rattle.play_runner.specs.Plays.{HasCome, IsPlaying, TookSlot, play_in, with_all}

-- where nothing is done
pub stays : (p : Playing) (play : Play) → IsPlaying p → play ≡ play_in p → HasCome p p play
stays p play stands is = record { setup_is = refl; play_is = sym is; stands = stands }

-- a slot of a seat that is not stopped
pub slot_taken : (p q : Playing) (seat : ℕ) (hand left : Hand) → IsPlaying p →
    as_hand hand ≡ hand_of (play_in p) seat → is_stopped (as_hand hand) ≡ false →
    TookSlot p.core q.core seat (as_hand hand) (as_hand left) →
    q.hands.items ≡ set p.hands.items seat left → AreTold q.core q.outcomes.items →
    HasCome p q (slot p.core.setup seat (play_in p))
slot_taken p q seat hand left stands is goes took hands told = record {
  setup_is = ap (λ (core : CoreValue). core.setup) took.after_is;
  play_is = play_is;
  stands = record {
    good = subst (λ (setup : Setup). IsGoodPlay setup (play_in q))
        (sym (ap (λ (core : CoreValue). core.setup) took.after_is))
        (subst (IsGoodPlay p.core.setup) (sym play_is) (slot_keeps p.core.setup seat (play_in p) stands.good).good);
    limited = subst (λ (setup : Setup). setup.shape.limit ≤ record_limit)
        (sym (ap (λ (core : CoreValue). core.setup) took.after_is)) stands.limited;
    told = told;
  };
}
  where
    state : SeatState
    state = seat_in p.core.world seat

    by : S.Hand → Play
    by h = cond (is_stopped h) (play_in p) (with_events p.core.setup (play_in p) seat
        (events_of_slot p.core.setup seat state.account h state.stand)
        (hand_after_slot p.core.setup seat state.account h state.stand))

    play_is : play_in q ≡ slot p.core.setup seat (play_in p)
    play_is =
        ap (λ (core : CoreValue). play_with core (as_hands q.hands.items)) took.after_is
        ∙ ap (λ (hands : List S.Hand). play_with (with_all p.core
        (events_of_slot p.core.setup seat state.account (as_hand hand) state.stand)) hands)
        (ap as_hands hands ∙ map-set as_hand p.hands.items seat left
        ∙ ap (set (as_hands p.hands.items) seat) took.left_is)
        ∙ ap (λ (b : Bool). cond b (play_in p) (with_events p.core.setup (play_in p) seat
        (events_of_slot p.core.setup seat state.account (as_hand hand) state.stand)
        (hand_after_slot p.core.setup seat state.account (as_hand hand) state.stand))) (sym goes)
        ∙ ap by is

-- of so many things to do, these are left after the first
fewer : (many i : ℕ) → i < many → many - i ≡ suc (many - (i + 1))
fewer many i h = omega arith

all_of : (many : ℕ) → many - 0 ≡ many
all_of many = omega arith

-- the play is on its way: what is left to do takes it where all would have taken it at first
pub record IsOnItsWay (before now : Playing) (left all : Setup → Play → Play) : Type 0 where
  pub setup_is : now.core.setup ≡ before.core.setup
  pub stands : IsPlaying now
  pub left_is : left before.core.setup (play_in now) ≡ all before.core.setup (play_in before)

-- one step on
pub goes_on : (p q r : Playing) (left next rest all : Setup → Play → Play) → IsOnItsWay p q left all →
    HasCome q r (next q.core.setup (play_in q)) →
    ((play : Play) → left p.core.setup play ≡ rest p.core.setup (next p.core.setup play)) →
    IsOnItsWay p r rest all
goes_on p q r left next rest all way come splits = record {
  setup_is = come.setup_is ∙ way.setup_is;
  stands = come.stands;
  left_is = ap (rest p.core.setup) (come.play_is
      ∙ ap (λ (setup : Setup). next setup (play_in q)) way.setup_is)
      ∙ sym (splits (play_in q)) ∙ way.left_is;
}

-- there, since what is left does nothing
pub arrives : (p q : Playing) (left all : Setup → Play → Play) → IsOnItsWay p q left all →
    left q.core.setup (play_in q) ≡ play_in q → HasCome p q (all p.core.setup (play_in p))
arrives p q left all way stays = record {
  setup_is = way.setup_is;
  play_is = sym stays ∙ ap (λ (setup : Setup). left setup (play_in q)) way.setup_is ∙ way.left_is;
  stands = way.stands;
}

-- the seats from this one on take their slots
abbrev pub round_from : (first many : ℕ) → Setup → Play → Play
round_from first many setup play =
    fold (λ so_far seat. slot setup seat so_far) play (range_with_len first many)

-- so many slots of a seat, and so many rounds
abbrev pub slots_by : (seat many : ℕ) → Setup → Play → Play
slots_by seat many setup play = slots setup seat many play

abbrev pub rounds_by : (many : ℕ) → Setup → Play → Play
rounds_by many setup play = run_rounds setup many play

abbrev pub slot_by : (seat : ℕ) → Setup → Play → Play
slot_by seat setup play = slot setup seat play

abbrev pub HasSlotsLeft : (before now : Playing) (seat many i : ℕ) → Type 0
HasSlotsLeft before now seat many i = IsOnItsWay before now (slots_by seat (many - i)) (slots_by seat many)

abbrev pub HasRoundsLeft : (before now : Playing) (many i : ℕ) → Type 0
HasRoundsLeft before now many i = IsOnItsWay before now (rounds_by (many - i)) (rounds_by many)

abbrev pub IsOnRound : (before now : Playing) (seats seat : ℕ) → Type 0
IsOnRound before now seats seat = IsOnItsWay before now (round_from seat (seats - seat)) (round_from 0 seats)

-- at first
pub slots_out : (p : Playing) (seat many : ℕ) → IsPlaying p → HasSlotsLeft p p seat many 0
slots_out p seat many stands = record {
  setup_is = refl;
  stands = stands;
  left_is = ap (λ (n : ℕ). slots p.core.setup seat n (play_in p)) (all_of many);
}

pub rounds_out : (p : Playing) (many : ℕ) → IsPlaying p → HasRoundsLeft p p many 0
rounds_out p many stands = record {
  setup_is = refl;
  stands = stands;
  left_is = ap (λ (n : ℕ). run_rounds p.core.setup n (play_in p)) (all_of many);
}

pub round_out : (p : Playing) (seats : ℕ) → IsPlaying p → IsOnRound p p seats 0
round_out p seats stands = record {
  setup_is = refl;
  stands = stands;
  left_is = ap (λ (n : ℕ). round_from 0 n p.core.setup (play_in p)) (all_of seats);
}

-- one slot on
pub slot_on : (p q r : Playing) (seat many i : ℕ) → i < many → HasSlotsLeft p q seat many i →
    HasCome q r (slot q.core.setup seat (play_in q)) → HasSlotsLeft p r seat many (i + 1)
slot_on p q r seat many i h way come =
    goes_on p q r (slots_by seat (many - i)) (slot_by seat) (slots_by seat (many - (i + 1))) (slots_by seat many) way
    come (λ play. ap (λ (n : ℕ). slots p.core.setup seat n play) (fewer many i h))

-- one round on
pub round_on : (p q r : Playing) (many i : ℕ) → i < many → HasRoundsLeft p q many i →
    HasCome q r (run_round q.core.setup (play_in q)) → HasRoundsLeft p r many (i + 1)
round_on p q r many i h way come =
    goes_on p q r (rounds_by (many - i)) run_round (rounds_by (many - (i + 1))) (rounds_by many) way
    come (λ play. ap (λ (n : ℕ). run_rounds p.core.setup n play) (fewer many i h))

-- one seat on
pub seat_on : (p q r : Playing) (seats seat : ℕ) → seat < seats → IsOnRound p q seats seat →
    HasCome q r (slot q.core.setup seat (play_in q)) → IsOnRound p r seats (seat + 1)
seat_on p q r seats seat h way come =
    goes_on p q r (round_from seat (seats - seat)) (slot_by seat) (round_from (seat + 1) (seats - (seat + 1)))
    (round_from 0 seats) way
    come (λ play. ap (λ (n : ℕ). round_from seat n p.core.setup play) (fewer seats seat h))

-- none is left
pub none_of : (many i : ℕ) → many ≤ i → many - i ≡ 0
none_of many i h = omega arith

-- a seat that does nothing more has taken all its slots
pub slots_done : (p q : Playing) (seat many i : ℕ) → HasSlotsLeft p q seat many i →
    ((many ≤ i) ⊎ (slot q.core.setup seat (play_in q) ≡ play_in q)) →
    HasCome p q (slots p.core.setup seat many (play_in p))
slots_done p q seat many i way done = arrives p q (slots_by seat (many - i)) (slots_by seat many) way
    (elim done [
      | inl h ↦ ap (λ (n : ℕ). slots q.core.setup seat n (play_in q)) (none_of many i h)
      | inr e ↦ slots_stay q.core.setup seat (many - i) (play_in q) e
    ])

-- and so it is with rounds
pub rounds_done : (p q : Playing) (many i : ℕ) → HasRoundsLeft p q many i →
    ((many ≤ i) ⊎ (run_round q.core.setup (play_in q) ≡ play_in q)) →
    HasCome p q (run_rounds p.core.setup many (play_in p))
rounds_done p q many i way done = arrives p q (rounds_by (many - i)) (rounds_by many) way
    (elim done [
      | inl h ↦ ap (λ (n : ℕ). run_rounds q.core.setup n (play_in q)) (none_of many i h)
      | inr e ↦ rounds_stay q.core.setup (many - i) (play_in q) e
    ])

-- all seats have taken their slot
pub round_done : (p q : Playing) (seats seat : ℕ) → IsOnRound p q seats seat → seats ≤ seat →
    seats ≡ seats_of p.core.setup → HasCome p q (run_round p.core.setup (play_in p))
round_done p q seats seat way h is =
    subst (λ (n : ℕ). HasCome p q (round_from 0 n p.core.setup (play_in p))) is
    (arrives p q (round_from seat (seats - seat)) (round_from 0 seats) way
    (ap (λ (n : ℕ). round_from seat n q.core.setup (play_in q)) (none_of seats seat h)))

-- the segments of a schedule, one after the other
abbrev pub segments_by : List Segment → Setup → Play → Play
segments_by schedule setup play = fold (run_segment setup) play (map as_segment schedule)

-- all segments have been run
pub segments_done : (p q : Playing) (schedule : List Segment) (i : ℕ) → length schedule ≤ i →
    IsOnItsWay p q (segments_by (drop i schedule)) (segments_by schedule) →
    HasCome p q (segments_by schedule p.core.setup (play_in p))
segments_done p q schedule i h way =
    arrives p q (segments_by (drop i schedule)) (segments_by schedule) way
    (ap (λ (rest : List Segment). segments_by rest q.core.setup (play_in q)) (drop_all i schedule h))

-- a table that has just been opened, with the hands that are dealt, is at the beginning of its play
pub opens : (core : CoreValue) (hands : List S.Hand) (seats : ℕ) (calls : List (List (ℕ × Call)))
    (stops : List (Option ℕ)) → core ≡ opened core.setup → seats ≡ seats_of core.setup →
    hands ≡ hands_of seats calls stops → play_with core hands ≡ first_play core.setup calls stops
opens core hands seats calls stops new few dealt =
    (λ i. record { events = (new i).events; world = (new i).world; hands = dealt i })
    ∙ (λ i. record {
      events = [];
      world = opening_world core.setup;
      hands = hands_of (few i) calls stops;
    })

-- so many rounds as were counted
pub rounds_in : (p q : Playing) (most : ℕ) (settings : Settings) → settings ≡ settings_of p.core.setup →
    most ≡ rounds_of settings (as_hands p.hands.items) →
    HasCome p q (run_rounds p.core.setup most (play_in p)) →
    HasCome p q (run_rounds p.core.setup (rounds_of (settings_of p.core.setup) (as_hands p.hands.items)) (play_in p))
rounds_in p q most settings is counted come =
    subst (λ (n : ℕ). HasCome p q (run_rounds p.core.setup n (play_in p)))
    (counted ∙ ap (λ (s : Settings). rounds_of s (as_hands p.hands.items)) is) come

-- the rounds after the schedule end the play
pub play_is : (setup : Setup) (calls : List (List (ℕ × Call))) (stops : List (Option ℕ)) (schedule : List S.Segment)
    (after : Play) → after ≡ scheduled setup calls stops schedule →
    run_rounds setup (rounds_of (settings_of setup) after.hands) after ≡ play_of setup calls stops schedule
unfolding play_of
play_is setup calls stops schedule after e =
    ap (λ (play : Play). run_rounds setup (rounds_of (settings_of setup) play.hands) play) e

-- a whole play
pub whole : (p q r : Playing) (setup : Setup) (calls : List (List (ℕ × Call))) (stops : List (Option ℕ))
    (schedule : List Segment) → p.core.setup ≡ setup → play_in p ≡ first_play setup calls stops →
    HasCome p q (segments_by schedule p.core.setup (play_in p)) →
    HasCome q r (run_rounds q.core.setup (rounds_of (settings_of q.core.setup) (as_hands q.hands.items)) (play_in q)) →
    (r.core.setup ≡ setup) × (play_in r ≡ play_of setup calls stops (map as_segment schedule))
whole p q r setup calls stops schedule is first a b = (
  b.setup_is ∙ a.setup_is ∙ is,
  b.play_is
      ∙ ap (λ (s : Setup). run_rounds s (rounds_of (settings_of s) (play_in q).hands) (play_in q)) (a.setup_is ∙ is)
      ∙ play_is setup calls stops (map as_segment schedule) (play_in q)
      (a.play_is ∙ ap (λ (s : Setup). segments_by schedule s (play_in p)) is ∙ ap (segments_by schedule setup) first),
)
