-- The events of a play: which seat goes when, by a schedule, and afterwards in turn until each has ended or is stopped.
-- A seat has its calls dealt beforehand, and may be stopped after so many steps.
use Rattle.std.specs.Prelude.{◌≡◌, ℕ, zero, suc, ◌+◌, ◌-◌, ◌*◌, ◌^◌, ◌<◌, ◌≤◌, nat_lt, max, Bool, true, false, not, ◌||◌, if◌then◌else◌, List, [], ◌∷◌, ◌++◌, map, length, Option, Some, None, is_some, slice_index_or, slice_set, fold, sum_by, All}
use Rattle.std.specs.Option.{option_map, option_map_or}
use Rattle.std.specs.List.{list_any, range_with_len}
use Rattle.step_counts.specs.declared.settings.Settings.{Settings}
use Rattle.step_counts.specs.StepCounts.{step_bound, lookup_steps}
use Rattle.plain_map.specs.declared.calls.Call.{Call}
use Rattle.plain_map.specs.Calls.{key_in}
use Rattle.plain_map.specs.Serving.{IsAskable}
use Rattle.table_model.specs.declared.events.Event.{Event}
use Rattle.table_model.specs.Setup.{Setup, IsSetup, settings_of, seats_of}
use Rattle.table_model.specs.SeatStates.{Account, Stand, Idle, InFlight}
use Rattle.table_model.specs.Worlds.{World, IsRun, opening_world, world_after, happens, seat_in, refusal_of}
use Rattle.plain_map.specs.Keys.{IsKey}

-- so many slots of a seat, or as many as it needs to the end of its calls
pub record Segment : Type 0 where
  pub seat : ℕ
  pub slots : Option ℕ

-- what a seat has still to do: the calls that it has not begun, each with its packet, and how many steps it may still
-- take, where it is stopped at all
pub record Hand : Type 0 where
  pub calls : List (ℕ × Call)
  pub may : Option ℕ

-- how far a play is: the events so far, the world after them, and each seat's hand
pub record Play : Type 0 where
  pub events : List Event
  pub world : World
  pub hands : List Hand

-- nothing to do
abbrev pub empty_hand : Hand
empty_hand = record { calls = []; may = None }

abbrev pub hand_of : Play → (seat : ℕ) → Hand
hand_of play seat = slice_index_or play.hands seat empty_hand

-- the seat may take no step more
abbrev pub is_stopped : Hand → Bool
is_stopped hand = option_map_or (λ steps. not (nat_lt 0 steps)) hand.may false

-- it has ended: it is idle, and has begun all its calls
abbrev pub has_ended : Hand → Stand → Bool
has_ended hand Idle = not (nat_lt 0 (length hand.calls))
has_ended hand (InFlight flight phase) = false

-- the calls that an idle seat tries in one slot: those that are refused, up to the first that is not
abbrev pub tried_of : (Call → Bool) → List (ℕ × Call) → List (ℕ × Call)
tried_of refused [] = []
tried_of refused (begin ∷ calls) = if refused begin.1 then begin ∷ tried_of refused calls else begin ∷ []

-- and those after them
abbrev pub untried_of : (Call → Bool) → List (ℕ × Call) → List (ℕ × Call)
untried_of refused [] = []
untried_of refused (begin ∷ calls) = if refused begin.1 then untried_of refused calls else calls

-- one of the calls is not refused
abbrev pub one_begins : (Call → Bool) → List (ℕ × Call) → Bool
one_begins refused calls = list_any (λ begin. not (refused begin.1)) calls

-- with one step less that may be taken
abbrev pub with_step : Hand → Hand
with_step hand = record { calls = hand.calls; may = option_map (λ steps. steps - 1) hand.may }

-- the call would be refused
abbrev pub is_refused : Setup → (seat : ℕ) → Account → Call → Bool
is_refused setup seat account call = is_some (refusal_of setup seat account call)

-- the events of one slot: a step of a call in flight, or the calls that are tried
abbrev pub events_of_slot : Setup → (seat : ℕ) → Account → Hand → Stand → List Event
events_of_slot setup seat account hand Idle =
    map (λ begin. record { seat = seat; begin = Some begin }) (tried_of (is_refused setup seat account) hand.calls)
events_of_slot setup seat account hand (InFlight flight phase) = record { seat = seat; begin = None } ∷ []

-- and the hand after it
abbrev pub hand_after_slot : Setup → (seat : ℕ) → Account → Hand → Stand → Hand
hand_after_slot setup seat account hand Idle =
    let now : Hand = record { calls = untried_of (is_refused setup seat account) hand.calls; may = hand.may } in
    if one_begins (is_refused setup seat account) hand.calls then with_step now else now
hand_after_slot setup seat account hand (InFlight flight phase) = with_step hand

-- with these events, after which the seat has this hand
abbrev pub with_events : Setup → Play → (seat : ℕ) → List Event → Hand → Play
with_events setup play seat events hand = record {
  events = play.events ++ events;
  world = fold (happens setup) play.world events;
  hands = slice_set play.hands seat hand;
}

-- one slot of a seat. Calls that are refused take no step, and the next one begins in the same slot. A slot of a seat
-- that is stopped, or has ended, is skipped
abbrev pub slot : Setup → (seat : ℕ) → Play → Play
slot setup seat play =
    let state = seat_in play.world seat in
    let hand = hand_of play seat in
    if is_stopped hand then play
    else with_events setup play seat (events_of_slot setup seat state.account hand state.stand)
    (hand_after_slot setup seat state.account hand state.stand)

-- so many slots of a seat
abbrev pub slots : Setup → (seat many : ℕ) → Play → Play
slots setup seat zero play = play
slots setup seat (suc many) play = slots setup seat many (slot setup seat play)

-- the most steps of any call
abbrev pub call_steps : Settings → ℕ
call_steps settings = max (step_bound settings) (lookup_steps settings settings.items)

-- as many slots as a seat can need to the end of its calls, that in flight among them
abbrev pub most_slots : Settings → Hand → ℕ
most_slots settings hand = (length hand.calls + 1) * call_steps settings

-- one segment of a schedule
abbrev pub run_segment : Setup → Play → Segment → Play
run_segment setup play segment =
    slots setup segment.seat
    (option_map_or (λ many. many) segment.slots (most_slots (settings_of setup) (hand_of play segment.seat)))
    play

-- one slot of each seat, in the order of the seats
abbrev pub run_round : Setup → Play → Play
run_round setup play = fold (λ so_far seat. slot setup seat so_far) play (range_with_len 0 (seats_of setup))

-- so many rounds
abbrev pub run_rounds : Setup → (many : ℕ) → Play → Play
run_rounds setup zero play = play
run_rounds setup (suc many) play = run_rounds setup many (run_round setup play)

-- the hands at the beginning
abbrev pub first_hands : Setup → (calls : List (List (ℕ × Call))) → (stops : List (Option ℕ)) → List Hand
first_hands setup calls stops =
    map (λ seat. record { calls = slice_index_or calls seat []; may = slice_index_or stops seat None })
    (range_with_len 0 (seats_of setup))

-- a play before its first event
abbrev pub first_play : Setup → (calls : List (List (ℕ × Call))) → (stops : List (Option ℕ)) → Play
first_play setup calls stops =
    record { events = []; world = opening_world setup; hands = first_hands setup calls stops }

-- the play after the schedule, and when then the seats have gone in turn until each has ended or is stopped: there are
-- as many rounds as all seats together can need
abbrev pub scheduled : Setup → List (List (ℕ × Call)) → List (Option ℕ) → List Segment → Play
scheduled setup calls stops schedule = fold (run_segment setup) (first_play setup calls stops) schedule

unfoldable pub play_of : Setup → List (List (ℕ × Call)) → List (Option ℕ) → List Segment → Play
play_of setup calls stops schedule =
    let after = scheduled setup calls stops schedule in
    run_rounds setup (sum_by (most_slots (settings_of setup)) after.hands) after

-- how many calls were not begun
abbrev pub unbegun_in : Play → ℕ
unbegun_in play = sum_by (λ hand. length hand.calls) play.hands

-- a call that can be kept
pub record IsPlayable (begin : ℕ × Call) : Type 0 where
  pub packet : begin.0 < 2 ^ 32
  pub key : IsKey (key_in begin.1)
  pub value : IsAskable begin.1

-- calls that can be played
pub record CanPlay (setup : Setup) (calls : List (List (ℕ × Call))) : Type 0 where
  pub opened : IsSetup setup
  pub playable : All (λ own. All IsPlayable own) calls
  pub few : All (λ own. length own ≤ setup.shape.limit - 1) calls

-- a play is a run, and leaves its world
abbrev pub PlaysAreRuns : Type 0
PlaysAreRuns =
    (setup : Setup) (calls : List (List (ℕ × Call))) (stops : List (Option ℕ)) (schedule : List Segment) →
    CanPlay setup calls →
    (let play = play_of setup calls stops schedule in
    IsRun setup play.events × (play.world ≡ world_after setup play.events))

-- and in the end each seat has ended or is stopped
abbrev pub PlaysEnd : Type 0
PlaysEnd =
    (setup : Setup) (calls : List (List (ℕ × Call))) (stops : List (Option ℕ)) (schedule : List Segment) (seat : ℕ) →
    CanPlay setup calls → seat < seats_of setup →
    (let play = play_of setup calls stops schedule in
    (is_stopped (hand_of play seat) || has_ended (hand_of play seat) (seat_in play.world seat).stand) ≡ true)
