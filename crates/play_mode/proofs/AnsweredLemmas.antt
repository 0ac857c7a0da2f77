-- The calls that events answer are those that the seats have then, and had not before.
use Rattle.std.proofs.Common.{◌≡◌, ◌≢◌, ◌<◌, ℕ, zero, suc, List, [], ◌∷◌, ◌++◌, Bool, true, false, cond, length, set, replicate, Option, Some, None, fold, inl, inr, refl, sym, ap, ◌∙◌, subst, arith, append-nil, append_assoc, lt-ltb, length-set, get_or-set_same, get_or-set_other}
use Rattle.std.specs.Prelude.{◌==◌, flat_map, slice_get, IsPermutation}
use Rattle.std.proofs.lemmas.Bool.{cases_eq, cases_lt, eq-eqb, ne_eqb, le-ltb}
use Rattle.std.proofs.lemmas.List.{get_or_past, get_or-replicate, length-replicate}
use Rattle.std.proofs.lemmas.List.Sorted.{IsPermutation-append_left, IsPermutation-refl, IsPermutation-trans}
use Rattle.std.proofs.lemmas.Option.{slice_get_cases}
use Rattle.plain_map.specs.declared.calls.Call.{Call}
use Rattle.plain_map.specs.declared.full.Full.{Full}
use Rattle.plain_map.specs.declared.records.Record.{Record}
use Rattle.trace_share.specs.declared.outcome.Outcome.{Outcome}
use Rattle.trace_share.specs.declared.outcome.Outcome.TheVariants.{Refused}
use Rattle.trace_share.specs.Outcomes.{record_in}
use Rattle.list_laws.proofs.Lists.{flat_map_append}
use Rattle.table_model.specs.declared.events.Event.{Event}
use Rattle.table_model.specs.Setup.{Setup, seats_of}
use Rattle.table_model.specs.Phases.{Phase, SeeDone, StoreDone}
use Rattle.table_model.specs.SeatStates.{Account, Flight, Stand, Idle, InFlight, SeatState, begun, fresh_seat}
use Rattle.table_model.specs.Asks.{ask_in}
use Rattle.table_model.specs.Goes.{state_after}
use Rattle.table_model.specs.Worlds.{World, act, begin_or_refuse, found_by, happens, opening_world, refusal_of, seat_in, step_of, words_after}
use Rattle.table_model.specs.Closed.{records_of}
use Rattle.bound_laws.proofs.WorldSteps.{step_same}
use Rattle.core_steps.specs.declared.values.Stepped.{Stepped}
use Rattle.core_steps.specs.declared.values.Stepped.TheVariants as T
use Rattle.core_steps.specs.Values.{new_record, refused_at, stepped_of, told_of}
use Rattle.play_runner.specs.Played.{outcome_in, outcomes_from, outcomes_of, refused_with}
use Rattle.play_runner.proofs.WeighedPlays.{first_past}
use Rattle.report_promises.specs.Good.{answered_by, answered_on}
use Rattle.report_promises.proofs.NumberLemmas.{answered_by-append}
use Rattle.play_mode.proofs.Permuted.{more_of_one}

-- the records of a seat
abbrev records_at : SeatState → List Record
records_at state = state.account.records

-- ---- what is told of one event

-- the answered calls that are told of an event
abbrev told : Event → Option Full → (before after : Account) → List Record
told event full before after = answered_on (outcome_in event (told_of full (new_record before after)))

-- a refused call is none of them
told_refused : (seat : ℕ) (begin : Option (ℕ × Call)) (full : Full) → answered_on (refused_with seat begin full) ≡ []
told_refused seat None full = refl
told_refused seat (Some begin) full = refl

-- where no record is new there are none
told_none : (event : Event) (full : Option Full) (before after : Account) → after.records ≡ before.records →
    told event full before after ≡ []
told_none event full before after same = go full (new_record before after) no_more
  where
    no_more : new_record before after ≡ None
    no_more = elim (slice_get_cases after.records (length before.records)).1 [
      | inl here ↦ absurd (omega (arith, here.1, ap length same))
      | inr past ↦ past.1
    ]

    go : (f : Option Full) (made : Option Record) → made ≡ None → answered_on (outcome_in event (told_of f made)) ≡ []
    go (Some f) made none = told_refused event.seat event.begin f
    go None None none = refl
    go None (Some r) none = absurd (cc)

-- where a call is answered it is that call's
told_one : (event : Event) (before after : Account) (r : Record) → after.records ≡ before.records ++ r ∷ [] →
    told event None before after ≡ r ∷ []
told_one event before after r is = ap (λ (made : Option Record). answered_on (outcome_in event (told_of None made)))
    (ap (λ (rs : List Record). slice_get rs (length before.records)) is ∙ first_past before.records r)

-- ---- what an event does

-- from a world to the next, a seat answers these calls, and nothing else changes the records
record Answers (w next : World) (seat : ℕ) (made : List Record) : Type 0 where
  own : records_at (seat_in next seat) ≡ records_at (seat_in w seat) ++ made
  others : (other : ℕ) → other ≢ seat → records_at (seat_in next other) ≡ records_at (seat_in w other)
  all : IsPermutation (records_of next) (records_of w ++ made)
  long : length next.seats ≡ length w.seats

-- nothing happens
answers_none : (w : World) (seat : ℕ) (made : List Record) → made ≡ [] → Answers w w seat made
answers_none w seat made none = subst (Answers w w seat) (sym none) (record {
  own = sym (append-nil (records_at (seat_in w seat)));
  others = λ other apart. refl;
  all = subst (IsPermutation (records_of w)) (sym (append-nil (records_of w))) (IsPermutation-refl (records_of w));
  long = refl;
})

-- a seat has another state
answers_set : (w : World) (words : List ℕ) (seat : ℕ) (state : SeatState) (made : List Record) →
    seat < length w.seats → records_at state ≡ records_at (seat_in w seat) ++ made →
    Answers w (record { words = words; seats = set w.seats seat state }) seat made
answers_set w words seat state made within is = record {
  own = ap records_at (get_or-set_same w.seats seat state fresh_seat within) ∙ is;
  others = λ other apart. ap records_at (get_or-set_other w.seats seat other state fresh_seat apart);
  all = more_of_one records_at w.seats seat state fresh_seat made within is;
  long = length-set w.seats seat state;
}

-- a step of a call answers that call, if any
step_adds : (setup : Setup) (event : Event) (me : ℕ) (account : Account) (flight : Flight) (phase : Phase)
    (word : ℕ) →
    records_at (state_after setup me account flight phase word)
    ≡ account.records ++ told event None account (state_after setup me account flight phase word).account
step_adds setup event me account flight (StoreDone reply place) word =
    ap (λ rs. account.records ++ rs)
    (sym (told_one event account (state_after setup me account flight (StoreDone reply place) word).account _ refl))
step_adds setup event me account flight phase word =
    sym (append-nil account.records)
    ∙ ap (λ rs. account.records ++ rs)
    (sym (told_none event None account (state_after setup me account flight phase word).account refl))

module _ (setup : Setup) (w : World) (event : Event) (within : event.seat < length w.seats) where
  -- what is told where the world is this one then
  abbrev told_then : Option Full → Account → World → List Record
  told_then full account next = told event full account (seat_in next event.seat).account

  step_answers : (account : Account) (flight : Flight) (phase : Phase) →
      records_at (seat_in w event.seat) ≡ account.records →
      Answers w (step_of setup w event.seat account flight phase) event.seat
      (told_then None account (step_of setup w event.seat account flight phase))
  step_answers account flight phase is =
      let word : ℕ = found_by setup (ask_in setup event.seat account.used flight phase) w.words in
      let state : SeatState = state_after setup event.seat account flight phase word in
      answers_set w (words_after setup (ask_in setup event.seat account.used flight phase) w.words) event.seat state
      (told_then None account (step_of setup w event.seat account flight phase)) within
      (step_adds setup event event.seat account flight phase word
      ∙ (λ i. sym is i ++ told event None account
      (sym (step_same setup w event.seat account flight phase within) i).account))

  -- the act of its seat
  act_answers : (account : Account) (stand : Stand) (begin : Option (ℕ × Call)) →
      records_at (seat_in w event.seat) ≡ account.records →
      Answers w (act setup w event.seat account stand begin) event.seat
      (told_then (refused_at setup event.seat account stand begin) account
      (act setup w event.seat account stand begin))
  act_answers account Idle None is =
      answers_none w event.seat (told_then None account w)
      (told_none event None account (seat_in w event.seat).account is)
  act_answers account Idle (Some begin) is = go (refusal_of setup event.seat account begin.1)
    where
      go : (full : Option Full) →
          Answers w (begin_or_refuse setup w event.seat account begin.0 begin.1 full) event.seat
          (told_then full account (begin_or_refuse setup w event.seat account begin.0 begin.1 full))
      go (Some full) = answers_none w event.seat (told_then (Some full) account w)
          (told_none event (Some full) account (seat_in w event.seat).account is)
      go None = step_answers account (begun account begin.0 begin.1) SeeDone is
  act_answers account (InFlight flight phase) begin is = step_answers account flight phase is

-- what is told of an event is what it answers
event_answers : (setup : Setup) (w : World) (event : Event) → length w.seats ≡ seats_of setup →
    Answers w (happens setup w event) event.seat (answered_on (outcome_in event (stepped_of setup w event)))
event_answers setup w event long = elim (cases_lt event.seat (seats_of setup)) [
  | inl within ↦ subst Then (sym (ap (λ c. cond c acted w) (lt-ltb event.seat (seats_of setup) within)))
      (act_answers setup w event (omega (arith, within, long)) account (seat_in w event.seat).stand event.begin refl)
  | inr beyond ↦ subst Then (sym (ap (λ c. cond c acted w) (le-ltb event.seat (seats_of setup) beyond)))
      (answers_none w event.seat (told event refused account account) (told_none event refused account account refl))
]
  where
    account : Account
    account = (seat_in w event.seat).account

    acted : World
    acted = act setup w event.seat (seat_in w event.seat).account (seat_in w event.seat).stand event.begin

    refused : Option Full
    refused = refused_at setup event.seat (seat_in w event.seat).account (seat_in w event.seat).stand event.begin

    Then : World → Type 0
    Then next = Answers w next event.seat
        (told event refused (seat_in w event.seat).account (seat_in next event.seat).account)

-- ---- what events do

-- what is told of an event is told of its seat
by_own : (event : Event) (stepped : Stepped) →
    answered_by event.seat (outcome_in event stepped) ≡ answered_on (outcome_in event stepped)
by_own event T.Going = refl
by_own event (T.Ended r) = ap (λ b. cond b (r ∷ []) [] ++ []) (eq-eqb event.seat event.seat refl)
by_own event (T.Refused full) = go event.begin
  where
    go : (begin : Option (ℕ × Call)) →
        answered_by event.seat (refused_with event.seat begin full)
        ≡ answered_on (refused_with event.seat begin full)
    go None = refl
    go (Some begin) = by (event.seat == event.seat)
      where
        by : (b : Bool) → cond b (record_in (Refused begin.0 begin.1 full)) [] ++ [] ≡ []
        by true = refl
        by false = refl

-- and of no other
by_other : (event : Event) (stepped : Stepped) (other : ℕ) → (event.seat == other) ≡ false →
    answered_by other (outcome_in event stepped) ≡ []
by_other event T.Going other apart = refl
by_other event (T.Ended r) other apart = ap (λ b. cond b (r ∷ []) [] ++ []) apart
by_other event (T.Refused full) other apart = go event.begin
  where
    go : (begin : Option (ℕ × Call)) → answered_by other (refused_with event.seat begin full) ≡ []
    go None = refl
    go (Some begin) = ap (λ b. cond b (record_in (Refused begin.0 begin.1 full)) [] ++ []) apart

on_both : (xs ys : List (ℕ × Outcome)) → answered_on (xs ++ ys) ≡ answered_on xs ++ answered_on ys
on_both xs ys = flat_map_append (λ (line : ℕ × Outcome). record_in line.1) xs ys

module _ (setup : Setup) where
  -- a seat's records after an event
  event_by : (w : World) (event : Event) (seat : ℕ) → length w.seats ≡ seats_of setup →
      records_at (seat_in (happens setup w event) seat)
      ≡ records_at (seat_in w seat) ++ answered_by seat (outcome_in event (stepped_of setup w event))
  event_by w event seat long = elim (cases_eq seat event.seat) [
    | inl same ↦ subst Own (sym same) (answers.own ∙ ap (λ rs. records_at (seat_in w event.seat) ++ rs)
        (sym (by_own event (stepped_of setup w event))))
    | inr apart ↦ answers.others seat apart ∙ sym (append-nil (records_at (seat_in w seat)))
        ∙ ap (λ rs. records_at (seat_in w seat) ++ rs) (sym (by_other event (stepped_of setup w event) seat
        (ne_eqb event.seat seat (λ same. apart (sym same)))))
  ]
    where
      answers : Answers w (happens setup w event) event.seat
          (answered_on (outcome_in event (stepped_of setup w event)))
      answers = event_answers setup w event long

      Own : ℕ → Type 0
      Own q = records_at (seat_in (happens setup w event) q)
          ≡ records_at (seat_in w q) ++ answered_by q (outcome_in event (stepped_of setup w event))

  -- and after events
  pub events_by : (events : List Event) (w : World) (seat : ℕ) → length w.seats ≡ seats_of setup →
      records_at (seat_in (fold (happens setup) w events) seat)
      ≡ records_at (seat_in w seat) ++ answered_by seat (outcomes_from setup w events)
  events_by [] w seat long = sym (append-nil (records_at (seat_in w seat)))
  events_by (event ∷ events) w seat long =
      let next : World = happens setup w event in
      let here : List (ℕ × Outcome) = outcome_in event (stepped_of setup w event) in
      let later : List (ℕ × Outcome) = outcomes_from setup next events in
      events_by events next seat ((event_answers setup w event long).long ∙ long)
      ∙ ap (λ rs. rs ++ answered_by seat later) (event_by w event seat long)
      ∙ append_assoc (records_at (seat_in w seat)) (answered_by seat here) (answered_by seat later)
      ∙ ap (λ rs. records_at (seat_in w seat) ++ rs) (sym (answered_by-append seat here later))

  -- the records of all seats after them
  pub events_on : (events : List Event) (w : World) → length w.seats ≡ seats_of setup →
      IsPermutation (records_of (fold (happens setup) w events))
      (records_of w ++ answered_on (outcomes_from setup w events))
  events_on [] w long =
      subst (IsPermutation (records_of w)) (sym (append-nil (records_of w))) (IsPermutation-refl (records_of w))
  events_on (event ∷ events) w long =
      let next : World = happens setup w event in
      let here : List (ℕ × Outcome) = outcome_in event (stepped_of setup w event) in
      let later : List (ℕ × Outcome) = outcomes_from setup next events in
      let answers = event_answers setup w event long in
      IsPermutation-trans (records_of (fold (happens setup) next events)) (records_of next ++ answered_on later)
      (records_of w ++ answered_on (here ++ later)) (events_on events next (answers.long ∙ long))
      (subst (IsPermutation (records_of next ++ answered_on later))
      (append_assoc (records_of w) (answered_on here) (answered_on later)
      ∙ ap (λ rs. records_of w ++ rs) (sym (on_both here later)))
      (IsPermutation-append_left (answered_on later) (records_of next) (records_of w ++ answered_on here) answers.all))

  -- there are as many seats
  pub seats_after : (events : List Event) → length (fold (happens setup) (opening_world setup) events).seats
      ≡ seats_of setup
  seats_after events = go events (opening_world setup) (length-replicate (seats_of setup) fresh_seat)
    where
      go : (later : List Event) (w : World) → length w.seats ≡ seats_of setup →
          length (fold (happens setup) w later).seats ≡ seats_of setup
      go [] w long = long
      go (event ∷ later) w long =
          go later (happens setup w event) ((event_answers setup w event long).long ∙ long)

  -- at the opening there are none
  none_at_first : (seat : ℕ) → records_at (seat_in (opening_world setup) seat) ≡ []
  none_at_first seat = elim (cases_lt seat (seats_of setup)) [
    | inl within ↦ ap records_at (get_or-replicate (seats_of setup) seat fresh_seat fresh_seat within)
    | inr beyond ↦ ap records_at (get_or_past (opening_world setup).seats seat fresh_seat
        (omega (arith, beyond, length-replicate (seats_of setup) fresh_seat)))
  ]

  none_of : (many : ℕ) → flat_map records_at (replicate many fresh_seat) ≡ []
  none_of zero = refl
  none_of (suc many) = none_of many

  -- so the records are the answered calls
  pub answered_by_seats : (events : List Event) (seat : ℕ) →
      records_at (seat_in (fold (happens setup) (opening_world setup) events) seat)
      ≡ answered_by seat (outcomes_of setup events)
  answered_by_seats events seat =
      events_by events (opening_world setup) seat (length-replicate (seats_of setup) fresh_seat)
      ∙ ap (λ rs. rs ++ answered_by seat (outcomes_of setup events)) (none_at_first seat)

  pub answered_by_all : (events : List Event) →
      IsPermutation (records_of (fold (happens setup) (opening_world setup) events))
      (answered_on (outcomes_of setup events))
  answered_by_all events =
      subst (λ rs. IsPermutation (records_of (fold (happens setup) (opening_world setup) events))
      (rs ++ answered_on (outcomes_of setup events))) (none_of (seats_of setup))
      (events_on events (opening_world setup) (length-replicate (seats_of setup) fresh_seat))
