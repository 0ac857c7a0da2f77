-- Calls end: each event of a seat in flight is one more of its steps, until the call is answered.
use Rattle.std.proofs.Common.{◌≡◌, ◌≢◌, ℕ, ◌+◌, ◌<◌, ◌≤◌, ◌==◌, ◌⊎◌, Bool, true, false, cond, List, [], ◌∷◌, length, inl, inr, refl, sym, ap, ◌∙◌, subst, arith, lt-ltb}
use Rattle.std.specs.Prelude.{Option, Some, None, fold, count_by}
use Rattle.std.proofs.lemmas.Bool.{eqb-true, eqb-false}
use Rattle.std.proofs.lemmas.List.{length_push}
use Rattle.std.proofs.lemmas.List.Recursion.{is_count_by}
use Rattle.plain_map.specs.declared.calls.Call.{Call}
use Rattle.plain_map.specs.declared.full.Full.{Full}
use Rattle.table_model.specs.declared.events.Event.{Event}
use Rattle.table_model.specs.Setup.{Setup, seats_of}
use Rattle.table_model.specs.Phases.{Phase, SeeDone, StoreDone, Stuck}
use Rattle.table_model.specs.SeatStates.{Account, Flight, Stand, Idle, InFlight, SeatState, begun, record_of}
use Rattle.table_model.specs.Goes.{state_after}
use Rattle.table_model.specs.Asks.{ask_in}
use Rattle.table_model.specs.Worlds.{World, AreEvents, IsEvent, happens, seat_in, act, begin_or_refuse, refusal_of, found_by}
use Rattle.run_invariant.proofs.Invariant.{Common, Local, Keeps, KeepsStand}
use Rattle.run_laws.proofs.Layers.{happens_with}
use Rattle.run_laws.proofs.Changes.{changes_from_laws}
use Rattle.run_laws.proofs.Opened.{bucket_laws}
use Rattle.bound_laws.proofs.Numbers.{Numbered}
use Rattle.bound_laws.proofs.Gains.{Gain}
use Rattle.bound_laws.proofs.WorldSteps.{step_same, act_other}
use Rattle.bound_laws.proofs.Whole.{Called, Calling, called_steps}

-- how many of these events are the seat's
abbrev pub own_events : (seat : ℕ) → List Event → ℕ
own_events seat [] = 0
own_events seat (event ∷ events) = cond (event.seat == seat) (1 + own_events seat events) (own_events seat events)

-- as the promises count them
pub own_events_is : (seat : ℕ) (events : List Event) → own_events seat events ≡ count_by (λ event. event.seat == seat)
    events
own_events_is seat events = is_count_by (own_events seat) (λ event. event.seat == seat) refl (λ x xs. refl) events

-- one more step of the seat, where the event is its own
abbrev one : Bool → ℕ
one b = cond b 1 0

-- the call goes on with so many more steps, or it is answered
pub record GoesOn (call : Call) (number steps : ℕ) (stand : Stand) : Type 0 where
  pub flight : Flight
  pub phase : Phase
  pub stand_is : stand ≡ InFlight flight phase
  pub call_is : flight.call ≡ call
  pub number_is : flight.number ≡ number
  pub steps_are : flight.steps ≡ steps

-- so it is of the seat's state
abbrev pub Onward : (call : Call) (number steps : ℕ) → SeatState → Type 0
Onward call number steps state = GoesOn call number steps state.stand ⊎ (number ≤ length state.account.records)

-- a step of the seat itself
stepped : (setup : Setup) (me : ℕ) (c : Common) (account : Account) (flight : Flight) (phase : Phase) (local : Local)
    (word : ℕ) → Keeps setup c me account.used flight local phase →
    flight.number ≡ length account.records + 1 → Onward flight.call flight.number (flight.steps + 1)
    (state_after setup me account flight phase word)
stepped setup me c account flight (StoreDone reply place) local word k e =
    inr (omega (arith, e, length_push account.records (record_of me flight reply place)))
stepped setup me c account flight Stuck local word k e = absurd k
stepped setup me c account flight phase local word k e =
    inl (record { flight = _; phase = _; stand_is = refl; call_is = refl; number_is = refl; steps_are = refl })

-- records are only added
records_up : (setup : Setup) (me : ℕ) (account : Account) (flight : Flight) (phase : Phase) (word : ℕ) →
    length account.records ≤ length (state_after setup me account flight phase word).account.records
records_up setup me account flight (StoreDone reply place) word =
    omega (arith, length_push account.records (record_of me flight reply place))
records_up setup me account flight phase word = omega arith

-- of two equal stands the calls are equal, and an idle seat is in no call
flight_same : {f g : Flight} {p q : Phase} → InFlight f p ≡ InFlight g q → f ≡ g
flight_same e = cc

idle_flies : {f : Flight} {p : Phase} → Idle ≡ InFlight f p → ⊥
idle_flies e = cc

-- an event of the seat itself
act_same : (setup : Setup) (w : World) (me : ℕ) (c : Common) (local : Local) (account : Account) (stand : Stand)
    (begin : Option (ℕ × Call)) (call : Call) (number steps : ℕ) → me < length w.seats →
    account ≡ (seat_in w me).account → stand ≡ (seat_in w me).stand → KeepsStand setup c me account.used local stand →
    Numbered me (record { account = account; stand = stand }) →
    Onward call number steps (record { account = account; stand = stand }) →
    Onward call number (steps + 1) (seat_in (act setup w me account stand begin) me)
act_same setup w me c local account stand begin call number steps h same is k n (inl g) = flies stand g begin k n
  where
    flies : (stand : Stand) → GoesOn call number steps stand → (begin : Option (ℕ × Call)) →
        KeepsStand setup c me account.used local stand → Numbered me (record { account = account; stand = stand }) →
        Onward call number (steps + 1) (seat_in (act setup w me account stand begin) me)
    flies Idle g begin k n = absurd (idle_flies g.stand_is)
    flies (InFlight flight phase) g begin k n =
        let f = flight_same g.stand_is in
        let word = found_by setup (ask_in setup me account.used flight phase) w.words in
        let went = stepped setup me c account flight phase local word k n.stand in
        subst (Onward call number (steps + 1)) (sym (step_same setup w me account flight phase h))
        (subst (λ x. Onward x number (steps + 1) (state_after setup me account flight phase word))
        (ap (λ (f : Flight). f.call) f ∙ g.call_is)
        (subst (λ x. Onward flight.call x (steps + 1) (state_after setup me account flight phase word))
        (ap (λ (f : Flight). f.number) f ∙ g.number_is)
        (subst (λ x. Onward flight.call flight.number (x + 1) (state_after setup me account flight phase word))
        (ap (λ (f : Flight). f.steps) f ∙ g.steps_are) went)))
act_same setup w me c local account Idle None call number steps h same is k n (inr r) =
    inr (subst (λ (a : Account). number ≤ length a.records) same r)
act_same setup w me c local account Idle (Some begin) call number steps h same is k n (inr r) =
    go (refusal_of setup me account begin.1)
  where
    go : (x : Option Full) →
        Onward call number (steps + 1) (seat_in (begin_or_refuse setup w me account begin.0 begin.1 x) me)
    go (Some full) = inr (subst (λ (a : Account). number ≤ length a.records) same r)
    go None = subst (Onward call number (steps + 1))
        (sym (step_same setup w me account (begun account begin.0 begin.1) SeeDone h)) (inr r)
act_same setup w me c local account (InFlight flight phase) begin call number steps h same is k n (inr r) =
    let word = found_by setup (ask_in setup me account.used flight phase) w.words in
    subst (Onward call number (steps + 1)) (sym (step_same setup w me account flight phase h))
    (inr (omega (arith, r, records_up setup me account flight phase word)))

-- one event
one_event : (setup : Setup) (w : World) (event : Event) (a : Calling setup w) → IsEvent setup w event → (seat : ℕ) →
    seat < seats_of setup → (call : Call) (number steps : ℕ) →
    Onward call number steps (seat_in w seat) → Onward call number (steps + one (event.seat == seat))
    (seat_in (happens setup w event) seat)
one_event setup w event a e seat h call number steps on =
    let me = event.seat in
    let was = seat_in w me in
    subst (λ (b : Bool). Onward call number (steps + one (me == seat))
    (seat_in (cond b (act setup w me was.account was.stand event.begin) w) seat))
    (sym (lt-ltb me (seats_of setup) e.seat))
    (go (me == seat) refl)
  where
    go : (b : Bool) → (event.seat == seat) ≡ b →
        Onward call number (steps + one b)
        (seat_in (act setup w event.seat (seat_in w event.seat).account (seat_in w event.seat).stand event.begin) seat)
    go false f =
        let n : seat ≢ event.seat = λ x. eqb-false event.seat seat f (sym x) in
        subst (Onward call number (steps + 0))
        (sym (act_other setup w event.seat seat (seat_in w event.seat).account (seat_in w event.seat).stand
        event.begin n))
        (subst (λ n. Onward call number n (seat_in w seat)) (omega arith) on)
    go true t =
        let same : event.seat ≡ seat = eqb-true event.seat seat t in
        subst (λ s. Onward call number (steps + 1)
        (seat_in (act setup w event.seat (seat_in w event.seat).account (seat_in w event.seat).stand event.begin)
        s)) same
        (act_same setup w event.seat a.common (a.locals event.seat) (seat_in w event.seat).account
        (seat_in w event.seat).stand event.begin call number steps (omega (arith, e.seat, a.follows.long))
        refl refl (a.follows.seats event.seat e.seat) (a.holds.1 event.seat e.seat).numbered
        (subst (λ s. Onward call number steps (seat_in w s)) (sym same) on))

-- and so for all later ones
pub goes_on : (setup : Setup) (later : List Event) (w : World) → Calling setup w → AreEvents setup w later →
    (seat : ℕ) → seat < seats_of setup → (call : Call) (number steps : ℕ) →
    Onward call number steps (seat_in w seat) → Onward call number (steps + own_events seat later)
    (seat_in (fold (happens setup) w later) seat)
goes_on setup [] w a e seat h call number steps on = subst (λ n. Onward call number n (seat_in w seat)) (omega arith) on
goes_on setup (event ∷ later) w a e seat h call number steps on =
    let now = one_event setup w event a e.0 seat h call number steps on in
    let then = goes_on setup later (happens setup w event) (happens_with (ℕ → Gain)
    bucket_laws changes_from_laws setup (Called setup) (called_steps setup) w event a e.0) e.1 seat h call number
    (steps + one (event.seat == seat)) now in
    subst (λ n. Onward call number n (seat_in (fold (happens setup) (happens setup w event) later) seat))
    (sum (event.seat == seat)) then
  where
    sum : (b : Bool) → steps + one b + own_events seat later ≡ steps + cond b (1 + own_events seat later)
        (own_events seat later)
    sum true = omega arith
    sum false = omega arith
