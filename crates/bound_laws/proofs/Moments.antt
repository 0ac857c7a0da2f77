-- A seat is idle after each of its answers, and a refused call leaves no trace.
use Rattle.std.proofs.Common.{◌≡◌, ℕ, zero, suc, ◌+◌, ◌<◌, ◌≤◌, ◌⊎◌, Bool, true, false, cond, eqb, List, [], ◌∷◌, ◌++◌, length, take, map, Option, Some, None, inl, inr, refl, sym, ap, ◌∙◌, subst, arith, length-append}
use Rattle.std.specs.Prelude.{fold, flat_map, nat_lt, option_to_list, All}
use Rattle.std.proofs.lemmas.Bool.{cases_lt, cases_eq, ltb-true, eq-eqb}
use Rattle.std.proofs.lemmas.Bool.Decides.{eqb_tells}
use Rattle.std.proofs.lemmas.List.{append_assoc, append-nil, length_push, map-append, get_or_append_left, get_or-append-add}
use Rattle.std.proofs.lemmas.List.Sums.{fold-append}
use Rattle.std.proofs.lemmas.List.Elements.{All-nil, All-append}
use Rattle.std.specs.Option.{option_map_or}
use Rattle.std.proofs.Math.Seq.{take-append_seam}
use Rattle.step_counts.specs.declared.rows.SeatRows.{SeatRows}
use Rattle.plain_map.specs.declared.calls.Call.{Call}
use Rattle.plain_map.specs.declared.full.Full.{Full}
use Rattle.plain_map.specs.declared.keys.Key.{Key}
use Rattle.plain_map.specs.declared.records.Record.{Record}
use Rattle.plain_map.specs.Room.{published}
use Rattle.table_model.specs.declared.events.Event.{Event}
use Rattle.table_model.specs.Setup.{Setup, seats_of}
use Rattle.table_model.specs.Phases.{Phase, SeeDone, StoreDone}
use Rattle.table_model.specs.SeatStates.{Account, Flight, Stand, Idle, InFlight, SeatState, fresh_seat, begun, record_of}
use Rattle.table_model.specs.Asks.{ask_in}
use Rattle.table_model.specs.Goes.{state_after}
use Rattle.table_model.specs.Worlds.{World, IsRun, IsEvent, AreEvents, FitsStand, world_after, opening_world, happens, act, begin_or_refuse, step_of, refusal_of, seat_in, found_by}
use Rattle.table_model.specs.Needs.{inserted_by, inserted_in, IsAmongKeys}
use Rattle.list_laws.proofs.Lists.{flat_map_append}
use Rattle.run_laws.proofs.TwoParts.{run_first}
use Rattle.bound_laws.specs.Moments.{IdleMoments, given_to, asked_of, asked_now, asked_calls, BegunAreAnswered, AllAmong, InsertsAreOfCalls}
use Rattle.bound_laws.proofs.WorldSteps.{step_same, act_other}
use Rattle.bound_laws.proofs.Given.{long_happens}
use Rattle.bound_laws.proofs.Batches.{fresh_all, long_all}
use Rattle.bound_laws.proofs.Ends.{spent_is_used}

-- ---- what one event does to a seat's answers

-- none is new
record Still (old : Account) (new : SeatState) : Type 0 where
  records : new.account.records ≡ old.records
  spent : new.account.spent ≡ old.spent

-- one is, and the seat is idle
record OneMore (old : Account) (new : SeatState) : Type 0 where
  answer : Record
  rows : SeatRows
  records : new.account.records ≡ old.records ++ answer ∷ []
  spent : new.account.spent ≡ old.spent ++ rows ∷ []
  stand : new.stand ≡ Idle

abbrev Turn : Account → SeatState → Type 0
Turn old new = Still old new ⊎ OneMore old new

-- by a step in flight
turn_step : (setup : Setup) (me : ℕ) (account : Account) (flight : Flight) (phase : Phase) (word : ℕ) →
    Turn account (state_after setup me account flight phase word)
turn_step setup me account flight (StoreDone reply place) word =
    let more : OneMore account (state_after setup me account flight (StoreDone reply place) word) =
    record {
      answer = record_of me flight reply place;
      rows = account.used;
      records = refl;
      spent = refl;
      stand = refl;
    } in
    inr more
turn_step setup me account flight phase word = inl (record { records = refl; spent = refl })

module _ (setup : Setup) (w : World) (me : ℕ) (h : me < length w.seats) where
  -- by a step of the seat
  turn_flight : (account : Account) (flight : Flight) (phase : Phase) →
      Turn account (seat_in (step_of setup w me account flight phase) me)
  turn_flight account flight phase = subst (Turn account) (sym (step_same setup w me account flight phase h))
      (turn_step setup me account flight phase (found_by setup (ask_in setup me account.used flight phase) w.words))

  -- where nothing happens
  turn_none : Turn (seat_in w me).account (seat_in w me)
  turn_none = inl (record { records = refl; spent = refl })

  -- by what it does
  turn_act : (stand : Stand) (begin : Option (ℕ × Call)) →
      Turn (seat_in w me).account (seat_in (act setup w me (seat_in w me).account stand begin) me)
  turn_act Idle None = turn_none
  turn_act Idle (Some begin) = go (refusal_of setup me (seat_in w me).account begin.1)
    where
      go : (r : Option Full) → Turn (seat_in w me).account
          (seat_in (begin_or_refuse setup w me (seat_in w me).account begin.0 begin.1 r) me)
      go (Some full) = turn_none
      go None = turn_flight (seat_in w me).account (begun (seat_in w me).account begin.0 begin.1) SeeDone
  turn_act (InFlight flight phase) begin = turn_flight (seat_in w me).account flight phase

-- by an event of any seat
turn_happens : (setup : Setup) (w : World) (event : Event) (q : ℕ) → length w.seats ≡ seats_of setup →
    Turn (seat_in w q).account (seat_in (happens setup w event) q)
turn_happens setup w event q long = go (nat_lt event.seat (seats_of setup)) refl
  where
    still : Turn (seat_in w q).account (seat_in w q)
    still = inl (record { records = refl; spent = refl })

    go : (b : Bool) → nat_lt event.seat (seats_of setup) ≡ b →
        Turn (seat_in w q).account
        (seat_in (cond b (act setup w event.seat (seat_in w event.seat).account (seat_in w event.seat).stand
        event.begin) w) q)
    go false e = still
    go true e = elim (cases_eq q event.seat) [
      | inr other ↦ subst (Turn (seat_in w q).account)
          (sym (act_other setup w event.seat q (seat_in w event.seat).account (seat_in w event.seat).stand event.begin
          other)) still
      | inl same ↦ subst
          (λ p. Turn (seat_in w p).account
          (seat_in (act setup w event.seat (seat_in w event.seat).account (seat_in w event.seat).stand event.begin) p))
          (sym same) (turn_act setup w event.seat (omega (arith, long, ltb-true event.seat (seats_of setup) e))
          (seat_in w event.seat).stand event.begin)
    ]

-- ---- answers stay

-- the later account begins with the earlier one
record Grown (old new : Account) : Type 0 where
  records : List Record
  rows : List SeatRows
  records_are : new.records ≡ old.records ++ records
  rows_are : new.spent ≡ old.spent ++ rows

-- one answer more, after which others come
grown_on : (old : Account) (now : SeatState) (new : Account) → Turn old now → Grown now.account new → Grown old new
grown_on old now new (inl t) g = record {
  records = g.records;
  rows = g.rows;
  records_are = g.records_are ∙ ap (λ rs. rs ++ g.records) t.records;
  rows_are = g.rows_are ∙ ap (λ rs. rs ++ g.rows) t.spent;
}
grown_on old now new (inr t) g = record {
  records = t.answer ∷ g.records;
  rows = t.rows ∷ g.rows;
  records_are = g.records_are ∙ ap (λ rs. rs ++ g.records) t.records
      ∙ append_assoc old.records (t.answer ∷ []) g.records;
  rows_are = g.rows_are ∙ ap (λ rs. rs ++ g.rows) t.spent ∙ append_assoc old.spent (t.rows ∷ []) g.rows;
}

-- whatever comes
grown_all : (setup : Setup) (events : List Event) (w : World) (q : ℕ) → length w.seats ≡ seats_of setup →
    Grown (seat_in w q).account (seat_in (fold (happens setup) w events) q).account
grown_all setup [] w q long =
    record { records = []; rows = []; records_are = sym (append-nil _); rows_are = sym (append-nil _) }
grown_all setup (event ∷ events) w q long =
    grown_on (seat_in w q).account (seat_in (happens setup w event) q)
    (seat_in (fold (happens setup) w (event ∷ events)) q).account (turn_happens setup w event q long)
    (grown_all setup events (happens setup w event) q (long_happens setup w event ∙ long))

-- ---- the moment of an answer

-- the seat has answered fewer calls, or just so many
abbrev Before : (count : ℕ) → SeatState → Type 0
Before count state =
    (length state.account.records < count) ⊎ ((length state.account.records ≡ count) × (state.stand ≡ Idle))

-- it has answered just so many after some of the events
record Found (setup : Setup) (w : World) (events : List Event) (q count : ℕ) : Type 0 where
  front : List Event
  back : List Event
  cut : events ≡ front ++ back
  stand : (seat_in (fold (happens setup) w front) q).stand ≡ Idle
  counts : length (seat_in (fold (happens setup) w front) q).account.records ≡ count

-- one answer more
before_on : (old : Account) (now : SeatState) (count : ℕ) → length old.records < count → Turn old now → Before count now
before_on old now count less (inl t) = inl (omega (arith, less, ap length t.records))
before_on old now count less (inr t) =
    let long : length now.account.records ≡ length old.records + 1 =
    omega (arith, ap length t.records, length_push old.records t.answer) in
    elim (cases_lt (length now.account.records) count) [
      | inl fewer ↦ inl fewer
      | inr all ↦ inr (omega (arith, less, long, all), t.stand)
    ]

-- so there is a moment for each number that is reached
found_all : (setup : Setup) (events : List Event) (w : World) (q count : ℕ) → length w.seats ≡ seats_of setup →
    Before count (seat_in w q) → count ≤ length (seat_in (fold (happens setup) w events) q).account.records →
    Found setup w events q count
found_all setup events w q count long (inr now) most =
    record { front = []; back = events; cut = refl; stand = now.1; counts = now.0 }
found_all setup [] w q count long (inl less) most = absurd (omega (arith, less, most))
found_all setup (event ∷ events) w q count long (inl less) most =
    let rest = found_all setup events (happens setup w event) q count (long_happens setup w event ∙ long)
    (before_on (seat_in w q).account (seat_in (happens setup w event) q) count less
    (turn_happens setup w event q long)) most in
    record {
      front = event ∷ rest.front;
      back = rest.back;
      cut = ap (λ es. event ∷ es) rest.cut;
      stand = rest.stand;
      counts = rest.counts;
    }

-- what stands first is taken
taken_first : {A : Type 0} → (count : ℕ) (xs more all : List A) → length xs ≡ count → all ≡ xs ++ more →
    xs ≡ take count all
taken_first count xs more all e is =
    sym (ap (λ n. take n all) (sym e) ∙ ap (λ ys. take (length xs) ys) is ∙ take-append_seam xs more)

-- there are as many seats after any events
long_after : (setup : Setup) (events : List Event) (w : World) → length w.seats ≡ seats_of setup →
    length (fold (happens setup) w events).seats ≡ seats_of setup
long_after setup [] w long = long
long_after setup (event ∷ events) w long =
    long_after setup events (happens setup w event) (long_happens setup w event ∙ long)

-- a seat begins with no answer
before_first : (setup : Setup) (q count : ℕ) → Before count (seat_in (opening_world setup) q)
before_first setup q count = subst (Before count) (sym (fresh_all (seats_of setup) q)) (go count)
  where
    go : (count : ℕ) → Before count fresh_seat
    go zero = inr (refl, refl)
    go (suc n) = inl (omega arith)

pub idle_moments : IdleMoments
idle_moments setup events seat count run h most =
    let found = found_all setup events (opening_world setup) seat count (long_all (seats_of setup))
    (before_first setup seat count) most in
    let part : IsRun setup found.front =
    run_first setup found.front found.back (subst (IsRun setup) found.cut run) in
    let long : length (world_after setup found.front).seats ≡ seats_of setup =
    long_after setup found.front (opening_world setup) (long_all (seats_of setup)) in
    let grown = subst (λ w. Grown (seat_in (world_after setup found.front) seat).account (seat_in w seat).account)
    (sym (fold-append (happens setup) (opening_world setup) found.front found.back)
    ∙ ap (world_after setup) (sym found.cut))
    (grown_all setup found.back (world_after setup found.front) seat long) in
    let spent = spent_is_used setup found.front seat part h in
    let now = (seat_in (world_after setup found.front) seat).account in
    let end = (seat_in (world_after setup events) seat).account in
    let spent_first : now.spent ≡ take count end.spent =
    taken_first count now.spent grown.rows end.spent (spent.0 ∙ found.counts) grown.rows_are in
    record {
      front = found.front;
      back = found.back;
      cut = found.cut;
      stand = found.stand;
      records = taken_first count now.records grown.records end.records found.counts grown.records_are;
      spent = spent_first;
      used = sym (spent.1 found.stand) ∙ ap published spent_first;
    }

-- ---- a refused call leaves no trace

-- what a seat is given by an event
abbrev given_by : (seat : ℕ) → Event → List (ℕ × Call)
given_by seat event = cond (eqb event.seat seat) (option_to_list event.begin) []

-- a step answers a call that was begun
pub asked_step : (setup : Setup) (me : ℕ) (account : Account) (flight : Flight) (phase : Phase) (word : ℕ) →
    asked_calls (state_after setup me account flight phase word)
    ≡ map asked_of account.records ++ (flight.packet, flight.call) ∷ []
asked_step setup me account flight (StoreDone reply place) word =
    append-nil _ ∙ map-append asked_of account.records (record_of me flight reply place ∷ [])
asked_step setup me account flight phase word = refl

module _ (setup : Setup) (w : World) (me : ℕ) (h : me < length w.seats) where
  abbrev account : Account
  account = (seat_in w me).account

  -- an event of a seat changes nothing, or gives it a call, or goes on with the one that was given
  asked_act : (stand : Stand) (begin : Option (ℕ × Call)) → (seat_in w me).stand ≡ stand →
      FitsStand setup account stand begin → (act setup w me account stand begin ≡ w)
      ⊎ (asked_calls (seat_in (act setup w me account stand begin) me)
      ≡ asked_calls (seat_in w me) ++ option_to_list begin)
  asked_act Idle None s fits = inl refl
  asked_act Idle (Some begin) s fits = go (refusal_of setup me account begin.1)
    where
      go : (r : Option Full) → (begin_or_refuse setup w me account begin.0 begin.1 r ≡ w)
          ⊎ (asked_calls (seat_in (begin_or_refuse setup w me account begin.0 begin.1 r) me)
          ≡ asked_calls (seat_in w me) ++ begin ∷ [])
      go (Some full) = inl refl
      go None = inr (ap asked_calls (step_same setup w me account (begun account begin.0 begin.1) SeeDone h)
          ∙ sym (ap (λ xs. xs ++ begin ∷ []) (ap (λ stand. map asked_of account.records ++ asked_now stand) s
          ∙ append-nil (map asked_of account.records))))
  asked_act (InFlight flight phase) (Some begin) s fits = cc
  asked_act (InFlight flight phase) None s fits = inr (ap asked_calls (step_same setup w me account flight phase h)
      ∙ asked_step setup me account flight phase
      (found_by setup (ask_in setup me account.used flight phase) w.words)
      ∙ sym (append-nil (asked_calls (seat_in w me))
      ∙ ap (λ stand. map asked_of account.records ++ asked_now stand) s))

-- of an event that may come
asked_happens : (setup : Setup) (w : World) (event : Event) → length w.seats ≡ seats_of setup → IsEvent setup w event →
    (happens setup w event ≡ w)
    ⊎ ((q : ℕ) → asked_calls (seat_in (happens setup w event) q) ≡ asked_calls (seat_in w q) ++ given_by q event)
asked_happens setup w event long may = go (nat_lt event.seat (seats_of setup)) refl
  where
    account : Account
    account = (seat_in w event.seat).account

    go : (b : Bool) → nat_lt event.seat (seats_of setup) ≡ b →
        (cond b (act setup w event.seat (seat_in w event.seat).account (seat_in w event.seat).stand event.begin) w ≡ w)
        ⊎ ((q : ℕ) → asked_calls (seat_in (cond b (act setup w event.seat (seat_in w event.seat).account
        (seat_in w event.seat).stand event.begin) w) q) ≡ asked_calls (seat_in w q) ++ given_by q event)
    go false e = inl refl
    go true e = elim (asked_act setup w event.seat (omega (arith, long, may.seat)) (seat_in w event.seat).stand
        event.begin refl may.begin) [
          | inl same ↦ inl same
          | inr own ↦ inr (λ q. elim (eqb_tells event.seat q) [
            | inl at ↦ subst
                (λ p. asked_calls (seat_in (act setup w event.seat (seat_in w event.seat).account
                (seat_in w event.seat).stand event.begin) p) ≡ asked_calls (seat_in w p) ++ given_by q event)
                at.1 (own
                ∙ ap (λ b. asked_calls (seat_in w event.seat) ++ cond b (option_to_list event.begin) []) (sym at.0))
            | inr other ↦ ap asked_calls (act_other setup w event.seat q (seat_in w event.seat).account
                (seat_in w event.seat).stand event.begin (λ is. other.1 (sym is)))
                ∙ sym (ap (λ b. asked_calls (seat_in w q) ++ cond b (option_to_list event.begin) []) other.0
                ∙ append-nil (asked_calls (seat_in w q)))
          ])
        ]

-- events that lead to the same, without those that changed nothing
record Stripped (setup : Setup) (w : World) (events : List Event) : Type 0 where
  taken : List Event
  follow : AreEvents setup w taken
  same : fold (happens setup) w taken ≡ fold (happens setup) w events
  begun : (q : ℕ) → asked_calls (seat_in (fold (happens setup) w events) q)
      ≡ asked_calls (seat_in w q) ++ given_to q taken

stripped : (setup : Setup) (events : List Event) (w : World) → length w.seats ≡ seats_of setup →
    AreEvents setup w events → Stripped setup w events
stripped setup [] w long follow = record { taken = []; follow = tt; same = refl; begun = λ q. sym (append-nil _) }
stripped setup (event ∷ events) w long follow =
    go (asked_happens setup w event long follow.0)
    (stripped setup events (happens setup w event) (long_happens setup w event ∙ long) follow.1)
  where
    go : ((happens setup w event ≡ w)
        ⊎ ((q : ℕ) → asked_calls (seat_in (happens setup w event) q) ≡ asked_calls (seat_in w q) ++ given_by q event)) →
        Stripped setup (happens setup w event) events → Stripped setup w (event ∷ events)
    go (inl none) rest = record {
      taken = rest.taken;
      follow = subst (λ x. AreEvents setup x rest.taken) none rest.follow;
      same = ap (λ x. fold (happens setup) x rest.taken) (sym none) ∙ rest.same;
      begun = λ q. rest.begun q ∙ ap (λ x. asked_calls (seat_in x q) ++ given_to q rest.taken) none;
    }
    go (inr own) rest = record {
      taken = event ∷ rest.taken;
      follow = (follow.0, rest.follow);
      same = rest.same;
      begun = λ q. rest.begun q ∙ ap (λ xs. xs ++ given_to q rest.taken) (own q)
          ∙ append_assoc (asked_calls (seat_in w q)) (given_by q event) (given_to q rest.taken);
    }

pub begun_are_answered : BegunAreAnswered
begun_are_answered setup events run =
    let s = stripped setup events (opening_world setup) (long_all (seats_of setup)) run.follow in
    record {
      taken = s.taken;
      run = record { opened = run.opened; follow = s.follow };
      same = s.same;
      begun = λ q. sym (s.begun q ∙ ap (λ x. asked_calls x ++ given_to q s.taken) (fresh_all (seats_of setup) q));
    }

-- ---- what is inserted

-- what holds of the members of two lists holds of those of each
all_left : {A : Type 0} → (P : A → Type 0) (xs ys : List A) → All P (xs ++ ys) → All P xs
all_left P xs ys h k d lt =
    subst P (get_or_append_left xs ys d k lt) (h k d (omega (arith, lt, length-append xs ys)))

all_right : {A : Type 0} → (P : A → Type 0) (xs ys : List A) → All P (xs ++ ys) → All P ys
all_right P xs ys h k d lt =
    subst P (get_or-append-add xs ys k d) (h (length xs + k) d (omega (arith, lt, length-append xs ys)))

-- the keys that these calls insert
abbrev inserts : List (ℕ × Call) → List Key
inserts calls = flat_map (λ call. inserted_by call.1) calls

-- of an event and those after it
inserts_both : (q : ℕ) (event : Event) (events : List Event) →
    inserts (given_to q (event ∷ events)) ≡ inserts (given_by q event) ++ inserts (given_to q events)
inserts_both q event events = flat_map_append (λ call. inserted_by call.1) (given_by q event) (given_to q events)

-- what an event inserts is of the call that its seat is given
inserts_own : (event : Event) →
    inserts (given_by event.seat event) ≡ option_map_or (λ begin. inserted_by begin.1) event.begin []
inserts_own event =
    ap (λ b. inserts (cond b (option_to_list event.begin) [])) (eq-eqb event.seat event.seat refl) ∙ go event.begin
  where
    go : (begin : Option (ℕ × Call)) →
        inserts (option_to_list begin) ≡ option_map_or (λ given. inserted_by given.1) begin []
    go None = refl
    go (Some begin) = append-nil (inserted_by begin.1)

inserts_all : (setup : Setup) (events : List Event) (keys : List Key) (w : World) → AreEvents setup w events →
    ((q : ℕ) → q < seats_of setup → AllAmong keys (given_to q events)) → All (IsAmongKeys keys) (inserted_in events)
inserts_all setup [] keys w follow among = All-nil (IsAmongKeys keys)
inserts_all setup (event ∷ events) keys w follow among =
    All-append (IsAmongKeys keys) (option_map_or (λ begin. inserted_by begin.1) event.begin []) (inserted_in events)
    (subst (All (IsAmongKeys keys)) (inserts_own event)
    (all_left (IsAmongKeys keys) (inserts (given_by event.seat event)) (inserts (given_to event.seat events))
    (both event.seat follow.0.seat)))
    (inserts_all setup events keys (happens setup w event) follow.1
    (λ q h. all_right (IsAmongKeys keys) (inserts (given_by q event)) (inserts (given_to q events)) (both q h)))
  where
    both : (q : ℕ) → q < seats_of setup →
        All (IsAmongKeys keys) (inserts (given_by q event) ++ inserts (given_to q events))
    both q h = subst (All (IsAmongKeys keys)) (inserts_both q event events) (among q h)

pub inserts_are_of_calls : InsertsAreOfCalls
inserts_are_of_calls setup events keys run among =
    inserts_all setup events keys (opening_world setup) run.follow among
