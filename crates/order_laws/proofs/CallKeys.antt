-- The key of each call of a run has two words of 64 bits: so has each key that is held after the order.
use Rattle.std.proofs.Common.{◌≡◌, ℕ, zero, suc, ◌+◌, Bool, true, false, cond, List, [], ◌∷◌, get_or, set, Option, Some, None, inl, inr, refl, sym, ap, ◌∙◌, subst, lt-ltb}
use Rattle.std.specs.Prelude.{fold, replicate}
use Rattle.std.specs.List.{enumerate_from}
use Rattle.std.specs.FinMap.{get, insert}
use Rattle.plain_map.specs.declared.keys.Key.{Key}
use Rattle.plain_map.specs.declared.rules.Rules.{Rules}
use Rattle.plain_map.specs.declared.calls.Call.{Call}
use Rattle.plain_map.specs.declared.calls.Call.TheVariants.{Insert, Remove, Lookup, Tally, Count, Put}
use Rattle.plain_map.specs.declared.full.Full.{Full}
use Rattle.plain_map.specs.declared.records.Record.{Record}
use Rattle.plain_map.specs.declared.records.Pending.{Pending}
use Rattle.plain_map.specs.Calls.{key_in}
use Rattle.plain_map.specs.PlainObject.{Sessions, new_session, brought, grown, has_room, inserted, map_after, tallied, revised, counted_session, revalued}
use Rattle.bucket_states.specs.Items.{same_key}
use Rattle.bucket_states.proofs.KeyTests.{Decides-same_key}
use Rattle.bucket_states.proofs.PartLemmas.{get-inserted, get-removed}
use Rattle.table_model.specs.declared.events.Event.{Event}
use Rattle.table_model.specs.Setup.{Setup, seats_of}
use Rattle.table_model.specs.Phases.{Phase, SeeDone, StoreOp, Announce, FindRoot, FindDepth, FindEntry, LookWord, LookCount, LookItems, TryWord, TryRow, TryAnnouncement, TryOp, TryStore, TryExchange, DirRoot, DirDepth, DirEntries, DirAnnouncement, DirOp, DirWord, DirRow, DirStore, DirExchange, LastWord, LastRow, StoreDone, Stuck}
use Rattle.table_model.specs.SeatStates.{Account, Flight, Stand, Idle, InFlight, SeatState, fresh_seat, begun}
use Rattle.table_model.specs.Asks.{ask_in}
use Rattle.table_model.specs.Goes.{state_after}
use Rattle.table_model.specs.Worlds.{World, seat_in, found_by, step_of, act, begin_or_refuse, refusal_of, happens, opening_world, FitsStand, AreEvents}
use Rattle.table_model.specs.Closed.{records_of, begun_of, begun_by}
use Rattle.list_laws.proofs.Lists.{In, in_both, in_flat_map}
use Rattle.plain_map.specs.Keys.{IsKey, Session}

-- ---- the calls of a world

-- the call that is in flight has such a key
abbrev pub StandIsGood : Stand → Type 0
StandIsGood Idle = Unit {0}
StandIsGood (InFlight flight phase) = IsKey (key_in flight.call)

-- so have the answered ones
pub record IsGood (state : SeatState) : Type 0 where
  pub records : (r : Record) → In r state.account.records → IsKey (key_in r.call)
  pub stand : StandIsGood state.stand

-- of all seats
abbrev pub AreGood : List SeatState → Type 0
AreGood seats = (state : SeatState) → In state seats → IsGood state

-- a seat that has made no call
fresh_is_good : IsGood fresh_seat
fresh_is_good = record { records = λ r m. elim m [ ]; stand = tt }

-- the seat at an index
good_at : (seats : List SeatState) (q : ℕ) → AreGood seats → IsGood (get_or seats q fresh_seat)
good_at [] q all = fresh_is_good
good_at (s ∷ seats) zero all = all s (inl refl)
good_at (s ∷ seats) (suc q) all = good_at seats q (λ x m. all x (inr m))

-- with another state of one seat
good_set : (seats : List SeatState) (q : ℕ) (state : SeatState) → AreGood seats → IsGood state →
    AreGood (set seats q state)
good_set [] q state all good = all
good_set (s ∷ seats) zero state all good = λ x m. elim m [ inl e ↦ subst IsGood (sym e) good | inr n ↦ all x (inr n) ]
good_set (s ∷ seats) (suc q) state all good =
    λ x m. elim m [ inl e ↦ all x (inl e) | inr n ↦ good_set seats q state (λ y i. all y (inr i)) good x n ]

-- at the opening
good_first : (n : ℕ) → AreGood (replicate n fresh_seat)
good_first zero x m = elim m [ ]
good_first (suc n) x m = elim m [ inl e ↦ subst IsGood (sym e) fresh_is_good | inr i ↦ good_first n x i ]

module _ (setup : Setup) (me : ℕ) (account : Account) (flight : Flight)
    (good : IsGood (record { account = account; stand = InFlight flight SeeDone })) (word : ℕ) where
  -- after a step of the seat
  good_after : (phase : Phase) → IsGood (state_after setup me account flight phase word)
  good_after SeeDone = record { records = good.records; stand = good.stand }
  good_after (StoreOp stored) = record { records = good.records; stand = good.stand }
  good_after Announce = record { records = good.records; stand = good.stand }
  good_after (FindRoot aim) = record { records = good.records; stand = good.stand }
  good_after (FindDepth aim root) = record { records = good.records; stand = good.stand }
  good_after (FindEntry aim root depth) = record { records = good.records; stand = good.stand }
  good_after (LookWord root bucket) = record { records = good.records; stand = good.stand }
  good_after (LookCount row) = record { records = good.records; stand = good.stand }
  good_after (LookItems row count words) = record { records = good.records; stand = good.stand }
  good_after (TryWord round turn first) = record { records = good.records; stand = good.stand }
  good_after (TryRow round turn first row words) = record { records = good.records; stand = good.stand }
  good_after (TryAnnouncement round attempt found) = record { records = good.records; stand = good.stand }
  good_after (TryOp round attempt found op words) = record { records = good.records; stand = good.stand }
  good_after (TryStore round attempt found stored) = record { records = good.records; stand = good.stand }
  good_after (TryExchange round attempt found) = record { records = good.records; stand = good.stand }
  good_after (DirRoot round turn first) = record { records = good.records; stand = good.stand }
  good_after (DirDepth round turn first root) = record { records = good.records; stand = good.stand }
  good_after (DirEntries round turn first root depth words) = record { records = good.records; stand = good.stand }
  good_after (DirAnnouncement round attempt found) = record { records = good.records; stand = good.stand }
  good_after (DirOp round attempt found op words) = record { records = good.records; stand = good.stand }
  good_after (DirWord round attempt found loaded bucket) = record { records = good.records; stand = good.stand }
  good_after (DirRow round attempt found loaded bucket row words) =
      record { records = good.records; stand = good.stand }
  good_after (DirStore round attempt found loaded stored) = record { records = good.records; stand = good.stand }
  good_after (DirExchange round attempt found loaded) = record { records = good.records; stand = good.stand }
  good_after (LastWord root bucket) = record { records = good.records; stand = good.stand }
  good_after (LastRow row words) = record { records = good.records; stand = good.stand }
  good_after (StoreDone reply place) = record {
    records = λ r m. elim (in_both r account.records _ m) [
      | inl i ↦ good.records r i
      | inr i ↦ elim i [ inl e ↦ subst (λ (z : Record). IsKey (key_in z.call)) (sym e) good.stand | inr n ↦ elim n [ ] ]
    ];
    stand = tt;
  }
  good_after Stuck = record { records = good.records; stand = good.stand }

-- after a step the seats are good
good_step : (setup : Setup) (w : World) (me : ℕ) (account : Account) (flight : Flight) (phase : Phase) →
    AreGood w.seats →
    IsGood (record { account = account; stand = InFlight flight SeeDone }) →
    AreGood (step_of setup w me account flight phase).seats
good_step setup w me account flight phase all good =
    let word = found_by setup (ask_in setup me account.used flight phase) w.words in
    good_set w.seats me (state_after setup me account flight phase word) all
    (good_after setup me account flight good word phase)

-- after an event of a seat
good_act : (setup : Setup) (w : World) (me : ℕ) (stand : Stand) (begin : Option (ℕ × Call)) → AreGood w.seats →
    (seat_in w me).stand ≡ stand → FitsStand setup (seat_in w me).account stand begin →
    AreGood (act setup w me (seat_in w me).account stand begin).seats
good_act setup w me Idle None all is fits = all
good_act setup w me Idle (Some begin) all is fits = go (refusal_of setup me (seat_in w me).account begin.1)
  where
    go : (r : Option Full) → AreGood (begin_or_refuse setup w me (seat_in w me).account begin.0 begin.1 r).seats
    go (Some full) = all
    go None = good_step setup w me (seat_in w me).account (begun (seat_in w me).account begin.0 begin.1) SeeDone all
        (record { records = (good_at w.seats me all).records; stand = fits.1.key })
good_act setup w me (InFlight flight phase) begin all is fits =
    good_step setup w me (seat_in w me).account flight phase all
    (record { records = (good_at w.seats me all).records; stand = subst StandIsGood is (good_at w.seats me all).stand })

-- after these events
pub good_run : (setup : Setup) (events : List Event) (w : World) → AreGood w.seats → AreEvents setup w events →
    AreGood (fold (happens setup) w events).seats
good_run setup [] w all run = all
good_run setup (event ∷ events) w all run = good_run setup events (happens setup w event)
    (subst (λ (b : Bool). AreGood (cond b
    (act setup w event.seat (seat_in w event.seat).account (seat_in w event.seat).stand event.begin) w).seats)
    (sym (lt-ltb event.seat (seats_of setup) run.0.seat))
    (good_act setup w event.seat (seat_in w event.seat).stand event.begin all refl run.0.begin))
    run.1

-- so after each run
pub all_good : (setup : Setup) (events : List Event) → AreEvents setup (opening_world setup) events →
    AreGood (fold (happens setup) (opening_world setup) events).seats
all_good setup events run = good_run setup events (opening_world setup) (good_first (seats_of setup)) run

-- the answered calls
pub records_good : (w : World) → AreGood w.seats → (r : Record) → In r (records_of w) → IsKey (key_in r.call)
records_good w all r m =
    let s = in_flat_map (λ (state : SeatState). state.account.records) w.seats r m in (all s.0 s.1).records r s.2

-- the calls in flight
pub begun_good : (w : World) → AreGood w.seats → (u : Pending) → In u (begun_of w) → IsKey (key_in u.call)
begun_good w all u m =
    let s = in_flat_map (λ (x : ℕ × SeatState). begun_by x.0 x.1.stand) (enumerate_from 0 w.seats) u m in
    by s.0.0 s.0.1.stand (all s.0.1 (numbered 0 w.seats s.0 s.1)).stand s.2
  where
    numbered : (n : ℕ) (seats : List SeatState) (x : ℕ × SeatState) → In x (enumerate_from n seats) → In x.1 seats
    numbered n [] x i = elim i [ ]
    numbered n (s ∷ seats) x (inl e) = inl (ap (λ (z : ℕ × SeatState). z.1) e)
    numbered n (s ∷ seats) x (inr i) = inr (numbered (n + 1) seats x i)

    by : (q : ℕ) (stand : Stand) → StandIsGood stand → In u (begun_by q stand) → IsKey (key_in u.call)
    by q Idle good i = elim i [ ]
    by q (InFlight flight phase) good (inl e) = subst (λ (z : Pending). IsKey (key_in z.call)) (sym e) good
    by q (InFlight flight phase) good (inr i) = elim i [ ]

-- ---- what is held

-- each key that is held is such a key
abbrev pub KeysAreGood : Sessions → Type 0
KeysAreGood sessions = (key : Key) (held : Session) → get sessions key ≡ Some held → IsKey key

-- after such a key has got a session, over whatever was held
keys_set : (sessions : Sessions) (key : Key) (new : Session) → KeysAreGood sessions → IsKey key →
    KeysAreGood (insert sessions key new)
keys_set sessions key new good is = λ q v h. by q v (same_key key q) refl (sym (get-inserted sessions key new q) ∙ h)
  where
    by : (q : Key) (v : Session) (b : Bool) → same_key key q ≡ b → cond b (Some new) (get sessions q) ≡ Some v → IsKey q
    by q v true e h = subst IsKey ((Decides-same_key key q).0 e) is
    by q v false e h = good q v h

-- after a session has come to such a key
pub keys_brought : (rules : Rules) (sessions : Sessions) (key : Key) (new : Session) → KeysAreGood sessions →
    IsKey key → KeysAreGood (brought rules sessions key new)
keys_brought rules sessions key new good is = go (get sessions key) (has_room rules sessions key)
  where
    go : (held : Option Session) (room : Bool) → KeysAreGood (inserted sessions key new held room)
    go (Some held) room = good
    go None true = keys_set sessions key new good is
    go None false = good

-- after such a key's session has changed or come
keys_revised : (rules : Rules) (sessions : Sessions) (key : Key) (new : Session) (change : Session → Session)
    (held : Option Session) (room : Bool) → KeysAreGood sessions → IsKey key →
    KeysAreGood (revised sessions key new change held room)
keys_revised rules sessions key new change (Some held) room good is = keys_set sessions key (change held) good is
keys_revised rules sessions key new change None true good is = keys_set sessions key new good is
keys_revised rules sessions key new change None false good is = good

-- after a call with such a key
pub keys_after : (rules : Rules) (sessions : Sessions) (call : Call) → KeysAreGood sessions → IsKey (key_in call) →
    KeysAreGood (map_after rules sessions call)
unfolding map_after
keys_after rules sessions (Insert key value) good is = keys_brought rules sessions key (new_session value) good is
keys_after rules sessions (Remove key) good is = λ q v h. by q v (same_key key q) (sym (get-removed sessions key q) ∙ h)
  where
    by : (q : Key) (v : Session) (b : Bool) → cond b None (get sessions q) ≡ Some v → IsKey q
    by q v true h = cc
    by q v false h = good q v h
keys_after rules sessions (Lookup key) good is = good
keys_after rules sessions (Tally key amount) good is = go (get sessions key)
  where
    go : (held : Option Session) → KeysAreGood (tallied sessions key amount held)
    go (Some held) = keys_set sessions key (grown held amount) good is
    go None = good
keys_after rules sessions (Count key value amount) good is =
    keys_revised rules sessions key (counted_session value amount) (λ held. grown held amount) (get sessions key)
    (has_room rules sessions key) good is
keys_after rules sessions (Put key value) good is =
    keys_revised rules sessions key (new_session value) (λ held. revalued held value) (get sessions key)
    (has_room rules sessions key) good is
