-- Announced ops are calls that events gave.
use Rattle.std.proofs.Common.{◌≡◌, ℕ, ◌+◌, ◌<◌, ◌⊎◌, ◌||◌, Bool, true, false, cond, eqb, List, [], ◌∷◌, ◌++◌, length, get_or, Option, Some, None, inl, inr, refl, sym, ap, ◌∙◌, subst, arith, length-set}
use Rattle.std.specs.Prelude.{fold, flat_map, nat_lt}
use Rattle.std.proofs.lemmas.Bool.{cases_lt, cases_eq, ltb-true}
use Rattle.std.proofs.lemmas.List.{append_assoc}
use Rattle.std.specs.Option.{option_map_or}
use Rattle.step_counts.specs.declared.rows.SeatRows.{SeatRows}
use Rattle.plain_map.specs.declared.calls.Call.{Call}
use Rattle.plain_map.specs.declared.calls.Call.TheVariants.{Insert, Remove, Lookup, Tally, Count, Put}
use Rattle.plain_map.specs.declared.full.Full.{Full}
use Rattle.plain_map.specs.declared.keys.Key.{Key}
use Rattle.plain_map.specs.declared.records.Record.{Record}
use Rattle.word_rows.specs.Memory.{put_at}
use Rattle.word_rows.proofs.MemoryLemmas.{put_at_same}
use Rattle.bucket_states.specs.declared.ops.Op.{Op}
use Rattle.bucket_states.specs.Items.{same_key}
use Rattle.bucket_states.proofs.KeyTests.{Decides-same_key}
use Rattle.table_model.specs.declared.events.Event.{Event}
use Rattle.table_model.specs.Setup.{Setup, seats_of}
use Rattle.table_model.specs.Phases.{Phase, SeeDone, Announce, TryExchange, DirExchange, StoreDone, Stuck}
use Rattle.table_model.specs.SeatStates.{Account, Flight, Stand, Idle, InFlight, SeatState, begun, record_of}
use Rattle.table_model.specs.Asks.{ask_in}
use Rattle.table_model.specs.Goes.{state_after, with_directory}
use Rattle.table_model.specs.Stores.{made_leaves}
use Rattle.table_model.specs.Worlds.{World, happens, act, begin_or_refuse, refusal_of, seat_in, found_by}
use Rattle.table_model.specs.Needs.{inserted_by, inserted_in}
use Rattle.run_invariant.proofs.Invariant.{Common, Local, Shared, Keeps, KeepsStand}
use Rattle.run_laws.proofs.Induction.{common_after, found_in}
use Rattle.bound_laws.proofs.After.{flies}
use Rattle.list_laws.proofs.Lists.{In, in_left, in_right, in_both}
use Rattle.bound_laws.proofs.SeatLayers.{Step, flying}
use Rattle.bound_laws.proofs.WorldSteps.{step_same, act_other}
use Rattle.bound_laws.proofs.KeyCounts.{has}

-- the call of an answer, or the one in flight
abbrev pub Flying : Stand → Call → Type 0
Flying Idle call = ⊥
Flying (InFlight flight phase) call = flight.call ≡ call

pub record Answered (records : List Record) (call : Call) : Type 0 where
  pub answer : Record
  pub there : In answer records
  pub call_is : answer.call ≡ call

-- a call of the seat
abbrev pub CallOf : Account → Stand → Call → Type 0
CallOf account stand call = Answered account.records call ⊎ Flying stand call

-- ---- each announced op is one of its seat's calls

abbrev pub Given : Common → ℕ → SeatState → Type 0
Given c me state = (j : ℕ) → j < state.account.used.op_rows → CallOf state.account state.stand (c.op_at me j).call

-- one more record
answered_more : (records : List Record) (r : Record) (call : Call) → Answered records call →
    Answered (records ++ r ∷ []) call
answered_more records r call a =
    record { answer = a.answer; there = in_left a.answer records (r ∷ []) a.there; call_is = a.call_is }

module _ (setup : Setup) (me : ℕ) (c : Common) (account : Account) (flight : Flight) (local : Local)
    (h : me < seats_of setup) (s : Shared setup c) where
  abbrev then : Phase → Common
  then phase = common_after setup me account.used flight phase c

  abbrev Now : Phase → Type 0
  Now phase = Given (then phase) me
      (state_after setup me account flight phase (found_in (ask_in setup me account.used flight phase) c.memory))

  -- what it has published
  used_is : (phase : Phase) → Keeps setup c me account.used flight local phase → c.used me ≡ account.used
  used_is phase k = (flies setup me c account.used flight local phase k).used_is

  -- its earlier ops are as they were
  op_same : (phase : Phase) → Keeps setup c me account.used flight local phase → Step setup me c (then phase) →
      (j : ℕ) → j < account.used.op_rows → (then phase).op_at me j ≡ c.op_at me j
  op_same phase k z j lt =
      (z.moves.calls me j (omega (arith, lt, ap (λ (u : SeatRows). u.op_rows) (used_is phase k)))).0

  -- each op is one of its calls after its own step
  pub own : (phase : Phase) → Keeps setup c me account.used flight local phase → Step setup me c (then phase) →
      Given c me (flying account flight phase) → Now phase
  own Announce k z q j lt = elim (cases_lt j account.used.op_rows) [
    | inl old ↦ subst (λ (o : Op). CallOf account (InFlight flight Announce) o.call) (sym (op_same Announce k z j old))
        (q j old)
    | inr new ↦
        let at : j ≡ (c.used me).op_rows =
        omega (arith, lt, new, ap (λ (u : SeatRows). u.op_rows) (used_is Announce k)) in
        let op : Op = record { seat = me; number = flight.number; call = flight.call } in
        inr (sym (ap (λ (o : Op). o.call) (ap (put_at c.op_at me (c.used me).op_rows op me) at
        ∙ put_at_same c.op_at me (c.used me).op_rows op)))
  ]
  own (TryExchange round attempt found) k z q j lt =
      subst (λ (o : Op). CallOf account (InFlight flight (TryExchange round attempt found)) o.call)
      (sym (op_same (TryExchange round attempt found) k z j (less (eqb (c.memory.bucket round.bucket) attempt.row) lt)))
      (q j (less (eqb (c.memory.bucket round.bucket) attempt.row) lt))
    where
      less : (e : Bool) →
          j < (cond e (record account.used { bucket_rows = account.used.bucket_rows + 1 }) account.used).op_rows →
          j < account.used.op_rows
      less true lt = lt
      less false lt = lt
  own (DirExchange round attempt found loaded) k z q j lt =
      subst (λ (o : Op). CallOf account (InFlight flight (DirExchange round attempt found loaded)) o.call)
      (sym (op_same (DirExchange round attempt found loaded) k z j (less (eqb c.memory.root attempt.root) lt)))
      (q j (less (eqb c.memory.root attempt.root) lt))
    where
      less : (e : Bool) → j < (cond e (with_directory account.used (length (made_leaves setup attempt found loaded)))
          account.used).op_rows → j < account.used.op_rows
      less true lt = lt
      less false lt = lt
  own (StoreDone reply place) k z q j lt =
      let r = record_of me flight reply place in
      subst (λ (o : Op). CallOf (record {
        records = account.records ++ r ∷ [];
        spent =
            account.spent ++ account.used ∷ [];
        used = account.used;
      }) Idle o.call)
      (sym (op_same (StoreDone reply place) k z j lt)) (elim (q j lt) [
        | inl old ↦ inl (answered_more account.records r (c.op_at me j).call old)
        | inr now ↦ inl (record { answer = r; there = in_right r account.records (r ∷ []) (inl refl); call_is = now })
      ])
  own Stuck k z q j lt = absurd k
  own phase k z q j lt =
      subst (λ (o : Op). CallOf account (InFlight flight phase) o.call) (sym (op_same phase k z j lt)) (q j lt)

-- another seat's are as they were
pub given_others : (setup : Setup) (me q : ℕ) (c d : Common) (z : Step setup me c d) (local : Local)
    (state : SeatState) → q < seats_of setup → KeepsStand setup c q state.account.used local state.stand →
    Given c q state → Given d q state
given_others setup me q c d z local state h k g j lt =
    subst (λ (o : Op). CallOf state.account state.stand o.call)
    (sym (z.moves.calls q j (omega (arith, lt, ap (λ (u : SeatRows). u.op_rows) (is state.stand k)))).0) (g j lt)
  where
    is : (stand : Stand) → KeepsStand setup c q state.account.used local stand → c.used q ≡ state.account.used
    is Idle k = k.used_is
    is (InFlight flight phase) k = (flies setup q c state.account.used flight local phase k).used_is

-- ---- each of its calls was given by an event

-- of two lists of one key, the key
first_same : {a b : Key} → a ∷ [] ≡ b ∷ [] → a ≡ b
first_same {a} e = ap (λ (xs : List Key). get_or xs 0 a) e

-- the key that a call can bring is among these
abbrev pub KeyGiven : List Key → Call → Type 0
KeyGiven keys (Insert key value) = has keys key ≡ true
KeyGiven keys (Remove key) = Unit {0}
KeyGiven keys (Lookup key) = Unit {0}
KeyGiven keys (Tally key amount) = Unit {0}
KeyGiven keys (Count key value amount) = has keys key ≡ true
KeyGiven keys (Put key value) = has keys key ≡ true

-- so it is of each call that can bring it
pub given_brought : (keys : List Key) (call : Call) (key : Key) → KeyGiven keys call → inserted_by call ≡ key ∷ [] →
    has keys key ≡ true
given_brought keys (Insert own value) key k e = subst (λ (x : Key). has keys x ≡ true) (first_same e) k
given_brought keys (Remove own) key k e = cc
given_brought keys (Lookup own) key k e = cc
given_brought keys (Tally own amount) key k e = cc
given_brought keys (Count own value amount) key k e = subst (λ (x : Key). has keys x ≡ true) (first_same e) k
given_brought keys (Put own value) key k e = subst (λ (x : Key). has keys x ≡ true) (first_same e) k

-- the keys of all its calls that can bring one are among these
abbrev pub Known : List Key → SeatState → Type 0
Known keys state = (call : Call) → CallOf state.account state.stand call → KeyGiven keys call

-- of two lists of keys, the one or the other has it
pub has_left : (xs ys : List Key) (key : Key) → has xs key ≡ true → has (xs ++ ys) key ≡ true
has_left [] ys key e = cc
has_left (x ∷ xs) ys key e = go (same_key key x) e (has_left xs ys key)
  where
    go : (b : Bool) → (b || has xs key) ≡ true → (has xs key ≡ true → has (xs ++ ys) key ≡ true) →
        (b || has (xs ++ ys) key) ≡ true
    go true e rest = refl
    go false e rest = rest e

pub has_right : (xs ys : List Key) (key : Key) → has ys key ≡ true → has (xs ++ ys) key ≡ true
has_right [] ys key e = e
has_right (x ∷ xs) ys key e = go (same_key key x) (has_right xs ys key e)
  where
    go : (b : Bool) → has (xs ++ ys) key ≡ true → (b || has (xs ++ ys) key) ≡ true
    go true rest = refl
    go false rest = rest

-- so it is of a call
given_left : (xs ys : List Key) (call : Call) → KeyGiven xs call → KeyGiven (xs ++ ys) call
given_left xs ys (Insert key value) k = has_left xs ys key k
given_left xs ys (Remove key) k = tt
given_left xs ys (Lookup key) k = tt
given_left xs ys (Tally key amount) k = tt
given_left xs ys (Count key value amount) k = has_left xs ys key k
given_left xs ys (Put key value) k = has_left xs ys key k

given_right : (xs ys : List Key) (call : Call) → KeyGiven ys call → KeyGiven (xs ++ ys) call
given_right xs ys (Insert key value) k = has_right xs ys key k
given_right xs ys (Remove key) k = tt
given_right xs ys (Lookup key) k = tt
given_right xs ys (Tally key amount) k = tt
given_right xs ys (Count key value amount) k = has_right xs ys key k
given_right xs ys (Put key value) k = has_right xs ys key k

-- the key of a call itself
given_own : (call : Call) → KeyGiven (inserted_by call) call
given_own (Insert key value) = ap (λ b. b || false) ((Decides-same_key key key).1 refl)
given_own (Remove key) = tt
given_own (Lookup key) = tt
given_own (Tally key amount) = tt
given_own (Count key value amount) = ap (λ b. b || false) ((Decides-same_key key key).1 refl)
given_own (Put key value) = ap (λ b. b || false) ((Decides-same_key key key).1 refl)

-- a step brings no call
calls_after : (setup : Setup) (me : ℕ) (account : Account) (flight : Flight) (phase : Phase) (word : ℕ) (call : Call) →
    CallOf (state_after setup me account flight phase word).account
    (state_after setup me account flight phase word).stand call → CallOf account (InFlight flight phase) call
calls_after setup me account flight (StoreDone reply place) word call (inl a) =
    elim (in_both a.answer account.records (record_of me flight reply place ∷ []) a.there) [
      | inl old ↦ inl (record { answer = a.answer; there = old; call_is = a.call_is })
      | inr new ↦ elim new [
        | inl same ↦ inr (ap (λ (r : Record). r.call) (sym same) ∙ a.call_is)
        | inr none ↦ absurd none
      ]
    ]
calls_after setup me account flight (StoreDone reply place) word call (inr a) = absurd a
calls_after setup me account flight Stuck word call a = a
calls_after setup me account flight phase word call a = a

-- so its keys stay known
known_step : (setup : Setup) (me : ℕ) (account : Account) (flight : Flight) (phase : Phase) (word : ℕ)
    (keys : List Key) → Known keys (flying account flight phase) →
    Known keys (state_after setup me account flight phase word)
known_step setup me account flight phase word keys k call a =
    k call (calls_after setup me account flight phase word call a)

-- a call that begins is known with its key
known_begun : (account : Account) (packet : ℕ) (call : Call) (keys : List Key) →
    Known keys (record { account = account; stand = Idle }) →
    Known (keys ++ inserted_by call) (flying account (begun account packet call) SeeDone)
known_begun account packet call keys k other (inl a) = given_left keys (inserted_by call) other (k other (inl a))
known_begun account packet call keys k other (inr e) =
    subst (KeyGiven (keys ++ inserted_by call)) e (given_right keys (inserted_by call) call (given_own call))

-- the keys of an event's call
abbrev pub keys_given : Option (ℕ × Call) → List Key
keys_given None = []
keys_given (Some begin) = inserted_by begin.1

module _ (setup : Setup) (w : World) (me : ℕ) (keys : List Key) where
  -- one event of the seat
  known_act : (account : Account) (stand : Stand) (begin : Option (ℕ × Call)) → (seat_in w me).account ≡ account →
      (seat_in w me).stand ≡ stand → me < length w.seats → Known keys (seat_in w me) →
      Known (keys ++ keys_given begin) (seat_in (act setup w me account stand begin) me)
  known_act account Idle None a s h k = λ call x. given_left keys [] call (k call x)
  known_act account Idle (Some begin) a s h k = go (refusal_of setup me account begin.1)
    where
      here : Known keys (record { account = account; stand = Idle })
      here = subst (λ x. Known keys (record { account = x; stand = Idle })) a
          (subst (λ x. Known keys (record { account = (seat_in w me).account; stand = x })) s k)

      go : (r : Option Full) →
          Known (keys ++ inserted_by begin.1) (seat_in (begin_or_refuse setup w me account begin.0 begin.1 r) me)
      go (Some full) = λ call x. given_left keys (inserted_by begin.1) call (k call x)
      go None = subst (Known (keys ++ inserted_by begin.1))
          (sym (step_same setup w me account (begun account begin.0 begin.1) SeeDone h))
          (known_step setup me account (begun account begin.0 begin.1) SeeDone
          (found_by setup (ask_in setup me account.used (begun account begin.0 begin.1) SeeDone) w.words)
          (keys ++ inserted_by begin.1) (known_begun account begin.0 begin.1 keys here))
  known_act account (InFlight flight phase) begin a s h k =
      let here : Known keys (flying account flight phase) =
      subst (λ x. Known keys (record { account = x; stand = InFlight flight phase })) a
      (subst (λ x. Known keys (record { account = (seat_in w me).account; stand = x })) s k) in
      subst (Known (keys ++ keys_given begin)) (sym (step_same setup w me account flight phase h))
      (λ call x. given_left keys (keys_given begin) call
      (known_step setup me account flight phase (found_by setup (ask_in setup me account.used flight phase) w.words)
      keys here call x))

-- one event, and all
known_happens : (setup : Setup) (w : World) (event : Event) (keys : List Key) → length w.seats ≡ seats_of setup →
    ((q : ℕ) → Known keys (seat_in w q)) → (q : ℕ) →
    Known (keys ++ keys_given event.begin) (seat_in (happens setup w event) q)
known_happens setup w event keys long each q = go (nat_lt event.seat (seats_of setup)) refl
  where
    go : (b : Bool) → nat_lt event.seat (seats_of setup) ≡ b →
        Known (keys ++ keys_given event.begin)
        (seat_in (cond b (act setup w event.seat (seat_in w event.seat).account (seat_in w event.seat).stand
        event.begin) w) q)
    go false e = λ call x. given_left keys (keys_given event.begin) call (each q call x)
    go true e = elim (cases_eq q event.seat) [
      | inr other ↦ subst (Known (keys ++ keys_given event.begin))
          (sym (act_other setup w event.seat q (seat_in w event.seat).account (seat_in w event.seat).stand event.begin
          other)) (λ call x. given_left keys (keys_given event.begin) call (each q call x))
      | inl same ↦ subst
          (λ p. Known (keys ++ keys_given event.begin)
          (seat_in (act setup w event.seat (seat_in w event.seat).account (seat_in w event.seat).stand event.begin) p))
          (sym same)
          (known_act setup w event.seat keys (seat_in w event.seat).account (seat_in w event.seat).stand event.begin
          refl refl (omega (arith, long, ltb-true event.seat (seats_of setup) e)) (each event.seat))
    ]

-- there are as many seats
pub long_happens : (setup : Setup) (w : World) (event : Event) → length (happens setup w event).seats ≡ length w.seats
long_happens setup w event = go (nat_lt event.seat (seats_of setup))
  where
    acted : (stand : Stand) (begin : Option (ℕ × Call)) →
        length (act setup w event.seat (seat_in w event.seat).account stand begin).seats ≡ length w.seats
    acted Idle None = refl
    acted Idle (Some begin) = by (refusal_of setup event.seat (seat_in w event.seat).account begin.1)
      where
        by : (r : Option Full) →
            length (begin_or_refuse setup w event.seat (seat_in w event.seat).account begin.0 begin.1 r).seats ≡ length
            w.seats
        by (Some full) = refl
        by None = length-set w.seats event.seat _
    acted (InFlight flight phase) begin = length-set w.seats event.seat _

    go : (b : Bool) →
        length (cond b (act setup w event.seat (seat_in w event.seat).account (seat_in w event.seat).stand event.begin)
        w).seats ≡ length w.seats
    go true = acted (seat_in w event.seat).stand event.begin
    go false = refl

-- and all events, one after the other
pub known_all : (setup : Setup) (events : List Event) (w : World) (keys : List Key) → length w.seats ≡ seats_of setup →
    ((q : ℕ) → Known keys (seat_in w q)) → (q : ℕ) →
    Known (keys ++ inserted_in events) (seat_in (fold (happens setup) w events) q)
known_all setup [] w keys long each q = λ call x. given_left keys [] call (each q call x)
known_all setup (event ∷ events) w keys long each q =
    let now = known_happens setup w event keys long each in
    let then = known_all setup events (happens setup w event) (keys ++ keys_given event.begin)
    (long_happens setup w event ∙ long) now q in
    subst (λ ks. Known ks (seat_in (fold (happens setup) (happens setup w event) events) q))
    (append_assoc keys (keys_given event.begin) (inserted_in events) ∙ ap (λ ks. keys ++ ks) (first event.begin))
    then
  where
    first : (begin : Option (ℕ × Call)) → keys_given begin ++ inserted_in events ≡ flat_map
        (λ (e : Event). option_map_or (λ b. inserted_by b.1) e.begin []) (record event { begin = begin } ∷ events)
    first None = refl
    first (Some begin) = refl
