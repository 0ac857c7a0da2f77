-- A step of a call on its way: from what the table tells to what the code is promised.
use Rattle.std.proofs.Common.{◌≡◌, ℕ, suc, ◌+◌, ◌^◌, ◌<◌, Bool, true, false, cond, eqb, List, [], ◌∷◌, inl, inr, refl, sym, ap, ◌∙◌, subst, arith}
use Rattle.std.proofs.lemmas.Bool.{cases_lt}
use Rattle.std.proofs.lemmas.List.{append-nil}
use prog.Atomic.{either}
use Rattle.atomic_table.specs.Seated.{TableId}
use Rattle.atomic_table.specs.Table.{Allows}
use Rattle.step_counts.specs.declared.rows.SeatRows.{SeatRows}
use Rattle.plain_map.specs.declared.calls.Call.{Call}
use Rattle.plain_map.specs.declared.records.Record.{Record}
use Rattle.word_rows.specs.declared.addresses.Address.{Address}
use Rattle.word_rows.specs.Places.{IsAddress, place, word_count}
use Rattle.word_rows.specs.PlaceLaws.{PlacesAreWithin}
use Rattle.table_model.specs.declared.events.Ask.{Ask}
use Rattle.table_model.specs.declared.events.Ask.TheVariants as A
use Rattle.table_model.specs.declared.events.Action.{Action}
use Rattle.table_model.specs.declared.events.Action.TheVariants as Act
use Rattle.table_model.specs.Setup.{Setup}
use Rattle.table_model.specs.Phases.{Stuck}
use Rattle.table_model.specs.SeatStates.{Account, Stand}
use Rattle.table_model.specs.Shown.{Holding}
use Rattle.table_model.specs.Worlds.{found_by, world_after}
use Rattle.table_model.specs.Steps.{flight_in, phase_in, MayStep, address_of, ask_of, becomes, told, IsOnWord}
use Rattle.table_model.specs.Fits.{Counts, StepFits}
use Rattle.bound_laws.proofs.FitsWhole.{every_step_fits}
use Rattle.seat_calls.specs.Going.{Going, Fits, IsGoing, IsMade, IsOpen, action, asks, goes, on}
use Rattle.shared_table.specs.declared.rule.Plan.{Plan}
use Rattle.blank_laws.proofs.Exchanges.{exchanges_are_elsewhere}
use Rattle.shared_table.specs.declared.zeros.Zeros.{Zeros}
use Rattle.shared_table.specs.Rule.{Holds, M, alone, plain, IsReached, asked_by, after_step, with_late, Steps, Moved}
use Rattle.shared_table.specs.Zeros.{AreLate, AreWithout, AsksFor, HasZeros, IsFor, IsLate, IsZero}
use Rattle.shared_table.specs.SeatValues.{SeatValue}
use Rattle.shared_table.specs.Calls.{Began, Ended, HasAnswered, IsRunning, Rests, RunningValue, Token, Under, going_of, holding_of, now_of, running_value}
use Rattle.shared_table.proofs.Learning.{learned_none}
use Rattle.shared_table.proofs.Moves.{tells_nothing, loads_at, stores_at, exchanges_at}
use Rattle.shared_table.proofs.Moves as moves
use Rattle.shared_table.proofs.Actions.{AskExchanges, AskLoads, AskStores, Exchanges, IsAct, Loads, Stores, exchange_goes, exchanges_to, load_goes, loads_from, still, still_open, store_open, stores_to}
use Rattle.shared_table.proofs.AccessLemmas.{Leaves, ended, fits, goes_now, keeps_zeros, last, one, one_more, reached, reached_then, under}

-- the first seat of a list, or this one
abbrev first_seat_or : SeatValue → List SeatValue → SeatValue
first_seat_or d [] = d
first_seat_or d (x ∷ xs) = x

-- of lists of one, the ones are equal
only_one : (x y : SeatValue) → x ∷ [] ≡ y ∷ [] → x ≡ y
only_one x y e = ap (λ (xs : List SeatValue). first_seat_or x xs) e

-- ---- a call on its way, by its token

-- before an access
module _ (asked : ℕ × Call) (was : List SeatValue) (key : Plan) (table_id : TableId) (token : Token) (late : ℕ)
    (zeros : Zeros) (done : Bool) (inv : IsRunning asked was key table_id token late zeros done) (not : done ≡ false)
  where
    -- the holding of the token
    abbrev pub h : Holding
    h = holding_of key token.me

    -- the seat behind its late steps
    abbrev pub now_at : Holding
    now_at = with_late asked late h

    -- what contracts see of the call
    abbrev pub v : RunningValue
    v = running_value key token late zeros done

    -- the call had begun with its first seat
    pub began : Began asked was table_id late h
    began = inv.began not

    -- so it stands where its late steps have led it
    pub now_is : now_of asked v ≡ going_of asked now_at
    now_is = ap (λ (d : Bool). cond d (on (going_of asked now_at) Stuck) (going_of asked now_at)) not

    -- its next step fits, as every step of a run does
    law_here : StepFits h.setup h.seat now_at.state.account.used
        (flight_in now_at.state.account now_at.state.stand asked) (phase_in now_at.state.stand)
        (found_by h.setup (ask_of h.setup h.seat asked now_at.state) (world_after h.setup now_at.known).words)
    law_here = every_step_fits h.setup now_at.known h.seat asked now_at.state began.under.reached.run
        began.under.reached.seat began.under.reached.state began.under.may

    -- what it asks for is a word of the table
    pub on_word : IsOnWord (now_of asked v).setup.shape (asks (now_of asked v))
    on_word = subst (λ (g : Going). IsOnWord g.setup.shape (asks g)) (sym now_is) law_here.on_word

    -- its counts can go on
    pub counts : Counts (now_of asked v).setup (now_of asked v).account.used (now_of asked v).flight
    counts = subst (λ (g : Going). Counts g.setup g.account.used g.flight) (sym now_is) law_here.counts

    -- its token asks for what the call asks for
    asks_it : (a : Ask) → asks (going_of asked now_at) ≡ a → AsksFor asked late zeros a h token.me
    asks_it a is = record {
      one = inv.one;
      here = inv.here;
      there = began.under.reached;
      has_zeros = inv.has_zeros;
      are_late = inv.are_late;
      may = began.under.may;
      asks = is;
    }

    -- and that is of a table of its shape
    pub for_it : (a : Ask) → asks (going_of asked now_at) ≡ a → IsFor h.setup.shape asked late zeros a token.me
    for_it a is = record { holding = h; asks = asks_it a is; shape_is = refl }

-- after it
module _ (asked : ℕ × Call) (was : List SeatValue) (key : Plan) (table_id : TableId) (token then_token : Token)
    (late : ℕ) (zeros left : Zeros) (done : Bool)
    (inv : IsRunning asked was key table_id token late zeros done) (not : done ≡ false)
    (n : ℕ) (moved : Moved asked late token.me n then_token.me)
    (heard : told (asked_by (with_late asked late (holding_of key token.me)) asked) n ≡ n) where
  -- how it had begun
  abbrev b : Began asked was table_id late (holding_of key token.me)
  b = began asked was key table_id token late zeros done inv not

  -- the holding before the access
  abbrev held_before : Holding
  held_before = holding_of key token.me

  -- the access, as the table tells it
  abbrev step : Steps asked late held_before n then_token.me
  step = moved held_before inv.one

  -- the holding after it
  abbrev held_after : Holding
  held_after = last asked late held_before b.under.may n then_token.me step heard

  -- the holding of the new token is that one
  holds : holding_of key then_token.me ≡ held_after
  holds = ap (λ (m : M). holding_of key m) (one asked late held_before b.under.may n then_token.me step heard)

  -- the word that was found fits the step
  pub fits_now : Fits (now_of asked (running_value key token late zeros done)) n
  fits_now = subst (λ (g : Going). Fits g n) (sym (now_is asked was key table_id token late zeros done inv not))
      (fits asked late held_before b.under.may n then_token.me step heard)

  module _ (leaves : (word : ℕ) → IsZero left word → IsZero zeros word
      × Leaves (asked_by (with_late asked late held_before) asked)
      (place held_before.setup.shape (address_of (asked_by (with_late asked late held_before) asked))) word) where
    -- what is left of the words that are 0
    zeros_then : HasZeros (holding_of key then_token.me) left
    zeros_then = subst (λ (x : Holding). HasZeros x left) (sym holds)
        (keeps_zeros asked late held_before b.under.may n then_token.me step heard zeros left inv.has_zeros leaves)

    module _ (going : IsGoing (going_of asked (with_late asked late held_before)).phase)
        (opened : IsOpen (going_of asked (with_late asked late held_before)).phase) where
      -- the call stands where the definition goes with that word
      pub goes_running : now_of asked (running_value key then_token 0 left done) ≡ goes
          (now_of asked (running_value key token late zeros done)) n
      goes_running =
          ap (λ (d : Bool). now_of asked (running_value key then_token 0 left d)) not
          ∙ ap (going_of asked) holds
          ∙ goes_now asked late held_before b.first.holding b.own b.under b.since b.all n then_token.me step heard
          going opened
          ∙ ap (λ (g : Going). goes g n) (sym (now_is asked was key table_id token late zeros done inv not))

      -- what was true of it since it began is true of it then
      under_then : Under asked b.first.holding held_after
      under_then =
          under asked late held_before b.first.holding b.own b.under b.since b.all n then_token.me step heard going
          opened

      -- it is still on its way, with no step to take late
      pub still_running : then_token.table_id ≡ token.table_id → IsRunning asked was key table_id then_token 0 left done
      still_running same = record {
        table = same ∙ inv.table;
        size = inv.size;
        one = one asked late held_before b.under.may n then_token.me step heard ∙ ap alone (sym holds);
        setup = ap (λ (k : Holding). k.setup) holds ∙ inv.setup;
        here = subst IsReached (sym holds) (reached asked late held_before b.under.may n then_token.me step heard);
        has_zeros = zeros_then;
        are_late = λ k lt. absurd (omega (arith, lt));
        began = λ still. subst (Began asked was table_id 0) (sym holds) (record {
          first = b.first;
          is = b.is;
          table = b.table;
          under = under_then;
          own = (flight_in held_after.state.account held_after.state.stand asked).steps;
          since = under_then.learned;
          all = omega arith;
        });
      }

    -- the last step
    pub has_ended : then_token.table_id ≡ token.table_id → IsRunning asked was key table_id then_token 0 left true
    has_ended same = record {
      table = same ∙ inv.table;
      size = inv.size;
      one = one asked late held_before b.under.may n then_token.me step heard ∙ ap alone (sym holds);
      setup = ap (λ (k : Holding). k.setup) holds ∙ inv.setup;
      here = subst IsReached (sym holds) (reached asked late held_before b.under.may n then_token.me step heard);
      has_zeros = zeros_then;
      are_late = λ k lt. absurd (omega (arith, lt));
      began = λ still. absurd (subst (λ (d : Bool). cond d (Unit {0}) ⊥) still tt);
    }

  -- the call has answered at the seat that it began with
  pub answers : then_token.table_id ≡ token.table_id → (made : Record) →
      IsMade (going_of asked (with_late asked late held_before)) made →
      HasAnswered asked was (running_value key then_token 0 left true) made
      (going_of asked (with_late asked late held_before)).account.used
  answers same made is_made f is =
      let of_first : (x : SeatValue) → was ≡ x ∷ [] → b.first ≡ x = λ x e. only_one b.first x (sym b.is ∙ e) in
      let table : then_token.table_id ≡ b.first.table_id = same ∙ inv.table ∙ b.table in
      let used = (going_of asked (with_late asked late held_before)).account.used in
      subst (λ (x : SeatValue). (then_token.table_id ≡ x.table_id)
      × Ended asked x.holding (holding_of key then_token.me) made used) (of_first f is) (
        table,
        subst (λ (x : Holding). Ended asked b.first.holding x made used) (sym holds)
            (ended asked late held_before b.first.holding b.own b.under b.since b.all n then_token.me step heard made
            is_made),
      )

-- what is asked, where the call stands
module _ (asked : ℕ × Call) (was : List SeatValue) (key : Plan) (table_id : TableId) (token : Token) (late : ℕ)
    (zeros : Zeros) (done : Bool) (inv : IsRunning asked was key table_id token late zeros done) (value : RunningValue)
    (view_is : running_value key token late zeros done ≡ value) where
  -- the holding of the token
  abbrev hold : Holding
  hold = holding_of key token.me

  -- the seat behind its late steps
  abbrev ahead : Holding
  ahead = with_late asked late hold

  -- where it stands
  abbrev now : Going
  now = going_of asked ahead

  -- a call that is seen to ask for an action has not ended
  is_still : (x : Action) → IsAct x → action (now_of asked value) ≡ x → done ≡ false
  is_still x act e = still done now x act (ap (λ (w : RunningValue). action (now_of asked w)) view_is ∙ e)

  -- and asks for that action by its holding too
  asks_now : (x : Action) → IsAct x → action (now_of asked value) ≡ x → action now ≡ x
  asks_now x act e = sym (ap action (now_is asked was key table_id token late zeros done inv (is_still x act e)))
      ∙ ap (λ (w : RunningValue). action (now_of asked w)) view_is ∙ e

  -- where the call is seen to stand is where its holding says
  value_now : (x : Action) → IsAct x → action (now_of asked value) ≡ x → now_of asked value ≡ now
  value_now x act e = sym (ap (now_of asked) view_is)
      ∙ now_is asked was key table_id token late zeros done inv (is_still x act e)

  -- the word of an address of the table is inside of its words
  within : PlacesAreWithin → (to : Address) (at : ℕ) → IsAddress hold.setup.shape to →
      at ≡ place hold.setup.shape to → at < table_id.words
  within law to at on is =
      let inside = law hold.setup.shape to on in
      let same : word_count hold.setup.shape ≡ word_count (plain key).shape =
      ap (λ (s : Setup). word_count s.shape) inv.setup in
      omega (arith, inside, is, same, inv.size)

  -- what an open call is seen to ask for is a word of the table
  pub stands_on_word : IsOpen (now_of asked value).phase →
      IsOnWord (now_of asked value).setup.shape (asks (now_of asked value))
  stands_on_word e =
      let not = still_open done now (subst (λ (w : RunningValue). IsOpen (now_of asked w).phase) (sym view_is) e) in
      subst (λ (w : RunningValue). IsOnWord (now_of asked w).setup.shape (asks (now_of asked w))) view_is
      (on_word asked was key table_id token late zeros done inv not)

  -- and its counts can go on
  pub stands_counts : IsOpen (now_of asked value).phase →
      Counts (now_of asked value).setup (now_of asked value).account.used (now_of asked value).flight
  stands_counts e =
      let not = still_open done now (subst (λ (w : RunningValue). IsOpen (now_of asked w).phase) (sym view_is) e) in
      subst (λ (w : RunningValue). Counts (now_of asked w).setup (now_of asked w).account.used
      (now_of asked w).flight) view_is (counts asked was key table_id token late zeros done inv not)

  -- what the table allows for an access to this place
  abbrev Allowed : (slots id at : ℕ) → (ℕ → ℕ) → (ℕ → M → Type 0) → Type 0
  Allowed slots id at f then = Allows (Holds (plain key)) slots id token.me at f then

  module _ (at : ℕ) (e : action (now_of asked value) ≡ Act.Load at) where
    -- it has not ended
    abbrev load_not : done ≡ false
    load_not = is_still (Act.Load at) tt e

    -- which address is loaded
    abbrev l : Loads hold.setup.shape (asks now) at
    l = loads_from hold.setup.shape (asks now) at (asks_now (Act.Load at) tt e)

    -- the token asks for that load
    load_for : IsFor hold.setup.shape asked late zeros (A.Load l.from) token.me
    load_for = for_it asked was key table_id token late zeros done inv load_not (A.Load l.from) l.ask

    -- the word is one of the table's
    pub load_inside : PlacesAreWithin → at < table_id.words
    load_inside law = within law l.from at
        (moves.on_word asked late zeros hold.setup.shape every_step_fits (A.Load l.from) token.me load_for) l.is

    -- the load can be taken
    pub load_allowed : (slots id : ℕ) → Allowed slots id at (λ n. n) (λ n w. Moved asked late token.me n w)
    load_allowed slots id =
        loads_at asked late zeros hold.setup.shape (plain key) slots id l.from token.me at load_for l.is

    module _ (then_token : Token) (n : ℕ) (moved : Moved asked late token.me n then_token.me) where
      -- a load hears the word itself
      load_heard : told (asked_by ahead asked) n ≡ n
      load_heard = ap (λ (a : Ask). told a n) l.ask

      -- and does not end the call
      load_on : IsGoing now.phase × IsOpen now.phase
      load_on = load_goes now.setup now.seat now.account.used now.flight now.phase (subst AskLoads (sym l.ask) tt)

      -- it leaves each word
      load_leaves : (word : ℕ) → IsZero zeros word → IsZero zeros word
          × Leaves (asked_by ahead asked) (place hold.setup.shape (address_of (asked_by ahead asked))) word
      load_leaves word z = (z, inr (λ k. ap (λ (a : Ask). becomes a k) l.ask))

      -- after it the call is on its way
      pub load_runs : then_token.table_id ≡ token.table_id → IsRunning asked was key table_id then_token 0 zeros done
      load_runs same = still_running asked was key table_id token then_token late zeros zeros done inv
          load_not n moved load_heard load_leaves load_on.0 load_on.1 same

      -- and stands where the definition goes with the word
      pub load_goes_on : now_of asked (running_value key then_token 0 zeros done) ≡ goes (now_of asked value) n
      load_goes_on =
          goes_running asked was key table_id token then_token late zeros zeros done inv
          load_not n moved load_heard load_leaves load_on.0 load_on.1
          ∙ ap (λ (w : RunningValue). goes (now_of asked w) n) view_is

      -- the word fits
      pub load_fits : Fits (now_of asked value) n
      load_fits = subst (λ (w : RunningValue). Fits (now_of asked w) n) view_is
          (fits_now asked was key table_id token then_token late zeros zeros done inv load_not n moved load_heard)

  module _ (at old new : ℕ) (e : action (now_of asked value) ≡ Act.Exchange at old new) where
    -- it has not ended
    abbrev exchange_not : done ≡ false
    exchange_not = is_still (Act.Exchange at old new) tt e

    -- which address is exchanged
    abbrev x : Exchanges hold.setup.shape (asks now) at old new
    x = exchanges_to hold.setup.shape (asks now) at old new (asks_now (Act.Exchange at old new) tt e)

    -- the token asks for that exchange
    exchange_for : IsFor hold.setup.shape asked late zeros (A.Exchange x.to old new) token.me
    exchange_for =
        for_it asked was key table_id token late zeros done inv exchange_not (A.Exchange x.to old new) x.ask

    -- its address is one of the table's
    exchange_on_word : IsAddress hold.setup.shape x.to
    exchange_on_word = moves.on_word asked late zeros hold.setup.shape every_step_fits (A.Exchange x.to old new)
        token.me exchange_for

    -- the word is one of the table's
    pub exchange_inside : PlacesAreWithin → at < table_id.words
    exchange_inside law = within law x.to at exchange_on_word x.is

    -- the exchange can be taken
    pub exchange_allowed : (slots id : ℕ) →
        Allowed slots id at (λ n. either (eqb n old) new n) (λ n w. Moved asked late token.me n w)
    exchange_allowed slots id =
        exchanges_at asked late zeros hold.setup.shape (plain key) slots id x.to old new token.me at exchange_for x.is

    module _ (then_token : Token) (n : ℕ) (moved : Moved asked late token.me n then_token.me) where
      -- an exchange hears the word itself
      exchange_heard : told (asked_by ahead asked) n ≡ n
      exchange_heard = ap (λ (a : Ask). told a n) x.ask

      -- and does not end the call
      exchange_on : IsGoing now.phase × IsOpen now.phase
      exchange_on = exchange_goes now.setup now.seat now.account.used now.flight now.phase
          (subst AskExchanges (sym x.ask) tt)

      -- it is on no word of a bucket row
      exchange_leaves : (word : ℕ) → IsZero zeros word → IsZero zeros word
          × Leaves (asked_by ahead asked) (place hold.setup.shape (address_of (asked_by ahead asked))) word
      exchange_leaves word z =
          let own = inv.has_zeros.own word z in
          let low = exchanges_are_elsewhere hold.setup hold.seat old new now.account.used now.flight now.phase x.to
          x.ask exchange_on_word in
          let here : place hold.setup.shape (address_of (asked_by ahead asked)) ≡ place hold.setup.shape x.to =
          ap (λ (a : Ask). place hold.setup.shape (address_of a)) x.ask in
          (z, inl (λ same. absurd (omega (arith, own.from, low, here, same))))

      -- after it the call is on its way
      pub exchange_runs : then_token.table_id ≡ token.table_id →
          IsRunning asked was key table_id then_token 0 zeros done
      exchange_runs same = still_running asked was key table_id token then_token late zeros zeros done inv
          exchange_not n moved exchange_heard exchange_leaves exchange_on.0 exchange_on.1 same

      -- and stands where the definition goes with the word
      pub exchange_goes_on : now_of asked (running_value key then_token 0 zeros done) ≡ goes (now_of asked value) n
      exchange_goes_on =
          goes_running asked was key table_id token then_token late zeros zeros done inv
          exchange_not n moved exchange_heard exchange_leaves exchange_on.0 exchange_on.1
          ∙ ap (λ (w : RunningValue). goes (now_of asked w) n) view_is

      -- the word fits
      pub exchange_fits : Fits (now_of asked value) n
      exchange_fits = subst (λ (w : RunningValue). Fits (now_of asked w) n) view_is
          (fits_now asked was key table_id token then_token late zeros zeros done inv exchange_not n moved
          exchange_heard)

  module _ (at word : ℕ) (e : action (now_of asked value) ≡ Act.Store at word) where
    -- it has not ended
    abbrev store_not : done ≡ false
    store_not = is_still (Act.Store at word) tt e

    -- which address is stored to
    abbrev st : Stores hold.setup.shape (asks now) at word
    st = stores_to hold.setup.shape (asks now) at word (asks_now (Act.Store at word) tt e)

    -- the token asks for that store
    store_for : IsFor hold.setup.shape asked late zeros (A.Store st.to word) token.me
    store_for = for_it asked was key table_id token late zeros done inv store_not (A.Store st.to word) st.ask

    -- the word is one of the table's
    pub store_inside : PlacesAreWithin → at < table_id.words
    store_inside law = within law st.to at
        (moves.on_word asked late zeros hold.setup.shape every_step_fits (A.Store st.to word) token.me store_for) st.is

    -- the store can be taken
    pub store_allowed : (slots id : ℕ) → Allowed slots id at (λ _. word) (λ _ w. Moved asked late token.me word w)
    store_allowed slots id =
        stores_at asked late zeros hold.setup.shape (plain key) slots id st.to word token.me at store_for st.is

    -- the phase is open
    store_on : IsOpen now.phase
    store_on = store_open now.setup now.seat now.account.used now.flight now.phase (subst AskStores (sym st.ask) tt)

    -- a store hears 0
    store_heard : told (asked_by ahead asked) 0 ≡ 0
    store_heard = ap (λ (a : Ask). told a 0) st.ask

    -- so a phase that is seen to go on does so by the holding too
    goes_so : IsGoing (now_of asked value).phase → IsGoing now.phase
    goes_so going = subst (λ (g : Going). IsGoing g.phase) (value_now (Act.Store at word) tt e) going

    module _ (left : Zeros) (fewer : AreWithout at zeros left) (then_token : Token)
        (moved : Moved asked late token.me word then_token.me) where
      -- a store tells nothing
      store_moved : Moved asked late token.me 0 then_token.me
      store_moved = tells_nothing asked late zeros hold.setup.shape st.to word token.me then_token.me store_for moved

      -- it is on none of the words that are left
      store_leaves : (other : ℕ) → IsZero left other → IsZero zeros other
          × Leaves (asked_by ahead asked) (place hold.setup.shape (address_of (asked_by ahead asked))) other
      store_leaves other z =
          let f = fewer.fewer other z in
          let here : place hold.setup.shape (address_of (asked_by ahead asked)) ≡ at =
          ap (λ (a : Ask). place hold.setup.shape (address_of a)) st.ask ∙ sym st.is in
          (f.0, inl (λ same. f.1 (same ∙ here)))

      -- 0 fits
      pub store_fits : Fits (now_of asked value) 0
      store_fits = subst (λ (w : RunningValue). Fits (now_of asked w) 0) view_is
          (fits_now asked was key table_id token then_token late zeros left done inv store_not 0 store_moved
          store_heard)

      -- after a store that does not end the call it is on its way
      pub store_runs : IsGoing (now_of asked value).phase → then_token.table_id ≡ token.table_id →
          IsRunning asked was key table_id then_token 0 left done
      store_runs going same = still_running asked was key table_id token then_token late zeros left done inv
          store_not 0 store_moved store_heard store_leaves (goes_so going) store_on same

      -- and stands where the definition goes
      pub store_goes_on : IsGoing (now_of asked value).phase →
          now_of asked (running_value key then_token 0 left done) ≡ goes (now_of asked value) 0
      store_goes_on going =
          goes_running asked was key table_id token then_token late zeros left done inv
          store_not 0 store_moved store_heard store_leaves (goes_so going) store_on
          ∙ ap (λ (w : RunningValue). goes (now_of asked w) 0) view_is

      -- after the last store the call has ended
      pub finish_ends : then_token.table_id ≡ token.table_id → IsRunning asked was key table_id then_token 0 left true
      finish_ends same = has_ended asked was key table_id token then_token late zeros left done inv
          store_not 0 store_moved store_heard store_leaves same

      -- and has answered with the record that it made
      pub finish_answers : then_token.table_id ≡ token.table_id → (made : Record) →
          IsMade (now_of asked value) made →
          HasAnswered asked was (running_value key then_token 0 left true) made (now_of asked value).account.used
      finish_answers same made is_made =
          let here = value_now (Act.Store at word) tt e in
          subst (λ (used : SeatRows). HasAnswered asked was (running_value key then_token 0 left true) made used)
          (sym (ap (λ (g : Going). g.account.used) here))
          (answers asked was key table_id token then_token late zeros left done inv
          store_not 0 store_moved store_heard same made
          (subst (λ (g : Going). IsMade g made) here is_made))

    -- ---- a store of 0 where 0 stands is taken late
    module _ (none : word ≡ 0) (z : IsZero zeros at) where
      -- how the call had begun
      abbrev bl : Began asked was table_id late hold
      bl = began asked was key table_id token late zeros done inv store_not

      -- it is such a step
      late_is : IsLate asked zeros ahead
      late_is = record {
        may = bl.under.may;
        to = st.to;
        asks = st.ask ∙ ap (A.Store st.to) none;
        at_zero = subst (IsZero zeros) st.is z;
      }

      -- there is one more of them
      late_more : AreLate asked zeros (suc late) hold
      late_more k lt = elim (cases_lt k late) [
        | inl before ↦ inv.are_late k before
        | inr not_before ↦
            let same : late ≡ k = omega (arith, lt, not_before) in
            subst (λ (j : ℕ). IsLate asked zeros (with_late asked j hold)) same late_is
      ]

      -- the step, where no other seat has taken one
      abbrev late_step : Steps asked 0 ahead 0 (alone (after_step ahead asked 0 ahead.known))
      late_step = record {
        before = ahead.known;
        learned = learned_none hold.seat ahead.known;
        stays = λ other own. refl;
        was = bl.under.reached;
        found = store_heard
            ∙ sym (ap (λ (a : Ask). found_by hold.setup a (world_after hold.setup ahead.known).words) st.ask);
        is = ap (λ (k : ℕ). alone (after_step ahead asked k ahead.known)) (sym store_heard);
        reached = reached_then hold.setup hold.seat asked ahead.state ahead.known bl.under.reached bl.under.may
            (told (asked_by ahead asked) 0) (store_heard
            ∙ sym (ap (λ (a : Ask). found_by hold.setup a (world_after hold.setup ahead.known).words) st.ask));
      }

      -- 0 fits
      pub late_fits : Fits (now_of asked value) 0
      late_fits = subst (λ (g : Going). Fits g 0) (sym (value_now (Act.Store at word) tt e))
          (fits asked 0 ahead bl.under.may 0 (alone (after_step ahead asked 0 ahead.known)) late_step store_heard)

      -- the steps of a call are few
      pub late_few : late < 2 ^ 62
      late_few =
          let few = counts asked was key table_id token late zeros done inv store_not in
          let small : now.flight.steps < 2 ^ 62 =
          subst (λ (g : Going). g.flight.steps < 2 ^ 62)
          (now_is asked was key table_id token late zeros done inv store_not) few.small in
          omega (arith, small, bl.all)

      module _ (going : IsGoing (now_of asked value).phase) where
        -- the call as it stands behind the step
        late_under : Under asked bl.first.holding (with_late asked (suc late) hold)
        late_under = under asked 0 ahead bl.first.holding now.flight.steps bl.under bl.under.learned (omega arith) 0
            (alone (after_step ahead asked 0 ahead.known)) late_step store_heard (goes_so going) store_on

        -- it is on its way
        late_running : IsRunning asked was key table_id token (suc late) zeros done
        late_running = record {
          table = inv.table;
          size = inv.size;
          one = inv.one;
          setup = inv.setup;
          here = inv.here;
          has_zeros = inv.has_zeros;
          are_late = late_more;
          began = λ still. record {
            first = bl.first;
            is = bl.is;
            table = bl.table;
            under = late_under;
            own = bl.own;
            since = bl.since;
            all =
                let more = one_more asked 0 ahead bl.first.holding now.flight.steps bl.under bl.under.learned
                (omega arith) 0 (alone (after_step ahead asked 0 ahead.known)) late_step store_heard (goes_so going)
                store_on in
                omega (arith, more, bl.all);
          };
        }

        -- as the code counts it
        pub late_runs : IsRunning asked was key table_id token (late + 1) zeros done
        late_runs = subst (λ (k : ℕ). IsRunning asked was key table_id token k zeros done) one_up late_running
          where
            one_up : suc late ≡ late + 1
            one_up = omega arith

        -- and stands where the definition goes
        pub late_goes_on : now_of asked (running_value key token (late + 1) zeros done) ≡ goes (now_of asked value) 0
        late_goes_on =
            ap (λ (d : Bool). now_of asked (running_value key token (late + 1) zeros d)) store_not
            ∙ ap (λ (k : ℕ). going_of asked (with_late asked k hold)) (sym one_up)
            ∙ goes_now asked 0 ahead bl.first.holding now.flight.steps bl.under bl.under.learned (omega arith) 0
            (alone (after_step ahead asked 0 ahead.known)) late_step store_heard (goes_so going) store_on
            ∙ ap (λ (g : Going). goes g 0) (sym (value_now (Act.Store at word) tt e))
          where
            one_up : suc late ≡ late + 1
            one_up = omega arith

-- a call begins
pub begins_under : (asked : ℕ × Call) (h : Holding) (me : M) → Rests asked h me → Under asked h h
begins_under asked h me r =
    let account : Account = h.state.account in
    record {
      reached = r.reached;
      setup = refl;
      seat = refl;
      may = subst (MayStep h.setup h.seat asked account) (sym r.idle) r.may;
      records = refl;
      spent = refl;
      packet = ap (λ (stand : Stand). (flight_in account stand asked).packet) r.idle;
      call = ap (λ (stand : Stand). (flight_in account stand asked).call) r.idle;
      number = ap (λ (stand : Stand). (flight_in account stand asked).number) r.idle;
      learned = record {
        later = [];
        is = sym (append-nil h.known);
        counts = sym (ap (λ (stand : Stand). (flight_in account stand asked).steps) r.idle);
      };
    }
