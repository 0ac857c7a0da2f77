-- A reader on its way: each load leads it on as a lookup goes, and no step of it is a store or an exchange.
use Rattle.std.proofs.Common.{◌≡◌, ℕ, ◌+◌, ◌*◌, ◌^◌, ◌<◌, ◌≤◌, ltb, List, [], ◌∷◌, ◌++◌, drop, length, refl, sym, ap, ◌∙◌, subst, arith, append_assoc}
use Rattle.std.proofs.lemmas.Bool.{cond_both, ltb-false}
use Rattle.std.proofs.lemmas.List.{append-nil, length_push}
use Rattle.std.specs.Prelude.{slice_index}
use Rattle.atomic_table.specs.Seated.{TableId}
use Rattle.atomic_table.specs.Table.{Allows}
use Rattle.step_counts.specs.declared.TheConstants.{ITEM_WORDS}
use Rattle.step_counts.specs.declared.rows.SeatRows.{SeatRows}
use Rattle.plain_map.specs.declared.keys.Key.{Key}
use Rattle.plain_map.specs.declared.calls.Call.{Call}
use Rattle.plain_map.specs.declared.calls.Reply.{Reply}
use Rattle.bucket_states.specs.Items.{reply_in}
use Rattle.word_rows.specs.Shape.{AreBelow}
use Rattle.word_rows.specs.BucketWords.{items_of_words}
use Rattle.word_rows.specs.Places.{IsAddress, place, word_count}
use Rattle.word_rows.specs.PlaceLaws.{PlacesAreWithin}
use Rattle.table_model.specs.declared.events.Event.{Event}
use Rattle.table_model.specs.declared.events.Ask.{Ask}
use Rattle.table_model.specs.declared.events.Action.{Action}
use Rattle.table_model.specs.declared.events.Action.TheVariants as Act
use Rattle.table_model.specs.declared.rounds.Aim.TheVariants.{ForLookup, ForFirstRound, ForSecondRound, ForLastLook}
use Rattle.table_model.specs.Setup.{Setup, rules_of, seats_of, settings_of}
use Rattle.table_model.specs.Asks.{action_of, ask_in}
use Rattle.table_model.specs.Phases.{Phase, FindRoot, FindDepth, FindEntry, LookWord, LookCount, LookItems, StoreDone}
use Rattle.table_model.specs.SeatStates.{Flight}
use Rattle.table_model.specs.Goes.{phase_after, used_after}
use Rattle.table_model.specs.Worlds.{IsRun, found_by, world_after}
use Rattle.table_model.specs.Promises.{words_in}
use Rattle.table_model.specs.Steps.{IsOnWord}
use Rattle.table_model.specs.Fits.{Counts, Finds, Makes, most_steps}
use Rattle.peek_laws.specs.Peeks.{WasHeld}
use Rattle.peek_laws.specs.Glances.{IsLooking, Sees}
use Rattle.peek_laws.proofs.Glances.{finds, on_word, sees_next, sees_on}
use Rattle.seat_calls.specs.Going.{Going, Fits, IsGoing, action, asks, goes, goes_by, later}
use Rattle.shared_table.specs.declared.rule.Plan.{Plan}
use Rattle.shared_table.specs.Fronts.{Front}
use Rattle.shared_table.specs.Seen.{ArePeekLoads, WasSeen}
use Rattle.shared_table.specs.Rule.{Holds, plain}
use Rattle.shared_table.specs.Readings.{Looked, after_load, lone}
use Rattle.shared_table.specs.Calls.{Token}
use Rattle.shared_table.specs.Glancing.{Glances, GlancingValue, HasGlanced, IsGlancing, IsPaced, Start, began_at, front_of, glance_at, glancing_value, start_of}
use Rattle.shared_table.proofs.Loads.{looks_at}
use Rattle.shared_table.proofs.Actions.{Loads, loads_from}
use Rattle.seat_calls.proofs.RunLemmas.{goes_by-more}

-- ---- one load, as the definitions have it

module _ (setup : Setup) (first last : List Event) (key : Key) (seat : ℕ) (used : SeatRows) (flight : Flight)
    (n : ℕ) where
  -- a phase that loads goes on
  used_same : (phase : Phase) → Sees setup first last key phase → used_after setup used phase n ≡ used
  used_same (FindRoot aim) k = refl
  used_same (FindDepth aim root) k = refl
  used_same (FindEntry aim root depth) k = refl
  used_same (LookWord root bucket) k = refl
  used_same (LookCount row) k = refl
  used_same (LookItems row count words) k = refl
  used_same (StoreDone reply place) k = refl
  used_same phase k = absurd k

  -- what it leads to makes nothing
  makes : (phase : Phase) → Sees setup first last key phase → Makes setup (phase_after setup seat used flight phase n)
  makes (FindRoot aim) k = tt
  makes (FindDepth aim root) k = tt
  makes (FindEntry ForLookup root depth) k = tt
  makes (FindEntry ForFirstRound root depth) k = (let e : ForFirstRound ≡ ForLookup = k.0 in cc)
  makes (FindEntry (ForSecondRound other) root depth) k = (let e : ForSecondRound other ≡ ForLookup = k.0 in cc)
  makes (FindEntry ForLastLook root depth) k = (let e : ForLastLook ≡ ForLookup = k.0 in cc)
  makes (LookWord root bucket) k = tt
  makes (LookCount row) k = cond_both (ltb 0 (n * ITEM_WORDS)) (LookItems row n [])
      (StoreDone (reply_in (rules_of setup) (items_of_words n []) flight.call) row) (Makes setup) (λ e. tt) (λ e. tt)
  makes (LookItems row count words) k = cond_both (ltb (length (words ++ n ∷ [])) (count * ITEM_WORDS))
      (LookItems row count (words ++ n ∷ []))
      (StoreDone (reply_in (rules_of setup) (items_of_words count (words ++ n ∷ [])) flight.call) row) (Makes setup)
      (λ e. tt) (λ e. tt)
  makes (StoreDone reply place) k = tt
  makes phase k = absurd k

  -- and has one load more
  paced : (phase : Phase) (loads : ℕ) → IsLooking phase → Sees setup first last key phase → Finds setup phase n →
      IsPaced setup phase loads → IsPaced setup (phase_after setup seat used flight phase n) (loads + 1)
  paced (FindRoot aim) loads l k f p = omega (arith, p)
  paced (FindDepth aim root) loads l k f p = omega (arith, p)
  paced (FindEntry ForLookup root depth) loads l k f p = omega (arith, p)
  paced (FindEntry ForFirstRound root depth) loads l k f p = (let e : ForFirstRound ≡ ForLookup = k.0 in cc)
  paced (FindEntry (ForSecondRound other) root depth) loads l k f p =
      (let e : ForSecondRound other ≡ ForLookup = k.0 in cc)
  paced (FindEntry ForLastLook root depth) loads l k f p = (let e : ForLastLook ≡ ForLookup = k.0 in cc)
  paced (LookWord root bucket) loads l k f p = omega (arith, p)
  paced (LookCount row) loads l k f p = cond_both (ltb 0 (n * ITEM_WORDS)) (LookItems row n [])
      (StoreDone (reply_in (rules_of setup) (items_of_words n []) flight.call) row)
      (λ ph. IsPaced setup ph (loads + 1)) (λ e. omega (arith, p))
      (λ e. record { count = 0; few = omega arith; are = omega (arith, p) })
  paced (LookItems row count words) loads l k f p =
      cond_both (ltb (length (words ++ n ∷ [])) (count * ITEM_WORDS)) (LookItems row count (words ++ n ∷ []))
      (StoreDone (reply_in (rules_of setup) (items_of_words count (words ++ n ∷ [])) flight.call) row)
      (λ ph. IsPaced setup ph (loads + 1)) (λ e. omega (arith, p, length_push words n))
      (λ e.
      let long = ltb-false (length (words ++ n ∷ [])) (count * ITEM_WORDS) e in
      record { count = count; few = k.few; are = omega (arith, p, k.short, long, length_push words n) })
  paced (StoreDone reply place) loads l k f p = absurd l
  paced phase loads l k f p = absurd k

-- so many loads are few
few_loads : (setup : Setup) (first last : List Event) (key : Key) (phase : Phase) (loads : ℕ) →
    Sees setup first last key phase → IsPaced setup phase loads → loads ≤ 5 + (settings_of setup).items * ITEM_WORDS
few_loads setup first last key (FindRoot aim) loads k p = omega (arith, p)
few_loads setup first last key (FindDepth aim root) loads k p = omega (arith, p)
few_loads setup first last key (FindEntry aim root depth) loads k p = omega (arith, p)
few_loads setup first last key (LookWord root bucket) loads k p = omega (arith, p)
few_loads setup first last key (LookCount row) loads k p = omega (arith, p)
few_loads setup first last key (LookItems row count words) loads k p =
    (let most : count * ITEM_WORDS ≤ (settings_of setup).items * ITEM_WORDS = omega (arith, k.few) in
    omega (arith, p, most, k.short))
few_loads setup first last key (StoreDone reply place) loads k p =
    (let most : p.count * ITEM_WORDS ≤ (settings_of setup).items * ITEM_WORDS = omega (arith, p.few) in
    omega (arith, p.are, most))
few_loads setup first last key phase loads k p = absurd k

module _ (setup : Setup) (first last : List Event) (key : Key) (g : Going) (t : Glances setup first last key g) where
  -- it is no seat beyond the last
  seat_in : g.seat < seats_of g.setup
  seat_in = omega (arith, t.seat_is)

  -- its counts can go on
  pub counts_on : Counts g.setup g.account.used g.flight
  counts_on =
      let few = few_loads g.setup first last key g.phase g.flight.steps t.sees t.paced in
      record {
        used_few = subst (AreBelow (2 ^ 62)) (sym t.used_is) (record {
          op_rows = omega arith;
          bucket_rows = omega arith;
          bucket_words = omega arith;
          directory_rows = omega arith;
        });
        steps = subst (λ (x : Call). g.flight.steps < most_steps (settings_of g.setup) x) (sym t.call_is)
            (omega (arith, few));
        number = subst (λ (c : Setup). g.flight.number < c.shape.limit) (sym t.setup_is)
            (omega (arith, t.number_is, t.countable));
        small = omega (arith, few);
      }

  module _ (run : IsRun setup last) where
    -- the run is that of its setup
    run_here : IsRun g.setup last
    run_here = subst (λ (c : Setup). IsRun c last) (sym t.setup_is) run

    -- its step is on a word of the table
    pub on_word_here : IsOnWord g.setup.shape (asks g)
    on_word_here =
        on_word g.setup first last key run_here g.seat seat_in g.account.used g.flight t.call_is g.phase t.sees

    module _ (looking : IsLooking g.phase) (n : ℕ)
        (found : n ≡ found_by g.setup (asks g) (words_in g.setup last)) where
      -- what it finds is what a table holds there
      finds_here : Finds g.setup g.phase n
      finds_here = subst (Finds g.setup g.phase) (sym found)
          (finds g.setup first last key run_here g.seat seat_in g.account.used g.flight t.call_is g.phase t.sees)

      -- so the load fits
      pub fits_here : Fits g n
      fits_here = record {
        on_word = on_word_here;
        finds = finds_here;
        makes = makes g.setup first last key g.seat g.account.used g.flight n g.phase t.sees;
        counts = counts_on;
      }

      -- and it goes on as a lookup does
      pub glances_next : Glances setup first last key (goes g n)
      glances_next = record {
        setup_is = t.setup_is;
        countable = t.countable;
        seat_is = t.seat_is;
        used_is = used_same g.setup first last key g.seat g.account.used g.flight n g.phase t.sees ∙ t.used_is;
        number_is = t.number_is;
        call_is = t.call_is;
        sees = subst (λ w. Sees g.setup first last key (phase_after g.setup g.seat g.account.used g.flight g.phase w))
            (sym found)
            (sees_next g.setup first last key run_here g.seat seat_in g.account.used g.flight t.call_is g.phase looking
            t.sees);
        paced = paced g.setup first last key g.seat g.account.used g.flight n g.phase g.flight.steps looking t.sees
            finds_here t.paced;
      }

-- as the run goes on, what it knows stays
pub glances_on : (setup : Setup) (first last more : List Event) (key : Key) (g : Going) →
    Glances setup first last key g → Glances setup first (last ++ more) key g
glances_on setup first last more key g t = record {
  setup_is = t.setup_is;
  countable = t.countable;
  seat_is = t.seat_is;
  used_is = t.used_is;
  number_is = t.number_is;
  call_is = t.call_is;
  sees = sees_on g.setup first last more key g.phase t.sees;
  paced = t.paced;
}

-- it begins at the root
pub glances_first : (setup : Setup) (events : List Event) (key : Key) → 1 < setup.shape.limit →
    Glances setup events events key (start_of setup key)
glances_first setup events key countable = record {
  setup_is = refl;
  countable = countable;
  seat_is = refl;
  used_is = refl;
  number_is = refl;
  call_is = refl;
  sees = (
    refl,
    record { before = []; after = []; from_first = sym (append-nil events); to_last = sym (append-nil events) },
  );
  paced = refl;
}

-- ---- as the words of its front tell

-- what comes after a front of a list
drop_front : {X : Type 0} → (xs ys : List X) → drop (length xs) (xs ++ ys) ≡ ys
drop_front [] ys = refl
drop_front (x ∷ xs) ys = drop_front xs ys

-- the action is a load
abbrev IsLoad : Action → Type 0
IsLoad (Act.Load n) = Unit {0}
IsLoad (Act.Store n word) = ⊥
IsLoad (Act.Exchange n old new) = ⊥
IsLoad Act.Finished = ⊥

-- an ask that is a load is no end
looking_so : (setup : Setup) (seat : ℕ) (used : SeatRows) (flight : Flight) (phase : Phase) (at : ℕ) →
    action_of setup.shape (ask_in setup seat used flight phase) ≡ Act.Load at → IsLooking phase
looking_so setup seat used flight (StoreDone reply place) at e = absurd (subst IsLoad (sym e) tt)
looking_so setup seat used flight phase at e = tt

-- of what a reader sees nothing asks for a store that goes on
no_store : (setup : Setup) (first last : List Event) (key : Key) (seat : ℕ) (used : SeatRows) (flight : Flight)
    (phase : Phase) (at word : ℕ) → Sees setup first last key phase →
    action_of setup.shape (ask_in setup seat used flight phase) ≡ Act.Store at word → IsGoing phase → ⊥
no_store setup first last key seat used flight (FindRoot aim) at word k e g = cc
no_store setup first last key seat used flight (FindDepth aim root) at word k e g = cc
no_store setup first last key seat used flight (FindEntry aim root depth) at word k e g = cc
no_store setup first last key seat used flight (LookWord root bucket) at word k e g = cc
no_store setup first last key seat used flight (LookCount row) at word k e g = cc
no_store setup first last key seat used flight (LookItems row count words) at word k e g = cc
no_store setup first last key seat used flight (StoreDone reply place) at word k e g = g
no_store setup first last key seat used flight phase at word k e g = k

-- nor for an exchange
no_exchange : (setup : Setup) (first last : List Event) (key : Key) (seat : ℕ) (used : SeatRows) (flight : Flight)
    (phase : Phase) (at old new : ℕ) → Sees setup first last key phase →
    action_of setup.shape (ask_in setup seat used flight phase) ≡ Act.Exchange at old new → ⊥
no_exchange setup first last key seat used flight (FindRoot aim) at old new k e = cc
no_exchange setup first last key seat used flight (FindDepth aim root) at old new k e = cc
no_exchange setup first last key seat used flight (FindEntry aim root depth) at old new k e = cc
no_exchange setup first last key seat used flight (LookWord root bucket) at old new k e = cc
no_exchange setup first last key seat used flight (LookCount row) at old new k e = cc
no_exchange setup first last key seat used flight (LookItems row count words) at old new k e = cc
no_exchange setup first last key seat used flight (StoreDone reply place) at old new k e = cc
no_exchange setup first last key seat used flight phase at old new k e = k

-- with the first load it begins there, and goes on from where it had begun with each further one
module _ (setup : Setup) (key : Key) (known now : List Event) where
  begun : (times : List (List Event)) (more : List ℕ) → length times ≡ length more →
      Glances setup (began_at known times) now key (goes_by (start_of setup key) more) →
      Glances setup (began_at known (times ++ now ∷ [])) now key (goes_by (start_of setup key) more)
  begun [] [] e g = glances_first setup now key g.countable
  begun [] (word ∷ more) e g = absurd (omega (arith, e))
  begun (time ∷ times) more e g = g

  -- which is after all that was known
  begun_after : (times : List (List Event)) (more : List ℕ) → length times ≡ length more →
      Glances setup (began_at known times) now key (goes_by (start_of setup key) more) → (later : List Event) →
      began_at known times ≡ known ++ later →
      (after : List Event) × (began_at known (times ++ now ∷ []) ≡ known ++ after)
  begun_after [] [] e g later is = (g.sees.1.before, g.sees.1.from_first)
  begun_after [] (word ∷ more) e g later is = absurd (omega (arith, e))
  begun_after (time ∷ times) more e g later is = (later, is)

-- each word that is found is one step more
steps_by : (g : Going) (words : List ℕ) → (goes_by g words).flight.steps ≡ g.flight.steps + length words
steps_by g [] = omega arith
steps_by g (word ∷ words) = (let rest = steps_by (goes g word) words in omega (arith, rest))

-- so a reader that has a reply has made the loads of a peek
paced_since : (setup opened : Setup) (key : Key) (reply : Reply) (row : ℕ) (more : List ℕ) (loads : ℕ) →
    loads ≡ length more →
    (let g = goes_by (start_of setup key) more in
    g.setup ≡ opened → IsPaced g.setup g.phase g.flight.steps → g.phase ≡ StoreDone reply row →
    ArePeekLoads opened loads)
paced_since setup opened key reply row more loads e = λ same paced phase.
    let g = goes_by (start_of setup key) more in
    let all : g.flight.steps ≡ loads = omega (arith, e, steps_by (start_of setup key) more) in
    subst (λ (c : Setup). ArePeekLoads c loads) same
    (subst (ArePeekLoads g.setup) all (subst (λ (x : Phase). IsPaced g.setup x g.flight.steps) phase paced))

-- one that has a reply has made a load
seen_since : (setup opened : Setup) (key : Key) (was now : Front) (reply : Reply) (row : ℕ) (times : List (List Event))
    (more : List ℕ) → length times ≡ length more → (goes_by (start_of setup key) more).phase ≡ StoreDone reply row →
    now.times ≡ was.times ++ times → (later : List Event) → began_at was.known times ≡ was.known ++ later →
    WasHeld opened (began_at was.known times) now.known key reply → ArePeekLoads opened (length times) →
    WasSeen opened was now key reply
seen_since setup opened key was now reply row [] [] e phase is later after held loads =
    (let none : FindRoot ForLookup ≡ StoreDone reply row = phase in cc)
seen_since setup opened key was now reply row [] (word ∷ more) e phase is later after held loads =
    absurd (omega (arith, e))
seen_since setup opened key was now reply row (time ∷ times) more e phase is later after held loads = record {
  first = time;
  rest = times;
  times = is;
  later = later;
  after = after;
  held = held;
  loads = loads;
}

module _ (key : Key) (since : List Start) (plan : Plan) (table_id : TableId) (token : Token)
    (inv : IsGlancing key since plan table_id token) (value : GlancingValue)
    (view_is : glancing_value plan token ≡ value) where
  -- the first of them, or this one
  abbrev first_start : Start → List Start → Start
  first_start d [] = d
  first_start d (s ∷ ss) = s

  -- its front
  abbrev front : Front
  front = front_of plan token.me

  -- what it reads is of no earlier moment
  abbrev base : List Event
  base = began_at inv.first.front.known inv.moments

  -- where it stands
  abbrev g : Going
  g = goes_by (start_of (plain plan) key) inv.more

  -- by its front too
  at_is : glance_at key since value ≡ g
  at_is = sym (ap (glance_at key since) view_is)
      ∙ ap (λ (fs : List Start). glance_at key fs (glancing_value plan token)) inv.is
      ∙ (λ i. goes_by (start_of (inv.opened i) key) (drop (length inv.first.front.heard) (inv.heard i)))
      ∙ ap (goes_by (start_of (plain plan) key)) (drop_front inv.first.front.heard inv.more)

  -- what stands there is a step on a word of the table, and its counts can go on
  pub stands_there : IsOnWord (glance_at key since value).setup.shape (asks (glance_at key since value))
  stands_there = subst (λ (x : Going). IsOnWord x.setup.shape (asks x)) (sym at_is)
      (on_word_here (plain plan) base front.known key g inv.at inv.run)

  pub stands_few : Counts (glance_at key since value).setup (glance_at key since value).account.used
      (glance_at key since value).flight
  stands_few = subst (λ (x : Going). Counts x.setup x.account.used x.flight) (sym at_is)
      (counts_on (plain plan) base front.known key g inv.at)

  -- it asks for no store, and for no exchange
  pub stores_none : (at word : ℕ) → action (glance_at key since value) ≡ Act.Store at word →
      IsGoing (glance_at key since value).phase → ⊥
  stores_none at word e going = no_store g.setup base front.known key g.seat g.account.used g.flight g.phase
      at word inv.at.sees (sym (ap action at_is) ∙ e) (subst (λ (x : Going). IsGoing x.phase) at_is going)

  pub exchanges_none : (at old new : ℕ) → action (glance_at key since value) ≡ Act.Exchange at old new → ⊥
  exchanges_none at old new e = no_exchange g.setup base front.known key g.seat g.account.used g.flight
      g.phase at old new inv.at.sees (sym (ap action at_is) ∙ e)

  module _ (at : ℕ) (e : action (glance_at key since value) ≡ Act.Load at) where
    -- which address is loaded
    abbrev l : Loads g.setup.shape (asks g) at
    l = loads_from g.setup.shape (asks g) at (sym (ap action at_is) ∙ e)

    -- it is inside of the words
    inside : PlacesAreWithin → at < table_id.words
    inside law =
        let there : IsAddress g.setup.shape l.from =
        subst (IsOnWord g.setup.shape) l.ask
        (on_word_here (plain plan) base front.known key g inv.at inv.run) in
        let few = law g.setup.shape l.from there in
        omega (arith, few, l.is, ap (λ (c : Setup). word_count c.shape) inv.at.setup_is, inv.size)

    -- the load can be made
    pub load_can : PlacesAreWithin → (slots id : ℕ) →
        (token.table_id ≡ table_id) × (at < table_id.words)
        × Allows (Holds (plain plan)) slots id token.me at (λ n. n)
        (λ n w. (f : Front) → token.me ≡ lone f → Looked f at n w)
    load_can law slots id = (inv.table, inside law, looks_at (plain plan) slots id front token.me at inv.one)

    module _ (then_token : Token) (n : ℕ) (told : (f : Front) → token.me ≡ lone f → Looked f at n then_token.me) where
      -- what the load told
      abbrev x : Looked front at n then_token.me
      x = told front inv.one

      -- the events by then
      abbrev now : List Event
      now = front.known ++ x.later

      -- the front then
      abbrev then : Front
      then = after_load front now n

      front_is : front_of plan then_token.me ≡ then
      front_is = ap (front_of plan) x.is

      -- the run so far
      run_now : IsRun (plain plan) now
      run_now = subst (λ (c : Setup). IsRun c now) inv.opened x.run

      -- what is known before the load, when it is made
      known : Glances (plain plan) base now key g
      known = glances_on (plain plan) base front.known x.later key g inv.at

      -- the word is the one that is asked for
      found : n ≡ found_by g.setup (asks g) (words_in g.setup now)
      found = x.found_is ∙ (λ i. slice_index (world_after (inv.opened i) now).words (l.is i))
          ∙ (λ i. slice_index (world_after (sym inv.at.setup_is i) now).words (place g.setup.shape l.from))
          ∙ ap (λ (a : Ask). found_by g.setup a (words_in g.setup now)) (sym l.ask)

      looking : IsLooking g.phase
      looking = looking_so g.setup g.seat g.account.used g.flight g.phase at (sym (ap action at_is) ∙ e)

      -- so it fits
      pub load_fits_there : Fits (glance_at key since value) n
      load_fits_there = subst (λ (y : Going). Fits y n) (sym at_is)
          (fits_here (plain plan) base now key g known run_now looking n found)

      -- with this load it has begun
      here : Glances (plain plan) (began_at inv.first.front.known (inv.moments ++ now ∷ [])) now key g
      here = begun (plain plan) key inv.first.front.known now inv.moments inv.more inv.as_many known

      -- after all that was known
      after_now : (after : List Event)
          × (began_at inv.first.front.known (inv.moments ++ now ∷ []) ≡ inv.first.front.known ++ after)
      after_now = begun_after (plain plan) key inv.first.front.known now inv.moments inv.more inv.as_many
          known inv.later inv.after

      -- the reader is still on its way
      pub load_keeps : then_token.table_id ≡ token.table_id → IsGlancing key since plan table_id then_token
      load_keeps same = record {
        table = same ∙ inv.table;
        size = inv.size;
        one = x.is ∙ ap lone (sym front_is);
        opened = ap (λ (f : Front). f.setup) front_is ∙ inv.opened;
        run = subst (λ (f : Front). IsRun (plain plan) f.known) (sym front_is) run_now;
        first = inv.first;
        is = inv.is;
        of_table = inv.of_table;
        of_setup = inv.of_setup;
        more = inv.more ++ n ∷ [];
        heard = ap (λ (f : Front). f.heard) front_is ∙ ap (λ ws. ws ++ n ∷ []) inv.heard
            ∙ append_assoc inv.first.front.heard inv.more (n ∷ []);
        moments = inv.moments ++ now ∷ [];
        times = ap (λ (f : Front). f.times) front_is ∙ ap (λ ts. ts ++ now ∷ []) inv.times
            ∙ append_assoc inv.first.front.times inv.moments (now ∷ []);
        as_many = omega (arith, length_push inv.moments now, length_push inv.more n, inv.as_many);
        later = after_now.0;
        after = after_now.1;
        at = subst (λ (f : Front). Glances (plain plan) (began_at inv.first.front.known (inv.moments ++ now ∷ []))
            f.known key (goes_by (start_of (plain plan) key) (inv.more ++ n ∷ []))) (sym front_is)
            (subst (Glances (plain plan) (began_at inv.first.front.known (inv.moments ++ now ∷ [])) now key)
            (sym (goes_by-more (start_of (plain plan) key) inv.more n))
            (glances_next (plain plan) (began_at inv.first.front.known (inv.moments ++ now ∷ [])) now key g here run_now
            looking n found));
      }

      -- and stands where a lookup goes with that word
      pub load_leads : glance_at key since (glancing_value plan then_token) ≡ goes (glance_at key since value) n
      load_leads =
          ap (λ (f : Front). glance_at key since (record { table_id = then_token.table_id; front = f })) front_is
          ∙ ap (λ (fs : List Start). glance_at key fs (record { table_id = then_token.table_id; front = then })) inv.is
          ∙ (λ i. goes_by (start_of (inv.opened i) key) (drop (length inv.first.front.heard) (inv.heard i ++ n ∷ [])))
          ∙ ap (λ ws. goes_by (start_of (plain plan) key) (drop (length inv.first.front.heard) ws))
          (append_assoc inv.first.front.heard inv.more (n ∷ []))
          ∙ ap (goes_by (start_of (plain plan) key)) (drop_front inv.first.front.heard (inv.more ++ n ∷ []))
          ∙ goes_by-more (start_of (plain plan) key) inv.more n
          ∙ ap (λ (y : Going). goes y n) (sym at_is)

  -- so it has glanced
  pub glanced : (start : Start) → since ≡ start ∷ [] → HasGlanced key start value (glance_at key since value)
  glanced start is =
      let same : inv.first ≡ start = ap (first_start inv.first) (sym inv.is ∙ is) in
      subst (λ (u : Start × GlancingValue). HasGlanced key u.0 u.1 (glance_at key since u.1)) (λ i. (same i, view_is i))
      (record {
        table = inv.table ∙ inv.of_table;
        opened = inv.opened ∙ inv.of_setup;
        run = subst (λ (c : Setup). IsRun c front.known) inv.of_setup inv.run;
        held = λ reply row e.
            let phase : g.phase ≡ StoreDone reply row =
            sym (ap (λ (y : Going). y.phase) at_is)
            ∙ ap (λ (v : GlancingValue). (glance_at key since v).phase) (sym view_is) ∙ e in
            let sees : WasHeld g.setup base front.known key reply =
            subst (Sees g.setup base front.known key) phase inv.at.sees in
            seen_since (plain plan) inv.first.opened key inv.first.front front reply row inv.moments inv.more
            inv.as_many phase inv.times inv.later inv.after
            (subst (λ (c : Setup). WasHeld c base front.known key reply) (inv.at.setup_is ∙ inv.of_setup) sees)
            (paced_since (plain plan) inv.first.opened key reply row inv.more (length inv.moments) inv.as_many
            (inv.at.setup_is ∙ inv.of_setup) inv.at.paced phase);
      })

-- what a reader of this token begins with
abbrev start_by : Plan → Token → Start
start_by plan token = record { table_id = token.table_id; opened = plain plan; front = front_of plan token.me }

-- it begins
pub begins_glancing : (key : Key) (since : List Start) (plan : Plan) (table_id : TableId) (token : Token) →
    token.table_id ≡ table_id → table_id.words ≡ word_count (plain plan).shape →
    token.me ≡ lone (front_of plan token.me) → (front_of plan token.me).setup ≡ plain plan →
    IsRun (plain plan) (front_of plan token.me).known → since ≡ start_by plan token ∷ [] →
    IsGlancing key since plan table_id token
begins_glancing key since plan table_id token table size one opened run is = record {
  table = table;
  size = size;
  one = one;
  opened = opened;
  run = run;
  first = start_by plan token;
  is = is;
  of_table = sym table;
  of_setup = refl;
  more = [];
  heard = sym (append-nil (front_of plan token.me).heard);
  moments = [];
  times = sym (append-nil (front_of plan token.me).times);
  as_many = refl;
  later = [];
  after = sym (append-nil (front_of plan token.me).known);
  at = glances_first (plain plan) (front_of plan token.me).known key (omega arith);
}
