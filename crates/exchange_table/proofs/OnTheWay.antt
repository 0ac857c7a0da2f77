-- A call on its way: each access is its next step, and leaves it where the definitions go.
use Rattle.std.proofs.Common.{◌≡◌, ℕ, ◌+◌, ◌-◌, ◌%◌, ◌^◌, ◌<◌, ◌≤◌, Bool, true, false, eqb, List, [], ◌∷◌, ◌++◌, length, Option, Some, None, refl, sym, ap, ◌∙◌, subst, arith, append_assoc}
use Rattle.std.proofs.lemmas.List.{length-append}
use prog.Atomic.{either}
use Rattle.atomic_table.specs.Seated.{TableId}
use Rattle.atomic_table.specs.Table.{Allows}
use Rattle.plain_map.specs.declared.calls.Call.{Call}
use Rattle.plain_map.specs.declared.calls.Call.TheVariants.{Insert, Remove, Lookup, Tally, Count, Put}
use Rattle.plain_map.specs.declared.keys.Key.{Key}
use Rattle.plain_map.specs.Keys.{IsKey}
use Rattle.plain_map.specs.Updates.{IsUpdate}
use Rattle.exchange_model.specs.Plans.{Plan, buckets_of}
use Rattle.exchange_model.specs.Words.{word_count}
use Rattle.exchange_model.specs.Steps as S
use Rattle.exchange_model.specs.Steps.{Stand, Scan, SeatNow, Deed, Aim, OfKey, OfBucket}
use Rattle.exchange_model.specs.Goes.{Asked, Called, Copied, Told, Refused, Fate, On, Ends, Spends, Refuses, with_free, first_fate, scan_begins}
use Rattle.exchange_model.specs.Worlds.{Answer, Asker, BySeat, ByReader, CanBegin, Event, IsRun, world_after, stand_at}
use Rattle.exchange_calls.specs.Going.{Going, Fits, HasTries, IsOn, Task, begun_look, begun_update, deed, deed_at, goes, numbered, task, told_by}
use Rattle.exchange_calls.specs.Going.Task.{Load, Store, Exchange, Raise, Lower}
use Rattle.exchange_table.specs.declared.rule.Opening.{Opening}
use Rattle.exchange_table.specs.declared.stage.Stage.{Stage}
use Rattle.exchange_table.specs.declared.stage.Stage.TheVariants.{Rests, Begun, Runs}
use Rattle.exchange_table.specs.Parties.{CanCall, Holding, PartyValue, IsAnswered, IsParty, Under, UnderIn, begin_at, begin_of, begun, clean, going_in, going_of, has_hold, last_told, own_answers, party, seat_no, started, started_at, step_of, told_at}
use Rattle.exchange_table.specs.Rule.{Holds, M, Moved, Stepped, after_step, alone, known_after, plain}
use Rattle.exchange_table.specs.Readiness.{IsReady}
use Rattle.exchange_table.specs.Calls.{AtStage, GoesOn, HasAnswer, HasEnded, HasWaited, IsIdle, IsNotMade, IsRunning, MayAsk, RunningValue, Token, holding_of, now_at, now_of, running_value}
use Rattle.exchange_table.proofs.Events.{told_more, world_more, run_more}
use Rattle.exchange_table.proofs.Acting.{Flies, begins_on, stand_code, steps_on}
use Rattle.exchange_table.proofs.Places.{place_small}
use Rattle.exchange_table.proofs.Moves.{task_at, task_code}
use Rattle.std.specs.Prelude.{All}
use Rattle.std.proofs.lemmas.List.Elements.{All-head, All-tail}
use Rattle.exchange_model.specs.Laws.{IsTaken}
use Rattle.exchange_laws.proofs.OwnedRuns.{none_is_refused}
use Rattle.exchange_table.proofs.Allowed.{loads_at, lowers_at, raises_at, stores_at, swaps_at}

-- ---- what may be asked

-- how a call may begin does not look at its course, or at what was told
pub can_update : (plan : Plan) (who : Asker) (now : SeatNow) (call : Call) (tries : ℕ) → has_hold who ≡ true →
    IsUpdate call → CanBegin plan (seat_no who) now call → CanCall plan who now (Called call) tries
can_update plan (BySeat q) now (Insert key value) tries e u k = k
can_update plan (BySeat q) now (Remove key) tries e u k = k
can_update plan (BySeat q) now (Lookup key) tries e u k = absurd u
can_update plan (BySeat q) now (Tally key amount) tries e u k = k
can_update plan (BySeat q) now (Count key value amount) tries e u k = k
can_update plan (BySeat q) now (Put key value) tries e u k = k
can_update plan (ByReader r) now call tries e u k = absurd (omega (arith, ap flag e))
  where
    flag : Bool → ℕ
    flag true = 1
    flag false = 0

pub clean_begins : (plan : Plan) (q : ℕ) (call : Call) (now : SeatNow) → IsUpdate call →
    CanBegin plan q (clean now) call → CanBegin plan q now call
clean_begins plan q (Insert key value) now u k = k
clean_begins plan q (Remove key) now u k = k
clean_begins plan q (Lookup key) now u k = absurd u
clean_begins plan q (Tally key amount) now u k = k
clean_begins plan q (Count key value amount) now u k = k
clean_begins plan q (Put key value) now u k = k

pub can_look : (plan : Plan) (who : Asker) (now : SeatNow) (key : Key) (tries : ℕ) → IsKey key →
    HasTries (has_hold who) (clean now) tries → CanCall plan who now (Called (Lookup key)) tries
can_look plan (BySeat q) now key tries k t = ((t.1, k), t.0)
can_look plan (ByReader r) now key tries k t = (k, t)

pub can_copy : (plan : Plan) (who : Asker) (now : SeatNow) (bucket tries : ℕ) → bucket < buckets_of plan.settings →
    HasTries (has_hold who) (clean now) tries → CanCall plan who now (Copied bucket) tries
can_copy plan (BySeat q) now bucket tries k t = (t.1, k, t.0)
can_copy plan (ByReader r) now bucket tries k t = (k, t)

begun_is : (call : Call) (tries : ℕ) (g : Going) → IsUpdate call → begun (Called call) tries g ≡ begun_update g call
begun_is (Insert key value) tries g u = refl
begun_is (Remove key) tries g u = refl
begun_is (Lookup key) tries g u = absurd u
begun_is (Tally key amount) tries g u = refl
begun_is (Count key value amount) tries g u = refl
begun_is (Put key value) tries g u = refl

-- ---- words of the table

at_small : (plan : Plan) (d : Deed) → IsOn plan d → (t : Task) → numbered plan d ≡ t → 1 ≤ task_code t →
    task_at t < word_count plan
at_small plan S.Nothing on t e least = absurd (omega (arith, ap task_code e, least))
at_small plan (S.Load from) on t e least =
    subst (λ p. p < word_count plan) (ap task_at e) (place_small plan from on)
at_small plan (S.Store to word) on t e least =
    subst (λ p. p < word_count plan) (ap task_at e) (place_small plan to on)
at_small plan (S.Swap to old new) on t e least =
    subst (λ p. p < word_count plan) (ap task_at e) (place_small plan to on)
at_small plan (S.Raise to) on t e least =
    subst (λ p. p < word_count plan) (ap task_at e) (place_small plan to on)
at_small plan (S.Lower to) on t e least =
    subst (λ p. p < word_count plan) (ap task_at e) (place_small plan to on)

abbrev OnTable : Going → Type 0
OnTable g = IsOn g.plan (deed g)

-- the next step in a run is on the table
on_run : (plan : Plan) (who : Asker) (events : List Event) → IsRun plan events → IsParty plan who →
    OnTable (going_in plan who (world_after plan events))
on_run plan who events run inside = go (party (world_after plan events) who).stand refl
  where
    go : (s : Stand) → (party (world_after plan events) who).stand ≡ s →
        OnTable (going_in plan who (world_after plan events))
    go S.Idle e = subst (λ (k : Stand). IsOn plan (deed_at (going_in plan who (world_after plan events)) k)) (sym e) tt
    go (S.Goes call step) e = (steps_on plan events run who inside (subst Flies (sym e) tt)).on_table
    go (S.Glances aim glance) e = (steps_on plan events run who inside (subst Flies (sym e) tt)).on_table

-- what is told at a begin is that it was refused
begun_told : (asked : Asked) (tries : ℕ) (g : Going) (told : Told) → (begun asked tries g).told ≡ Some told →
    told ≡ Refused
begun_told (Called (Lookup key)) tries g told e = absurd (omega (arith, ap code e))
  where
    code : Option Told → ℕ
    code None = 0
    code (Some t) = 1
begun_told (Copied bucket) tries g told e = absurd (omega (arith, ap code e))
  where
    code : Option Told → ℕ
    code None = 0
    code (Some t) = 1
begun_told (Called call) tries g told e = by call e
  where
    code : Option Told → ℕ
    code None = 0
    code (Some t) = 1

    value : Option Told → Told
    value None = Refused
    value (Some t) = t

    free : (rows : List ℕ) → told_by (with_free rows) None ≡ Some told → told ≡ Refused
    free [] f = sym (ap value f)
    free (row ∷ rows) f = absurd (omega (arith, ap code f))

    first : (rows : List ℕ) (scan : Option Scan) → told_by (first_fate rows scan) None ≡ Some told → told ≡ Refused
    first rows None f = free rows f
    first rows (Some scan) f = absurd (omega (arith, ap code f))

    update : (c : Call) → (begun_update g c).told ≡ Some told → told ≡ Refused
    update c f = let taken = scan_begins g.plan g.seat g.now.free g.now in first taken.free taken.scan f

    by : (c : Call) → (begun (Called c) tries g).told ≡ Some told → told ≡ Refused
    by (Insert key v) f = update (Insert key v) f
    by (Remove key) f = update (Remove key) f
    by (Lookup key) f = absurd (omega (arith, ap code f))
    by (Tally key amount) f = update (Tally key amount) f
    by (Count key v amount) f = update (Count key v amount) f
    by (Put key v) f = update (Put key v) f

abbrev first_of : PartyValue → List PartyValue → PartyValue
first_of d [] = d
first_of d (p ∷ ps) = p

abbrev some_code : Option Told → ℕ
some_code None = 0
some_code (Some t) = 1

abbrev told_of_some : Option Told → Told
told_of_some None = Refused
told_of_some (Some t) = t

-- a first fate ends no update
abbrev NoEnd : Fate → Type 0
NoEnd (On step) = Unit {0}
NoEnd (Ends reply) = ⊥
NoEnd Spends = ⊥
NoEnd Refuses = Unit {0}

-- an update that begins and stands nowhere was refused
begun_open : (asked : Asked) (tries : ℕ) (g : Going) → (begun asked tries g).now.stand ≡ S.Idle →
    (begun asked tries g).told ≡ None → ⊥
begun_open (Called (Lookup key)) tries g idle e = omega (arith, ap stand_code idle)
begun_open (Copied bucket) tries g idle e = omega (arith, ap stand_code idle)
begun_open (Called call) tries g idle e = by call idle e
  where
    next : (fate : Fate) (c : Call) → (stand_at c fate) ≡ S.Idle →
        told_by fate None ≡ None → NoEnd fate → ⊥
    next (On step) c i f k = omega (arith, ap stand_code i)
    next (Ends reply) c i f k = k
    next Spends c i f k = k
    next Refuses c i f k = omega (arith, ap some_code f)

    free : (rows : List ℕ) → NoEnd (with_free rows)
    free [] = tt
    free (row ∷ rows) = tt

    first : (rows : List ℕ) (scan : Option Scan) → NoEnd (first_fate rows scan)
    first rows None = free rows
    first rows (Some scan) = tt

    update : (c : Call) → (begun_update g c).now.stand ≡ S.Idle → (begun_update g c).told ≡ None → ⊥
    update c i f =
        let taken = scan_begins g.plan g.seat g.now.free g.now in
        next (first_fate taken.free taken.scan) c i f (first taken.free taken.scan)

    by : (c : Call) → (begun (Called c) tries g).now.stand ≡ S.Idle → (begun (Called c) tries g).told ≡ None → ⊥
    by (Insert key v) i f = update (Insert key v) i f
    by (Remove key) i f = update (Remove key) i f
    by (Lookup key) i f = omega (arith, ap stand_code i)
    by (Tally key amount) i f = update (Tally key amount) i f
    by (Count key v amount) i f = update (Count key v amount) i f
    by (Put key v) i f = update (Put key v) i f

-- no run tells that it refused a call
last_taken : (answers : List Answer) (t : Told) → All (λ (a : Answer). IsTaken a.told) answers → last_told answers ≡
    Some t →
    IsTaken t
last_taken [] t all e = absurd (omega (arith, ap some_code e))
last_taken (a ∷ []) t all e =
    subst IsTaken (ap told_of_some e) (All-head (λ (b : Answer). IsTaken b.told) a [] all)
last_taken (a ∷ b ∷ answers) t all e =
    last_taken (b ∷ answers) t (All-tail (λ (c : Answer). IsTaken c.told) a (b ∷ answers) all) e

refused_in : (plan : Plan) (who : Asker) (events : List Event) → IsRun plan events →
    (going_in plan who (world_after plan events)).told ≡ Some Refused → ⊥
refused_in plan who events run e = go (party (world_after plan events) who).stand e
  where
    go : (s : Stand) → told_at s (world_after plan events).answers ≡ Some Refused → ⊥
    go S.Idle f = last_taken (world_after plan events).answers Refused (none_is_refused plan events run) f
    go (S.Goes call step) f = omega (arith, ap some_code f)
    go (S.Glances aim glance) f = omega (arith, ap some_code f)

module _ (asked : Asked) (tries : ℕ) (since : List PartyValue) (key : Opening) (table_id : TableId) (token : Token)
    (stage : Stage) (inv : IsRunning asked tries since key table_id token stage) where
  abbrev h : Holding
  h = holding_of key token.me

  abbrev stand : Stand
  stand = (party (world_after h.plan h.known) h.who).stand

  abbrev now : Going
  now = now_at asked tries stage (going_of h)

  -- where it asks for a word it has started
  record Started (s : Stage) : Type 0 where
    started_is : started asked tries h ≡ now_at asked tries s (going_of h)
    may : stand ≡ S.Idle → CanCall h.plan h.who (party (world_after h.plan h.known) h.who) asked tries
    under : (m : M) (n : ℕ) → (st : Stepped asked tries h n m) →
        UnderIn h.who asked (length inv.first.holding.known) (own_answers inv.first.holding)
        (world_after h.plan (known_after asked tries h st.before))

  known_long : length inv.first.holding.known ≤ length h.known
  known_long = (let long = ap (λ (es : List Event). length es) inv.goes_on.grown
      ∙ length-append inv.first.holding.known inv.goes_on.later in omega (arith, long))

  idle_rests : (g : Going) → g.now.stand ≡ S.Idle → (t : Task) → task g ≡ t → 1 ≤ task_code t → ⊥
  idle_rests g idle t e least =
      omega (arith, ap task_code (sym (ap (λ (k : Stand). numbered g.plan (deed_at g k)) idle) ∙ e), least)

  starts_at : (s : Stage) → AtStage asked tries inv.first.holding h s → (t : Task) →
      task (now_at asked tries s (going_of h)) ≡ t → 1 ≤ task_code t → Started s
  starts_at Rests at t e least = absurd (idle_rests (record (going_of h) { told = None }) at.0 t e least)
  starts_at Begun at t e least = record {
    started_is = ap (λ (k : Stand). started_at k asked tries (going_of h)) at.0;
    may = λ _. at.1;
    under = λ m n st.
        subst (λ (k : Holding). UnderIn h.who asked (length inv.first.holding.known) (own_answers k)
        (world_after h.plan (known_after asked tries h st.before))) at.2
        (st.first (length inv.first.holding.known) known_long at.0);
  }
  starts_at Runs at t e least = go stand refl
    where
      go : (k : Stand) → stand ≡ k → Started Runs
      go S.Idle idle = absurd (idle_rests (going_of h) idle t e least)
      go (S.Goes call step) is = record {
        started_is = ap (λ (j : Stand). started_at j asked tries (going_of h)) is;
        may = λ idle. absurd (omega (arith, ap stand_code (sym is ∙ idle)));
        under = λ m n st. st.on (length inv.first.holding.known) (own_answers inv.first.holding) at
            (λ idle. omega (arith, ap stand_code (sym is ∙ idle)));
      }
      go (S.Glances aim glance) is = record {
        started_is = ap (λ (j : Stand). started_at j asked tries (going_of h)) is;
        may = λ idle. absurd (omega (arith, ap stand_code (sym is ∙ idle)));
        under = λ m n st. st.on (length inv.first.holding.known) (own_answers inv.first.holding) at
            (λ idle. omega (arith, ap stand_code (sym is ∙ idle)));
      }

  -- what it asks for is on the table
  on_at : (s : Stage) → AtStage asked tries inv.first.holding h s → OnTable (now_at asked tries s (going_of h))
  on_at Rests at =
      subst (λ (k : Stand). IsOn h.plan (deed_at (record (going_of h) { told = None }) k)) (sym at.0) tt
  on_at Begun at =
      let b = begins_on h.plan h.known inv.run h.who inv.inside asked tries at.0 at.1 in
      subst OnTable (ap (going_in h.plan h.who) (world_more h.plan h.known b.event) ∙ b.goes)
      (on_run h.plan h.who (h.known ++ b.event ∷ []) (run_more h.plan h.known b.event inv.run b.can) inv.inside)
  on_at Runs at = on_run h.plan h.who h.known inv.run inv.inside

  module _ (value : RunningValue) (view_is : running_value key token stage ≡ value) where
    pub on_table : IsOn (now_of asked tries value).plan (deed (now_of asked tries value))
    on_table = subst (λ (v : RunningValue). OnTable (now_of asked tries v)) view_is (on_at stage inv.at)

    module _ (t : Task) (e : task (now_of asked tries value) ≡ t) (least : 1 ≤ task_code t) where
      asks : task now ≡ t
      asks = subst (λ (v : RunningValue). task (now_of asked tries v) ≡ t) (sym view_is) e

      starts : Started stage
      starts = starts_at stage inv.at t asks least

      pub ready : IsReady asked tries t (plain key) token.me
      ready = record {
        holding = h;
        one = inv.one;
        opened = inv.opened;
        may = starts.may;
        asks = ap task starts.started_is ∙ asks;
      }

      -- its word is one of the table's
      pub within : task_at t < table_id.words
      within =
          let same : now.plan ≡ plain key = subst (λ (g : Going). g.plan ≡ plain key) starts.started_is started_plan in
          let less = at_small now.plan (deed now) (on_at stage inv.at) t asks least in
          (let count = ap word_count same in let size = inv.size in omega (arith, less, count, size))
        where
          started_plan : (started asked tries h).plan ≡ plain key
          started_plan = go stand asked
            where
              go : (k : Stand) (a : Asked) → (started_at k a tries (going_of h)).plan ≡ plain key
              go S.Idle (Called (Lookup k)) = inv.opened
              go S.Idle (Called (Insert k v)) = inv.opened
              go S.Idle (Called (Remove k)) = inv.opened
              go S.Idle (Called (Tally k v)) = inv.opened
              go S.Idle (Called (Count k v w)) = inv.opened
              go S.Idle (Called (Put k v)) = inv.opened
              go S.Idle (Copied b) = inv.opened
              go (S.Goes call step) a = inv.opened
              go (S.Glances aim glance) a = inv.opened

      module _ (then_token : Token) (n : ℕ) (moved : Moved asked tries token.me n then_token.me) where
        st : Stepped asked tries h n then_token.me
        st = moved h inv.one

        abbrev then : Holding
        then = after_step asked tries h st.before

        holds_then : holding_of key then_token.me ≡ then
        holds_then = ap (holding_of key) st.is

        goes_on_then : GoesOn inv.first.holding then
        goes_on_then = record {
          plan = inv.goes_on.plan;
          who = inv.goes_on.who;
          later = ((inv.goes_on.later ++ st.later) ++ begins) ++ step_of h.who ∷ [];
          grown =
              ap (λ (es : List Event). (es ++ begins) ++ step_of h.who ∷ []) (st.grew
              ∙ ap (λ (es : List Event). es ++ st.later) inv.goes_on.grown
              ∙ append_assoc inv.first.holding.known inv.goes_on.later st.later)
              ∙ ap (λ (es : List Event). es ++ step_of h.who ∷ [])
              (append_assoc inv.first.holding.known (inv.goes_on.later ++ st.later) begins)
              ∙ append_assoc inv.first.holding.known ((inv.goes_on.later ++ st.later) ++ begins) (step_of h.who ∷ []);
        }
          where
            begins : List Event
            begins = begin_at stand (begin_of h.who asked tries)

        pub still : then_token.table_id ≡ token.table_id → IsRunning asked tries since key table_id then_token Runs
        still same = record {
          table = same ∙ inv.table;
          size = inv.size;
          one = st.is ∙ ap alone (sym holds_then);
          opened = ap (λ (k : Holding). k.plan) holds_then ∙ inv.opened;
          run = subst (λ (k : Holding). IsRun k.plan k.known) (sym holds_then) st.run;
          inside = subst (λ (k : Holding). IsParty k.plan k.who) (sym holds_then) inv.inside;
          first = inv.first;
          is = inv.is;
          of_table = inv.of_table;
          goes_on = subst (GoesOn inv.first.holding) (sym holds_then) goes_on_then;
          at = subst (λ (k : Holding). UnderIn k.who asked (length inv.first.holding.known)
              (own_answers inv.first.holding) (world_after k.plan k.known)) (sym holds_then)
              (starts.under then_token.me n st);
        }

        now_then : started asked tries h ≡ now_of asked tries value
        now_then = starts.started_is ∙ ap (now_of asked tries) view_is

        pub goes_then : now_of asked tries (running_value key then_token Runs) ≡ goes (now_of asked tries value) n
        goes_then = ap going_of holds_then ∙ st.goes_to ∙ ap (λ (g : Going). goes g n) now_then

        pub fits_then : Fits (now_of asked tries value) n
        fits_then = subst (λ (g : Going). Fits g n) now_then st.fits

    -- ---- the kinds of access

    pub load_ready : (slots id at : ℕ) → task (now_of asked tries value) ≡ Load at →
        (token.table_id ≡ table_id) × (at < table_id.words)
        × Allows (Holds (plain key)) slots id token.me at (λ n. n) (λ n w. Moved asked tries token.me n w)
    load_ready slots id at e = (
      inv.table,
      within (Load at) e (omega arith),
      loads_at slots id asked tries (plain key) token.me at (ready (Load at) e (omega arith)),
    )

    pub store_ready : (slots id at word : ℕ) → task (now_of asked tries value) ≡ Store at word →
        (token.table_id ≡ table_id) × (at < table_id.words)
        × Allows (Holds (plain key)) slots id token.me at (λ _. word) (λ _ w. Moved asked tries token.me 0 w)
    store_ready slots id at word e = (
      inv.table,
      within (Store at word) e (omega arith),
      stores_at slots id asked tries (plain key) token.me at word (ready (Store at word) e (omega arith)),
    )

    pub swap_ready : (slots id at old new : ℕ) → task (now_of asked tries value) ≡ Exchange at old new →
        (token.table_id ≡ table_id) × (at < table_id.words)
        × Allows (Holds (plain key)) slots id token.me at (λ n. either (eqb n old) new n)
        (λ n w. Moved asked tries token.me n w)
    swap_ready slots id at old new e = (
      inv.table,
      within (Exchange at old new) e (omega arith),
      swaps_at slots id asked tries (plain key) token.me at old new (ready (Exchange at old new) e (omega arith)),
    )

    pub raise_ready : (slots id at : ℕ) → task (now_of asked tries value) ≡ Raise at →
        (token.table_id ≡ table_id) × (at < table_id.words)
        × Allows (Holds (plain key)) slots id token.me at (λ n. (n + 1) % 2 ^ 64)
        (λ n w. Moved asked tries token.me n w)
    raise_ready slots id at e = (
      inv.table,
      within (Raise at) e (omega arith),
      raises_at slots id asked tries (plain key) token.me at (ready (Raise at) e (omega arith)),
    )

    pub lower_ready : (slots id at : ℕ) → task (now_of asked tries value) ≡ Lower at →
        (token.table_id ≡ table_id) × (at < table_id.words)
        × Allows (Holds (plain key)) slots id token.me at (λ n. (n + (2 ^ 64 - 1)) % 2 ^ 64)
        (λ n w. Moved asked tries token.me n w)
    lower_ready slots id at e = (
      inv.table,
      within (Lower at) e (omega arith),
      lowers_at slots id asked tries (plain key) token.me at (ready (Lower at) e (omega arith)),
    )

    -- ---- begins

    idle_at : (s : Stage) → AtStage asked tries inv.first.holding h s → (now_at asked tries s (going_of h)).now.stand
        ≡ S.Idle →
        (a : Asked) (t : ℕ) → MayAsk asked tries s a t → IsIdle h
    idle_at Rests at idle a t may = at.0
    idle_at Begun at idle a t may = absurd may.first
    idle_at Runs at idle a t may = absurd may.first

    first_at : (s : Stage) → AtStage asked tries inv.first.holding h s → (a : Asked) (t : ℕ) →
        MayAsk asked tries s a t → h ≡ inv.first.holding
    first_at Rests at a t may = at.1
    first_at Begun at a t may = absurd may.first
    first_at Runs at a t may = absurd may.first

    idle_now : (now_of asked tries value).now.stand ≡ S.Idle → (a : Asked) (t : ℕ) →
        MayAsk asked tries value.stage a t → IsIdle h
    idle_now idle a t may = idle_at stage inv.at
        (subst (λ (v : RunningValue). (now_of asked tries v).now.stand ≡ S.Idle) (sym view_is) idle) a t
        (subst (λ (v : RunningValue). MayAsk asked tries v.stage a t) (sym view_is) may)

    -- it begins, where it may
    pub begins : (a : Asked) (t : ℕ) → MayAsk asked tries value.stage a t →
        (now_of asked tries value).now.stand ≡ S.Idle →
        CanCall h.plan h.who (party (world_after h.plan h.known) h.who) a t →
        IsRunning asked tries since key table_id token Begun
    begins a t may idle can = record {
      table = inv.table;
      size = inv.size;
      one = inv.one;
      opened = inv.opened;
      run = inv.run;
      inside = inv.inside;
      first = inv.first;
      is = inv.is;
      of_table = inv.of_table;
      goes_on = inv.goes_on;
      at = (
        idle_now idle a t may,
        subst (λ (z : Asked × ℕ). CanCall h.plan h.who (party (world_after h.plan h.known) h.who) (z.0) (z.1))
            (λ i. (may.call_is i, may.tries_are i)) can,
        first_at stage inv.at a t (subst (λ (v : RunningValue). MayAsk asked tries v.stage a t) (sym view_is) may),
      );
    }

    -- what contracts see of it but how far it is
    open_now : (a : Asked) (t : ℕ) → MayAsk asked tries stage a t → (s : Stage) → stage ≡ s →
        (told : Option Told) × (now_at asked tries s (going_of h) ≡ record (going_of h) { told = told })
    open_now a t may Rests e = (None, refl)
    open_now a t may Begun e = absurd (subst IsNotMade e may.first)
    open_now a t may Runs e = absurd (subst IsNotMade e may.first)

    seen_now : (a : Asked) (t : ℕ) → MayAsk asked tries value.stage a t →
        (told : Option Told) × (now_of asked tries value ≡ record (going_of h) { told = told })
    seen_now a t may =
        let z = open_now a t (subst (λ (v : RunningValue). MayAsk asked tries v.stage a t) (sym view_is) may) stage
        refl in
        (z.0, sym (ap (now_of asked tries) view_is) ∙ z.1)

    pub update_begins : (call : Call) → MayAsk asked tries value.stage (Called call) 0 →
        begun asked tries (going_of h) ≡ begun_update (now_of asked tries value) call
    update_begins call may =
        let z = seen_now (Called call) 0 may in
        (λ i. begun (sym may.call_is i) (sym may.tries_are i) (going_of h))
        ∙ begun_is call 0 (going_of h) may.fitting ∙ ap (λ (g : Going). begun_update g call) (sym z.1)

    pub look_begins : (k : Key) (t : ℕ) → MayAsk asked tries value.stage (Called (Lookup k)) t →
        begun asked tries (going_of h) ≡ begun_look (now_of asked tries value) (OfKey k) t
    look_begins k t may =
        let z = seen_now (Called (Lookup k)) t may in
        (λ i. begun (sym may.call_is i) (sym may.tries_are i) (going_of h))
        ∙ ap (λ (g : Going). begun_look g (OfKey k) t) (sym z.1)

    pub copy_begins : (bucket t : ℕ) → MayAsk asked tries value.stage (Copied bucket) t →
        begun asked tries (going_of h) ≡ begun_look (now_of asked tries value) (OfBucket bucket) t
    copy_begins bucket t may =
        let z = seen_now (Copied bucket) t may in
        (λ i. begun (sym may.call_is i) (sym may.tries_are i) (going_of h))
        ∙ ap (λ (g : Going). begun_look g (OfBucket bucket) t) (sym z.1)

    -- its holding is that of the value
    pub now_holds : (a : Asked) (t : ℕ) → MayAsk asked tries value.stage a t →
        (now_of asked tries value).holds ≡ has_hold h.who
    now_holds a t may = ap (λ (g : Going). g.holds) (seen_now a t may).1

    pub now_plan : (a : Asked) (t : ℕ) → MayAsk asked tries value.stage a t → (now_of asked tries value).plan ≡ h.plan
    now_plan a t may = ap (λ (g : Going). g.plan) (seen_now a t may).1

    -- so what the value may do it may
    pub now_can : (call : Call) → MayAsk asked tries value.stage (Called call) 0 →
        CanBegin (now_of asked tries value).plan (now_of asked tries value).seat (now_of asked tries value).now call →
        CanBegin h.plan (seat_no h.who) (clean (party (world_after h.plan h.known) h.who)) call
    now_can call may can =
        subst (λ (g : Going). CanBegin g.plan g.seat g.now call) (seen_now (Called call) 0 may).1 can

    pub now_tries : (a : Asked) (t : ℕ) → MayAsk asked tries value.stage a t →
        HasTries (now_of asked tries value).holds (now_of asked tries value).now t →
        HasTries (has_hold h.who) (clean (party (world_after h.plan h.known) h.who)) t
    now_tries a t may k = subst (λ (g : Going). HasTries g.holds g.now t) (seen_now a t may).1 k

    -- ---- its end

    ends_at : (s : Stage) → AtStage asked tries inv.first.holding h s → (told : Told) →
        (now_at asked tries s (going_of h)).told ≡ Some told → (told ≡ Refused → ⊥) →
        (now_at asked tries s (going_of h)).now.stand ≡ S.Idle →
        HasAnswer asked inv.first.holding h told × (now_at asked tries s (going_of h) ≡ going_of h)
    ends_at Rests at told e n idle = absurd (omega (arith, ap code e))
      where
        code : Option Told → ℕ
        code None = 0
        code (Some t) = 1
    ends_at Begun at told e n idle = absurd (n (begun_told asked tries (going_of h) told e))
    ends_at Runs at told e n idle =
        let k : IsAnswered h.who asked (length inv.first.holding.known) (own_answers inv.first.holding)
        (world_after h.plan h.known).answers =
        subst (λ (s : Stand). Under h.who asked (length inv.first.holding.known) (own_answers inv.first.holding)
        (party (world_after h.plan h.known) h.who) s (world_after h.plan h.known).answers) idle at in (
          record {
            goes_on = inv.goes_on;
            run = inv.run;
            idle = idle;
            answered = k;
            told_is = ap value_of (sym (told_more k.front k.answer) ∙ sym (ap last_told k.is)
                ∙ sym (ap (λ (s : Stand). told_at s (world_after h.plan h.known).answers) idle)
                ∙ e);
          },
          refl,
        )
      where
        value_of : Option Told → Told
        value_of None = Refused
        value_of (Some t) = t

    pub has_ended : HasEnded asked tries since value
    has_ended first is told e n idle =
        let all : HasAnswer asked inv.first.holding h told × (now ≡ going_of h) = ends_at stage inv.at told
        (subst (λ (v : RunningValue). (now_of asked tries v).told ≡ Some told) (sym view_is) e) n
        (subst (λ (v : RunningValue). (now_of asked tries v).now.stand ≡ S.Idle) (sym view_is) idle) in
        subst (λ (v : RunningValue). HasAnswer asked first.holding v.holding told
        × (now_of asked tries v ≡ going_of v.holding) × (v.table_id ≡ first.table_id)) view_is
        (subst (λ (f : PartyValue). HasAnswer asked f.holding h told × (now ≡ going_of h)
        × (token.table_id ≡ f.table_id)) (one_is (sym inv.is ∙ is)) (all.0, all.1, inv.table ∙ inv.of_table))
      where
        one_is : inv.first ∷ [] ≡ first ∷ [] → inv.first ≡ first
        one_is f = ap (first_of first) f

    -- or it was not made
    waits_at : (s : Stage) → AtStage asked tries inv.first.holding h s → (now_at asked tries s (going_of h)).told ≡
        None →
        (now_at asked tries s (going_of h)).now.stand ≡ S.Idle → h ≡ inv.first.holding
    waits_at Rests at e idle = at.1
    waits_at Begun at e idle = absurd (begun_open asked tries (going_of h) idle e)
    waits_at Runs at e idle =
        let k : IsAnswered h.who asked (length inv.first.holding.known) (own_answers inv.first.holding)
        (world_after h.plan h.known).answers =
        subst (λ (s : Stand). Under h.who asked (length inv.first.holding.known) (own_answers inv.first.holding)
        (party (world_after h.plan h.known) h.who) s (world_after h.plan h.known).answers) idle at in
        absurd (omega (
          arith,
          ap some_code (sym (told_more k.front k.answer) ∙ sym (ap last_told k.is)
              ∙ sym (ap (λ (s : Stand). told_at s (world_after h.plan h.known).answers) idle) ∙ e),
        ))

    pub has_waited : HasWaited asked tries since value
    has_waited first is e idle =
        let same : h ≡ inv.first.holding = waits_at stage inv.at
        (subst (λ (v : RunningValue). (now_of asked tries v).told ≡ None) (sym view_is) e)
        (subst (λ (v : RunningValue). (now_of asked tries v).now.stand ≡ S.Idle) (sym view_is) idle) in
        let one : inv.first ≡ first = ap (first_of first) (sym inv.is ∙ is) in (
          sym (ap (λ (v : RunningValue). v.holding) view_is) ∙ same ∙ ap (λ (p : PartyValue). p.holding) one,
          sym (ap (λ (v : RunningValue). v.table_id) view_is) ∙ inv.table ∙ inv.of_table
              ∙ ap (λ (p : PartyValue). p.table_id) one,
        )

    -- no call is refused
    taken_at : (s : Stage) → AtStage asked tries inv.first.holding h s →
        (now_at asked tries s (going_of h)).told ≡ Some Refused → ⊥
    taken_at Rests at e = omega (arith, ap some_code e)
    taken_at Begun at e =
        let b = begins_on h.plan h.known inv.run h.who inv.inside asked tries at.0 at.1 in
        let es = h.known ++ b.event ∷ [] in
        refused_in h.plan h.who es (run_more h.plan h.known b.event inv.run b.can)
        (ap (λ (g : Going). g.told) (ap (going_in h.plan h.who) (world_more h.plan h.known b.event) ∙ b.goes) ∙ e)
    taken_at Runs at e = refused_in h.plan h.who h.known inv.run e

    pub is_taken : (now_of asked tries value).told ≡ Some Refused → ⊥
    is_taken e = taken_at stage inv.at (subst (λ (v : RunningValue). (now_of asked tries v).told ≡ Some Refused)
        (sym view_is) e)
