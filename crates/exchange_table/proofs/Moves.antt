-- A step of a party keeps the rule.
use Rattle.std.proofs.Common.{◌≡◌, ◌≢◌, ℕ, zero, suc, ◌+◌, ◌-◌, ◌%◌, ◌^◌, ◌<◌, ◌≤◌, ◌⊎◌, inl, inr, eqb, List, [], ◌∷◌, ◌++◌, length, get_or, set, Option, refl, sym, ap, ◌∙◌, subst, arith, append_assoc, append-nil, length-set, get_or-set_same, get_or-set_other}
use Rattle.std.proofs.lemmas.Bool.{cases_eq}
use Rattle.std.proofs.lemmas.List.{length-append}
use mathlib.Core.Option.{some, some-injective, some-ne-none}
use lib.ListN.{get_elem?}
use prog.Atomic.{either}
use Rattle.atomic_table.specs.Table.{State}
use Rattle.plain_map.specs.declared.calls.Call.TheVariants.{Insert, Remove, Lookup, Tally, Count, Put}
use Rattle.exchange_model.specs.Plans.{Plan, holders_of}
use Rattle.exchange_model.specs.Words as W
use Rattle.exchange_model.specs.Words.{IsAt, place, word_count}
use Rattle.exchange_model.specs.Steps as S
use Rattle.exchange_model.specs.Steps.{Stand, SeatNow, Deed, Step, Peeking, bucket_of_call}
use Rattle.exchange_model.specs.Goes.{Asked, Called, Copied, Told}
use Rattle.exchange_model.specs.Laws.{GoesOn}
use Rattle.exchange_model.specs.Worlds.{World, Answer, Asker, BySeat, ByReader, Event, IsRun, found_by, happens, seat_in, store_after, world_after}
use Rattle.exchange_laws.proofs.TiedRuns.{seats_go_on}
use Rattle.exchange_laws.proofs.SmallWords.{words_are_small}
use Rattle.exchange_calls.specs.Going.{Going, Fits, Finds, IsOn, IsOpen, Task, deed, deed_at, goes, numbered, task}
use Rattle.exchange_calls.specs.Going.Task.{Rest, Load, Store, Exchange, Raise, Lower}
use Rattle.exchange_opening.specs.Openings.{HasWords}
use Rattle.exchange_table.specs.declared.view.View.{View}
use Rattle.exchange_table.specs.Parties.{CanCall, HasNone, Holding, IsParty, Under, UnderIn, begin_at, begin_of, begun, by_event, clean, going_in, going_of, answers_by, own_answers, party, stand_of, started, started_at, step_of, told_at}
use Rattle.exchange_table.specs.Rule.{Apart, Each, Holds, IsOfRun, StandsIn, Stepped, after_step, alone, known_after, lone}
use Rattle.exchange_table.proofs.Events.{clock_is, own_stays, party_other, run_more, world_more}
use Rattle.exchange_table.proofs.Acting.{Flies, Steps, begins_on, flies_there, stand_code, steps_on}
use Rattle.exchange_table.proofs.Places.{after_load, after_store, after_swap, found, held_same}
use Rattle.exchange_table.proofs.Pendings.{lower_least}
use Rattle.exchange_table.proofs.Spelled.{rows_are_spelled}

-- ---- lists

-- what stands at a place
pub at_place : {X : Type 0} (xs : List X) (i : ℕ) (x d : X) → get_elem? xs i ≡ some x →
    (i < length xs) × (get_or xs i d ≡ x)
at_place [] i x d e = absurd (some-ne-none x (sym e))
at_place (y ∷ ys) zero x d e = (omega arith, some-injective y x e)
at_place (y ∷ ys) (suc i) x d e = let r = at_place ys i x d e in (omega (arith, r.0), r.1)

pub elem_at : {X : Type 0} (xs : List X) (i : ℕ) (d : X) → i < length xs → get_elem? xs i ≡ some (get_or xs i d)
elem_at [] i d h = absurd (omega (arith, h))
elem_at (y ∷ ys) zero d h = refl
elem_at (y ∷ ys) (suc i) d h = elem_at ys i d (omega (arith, h))

-- what stands in a list in which one element has changed
pub set_place : {X : Type 0} (xs : List X) (id : ℕ) (w : X) (i : ℕ) (v : X) → id < length xs →
    get_elem? (set xs id w) i ≡ some v → ((i ≡ id) × (w ≡ v)) ⊎ ((i ≢ id) × (get_elem? xs i ≡ some v))
set_place xs id w i v less e =
    let p = at_place (set xs id w) i v w e in
    let long = length-set xs id w in
    elim (cases_eq i id) [
      | inl same ↦ inl (same, sym (ap (λ k. get_or (set xs id w) k w) same ∙ get_or-set_same xs id w w less) ∙ p.1)
      | inr other ↦ inr (
        other,
        elem_at xs i w (omega (arith, p.0, long))
            ∙ ap some (sym (get_or-set_other xs id i w w other) ∙ p.1),
      )
    ]

pub each_map : (P Q : Holding → Type 0) → (hs : List Holding) → ((h : Holding) → P h → Q h) → Each P hs → Each Q hs
each_map P Q [] f k = tt
each_map P Q (h ∷ hs) f k = (f h k.0, each_map P Q hs f k.1)

pub none_both : (who : Asker) (es fs : List Event) → HasNone who es → HasNone who fs → HasNone who (es ++ fs)
none_both who [] fs a b = b
none_both who (e ∷ es) fs a b = (a.0, none_both who es fs a.1 b)

-- one party stands in one view
pub stands_once : (f : ℕ → ℕ) (a b : ℕ) (who : Asker) → StandsIn f a who → StandsIn f b who → a ≡ b
stands_once f a b (BySeat q) j k = sym j ∙ k
stands_once f a b (ByReader r) j k = sym j ∙ k

-- ---- what is asked for

abbrev pub task_code : Task → ℕ
task_code Rest = 0
task_code (Load at) = 1
task_code (Store at word) = 2
task_code (Exchange at old new) = 3
task_code (Raise at) = 4
task_code (Lower at) = 5

abbrev pub task_at : Task → ℕ
task_at Rest = 0
task_at (Load at) = at
task_at (Store at word) = at
task_at (Exchange at old new) = at
task_at (Raise at) = at
task_at (Lower at) = at

abbrev pub task_word : Task → ℕ
task_word Rest = 0
task_word (Load at) = 0
task_word (Store at word) = word
task_word (Exchange at old new) = old
task_word (Raise at) = 0
task_word (Lower at) = 0

abbrev pub task_new : Task → ℕ
task_new Rest = 0
task_new (Load at) = 0
task_new (Store at word) = 0
task_new (Exchange at old new) = new
task_new (Raise at) = 0
task_new (Lower at) = 0

module _ (plan : Plan) (ws : List ℕ) (st : W.Store) (has : HasWords plan ws st) (long : length ws ≡ word_count plan)
  where
    load_there : (d : Deed) → IsOn plan d → (at : ℕ) → numbered plan d ≡ Load at →
        HasWords plan (set ws at (get_or ws at 0)) (store_after d st) × (found_by d st ≡ get_or ws at 0)
    load_there S.Nothing on at e = absurd (omega (arith, ap task_code e))
    load_there (S.Load from) on at e =
        subst (λ p. HasWords plan (set ws p (get_or ws p 0)) st × (W.held_at st from ≡ get_or ws p 0)) (ap task_at e)
        (after_load plan ws st has long from on, sym (found plan ws st has long from on))
    load_there (S.Store to word) on at e = absurd (omega (arith, ap task_code e))
    load_there (S.Swap to old new) on at e = absurd (omega (arith, ap task_code e))
    load_there (S.Raise to) on at e = absurd (omega (arith, ap task_code e))
    load_there (S.Lower to) on at e = absurd (omega (arith, ap task_code e))

    store_there : (d : Deed) → IsOn plan d → (at word : ℕ) → numbered plan d ≡ Store at word →
        HasWords plan (set ws at word) (store_after d st) × (found_by d st ≡ 0)
    store_there S.Nothing on at word e = absurd (omega (arith, ap task_code e))
    store_there (S.Load from) on at word e = absurd (omega (arith, ap task_code e))
    store_there (S.Store to w) on at word e = (
      subst (λ (z : ℕ × ℕ). HasWords plan (set ws (z.0) (z.1)) (W.with_word st to w))
          (λ i. (ap task_at e i, ap task_word e i)) (after_store plan ws st has long to on w),
      refl,
    )
    store_there (S.Swap to old new) on at word e = absurd (omega (arith, ap task_code e))
    store_there (S.Raise to) on at word e = absurd (omega (arith, ap task_code e))
    store_there (S.Lower to) on at word e = absurd (omega (arith, ap task_code e))

    swap_there : (d : Deed) → IsOn plan d → (at old new : ℕ) → numbered plan d ≡ Exchange at old new →
        HasWords plan (set ws at (either (eqb (get_or ws at 0) old) new (get_or ws at 0))) (store_after d st)
        × (found_by d st ≡ get_or ws at 0)
    swap_there S.Nothing on at old new e = absurd (omega (arith, ap task_code e))
    swap_there (S.Load from) on at old new e = absurd (omega (arith, ap task_code e))
    swap_there (S.Store to w) on at old new e = absurd (omega (arith, ap task_code e))
    swap_there (S.Swap to o w) on at old new e =
        subst (λ (z : ℕ × ℕ × ℕ). HasWords plan (set ws (z.0) (either (eqb (get_or ws (z.0) 0) (z.1)) (z.2) (get_or ws
        (z.0) 0)))
        (store_after (S.Swap to o w) st) × (W.held_at st to ≡ get_or ws (z.0) 0))
        (λ i. (ap task_at e i, ap task_word e i, ap task_new e i))
        (after_swap plan ws st has long to on o w, sym (found plan ws st has long to on))
    swap_there (S.Raise to) on at old new e = absurd (omega (arith, ap task_code e))
    swap_there (S.Lower to) on at old new e = absurd (omega (arith, ap task_code e))

    raise_there : (d : Deed) → IsOn plan d → (at : ℕ) → numbered plan d ≡ Raise at →
        HasWords plan (set ws at (get_or ws at 0 + 1)) (store_after d st) × (found_by d st ≡ get_or ws at 0)
    raise_there S.Nothing on at e = absurd (omega (arith, ap task_code e))
    raise_there (S.Load from) on at e = absurd (omega (arith, ap task_code e))
    raise_there (S.Store to w) on at e = absurd (omega (arith, ap task_code e))
    raise_there (S.Swap to o w) on at e = absurd (omega (arith, ap task_code e))
    raise_there (S.Raise to) on at e =
        let there = found plan ws st has long to on in
        subst (λ p. HasWords plan (set ws p (get_or ws p 0 + 1)) (store_after (S.Raise to) st)
        × (W.held_at st to ≡ get_or ws p 0)) (ap task_at e) (
          subst (λ n. HasWords plan (set ws (place plan to) (n + 1)) (store_after (S.Raise to) st)) (sym there)
              (after_store plan ws st has long to on (W.held_at st to + 1)),
          sym there,
        )
    raise_there (S.Lower to) on at e = absurd (omega (arith, ap task_code e))

    lower_there : (d : Deed) → IsOn plan d → (at : ℕ) → numbered plan d ≡ Lower at →
        HasWords plan (set ws at (get_or ws at 0 - 1)) (store_after d st) × (found_by d st ≡ get_or ws at 0)
    lower_there S.Nothing on at e = absurd (omega (arith, ap task_code e))
    lower_there (S.Load from) on at e = absurd (omega (arith, ap task_code e))
    lower_there (S.Store to w) on at e = absurd (omega (arith, ap task_code e))
    lower_there (S.Swap to o w) on at e = absurd (omega (arith, ap task_code e))
    lower_there (S.Raise to) on at e = absurd (omega (arith, ap task_code e))
    lower_there (S.Lower to) on at e =
        let there = found plan ws st has long to on in
        subst (λ p. HasWords plan (set ws p (get_or ws p 0 - 1)) (store_after (S.Lower to) st)
        × (W.held_at st to ≡ get_or ws p 0)) (ap task_at e) (
          subst (λ n. HasWords plan (set ws (place plan to) (n - 1)) (store_after (S.Lower to) st)) (sym there)
              (after_store plan ws st has long to on (W.held_at st to - 1)),
          sym there,
        )

-- whoever asks for a word is under way
pub flies_at : (g : Going) (stand : Stand) (t : Task) → numbered g.plan (deed_at g stand) ≡ t → 1 ≤ task_code t →
    Flies stand
flies_at g S.Idle t e least = absurd (omega (arith, ap task_code e, least))
flies_at g (S.Goes call step) t e least = tt
flies_at g (S.Glances aim glance) t e least = tt

-- ---- what is known stays

-- what was told last is not looked at by a begin
begun_same : (asked : Asked) (tries : ℕ) (g h : Going) → (told : Option Told) → g ≡ record h { told = told } →
    begun asked tries g ≡ begun asked tries h
begun_same (Called (Lookup key)) tries g h told e = ap (begun (Called (Lookup key)) tries) e
begun_same (Called (Insert key value)) tries g h told e = ap (begun (Called (Insert key value)) tries) e
begun_same (Called (Remove key)) tries g h told e = ap (begun (Called (Remove key)) tries) e
begun_same (Called (Tally key amount)) tries g h told e = ap (begun (Called (Tally key amount)) tries) e
begun_same (Called (Count key value amount)) tries g h told e = ap (begun (Called (Count key value amount)) tries) e
begun_same (Called (Put key value)) tries g h told e = ap (begun (Called (Put key value)) tries) e
begun_same (Copied bucket) tries g h told e = ap (begun (Copied bucket) tries) e

-- to a party under way nothing is told
no_told : (stand : Stand) (xs ys : List Answer) → Flies stand → told_at stand xs ≡ told_at stand ys
no_told S.Idle xs ys f = absurd f
no_told (S.Goes call step) xs ys f = refl
no_told (S.Glances aim glance) xs ys f = refl

-- and it is under way however the answers of others go on
under_still : (who : Asker) (asked : Asked) (start : ℕ) (had : List Answer) (now : SeatNow) (stand : Stand)
    (xs ys : List Answer) → answers_by who ys ≡ answers_by who xs → Flies stand →
    Under who asked start had now stand xs → Under who asked start had now stand ys
under_still who asked start had now S.Idle xs ys same f k = absurd f
under_still who asked start had now (S.Goes call step) xs ys same f k = (k.0, k.1, same ∙ k.2)
under_still who asked start had now (S.Glances aim glance) xs ys same f k = (k.0, k.1, same ∙ k.2)

module _ (asked : Asked) (tries : ℕ) (h : Holding) (s : State (Unit {0}) View) (r : Holds h.plan s) (id : ℕ)
    (at : get_elem? s.views id ≡ some (lone h))
    (may : (party (world_after h.plan h.known) h.who).stand ≡ S.Idle →
    CanCall h.plan h.who (party (world_after h.plan h.known) h.who) asked tries)
    (flies : Flies (started asked tries h).now.stand) where
  abbrev plan : Plan
  plan = h.plan

  abbrev who : Asker
  who = h.who

  abbrev x : World
  x = world_after plan r.events

  abbrev was : World
  was = world_after plan h.known

  mine : IsOfRun plan r.events r.seat_at id h
  mine = (r.of_run id (lone h) at).0

  -- the run, with the begin of its call
  abbrev ready : Stand → List Event
  ready stand = r.events ++ begin_at stand (begin_of who asked tries)

  -- what is known then
  record Ready (stand : Stand) : Type 0 where
    run : IsRun plan (ready stand)
    store : (world_after plan (ready stand)).store ≡ x.store
    going : going_in plan who (world_after plan (ready stand)) ≡ started_at stand asked tries (going_of h)
    other : (o : Asker) → who ≢ o → party (world_after plan (ready stand)) o ≡ party x o
    by : (o : Asker) → who ≢ o → HasNone o (begin_at stand (begin_of who asked tries))
    first : (start : ℕ) → start ≤ length h.known → stand ≡ S.Idle →
        UnderIn who asked start (own_answers h) (world_after plan (ready stand))
    on : (start : ℕ) (had : List Answer) → UnderIn who asked start had was → (stand ≡ S.Idle → ⊥) →
        UnderIn who asked start had (world_after plan (ready stand))

  -- it stands there
  party_same : party x who ≡ party was who
  party_same = mine.state

  own_same : answers_by who x.answers ≡ own_answers h
  own_same = subst (λ (es : List Event). answers_by who (world_after plan es).answers ≡ own_answers h) (sym mine.known)
      (own_stays plan who h.known mine.later (subst (IsRun plan) mine.known r.run) mine.none)

  clean_same : (told : Option Told) → going_in plan who x ≡ record (going_of h) { told = (going_in plan who x).told }
  clean_same told i = record {
    plan = plan;
    holds = (going_of h).holds;
    seat = (going_of h).seat;
    now = clean (party_same i);
    told = (going_in plan who x).told;
  }

  flying_ready : (stand : Stand) → (party was who).stand ≡ stand → Flies stand → begin_at stand (begin_of who
      asked tries) ≡ [] →
      started_at stand asked tries (going_of h) ≡ going_of h → (stand ≡ S.Idle → ⊥) → Ready stand
  flying_ready stand e f none same busy =
      let is : ready stand ≡ r.events = ap (λ (es : List Event). r.events ++ es) none ∙ append-nil r.events in
      let world : world_after plan (ready stand) ≡ x = ap (world_after plan) is in
      let flight : Flies (party x who).stand = subst Flies (sym (ap (λ (k : SeatNow). k.stand) party_same ∙ e))
      f in
      record {
        run = subst (IsRun plan) (sym is) r.run;
        store = ap (λ (z : World). z.store) world;
        going = ap (going_in plan who) world
            ∙ (λ i. record {
              plan = plan;
              holds = (going_of h).holds;
              seat = (going_of h).seat;
              now = clean (party x who);
              told = no_told (party x who).stand x.answers was.answers flight i;
            })
            ∙ (λ i. record {
              plan = plan;
              holds = (going_of h).holds;
              seat = (going_of h).seat;
              now = clean (party_same i);
              told = told_at (party_same i).stand was.answers;
            })
            ∙ sym same;
        other = λ o n. ap (λ (z : World). party z o) world;
        by = λ o n. subst (HasNone o) (sym none) tt;
        first = λ start less idle. absurd (busy idle);
        on = λ start had k _. subst (UnderIn who asked start had) (sym world)
            (under_still who asked start had (party x who) (party x who).stand was.answers x.answers own_same flight
            (subst (λ (m : SeatNow). Under who asked start had m m.stand was.answers) (sym party_same) k));
      }

  idle_ready : (party was who).stand ≡ S.Idle → Ready S.Idle
  idle_ready e =
      let idle : (party x who).stand ≡ S.Idle = ap (λ (k : SeatNow). k.stand) party_same ∙ e in
      let b = begins_on plan r.events r.run who mine.inside asked tries idle
      (subst (λ (k : SeatNow). CanCall plan who k asked tries) (sym party_same) (may e)) in
      let is : ready S.Idle ≡ r.events ++ b.event ∷ [] = ap (λ (es : List Event). r.events ++ es) b.is in
      let world : world_after plan (ready S.Idle) ≡ happens plan x b.event =
      ap (world_after plan) is ∙ world_more plan r.events b.event in
      record {
        run = subst (IsRun plan) (sym is) (run_more plan r.events b.event r.run b.can);
        store = ap (λ (z : World). z.store) world ∙ b.store;
        going = ap (going_in plan who) world ∙ b.goes
            ∙ begun_same asked tries (going_in plan who x) (going_of h) (going_in plan who x).told
            (clean_same (going_in plan who x).told);
        other = λ o n. ap (λ (z : World). party z o) world
            ∙ party_other plan x b.event b.can o (λ same. n (sym b.by ∙ same));
        by = λ o n. subst (HasNone o) (sym b.is) ((λ same. n (sym b.by ∙ same)), tt);
        first = λ start less _. subst (UnderIn who asked start (own_answers h)) (sym world)
            (b.under start (own_answers h)
            (let clock = clock_is plan r.events r.run in
            let long = ap (λ (es : List Event). length es) mine.known ∙ length-append h.known mine.later in
            omega (arith, less, clock, long)) own_same);
        on = λ start had k busy. absurd (busy refl);
      }

  ready_at : (stand : Stand) → (party was who).stand ≡ stand → Ready stand
  ready_at S.Idle e = idle_ready e
  ready_at (S.Goes call step) e =
      flying_ready (S.Goes call step) e tt refl refl (λ same. omega (arith, ap stand_code same))
  ready_at (S.Glances aim glance) e =
      flying_ready (S.Glances aim glance) e tt refl refl (λ same. omega (arith, ap stand_code same))

  -- ---- and its step

  abbrev stand : Stand
  stand = (party was who).stand

  here : Ready stand
  here = ready_at stand refl

  abbrev before : List Event
  before = ready stand

  abbrev y : World
  y = world_after plan before

  abbrev g : Going
  g = started asked tries h

  flight : Flies (party y who).stand
  flight = subst (λ (k : Going). Flies k.now.stand) (sym here.going) flies

  step : Steps plan who y
  step = steps_on plan before here.run who mine.inside flight

  -- the run with it
  abbrev fin : List Event
  fin = known_after asked tries h r.events

  run_fin : IsRun plan fin
  run_fin = run_more plan before (step_of who) here.run step.event

  world_fin : world_after plan fin ≡ happens plan y (step_of who)
  world_fin = world_more plan before (step_of who)

  -- the word that it takes
  abbrev d : Deed
  d = deed (going_in plan who y)

  same_task : task (going_in plan who y) ≡ task g
  same_task = ap task here.going

  by_step : (o : Asker) → by_event (step_of o) ≡ o
  by_step (BySeat q) = refl
  by_step (ByReader k) = refl

  other_fin : (o : Asker) → who ≢ o → party (world_after plan fin) o ≡ party x o
  other_fin o n = ap (λ (z : World). party z o) world_fin
      ∙ party_other plan y (step_of who) step.event o (λ e. n (sym (by_step who) ∙ e)) ∙ here.other o n

  none_new : (o : Asker) → who ≢ o → HasNone o (begin_at stand (begin_of who asked tries) ++ step_of who ∷ [])
  none_new o n = none_both o (begin_at stand (begin_of who asked tries)) (step_of who ∷ []) (here.by o n)
      ((λ e. n (sym (by_step who) ∙ e)), tt)

  fin_is : fin ≡ r.events ++ (begin_at stand (begin_of who asked tries) ++ step_of who ∷ [])
  fin_is = append_assoc r.events (begin_at stand (begin_of who asked tries)) (step_of who ∷ [])

  abbrev then : Holding
  then = after_step asked tries h r.events

  goes_fin : (word : ℕ) → found_by d y.store ≡ word → going_of then ≡ goes g word
  goes_fin word e = ap (going_in plan who) world_fin ∙ step.goes
      ∙ (λ i. goes (here.going i) (e i))

  -- ---- what holds of it

  open_stand : (o : Asker) (z : List Event) → IsRun plan z → IsOpen (party (world_after plan z) o).stand
  open_stand (BySeat q) z run = go (seat_in (world_after plan z) q).stand (seats_go_on plan z q run)
    where
      go : (k : Stand) → GoesOn k → IsOpen k
      go S.Idle f = tt
      go (S.Goes call S.Stuck) f = absurd f
      go (S.Goes call S.Scans) f = tt
      go (S.Goes call (S.LoadWord turn)) f = tt
      go (S.Goes call (S.LoadRow turn old words)) f = tt
      go (S.Goes call (S.CheckWord turn old words)) f = tt
      go (S.Goes call (S.LoadPending t)) f = tt
      go (S.Goes call (S.LoadAnnounced t ops)) f = tt
      go (S.Goes call (S.LoadOp t ops announced words)) f = tt
      go (S.Goes call (S.StoreRow t ops i)) f = tt
      go (S.Goes call (S.Exchange t ops)) f = tt
      go (S.Goes call S.RaisePending) f = tt
      go (S.Goes call (S.StoreOp i)) f = tt
      go (S.Goes call S.Announce) f = tt
      go (S.Goes call S.StoreWant) f = tt
      go (S.Goes call S.StoreAsking) f = tt
      go (S.Goes call S.HeldWord) f = tt
      go (S.Goes call (S.TakeHold old)) f = tt
      go (S.Goes call (S.HeldHead row)) f = tt
      go (S.Goes call (S.HeldEntry row at left)) f = tt
      go (S.Goes call (S.HeldReply row at)) f = tt
      go (S.Goes call (S.GiveBack reply)) f = tt
      go (S.Goes call (S.Over ending)) f = tt
      go (S.Goes call (S.LowerPending ending)) f = tt
      go (S.Glances aim glance) f = tt
  open_stand (ByReader k) z run = go ((world_after plan z).readers k).stand
    where
      go : (p : Peeking) → IsOpen (stand_of p)
      go S.Rests = tt
      go (S.Peeks aim glance) = tt

  finds_seat : (q : ℕ) → q < holders_of plan.settings → (k : Stand) → (seat_in y q).stand ≡ k →
      Finds plan k (found_by (deed_at (going_in plan (BySeat q) y) k) y.store)
  finds_seat q inside S.Idle e = tt
  finds_seat q inside (S.Goes call (S.CheckWord turn old words)) e = λ same.
      rows_are_spelled plan before q turn old call words here.run
      (flies_there plan before here.run q inside (S.Goes call (S.CheckWord turn old words)) e tt) e same
  finds_seat q inside (S.Goes call S.Scans) e = tt
  finds_seat q inside (S.Goes call (S.LoadWord turn)) e = tt
  finds_seat q inside (S.Goes call (S.LoadRow turn old words)) e = tt
  finds_seat q inside (S.Goes call (S.LoadPending t)) e = tt
  finds_seat q inside (S.Goes call (S.LoadAnnounced t ops)) e = tt
  finds_seat q inside (S.Goes call (S.LoadOp t ops announced words)) e = tt
  finds_seat q inside (S.Goes call (S.StoreRow t ops i)) e = tt
  finds_seat q inside (S.Goes call (S.Exchange t ops)) e = tt
  finds_seat q inside (S.Goes call S.RaisePending) e = tt
  finds_seat q inside (S.Goes call (S.StoreOp i)) e = tt
  finds_seat q inside (S.Goes call S.Announce) e = tt
  finds_seat q inside (S.Goes call S.StoreWant) e = tt
  finds_seat q inside (S.Goes call S.StoreAsking) e = tt
  finds_seat q inside (S.Goes call S.HeldWord) e = tt
  finds_seat q inside (S.Goes call (S.TakeHold old)) e = tt
  finds_seat q inside (S.Goes call (S.HeldHead row)) e = tt
  finds_seat q inside (S.Goes call (S.HeldEntry row at left)) e = tt
  finds_seat q inside (S.Goes call (S.HeldReply row at)) e = tt
  finds_seat q inside (S.Goes call (S.GiveBack reply)) e = tt
  finds_seat q inside (S.Goes call (S.Over ending)) e = tt
  finds_seat q inside (S.Goes call (S.LowerPending ending)) e = tt
  finds_seat q inside (S.Goes call S.Stuck) e = tt
  finds_seat q inside (S.Glances aim glance) e = tt

  finds_reader : (p : Peeking) (word : ℕ) → Finds plan (stand_of p) word
  finds_reader S.Rests word = tt
  finds_reader (S.Peeks aim glance) word = tt

  finds_party : (o : Asker) → IsParty plan o →
      Finds plan (party y o).stand (found_by (deed (going_in plan o y)) y.store)
  finds_party (BySeat q) inside = finds_seat q inside (seat_in y q).stand refl
  finds_party (ByReader k) inside =
      finds_reader (y.readers k).stand (found_by (deed (going_in plan (ByReader k) y)) y.store)

  fits_now : (word : ℕ) → found_by d y.store ≡ word → Fits g word
  fits_now word e = record {
    open_ = subst (λ (k : Going). IsOpen k.now.stand) (goes_fin word e) (open_stand who fin run_fin);
    finds = subst (λ (z : Going × ℕ). Finds (z.0).plan (z.0).now.stand (z.1)) (λ i. (here.going i, e i))
        (finds_party who mine.inside);
  }

  -- the step tells what it has to tell
  tells : (word : ℕ) → found_by d y.store ≡ word → Stepped asked tries h word (alone then)
  tells word e = record {
    before = r.events;
    later = mine.later;
    grew = mine.known;
    is = refl;
    run = run_fin;
    goes_to = goes_fin word e;
    fits = fits_now word e;
    first = λ start less idle. subst (UnderIn who asked start (own_answers h)) (sym world_fin)
        (step.under asked start (own_answers h) (here.first start less idle));
    on = λ start had k busy. subst (UnderIn who asked start had) (sym world_fin)
        (step.under asked start had (here.on start had k busy));
  }

  -- ---- the rule then

  placed : id < length s.views
  placed = (at_place s.views id (lone h) (lone h) at).0

  module _ (ws : List ℕ) (long : length ws ≡ word_count plan) (has : HasWords plan ws (store_after d y.store)) where
    abbrev after : State (Unit {0}) View
    after = record { words = ws; homes = s.homes; views = set s.views id (lone then) }

    then_of : IsOfRun plan fin r.seat_at id then
    then_of = record {
      opened = refl;
      inside = mine.inside;
      stands = mine.stands;
      later = [];
      known = sym (append-nil fin);
      none = tt;
      state = refl;
    }

    other_of : (i : ℕ) → i ≢ id → (k : Holding) → IsOfRun plan r.events r.seat_at i k → IsOfRun plan fin r.seat_at i k
    other_of i n k o =
        let apart : who ≢ k.who = λ same. n (stands_once r.seat_at i id k.who o.stands
        (subst (StandsIn r.seat_at id) same mine.stands)) in
        record {
          opened = o.opened;
          inside = o.inside;
          stands = o.stands;
          later = o.later ++ (begin_at stand (begin_of who asked tries) ++ step_of who ∷ []);
          known = fin_is ∙ ap (λ (es : List Event). es ++ (begin_at stand (begin_of who asked tries) ++ step_of who ∷
              []))
              o.known
              ∙ append_assoc k.known o.later (begin_at stand (begin_of who asked tries) ++ step_of who ∷ []);
          none = none_both k.who o.later (begin_at stand (begin_of who asked tries) ++ step_of who ∷ []) o.none
              (none_new k.who apart);
          state = other_fin k.who apart ∙ o.state;
        }

    pub goes_on : Holds plan after
    goes_on = record {
      events = fin;
      run = run_fin;
      long = long;
      words = subst (HasWords plan ws) (sym (ap (λ (z : World). z.store) world_fin ∙ step.store)) has;
      seat_at = r.seat_at;
      of_run = λ i v e. elim (set_place s.views id (lone then) i v placed e) [
        | inl z ↦ subst (λ (z2 : ℕ × View). Each (IsOfRun plan fin r.seat_at (z2.0)) (z2.1).bundle)
            (λ j. (sym (z.0) j, z.1 j)) (then_of, tt)
        | inr z ↦ each_map (IsOfRun plan r.events r.seat_at i) (IsOfRun plan fin r.seat_at i) v.bundle (other_of i z.0)
            (r.of_run i v z.1)
      ];
      apart = λ i v e. elim (set_place s.views id (lone then) i v placed e) [
        | inl z ↦ subst (λ (u : View). Apart u.bundle) z.1 (tt, tt)
        | inr z ↦ r.apart i v z.1
      ];
      rest = λ k less.
          let far : length s.views ≤ k = (let l = length-set s.views id (lone then) in omega (arith, less, l)) in
          ap (λ (m : SeatNow). m.stand) (other_fin (ByReader k) (λ same. no_such k far same)) ∙ r.rest k far;
    }
      where
        no_such : (k : ℕ) → length s.views ≤ k → who ≡ ByReader k → ⊥
        no_such k far same =
            let e : k ≡ id = subst (StandsIn r.seat_at id) same mine.stands in
            omega (arith, e, far, placed)

  -- ---- the kinds of step

  has_before : HasWords plan s.words y.store
  has_before = subst (HasWords plan s.words) (sym here.store) r.words

  asks_there : (t : Task) → task g ≡ t → numbered plan d ≡ t
  asks_there t e = same_task ∙ e

  abbrev pub Tells : (ws : List ℕ) (word : ℕ) → Type 0
  Tells ws word = Holds plan (record {
    words = ws;
    homes = s.homes;
    views = set s.views id (lone (after_step asked tries h r.events));
  }) × Stepped asked tries h word (alone (after_step asked tries h r.events))

  pub loads_to : (p : ℕ) → task g ≡ Load p → Tells (set s.words p (get_or s.words p 0)) (get_or s.words p 0)
  loads_to p e =
      let k = load_there plan s.words y.store has_before r.long d step.on_table p (asks_there (Load p) e) in (
        goes_on (set s.words p (get_or s.words p 0)) (length-set s.words p (get_or s.words p 0) ∙ r.long) k.0,
        tells (get_or s.words p 0) k.1,
      )

  pub stores_to : (p word : ℕ) → task g ≡ Store p word → Tells (set s.words p word) 0
  stores_to p word e =
      let k = store_there plan s.words y.store has_before r.long d step.on_table p word
      (asks_there (Store p word) e) in (
        goes_on (set s.words p word) (length-set s.words p word ∙ r.long) k.0,
        tells 0 k.1,
      )

  pub swaps_to : (p old new : ℕ) → task g ≡ Exchange p old new →
      Tells (set s.words p (either (eqb (get_or s.words p 0) old) new (get_or s.words p 0))) (get_or s.words p 0)
  swaps_to p old new e =
      let n = either (eqb (get_or s.words p 0) old) new (get_or s.words p 0) in
      let k = swap_there plan s.words y.store has_before r.long d step.on_table p old new
      (asks_there (Exchange p old new) e) in (
        goes_on (set s.words p n) (length-set s.words p n ∙ r.long) k.0,
        tells (get_or s.words p 0) k.1,
      )

  -- one more is a word of 64 bits
  raised_small : (k : Deed) → IsOn plan k → (p : ℕ) → numbered plan k ≡ Raise p →
      ((at : W.At) → IsAt plan at → W.held_at (store_after k y.store) at < 2 ^ 64) →
      found_by k y.store + 1 < 2 ^ 64
  raised_small S.Nothing on p e small = absurd (omega (arith, ap task_code e))
  raised_small (S.Load from) on p e small = absurd (omega (arith, ap task_code e))
  raised_small (S.Store to word) on p e small = absurd (omega (arith, ap task_code e))
  raised_small (S.Swap to old new) on p e small = absurd (omega (arith, ap task_code e))
  raised_small (S.Raise to) on p e small =
      subst (λ n. n < 2 ^ 64) (held_same y.store to (W.held_at y.store to + 1)) (small to on)
  raised_small (S.Lower to) on p e small = absurd (omega (arith, ap task_code e))

  words_then : (at : W.At) → IsAt plan at → W.held_at (store_after d y.store) at < 2 ^ 64
  words_then at there = subst (λ (z : W.Store). W.held_at z at < 2 ^ 64)
      (ap (λ (z : World). z.store) world_fin ∙ step.store) (words_are_small plan fin at run_fin there)

  pub raises_to : (p : ℕ) → task g ≡ Raise p →
      Tells (set s.words p ((get_or s.words p 0 + 1) % 2 ^ 64)) (get_or s.words p 0)
  raises_to p e =
      let n = get_or s.words p 0 in
      let k = raise_there plan s.words y.store has_before r.long d step.on_table p (asks_there (Raise p) e) in
      let small = raised_small d step.on_table p (asks_there (Raise p) e) words_then in
      let same : (n + 1) % 2 ^ 64 ≡ n + 1 = omega (arith, small, k.1) in (
        goes_on (set s.words p ((n + 1) % 2 ^ 64)) (length-set s.words p ((n + 1) % 2 ^ 64) ∙ r.long)
            (subst (λ w. HasWords plan (set s.words p w) (store_after d y.store)) (sym same) k.0),
        tells n k.1,
      )

  pub lowers_to : (p : ℕ) → task g ≡ Lower p → get_or s.words p 0 < 18446744073709551616 →
      Tells (set s.words p ((get_or s.words p 0 + (2 ^ 64 - 1)) % 2 ^ 64)) (get_or s.words p 0)
  lowers_to p e few =
      let n = get_or s.words p 0 in
      let k = lower_there plan s.words y.store has_before r.long d step.on_table p (asks_there (Lower p) e) in
      let least = lower_least plan before here.run who mine.inside p (asks_there (Lower p) e) in
      let same : (n + (2 ^ 64 - 1)) % 2 ^ 64 ≡ n - 1 = omega (arith, few, least, k.1) in (
        goes_on (set s.words p ((n + (2 ^ 64 - 1)) % 2 ^ 64))
            (length-set s.words p ((n + (2 ^ 64 - 1)) % 2 ^ 64) ∙ r.long)
            (subst (λ w. HasWords plan (set s.words p w) (store_after d y.store)) (sym same) k.0),
        tells n k.1,
      )
