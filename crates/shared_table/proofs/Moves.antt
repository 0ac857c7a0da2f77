-- A step of a seat keeps the rule.
use Rattle.std.proofs.Common.{◌≡◌, ◌≢◌, ℕ, ◌+◌, ◌<◌, Bool, true, false, cond, eqb, List, [], ◌∷◌, ◌++◌, length, get_or, set, zero, suc, refl, sym, ap, ◌∙◌, subst, arith, get_or-set_same, get_or-set_other, append_assoc}
use Rattle.std.specs.Prelude.{All, sum_by, count_by}
use prog.Atomic.{either}
use Rattle.std.proofs.lemmas.Bool.{eq-eqb, ne_eqb}
use Rattle.std.proofs.lemmas.List.{map-set, append-nil, set-get_or, set-set}
use Rattle.std.proofs.lemmas.List.Elements.{All-nil, All-cons, All-set}
use Rattle.std.proofs.lemmas.List.Sums.{sum_by-set, sum_by-cons, get_or-le-sum_by}
use mathlib.Core.Option.{some}
use lib.ListN.{get_elem?}
use Rattle.atomic_table.specs.Table.{State, keeps, stepped, Allows}
use Rattle.plain_map.specs.declared.calls.Call.{Call}
use Rattle.word_rows.specs.Shape.{Shape}
use Rattle.word_rows.specs.declared.addresses.Address.{Address}
use Rattle.word_rows.specs.Places.{place}
use Rattle.table_model.specs.declared.events.Event.{Event}
use Rattle.table_model.specs.Setup.{Setup, seats_of}
use Rattle.table_model.specs.SeatStates.{SeatState, fresh_seat}
use Rattle.table_model.specs.declared.events.Ask.{Ask}
use Rattle.table_model.specs.declared.events.Ask.TheVariants.{Load, Store, Exchange}
use Rattle.table_model.specs.Worlds.{World, IsRun, world_after, seat_in, found_by, words_after}
use Rattle.table_model.specs.Shown.{Holding, Bundle, IsOfRun}
use Rattle.shared_table.specs.declared.view.View.{View}
use Rattle.table_model.specs.Steps.{MayStep, event_of, advanced, address_of, becomes, told, IsOnWord}
use Rattle.table_model.specs.Fits.{EveryStepFits}
use Rattle.shared_table.specs.Fronts.{IsFrontOf}
use Rattle.shared_table.proofs.Fronts.{fronts_stay}
use Rattle.blank_laws.specs.OwnRows.{IsOwnPlace}
use Rattle.blank_laws.proofs.Others.{others_leave_own_rows}
use Rattle.shared_table.specs.declared.zeros.Zeros.{Zeros}
use Rattle.shared_table.specs.Rule.{bundles, Holds, M, alone, IsReached, Learned, asked_by, after_step, late_at, late_state, with_late, Steps, Moved}
use Rattle.shared_table.specs.Zeros.{AreLate, AsksFor, HasZeros, IsFor, IsLate}
use Rattle.shared_table.proofs.Learning.{learned_as, learned_none, learned_one, learned_then}
use Rattle.shared_table.proofs.Lists.{at_place, elem_map, elem_set, zero_elsewhere, all_but_one, count-snoc}
use Rattle.std.proofs.lemmas.List.{get_or_default}
use Rattle.play_laws.proofs.Worlds.{is_event, steps_world, words_are, found_is, run-snoc, world-snoc, length-world}

-- a test as a number
abbrev bit : Bool → ℕ
bit b = cond b 1 0

-- a bundle without the seat stays, where the world changes at that seat alone
module _ (setup : Setup) (events : List Event) (e : Event) (s : SeatState)
    (now : (world_after setup (events ++ e ∷ [])).seats ≡ set (world_after setup events).seats e.seat s) where
  -- what is known of another seat stays
  stays : (h : Holding) → h.seat ≢ e.seat → IsOfRun setup events h → IsOfRun setup (events ++ e ∷ []) h
  stays h ne r = record {
    opened = r.opened;
    seat = r.seat;
    state = r.state ∙ sym (ap (λ (ss : List SeatState). get_or ss h.seat fresh_seat) now
        ∙ get_or-set_other (world_after setup events).seats e.seat h.seat s fresh_seat ne);
    later = r.later ++ e ∷ [];
    known = ap (λ (es : List Event). es ++ e ∷ []) r.known ∙ append_assoc h.known r.later (e ∷ []);
    own =
        let far : eqb e.seat h.seat ≡ false = ne_eqb e.seat h.seat (λ k. ne (sym k)) in
        count-snoc (λ (x : Event). eqb x.seat h.seat) r.later e ∙ omega (arith, r.own, ap bit far);
  }

  -- so a bundle without the seat stays
  all_stay : (b : Bundle) → count_by (λ (h : Holding). eqb h.seat e.seat) b ≡ 0 → All (IsOfRun setup events) b →
      All (IsOfRun setup (events ++ e ∷ [])) b
  all_stay b none all k d inside =
      let h : Holding = get_or b k d in
      let le = get_or-le-sum_by (λ (x : Holding). cond (eqb x.seat e.seat) 1 0) b k d inside in
      let zero : bit (eqb h.seat e.seat) ≡ 0 = omega (arith, le, none) in
      let far : h.seat ≢ e.seat = λ same. absurd (omega (arith, zero, ap bit (eq-eqb h.seat e.seat same))) in
      stays h far (all k d inside)

-- what the rule says of a view of one seat
mine_of : (c : Setup) (s : State (Unit {0}) View) (r : Holds c s) (id : ℕ) (h : Holding) →
    get_elem? s.views id ≡ some (alone h).0 → IsOfRun c r.shows.events h
mine_of c s r id h at =
    let there : get_elem? (bundles s.views) id ≡ some (h ∷ []) =
    elem_map (λ (v : View). v.bundle) s.views id (alone h).0 at in
    let p = at_place (bundles s.views) id (h ∷ []) [] there in
    let all : All (IsOfRun c r.shows.events) (h ∷ []) =
    subst (All (IsOfRun c r.shows.events)) p.1 (r.shows.of_run id [] p.0) in
    all 0 h (omega arith)

-- the words of its own bucket rows are those that the seat knows
own_words : (c : Setup) (s : State (Unit {0}) View) (r : Holds c s) (id : ℕ) (h : Holding) →
    get_elem? s.views id ≡ some (alone h).0 → (place : ℕ) → IsOwnPlace c.shape h.seat place →
    get_or (world_after c r.shows.events).words place 0 ≡ get_or (world_after c h.known).words place 0
own_words c s r id h at place own =
    let mine = mine_of c s r id h at in
    ap (λ (es : List Event). get_or (world_after c es).words place 0) mine.known
    ∙ others_leave_own_rows c h.known mine.later h.seat place (subst (IsRun c) mine.known r.shows.is_run) mine.seat
    mine.own own

module _ (asked : ℕ × Call) (h : Holding) (s : State (Unit {0}) View) (r : Holds h.setup s) (id : ℕ)
    (at : get_elem? s.views id ≡ some (alone h).0)
    (may : MayStep h.setup h.seat asked h.state.account h.state.stand) where
  -- what the table was opened with
  abbrev c : Setup
  c = h.setup

  -- what the seat asks for
  abbrev a : Ask
  a = asked_by h asked

  -- the event of its step
  abbrev e : Event
  e = event_of h.seat asked h.state

  -- the world before the step
  abbrev w : World
  w = world_after c r.shows.events

  -- the word of the step
  abbrev word : ℕ
  word = place c.shape (address_of a)

  -- what it held
  abbrev n : ℕ
  n = get_or s.words word 0

  -- the run with the step
  abbrev run : List Event
  run = r.shows.events ++ e ∷ []

  -- the holding after the step
  abbrev then : Holding
  then = after_step h asked (told a n) r.shows.events

  -- the seat's view is among the views
  there : get_elem? (bundles s.views) id ≡ some (h ∷ [])
  there = elem_map (λ (v : View). v.bundle) s.views id (alone h).0 at

  -- at a place of the list
  inside : id < length (bundles s.views)
  inside = (at_place (bundles s.views) id (h ∷ []) [] there).0

  -- which has this bundle
  is_mine : get_or (bundles s.views) id [] ≡ h ∷ []
  is_mine = (at_place (bundles s.views) id (h ∷ []) [] there).1

  -- the seat is one of the run's
  mine : IsOfRun c r.shows.events h
  mine = mine_of c s r id h at

  -- the world has its state
  now_here : seat_in w h.seat ≡ h.state
  now_here = sym mine.state

  -- what it is told is what the definition finds
  found_same : told a n ≡ found_by c a w.words
  found_same = ap (λ (ws : List ℕ). told a (get_or ws word 0)) r.shows.same_words ∙ found_is c a w.words

  -- the world after the step
  world_is : world_after c run ≡ record {
    words = words_after c a w.words;
    seats = set w.seats h.seat (advanced c h.seat asked h.state (found_by c a w.words));
  }
  world_is = world-snoc c r.shows.events e ∙ steps_world c h.seat asked w h.state mine.seat now_here may

  -- in which this seat alone changed
  seats_are : (world_after c run).seats ≡ set w.seats e.seat then.state
  seats_are = ap (λ (x : World). x.seats) world_is
      ∙ ap (λ (k : ℕ). set w.seats h.seat (advanced c h.seat asked h.state k)) (sym found_same)

  -- the run with the step is a run
  runs : IsRun c run
  runs = run-snoc c r.shows.events e r.shows.is_run (is_event c h.seat asked w h.state mine.seat now_here may)

  -- the world has all seats
  long : length w.seats ≡ seats_of c
  long = length-world c r.shows.events

  -- the seat has its new state
  here : seat_in (world_after c run) h.seat ≡ then.state
  here =
      ap (λ (ss : List SeatState). get_or ss h.seat fresh_seat) seats_are
      ∙ get_or-set_same w.seats h.seat then.state fresh_seat (omega (arith, long, mine.seat))

  -- the new state of the table
  abbrev after : State (Unit {0}) View
  after = stepped s word (becomes a n) id [] (alone then).0 keeps

  -- one view changed
  bundles_are : bundles after.views ≡ set (bundles s.views) id (then ∷ [])
  bundles_are = map-set (λ (v : View). v.bundle) s.views id (alone then).0

  -- the seat stands once, so in no other view
  abbrev times_of : ℕ → Bundle → ℕ
  times_of seat b = count_by (λ (x : Holding). eqb x.seat seat) b

  -- a seat stands once in a bundle of its own
  one_time : (x : Holding) → x.seat ≡ h.seat → times_of h.seat (x ∷ []) ≡ 1
  one_time x same = omega (
    arith,
    sum_by-cons (λ (y : Holding). cond (eqb y.seat h.seat) 1 0) x [],
    ap bit (eq-eqb x.seat h.seat same),
  )

  -- a step leaves the numbers of the seats as they are
  same_times : (seat : ℕ) → times_of seat (then ∷ []) ≡ times_of seat (h ∷ [])
  same_times seat = omega (
    arith,
    sum_by-cons (λ (y : Holding). cond (eqb y.seat seat) 1 0) then [],
    sum_by-cons (λ (y : Holding). cond (eqb y.seat seat) 1 0) h [],
  )

  -- the other views stay true
  others : (k : ℕ) (d : Bundle) → k < length (bundles s.views) → k ≢ id →
      All (IsOfRun c run) (get_or (bundles s.views) k d)
  others k d hk ne =
      let total : sum_by (times_of h.seat) (bundles s.views) ≡ 1 = r.shows.once h.seat mine.seat in
      let one : times_of h.seat (get_or (bundles s.views) id []) ≡ 1 = ap (times_of h.seat) is_mine ∙ one_time h refl in
      let same_d : get_or (bundles s.views) k d ≡ get_or (bundles s.views) k [] =
      get_or_default (bundles s.views) k d [] hk in
      let zero : times_of h.seat (get_or (bundles s.views) k []) ≡ 0 =
      zero_elsewhere (times_of h.seat) (bundles s.views) id k [] [] refl inside hk ne (total ∙ sym one) in
      all_stay c r.shows.events e then.state seats_are (get_or (bundles s.views) k d)
      (ap (times_of h.seat) same_d ∙ zero) (r.shows.of_run k d hk)

  -- and the seat's own is true of the new run
  mine_after : IsOfRun c run then
  mine_after = record {
    opened = refl;
    seat = mine.seat;
    state = sym here;
    later = [];
    known = sym (append-nil run);
    own = refl;
  }

  -- the words after it are those of the run with the step
  words_then : set s.words word (becomes a n) ≡ (world_after c run).words
  words_then =
      ap (λ (ws : List ℕ). set ws word (becomes a (get_or ws word 0))) r.shows.same_words
      ∙ sym (words_are c a w.words) ∙ sym (ap (λ (x : World). x.words) world_is)

  -- so the rule holds after the step
  goes_on : Holds c after
  goes_on = record {
    shows = record {
      events = run;
      is_run = runs;
      same_words = words_then;
      of_run = subst (All (λ (b : Bundle). All (IsOfRun c run) b)) (sym bundles_are)
          (all_but_one (λ (b : Bundle). All (IsOfRun c run) b) (bundles s.views) id (then ∷ [])
          (All-cons (IsOfRun c run) then [] mine_after (All-nil (IsOfRun c run))) others);
      once = λ seat hs.
          let cut = sum_by-set (times_of seat) (bundles s.views) id (then ∷ []) [] inside in
          let was = r.shows.once seat hs in
          ap (λ (bs : List Bundle). sum_by (times_of seat) bs) bundles_are
          ∙ omega (arith, cut, ap (times_of seat) is_mine, same_times seat, was);
    };
    fronts = All-set (λ (v : View). All (IsFrontOf c run) v.fronts) s.views id (alone then).0
        (All-nil (IsFrontOf c run)) (fronts_stay c r.shows.events (e ∷ []) s.views r.fronts);
  }

  -- and the step tells what a step of the seat has to tell
  stepped_to : (k : ℕ) → told a k ≡ told a n → Steps asked 0 h k (alone then)
  stepped_to k same = record {
    before = r.shows.events;
    learned = record { later = mine.later; is = mine.known; counts = mine.own };
    stays = λ place own. own_words c s r id h at place own;
    was = record { run = r.shows.is_run; seat = mine.seat; state = now_here };
    found = same ∙ found_same;
    is = ap (λ (j : ℕ). alone (after_step h asked j r.shows.events)) (sym same);
    reached = subst (λ (j : ℕ). IsReached (after_step h asked j r.shows.events)) (sym same)
        (record { run = runs; seat = mine.seat; state = here });
  }

-- whatever the table is, a step that the seat asks for can be taken
abbrev first_or : Holding → List Holding → Holding
first_or d [] = d
first_or d (x ∷ xs) = x

-- a token of one seat has one holding
pub alone_is : (h k : Holding) → alone h ≡ alone k → h ≡ k
alone_is h k e = ap (λ (m : M). first_or h m.0.bundle) e

-- ---- the steps that the seat takes late

-- so many of them have come into the run: the table is as it was, but for what the seat knows
record Taken (asked : ℕ × Call) (late : ℕ) (h : Holding) (s : State (Unit {0}) View) (id : ℕ) : Type 0 where
  events : List Event
  holds :
      Holds h.setup (record
      { words = s.words; homes = s.homes; views = set s.views id (alone (late_at asked late h events)).0 })
  learned : Learned h.seat late h.known events
  stays :
      (place : ℕ) → IsOwnPlace h.setup.shape h.seat place →
      get_or (world_after h.setup events).words place 0 ≡ get_or (world_after h.setup h.known).words place 0

-- the table with another view of the seat
abbrev with_view : State (Unit {0}) View → ℕ → View → State (Unit {0}) View
with_view s id v = record { words = s.words; homes = s.homes; views = set s.views id v }

-- a store of what stands there leaves the words
same_words : (setup : Setup) (a : Ask) (to : Address) (words : List ℕ) → a ≡ Store to 0 →
    get_or words (place setup.shape to) 0 ≡ 0 →
    set words (place setup.shape (address_of a)) (becomes a (get_or words (place setup.shape (address_of a)) 0)) ≡ words
same_words setup a to words is zero_there =
    subst (λ (b : Ask). set words (place setup.shape (address_of b))
    (becomes b (get_or words (place setup.shape (address_of b)) 0)) ≡ words) (sym is)
    (ap (λ (k : ℕ). set words (place setup.shape to) k) (sym zero_there) ∙ set-get_or words (place setup.shape to) 0)

module _ (asked : ℕ × Call) (zeros : Zeros) (h : Holding) (s : State (Unit {0}) View) (r : Holds h.setup s) (id : ℕ)
    (at : get_elem? s.views id ≡ some (alone h).0) (has : HasZeros h zeros) where
  -- the words of its own rows are those that it knows
  known_words : (place : ℕ) → IsOwnPlace h.setup.shape h.seat place →
      get_or s.words place 0 ≡ get_or (world_after h.setup h.known).words place 0
  known_words place own = ap (λ (ws : List ℕ). get_or ws place 0) r.shows.same_words
      ∙ own_words h.setup s r id h at place own

  -- one late step more
  taken_more : (late : ℕ) → IsLate asked zeros (with_late asked late h) → Taken asked late h s id →
      Taken asked (suc late) h s id
  taken_more late is t =
      let hl = late_at asked late h t.events in
      let sl = with_view s id (alone hl).0 in
      let at_l : get_elem? sl.views id ≡ some (alone hl).0 = elem_set s.views id (alone h).0 (alone hl).0 at in
      let zero_there = known_words (place h.setup.shape is.to) (has.own (place h.setup.shape is.to) is.at_zero)
      ∙ has.zero (place h.setup.shape is.to) is.at_zero in
      let stay = same_words h.setup (asked_by hl asked) is.to s.words is.asks zero_there in
      let before = t.holds.shows.events in
      let found = get_or s.words (place h.setup.shape (address_of (asked_by hl asked))) 0 in
      let none : told (asked_by hl asked) found ≡ 0 = ap (λ (a : Ask). told a found) is.asks in
      let views : set (set s.views id (alone hl).0) id (alone (after_step hl asked
      (told (asked_by hl asked) found) before)).0 ≡ set s.views id (alone (after_step hl asked 0 before)).0 =
      set-set s.views id (alone hl).0 _
      ∙ ap (λ (k : ℕ). set s.views id (alone (after_step hl asked k before)).0) none in
      let mine = mine_of h.setup sl t.holds id hl at_l in
      record {
        events = before ++ event_of h.seat asked (late_state asked late h) ∷ [];
        holds = subst (Holds h.setup) (λ i. record { words = stay i; homes = s.homes; views = views i })
            (goes_on asked hl sl t.holds id at_l is.may);
        learned =
            let others = learned_then h.seat late 0 h.known t.events before t.learned
            (record { later = mine.later; is = mine.known; counts = mine.own }) in
            learned_as h.seat (late + 0 + 1) (suc late) h.known
            (before ++ event_of h.seat asked (late_state asked late h) ∷ [])
            (learned_then h.seat (late + 0) 1 h.known before
            (before ++ event_of h.seat asked (late_state asked late h) ∷ []) others
            (learned_one h.seat before (event_of h.seat asked (late_state asked late h)) refl)) (omega arith);
        stays = λ place own. ap (λ (ws : List ℕ). get_or ws place 0)
            (sym (words_then asked hl sl t.holds id at_l is.may) ∙ stay) ∙ known_words place own;
      }

  -- all of them
  taken : (late : ℕ) → AreLate asked zeros late h → Taken asked late h s id
  taken zero all = record {
    events = h.known;
    holds =
        let place = at_place s.views id (alone h).0 (alone h).0 at in
        let views : s.views ≡ set s.views id (alone h).0 =
        sym (ap (λ (v : View). set s.views id v) (sym place.1) ∙ set-get_or s.views id (alone h).0) in
        subst (Holds h.setup) (λ i. record { words = s.words; homes = s.homes; views = views i }) r;
    learned = learned_none h.seat h.known;
    stays = λ place own. refl;
  }
  taken (suc late) all =
      taken_more late (all late (omega arith)) (taken late (λ k lt. all k (omega (arith, lt))))

-- a step behind them is the seat's step with them
with_taken : (asked : ℕ × Call) (late : ℕ) (h : Holding) (s : State (Unit {0}) View) (id : ℕ)
    (t : Taken asked late h s id) (k : ℕ) (w : M) → Steps asked 0 (late_at asked late h t.events) k w →
    Steps asked late h k w
with_taken asked late h s id t k w step = record {
  before = step.before;
  learned = learned_as h.seat (late + 0) late h.known step.before
      (learned_then h.seat late 0 h.known t.events step.before t.learned step.learned) (omega arith);
  stays = λ place own. step.stays place own ∙ t.stays place own;
  was = step.was;
  found = step.found;
  is = step.is;
  reached = step.reached;
}

-- what a step tells, by any word of which the seat is told the same
abbrev pub Tells : ℕ × Call → (late : ℕ) → Ask → M → ℕ → M → Type 0
Tells asked late a m n w = (k : ℕ) → told a k ≡ told a n → Moved asked late m k w

-- a seat that may step behind its late steps can take all of them, at the place of its word
moves_at : (c : Setup) (slots id : ℕ) (asked : ℕ × Call) (late : ℕ) (zeros : Zeros) (h : Holding) →
    HasZeros h zeros → AreLate asked zeros late h →
    MayStep h.setup h.seat asked (late_state asked late h).account (late_state asked late h).stand →
    Allows (Holds c) slots id (alone h)
    (place h.setup.shape (address_of (asked_by (with_late asked late h) asked)))
    (becomes (asked_by (with_late asked late h) asked))
    (λ n w. Tells asked late (asked_by (with_late asked late h) asked) (alone h) n w)
moves_at c slots id asked late zeros h has all may s r _ at _ =
    let same : h.setup ≡ c = (mine_of c s r id h at).opened in
    let r' : Holds h.setup s = subst (λ (d : Setup). Holds d s) (sym same) r in
    let t = taken asked zeros h s r' id at has late all in
    let hl = late_at asked late h t.events in
    let sl = with_view s id (alone hl).0 in
    let at_l : get_elem? sl.views id ≡ some (alone hl).0 = elem_set s.views id (alone h).0 (alone hl).0 at in
    let found = n asked hl sl t.holds id at_l may in
    let last = alone (after_step hl asked (told (asked_by hl asked) found) t.holds.shows.events) in (
      last.0,
      keeps,
      tt,
      subst (λ (d : Setup). Holds d (stepped s (place h.setup.shape (address_of (asked_by hl asked)))
          (becomes (asked_by hl asked) found) id [] last.0 keeps)) same
          (subst (λ (vs : List View). Holds h.setup (record {
            words = set s.words (place h.setup.shape (address_of (asked_by hl asked)))
                (becomes (asked_by hl asked) found);
            homes = s.homes;
            views = vs;
          }))
          (set-set s.views id (alone hl).0 last.0) (goes_on asked hl sl t.holds id at_l may)),
      λ k told_same h' is. subst (λ (x : Holding). Steps asked late x k last) (alone_is h h' is)
          (with_taken asked late h s id t k last (stepped_to asked hl sl t.holds id at_l may k told_same)),
    )

-- the two ways to choose are one
either_is : (b : Bool) (x y : ℕ) → cond b x y ≡ either b x y
either_is true x y = refl
either_is false x y = refl

module _ (asked : ℕ × Call) (late : ℕ) (zeros : Zeros) where
  -- so can one that asks for it
  pub moves : (c : Setup) (slots id : ℕ) (a : Ask) (h : Holding) (m : M) → AsksFor asked late zeros a h m →
      Allows (Holds c) slots id m (place h.setup.shape (address_of a)) (becomes a) (λ n w. Tells asked late a m n w)
  moves c slots id a h m ask =
      subst (λ (u : Ask × M). Allows (Holds c) slots id u.1 (place h.setup.shape (address_of u.0)) (becomes u.0)
      (λ n w. Tells asked late u.0 u.1 n w)) (λ i. (ask.asks i, sym ask.one i))
      (moves_at c slots id asked late zeros h ask.has_zeros ask.are_late ask.may)

  -- the words of the four kinds of step
  pub loads : (c : Setup) (slots id : ℕ) (from : Address) (h : Holding) (m : M) →
      AsksFor asked late zeros (Load from) h m →
      Allows (Holds c) slots id m (place h.setup.shape from) (λ n. n) (λ n w. Moved asked late m n w)
  loads c slots id from h m ask s r homes at few =
      let go = moves c slots id (Load from) h m ask s r homes at few in
      (go.0, go.1, go.2, go.3, go.4 (get_or s.words (place h.setup.shape from) 0) refl)

  -- a store
  pub stores : (c : Setup) (slots id : ℕ) (to : Address) (word k : ℕ) (h : Holding) (m : M) →
      AsksFor asked late zeros (Store to word) h m →
      Allows (Holds c) slots id m (place h.setup.shape to) (λ _. word) (λ _ w. Moved asked late m k w)
  stores c slots id to word k h m ask s r homes at few =
      let go = moves c slots id (Store to word) h m ask s r homes at few in
      (go.0, go.1, go.2, go.3, go.4 k refl)

  -- an exchange
  pub exchanges : (c : Setup) (slots id : ℕ) (at : Address) (old new : ℕ) (h : Holding) (m : M) →
      AsksFor asked late zeros (Exchange at old new) h m →
      Allows (Holds c) slots id m (place h.setup.shape at) (λ n. either (eqb n old) new n)
      (λ n w. Moved asked late m n w)
  exchanges c slots id at old new h m ask =
      subst (λ (f : ℕ → ℕ). Allows (Holds c) slots id m (place h.setup.shape at) f (λ n w. Moved asked late m n w))
      (λ k n. either_is (eqb n old) new n k)
      (λ s r homes there few.
      let go = moves c slots id (Exchange at old new) h m ask s r homes there few in
      (go.0, go.1, go.2, go.3, go.4 (get_or s.words (place h.setup.shape at) 0) refl))

  -- ---- at the place of its word, in a table of this shape
  module _ (shape : Shape) where
    -- what is asked for is a word of the table
    pub on_word : EveryStepFits → (a : Ask) (m : M) → IsFor shape asked late zeros a m → IsOnWord shape a
    on_word law a m f =
        let h : Holding = f.holding in
        let state = late_state asked late h in
        let r : IsReached (with_late asked late h) = f.asks.there in
        subst (λ (u : Shape × Ask). IsOnWord u.0 u.1) (λ i. (f.shape_is i, f.asks.asks i))
        (law h.setup (with_late asked late h).known h.seat asked state r.run r.seat r.state f.asks.may).on_word

    -- the place of a word, by the shape of the table
    place_is : (a : Ask) (m : M) (f : IsFor shape asked late zeros a m) (at : Address) (p : ℕ) → p ≡ place shape at →
        place f.holding.setup.shape at ≡ p
    place_is a m f at p e = ap (λ (u : Shape). place u at) f.shape_is ∙ sym e

    -- a load there
    pub loads_at : (c : Setup) (slots id : ℕ) (from : Address) (m : M) (p : ℕ) →
        IsFor shape asked late zeros (Load from) m → p ≡ place shape from →
        Allows (Holds c) slots id m p (λ n. n) (λ n w. Moved asked late m n w)
    loads_at c slots id from m p f e =
        subst (λ (k : ℕ). Allows (Holds c) slots id m k (λ n. n) (λ n w. Moved asked late m n w))
        (place_is (Load from) m f from p e) (loads c slots id from f.holding m f.asks)

    -- a store there
    pub stores_at : (c : Setup) (slots id : ℕ) (to : Address) (word : ℕ) (m : M) (p : ℕ) →
        IsFor shape asked late zeros (Store to word) m → p ≡ place shape to →
        Allows (Holds c) slots id m p (λ _. word) (λ _ w. Moved asked late m word w)
    stores_at c slots id to word m p f e =
        subst (λ (k : ℕ). Allows (Holds c) slots id m k (λ _. word) (λ _ w. Moved asked late m word w))
        (place_is (Store to word) m f to p e) (stores c slots id to word word f.holding m f.asks)

    -- an exchange there
    pub exchanges_at : (c : Setup) (slots id : ℕ) (at : Address) (old new : ℕ) (m : M) (p : ℕ) →
        IsFor shape asked late zeros (Exchange at old new) m → p ≡ place shape at →
        Allows (Holds c) slots id m p (λ n. either (eqb n old) new n) (λ n w. Moved asked late m n w)
    exchanges_at c slots id at old new m p f e =
        subst (λ (k : ℕ). Allows (Holds c) slots id m k (λ n. either (eqb n old) new n)
        (λ n w. Moved asked late m n w)) (place_is (Exchange at old new) m f at p e)
        (exchanges c slots id at old new f.holding m f.asks)

    -- a store tells 0
    pub tells_nothing : (to : Address) (word : ℕ) (m w : M) → IsFor shape asked late zeros (Store to word) m →
        Moved asked late m word w → Moved asked late m 0 w
    tells_nothing to word m w f moved h is =
        let s : Steps asked late h word w = moved h is in
        let ask : Ask = asked_by (with_late asked late h) asked in
        let same : ask ≡ Store to word =
        ap (λ (x : Holding). asked_by (with_late asked late x) asked) (alone_is h f.holding (sym is ∙ f.asks.one))
        ∙ f.asks.asks in
        let none : (k : ℕ) → told ask k ≡ 0 = λ k. ap (λ (a : Ask). told a k) same in
        let t : told ask word ≡ told ask 0 = none word ∙ sym (none 0) in
        record {
          before = s.before;
          learned = s.learned;
          stays = s.stays;
          was = s.was;
          found = sym t ∙ s.found;
          is = s.is ∙ ap (λ (k : ℕ). alone (after_step (with_late asked late h) asked k s.before)) t;
          reached = subst (λ (k : ℕ). IsReached (after_step (with_late asked late h) asked k s.before)) t s.reached;
        }
