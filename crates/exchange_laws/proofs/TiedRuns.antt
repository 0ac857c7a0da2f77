-- The table follows the protocol of announced ops from its opening on. So all that an exchange will apply is of the
-- class of its bucket.
use Rattle.std.proofs.Common.{◌≡◌, ℕ, zero, suc, ◌+◌, ◌^◌, ◌<◌, ◌≤◌, true, inl, Bool, false, cond, List, [], ◌∷◌, length, refl, sym, ap, ◌∙◌, subst, arith, true≢false, lt-ltb}
use Rattle.std.specs.Prelude.{fold, nat_lt}
use Rattle.std.proofs.lemmas.Bool.{ltb-true}
use Rattle.plain_map.specs.declared.calls.Call.{Call}
use Rattle.plain_map.specs.PlainObject.{InRange, Sessions, class_of}
use Rattle.bucket_states.specs.Items.{prefix_of}
use Rattle.exchange_model.specs.Plans.{born_row, holders_of, Plan, IsPlan, buckets_of, rules_of}
use Rattle.exchange_model.specs.Codes.{FIRST_GENERATION, born_word, last_generation, Row, row_words, row_in, row_at, generation_in}
use Rattle.exchange_model.specs.Steps as S
use Rattle.exchange_model.specs.Steps.{SeatNow, Found, Try, bucket_of_call}
use Rattle.exchange_model.specs.Worlds.{World, Event, IsEvent, AreEvents, seat_in, happens, opening_world, opening_store, world_after}
use Rattle.exchange_laws.proofs.Words.{seat_holds, generation_of_tag, rows_few}
use Rattle.exchange_laws.proofs.Owned.{Owned, left_of, held_of}
use Rattle.exchange_laws.proofs.OwnedEvents.{event_keeps, quiet}
use Rattle.exchange_laws.proofs.OwnedRuns.{seat_is, opening_owned}
use Rattle.exchange_laws.proofs.TrueReads.{IsFront, Reads, reads_keep, reads_first}
use Rattle.exchange_laws.proofs.RowWords.{row_stands}
use Rattle.exchange_laws.proofs.StoredRows.{Stored, stored_keep, stored_first}
use Rattle.exchange_laws.proofs.FoundOps.{FoundOk, found_keep, found_first}
use Rattle.exchange_laws.proofs.Changes.{IsHere, AreHere}
use Rattle.exchange_laws.proofs.Legals.{AreApt, AreAlwaysApt, legal_first, legal_follow}
use Rattle.exchange_laws.proofs.LegalMoves.{Legal}
use Rattle.exchange_laws.proofs.Held as Held
use Rattle.exchange_laws.proofs.HeldRuns.{tied_open, ties_next}
use Rattle.exchange_laws.proofs.MadeSeats.{AreOfSeats, seats_keep, seats_first}
use Rattle.exchange_laws.proofs.ItemsAgree.{items_agree}
use Rattle.std.specs.FinMap.{empty}
use Rattle.plain_map.specs.declared.keys.Pair.{Pair}
use Rattle.map_laws.specs.ByKey.{after_made}
use Rattle.bucket_states.specs.Parts.{HoldsPart}
use Rattle.exchange_laws.proofs.HeldFinds.{Finds, finds_keep, finds_first, held_live}
use Rattle.exchange_model.specs.Laws.{SeatsGoOn, UpdatesAreLegal, UpdatesAreOrdered, all_made}
use Rattle.exchange_laws.proofs.Pending.{Counted, HasShare, counted_keep, counted_first, others_over}
use Rattle.exchange_laws.proofs.FoundFrom.{Froms, froms_keep, froms_first}
use Rattle.exchange_laws.proofs.TakenCalls.{Taken}
use Rattle.exchange_laws.proofs.TakenEvents.{taken_keep, taken_first}
use Rattle.exchange_laws.proofs.HeldSeats.{Entered, entered_keep, entered_first}
use Rattle.exchange_laws.proofs.GoingOn.{GoOn, go_on_keep, go_on_first, all_go_on}
use Rattle.exchange_laws.proofs.Asked.{Asks}
use Rattle.exchange_laws.proofs.AskedSteps.{asks_keep}
use Rattle.exchange_laws.proofs.AskedRuns.{asks_first, are_asked}
use Rattle.exchange_laws.proofs.Announcing as A
use Rattle.exchange_laws.proofs.Announcing.{State, Holds}
use Rattle.exchange_laws.proofs.Announcements.{Announces, announces_keep, announces_first}
use Rattle.exchange_laws.proofs.Entries.{most, One, Match}
use Rattle.exchange_laws.proofs.Tied.{TryIs, TryAt}
use Rattle.exchange_laws.proofs.TiedSteps.{Follows, AreCounted}
use Rattle.exchange_laws.proofs.TiedEvents.{follows_keep}

module _ (plan : Plan) (is_plan : IsPlan plan) where
  -- ---- the opening

  first_state : State
  first_state = record {
    generation = λ _. 1;
    entry = λ _ _. 0;
    posted = λ _. 0;
    pending = λ _. false;
    home = λ _. 0;
    tries = λ _. A.NoTry;
    since = λ _. 0;
    done = λ _. 0;
  }

  first_holds : Holds plan.settings.seats (last_generation plan) first_state
  unfolding first_state
  first_holds = record {
    within = λ b q. omega arith;
    resting = λ b q e. omega arith;
    few = λ q e. absurd (true≢false (sym e));
    over = λ q e. refl;
    applied = λ q e. absurd (true≢false (sym e));
    waiting = λ q e. absurd (true≢false (sym e));
    early = λ q e. absurd (true≢false (sym e));
    covered = λ q e. absurd (true≢false (sym e));
    tries = λ p. tt;
  }

  zeros : row_at plan (λ i. 0) ≡ record { items = []; entries = [] }
  zeros =
      row_stands plan is_plan (record { items = []; entries = [] })
      (record { items = omega arith; few = omega arith; entries = tt }) (λ i. 0) front
    where
      front : IsFront (row_words (record { items = []; entries = [] })) (λ i. 0)
      front zero less = refl
      front (suc i) less = absurd (omega (arith, less))

  bucket_is : (b : ℕ) → b < buckets_of plan.settings → (opening_world plan).store.bucket b ≡ born_word plan b
  unfolding opening_store
  bucket_is b less = ap (λ (c : Bool). cond c (born_word plan b) 0) (lt-ltb b (buckets_of plan.settings) less)

  row_is : (r : ℕ) → row_at plan ((opening_world plan).store.row r) ≡ record { items = []; entries = [] }
  unfolding opening_store
  row_is r = zeros

  announced_is : (q : ℕ) → (opening_world plan).store.announced q ≡ 0
  unfolding opening_store
  announced_is q = refl

  pub follows_first : Follows plan is_plan (opening_world plan)
  unfolding first_state
  follows_first = record {
    s = first_state;
    tied = record {
      holds = first_holds;
      gens = λ b less.
          sym (ap (generation_in plan) (bucket_is b less)
          ∙ generation_of_tag plan FIRST_GENERATION (born_row plan b) (below b less));
      rows = λ b q less few. sym (ap (λ (r : Row). most q r.entries)
          (row_is (row_in plan ((opening_world plan).store.bucket b))));
      posted = λ q less. sym (ap (λ (k : SeatNow). k.posted) (seat_is plan is_plan q (seat_holds plan q less)));
      pends = λ q less. inl (refl, announced_is q);
      olds = λ row q none less. (let e = ap (λ (r : Row). most q r.entries) (row_is row) in omega (arith, e));
      each = λ q less. subst (λ (k : SeatNow). TryAt plan (opening_world plan).store.bucket
          (opening_world plan).store.op
          first_state q k.stand) (sym (seat_is plan is_plan q (seat_holds plan q less))) tt;
    };
  }
    where
      below : (b : ℕ) → b < buckets_of plan.settings → born_row plan b < 2 ^ plan.row_bits
      below b less = (let few = rows_few plan is_plan in omega (arith, few, less))

  -- ---- what is applied is of its bucket

  module _ (range : InRange (rules_of plan)) where
    module _ (first : Sessions) (b : ℕ) (seen : ℕ → ℕ) (fs : ℕ → A.Found) where
      one_here : (q : ℕ) (f : Found) → One plan b seen fs q f → IsHere (rules_of plan) range first b f
      unfolding class_of prefix_of
      one_here q S.NoOp o = tt
      one_here q (S.Keeps entry) o = tt
      one_here q (S.Takes op) o = o.1
      one_here q (S.Makes call) o = o.1

      all_here : (q : ℕ) (found : List Found) → Match plan b seen fs q found →
          AreHere (rules_of plan) range first b found
      all_here q [] m = tt
      all_here q (f ∷ found) m = (one_here q f m.0, all_here (suc q) found m.1)

    -- who exchanges has a row to give, so it is a seat
    is_seat : (x : World) (h : Owned plan x) (p : ℕ) → p < holders_of plan.settings →
        (call : Call) (t : Try) (found : List Found) →
        (seat_in x p).stand ≡ S.Goes call (S.Exchange t found) → p < plan.settings.seats
    is_seat x h p holds call t found stood =
        let q = quiet plan is_plan x h p holds (S.Goes call (S.Exchange t found)) stood (λ k. k) in
        by_pool (nat_lt p plan.settings.seats) refl q.0.enough (h.seats p holds).rows.all
      where
        by_pool : (c : Bool) → nat_lt p plan.settings.seats ≡ c → 1 ≤ length (seat_in x p).free →
            length (seat_in x p).free + (length (seat_in x p).kept + (length (left_of (seat_in x p).scan)
            + length (held_of (seat_in x p).scan))) ≡ cond c plan.spare 0 → p < plan.settings.seats
        by_pool true e some all = ltb-true p plan.settings.seats e
        by_pool false e some all = absurd (omega (arith, some, all))

    -- THE RESULT
    pub follows_apt : (x : World) → Owned plan x → Follows plan is_plan x → AreApt plan range is_plan x
    follows_apt x h f p call t found holds stood same first =
        let inside = is_seat x h p holds call t found stood in
        let b = bucket_of_call plan call in
        let a : TryAt plan x.store.bucket x.store.op f.s p (S.Goes call (S.Exchange t found)) =
        subst (TryAt plan x.store.bucket x.store.op f.s p) stood (f.tied.each p inside) in
        let i : TryIs plan f.s p b t found (length found) = a.1.1 same in
        all_here first b i.seen i.fs 0 found i.match

  -- ---- runs

  -- who finds its own share alone in what is pending knows that no other op is announced
  counts_of : (x : World) → Announces plan x → Counted plan x → AreCounted plan is_plan x
  counts_of x all c p call t inside stood alone q less other =
      others_over plan x all c p q inside less other
      (alone ∙ sym (subst (HasShare (c.shares p) (x.store.announced p) (seat_in x p).posted) stood (c.each p inside)))

  -- all that is known of a world by now
  pub record Known (x : World) : Type 0 where
    pub owned : Owned plan x
    pub held : Held.Tied plan x
    pub reads : Reads plan x
    pub spelled : FoundOk plan x
    pub stored : Stored plan x
    pub announces : Announces plan x
    pub counted : Counted plan x
    pub finds : Finds plan x
    pub follows : Follows plan is_plan x
    pub of_seats : AreOfSeats plan x
    pub froms : Froms plan x
    pub taken : Taken plan x
    pub asks : Asks plan x
    pub entered : Entered plan x held
    pub on : GoOn plan x

  pub known_keep : (x : World) → Known x → (event : Event) → IsEvent plan x event → Known (happens plan x event)
  known_keep x k event fits =
      let e = event_keeps plan is_plan x k.owned event fits in
      let counts = counts_of x k.announces k.counted in
      let announces = announces_keep plan x k.owned k.announces event fits in
      let next = ties_next plan is_plan x k.owned k.held event fits in
      let follows =
      follows_keep plan is_plan x k.owned k.reads k.spelled k.stored k.announces counts k.follows event fits
      e.moves in
      record {
        owned = e.owned;
        held = next.then;
        reads = reads_keep plan is_plan x k.owned k.reads event fits e.moves;
        spelled = found_keep plan x k.owned k.spelled event fits;
        stored = stored_keep plan is_plan x k.owned k.stored event fits;
        announces = announces;
        counted = counted_keep plan x k.owned k.announces k.counted event fits;
        of_seats = seats_keep plan x k.spelled k.of_seats event fits;
        finds = finds_keep plan is_plan x k.owned k.held k.finds event fits e.moves;
        follows = follows;
        froms = froms_keep plan x k.owned k.froms event fits;
        taken =
            taken_keep plan is_plan x k.owned k.reads k.spelled k.announces k.follows.s k.follows.tied k.taken event
            fits
            e.moves follows.s follows.tied announces;
        asks = asks_keep plan is_plan x k.owned k.reads k.spelled k.stored k.announces counts k.follows.s
            k.follows.tied k.froms
            k.taken k.finds (held_live plan x k.held) k.asks event fits e.moves;
        entered = entered_keep plan is_plan x k.owned k.held k.entered event fits next e.moves follows.s follows.tied;
        on = go_on_keep plan is_plan x k.owned k.held k.entered k.reads k.announces k.follows.s k.follows.tied k.froms
            k.finds
            k.asks k.on event fits;
      }

  pub known_first : Known (opening_world plan)
  known_first = record {
    owned = opening_owned plan is_plan;
    held = tied_open plan is_plan;
    reads = reads_first plan is_plan;
    spelled = found_first plan is_plan;
    stored = stored_first plan is_plan;
    announces = announces_first plan is_plan;
    counted = counted_first plan is_plan;
    finds = finds_first plan is_plan;
    follows = follows_first;
    of_seats = seats_first plan;
    froms = froms_first plan is_plan;
    taken = taken_first plan is_plan;
    asks = asks_first plan is_plan announced_is;
    entered = entered_first plan is_plan (tied_open plan is_plan);
    on = go_on_first plan is_plan;
  }

  -- THE RESULT: so it is in every run
  pub known_follow : (events : List Event) (x : World) → Known x → AreEvents plan x events →
      Known (fold (happens plan) x events)
  known_follow [] x k follow = k
  known_follow (event ∷ events) x k follow =
      known_follow events (happens plan x event) (known_keep x k event follow.0) follow.1

  -- THE RESULT: in every run the updates are legal, and each bucket has its class of what the plain map has after them
  module _ (range : InRange (rules_of plan)) where
    always_apt : (events : List Event) (x : World) → Known x → AreEvents plan x events →
        AreAlwaysApt plan range is_plan x events
    always_apt [] x k follow = follows_apt range x k.owned k.follows
    always_apt (event ∷ events) x k follow = (
      follows_apt range x k.owned k.follows,
      always_apt events (happens plan x event)
          (known_keep x k event follow.0) follow.1,
    )

    pub always_legal : (events : List Event) → AreEvents plan (opening_world plan) events →
        Legal plan range (fold (happens plan) (opening_world plan) events)
    always_legal events follow =
        let k = known_first in
        legal_follow plan range is_plan events (opening_world plan) k.owned k.reads k.spelled k.stored
        (legal_first plan range is_plan) follow (always_apt events (opening_world plan) k follow)

-- THE RESULT
pub updates_are_ordered : UpdatesAreOrdered
updates_are_ordered plan events run range =
    let l = always_legal plan run.opened range events run.follow in
    let k = known_follow plan run.opened events (opening_world plan) (known_first plan run.opened) run.follow in
    let x = world_after plan events in
    record {
      legal = l.legal;
      asked = λ seat less. are_asked plan x k.announces k.asks seat less;
      seats = k.of_seats;
      held = λ b less. subst (λ (items : List Pair). HoldsPart (rules_of plan) b plan.settings.depth items
          (after_made (rules_of plan) empty (all_made x.made)))
          (items_agree plan (x.store.row (row_in plan (x.store.bucket b)))) (l.held b less);
    }

pub updates_are_legal : UpdatesAreLegal
updates_are_legal plan events run range =
    let o = updates_are_ordered plan events run range in
    record { legal = o.legal; held = o.held; seats = o.seats }

-- THE RESULT: no seat is ever stuck
pub seats_go_on : SeatsGoOn
seats_go_on plan events seat run =
    let k = known_follow plan run.opened events (opening_world plan) (known_first plan run.opened) run.follow in
    all_go_on plan (world_after plan events) k.owned k.on seat
