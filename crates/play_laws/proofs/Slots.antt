-- One slot of a play: its events go on a run, and its seat comes nearer to its end.
use Rattle.std.proofs.Common.{◌≡◌, ◌≢◌, ℕ, suc, ◌+◌, ◌-◌, ◌*◌, ◌^◌, ◌<◌, ◌≤◌, ◌⊎◌, max, Bool, true, false, cond, List, [], ◌∷◌, ◌++◌, map, length, get_or, set, Option, Some, None, is_some, fold, inl, inr, refl, sym, ap, ◌∙◌, subst, arith, append-nil, length-append, length-set, get_or-set_same, get_or-set_other, lt-ltb, suc-mul}
use Rattle.std.proofs.lemmas.List.{get_or_past, set_past}
use Rattle.std.proofs.lemmas.List.Sums.{fold-append}
use Rattle.std.proofs.lemmas.Bool.{cases_eq, cases_lt, false≢true}
use Rattle.step_counts.specs.StepCounts.{step_bound, lookup_steps}
use Rattle.plain_map.specs.declared.calls.Call.{Call}
use Rattle.plain_map.specs.declared.calls.Call.TheVariants.{Lookup}
use Rattle.plain_map.specs.declared.full.Full.{Full}
use Rattle.table_model.specs.declared.events.Event.{Event}
use Rattle.table_model.specs.Setup.{Setup, seats_of, settings_of}
use Rattle.table_model.specs.Phases.{Phase, SeeDone, StoreOp, Announce, FindRoot, FindDepth, FindEntry, LookWord, LookCount, LookItems, TryWord, TryRow, TryAnnouncement, TryOp, TryStore, TryExchange, DirRoot, DirDepth, DirEntries, DirAnnouncement, DirOp, DirWord, DirRow, DirStore, DirExchange, LastWord, LastRow, StoreDone, Stuck}
use Rattle.table_model.specs.SeatStates.{Account, Flight, Stand, Idle, InFlight, SeatState, fresh_seat, begun, record_of}
use Rattle.plain_map.specs.Calls.{is_update}
use Rattle.table_model.specs.Asks.{ask_in}
use Rattle.table_model.specs.Goes.{state_after}
use Rattle.table_model.specs.Worlds.{World, IsRun, IsEvent, AreEvents, FitsStand, world_after, opening_world, happens, act, begin_or_refuse, refusal_of, step_of, seat_in, found_by}
use Rattle.table_model.specs.Schedules.{Hand, Play, IsPlayable, empty_hand, hand_of, is_refused, tried_of, untried_of, one_begins, call_steps, slot, with_events, events_of_slot, hand_after_slot, is_stopped, with_step}
use Rattle.table_model.specs.Fits.{most_steps}
use Rattle.table_model.specs.Steps.{IsOnWord}
use Rattle.bound_laws.proofs.FitsWhole.{every_step_fits}
use Rattle.bound_laws.proofs.WorldSteps.{step_same, step_other}
use Rattle.play_laws.specs.Good.{ArePlayable, under_way, CanCountOn, IsPlayableHand, IsGoodPlay}
use Rattle.plain_map.specs.Keys.{no_key}

-- the most slots that a seat can need which stands so, and has so many calls left
abbrev pub left_at : (most : ℕ) → (calls : ℕ) → Stand → ℕ
left_at most calls Idle = calls * most
left_at most calls (InFlight flight phase) = calls * most + (most - flight.steps)

-- events follow on events
pub events_on : (setup : Setup) (w : World) (front back : List Event) → AreEvents setup w front →
    AreEvents setup (fold (happens setup) w front) back → AreEvents setup w (front ++ back)
events_on setup w [] back a b = b
events_on setup w (event ∷ front) back a b = (a.0, events_on setup (happens setup w event) front back a.1 b)

module _ (setup : Setup) (seat : ℕ) (h : seat < seats_of setup) where
  abbrev most : ℕ
  most = call_steps (settings_of setup)

  -- an event of the seat is its act
  acts : (w : World) (begin : Option (ℕ × Call)) →
      happens setup w (record { seat = seat; begin = begin })
      ≡ act setup w seat (seat_in w seat).account (seat_in w seat).stand begin
  acts w begin =
      ap (λ (b : Bool). cond b (act setup w seat (seat_in w seat).account (seat_in w seat).stand begin) w)
      (lt-ltb seat (seats_of setup) h)

  -- what the events from the second world on, where the seat tried these calls, have made of the first world
  pub record Rest (w from : World) (tried untried : List (ℕ × Call)) (bound : ℕ) : Type 0 where
    pub follow : AreEvents setup from (map (λ begin. record { seat = seat; begin = Some begin }) tried)
    pub others : (q : ℕ) → q ≢ seat →
        seat_in (fold (happens setup) from (map (λ begin. record { seat = seat; begin = Some begin }) tried)) q
        ≡ seat_in w q
    pub long :
        length (fold (happens setup) from (map (λ begin. record { seat = seat; begin = Some begin }) tried)).seats
        ≡ length w.seats
    pub calls : ArePlayable untried
    pub few : CanCountOn setup
        (seat_in (fold (happens setup) from (map (λ begin. record { seat = seat; begin = Some begin }) tried)) seat)
        (length untried)
    pub nearer : left_at most (length untried)
        (seat_in (fold (happens setup) from (map (λ begin. record { seat = seat; begin = Some begin }) tried))
        seat).stand
        ≤ bound

  -- a call takes some step
  pub some_steps : 1 ≤ most
  some_steps = omega arith

  module _ (w : World) (account : Account) (long : length w.seats ≡ seats_of setup)
      (is : seat_in w seat ≡ record { account = account; stand = Idle }) where
    -- an idle seat begins its call or is refused
    pub begins : (begin : ℕ × Call) →
        happens setup w (record { seat = seat; begin = Some begin })
        ≡ begin_or_refuse setup w seat account begin.0 begin.1 (refusal_of setup seat account begin.1)
    begins begin = acts w (Some begin)
        ∙ ap (λ (s : SeatState). act setup w seat s.account s.stand (Some begin)) is

    pub refuses : (begin : ℕ × Call) (o : Option Full) → is_some o ≡ true →
        begin_or_refuse setup w seat account begin.0 begin.1 o ≡ w
    refuses begin (Some full) e = refl
    refuses begin None e = absurd (false≢true e)

    steps : (begin : ℕ × Call) (o : Option Full) → is_some o ≡ false →
        begin_or_refuse setup w seat account begin.0 begin.1 o
        ≡ step_of setup w seat account (begun account begin.0 begin.1) SeeDone
    steps begin (Some full) e = absurd (false≢true (sym e))
    steps begin None e = refl

    -- the event of a call that can be played
    event_is : (begin : ℕ × Call) → IsPlayable begin → length account.records < setup.shape.limit - 1 →
        IsEvent setup w (record { seat = seat; begin = Some begin })
    event_is begin p few = record {
      seat = h;
      begin = subst (λ (s : SeatState). FitsStand setup s.account s.stand (Some begin)) (sym is)
          (refl, record { packet = p.packet; key = p.key; value = p.value; count = few });
    }

    -- what later calls come to, from this world on
    abbrev Later : List (ℕ × Call) → World → Type 0
    Later calls x = Rest w x (tried_of (is_refused setup seat account) calls)
        (untried_of (is_refused setup seat account) calls) (length calls * most - 1)

    -- the calls that an idle seat tries
    pub idle_goes : (calls : List (ℕ × Call)) → ArePlayable calls →
        length account.records + length calls ≤ setup.shape.limit - 1 →
        Rest w w (tried_of (is_refused setup seat account) calls) (untried_of (is_refused setup seat account) calls)
        (length calls * most - 1)
    idle_goes [] p few = record {
      follow = tt;
      others = λ q n. refl;
      long = refl;
      calls = tt;
      few = subst (λ (s : SeatState). CanCountOn setup s 0) (sym is) (omega (arith, few));
      nearer = subst (λ (s : SeatState). left_at most 0 s.stand ≤ 0 * most - 1) (sym is) (omega arith);
    }
    idle_goes (begin ∷ calls) p few =
        go (idle_goes calls p.1 (omega (arith, few))) (is_refused setup seat account begin.1) refl
      where
        event : IsEvent setup w (record { seat = seat; begin = Some begin })
        event = event_is begin p.0 (omega (arith, few))

        one : suc (length calls) * most ≡ length calls * most + most
        one = suc-mul (length calls) most

        refused : Later calls w → is_refused setup seat account begin.1 ≡ true →
            Rest w w (begin ∷ tried_of (is_refused setup seat account) calls)
            (untried_of (is_refused setup seat account) calls) (suc (length calls) * most - 1)
        refused later e =
            let stays : happens setup w (record { seat = seat; begin = Some begin }) ≡ w =
            begins begin ∙ refuses begin (refusal_of setup seat account begin.1) e in
            let rest : Later calls (happens setup w (record { seat = seat; begin = Some begin })) =
            subst (Later calls) (sym stays) later in
            record {
              follow = (event, rest.follow);
              others = rest.others;
              long = rest.long;
              calls = rest.calls;
              few = rest.few;
              nearer = omega (arith, rest.nearer, one);
            }

        begun_one : is_refused setup seat account begin.1 ≡ false →
            Rest w w (begin ∷ []) calls (suc (length calls) * most - 1)
        begun_one e =
            let goes : happens setup w (record { seat = seat; begin = Some begin })
            ≡ step_of setup w seat account (begun account begin.0 begin.1) SeeDone =
            begins begin ∙ steps begin (refusal_of setup seat account begin.1) e in
            let state = step_same setup w seat account (begun account begin.0 begin.1) SeeDone (omega (arith, long, h))
            in
            record {
              follow = (event, tt);
              others = λ q n. ap (λ (x : World). seat_in x q) goes
                  ∙ step_other setup w seat q account (begun account begin.0 begin.1) SeeDone n;
              long = ap (λ (x : World). length x.seats) goes ∙ length-set w.seats seat _;
              calls = p.1;
              few = subst (λ (s : SeatState). CanCountOn setup s (length calls))
                  (sym (ap (λ (x : World). seat_in x seat) goes ∙ state))
                  (omega (arith, few));
              nearer = subst (λ (s : SeatState). left_at most (length calls) s.stand ≤ suc (length calls) * most - 1)
                  (sym (ap (λ (x : World). seat_in x seat) goes ∙ state)) (omega (arith, one, some_steps));
            }

        go : Later calls w → (t : Bool) → is_refused setup seat account begin.1 ≡ t →
            Rest w w (cond t (begin ∷ tried_of (is_refused setup seat account) calls) (begin ∷ []))
            (cond t (untried_of (is_refused setup seat account) calls) calls) (suc (length calls) * most - 1)
        go later true e = refused later e
        go later false e = begun_one e

  -- the step of a call in flight counts its answer or goes on
  pub flies : (account : Account) (flight : Flight) (word calls : ℕ) → flight.steps < most → (phase : Phase) →
      phase ≢ Stuck →
      (let s = state_after setup seat account flight phase word in
      (length s.account.records + under_way s.stand ≡ length account.records + 1)
      × (left_at most calls s.stand ≤ calls * most + (most - flight.steps) - 1))
  flies account flight word calls k SeeDone n = (refl, omega (arith, k))
  flies account flight word calls k (StoreOp stored) n = (refl, omega (arith, k))
  flies account flight word calls k Announce n = (refl, omega (arith, k))
  flies account flight word calls k (FindRoot aim) n = (refl, omega (arith, k))
  flies account flight word calls k (FindDepth aim root) n = (refl, omega (arith, k))
  flies account flight word calls k (FindEntry aim root depth) n = (refl, omega (arith, k))
  flies account flight word calls k (LookWord root bucket) n = (refl, omega (arith, k))
  flies account flight word calls k (LookCount row) n = (refl, omega (arith, k))
  flies account flight word calls k (LookItems row count words) n = (refl, omega (arith, k))
  flies account flight word calls k (TryWord round turn first) n = (refl, omega (arith, k))
  flies account flight word calls k (TryRow round turn first row words) n = (refl, omega (arith, k))
  flies account flight word calls k (TryAnnouncement round attempt found) n = (refl, omega (arith, k))
  flies account flight word calls k (TryOp round attempt found op words) n = (refl, omega (arith, k))
  flies account flight word calls k (TryStore round attempt found stored) n = (refl, omega (arith, k))
  flies account flight word calls k (TryExchange round attempt found) n = (refl, omega (arith, k))
  flies account flight word calls k (DirRoot round turn first) n = (refl, omega (arith, k))
  flies account flight word calls k (DirDepth round turn first root) n = (refl, omega (arith, k))
  flies account flight word calls k (DirEntries round turn first root depth words) n = (refl, omega (arith, k))
  flies account flight word calls k (DirAnnouncement round attempt found) n = (refl, omega (arith, k))
  flies account flight word calls k (DirOp round attempt found op words) n = (refl, omega (arith, k))
  flies account flight word calls k (DirWord round attempt found loaded bucket) n = (refl, omega (arith, k))
  flies account flight word calls k (DirRow round attempt found loaded bucket row words) n = (refl, omega (arith, k))
  flies account flight word calls k (DirStore round attempt found loaded stored) n = (refl, omega (arith, k))
  flies account flight word calls k (DirExchange round attempt found loaded) n = (refl, omega (arith, k))
  flies account flight word calls k (LastWord root bucket) n = (refl, omega (arith, k))
  flies account flight word calls k (LastRow row words) n = (refl, omega (arith, k))
  flies account flight word calls k (StoreDone reply place) n =
      let long = length-append account.records (record_of seat flight reply place ∷ []) in
      (omega (arith, long), omega (arith, k))
  flies account flight word calls k Stuck n = absurd (n refl)

-- what the events of one slot make of a world, and of the hand
pub record Slotted (setup : Setup) (w : World) (seat : ℕ) (events : List Event) (hand : Hand)
    (bound : ℕ) : Type 0 where
  pub follow : AreEvents setup w events
  pub others : (q : ℕ) → q ≢ seat → seat_in (fold (happens setup) w events) q ≡ seat_in w q
  pub long : length (fold (happens setup) w events).seats ≡ length w.seats
  pub dealt : IsPlayableHand setup (seat_in (fold (happens setup) w events) seat) hand
  pub nearer : left_at (call_steps (settings_of setup)) (length hand.calls)
      (seat_in (fold (happens setup) w events) seat).stand ≤ bound

-- the call of a seat in flight can take its step
abbrev pub MayFly : Setup → Stand → Type 0
MayFly setup Idle = Unit {0}
MayFly setup (InFlight flight phase) = (flight.steps < call_steps (settings_of setup)) × (phase ≢ Stuck)

module _ (setup : Setup) (seat : ℕ) (h : seat < seats_of setup) (w : World)
    (long : length w.seats ≡ seats_of setup) where
  -- one slot of a seat that is not stopped
  pub one_slot : (hand : Hand) (account : Account) (stand : Stand) →
      seat_in w seat ≡ record { account = account; stand = stand } →
      IsPlayableHand setup (record { account = account; stand = stand }) hand → MayFly setup stand →
      Slotted setup w seat (events_of_slot setup seat account hand stand)
      (hand_after_slot setup seat account hand stand)
      (left_at (call_steps (settings_of setup)) (length hand.calls) stand - 1)
  one_slot hand account Idle is dealt may =
      go (idle_goes setup seat h w account long is hand.calls dealt.calls (omega (arith, dealt.few)))
      (one_begins (is_refused setup seat account) hand.calls)
    where
      go : Rest setup seat h w w (tried_of (is_refused setup seat account) hand.calls)
          (untried_of (is_refused setup seat account) hand.calls)
          (length hand.calls * call_steps (settings_of setup) - 1) → (t : Bool) →
          Slotted setup w seat (events_of_slot setup seat account hand Idle)
          (cond t (with_step (record { calls = untried_of (is_refused setup seat account) hand.calls; may = hand.may }))
          (record { calls = untried_of (is_refused setup seat account) hand.calls; may = hand.may }))
          (length hand.calls * call_steps (settings_of setup) - 1)
      go rest true = record {
        follow = rest.follow;
        others = rest.others;
        long = rest.long;
        dealt = record { calls = rest.calls; few = rest.few };
        nearer = rest.nearer;
      }
      go rest false = record {
        follow = rest.follow;
        others = rest.others;
        long = rest.long;
        dealt = record { calls = rest.calls; few = rest.few };
        nearer = rest.nearer;
      }
  one_slot hand account (InFlight flight phase) is dealt may =
      let goes : happens setup w (record { seat = seat; begin = None }) ≡ step_of setup w seat account flight phase =
      acts setup seat h w None ∙ ap (λ (s : SeatState). act setup w seat s.account s.stand None) is in
      let word : ℕ = found_by setup (ask_in setup seat account.used flight phase) w.words in
      let state : seat_in (happens setup w (record { seat = seat; begin = None })) seat
      ≡ state_after setup seat account flight phase word =
      ap (λ (x : World). seat_in x seat) goes
      ∙ step_same setup w seat account flight phase (omega (arith, long, h)) in
      let on = flies setup seat h account flight word (length hand.calls) may.0 phase may.1 in
      record {
        follow = (
          record {
            seat = h;
            begin = subst (λ (s : SeatState). FitsStand setup s.account s.stand None) (sym is) refl;
          },
          tt,
        );
        others = λ q n. ap (λ (x : World). seat_in x q) goes ∙ step_other setup w seat q account flight phase n;
        long = ap (λ (x : World). length x.seats) goes ∙ length-set w.seats seat _;
        dealt = record {
          calls = dealt.calls;
          few = subst (λ (s : SeatState). CanCountOn setup s (length hand.calls)) (sym state)
              (omega (arith, dealt.few, on.0));
        };
        nearer = subst (λ (s : SeatState). left_at (call_steps (settings_of setup)) (length hand.calls) s.stand
            ≤ length hand.calls * call_steps (settings_of setup) + (call_steps (settings_of setup) - flight.steps) - 1)
            (sym state) on.1;
      }

-- no call is longer than the longest
most_of_all : (setup : Setup) (call : Call) → most_steps (settings_of setup) call ≤ call_steps (settings_of setup)
most_of_all setup call = go (is_update call)
  where
    go : (b : Bool) → cond b (step_bound (settings_of setup))
        (lookup_steps (settings_of setup) (settings_of setup).items)
        ≤ max (step_bound (settings_of setup)) (lookup_steps (settings_of setup) (settings_of setup).items)
    go true = omega arith
    go false = omega arith

-- in a run each call in flight can take its step
pub may_fly : (setup : Setup) (events : List Event) (seat : ℕ) → IsRun setup events → seat < seats_of setup →
    (account : Account) (stand : Stand) →
    seat_in (world_after setup events) seat ≡ record { account = account; stand = stand } → MayFly setup stand
may_fly setup events seat run h account Idle is = tt
may_fly setup events seat run h account (InFlight flight phase) is =
    let fits = every_step_fits setup events seat (0, Lookup no_key)
    (record { account = account; stand = InFlight flight phase }) run h is tt in (
      omega (arith, fits.counts.steps, most_of_all setup flight.call),
      λ e. subst (λ (p : Phase). IsOnWord setup.shape (ask_in setup seat account.used flight p)) e fits.on_word,
    )

-- what one slot of a seat leaves of a play
pub record SlotKeeps (setup : Setup) (seat : ℕ) (play after : Play) : Type 0 where
  pub good : IsGoodPlay setup after
  pub other_hands : (q : ℕ) → q ≢ seat → hand_of after q ≡ hand_of play q
  pub other_seats : (q : ℕ) → q ≢ seat → seat_in after.world q ≡ seat_in play.world q
  pub nearer : ((is_stopped (hand_of play seat) ≡ true) × (after ≡ play))
      ⊎ (seat < seats_of setup → left_at (call_steps (settings_of setup)) (length (hand_of after seat).calls)
      (seat_in after.world seat).stand
      ≤ left_at (call_steps (settings_of setup)) (length (hand_of play seat).calls) (seat_in play.world seat).stand - 1)

-- a play stays where nothing is done
stays : (setup : Setup) (seat : ℕ) (play : Play) → IsGoodPlay setup play → is_stopped (hand_of play seat) ≡ true →
    SlotKeeps setup seat play play
stays setup seat play good stopped = record {
  good = good;
  other_hands = λ q n. refl;
  other_seats = λ q n. refl;
  nearer = inl (stopped, refl);
}

-- with the events of a slot
goes_on : (setup : Setup) (seat : ℕ) (play : Play) (events : List Event) (hand : Hand) → IsGoodPlay setup play →
    seat < seats_of setup →
    Slotted setup play.world seat events hand
    (left_at (call_steps (settings_of setup)) (length (hand_of play seat).calls) (seat_in play.world seat).stand - 1) →
    SlotKeeps setup seat play (with_events setup play seat events hand)
goes_on setup seat play events hand good h s = record {
  good = record {
    run = record {
      opened = good.run.opened;
      follow = events_on setup (opening_world setup) play.events events good.run.follow
          (subst (λ (x : World). AreEvents setup x events) good.world_is s.follow);
    };
    world_is = ap (λ (x : World). fold (happens setup) x events) good.world_is
        ∙ sym (fold-append (happens setup) (opening_world setup) play.events events);
    long = s.long ∙ good.long;
    hands = length-set play.hands seat hand ∙ good.hands;
    dealt = λ q k. elim (cases_eq q seat) [
      | inl e ↦ subst (λ (r : ℕ). IsPlayableHand setup (seat_in (fold (happens setup) play.world events) r)
          (get_or (set play.hands seat hand) r empty_hand)) (sym e)
          (subst (IsPlayableHand setup (seat_in (fold (happens setup) play.world events) seat))
          (sym (get_or-set_same play.hands seat hand empty_hand (omega (arith, good.hands, h)))) s.dealt)
      | inr n ↦ subst (IsPlayableHand setup (seat_in (fold (happens setup) play.world events) q))
          (sym (get_or-set_other play.hands seat q hand empty_hand n))
          (subst (λ (x : SeatState). IsPlayableHand setup x (hand_of play q)) (sym (s.others q n)) (good.dealt q k))
    ];
  };
  other_hands = λ q n. get_or-set_other play.hands seat q hand empty_hand n;
  other_seats = s.others;
  nearer = inr (λ k. subst (λ (x : Hand). left_at (call_steps (settings_of setup)) (length x.calls)
      (seat_in (fold (happens setup) play.world events) seat).stand
      ≤ left_at (call_steps (settings_of setup)) (length (hand_of play seat).calls) (seat_in play.world seat).stand - 1)
      (sym (get_or-set_same play.hands seat hand empty_hand (omega (arith, good.hands, h)))) s.nearer);
}

-- a seat that is not there does nothing
abbrev slot_by : Setup → (seat : ℕ) → Play → Hand → SeatState → Play
slot_by setup seat play hand state =
    cond (is_stopped hand) play (with_events setup play seat
    (events_of_slot setup seat state.account hand state.stand)
    (hand_after_slot setup seat state.account hand state.stand))

pub no_seat : (setup : Setup) (seat : ℕ) (play : Play) → length play.world.seats ≤ seat → length play.hands ≤ seat →
    slot setup seat play ≡ play
no_seat setup seat play w k =
    ap (λ (hand : Hand). slot_by setup seat play hand (seat_in play.world seat))
    (get_or_past play.hands seat empty_hand k)
    ∙ ap (λ (state : SeatState). slot_by setup seat play empty_hand state)
    (get_or_past play.world.seats seat fresh_seat w)
    ∙ (λ i. record {
      events = append-nil play.events i;
      world = play.world;
      hands = set_past play.hands seat empty_hand k i;
    })

-- a slot keeps all
pub slot_keeps : (setup : Setup) (seat : ℕ) (play : Play) → IsGoodPlay setup play →
    SlotKeeps setup seat play (slot setup seat play)
slot_keeps setup seat play good = elim (cases_lt seat (seats_of setup)) [
  | inl h ↦ here h
  | inr n ↦ subst (SlotKeeps setup seat play)
      (sym (no_seat setup seat play (omega (arith, n, good.long)) (omega (arith, n, good.hands))))
      (record {
        good = good;
        other_hands = λ q m. refl;
        other_seats = λ q m. refl;
        nearer = inr (λ h. absurd (omega (arith, h, n)));
      })
]
  where
    here : seat < seats_of setup → SlotKeeps setup seat play (slot setup seat play)
    here h = by (is_stopped (hand_of play seat)) refl
      where
        by : (t : Bool) → is_stopped (hand_of play seat) ≡ t →
            SlotKeeps setup seat play (cond t play (with_events setup play seat
            (events_of_slot setup seat (seat_in play.world seat).account (hand_of play seat)
            (seat_in play.world seat).stand)
            (hand_after_slot setup seat (seat_in play.world seat).account (hand_of play seat)
            (seat_in play.world seat).stand)))
        by true e = stays setup seat play good e
        by false e = goes_on setup seat play _ _ good h
            (one_slot setup seat h play.world good.long (hand_of play seat) (seat_in play.world seat).account
            (seat_in play.world seat).stand refl (good.dealt seat h)
            (may_fly setup play.events seat good.run h (seat_in play.world seat).account (seat_in play.world seat).stand
            (ap (λ (x : World). seat_in x seat) (sym good.world_is))))
