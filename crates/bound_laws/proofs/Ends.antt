-- The promises about steps, ends and numbers.
use Rattle.std.proofs.Common.{◌≡◌, ℕ, ◌+◌, ◌<◌, ◌≤◌, Bool, cond, List, ◌++◌, length, get_or, inl, inr, refl, sym, ap, ◌∙◌, subst, arith}
use Rattle.std.specs.Prelude.{fold}
use Rattle.std.proofs.lemmas.List.Sums.{fold-append}
use Rattle.step_counts.specs.StepCounts.{step_bound, lookup_steps}
use Rattle.bucket_states.specs.States.{BucketState}
use Rattle.table_model.specs.declared.events.Event.{Event}
use Rattle.table_model.specs.Setup.{Setup, seats_of, settings_of}
use Rattle.table_model.specs.Phases.{Phase}
use Rattle.table_model.specs.SeatStates.{Flight, InFlight}
use Rattle.table_model.specs.Worlds.{World, IsRun, world_after, opening_world, happens, seat_in}
use Rattle.table_model.specs.Promises.{StepsAreBounded, UpdatesAreShort, LookupsAreShort, UpdatesEnd, LookupsEnd, SpentIsUsed}
use Rattle.table_model.specs.Reading.{bucket_at}
use Rattle.run_invariant.proofs.Invariant.{KeepsStand}
use Rattle.table_model.specs.Fits.{most_steps}
use Rattle.run_laws.proofs.TwoParts.{run_first, events_then}
use Rattle.bound_laws.proofs.Paced.{PacedStand, some_left}
use Rattle.bound_laws.specs.Numbers.{EachRecordIsNumbered, FlightsAreNumbered}
use Rattle.bound_laws.proofs.Numbers.{NumberedFrom, NumberedStand, numbered_at}
use Rattle.bound_laws.proofs.Whole.{Calling, called}
use Rattle.bound_laws.proofs.Ending.{Onward, own_events, own_events_is, goes_on}
use Rattle.bound_laws.proofs.Read.{state_read}

-- a call in flight has taken fewer steps than its kind may take
short : (setup : Setup) (w : World) → Calling setup w → (seat : ℕ) (flight : Flight) (phase : Phase) →
    seat < seats_of setup → (seat_in w seat).stand ≡ InFlight flight phase →
    flight.steps < most_steps (settings_of setup) flight.call
short setup w a seat flight phase h e =
    let paced = subst (PacedStand setup) e (a.holds.1 seat h).pacing.1 in
    let keeps = subst (KeepsStand setup a.common seat (seat_in w seat).account.used (a.locals seat)) e
    (a.follows.seats seat h) in
    omega (
      arith,
      paced,
      some_left setup seat a.common (seat_in w seat).account flight (a.locals seat) h
          a.follows.shared phase keeps,
    )

-- the most steps of an update and of a lookup
abbrev bound_by : Setup → Bool → ℕ
bound_by setup update =
    cond update (step_bound (settings_of setup)) (lookup_steps (settings_of setup) (settings_of setup).items)

-- a call in flight is short
pub updates_are_short : UpdatesAreShort
updates_are_short setup events seat flight phase run u =
    subst (λ b. flight.steps < bound_by setup b) u.update
    (short setup (world_after setup events) (called setup events run) seat flight phase u.seat_is u.stand)

pub lookups_are_short : LookupsAreShort
lookups_are_short setup events seat flight phase run at u =
    subst (λ b. flight.steps < bound_by setup b) u (short setup (world_after setup events) (called setup events run)
    seat flight phase at.seat_is at.stand)

-- once its seat has had as many events as its kind may take steps, a call is answered
ended : (setup : Setup) (events later : List Event) (seat : ℕ) (flight : Flight) (phase : Phase) →
    IsRun setup (events ++ later) → seat < seats_of setup →
    (seat_in (world_after setup events) seat).stand ≡ InFlight flight phase →
    most_steps (settings_of setup) flight.call ≤ flight.steps + own_events seat later →
    flight.number ≤ length (seat_in (world_after setup (events ++ later)) seat).account.records
ended setup events later seat flight phase run h e enough =
    let w = world_after setup events in
    let before = called setup events (run_first setup events later run) in
    let then : Onward flight.call flight.number (flight.steps + own_events seat later)
    (seat_in (fold (happens setup) w later) seat) =
    goes_on setup later w before (events_then setup (opening_world setup) events later run.follow) seat h flight.call
    flight.number flight.steps
    (inl (record {
      flight = flight;
      phase = phase;
      stand_is = e;
      call_is = refl;
      number_is = refl;
      steps_are =
          refl;
    })) in
    go (world_after setup (events ++ later)) (called setup (events ++ later) run)
    (subst (λ x. Onward flight.call flight.number (flight.steps + own_events seat later) (seat_in x seat))
    (sym (fold-append (happens setup) (opening_world setup) events later)) then)
  where
    go : (x : World) → Calling setup x → Onward flight.call flight.number (flight.steps + own_events seat later)
        (seat_in x seat) → flight.number ≤ length (seat_in x seat).account.records
    go x a (inr done) = done
    go x a (inl g) =
        let few = subst (λ c. g.flight.steps < most_steps (settings_of setup) c) g.call_is
        (short setup x a seat g.flight g.phase h g.stand_is) in
        absurd (omega (arith, few, g.steps_are, enough))

-- so each update ends, and each lookup
pub updates_end : UpdatesEnd
updates_end setup events later seat flight phase run u enough =
    ended setup events later seat flight phase run u.seat_is u.stand
    (subst (λ b. bound_by setup b ≤ flight.steps + own_events seat later) (sym u.update)
    (omega (arith, enough, own_events_is seat later)))

pub lookups_end : LookupsEnd
lookups_end setup events later seat flight phase run at u enough =
    ended setup events later seat flight phase run at.seat_is at.stand
    (subst (λ b. bound_by setup b ≤ flight.steps + own_events seat later) (sym u)
    (omega (arith, enough, own_events_is seat later)))

-- each record has its steps: a lookup exactly those of the items that the words of its row tell
pub steps_are_bounded : StepsAreBounded
steps_are_bounded setup events seat run h k d lt =
    let a = called setup events run in
    let w = world_after setup events in
    let few = (a.holds.1 seat h).pacing.0 k d lt in (
      (λ u. subst (λ b. (get_or (seat_in w seat).account.records k d).steps ≤ bound_by setup b) u few),
      λ u.
          let l = (a.holds.1 seat h).looking.0 k d lt u in
          let row = l.2 in
          let read = ap (λ r. bucket_at setup.shape w.words r) row.row_is
          ∙ state_read setup w.words a.common a.follows.shows a.follows.shared a.follows.descent row.bucket row.at
          row.there row.old in
          l.1 ∙ row.steps_are ∙ ap (λ (b : BucketState). lookup_steps (settings_of setup) (length b.items)) (sym read),
    )

-- the promises about numbers
pub spent_is_used : SpentIsUsed
spent_is_used setup events seat run h =
    let n = ((called setup events run).holds.1 seat h).numbered in
    (n.spent, λ e. subst (NumberedStand (seat_in (world_after setup events) seat).account) e n.stand)

pub records_are_numbered : EachRecordIsNumbered
records_are_numbered setup events seat front back r run h e =
    numbered_at seat 1 front back r
    (subst (λ rs. NumberedFrom seat 1 rs) e ((called setup events run).holds.1 seat h).numbered.records)

pub flights_are_numbered : FlightsAreNumbered
flights_are_numbered setup events seat flight phase run h e =
    subst (NumberedStand (seat_in (world_after setup events) seat).account) e
    ((called setup events run).holds.1 seat h).numbered.stand
