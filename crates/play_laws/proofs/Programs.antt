-- A program goes as its seat does, and no step depends on the first pairs.
use Rattle.std.proofs.Common.{◌≡◌, ℕ, ◌+◌, ◌<◌, List, [], ◌++◌, length, slice_get, Option, ◌⊎◌, inl, inr, refl, sym, ap, ◌∙◌, subst}
use Rattle.std.proofs.lemmas.List.{append-nil, length-append}
use Rattle.step_counts.specs.declared.rows.SeatRows.{SeatRows}
use Rattle.bucket_states.specs.declared.ops.Op.{Op}
use Rattle.table_model.specs.declared.events.Put.{Put}
use Rattle.table_model.specs.Setup.{Setup, next_number, seats_of}
use Rattle.table_model.specs.DirectoryChange.{LoadedBucket}
use Rattle.table_model.specs.Phases.{DirectoryTry, Phase, SeeDone, StoreOp, Announce, FindRoot, FindDepth, FindEntry, LookWord, LookCount, LookItems, TryWord, TryRow, TryAnnouncement, TryOp, TryStore, TryExchange, DirRoot, DirDepth, DirEntries, DirAnnouncement, DirOp, DirWord, DirRow, DirStore, DirExchange, LastWord, LastRow, StoreDone, Stuck}
use Rattle.table_model.specs.SeatStates.{Account, Flight, InFlight, SeatState}
use Rattle.table_model.specs.Stores.{directory_puts}
use Rattle.table_model.specs.Asks.{ask_in, store_of}
use Rattle.table_model.specs.Goes.{state_after, phase_after, used_after, flight_after, after_puts}
use Rattle.table_model.specs.Steps.{IsOnWord, MayStep, ask_of, flight_in, phase_in}
use Rattle.table_model.specs.Program.{without_first, blank, program_at, takes, after_in, CanTake}
use Rattle.table_model.specs.Fits.{Finds, Makes, StepFits, EveryStepFits}
use Rattle.plain_map.specs.declared.calls.Call.{Call}
use Rattle.plain_map.specs.declared.records.Record.{Record}
use Rattle.table_model.specs.declared.events.Event.{Event}
use Rattle.table_model.specs.Worlds.{IsRun, world_after, seat_in, found_by}
use Rattle.play_laws.specs.Laws.{Beside, GoesOn, EndsCall}

module _ (setup : Setup) where
  directory_puts-same : (seat : ℕ) (used : SeatRows) (attempt : DirectoryTry) (found : List (Option Op))
      (loaded : List LoadedBucket) →
      directory_puts (without_first setup) seat used attempt found loaded
      ≡ directory_puts setup seat used attempt found loaded
  unfolding next_number directory_puts
  directory_puts-same seat used attempt found loaded = refl

  pub ask-same : (seat : ℕ) (used : SeatRows) (flight : Flight) (phase : Phase)
      → ask_in (without_first setup) seat used flight phase ≡ ask_in setup seat used flight phase
  unfolding next_number
  ask-same seat used flight SeeDone = refl
  ask-same seat used flight (StoreOp stored) = refl
  ask-same seat used flight Announce = refl
  ask-same seat used flight (FindRoot aim) = refl
  ask-same seat used flight (FindDepth aim root) = refl
  ask-same seat used flight (FindEntry aim root depth) = refl
  ask-same seat used flight (LookWord root bucket) = refl
  ask-same seat used flight (LookCount row) = refl
  ask-same seat used flight (LookItems row count words) = refl
  ask-same seat used flight (TryWord round turn first) = refl
  ask-same seat used flight (TryRow round turn first row words) = refl
  ask-same seat used flight (TryAnnouncement round attempt found) = refl
  ask-same seat used flight (TryOp round attempt found op words) = refl
  ask-same seat used flight (TryStore round attempt found stored) = refl
  ask-same seat used flight (TryExchange round attempt found) = refl
  ask-same seat used flight (DirRoot round turn first) = refl
  ask-same seat used flight (DirDepth round turn first root) = refl
  ask-same seat used flight (DirEntries round turn first root depth words) = refl
  ask-same seat used flight (DirAnnouncement round attempt found) = refl
  ask-same seat used flight (DirOp round attempt found op words) = refl
  ask-same seat used flight (DirWord round attempt found loaded bucket) = refl
  ask-same seat used flight (DirRow round attempt found loaded bucket row words) = refl
  ask-same seat used flight (DirStore round attempt found loaded stored) =
      ap (λ (puts : List Put). store_of (slice_get puts stored)) (directory_puts-same seat used attempt found loaded)
  ask-same seat used flight (DirExchange round attempt found loaded) = refl
  ask-same seat used flight (LastWord root bucket) = refl
  ask-same seat used flight (LastRow row words) = refl
  ask-same seat used flight (StoreDone reply place) = refl
  ask-same seat used flight Stuck = refl

  phase-same : (seat : ℕ) (used : SeatRows) (flight : Flight) (phase : Phase) (word : ℕ)
      → phase_after (without_first setup) seat used flight phase word ≡ phase_after setup seat used flight phase word
  unfolding next_number
  phase-same seat used flight SeeDone word = refl
  phase-same seat used flight (StoreOp stored) word = refl
  phase-same seat used flight Announce word = refl
  phase-same seat used flight (FindRoot aim) word = refl
  phase-same seat used flight (FindDepth aim root) word = refl
  phase-same seat used flight (FindEntry aim root depth) word = refl
  phase-same seat used flight (LookWord root bucket) word = refl
  phase-same seat used flight (LookCount row) word = refl
  phase-same seat used flight (LookItems row count words) word = refl
  phase-same seat used flight (TryWord round turn first) word = refl
  phase-same seat used flight (TryRow round turn first row words) word = refl
  phase-same seat used flight (TryAnnouncement round attempt found) word = refl
  phase-same seat used flight (TryOp round attempt found op words) word = refl
  phase-same seat used flight (TryStore round attempt found stored) word = refl
  phase-same seat used flight (TryExchange round attempt found) word = refl
  phase-same seat used flight (DirRoot round turn first) word = refl
  phase-same seat used flight (DirDepth round turn first root) word = refl
  phase-same seat used flight (DirEntries round turn first root depth words) word = refl
  phase-same seat used flight (DirAnnouncement round attempt found) word = refl
  phase-same seat used flight (DirOp round attempt found op words) word = refl
  phase-same seat used flight (DirWord round attempt found loaded bucket) word = refl
  phase-same seat used flight (DirRow round attempt found loaded bucket row words) word = refl
  phase-same seat used flight (DirStore round attempt found loaded stored) word =
      ap (λ (puts : List Put). after_puts round attempt found loaded (length puts) (stored + 1))
      (directory_puts-same seat used attempt found loaded)
  phase-same seat used flight (DirExchange round attempt found loaded) word = refl
  phase-same seat used flight (LastWord root bucket) word = refl
  phase-same seat used flight (LastRow row words) word = refl
  phase-same seat used flight (StoreDone reply place) word = refl
  phase-same seat used flight Stuck word = refl

  used-same : (used : SeatRows) (phase : Phase) (word : ℕ) → used_after (without_first setup) used phase word
      ≡ used_after setup used phase word
  used-same used SeeDone word = refl
  used-same used (StoreOp stored) word = refl
  used-same used Announce word = refl
  used-same used (FindRoot aim) word = refl
  used-same used (FindDepth aim root) word = refl
  used-same used (FindEntry aim root depth) word = refl
  used-same used (LookWord root bucket) word = refl
  used-same used (LookCount row) word = refl
  used-same used (LookItems row count words) word = refl
  used-same used (TryWord round turn first) word = refl
  used-same used (TryRow round turn first row words) word = refl
  used-same used (TryAnnouncement round attempt found) word = refl
  used-same used (TryOp round attempt found op words) word = refl
  used-same used (TryStore round attempt found stored) word = refl
  used-same used (TryExchange round attempt found) word = refl
  used-same used (DirRoot round turn first) word = refl
  used-same used (DirDepth round turn first root) word = refl
  used-same used (DirEntries round turn first root depth words) word = refl
  used-same used (DirAnnouncement round attempt found) word = refl
  used-same used (DirOp round attempt found op words) word = refl
  used-same used (DirWord round attempt found loaded bucket) word = refl
  used-same used (DirRow round attempt found loaded bucket row words) word = refl
  used-same used (DirStore round attempt found loaded stored) word = refl
  used-same used (DirExchange round attempt found loaded) word = refl
  used-same used (LastWord root bucket) word = refl
  used-same used (LastRow row words) word = refl
  used-same used (StoreDone reply place) word = refl
  used-same used Stuck word = refl

module _ (setup : Setup) (seat : ℕ) (account : Account) (flight : Flight) (word : ℕ) where
  goes_beside : (phase : Phase) (full small : SeatState)
      → full ≡ record {
        account = record account { used = used_after setup account.used phase word };
        stand = InFlight (flight_after flight phase word) (phase_after setup seat account.used flight phase word);
      }
      → small ≡ record {
        account = record (blank account.used)
            { used = used_after (without_first setup) account.used phase word };
        stand = InFlight (flight_after flight phase word)
            (phase_after (without_first setup) seat account.used flight phase word);
      }
      → Beside account full small
  goes_beside phase full small f s = record {
    stand = ap (λ (x : SeatState). x.stand) f
        ∙ ap (InFlight (flight_after flight phase word)) (sym (phase-same setup seat account.used flight phase word))
        ∙ sym (ap (λ (x : SeatState). x.stand) s);
    used = ap (λ (x : SeatState). x.account.used) f ∙ sym (used-same setup account.used phase word)
        ∙ sym (ap (λ (x : SeatState). x.account.used) s);
    records = ap (λ (x : SeatState). x.account.records) f ∙ sym (append-nil account.records)
        ∙ sym (ap (λ (x : SeatState). account.records ++ x.account.records) s);
    spent = ap (λ (x : SeatState). x.account.spent) f ∙ sym (append-nil account.spent)
        ∙ sym (ap (λ (x : SeatState). account.spent ++ x.account.spent) s);
  }

  pub beside : (phase : Phase) → Beside account (state_after setup seat account flight phase word)
      (state_after (without_first setup) seat (blank account.used) flight phase word)
  beside SeeDone = goes_beside SeeDone _ _ refl refl
  beside (StoreOp stored) = goes_beside (StoreOp stored) _ _ refl refl
  beside Announce = goes_beside Announce _ _ refl refl
  beside (FindRoot aim) = goes_beside (FindRoot aim) _ _ refl refl
  beside (FindDepth aim root) = goes_beside (FindDepth aim root) _ _ refl refl
  beside (FindEntry aim root depth) = goes_beside (FindEntry aim root depth) _ _ refl refl
  beside (LookWord root bucket) = goes_beside (LookWord root bucket) _ _ refl refl
  beside (LookCount row) = goes_beside (LookCount row) _ _ refl refl
  beside (LookItems row count words) = goes_beside (LookItems row count words) _ _ refl refl
  beside (TryWord round turn first) = goes_beside (TryWord round turn first) _ _ refl refl
  beside (TryRow round turn first row words) = goes_beside (TryRow round turn first row words) _ _ refl refl
  beside (TryAnnouncement round attempt found) = goes_beside (TryAnnouncement round attempt found) _ _ refl refl
  beside (TryOp round attempt found op words) = goes_beside (TryOp round attempt found op words) _ _ refl refl
  beside (TryStore round attempt found stored) = goes_beside (TryStore round attempt found stored) _ _ refl refl
  beside (TryExchange round attempt found) = goes_beside (TryExchange round attempt found) _ _ refl refl
  beside (DirRoot round turn first) = goes_beside (DirRoot round turn first) _ _ refl refl
  beside (DirDepth round turn first root) = goes_beside (DirDepth round turn first root) _ _ refl refl
  beside (DirEntries round turn first root depth words) =
      goes_beside (DirEntries round turn first root depth words) _ _ refl refl
  beside (DirAnnouncement round attempt found) = goes_beside (DirAnnouncement round attempt found) _ _ refl refl
  beside (DirOp round attempt found op words) = goes_beside (DirOp round attempt found op words) _ _ refl refl
  beside (DirWord round attempt found loaded bucket) =
      goes_beside (DirWord round attempt found loaded bucket) _ _ refl refl
  beside (DirRow round attempt found loaded bucket row words) =
      goes_beside (DirRow round attempt found loaded bucket row words) _ _ refl refl
  beside (DirStore round attempt found loaded stored) =
      goes_beside (DirStore round attempt found loaded stored) _ _ refl refl
  beside (DirExchange round attempt found loaded) = goes_beside (DirExchange round attempt found loaded) _ _ refl refl
  beside (LastWord root bucket) = goes_beside (LastWord root bucket) _ _ refl refl
  beside (LastRow row words) = goes_beside (LastRow row words) _ _ refl refl
  beside (StoreDone reply place) = record { stand = refl; used = refl; records = refl; spent = refl }
  beside Stuck =
      record {
        stand = refl;
        used = refl;
        records = sym (append-nil account.records);
        spent = sym (append-nil account.spent);
      }

module _ (setup : Setup) (seat : ℕ) (used : SeatRows) (flight : Flight) (word : ℕ) where
  -- the call goes on, as it does where it is in flight after the step and nothing is told of it yet
  goes_on : (small : SeatState) (next : Flight) (phase : Phase) → small.stand ≡ InFlight next phase →
      small.account.records ≡ [] → small.account.spent ≡ [] → next.packet ≡ flight.packet → next.call ≡ flight.call →
      next.number ≡ flight.number → next.steps ≡ flight.steps + 1 → GoesOn flight small
  goes_on small next phase at told refused packet call number steps = record {
    next = next;
    phase = phase;
    stand = at;
    records = told;
    spent = refused;
    packet = packet;
    call = call;
    number = number;
    steps = steps;
  }

  pub ends_or_goes : (phase : Phase) → IsOnWord setup.shape (ask_in setup seat used flight phase) →
      GoesOn flight (state_after setup seat (blank used) flight phase word)
      ⊎ EndsCall seat used flight (state_after setup seat (blank used) flight phase word)
  ends_or_goes SeeDone on = inl (goes_on _ _ _ refl refl refl refl refl refl refl)
  ends_or_goes (StoreOp stored) on = inl (goes_on _ _ _ refl refl refl refl refl refl refl)
  ends_or_goes Announce on = inl (goes_on _ _ _ refl refl refl refl refl refl refl)
  ends_or_goes (FindRoot aim) on = inl (goes_on _ _ _ refl refl refl refl refl refl refl)
  ends_or_goes (FindDepth aim root) on = inl (goes_on _ _ _ refl refl refl refl refl refl refl)
  ends_or_goes (FindEntry aim root depth) on = inl (goes_on _ _ _ refl refl refl refl refl refl refl)
  ends_or_goes (LookWord root bucket) on = inl (goes_on _ _ _ refl refl refl refl refl refl refl)
  ends_or_goes (LookCount row) on = inl (goes_on _ _ _ refl refl refl refl refl refl refl)
  ends_or_goes (LookItems row count words) on = inl (goes_on _ _ _ refl refl refl refl refl refl refl)
  ends_or_goes (TryWord round turn first) on = inl (goes_on _ _ _ refl refl refl refl refl refl refl)
  ends_or_goes (TryRow round turn first row words) on = inl (goes_on _ _ _ refl refl refl refl refl refl refl)
  ends_or_goes (TryAnnouncement round attempt found) on = inl (goes_on _ _ _ refl refl refl refl refl refl refl)
  ends_or_goes (TryOp round attempt found op words) on = inl (goes_on _ _ _ refl refl refl refl refl refl refl)
  ends_or_goes (TryStore round attempt found stored) on = inl (goes_on _ _ _ refl refl refl refl refl refl refl)
  ends_or_goes (TryExchange round attempt found) on = inl (goes_on _ _ _ refl refl refl refl refl refl refl)
  ends_or_goes (DirRoot round turn first) on = inl (goes_on _ _ _ refl refl refl refl refl refl refl)
  ends_or_goes (DirDepth round turn first root) on = inl (goes_on _ _ _ refl refl refl refl refl refl refl)
  ends_or_goes (DirEntries round turn first root depth words) on =
      inl (goes_on _ _ _ refl refl refl refl refl refl refl)
  ends_or_goes (DirAnnouncement round attempt found) on = inl (goes_on _ _ _ refl refl refl refl refl refl refl)
  ends_or_goes (DirOp round attempt found op words) on = inl (goes_on _ _ _ refl refl refl refl refl refl refl)
  ends_or_goes (DirWord round attempt found loaded bucket) on = inl (goes_on _ _ _ refl refl refl refl refl refl refl)
  ends_or_goes (DirRow round attempt found loaded bucket row words) on =
      inl (goes_on _ _ _ refl refl refl refl refl refl refl)
  ends_or_goes (DirStore round attempt found loaded stored) on = inl (goes_on _ _ _ refl refl refl refl refl refl refl)
  ends_or_goes (DirExchange round attempt found loaded) on = inl (goes_on _ _ _ refl refl refl refl refl refl refl)
  ends_or_goes (LastWord root bucket) on = inl (goes_on _ _ _ refl refl refl refl refl refl refl)
  ends_or_goes (LastRow row words) on = inl (goes_on _ _ _ refl refl refl refl refl refl refl)
  ends_or_goes (StoreDone reply place) on =
      inr (record { reply = reply; place = place; stand = refl; records = refl; spent = refl; used_is = refl })
  ends_or_goes Stuck on = absurd on

-- what fits a step with first pairs fits it without them
module _ (setup : Setup) where
  finds-same : (phase : Phase) (word : ℕ) → Finds setup phase word → Finds (without_first setup) phase word
  finds-same SeeDone word h = h
  finds-same (StoreOp stored) word h = h
  finds-same Announce word h = h
  finds-same (FindRoot aim) word h = h
  finds-same (FindDepth aim root) word h = h
  finds-same (FindEntry aim root depth) word h = h
  finds-same (LookWord root bucket) word h = h
  finds-same (LookCount row) word h = h
  finds-same (LookItems row count words) word h = h
  finds-same (TryWord round turn first) word h = h
  finds-same (TryRow round turn first row words) word h = h
  finds-same (TryAnnouncement round attempt found) word h = h
  finds-same (TryOp round attempt found op words) word h = h
  finds-same (TryStore round attempt found stored) word h = h
  finds-same (TryExchange round attempt found) word h = h
  finds-same (DirRoot round turn first) word h = h
  finds-same (DirDepth round turn first root) word h = h
  finds-same (DirEntries round turn first root depth words) word h = h
  finds-same (DirAnnouncement round attempt found) word h = h
  finds-same (DirOp round attempt found op words) word h = h
  finds-same (DirWord round attempt found loaded bucket) word h = h
  finds-same (DirRow round attempt found loaded bucket row words) word h = h
  finds-same (DirStore round attempt found loaded stored) word h = h
  finds-same (DirExchange round attempt found loaded) word h = h
  finds-same (LastWord root bucket) word h = h
  finds-same (LastRow row words) word h = h
  finds-same (StoreDone reply place) word h = h
  finds-same Stuck word h = h

  makes-same : (phase : Phase) → Makes setup phase → Makes (without_first setup) phase
  makes-same SeeDone h = h
  makes-same (StoreOp stored) h = h
  makes-same Announce h = h
  makes-same (FindRoot aim) h = h
  makes-same (FindDepth aim root) h = h
  makes-same (FindEntry aim root depth) h = h
  makes-same (LookWord root bucket) h = h
  makes-same (LookCount row) h = h
  makes-same (LookItems row count words) h = h
  makes-same (TryWord round turn first) h = h
  makes-same (TryRow round turn first row words) h = h
  makes-same (TryAnnouncement round attempt found) h = h
  makes-same (TryOp round attempt found op words) h = h
  makes-same (TryStore round attempt found stored) h = h
  makes-same (TryExchange round attempt found) h = h
  makes-same (DirRoot round turn first) h = h
  makes-same (DirDepth round turn first root) h = h
  makes-same (DirEntries round turn first root depth words) h = h
  makes-same (DirAnnouncement round attempt found) h = h
  makes-same (DirOp round attempt found op words) h = h
  makes-same (DirWord round attempt found loaded bucket) h = h
  makes-same (DirRow round attempt found loaded bucket row words) h = h
  makes-same (DirStore round attempt found loaded stored) h =
      record { seats = h.seats; depth = h.depth; root = h.root; leaves = h.leaves }
  makes-same (DirExchange round attempt found loaded) h = h
  makes-same (LastWord root bucket) h = h
  makes-same (LastRow row words) h = h
  makes-same (StoreDone reply place) h = h
  makes-same Stuck h = h

  pub fits-same : (seat : ℕ) (used : SeatRows) (flight : Flight) (phase : Phase) (word : ℕ)
      → StepFits setup seat used flight phase word → StepFits (without_first setup) seat used flight phase word
  fits-same seat used flight phase word f = record {
    on_word = subst (IsOnWord setup.shape) (sym (ask-same setup seat used flight phase)) f.on_word;
    finds = finds-same phase word f.finds;
    makes = subst (Makes (without_first setup)) (sym (phase-same setup seat used flight phase word))
        (makes-same (phase_after setup seat used flight phase word) f.makes);
    counts = record {
      used_few = f.counts.used_few;
      steps = f.counts.steps;
      number = f.counts.number;
      small = f.counts.small;
    };
  }

-- ---- what both callers of a machine need

pub can_take : EveryStepFits → (setup : Setup) (events : List Event) (seat : ℕ) (asked : ℕ × Call) (state : SeatState)
    (word : ℕ) → IsRun setup events →
    seat < seats_of setup → seat_in (world_after setup events) seat ≡ state
    → MayStep setup seat asked state.account state.stand →
    word ≡ found_by setup (ask_of setup seat asked state) (world_after setup events).words →
    CanTake (program_at setup seat state.account
    (InFlight (flight_in state.account state.stand asked) (phase_in state.stand))) word
can_take law setup events seat asked state word run inside at may found =
    let flight : Flight = flight_in state.account state.stand asked in
    let phase : Phase = phase_in state.stand in
    fits-same setup seat state.account.used flight phase word
    (subst (λ (k : ℕ). StepFits setup seat state.account.used flight phase k) (sym found)
    (law setup events seat asked state run inside at may))

pub follows : (setup : Setup) (seat : ℕ) (account : Account) (flight : Flight) (phase : Phase) (word : ℕ) →
    (let p = program_at setup seat account (InFlight flight phase) in
    let after = state_after setup seat account flight phase word in
    (takes p word ≡ program_at setup seat after.account after.stand)
    × (after.account.records ≡ account.records ++ (after_in p.setup p.seat p.used p.stand word).account.records))
follows setup seat account flight phase word =
    let b = beside setup seat account flight word phase in
    let small : SeatState = state_after (without_first setup) seat (blank account.used) flight phase word in
    let count : length account.records + length small.account.records
    ≡ length (state_after setup seat account flight phase word).account.records =
    sym (ap (length {A = Record}) b.records ∙ length-append account.records small.account.records) in (
      (λ i. record {
        setup = without_first setup;
        seat = seat;
        used = sym b.used i;
        count = count i;
        stand = sym b.stand i;
      }),
      b.records,
    )
