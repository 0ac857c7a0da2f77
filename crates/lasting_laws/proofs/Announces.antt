-- An update from its beginning: the ghost has seen the done words, stored its op and announced it, and found its
-- bucket, all with the store of the announcement.
use Rattle.std.proofs.Common.{◌≡◌, ◌≢◌, ℕ, zero, suc, ◌+◌, ◌^◌, ◌<◌, ◌≤◌, ◌⊎◌, inl, inr, Bool, true, false, cond, List, [], ◌∷◌, ◌++◌, length, get_or, refl, sym, ap, ◌∙◌, subst, arith, append_assoc, lt-ltb}
use Rattle.std.specs.Prelude.{Some, None, nat_lt}
use Rattle.step_counts.specs.StepCounts.{step_bound}
use Rattle.step_counts.specs.declared.TheConstants.{OP_WORDS}
use Rattle.plain_map.specs.declared.calls.Call.{Call}
use Rattle.plain_map.specs.Calls.{key_in, is_update}
use Rattle.word_rows.specs.Memory.{put, put_at}
use Rattle.table_model.specs.declared.events.Event.{Event}
use Rattle.table_model.specs.declared.rounds.Aim.TheVariants.{ForFirstRound}
use Rattle.table_model.specs.declared.rounds.Round.{Round}
use Rattle.table_model.specs.Setup.{Setup, seats_of, settings_of, rules_of}
use Rattle.table_model.specs.Phases.{Phase, SeeDone, StoreOp, Announce, FindRoot, FindDepth, FindEntry, LookWord, LookCount, LookItems, TryWord, TryRow, TryAnnouncement, TryOp, TryStore, TryExchange, DirRoot, DirDepth, DirEntries, DirAnnouncement, DirOp, DirWord, DirRow, DirStore, DirExchange, LastWord, LastRow, StoreDone, Stuck}
use Rattle.table_model.specs.SeatStates.{Account, Flight, Stand, Idle, InFlight, SeatState, begun}
use Rattle.table_model.specs.Asks.{ask_in}
use Rattle.table_model.specs.Goes.{more, phase_after, flight_after, after_seeing, after_find}
use Rattle.word_rows.specs.declared.addresses.Address.TheVariants.{Done}
use Rattle.order_laws.proofs.Tale.{past_of, Seated}
use Rattle.order_laws.proofs.AllRuns.{all_tell}
use Rattle.table_model.specs.Directories.{bucket_of}
use Rattle.bucket_states.specs.Items.{prefix_of}
use Rattle.run_invariant.proofs.Loads.{bits_below}
use Rattle.step_counts.specs.declared.TheConstants.{DIRECTORY_HEAD_WORDS}
use Rattle.table_model.specs.Worlds.{World, IsRun, CanBegin, FitsStand, world_after, opening_world, act, begin_or_refuse, refusal_of, step_of, seat_in, found_by}
use Rattle.bound_laws.proofs.WorldSteps.{step_same, step_other}
use Rattle.run_invariant.proofs.Invariant.{Common, Local, Keeps, KeepsStand, Shared, lead, op_no, op_words_of}
use Rattle.std.proofs.lemmas.Bool.{cases_eq, cases_lt}
use Rattle.std.proofs.Math.Seq.{get_or-append_seam}
use Rattle.bucket_states.proofs.AnswerLemmas.{lt_false}
use Rattle.std.proofs.lemmas.List.{length-append, get_or_append_left}
use Rattle.table_model.specs.declared.rounds.Aim.TheVariants.{ForLookup}
use Rattle.run_invariant.proofs.Events.{announced, local_after, roots_after}
use Rattle.run_laws.proofs.Induction.{Follows, acts, begun_keeps, found_in}
use Rattle.run_laws.proofs.Changes.{changes_from_laws}
use Rattle.run_laws.proofs.Opened.{bucket_laws}
use Rattle.run_laws.proofs.TwoParts.{happen_both}
use Rattle.lasting_laws.proofs.Bursts.{step_event, run_on}
use Rattle.lasting_laws.proofs.Lost.{SamePast, same_self, same_both}
use Rattle.lasting_laws.proofs.Alone.{Closed, Reaches, comes_out, one_event}
use Rattle.lasting_laws.proofs.Won.{Comes}

-- where a burst of one update leads: in the same call, with the same account, and the same past
pub record Is_in (setup : Setup) (p : ℕ) (events : List Event) (c : Common) (account : Account) (number : ℕ)
    (call : Call)
    (phase : Phase) : Type 0 where
  pub last : List Event
  pub more : List Event
  pub is : last ≡ events ++ more
  pub run : IsRun setup last
  pub common : Common
  pub locals : ℕ → Local
  pub follows : Follows setup (world_after setup last) common locals
  pub past : SamePast c common
  pub flight : Flight
  pub number_is : flight.number ≡ number
  pub call_is : flight.call ≡ call
  pub mine : seat_in (world_after setup last) p ≡ record { account = account; stand = InFlight flight phase }
  pub others : (q : ℕ) → q ≢ p → seat_in (world_after setup last) q ≡ seat_in (world_after setup events) q
  -- the done words that it has seen are what each seat had answered
  pub sees : (q : ℕ) → q < length flight.seen →
      get_or flight.seen q 0 ≡ length (seat_in (world_after setup events) q).account.records

-- the done word of a seat tells how many calls it has answered
done_is : (setup : Setup) (events : List Event) (run : IsRun setup events) (c : Common) (locals : ℕ → Local) →
    Follows setup (world_after setup events) c locals → (q : ℕ) → q < seats_of setup →
    c.memory.done q ≡ length (seat_in (world_after setup events) q).account.records
done_is setup events run c locals f q h =
    let a = all_tell setup events run in
    sym (f.shows.same (Done q) h) ∙ a.follows.shows.same (Done q) h ∙ a.holds.done q
    ∙ go (seat_in (world_after setup events) q).stand (a.holds.seats q h)
  where
    go : (stand : Stand) → Seated setup (past_of (all_tell setup events run).common) (all_tell setup events run).extra q
        ((all_tell setup events run).locals q) (seat_in (world_after setup events) q).account stand →
        (all_tell setup events run).extra.answers q ≡ length (seat_in (world_after setup events) q).account.records
    go Idle k = k.answers.many
    go (InFlight flight phase) k = k.answers.many

-- ---- the beginning

module _ (setup : Setup) (p : ℕ) (events : List Event) (run : IsRun setup events) (c : Common) (locals : ℕ → Local)
    (f : Follows setup (world_after setup events) c locals) (h : p < seats_of setup) (account : Account) (call : Call)
    (update : is_update call ≡ true)
    (mine : seat_in (world_after setup events) p ≡ record { account = account; stand = Idle })
    (can : CanBegin setup account (0, call)) (free : refusal_of setup p account call ≡ None) where
  abbrev w : World
  w = world_after setup events

  abbrev begin : Event
  begin = record { seat = p; begin = Some (0, call) }

  abbrev first : Flight
  first = begun account 0 call

  -- the phase after the first done word
  abbrev pub after_first : ℕ → Phase
  after_first n = phase_after setup p account.used first SeeDone n

  kept : Keeps setup c p account.used first (locals p) SeeDone
  kept = begun_keeps setup c p account (locals p) 0 call
      (subst (λ (s : SeatState). KeepsStand setup c p s.account.used (locals p) s.stand) mine (f.seats p h)) can free

  stepped : world_after setup (events ++ begin ∷ []) ≡ step_of setup w p account first SeeDone
  stepped =
      happen_both setup (opening_world setup) events (begin ∷ [])
      ∙ ap (λ (b : Bool). cond b (act setup w p (seat_in w p).account (seat_in w p).stand (Some (0, call))) w)
      (lt-ltb p (seats_of setup) h)
      ∙ ap (λ (s : SeatState). act setup w p s.account s.stand (Some (0, call))) mine
      ∙ ap (begin_or_refuse setup w p account 0 call) free

  -- the first step is a load of a done word
  pub begins : (n : ℕ) × Is_in setup p events c account first.number call (after_first n)
  begins = (
    found_by setup (ask_in setup p account.used first SeeDone) w.words,
    record {
      last = events ++ begin ∷ [];
      more = begin ∷ [];
      is = refl;
      run = run_on setup events (begin ∷ []) run (
        record {
          seat = h;
          begin = subst (λ (s : SeatState). FitsStand setup s.account s.stand (Some (0, call))) (sym mine) (refl, can);
        },
        tt,
      );
      common = c;
      locals = put locals p (local_after SeeDone c (locals p));
      follows = subst (λ (v : World). Follows setup v c (put locals p (local_after SeeDone c (locals p)))) (sym stepped)
          (acts bucket_laws changes_from_laws setup w p account first SeeDone h c locals f kept);
      past = same_self c;
      flight = flight_after first SeeDone (found_by setup (ask_in setup p account.used first SeeDone) w.words);
      number_is = refl;
      call_is = refl;
      mine = ap (λ (v : World). seat_in v p) stepped
          ∙ step_same setup w p account first SeeDone (omega (arith, h, f.long));
      others = λ q n. ap (λ (v : World). seat_in v q) stepped ∙ step_other setup w p q account first SeeDone n;
      sees = λ q less.
          let first_one : q ≡ 0 = omega (arith, less) in
          ap (λ k. get_or (found_by setup (ask_in setup p account.used first SeeDone) w.words ∷ []) k 0) first_one
          ∙ f.shows.same (Done 0) (omega (arith, h))
          ∙ done_is setup events run c locals f 0 (omega (arith, h))
          ∙ ap (λ k. length (seat_in w k).account.records) (sym first_one);
    },
  )

  -- which is the one word that it has seen
  pub begins_long : length begins.1.flight.seen ≡ 1
  unfolding begins
  begins_long = refl

-- ---- the done words

-- one more, to a phase that is known
sees_one : (setup : Setup) (p : ℕ) (events : List Event) (c : Common) (account : Account) (number : ℕ) (call : Call) →
    p < seats_of setup → length (seat_in (world_after setup events) p).account.records ≡ length account.records →
    (r : Is_in setup p events c account number call SeeDone) → (phase : Phase) →
    ((n : ℕ) → phase_after setup p account.used r.flight SeeDone n ≡ phase) →
    (z : Is_in setup p events c account number call phase) × (length z.flight.seen ≡ length r.flight.seen + 1)
sees_one setup p events c account number call h own r phase to =
    let e = one_event setup p r.last r.run r.common r.locals r.follows h account r.flight SeeDone r.mine in
    let n = found_in (ask_in setup p account.used r.flight SeeDone) r.common.memory in (
      record {
        last = r.last ++ step_event p ∷ [];
        more = r.more ++ step_event p ∷ [];
        is = ap (λ (es : List Event). es ++ step_event p ∷ []) r.is
            ∙ append_assoc events r.more (step_event p ∷ []);
        run = e.goes_on;
        common = r.common;
        locals = put r.locals p (local_after SeeDone r.common (r.locals p));
        follows = e.follows;
        past = r.past;
        flight = flight_after r.flight SeeDone n;
        number_is = r.number_is;
        call_is = r.call_is;
        mine = e.state ∙ (λ i. record {
          account = account;
          stand = InFlight (flight_after r.flight SeeDone n)
              (to n i);
        });
        others = λ q d. e.others q d ∙ r.others q d;
        sees = λ q less. elim (cases_lt q (length r.flight.seen)) [
          | inl before ↦ get_or_append_left r.flight.seen (n ∷ []) 0 q before ∙ r.sees q before
          | inr past ↦
              let here : q ≡ length r.flight.seen =
              (let long = length-append r.flight.seen (n ∷ []) in omega (arith, less, past, long)) in
              ap (λ k. get_or (more r.flight.seen n) k 0) here ∙ get_or-append_seam r.flight.seen n [] 0
              ∙ done_is setup r.last r.run r.common r.locals r.follows (length r.flight.seen) short
              ∙ same_count (length r.flight.seen)
              ∙ ap (λ k. length (seat_in (world_after setup events) k).account.records) (sym here)
        ];
      },
      length-append r.flight.seen (n ∷ []),
    )
  where
    short : length r.flight.seen < seats_of setup
    short = (subst (λ (s : SeatState). KeepsStand setup r.common p s.account.used (r.locals p) s.stand) r.mine
        (r.follows.seats p h)).short

    same_count : (k : ℕ) → length (seat_in (world_after setup r.last) k).account.records
        ≡ length (seat_in (world_after setup events) k).account.records
    same_count k = elim (cases_eq k p) [
      | inl e ↦ ap (λ j. length (seat_in (world_after setup r.last) j).account.records) e
          ∙ ap (λ (s : SeatState). length s.account.records) r.mine ∙ sym own
          ∙ ap (λ j. length (seat_in (world_after setup events) j).account.records) (sym e)
      | inr d ↦ ap (λ (s : SeatState). length s.account.records) (r.others k d)
    ]

-- all of them
sees_all : (fuel : ℕ) (setup : Setup) (p : ℕ) (events : List Event) (c : Common) (account : Account) (number : ℕ)
    (call : Call) → p < seats_of setup → is_update call ≡ true →
    length (seat_in (world_after setup events) p).account.records ≡ length account.records →
    (r : Is_in setup p events c account number call SeeDone) → seats_of setup ≤ length r.flight.seen + fuel →
    (z : Is_in setup p events c account number call (StoreOp 0)) × (seats_of setup ≤ length z.flight.seen)
sees_all zero setup p events c account number call h update own r enough =
    let k = subst (λ (s : SeatState). KeepsStand setup r.common p s.account.used (r.locals p) s.stand) r.mine
    (r.follows.seats p h) in
    absurd (omega (arith, enough, k.short))
sees_all (suc fuel) setup p events c account number call h update own r enough = elim
    (cases_lt (length r.flight.seen + 1) (seats_of setup)) [
      | inl less ↦
          let z = sees_one setup p events c account number call h own r SeeDone
          (λ n. ap (λ (b : Bool). cond b SeeDone (after_seeing r.flight))
          (lt-ltb (length r.flight.seen + 1) (seats_of setup) less)) in
          sees_all fuel setup p events c account number call h update own z.0 (omega (arith, enough, z.1))
      | inr all ↦
          let z = sees_one setup p events c account number call h own r (StoreOp 0)
          (λ n. (λ i. cond (lt_false (length r.flight.seen + 1) (seats_of setup) all i) SeeDone (after_seeing r.flight))
          ∙ (λ i. cond ((ap is_update r.call_is ∙ update) i) (StoreOp 0) (FindRoot ForLookup))) in
          (z.0, omega (arith, all, z.1))
    ]

-- ---- the op

abbrev IsStoring : Phase → Type 0
IsStoring (StoreOp stored) = Unit {0}
IsStoring phase = ⊥

abbrev IsStored : Phase → Type 0
IsStored phase = phase ≡ Announce

module _ (setup : Setup) (p : ℕ) where
  storing : (call : Call) (c : Common) (account : Account) (flight : Flight) (local : Local) (phase : Phase) →
      Shared setup c → Keeps setup c p account.used flight local phase → flight.call ≡ call → Unit {0} →
      IsStoring phase →
      Closed setup p IsStoring IsStored c account flight phase
      (found_in (ask_in setup p account.used flight phase) c.memory)
  storing call c account flight local (StoreOp stored) s k same needs is = record {
    past = record {
      root = refl;
      announced = refl;
      bucket = refl;
      dir_top = refl;
      dir_row = refl;
      dir_at = refl;
      named = refl;
      pre = refl;
      deep = refl;
      top = refl;
      row_at = refl;
      words_at = refl;
      state_at = refl;
      used = refl;
      op_at = refl;
      op_words = refl;
    };
    state = refl;
    leads = either (nat_lt (stored + 1) OP_WORDS);
  }
    where
      either : (b : Bool) → IsStoring (cond b (StoreOp (stored + 1)) Announce)
          ⊎ IsStored (cond b (StoreOp (stored + 1)) Announce)
      either true = inl tt
      either false = inr refl
  storing call c account flight local SeeDone s k same needs is = absurd is
  storing call c account flight local Announce s k same needs is = absurd is
  storing call c account flight local (FindRoot aim) s k same needs is = absurd is
  storing call c account flight local (FindDepth aim root) s k same needs is = absurd is
  storing call c account flight local (FindEntry aim root depth) s k same needs is = absurd is
  storing call c account flight local (LookWord root bucket) s k same needs is = absurd is
  storing call c account flight local (LookCount row) s k same needs is = absurd is
  storing call c account flight local (LookItems row count words) s k same needs is = absurd is
  storing call c account flight local (TryWord r turn one) s k same needs is = absurd is
  storing call c account flight local (TryRow r turn one row words) s k same needs is = absurd is
  storing call c account flight local (TryAnnouncement r a o) s k same needs is = absurd is
  storing call c account flight local (TryOp r a o op words) s k same needs is = absurd is
  storing call c account flight local (TryStore r a o stored) s k same needs is = absurd is
  storing call c account flight local (TryExchange r a o) s k same needs is = absurd is
  storing call c account flight local (DirRoot r turn one) s k same needs is = absurd is
  storing call c account flight local (DirDepth r turn one root) s k same needs is = absurd is
  storing call c account flight local (DirEntries r turn one root depth words) s k same needs is = absurd is
  storing call c account flight local (DirAnnouncement r a o) s k same needs is = absurd is
  storing call c account flight local (DirOp r a o op words) s k same needs is = absurd is
  storing call c account flight local (DirWord r a o loaded bucket) s k same needs is = absurd is
  storing call c account flight local (DirRow r a o loaded bucket row words) s k same needs is = absurd is
  storing call c account flight local (DirStore r a o loaded stored) s k same needs is = absurd is
  storing call c account flight local (DirExchange r a o loaded) s k same needs is = absurd is
  storing call c account flight local (LastWord root bucket) s k same needs is = absurd is
  storing call c account flight local (LastRow row words) s k same needs is = absurd is
  storing call c account flight local (StoreDone reply place) s k same needs is = absurd is
  storing call c account flight local Stuck s k same needs is = absurd is

-- the same update is announced in the same history
announced_same : (setup : Setup) (p number : ℕ) (call : Call) (c d : Common) → SamePast c d →
    SamePast (announced setup p number call c) (announced setup p number call d)
announced_same setup p number call c d s = record {
  root = s.root;
  announced = λ i. put (s.announced i) p (op_no setup p (s.used i p).op_rows + 1);
  bucket = s.bucket;
  dir_top = s.dir_top;
  dir_row = s.dir_row;
  dir_at = s.dir_at;
  named = s.named;
  pre = s.pre;
  deep = s.deep;
  top = s.top;
  row_at = s.row_at;
  words_at = s.words_at;
  state_at = s.state_at;
  used = λ i. put (s.used i) p (record (s.used i p) { op_rows = (s.used i p).op_rows + 1 });
  op_at = λ i. put_at (s.op_at i) p (s.used i p).op_rows (record { seat = p; number = number; call = call });
  op_words = λ i. put_at (s.op_words i) p (s.used i p).op_rows (op_words_of number call);
}

-- ---- the find

module _ (setup : Setup) (p : ℕ) (call : Call) (c0 : Common) where
  abbrev row : ℕ
  row = c0.dir_row c0.dir_top

  -- the round that begins
  abbrev pub first_round : Round
  first_round = record { turn = 1; first = row; root = row; bucket = lead setup c0 c0.dir_top (key_in call) }

  abbrev IsFinding : Phase → Type 0
  IsFinding (FindRoot aim) = aim ≡ ForFirstRound
  IsFinding (FindDepth aim root) = (aim ≡ ForFirstRound) × (root ≡ row)
  IsFinding (FindEntry aim root depth) =
      (aim ≡ ForFirstRound) × (root ≡ row) × (depth ≡ (c0.dir_at c0.dir_top).depth)
  IsFinding phase = ⊥

  abbrev HasFound : Phase → Type 0
  HasFound phase = phase ≡ TryWord first_round 1 None

  finding : (c : Common) (account : Account) (flight : Flight) (local : Local) (phase : Phase) → Shared setup c →
      Keeps setup c p account.used flight local phase → flight.call ≡ call → SamePast c0 c → IsFinding phase →
      Closed setup p IsFinding HasFound c account flight phase
      (found_in (ask_in setup p account.used flight phase) c.memory)
  finding c account flight local (FindRoot aim) s k same past is = record {
    past = subst (λ a. SamePast c (roots_after p a c)) (sym is) (record {
      root = refl;
      announced = refl;
      bucket = refl;
      dir_top = refl;
      dir_row = refl;
      dir_at = refl;
      named = refl;
      pre = refl;
      deep = refl;
      top = refl;
      row_at = refl;
      words_at = refl;
      state_at = refl;
      used = refl;
      op_at = refl;
      op_words = refl;
    });
    state = refl;
    leads = inl (is, s.directories.root_is ∙ (λ i. past.dir_row i (past.dir_top i)));
  }
  finding c account flight local (FindDepth aim root) s k same past is = record {
    past = same_self c;
    state = refl;
    leads = inl (
      is.0,
      is.1,
      ap (λ n. c.memory.directory n 0) (is.1 ∙ (λ i. (sym past.dir_row) i ((sym past.dir_top) i)))
          ∙ s.directories.depth_is c.dir_top (omega arith)
          ∙ (λ i. (past.dir_at i (past.dir_top i)).depth),
    );
  }
  finding c account flight local (FindEntry aim root depth) s k same past is = record {
    past = same_self c;
    state = refl;
    leads = inr (
        ap (λ a. after_find a root entry) is.0
        ∙ (λ i. TryWord (record { turn = 1; first = is.1 i; root = is.1 i; bucket = entry_is i }) 1 None)
        );
  }
    where
      at : ℕ
      at = prefix_of (rules_of setup) depth (key_in flight.call)

      entry : ℕ
      entry = c.memory.directory root (DIRECTORY_HEAD_WORDS + at)

      depth_is : depth ≡ (c.dir_at c.dir_top).depth
      depth_is = is.2 ∙ (λ i. ((sym past.dir_at) i ((sym past.dir_top) i)).depth)

      inside : at < 2 ^ (c.dir_at c.dir_top).depth
      inside = subst (λ d. prefix_of (rules_of setup) d (key_in flight.call) < 2 ^ (c.dir_at c.dir_top).depth)
          (sym depth_is)
          (bits_below setup (c.dir_at c.dir_top).depth (key_in flight.call)
          (s.directories.shallow c.dir_top (omega arith)))

      entry_is : entry ≡ lead setup c0 c0.dir_top (key_in call)
      entry_is =
          ap (λ n. c.memory.directory n (DIRECTORY_HEAD_WORDS + at))
          (is.1 ∙ (λ i. (sym past.dir_row) i ((sym past.dir_top) i)))
          ∙ s.directories.entries_are c.dir_top at (omega arith) inside
          ∙ ap (λ d. get_or (c.dir_at c.dir_top).entries (prefix_of (rules_of setup) d (key_in flight.call)) 0) depth_is
          ∙ (λ i. bucket_of (rules_of setup) (past.dir_at i (past.dir_top i)) (key_in (same i)))
  finding c account flight local SeeDone s k same past is = absurd is
  finding c account flight local (StoreOp stored) s k same past is = absurd is
  finding c account flight local Announce s k same past is = absurd is
  finding c account flight local (LookWord root bucket) s k same past is = absurd is
  finding c account flight local (LookCount row) s k same past is = absurd is
  finding c account flight local (LookItems row count words) s k same past is = absurd is
  finding c account flight local (TryWord r turn one) s k same past is = absurd is
  finding c account flight local (TryRow r turn one row words) s k same past is = absurd is
  finding c account flight local (TryAnnouncement r a o) s k same past is = absurd is
  finding c account flight local (TryOp r a o op words) s k same past is = absurd is
  finding c account flight local (TryStore r a o stored) s k same past is = absurd is
  finding c account flight local (TryExchange r a o) s k same past is = absurd is
  finding c account flight local (DirRoot r turn one) s k same past is = absurd is
  finding c account flight local (DirDepth r turn one root) s k same past is = absurd is
  finding c account flight local (DirEntries r turn one root depth words) s k same past is = absurd is
  finding c account flight local (DirAnnouncement r a o) s k same past is = absurd is
  finding c account flight local (DirOp r a o op words) s k same past is = absurd is
  finding c account flight local (DirWord r a o loaded bucket) s k same past is = absurd is
  finding c account flight local (DirRow r a o loaded bucket row words) s k same past is = absurd is
  finding c account flight local (DirStore r a o loaded stored) s k same past is = absurd is
  finding c account flight local (DirExchange r a o loaded) s k same past is = absurd is
  finding c account flight local (LastWord root bucket) s k same past is = absurd is
  finding c account flight local (LastRow row words) s k same past is = absurd is
  finding c account flight local (StoreDone reply place) s k same past is = absurd is
  finding c account flight local Stuck s k same past is = absurd is

-- ---- all of it

module _ (setup : Setup) (p : ℕ) (events : List Event) (run : IsRun setup events) (c : Common) (locals : ℕ → Local)
    (f : Follows setup (world_after setup events) c locals) (h : p < seats_of setup) (account : Account) (call : Call)
    (update : is_update call ≡ true)
    (mine : seat_in (world_after setup events) p ≡ record { account = account; stand = Idle })
    (can : CanBegin setup account (0, call)) (free : refusal_of setup p account call ≡ None) where
  abbrev number : ℕ
  number = length account.records + 1

  -- the history with the announcement
  abbrev pub then_common : Common
  then_common = announced setup p number call c

  -- the account with the op row
  abbrev pub with_op : Account
  with_op = record account { used = record account.used { op_rows = account.used.op_rows + 1 } }

  -- all done words are seen
  seen_all : (z : Is_in setup p events c account number call (StoreOp 0)) × (seats_of setup ≤ length z.flight.seen)
  seen_all =
      let b = begins setup p events run c locals f h account call update mine can free in
      elim (cases_lt 1 (seats_of setup)) [
        | inl less ↦ sees_all (seats_of setup) setup p events c account number call h update
            (ap (λ (s : SeatState). length s.account.records) mine)
            (subst (Is_in setup p events c account number call)
            (λ i. cond (lt-ltb 1 (seats_of setup) less i) SeeDone (after_seeing (begun account 0 call))) b.1)
            (omega arith)
        | inr all ↦ subst (λ (ph : Phase). (z : Is_in setup p events c account number call ph)
            × (seats_of setup ≤ length z.flight.seen))
            ((λ i. cond (lt_false 1 (seats_of setup) all i) SeeDone (after_seeing (begun account 0 call)))
            ∙ (λ i. cond (update i) (StoreOp 0) (FindRoot ForLookup))) (
              b.1,
              (let l = begins_long setup p events run c locals f h account call update mine can free in omega
                  (arith, all, l)),
            )
      ]

  abbrev seen : Is_in setup p events c account number call (StoreOp 0)
  seen = seen_all.0

  -- the op is stored
  stored : Reaches setup p seen.last seen.common account seen.flight Announce
  stored =
      let z = comes_out setup p (λ g. g.call ≡ call) (λ g n e. e) IsStoring IsStored (λ d. Unit {0}) (λ a b s n. tt)
      (storing setup p call)
      (step_bound (settings_of setup)) seen.last seen.run seen.common seen.locals seen.follows h account seen.flight
      (StoreOp 0) seen.mine (ap is_update seen.call_is ∙ update) seen.call_is tt tt (omega arith) in
      subst (Reaches setup p seen.last seen.common account seen.flight) z.1 z.2

  -- THE RESULT: the update is announced, and at its first try
  pub announces_at_once : (flight : Flight) × (flight.number ≡ number) × (flight.call ≡ call)
      × Comes setup p events then_common
      (record { account = with_op; stand = InFlight flight (TryWord (first_round setup p call then_common) 1 None) })
      × ((q : ℕ) → q < seats_of setup →
      get_or flight.seen q 0 ≡ length (seat_in (world_after setup events) q).account.records)
  announces_at_once =
      let r = stored in
      let flight3 : Flight = record seen.flight { steps = r.steps } in
      let e = one_event setup p r.last r.run r.common r.locals r.follows h account flight3 Announce r.mine in
      let past : SamePast then_common (announced setup p flight3.number flight3.call r.common) =
      subst (SamePast then_common)
      (λ i. announced setup p ((sym seen.number_is) i) ((sym seen.call_is) i) r.common)
      (announced_same setup p number call c r.common (same_both c seen.common r.common seen.past r.past)) in
      let z = comes_out setup p (λ g. g.call ≡ call) (λ g n e. e) (IsFinding setup p call then_common)
      (HasFound setup p call then_common)
      (SamePast then_common) (λ a b s x. same_both then_common a b x s) (finding setup p call then_common)
      (step_bound (settings_of setup)) (r.last ++ step_event p ∷ []) e.goes_on
      (announced setup p flight3.number flight3.call r.common)
      (put r.locals p (local_after Announce r.common (r.locals p))) e.follows h with_op
      (record flight3 { steps = r.steps + 1 }) (FindRoot ForFirstRound) e.state
      (ap is_update seen.call_is ∙ update) seen.call_is refl past (omega arith) in
      let x = subst (Reaches setup p (r.last ++ step_event p ∷ [])
      (announced setup p flight3.number flight3.call r.common) with_op
      (record flight3 { steps = r.steps + 1 })) z.1 z.2 in (
        record seen.flight { steps = x.steps },
        seen.number_is,
        seen.call_is,
        record {
          last = x.last;
          more = seen.more ++ (r.more ++ (step_event p ∷ x.more));
          is = x.is ∙ append_assoc r.last (step_event p ∷ []) x.more
              ∙ ap (λ (es : List Event). es ++ (step_event p ∷ x.more)) (r.is
              ∙ ap (λ (es : List Event). es ++ r.more) seen.is)
              ∙ append_assoc (events ++ seen.more) r.more (step_event p ∷ x.more)
              ∙ append_assoc events seen.more (r.more ++ (step_event p ∷ x.more));
          run = x.run;
          common = x.common;
          locals = x.locals;
          follows = x.follows;
          past = same_both then_common (announced setup p flight3.number flight3.call r.common) x.common past x.past;
          mine = x.mine;
          others = λ q n. x.others q n ∙ e.others q n ∙ r.others q n ∙ seen.others q n;
        },
        λ q inside. seen.sees q (let all = seen_all.1 in omega (arith, inside, all)),
      )
