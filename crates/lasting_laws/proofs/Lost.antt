-- A try of the ghost that can not win any more is brought to its end at once: the seat alone goes on until it has lost
-- the exchange. How many steps that takes is not counted: they are fewer than an update may have, and each is of the
-- try.
use Rattle.std.proofs.Common.{◌≡◌, ◌≢◌, ℕ, zero, suc, ◌+◌, ◌-◌, ◌<◌, ◌≤◌, Bool, true, false, cond, eqb, List, [], ◌∷◌, ◌++◌, length, refl, sym, ap, ◌∙◌, subst, arith, lt-ltb, append_assoc}
use Rattle.std.specs.Prelude.{Some, None, nat_lt, ◌==◌}
use Rattle.std.proofs.lemmas.Bool.{cond_both, ne_eqb, eqb-true}
use Rattle.step_counts.specs.StepCounts.{step_bound, bucket_row_words}
use Rattle.plain_map.specs.Calls.{is_update}
use Rattle.word_rows.specs.Memory.{put}
use Rattle.word_rows.specs.declared.addresses.Address.TheVariants.{BucketWord}
use Rattle.table_model.specs.declared.events.Event.{Event}
use Rattle.table_model.specs.declared.rounds.Round.{Round}
use Rattle.step_counts.specs.declared.rows.SeatRows.{SeatRows}
use Rattle.table_model.specs.Setup.{Setup, seats_of, settings_of, next_number}
use Rattle.table_model.specs.Phases.{Phase, BucketTry, SeeDone, StoreOp, Announce, FindRoot, FindDepth, FindEntry, LookWord, LookCount, LookItems, TryWord, TryRow, TryAnnouncement, TryOp, TryStore, TryExchange, DirRoot, DirDepth, DirEntries, DirAnnouncement, DirOp, DirWord, DirRow, DirStore, DirExchange, LastWord, LastRow, StoreDone, Stuck}
use Rattle.table_model.specs.SeatStates.{Account, Flight, InFlight, SeatState}
use Rattle.table_model.specs.Asks.{ask_in}
use Rattle.table_model.specs.Goes.{phase_after, state_after, more, op_in_words, after_found, after_exchange}
use Rattle.table_model.specs.Stores.{made_bucket}
use Rattle.plain_map.specs.declared.full.FullKind.TheVariants.{BucketRows}
use Rattle.step_counts.specs.declared.TheConstants.{OP_WORDS}
use Rattle.table_model.specs.Worlds.{World, IsRun, FitsStand, world_after, opening_world, act, step_of, seat_in, found_by}
use Rattle.bound_laws.proofs.Ends.{updates_are_short}
use Rattle.bound_laws.proofs.WorldSteps.{step_same, step_other}
use Rattle.run_invariant.proofs.Invariant.{Common, Local, Keeps, KeepsStand}
use Rattle.run_invariant.proofs.Events.{local_after}
use Rattle.run_laws.proofs.Induction.{Follows, common_after, acts}
use Rattle.run_laws.proofs.Changes.{changes_from_laws}
use Rattle.run_laws.proofs.Opened.{bucket_laws}
use Rattle.run_laws.proofs.TwoParts.{happen_both}
use Rattle.lasting_laws.proofs.Bursts.{step_event, run_on}

-- the history is the same, and so are all words that are published
pub record SamePast (c d : Common) : Type 0 where
  pub root : d.memory.root ≡ c.memory.root
  pub announced : d.memory.announced ≡ c.memory.announced
  pub bucket : d.memory.bucket ≡ c.memory.bucket
  pub dir_top : d.dir_top ≡ c.dir_top
  pub dir_row : d.dir_row ≡ c.dir_row
  pub dir_at : d.dir_at ≡ c.dir_at
  pub named : d.named ≡ c.named
  pub pre : d.pre ≡ c.pre
  pub deep : d.deep ≡ c.deep
  pub top : d.top ≡ c.top
  pub row_at : d.row_at ≡ c.row_at
  pub words_at : d.words_at ≡ c.words_at
  pub state_at : d.state_at ≡ c.state_at
  pub used : d.used ≡ c.used
  pub op_at : d.op_at ≡ c.op_at
  pub op_words : d.op_words ≡ c.op_words

pub same_self : (c : Common) → SamePast c c
same_self c = record {
  root = refl;
  announced = refl;
  bucket = refl;
  dir_top = refl;
  dir_row = refl;
  dir_at = refl;
  named = refl;
  pre = refl;
  deep = refl;
  top = refl;
  row_at = refl;
  words_at = refl;
  state_at = refl;
  used = refl;
  op_at = refl;
  op_words = refl;
}

pub same_both : (b c d : Common) → SamePast b c → SamePast c d → SamePast b d
same_both b c d x y = record {
  root = y.root ∙ x.root;
  announced = y.announced ∙ x.announced;
  bucket = y.bucket ∙ x.bucket;
  dir_top = y.dir_top ∙ x.dir_top;
  dir_row = y.dir_row ∙ x.dir_row;
  dir_at = y.dir_at ∙ x.dir_at;
  named = y.named ∙ x.named;
  pre = y.pre ∙ x.pre;
  deep = y.deep ∙ x.deep;
  top = y.top ∙ x.top;
  row_at = y.row_at ∙ x.row_at;
  words_at = y.words_at ∙ x.words_at;
  state_at = y.state_at ∙ x.state_at;
  used = y.used ∙ x.used;
  op_at = y.op_at ∙ x.op_at;
  op_words = y.op_words ∙ x.op_words;
}

-- the phases of a try, after its look
abbrev pub IsOfTry : Round → BucketTry → Phase → Type 0
IsOfTry round attempt (TryAnnouncement r a found) = (r ≡ round) × (a ≡ attempt)
IsOfTry round attempt (TryOp r a found op words) = (r ≡ round) × (a ≡ attempt)
IsOfTry round attempt (TryStore r a found stored) = (r ≡ round) × (a ≡ attempt)
IsOfTry round attempt (TryExchange r a found) = (r ≡ round) × (a ≡ attempt)
IsOfTry round attempt phase = ⊥

-- the next try of the round
abbrev pub next_try : Round → BucketTry → Phase
next_try round attempt = TryWord round (attempt.turn + 1) (Some attempt.first)

module _ (setup : Setup) (p : ℕ) (round : Round) (attempt : BucketTry) where
  -- the word that an exchange of the try finds is another
  abbrev Loses : Phase → ℕ → Type 0
  Loses (TryExchange r a found) word = word ≢ attempt.row
  Loses phase word = Unit {0}

  -- the phase is one of the try, or it is that of the next one
  pub data Next (phase : Phase) : Type 0 where
    within : IsOfTry round attempt phase → Next phase
    beyond : phase ≡ next_try round attempt → Next phase

  either : (b : Bool) (x y : Phase) → (b ≡ true → Next x) → (b ≡ false → Next y) → Next (cond b x y)
  either true x y f g = f refl
  either false x y f g = g refl

  -- a step of the try leads on in it, or to the next one
  next : (used : SeatRows) (flight : Flight) (phase : Phase) (word : ℕ) → IsOfTry round attempt phase →
      Loses phase word →
      Next (phase_after setup p used flight phase word)
  next used flight (TryAnnouncement r a found) word is loses =
      either (word == 0) (after_found setup r a (more found None)) (TryOp r a found (word - 1) [])
      (λ _. either (nat_lt (length (more found None)) (seats_of setup)) (TryAnnouncement r a (more found None))
      (TryStore r a (more found None) 0) (λ _. within is) (λ _. within is)) (λ _. within is)
  next used flight (TryOp r a found op words) word is loses =
      let all = more found (Some (op_in_words (length found) (more words word))) in
      either (nat_lt (length words + 1) OP_WORDS) (TryOp r a found op (more words word)) (after_found setup r a all)
      (λ _. within is) (λ _. either (nat_lt (length all) (seats_of setup)) (TryAnnouncement r a all)
      (TryStore r a all 0)
      (λ _. within is) (λ _. within is))
  next used flight (TryStore r a found stored) word is loses =
      either (nat_lt (stored + 1) (bucket_row_words (settings_of setup))) (TryStore r a found (stored + 1))
      (TryExchange r a found) (λ _. within is) (λ _. within is)
  next used flight (TryExchange r a found) word is loses =
      either (word == a.row)
      (after_exchange p flight r (made_bucket setup a found) (next_number setup p BucketRows used))
      (TryWord r (a.turn + 1) (Some a.first))
      (λ e. absurd (loses (eqb-true word a.row e ∙ ap (λ (t : BucketTry). t.row) is.1)))
      (λ _. beyond (λ i. TryWord (is.0 i) ((is.1 i).turn + 1) (Some (is.1 i).first)))
  next used flight SeeDone word is loses = absurd is
  next used flight (StoreOp stored) word is loses = absurd is
  next used flight Announce word is loses = absurd is
  next used flight (FindRoot aim) word is loses = absurd is
  next used flight (FindDepth aim root) word is loses = absurd is
  next used flight (FindEntry aim root depth) word is loses = absurd is
  next used flight (LookWord root bucket) word is loses = absurd is
  next used flight (LookCount row) word is loses = absurd is
  next used flight (LookItems row count words) word is loses = absurd is
  next used flight (TryWord r turn first) word is loses = absurd is
  next used flight (TryRow r turn first row words) word is loses = absurd is
  next used flight (DirRoot r turn first) word is loses = absurd is
  next used flight (DirDepth r turn first root) word is loses = absurd is
  next used flight (DirEntries r turn first root depth words) word is loses = absurd is
  next used flight (DirAnnouncement r a found) word is loses = absurd is
  next used flight (DirOp r a found op words) word is loses = absurd is
  next used flight (DirWord r a found loaded bucket) word is loses = absurd is
  next used flight (DirRow r a found loaded bucket row words) word is loses = absurd is
  next used flight (DirStore r a found loaded stored) word is loses = absurd is
  next used flight (DirExchange r a found loaded) word is loses = absurd is
  next used flight (LastWord root bucket) word is loses = absurd is
  next used flight (LastRow row words) word is loses = absurd is
  next used flight (StoreDone reply place) word is loses = absurd is
  next used flight Stuck word is loses = absurd is

  -- what one step of a try that can not win leaves: the past, and the state of the seat
  record One (c : Common) (account : Account) (flight : Flight) (phase : Phase) (word : ℕ) : Type 0 where
    pub past : SamePast c (common_after setup p account.used flight phase c)
    pub state : state_after setup p account flight phase word ≡ record {
      account = account;
      stand = InFlight (record flight { steps = flight.steps + 1 })
          (phase_after setup p account.used flight phase word);
    }

  -- the word of the bucket is another
  abbrev IsMoved : Common → Type 0
  IsMoved c = c.memory.bucket round.bucket ≢ attempt.row

  one : (c : Common) (account : Account) (flight : Flight) (phase : Phase) (word : ℕ) → IsOfTry round attempt phase →
      IsMoved c → Loses phase word → One c account flight phase word
  one c account flight (TryAnnouncement r a found) word is moved loses = record { past = same_self c; state = refl }
  one c account flight (TryOp r a found op words) word is moved loses = record { past = same_self c; state = refl }
  one c account flight (TryStore r a found stored) word is moved loses = record {
    past = record {
      root = refl;
      announced = refl;
      bucket = refl;
      dir_top = refl;
      dir_row = refl;
      dir_at = refl;
      named = refl;
      pre = refl;
      deep = refl;
      top = refl;
      row_at = refl;
      words_at = refl;
      state_at = refl;
      used = refl;
      op_at = refl;
      op_words = refl;
    };
    state = refl;
  }
  one c account flight (TryExchange r a found) word is moved loses =
      let other : c.memory.bucket r.bucket ≢ a.row =
      λ e. moved (ap (λ (x : Round). c.memory.bucket x.bucket) (sym is.0) ∙ e ∙ ap (λ (t : BucketTry). t.row) is.1) in
      let kept : word ≢ a.row = λ e. loses (e ∙ ap (λ (t : BucketTry). t.row) is.1) in
      record {
        past = cond_both (eqb (c.memory.bucket r.bucket) a.row) _ _ (SamePast c)
            (λ e. absurd (other (eqb-true (c.memory.bucket r.bucket) a.row e))) (λ _. same_self c);
        state = λ i. record {
          account = record account {
            used = cond (ne_eqb word a.row kept i)
                (record account.used { bucket_rows = account.used.bucket_rows + 1 }) account.used;
          };
          stand = InFlight (record flight { steps = flight.steps + 1 })
              (phase_after setup p account.used flight (TryExchange r a found) word);
        };
      }
  one c account flight SeeDone word is moved loses = absurd is
  one c account flight (StoreOp stored) word is moved loses = absurd is
  one c account flight Announce word is moved loses = absurd is
  one c account flight (FindRoot aim) word is moved loses = absurd is
  one c account flight (FindDepth aim root) word is moved loses = absurd is
  one c account flight (FindEntry aim root depth) word is moved loses = absurd is
  one c account flight (LookWord root bucket) word is moved loses = absurd is
  one c account flight (LookCount row) word is moved loses = absurd is
  one c account flight (LookItems row count words) word is moved loses = absurd is
  one c account flight (TryWord r turn first) word is moved loses = absurd is
  one c account flight (TryRow r turn first row words) word is moved loses = absurd is
  one c account flight (DirRoot r turn first) word is moved loses = absurd is
  one c account flight (DirDepth r turn first root) word is moved loses = absurd is
  one c account flight (DirEntries r turn first root depth words) word is moved loses = absurd is
  one c account flight (DirAnnouncement r a found) word is moved loses = absurd is
  one c account flight (DirOp r a found op words) word is moved loses = absurd is
  one c account flight (DirWord r a found loaded bucket) word is moved loses = absurd is
  one c account flight (DirRow r a found loaded bucket row words) word is moved loses = absurd is
  one c account flight (DirStore r a found loaded stored) word is moved loses = absurd is
  one c account flight (DirExchange r a found loaded) word is moved loses = absurd is
  one c account flight (LastWord root bucket) word is moved loses = absurd is
  one c account flight (LastRow row words) word is moved loses = absurd is
  one c account flight (StoreDone reply place) word is moved loses = absurd is
  one c account flight Stuck word is moved loses = absurd is

  -- the run goes on, by steps of the seat alone, to where it stands so
  pub record Reaches (events : List Event) (c : Common) (account : Account) (flight : Flight) (phase : Phase) : Type 0
    where
      pub last : List Event
      pub more : List Event
      pub is : last ≡ events ++ more
      pub run : IsRun setup last
      pub common : Common
      pub locals : ℕ → Local
      pub follows : Follows setup (world_after setup last) common locals
      pub past : SamePast c common
      pub steps : ℕ
      pub mine : seat_in (world_after setup last) p
          ≡ record { account = account; stand = InFlight (record flight { steps = steps }) phase }
      pub others : (q : ℕ) → q ≢ p → seat_in (world_after setup last) q ≡ seat_in (world_after setup events) q

  -- one step of the seat
  module _ (events : List Event) (run : IsRun setup events) (c : Common) (locals : ℕ → Local)
      (f : Follows setup (world_after setup events) c locals) (h : p < seats_of setup) (account : Account)
      (flight : Flight) (phase : Phase)
      (mine : seat_in (world_after setup events) p ≡ record { account = account; stand = InFlight flight phase })
      (is : IsOfTry round attempt phase) (moved : IsMoved c) where
    abbrev w : World
    w = world_after setup events

    kept : Keeps setup c p account.used flight (locals p) phase
    kept = subst (λ (s : SeatState). KeepsStand setup c p s.account.used (locals p) s.stand) mine (f.seats p h)

    abbrev word : ℕ
    word = found_by setup (ask_in setup p account.used flight phase) w.words

    -- it finds another word
    loses : (phase : Phase) → IsOfTry round attempt phase → Keeps setup c p account.used flight (locals p) phase →
        Loses phase (found_by setup (ask_in setup p account.used flight phase) w.words)
    loses (TryExchange r a found) of_try k = λ e.
        moved (ap (λ (x : Round). c.memory.bucket x.bucket) (sym of_try.0)
        ∙ sym (f.shows.same (BucketWord r.bucket) (f.shared.rows.inside r.bucket k.in_round.there)) ∙ e)
    loses (TryAnnouncement r a found) of_try k = tt
    loses (TryOp r a found op words) of_try k = tt
    loses (TryStore r a found stored) of_try k = tt
    loses SeeDone of_try k = tt
    loses (StoreOp stored) of_try k = tt
    loses Announce of_try k = tt
    loses (FindRoot aim) of_try k = tt
    loses (FindDepth aim root) of_try k = tt
    loses (FindEntry aim root depth) of_try k = tt
    loses (LookWord root bucket) of_try k = tt
    loses (LookCount row) of_try k = tt
    loses (LookItems row count words) of_try k = tt
    loses (TryWord r turn first) of_try k = tt
    loses (TryRow r turn first row words) of_try k = tt
    loses (DirRoot r turn first) of_try k = tt
    loses (DirDepth r turn first root) of_try k = tt
    loses (DirEntries r turn first root depth words) of_try k = tt
    loses (DirAnnouncement r a found) of_try k = tt
    loses (DirOp r a found op words) of_try k = tt
    loses (DirWord r a found loaded bucket) of_try k = tt
    loses (DirRow r a found loaded bucket row words) of_try k = tt
    loses (DirStore r a found loaded stored) of_try k = tt
    loses (DirExchange r a found loaded) of_try k = tt
    loses (LastWord root bucket) of_try k = tt
    loses (LastRow row words) of_try k = tt
    loses (StoreDone reply place) of_try k = tt
    loses Stuck of_try k = tt

    -- the world then
    stepped : world_after setup (events ++ step_event p ∷ []) ≡ step_of setup w p account flight phase
    stepped =
        happen_both setup (opening_world setup) events (step_event p ∷ [])
        ∙ ap (λ (b : Bool). cond b (act setup w p (seat_in w p).account (seat_in w p).stand None) w)
        (lt-ltb p (seats_of setup) h)
        ∙ ap (λ (s : SeatState). act setup w p s.account s.stand None) mine

    step_run : IsRun setup (events ++ step_event p ∷ [])
    step_run = run_on setup events (step_event p ∷ []) run (
      record {
        seat = h;
        begin = subst (λ (s : SeatState). FitsStand setup s.account s.stand None) (sym mine) refl;
      },
      tt,
    )

    -- what it leaves
    pub one_step : Reaches events c account flight (phase_after setup p account.used flight phase word)
    one_step =
        let o = one c account flight phase word is moved (loses phase is kept) in
        record {
          last = events ++ step_event p ∷ [];
          more = step_event p ∷ [];
          is = refl;
          run = step_run;
          common = common_after setup p account.used flight phase c;
          locals = put locals p (local_after phase c (locals p));
          follows = subst (λ (v : World). Follows setup v (common_after setup p account.used flight phase c)
              (put locals p (local_after phase c (locals p)))) (sym stepped)
              (acts bucket_laws changes_from_laws setup w p account flight phase h c locals f kept);
          past = o.past;
          steps = flight.steps + 1;
          mine = ap (λ (v : World). seat_in v p) stepped
              ∙ step_same setup w p account flight phase (omega (arith, h, f.long)) ∙ o.state;
          others = λ q n. ap (λ (v : World). seat_in v q) stepped
              ∙ step_other setup w p q account flight phase n;
        }

    -- and where it leads
    pub where_to : Next (phase_after setup p account.used flight phase word)
    where_to = next account.used flight phase word is (loses phase is kept)

  -- steps after steps
  reached : (events : List Event) (c : Common) (account : Account) (flight : Flight) (first then_is : Phase)
      (r : Reaches events c account flight first) →
      Reaches r.last r.common account (record flight { steps = r.steps }) then_is →
      Reaches events c account flight then_is
  reached events c account flight first then_is r z = record {
    last = z.last;
    more = r.more ++ z.more;
    is = z.is ∙ ap (λ (es : List Event). es ++ z.more) r.is ∙ append_assoc events r.more z.more;
    run = z.run;
    common = z.common;
    locals = z.locals;
    follows = z.follows;
    past = same_both c r.common z.common r.past z.past;
    steps = z.steps;
    mine = z.mine;
    others = λ q n. z.others q n ∙ r.others q n;
  }

  -- THE RESULT: a try that can not win is lost, at once
  pub lose : (fuel : ℕ) (events : List Event) (run : IsRun setup events) (c : Common) (locals : ℕ → Local)
      (f : Follows setup (world_after setup events) c locals) (h : p < seats_of setup) (account : Account)
      (flight : Flight) (phase : Phase) →
      seat_in (world_after setup events) p ≡ record { account = account; stand = InFlight flight phase } →
      is_update flight.call ≡ true → IsOfTry round attempt phase → IsMoved c →
      step_bound (settings_of setup) ≤ flight.steps + fuel → Reaches events c account flight (next_try round attempt)
  unfolding one_step
  lose zero events run c locals f h account flight phase mine update is moved enough =
      let short = updates_are_short setup events p flight phase run
      (record { seat_is = h; stand = ap (λ (s : SeatState). s.stand) mine; update = update }) in
      absurd (omega (arith, short, enough))
  lose (suc fuel) events run c locals f h account flight phase mine update is moved enough =
      let r = one_step events run c locals f h account flight phase mine is moved in
      go _ (where_to events run c locals f h account flight phase mine is moved) r
      (λ on. lose fuel r.last r.run r.common r.locals r.follows h account (record flight { steps = r.steps }) _
      r.mine update on (λ e. moved (ap (λ (m : ℕ → ℕ). m round.bucket) (sym r.past.bucket) ∙ e))
      (let e : r.steps ≡ flight.steps + 1 = refl in omega (arith, enough, e)))
    where
      go : (then_is : Phase) → Next then_is → (r : Reaches events c account flight then_is) →
          (IsOfTry round attempt then_is →
          Reaches r.last r.common account (record flight { steps = r.steps }) (next_try round attempt)) →
          Reaches events c account flight (next_try round attempt)
      go then_is (beyond e) r again = subst (Reaches events c account flight) e r
      go then_is (within on) r again = reached events c account flight then_is (next_try round attempt) r (again on)
