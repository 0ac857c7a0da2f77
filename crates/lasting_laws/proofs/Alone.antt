-- One seat goes on alone, as long as it is in phases of a kind: bursts of a ghost. Each step is quiet, that is it
-- leaves the history as it is; how many there are is not counted.
use Rattle.std.proofs.Common.{◌≡◌, ◌≢◌, ℕ, zero, suc, ◌+◌, ◌<◌, ◌≤◌, ◌⊎◌, inl, inr, Bool, true, cond, List, [], ◌∷◌, ◌++◌, refl, sym, ap, ◌∙◌, subst, arith, lt-ltb, append_assoc}
use Rattle.std.specs.Prelude.{None}
use Rattle.step_counts.specs.StepCounts.{step_bound}
use Rattle.plain_map.specs.Calls.{is_update}
use Rattle.word_rows.specs.Memory.{put}
use Rattle.table_model.specs.declared.events.Event.{Event}
use Rattle.table_model.specs.Setup.{Setup, seats_of, settings_of}
use Rattle.table_model.specs.Phases.{Phase}
use Rattle.table_model.specs.SeatStates.{Account, Flight, InFlight, SeatState}
use Rattle.table_model.specs.Asks.{ask_in}
use Rattle.table_model.specs.Goes.{phase_after, state_after}
use Rattle.table_model.specs.Worlds.{World, IsRun, FitsStand, world_after, opening_world, act, step_of, seat_in, found_by}
use Rattle.table_model.specs.Steps.{IsOnWord}
use Rattle.bound_laws.proofs.Ends.{updates_are_short}
use Rattle.bound_laws.proofs.WorldSteps.{step_same, step_other}
use Rattle.run_invariant.proofs.Invariant.{Common, Local, Keeps, KeepsStand, Shared}
use Rattle.run_invariant.proofs.Events.{local_after}
use Rattle.run_laws.proofs.Induction.{Follows, common_after, acts, found_in, found_same}
use Rattle.run_laws.proofs.Within.{steps_are_within}
use Rattle.run_laws.proofs.Changes.{changes_from_laws}
use Rattle.run_laws.proofs.Opened.{bucket_laws}
use Rattle.run_laws.proofs.TwoParts.{happen_both}
use Rattle.lasting_laws.proofs.Bursts.{step_event, run_on}
use Rattle.lasting_laws.proofs.Lost.{SamePast, same_both}

-- ---- one event of a seat in a call, whatever it is

module _ (setup : Setup) (p : ℕ) (events : List Event) (run : IsRun setup events) (c : Common) (locals : ℕ → Local)
    (f : Follows setup (world_after setup events) c locals) (h : p < seats_of setup) (account : Account)
    (flight : Flight) (phase : Phase)
    (mine : seat_in (world_after setup events) p ≡ record { account = account; stand = InFlight flight phase }) where
  abbrev w : World
  w = world_after setup events

  pub kept : Keeps setup c p account.used flight (locals p) phase
  kept = subst (λ (s : SeatState). KeepsStand setup c p s.account.used (locals p) s.stand) mine (f.seats p h)

  -- what it finds, by the history
  abbrev pub finds : ℕ
  finds = found_in (ask_in setup p account.used flight phase) c.memory

  found_is : found_by setup (ask_in setup p account.used flight phase) w.words ≡ finds
  found_is = found_same setup (ask_in setup p account.used flight phase) w.words c.memory
      (subst (λ (a : Account). IsOnWord setup.shape (ask_in setup p a.used flight phase))
      (ap (λ (s : SeatState). s.account) mine)
      (steps_are_within setup events p flight phase run
      (record { seat_is = h; stand = ap (λ (s : SeatState). s.stand) mine }))) f.shows

  stepped : world_after setup (events ++ step_event p ∷ []) ≡ step_of setup w p account flight phase
  stepped =
      happen_both setup (opening_world setup) events (step_event p ∷ [])
      ∙ ap (λ (b : Bool). cond b (act setup w p (seat_in w p).account (seat_in w p).stand None) w)
      (lt-ltb p (seats_of setup) h)
      ∙ ap (λ (s : SeatState). act setup w p s.account s.stand None) mine

  -- the world after it, with its history
  pub record Event_is : Type 0 where
    pub goes_on : IsRun setup (events ++ step_event p ∷ [])
    pub follows : Follows setup (world_after setup (events ++ step_event p ∷ []))
        (common_after setup p account.used flight phase c) (put locals p (local_after phase c (locals p)))
    pub state : seat_in (world_after setup (events ++ step_event p ∷ [])) p
        ≡ state_after setup p account flight phase finds
    pub others : (q : ℕ) → q ≢ p → seat_in (world_after setup (events ++ step_event p ∷ [])) q ≡ seat_in w q

  pub one_event : Event_is
  one_event = record {
    goes_on = run_on setup events (step_event p ∷ []) run (
      record {
        seat = h;
        begin = subst (λ (s : SeatState). FitsStand setup s.account s.stand None) (sym mine) refl;
      },
      tt,
    );
    follows = subst (λ (v : World). Follows setup v (common_after setup p account.used flight phase c)
        (put locals p (local_after phase c (locals p)))) (sym stepped)
        (acts bucket_laws changes_from_laws setup w p account flight phase h c locals f kept);
    state = ap (λ (v : World). seat_in v p) stepped
        ∙ step_same setup w p account flight phase (omega (arith, h, f.long))
        ∙ ap (state_after setup p account flight phase) found_is;
    others = λ q n. ap (λ (v : World). seat_in v q) stepped ∙ step_other setup w p q account flight phase n;
  }

-- ---- so many events of a kind

-- the run goes on, by steps of the seat alone, to where it stands so
pub record Reaches (setup : Setup) (p : ℕ) (events : List Event) (c : Common) (account : Account) (flight : Flight)
    (phase : Phase) : Type 0 where
  pub last : List Event
  pub more : List Event
  pub is : last ≡ events ++ more
  pub run : IsRun setup last
  pub common : Common
  pub locals : ℕ → Local
  pub follows : Follows setup (world_after setup last) common locals
  pub past : SamePast c common
  pub steps : ℕ
  pub mine : seat_in (world_after setup last) p
      ≡ record { account = account; stand = InFlight (record flight { steps = steps }) phase }
  pub others : (q : ℕ) → q ≢ p → seat_in (world_after setup last) q ≡ seat_in (world_after setup events) q

-- steps after steps
reached : (setup : Setup) (p : ℕ) (events : List Event) (c : Common) (account : Account) (flight : Flight)
    (first then_is : Phase) (r : Reaches setup p events c account flight first) →
    Reaches setup p r.last r.common account (record flight { steps = r.steps }) then_is →
    Reaches setup p events c account flight then_is
reached setup p events c account flight first then_is r z = record {
  last = z.last;
  more = r.more ++ z.more;
  is = z.is ∙ ap (λ (es : List Event). es ++ z.more) r.is ∙ append_assoc events r.more z.more;
  run = z.run;
  common = z.common;
  locals = z.locals;
  follows = z.follows;
  past = same_both c r.common z.common r.past z.past;
  steps = z.steps;
  mine = z.mine;
  others = λ q n. z.others q n ∙ r.others q n;
}

-- a step from a phase of the kind is quiet, and leads on in the kind, or out of it
pub record Closed (setup : Setup) (p : ℕ) (In Out : Phase → Type 0) (c : Common) (account : Account) (flight : Flight)
    (phase : Phase) (word : ℕ) : Type 0 where
  pub past : SamePast c (common_after setup p account.used flight phase c)
  pub state : state_after setup p account flight phase word ≡ record {
    account = account;
    stand = InFlight (record flight { steps = flight.steps + 1 }) (phase_after setup p account.used flight phase word);
  }
  pub leads : In (phase_after setup p account.used flight phase word)
      ⊎ Out (phase_after setup p account.used flight phase word)

module _ (setup : Setup) (p : ℕ) (Of : Flight → Type 0)
    (of_steps : (g : Flight) (n : ℕ) → Of g → Of (record g { steps = n })) (In Out : Phase → Type 0)
    (Needs : Common → Type 0)
    (stays : (c d : Common) → SamePast c d → Needs c → Needs d)
    (closed : (c : Common) (account : Account) (flight : Flight) (local : Local) (phase : Phase) → Shared setup c →
    Keeps setup c p account.used flight local phase → Of flight → Needs c → In phase →
    Closed setup p In Out c account flight phase
    (found_in (ask_in setup p account.used flight phase) c.memory)) where
  -- THE RESULT: the seat alone comes out of the kind
  pub comes_out : (fuel : ℕ) (events : List Event) (run : IsRun setup events) (c : Common) (locals : ℕ → Local)
      (f : Follows setup (world_after setup events) c locals) (h : p < seats_of setup) (account : Account)
      (flight : Flight) (phase : Phase) →
      seat_in (world_after setup events) p ≡ record { account = account; stand = InFlight flight phase } →
      is_update flight.call ≡ true → Of flight → In phase → Needs c →
      step_bound (settings_of setup) ≤ flight.steps + fuel →
      (out : Phase) × Out out × Reaches setup p events c account flight out
  comes_out zero events run c locals f h account flight phase mine update same is needs enough =
      let short = updates_are_short setup events p flight phase run
      (record { seat_is = h; stand = ap (λ (s : SeatState). s.stand) mine; update = update }) in
      absurd (omega (arith, short, enough))
  comes_out (suc fuel) events run c locals f h account flight phase mine update same is needs enough =
      let e = one_event setup p events run c locals f h account flight phase mine in
      let k = closed c account flight (locals p) phase f.shared
      (kept setup p events run c locals f h account flight phase mine) same needs is in
      let word = found_in (ask_in setup p account.used flight phase) c.memory in
      let next : Phase = phase_after setup p account.used flight phase word in
      go next k.leads
      (record {
        last = events ++ step_event p ∷ [];
        more = step_event p ∷ [];
        is = refl;
        run = e.goes_on;
        common = common_after setup p account.used flight phase c;
        locals = put locals p (local_after phase c (locals p));
        follows = e.follows;
        past = k.past;
        steps = flight.steps + 1;
        mine = e.state ∙ k.state;
        others = e.others;
      })
      (λ on. comes_out fuel (events ++ step_event p ∷ []) e.goes_on (common_after setup p account.used flight phase c)
      (put locals p (local_after phase c (locals p))) e.follows h account (record flight { steps = flight.steps + 1 })
      next (e.state ∙ k.state) update (of_steps flight (flight.steps + 1) same) on
      (stays c (common_after setup p account.used flight phase c) k.past needs)
      (omega (arith, enough)))
    where
      go : (next : Phase) → In next ⊎ Out next →
          (r : Reaches setup p events c account flight next) →
          (In next → (out : Phase) × Out out × Reaches setup p r.last r.common account
          (record flight { steps = r.steps })
          out) → (out : Phase) × Out out × Reaches setup p events c account flight out
      go next (inr out) r again = (next, out, r)
      go next (inl on) r again =
          let z = again on in (z.0, z.1, reached setup p events c account flight next z.0 r z.2)
