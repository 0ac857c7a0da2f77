-- Steps and what can still come are no more than the bound.
use Rattle.std.proofs.Common.{◌≡◌, ℕ, ◌+◌, ◌-◌, ◌*◌, ◌^◌, ◌<◌, ◌≤◌, Bool, true, false, cond, refl, arith}
use Rattle.std.proofs.Math.Pow.{pow_mono}
use Rattle.std.proofs.Common.{mul-le-mul}
use Rattle.plain_map.specs.declared.calls.Call.{Call}
use Rattle.step_counts.specs.StepCounts.{step_bound, lookup_steps}
use Rattle.table_model.specs.Setup.{Setup, settings_of, seats_of}
use Rattle.table_model.specs.Phases.{Phase, SeeDone, StoreOp, Announce, FindRoot, FindDepth, FindEntry, LookWord, LookCount, LookItems, TryWord, TryRow, TryAnnouncement, TryOp, TryStore, TryExchange, DirRoot, DirDepth, DirEntries, DirAnnouncement, DirOp, DirWord, DirRow, DirStore, DirExchange, LastWord, LastRow, StoreDone}
use Rattle.table_model.specs.SeatStates.{Account, Flight, Stand, Idle, InFlight, begun}
use Rattle.plain_map.specs.Calls.{is_update}
use Rattle.table_model.specs.Asks.{ask_in}
use Rattle.table_model.specs.Goes.{state_after}
use Rattle.run_invariant.proofs.Invariant.{Common, Local, Shared, Keeps, width, most_leaves}
use Rattle.run_laws.proofs.Induction.{found_in}
use Rattle.table_model.specs.Fits.{most_steps}
use Rattle.bound_laws.proofs.Pace.{tries_rest, last_rest, look_rest, rest, times, bound_is, look_is}
use Rattle.bound_laws.proofs.Falls.{falls_begin, times_mono, wide_is, load_is, leaf_is}
use Rattle.step_counts.specs.declared.TheConstants.{OP_WORDS}

-- a seat's steps and its rest are at most the bound, and there is a rest
abbrev pub PacedStand : Setup → Stand → Type 0
PacedStand setup Idle = Unit {0}
PacedStand setup (InFlight flight phase) =
    flight.steps + rest setup flight phase ≤ most_steps (settings_of setup) flight.call

-- so it is for a call that begins
pub begun_paced : (setup : Setup) (account : Account) (packet : ℕ) (call : Call) →
    PacedStand setup (InFlight (begun account packet call) SeeDone)
begun_paced setup account packet call = go (is_update call)
  where
    go : (b : Bool) → 0 + ((seats_of setup - 0) + cond b (OP_WORDS + 4 + tries_rest
        setup + (3 + tries_rest setup + last_rest setup)) (3 + look_rest
        setup)) ≤ cond b (step_bound (settings_of setup)) (lookup_steps (settings_of setup) (settings_of setup).items)
    go true = omega (arith, bound_is setup)
    go false = omega (arith, look_is setup)

-- the bounds are small
width_few : (setup : Setup) → width setup ≤ 133
unfolding width
width_few setup = omega arith

leaves_few : (setup : Setup) → most_leaves setup ≤ 104
unfolding most_leaves
leaves_few setup = (let d : setup.shape.settings.depth + 1 ≤ 13 = omega arith in
    let n : setup.shape.settings.seats ≤ 8 = omega arith in mul-le-mul n d)

eight : (x : ℕ) → times 8 x ≡ 8 * x
unfolding times
eight x = refl

most_times : (x : ℕ) → times 104 x ≡ 104 * x
unfolding times
most_times x = refl

-- so a step count is small
pub bound_small : (setup : Setup) (call : Call) → most_steps (settings_of setup) call ≤ 2 ^ 62
bound_small setup call = go (is_update call)
  where
    go : (b : Bool) → cond b (step_bound (settings_of setup))
        (lookup_steps (settings_of setup) (settings_of setup).items) ≤ 2 ^ 62
    go true =
        let d : setup.shape.settings.depth ≤ 12 =
        omega arith in let up : 2 ^ setup.shape.settings.depth ≤ 2 ^ 12 = pow_mono d in
        let n : seats_of setup ≤ 8 = omega arith in
        omega (
          arith,
          bound_is setup,
          wide_is setup,
          up,
          n,
          width_few setup,
          load_is setup,
          times_mono (seats_of setup) 8 (1 + width setup) n,
          eight (1 + width setup),
          leaf_is setup,
          times_mono (most_leaves setup) 104 (width setup + 1) (leaves_few setup),
          most_times (width setup + 1),
        )
    go false = omega arith

module _ (setup : Setup) (me : ℕ) (c : Common) (account : Account) (flight : Flight) (local : Local)
    (h : me < seats_of setup) (s : Shared setup c) where
  -- and after each step
  pub paced_after : (phase : Phase) → Keeps setup c me account.used flight local phase →
      PacedStand setup (InFlight flight phase) →
      PacedStand setup (state_after setup me account flight phase (found_in (ask_in setup me account.used flight
      phase) c.memory)).stand
  paced_after SeeDone k p = (let less = falls_begin setup me c account.used flight local h s SeeDone k in
      omega (arith, p, less))
  paced_after (StoreOp i) k p = (let less = falls_begin setup me c account.used flight local h s (StoreOp i) k in
      omega (arith, p, less))
  paced_after Announce k p = (let less = falls_begin setup me c account.used flight local h s Announce k in
      omega (arith, p, less))
  paced_after (FindRoot aim) k p = (let less = falls_begin setup me c account.used flight local h s (FindRoot aim) k
      in omega (arith, p, less))
  paced_after (FindDepth aim root) k p = (let less = falls_begin setup me c account.used flight local h s
      (FindDepth aim root) k in omega (arith, p, less))
  paced_after (FindEntry aim root depth) k p = (let less = falls_begin setup me c account.used flight local h s
      (FindEntry aim root depth) k in omega (arith, p, less))
  paced_after (LookWord root bucket) k p = (let less = falls_begin setup me c account.used flight local h s
      (LookWord root bucket) k in omega (arith, p, less))
  paced_after (LookCount row) k p = (let less = falls_begin setup me c account.used flight local h s (LookCount row) k
      in omega (arith, p, less))
  paced_after (LookItems row count words) k p = (let less = falls_begin setup me c account.used flight local h s
      (LookItems row count words) k in omega (arith, p, less))
  paced_after (TryWord round turn first) k p = (let less = falls_begin setup me c account.used flight local h s
      (TryWord round turn first) k in omega (arith, p, less))
  paced_after (TryRow round turn first row words) k p = (let less = falls_begin setup me c account.used flight local h
      s (TryRow round turn first row words) k in omega (arith, p, less))
  paced_after (TryAnnouncement round attempt found) k p = (let less = falls_begin setup me c account.used flight local
      h s (TryAnnouncement round attempt found) k in omega (arith, p, less))
  paced_after (TryOp round attempt found op words) k p = (let less = falls_begin setup me c account.used flight local
      h s (TryOp round attempt found op words) k in omega (arith, p, less))
  paced_after (TryStore round attempt found i) k p = (let less = falls_begin setup me c account.used flight local h s
      (TryStore round attempt found i) k in omega (arith, p, less))
  paced_after (TryExchange round attempt found) k p = (let less = falls_begin setup me c account.used flight local h s
      (TryExchange round attempt found) k in omega (arith, p, less))
  paced_after (DirRoot round turn first) k p = (let less = falls_begin setup me c account.used flight local h s
      (DirRoot round turn first) k in omega (arith, p, less))
  paced_after (DirDepth round turn first root) k p = (let less = falls_begin setup me c account.used flight local h s
      (DirDepth round turn first root) k in omega (arith, p, less))
  paced_after (DirEntries round turn first root depth words) k p =
      (let less = falls_begin setup me c account.used flight local h s (DirEntries round turn first root depth words)
      k in omega (arith, p, less))
  paced_after (DirAnnouncement round attempt found) k p = (let less = falls_begin setup me c account.used flight local
      h s (DirAnnouncement round attempt found) k in omega (arith, p, less))
  paced_after (DirOp round attempt found op words) k p = (let less = falls_begin setup me c account.used flight local
      h s (DirOp round attempt found op words) k in omega (arith, p, less))
  paced_after (DirWord round attempt found loaded bucket) k p =
      (let less = falls_begin setup me c account.used flight local h s (DirWord round attempt found loaded bucket) k
      in omega (arith, p, less))
  paced_after (DirRow round attempt found loaded bucket row words) k p =
      (let less = falls_begin setup me c account.used flight local h s
      (DirRow round attempt found loaded bucket row words) k in omega (arith, p, less))
  paced_after (DirStore round attempt found loaded i) k p =
      (let less = falls_begin setup me c account.used flight local h s (DirStore round attempt found loaded i) k in
      omega (arith, p, less))
  paced_after (DirExchange round attempt found loaded) k p =
      (let less = falls_begin setup me c account.used flight local h s (DirExchange round attempt found loaded) k in
      omega (arith, p, less))
  paced_after (LastWord root bucket) k p = (let less = falls_begin setup me c account.used flight local h s
      (LastWord root bucket) k in omega (arith, p, less))
  paced_after (LastRow row words) k p = (let less = falls_begin setup me c account.used flight local h s
      (LastRow row words) k in omega (arith, p, less))
  paced_after (StoreDone reply at) k p = tt
  paced_after phase k p = absurd k

  -- there is always a step left
  pub some_left : (phase : Phase) → Keeps setup c me account.used flight local phase → 1 ≤ rest setup flight phase
  some_left SeeDone k = (let less = falls_begin setup me c account.used flight local h s SeeDone k in
      omega (arith, less))
  some_left (StoreOp i) k = (let less = falls_begin setup me c account.used flight local h s (StoreOp i) k in
      omega (arith, less))
  some_left Announce k = (let less = falls_begin setup me c account.used flight local h s Announce k in
      omega (arith, less))
  some_left (FindRoot aim) k = (let less = falls_begin setup me c account.used flight local h s (FindRoot aim) k in
      omega (arith, less))
  some_left (FindDepth aim root) k = (let less = falls_begin setup me c account.used flight local h s
      (FindDepth aim root) k in omega (arith, less))
  some_left (FindEntry aim root depth) k = (let less = falls_begin setup me c account.used flight local h s
      (FindEntry aim root depth) k in omega (arith, less))
  some_left (LookWord root bucket) k = (let less = falls_begin setup me c account.used flight local h s
      (LookWord root bucket) k in omega (arith, less))
  some_left (LookCount row) k = (let less = falls_begin setup me c account.used flight local h s (LookCount row) k in
      omega (arith, less))
  some_left (LookItems row count words) k = (let less = falls_begin setup me c account.used flight local h s
      (LookItems row count words) k in omega (arith, less))
  some_left (TryWord round turn first) k = (let less = falls_begin setup me c account.used flight local h s
      (TryWord round turn first) k in omega (arith, less))
  some_left (TryRow round turn first row words) k = (let less = falls_begin setup me c account.used flight local h s
      (TryRow round turn first row words) k in omega (arith, less))
  some_left (TryAnnouncement round attempt found) k = (let less = falls_begin setup me c account.used flight local h s
      (TryAnnouncement round attempt found) k in omega (arith, less))
  some_left (TryOp round attempt found op words) k = (let less = falls_begin setup me c account.used flight local h s
      (TryOp round attempt found op words) k in omega (arith, less))
  some_left (TryStore round attempt found i) k = (let less = falls_begin setup me c account.used flight local h s
      (TryStore round attempt found i) k in omega (arith, less))
  some_left (TryExchange round attempt found) k = (let less = falls_begin setup me c account.used flight local h s
      (TryExchange round attempt found) k in omega (arith, less))
  some_left (DirRoot round turn first) k = (let less = falls_begin setup me c account.used flight local h s
      (DirRoot round turn first) k in omega (arith, less))
  some_left (DirDepth round turn first root) k = (let less = falls_begin setup me c account.used flight local h s
      (DirDepth round turn first root) k in omega (arith, less))
  some_left (DirEntries round turn first root depth words) k =
      (let less = falls_begin setup me c account.used flight local h s (DirEntries round turn first root depth words)
      k in omega (arith, less))
  some_left (DirAnnouncement round attempt found) k = (let less = falls_begin setup me c account.used flight local h s
      (DirAnnouncement round attempt found) k in omega (arith, less))
  some_left (DirOp round attempt found op words) k = (let less = falls_begin setup me c account.used flight local h s
      (DirOp round attempt found op words) k in omega (arith, less))
  some_left (DirWord round attempt found loaded bucket) k =
      (let less = falls_begin setup me c account.used flight local h s (DirWord round attempt found loaded bucket) k
      in omega (arith, less))
  some_left (DirRow round attempt found loaded bucket row words) k =
      (let less = falls_begin setup me c account.used flight local h s
      (DirRow round attempt found loaded bucket row words) k in omega (arith, less))
  some_left (DirStore round attempt found loaded i) k = (let less = falls_begin setup me c account.used flight local h
      s (DirStore round attempt found loaded i) k in omega (arith, less))
  some_left (DirExchange round attempt found loaded) k = (let less = falls_begin setup me c account.used flight local
      h s (DirExchange round attempt found loaded) k in omega (arith, less))
  some_left (LastWord root bucket) k = (let less = falls_begin setup me c account.used flight local h s
      (LastWord root bucket) k in omega (arith, less))
  some_left (LastRow row words) k = (let less = falls_begin setup me c account.used flight local h s
      (LastRow row words) k in omega (arith, less))
  some_left (StoreDone reply at) k = omega arith
  some_left phase k = absurd k
