-- What a step makes, by what holds after it; and what a seat that keeps the invariant has published.
use Rattle.std.proofs.Common.{ℕ, ◌<◌}
use Rattle.table_model.specs.Setup.{Setup, seats_of}
use Rattle.table_model.specs.Phases.{Phase, SeeDone, StoreOp, Announce, FindRoot, FindDepth, FindEntry, LookWord, LookCount, LookItems, TryWord, TryRow, TryAnnouncement, TryOp, TryStore, TryExchange, DirRoot, DirDepth, DirEntries, DirAnnouncement, DirOp, DirWord, DirRow, DirStore, DirExchange, LastWord, LastRow, StoreDone}
use Rattle.table_model.specs.SeatStates.{Account, Flight}
use Rattle.table_model.specs.Asks.{ask_in}
use Rattle.table_model.specs.Goes.{state_after, phase_after, flight_after, used_after}
use Rattle.run_invariant.proofs.RowLemmas.{BucketLaws}
use Rattle.run_invariant.proofs.Change.{Changes}
use Rattle.run_invariant.proofs.Events.{local_after}
use Rattle.run_invariant.proofs.Invariant.{Goes, Common, Local, Shared, Keeps}
pub use Rattle.run_invariant.proofs.InFlight.{flies}
use Rattle.run_laws.proofs.Induction.{found_in, common_after, goes}
use Rattle.table_model.specs.Fits.{Makes}
use Rattle.bound_laws.proofs.Made.{makes}

module _ (laws : BucketLaws) (changes : (setup : Setup) → Changes setup) (setup : Setup) (me : ℕ) (c : Common)
    (account : Account) (flight : Flight) (local : Local) (h : me < seats_of setup) (s : Shared setup c) where
  -- the word that it finds, and what is then
  abbrev w : Phase → ℕ
  w phase = found_in (ask_in setup me account.used flight phase) c.memory

  -- what the seat knows then
  abbrev After : Phase → Type 0
  After phase = Keeps setup (common_after setup me account.used flight phase c) me
      (used_after setup account.used phase (w phase)) (flight_after flight phase (w phase))
      (local_after phase c local) (phase_after setup me account.used flight phase (w phase))

  -- the step of the induction
  goes_on : (phase : Phase) → Keeps setup c me account.used flight local phase →
      Goes setup me c (common_after setup me account.used flight phase c) (local_after phase c local)
      (state_after setup me account flight phase (w phase))
  goes_on = goes laws changes setup me c account flight local h s

  -- what the seat knows then says what it makes
  by_goes : (phase : Phase) → Keeps setup c me account.used flight local phase → After phase →
      Makes setup (phase_after setup me account.used flight phase (w phase))
  by_goes phase k after =
      makes laws changes setup me (common_after setup me account.used flight phase c)
      (used_after setup account.used phase (w phase)) (flight_after flight phase (w phase))
      (local_after phase c local) h
      (goes_on phase k).shared
      (phase_after setup me account.used flight phase (w phase)) after

  -- the row that it then stores can be spelled
  pub makes_after : (phase : Phase) → Keeps setup c me account.used flight local phase →
      Makes setup (phase_after setup me account.used flight phase (w phase))
  makes_after SeeDone k = by_goes SeeDone k (goes_on SeeDone k).keeps
  makes_after (StoreOp i) k = by_goes (StoreOp i) k (goes_on (StoreOp i) k).keeps
  makes_after Announce k = by_goes Announce k (goes_on Announce k).keeps
  makes_after (FindRoot aim) k = by_goes (FindRoot aim) k (goes_on (FindRoot aim) k).keeps
  makes_after (FindDepth aim root) k = by_goes (FindDepth aim root) k (goes_on (FindDepth aim root) k).keeps
  makes_after (FindEntry aim root depth) k =
      by_goes (FindEntry aim root depth) k (goes_on (FindEntry aim root depth) k).keeps
  makes_after (LookWord root bucket) k = by_goes (LookWord root bucket) k (goes_on (LookWord root bucket) k).keeps
  makes_after (LookCount row) k = by_goes (LookCount row) k (goes_on (LookCount row) k).keeps
  makes_after (LookItems row count words) k =
      by_goes (LookItems row count words) k (goes_on (LookItems row count words) k).keeps
  makes_after (TryWord round turn first) k =
      by_goes (TryWord round turn first) k (goes_on (TryWord round turn first) k).keeps
  makes_after (TryRow round turn first row words) k =
      by_goes (TryRow round turn first row words) k (goes_on (TryRow round turn first row words) k).keeps
  makes_after (TryAnnouncement round attempt found) k =
      by_goes (TryAnnouncement round attempt found) k (goes_on (TryAnnouncement round attempt found) k).keeps
  makes_after (TryOp round attempt found op words) k =
      by_goes (TryOp round attempt found op words) k (goes_on (TryOp round attempt found op words) k).keeps
  makes_after (TryStore round attempt found i) k =
      by_goes (TryStore round attempt found i) k (goes_on (TryStore round attempt found i) k).keeps
  makes_after (TryExchange round attempt found) k =
      by_goes (TryExchange round attempt found) k (goes_on (TryExchange round attempt found) k).keeps
  makes_after (DirRoot round turn first) k =
      by_goes (DirRoot round turn first) k (goes_on (DirRoot round turn first) k).keeps
  makes_after (DirDepth round turn first root) k =
      by_goes (DirDepth round turn first root) k (goes_on (DirDepth round turn first root) k).keeps
  makes_after (DirEntries round turn first root depth words) k =
      by_goes (DirEntries round turn first root depth words) k
      (goes_on (DirEntries round turn first root depth words) k).keeps
  makes_after (DirAnnouncement round attempt found) k =
      by_goes (DirAnnouncement round attempt found) k (goes_on (DirAnnouncement round attempt found) k).keeps
  makes_after (DirOp round attempt found op words) k =
      by_goes (DirOp round attempt found op words) k (goes_on (DirOp round attempt found op words) k).keeps
  makes_after (DirWord round attempt found loaded bucket) k =
      by_goes (DirWord round attempt found loaded bucket) k (goes_on (DirWord round attempt found loaded bucket)
      k).keeps
  makes_after (DirRow round attempt found loaded bucket row words) k =
      by_goes (DirRow round attempt found loaded bucket row words) k
      (goes_on (DirRow round attempt found loaded bucket row words) k).keeps
  makes_after (DirStore round attempt found loaded i) k =
      by_goes (DirStore round attempt found loaded i) k (goes_on (DirStore round attempt found loaded i) k).keeps
  makes_after (DirExchange round attempt found loaded) k =
      by_goes (DirExchange round attempt found loaded) k (goes_on (DirExchange round attempt found loaded) k).keeps
  makes_after (LastWord root bucket) k = by_goes (LastWord root bucket) k (goes_on (LastWord root bucket) k).keeps
  makes_after (LastRow row words) k = by_goes (LastRow row words) k (goes_on (LastRow row words) k).keeps
  makes_after (StoreDone reply at) k = tt
  makes_after phase k = absurd k
