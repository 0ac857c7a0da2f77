-- In every phase a seat is in flight: it has published what its account says, and its call has a number.
use Rattle.std.proofs.Common.{◌≡◌, ℕ}
use Rattle.step_counts.specs.declared.rows.SeatRows.{SeatRows}
use Rattle.table_model.specs.Setup.{Setup}
use Rattle.table_model.specs.declared.rounds.Aim.{Aim}
use Rattle.table_model.specs.declared.rounds.Aim.TheVariants.{ForLookup, ForFirstRound, ForSecondRound, ForLastLook}
use Rattle.table_model.specs.Phases.{Phase, SeeDone, StoreOp, Announce, FindRoot, FindDepth, FindEntry, LookWord, LookCount, LookItems, TryWord, TryRow, TryAnnouncement, TryOp, TryStore, TryExchange, DirRoot, DirDepth, DirEntries, DirAnnouncement, DirOp, DirWord, DirRow, DirStore, DirExchange, LastWord, LastRow, StoreDone}
use Rattle.table_model.specs.SeatStates.{Flight, Stand, Idle, InFlight}
use Rattle.run_invariant.proofs.Invariant.{Common, Local, Flies, Keeps, KeepsAim, KeepsStand}

module _ (setup : Setup) (me : ℕ) (c : Common) (used : SeatRows) (flight : Flight) (local : Local) where
  -- it is in flight, by what it looks for
  aim_flies : (aim : Aim) → KeepsAim setup c me used flight.number flight.call aim → Flies setup c me used flight.number
  aim_flies ForLookup k = k
  aim_flies ForFirstRound k = k.works.flies
  aim_flies (ForSecondRound first) k = k.works.flies
  aim_flies ForLastLook k = k.flies

  -- and in every phase
  pub flies : (phase : Phase) → Keeps setup c me used flight local phase → Flies setup c me used flight.number
  flies SeeDone k = k.flies
  flies (StoreOp i) k = k.begins.flies
  flies Announce k = k.begins.flies
  flies (FindRoot aim) k = aim_flies aim k.aims
  flies (FindDepth aim root) k = aim_flies aim k.aims
  flies (FindEntry aim root depth) k = aim_flies aim k.aims
  flies (LookWord root bucket) k = k.flies
  flies (LookCount row) k = k.flies
  flies (LookItems row count words) k = k.flies
  flies (TryWord round turn first) k = k.works.flies
  flies (TryRow round turn first row words) k = k.works.flies
  flies (TryAnnouncement round attempt found) k = k.works.flies
  flies (TryOp round attempt found op words) k = k.works.flies
  flies (TryStore round attempt found i) k = k.works.flies
  flies (TryExchange round attempt found) k = k.works.flies
  flies (DirRoot round turn first) k = k.works.flies
  flies (DirDepth round turn first root) k = k.works.flies
  flies (DirEntries round turn first root depth words) k = k.works.flies
  flies (DirAnnouncement round attempt found) k = k.works.flies
  flies (DirOp round attempt found op words) k = k.works.flies
  flies (DirWord round attempt found loaded bucket) k = k.works.flies
  flies (DirRow round attempt found loaded bucket row words) k = k.works.flies
  flies (DirStore round attempt found loaded i) k = k.works.flies
  flies (DirExchange round attempt found loaded) k = k.works.flies
  flies (LastWord root bucket) k = k.works.flies
  flies (LastRow row words) k = k.works.flies
  flies (StoreDone reply at) k = k
  flies phase k = absurd k

-- what a seat has published is what its account says, in every stand
pub used_of : (setup : Setup) (c : Common) (seat : ℕ) (used : SeatRows) (local : Local) (stand : Stand) →
    KeepsStand setup c seat used local stand → c.used seat ≡ used
used_of setup c seat used local Idle k = k.used_is
used_of setup c seat used local (InFlight flight phase) k = (flies setup seat c used flight local phase k).used_is
