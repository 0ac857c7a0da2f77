-- What is told of the ops that the seats have announced.
use Rattle.std.proofs.Common.{◌≡◌, ℕ, ◌+◌, ◌-◌, ◌<◌, ◌≤◌, Bool, true, false, length}
use Rattle.plain_map.specs.Calls.{key_in}
use Rattle.bucket_states.specs.Laws.{applied_of}
use Rattle.table_model.specs.Setup.{Setup, seats_of}
use Rattle.table_model.specs.declared.rounds.Aim.{Aim}
use Rattle.table_model.specs.declared.rounds.Aim.TheVariants.{ForLookup, ForFirstRound, ForSecondRound, ForLastLook}
use Rattle.table_model.specs.Phases.{Phase, FindRoot, FindDepth, FindEntry, TryWord, TryRow, TryAnnouncement, TryOp, TryStore, TryExchange, DirRoot, DirDepth, DirEntries, DirAnnouncement, DirOp, DirWord, DirRow, DirStore, DirExchange}
use Rattle.table_model.specs.SeatStates.{Account, Stand, Idle, InFlight}
use Rattle.run_invariant.proofs.Invariant.{Common, Local, lead, last}

-- how many ops a seat has announced
abbrev pub ops_of : Common → ℕ → ℕ
ops_of c p = (c.used p).op_rows

-- an announced op is applied in the current row of its key
abbrev pub IsIn : Setup → Common → ℕ → ℕ → Type 0
IsIn setup c p j = (c.op_at p j).number ≤ applied_of (last c (lead setup c c.dir_top (key_in (c.op_at p j).call))) p

-- of a seat's ops: their numbers rise, and all but the last are in
pub record Settled (setup : Setup) (c : Common) (p : ℕ) : Type 0 where
  pub rises : (i j : ℕ) → i ≤ j → j < ops_of c p → (c.op_at p i).number ≤ (c.op_at p j).number
  pub past : (j : ℕ) → j + 1 < ops_of c p → IsIn setup c p j

-- of all seats
abbrev pub AllSettled : Setup → Common → Type 0
AllSettled setup c = (p : ℕ) → p < seats_of setup → Settled setup c p

-- the phases in which the last op need not be in
abbrev aim_tries : Aim → Bool
aim_tries ForLookup = false
aim_tries ForFirstRound = true
aim_tries (ForSecondRound first) = true
aim_tries ForLastLook = false

-- so by the phase
abbrev pub is_trying : Phase → Bool
is_trying (FindRoot aim) = aim_tries aim
is_trying (FindDepth aim root) = aim_tries aim
is_trying (FindEntry aim root depth) = aim_tries aim
is_trying (TryWord round turn first) = true
is_trying (TryRow round turn first row words) = true
is_trying (TryAnnouncement round attempt found) = true
is_trying (TryOp round attempt found op words) = true
is_trying (TryStore round attempt found stored) = true
is_trying (TryExchange round attempt found) = true
is_trying (DirRoot round turn first) = true
is_trying (DirDepth round turn first root) = true
is_trying (DirEntries round turn first root depth words) = true
is_trying (DirAnnouncement round attempt found) = true
is_trying (DirOp round attempt found op words) = true
is_trying (DirWord round attempt found loaded bucket) = true
is_trying (DirRow round attempt found loaded bucket row words) = true
is_trying (DirStore round attempt found loaded stored) = true
is_trying (DirExchange round attempt found loaded) = true
is_trying phase = false

-- the last op is in, but while the seat tries
abbrev pub LastIn : Setup → Common → ℕ → Stand → Type 0
LastIn setup c p Idle = 0 < ops_of c p → IsIn setup c p (ops_of c p - 1)
LastIn setup c p (InFlight flight phase) = is_trying phase ≡ false → 0 < ops_of c p → IsIn setup c p (ops_of c p - 1)

-- and no number is beyond the seat's call
abbrev pub Counted : Common → ℕ → Account → Stand → Type 0
Counted c p account Idle = (j : ℕ) → j < ops_of c p → (c.op_at p j).number ≤ length account.records
Counted c p account (InFlight flight phase) =
    (flight.number ≡ length account.records + 1) × ((j : ℕ) → j < ops_of c p → (c.op_at p j).number ≤ flight.number)

-- what is kept of a seat
abbrev pub Calls : Setup → Common → ℕ → Local → Account → Stand → Type 0
Calls setup c p local account stand = Counted c p account stand × LastIn setup c p stand
