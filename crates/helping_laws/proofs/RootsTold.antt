-- What is told of the directory tries with later roots than one that an update knew, and of the directory rows that
-- they make.
use Rattle.std.proofs.Common.{◌≡◌, ◌≢◌, ℕ, ◌+◌, ◌<◌, ◌≤◌, true, List, length, get_or}
use Rattle.std.specs.Prelude.{Option, None, All}
use Rattle.plain_map.specs.declared.keys.Key.{Key}
use Rattle.plain_map.specs.Calls.{key_in}
use Rattle.bucket_states.specs.declared.ops.Op.{Op}
use Rattle.bucket_states.specs.Laws.{applied_of}
use Rattle.table_model.specs.Setup.{Setup, seats_of}
use Rattle.table_model.specs.DirectoryChange.{LoadedBucket}
use Rattle.table_model.specs.Phases.{Phase, DirAnnouncement, DirOp, DirWord, DirRow, DirStore, DirExchange}
use Rattle.table_model.specs.SeatStates.{Account, Stand, Idle, InFlight}
use Rattle.run_invariant.proofs.Invariant.{Common, Local, lead, last}
use Rattle.helping_laws.proofs.Extends.{Extends}
use Rattle.helping_laws.proofs.TriesTold.{Late, LateRow}
use Rattle.helping_laws.proofs.OpsTold.{AllSettled, Calls, ops_of}

-- what holds at that moment of seat p's op at place own, of a root, and of the buckets that are followed: they are
-- frozen without it
pub record Since (setup : Setup) (c : Common) (p own root : ℕ) (Follows : ℕ → Type 0) : Type 0 where
  pub seat_is : p < seats_of setup
  pub there : own < ops_of c p
  pub old : root ≤ c.dir_top
  pub named : (b : ℕ) → Follows b → c.named b ≡ true
  pub frozen : (b : ℕ) → Follows b → (last c b).frozen ≡ true
  pub lacks : (b : ℕ) → Follows b → applied_of (last c b) p < (c.op_at p own).number
  pub led : (b : ℕ) → Follows b → (u : ℕ) × (u ≤ root) × (lead setup c u (key_in (c.op_at p own).call) ≡ b)

-- the op of seat p at place own, the place of the root, and which buckets are followed
module _ (setup : Setup) (first : Common) (p own root : ℕ) (Follows : ℕ → Type 0) where
  -- the key of the op
  abbrev key : Key
  key = key_in (first.op_at p own).call

  -- a seat's directory try with a later root, past p, has found it or a later one
  abbrev pub Finds : Common → ℕ → List (Option Op) → Type 0
  Finds c at found = root < at → p < length found → Late c p own (get_or found p None)

  -- and it has loaded the buckets that are followed frozen
  abbrev pub Sees : ℕ → List LoadedBucket → Type 0
  Sees at loaded = root < at → All (λ l. Follows l.bucket → l.state.frozen ≡ true) loaded

  -- what is known in a phase
  abbrev pub Knows : Common → ℕ → Local → Phase → Type 0
  Knows c q local (DirAnnouncement round attempt found) = Finds c local.root found
  Knows c q local (DirOp round attempt found row words) =
      Finds c local.root found × (root < local.root → length found ≡ p → LateRow setup c p own row)
  Knows c q local (DirWord round attempt found loaded bucket) = Finds c local.root found × Sees local.root loaded
  Knows c q local (DirRow round attempt found loaded bucket row words) =
      Finds c local.root found × Sees local.root loaded
      × (root < local.root → Follows bucket → (c.state_at bucket local.base).frozen ≡ true)
  Knows c q local (DirStore round attempt found loaded stored) = Finds c local.root found × Sees local.root loaded
  Knows c q local (DirExchange round attempt found loaded) = Finds c local.root found × Sees local.root loaded
  Knows c q local phase = Unit {0}

  -- what a seat knows
  abbrev pub KnowsStand : Common → ℕ → Local → Stand → Type 0
  KnowsStand c q local Idle = Unit {0}
  KnowsStand c q local (InFlight flight phase) = Knows c q local phase

  -- a change from a later root has it, where it replaces the bucket of its key
  abbrev pub Carries : Common → Type 0
  Carries c = (v : ℕ) → root < v → v < c.dir_top → lead setup c (v + 1) key ≢ lead setup c v key →
      (first.op_at p own).number ≤ applied_of (c.state_at (lead setup c (v + 1) key) 0) p

  -- and it replaces the buckets that are followed
  abbrev pub Replaces : Common → Type 0
  Replaces c = (b v : ℕ) → Follows b → root < v → v < c.dir_top → lead setup c (v + 1) key ≢ b

  -- what is kept beside
  abbrev pub Shares : Common → Type 0
  Shares c = AllSettled setup c × Extends first c × Carries c × Replaces c

  -- what is kept of a seat
  abbrev pub Part : Common → ℕ → Local → Account → Stand → Type 0
  Part c q local account stand = Calls setup c q local account stand × KnowsStand c q local stand
