-- What is told of the bucket tries that come after one of an update, and of the rows that they make.
use Rattle.std.proofs.Common.{◌≡◌, ℕ, ◌+◌, ◌<◌, ◌≤◌, ◌⊎◌, true, length, get_or}
use Rattle.std.specs.Prelude.{Option, Some, None}
use Rattle.plain_map.specs.Calls.{key_in}
use Rattle.bucket_states.specs.declared.ops.Op.{Op}
use Rattle.bucket_states.specs.Laws.{applied_of}
use Rattle.table_model.specs.Setup.{Setup, seats_of}
use Rattle.table_model.specs.Phases.{Phase, TryAnnouncement, TryOp, TryStore, TryExchange}
use Rattle.table_model.specs.SeatStates.{Account, Stand, Idle, InFlight}
use Rattle.run_invariant.proofs.Invariant.{Common, Local, bits, lead, op_no}
use Rattle.helping_laws.proofs.Extends.{Extends}
use Rattle.helping_laws.proofs.OpsTold.{AllSettled, Calls, ops_of}

-- what a try has found of seat p is an op from this one on
pub record Late (c : Common) (p from : ℕ) (found : Option Op) : Type 0 where
  pub at : ℕ
  pub since : from ≤ at
  pub there : at < ops_of c p
  pub is : found ≡ Some (c.op_at p at)

-- and the op row that it loads is one from this one on
pub record LateRow (setup : Setup) (c : Common) (p from op : ℕ) : Type 0 where
  pub at : ℕ
  pub since : from ≤ at
  pub there : at < ops_of c p
  pub is : op ≡ op_no setup p at

-- what holds at the moment of that try
pub record Since (setup : Setup) (c : Common) (p own b from dir : ℕ) : Type 0 where
  pub seat_is : p < seats_of setup
  pub there : own < ops_of c p
  pub named : c.named b ≡ true
  pub begun : from ≤ c.top b
  pub old : dir ≤ c.dir_top
  pub led : lead setup c dir (key_in (c.op_at p own).call) ≡ b
  pub for_it : bits setup (c.deep b) (key_in (c.op_at p own).call) ≡ c.pre b

-- the op of seat p at place own, the bucket b, and the place from of the row that its try loaded
module _ (setup : Setup) (first : Common) (p own b from : ℕ) where
  -- a seat's try at a later row of the bucket, past p, has found it or a later one
  abbrev pub Knows : Common → ℕ → Local → Phase → Type 0
  Knows c q local (TryAnnouncement round attempt found) = round.bucket ≡ b → from < local.base → p < length found →
      Late c p own (get_or found p None)
  Knows c q local (TryOp round attempt found row words) =
      (round.bucket ≡ b → from < local.base → p < length found → Late c p own (get_or found p None))
      × (round.bucket ≡ b → from < local.base → length found ≡ p → LateRow setup c p own row)
  Knows c q local (TryStore round attempt found stored) = round.bucket ≡ b → from < local.base → p < length found →
      Late c p own (get_or found p None)
  Knows c q local (TryExchange round attempt found) = round.bucket ≡ b → from < local.base → p < length found →
      Late c p own (get_or found p None)
  Knows c q local phase = Unit {0}

  -- what a seat knows
  abbrev pub KnowsStand : Common → ℕ → Local → Stand → Type 0
  KnowsStand c q local Idle = Unit {0}
  KnowsStand c q local (InFlight flight phase) = Knows c q local phase

  -- and the later rows of the bucket have it, or are frozen
  abbrev pub RowsHave : Common → Type 0
  RowsHave c = (i : ℕ) → from + 2 ≤ i → i ≤ c.top b →
      ((first.op_at p own).number ≤ applied_of (c.state_at b i) p) ⊎ ((c.state_at b i).frozen ≡ true)

  -- what is kept beside
  abbrev pub Shares : Common → Type 0
  Shares c = AllSettled setup c × Extends first c × RowsHave c

  -- what is kept of a seat
  abbrev pub Part : Common → ℕ → Local → Account → Stand → Type 0
  Part c q local account stand = Calls setup c q local account stand × KnowsStand c q local stand
