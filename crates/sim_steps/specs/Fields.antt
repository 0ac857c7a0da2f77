-- The value that a program's fields stand for, and what always holds of the fields.
use Rattle.std.specs.Prelude.{ℕ, ◌≤◌, List, vec_capacity}
use Rattle.sim_steps.specs.declared.adds.Op.{Op}
use Rattle.sim_steps.specs.declared.program.Stage as S
use Rattle.sim_steps.specs.declared.program.Stage.TheVariants as V
use Rattle.sim_steps.specs.declared.program.Program.{Program}
use Rattle.sim_steps.specs.Layout.{row_words}
use Rattle.sim_steps.specs.Program.{Phase, Idle, LoadDone, StoreOp, Announce, LoadRoot, LoadRow, LoadAnnouncement, LoadOp, StoreRow, Publish, StoreDone}
use Rattle.sim_steps.specs.Machine.{Machine, IsFit}

-- the phase of a stage, with the words in the buffers
abbrev pub phase_of : S.Stage → List ℕ → List Op → List ℕ → Phase
phase_of V.Idle row found words = Idle
phase_of V.LoadDone row found words = LoadDone
phase_of (V.StoreOp i) row found words = StoreOp i
phase_of V.Announce row found words = Announce
phase_of (V.LoadRoot turn) row found words = LoadRoot turn
phase_of (V.LoadRow turn root) row found words = LoadRow turn root row
phase_of (V.LoadAnnouncement turn root) row found words = LoadAnnouncement turn root row found
phase_of (V.LoadOp turn root op) row found words = LoadOp turn root row found op words
phase_of (V.StoreRow turn root i) row found words = StoreRow turn root row i
phase_of (V.Publish turn root) row found words = Publish turn root row
phase_of (V.StoreDone count) row found words = StoreDone count

-- the value of a program's fields
abbrev pub machine_of : Program → Machine
machine_of p = record {
  desk = p.desk;
  caller = record { number = p.number; made = p.made; add = p.add; seen = p.seen.items };
  phase = phase_of p.stage p.row.items p.found.items p.words.items;
  steps = p.steps;
}

-- the buffers have room for all that is loaded
pub record HasRoom (p : Program) : Type 0 where
  pub seen : p.desk.seats ≤ vec_capacity p.seen
  pub row : row_words p.desk.seats ≤ vec_capacity p.row
  pub found : p.desk.seats ≤ vec_capacity p.found
  pub words : 3 ≤ vec_capacity p.words

-- what always holds of them
pub record IsKept (p : Program) : Type 0 where
  pub fit : IsFit (machine_of p)
  pub room : HasRoom p

-- a stage whose step needs no word but that of the root
abbrev pub Passes : S.Stage → Type 0
Passes (V.StoreOp i) = Unit {0}
Passes V.Announce = Unit {0}
Passes (V.LoadRoot turn) = Unit {0}
Passes (V.StoreRow turn root i) = Unit {0}
Passes _ = ⊥
