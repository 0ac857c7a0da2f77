-- The adders of a batch's table, in the order of their seats, before and after they add their packets.
-- Source: this project's own.
use Rattle.std.specs.Prelude.{◌≡◌, ℕ, suc, ◌≤◌, ◌<◌, List, [], ◌∷◌, length, slice_index, vec_len, vec_capacity}
use Rattle.sim_steps.specs.Layout.{seats_of}
use Rattle.std.specs.List.{AllZip}
use Rattle.sim_steps.specs.declared.adds.Added.{Added}
use Rattle.sim_steps.specs.Program.{Idle}
use Rattle.sim_totals.specs.Values.{AdderValue, IsOf, TableValue, fresh, log_of}
use Rattle.packet_adders.specs.declared.frames.Frame.{Frame}
use Rattle.packet_adders.specs.declared.workers.AddWorker.{AddWorker}
use Rattle.packet_adders.specs.Work.{IsAnswerTo}

-- it has the table's adder of this seat, which has added nothing, these frames, and room for what is answered
pub record IsFresh (t : TableValue) (seat : ℕ) (frames : List Frame) (w : AddWorker) : Type 0 where
  pub adder : w.adder ≡ fresh t seat
  pub frames_are : w.frames.items ≡ frames
  pub none : w.log.items ≡ []
  pub space : vec_len w.frames ≤ vec_capacity w.log

-- so have these, from a seat on, with these frames
abbrev pub AreFresh : TableValue → (seat : ℕ) → List (List Frame) → List AddWorker → Type 0
AreFresh t seat [] [] = Unit {0}
AreFresh t seat (frames ∷ shares) (w ∷ workers) = IsFresh t seat frames w × AreFresh t (suc seat) shares workers
AreFresh t seat _ _ = ⊥

-- the table's adder of this seat is between two adds, has added these frames in their order, and was answered this
pub record HasAdded (t : TableValue) (seat : ℕ) (frames : List Frame) (a : AdderValue) (log : List Added) : Type 0 where
  pub of : IsOf t a
  pub number_is : a.number ≡ seat
  pub idle : a.seat.phase ≡ Idle
  pub answers : AllZip IsAnswerTo frames log
  pub log_is : log_of a ≡ log

-- so have these, from a seat on
abbrev pub HaveAdded : TableValue → (seat : ℕ) → List (List Frame) → List AdderValue → List (List Added) → Type 0
HaveAdded t seat [] [] [] = Unit {0}
HaveAdded t seat (frames ∷ shares) (a ∷ adders) (log ∷ logs) =
    HasAdded t seat frames a log × HaveAdded t (suc seat) shares adders logs
HaveAdded t seat _ _ _ = ⊥

-- so have these workers' adders
abbrev pub AreThrough : TableValue → (seat : ℕ) → List (List Frame) → List AddWorker → Type 0
AreThrough t seat [] [] = Unit {0}
AreThrough t seat (frames ∷ shares) (w ∷ workers) =
    HasAdded t seat frames w.adder w.log.items × AreThrough t (suc seat) shares workers
AreThrough t seat _ _ = ⊥

-- the adders from a seat on have room for these shares
abbrev pub HaveRoom : TableValue → ℕ → List (List Frame) → Type 0
HaveRoom t n [] = Unit {0}
HaveRoom t n (share ∷ shares) =
    ((n < seats_of t.settings) × (slice_index t.settings.adds n ≡ length share)) × HaveRoom t (suc n) shares
