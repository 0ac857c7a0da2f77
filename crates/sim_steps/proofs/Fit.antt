-- A step keeps what fits an adder's program.
use Rattle.std.proofs.Common.{◌≡◌, ◌≢◌, ℕ, ◌+◌, ◌%◌, ◌^◌, ◌<◌, ◌≤◌, List, [], ◌∷◌, ◌++◌, length, refl, arith}
use Rattle.std.proofs.Common.{None}
use Rattle.std.proofs.lemmas.Bool.{ltb-true, ltb-false, eqb-true, eqb-false}
use Rattle.std.proofs.lemmas.List.{length_push}
use Rattle.sim_steps.specs.declared.adds.Op.{Op}
use Rattle.sim_steps.specs.declared.words.Desk.{Desk}
use Rattle.sim_steps.specs.declared.program.Stage as S
use Rattle.sim_steps.specs.declared.program.Stage.TheVariants as V
use Rattle.sim_steps.specs.Fields.{phase_of}
use Rattle.sim_steps.specs.Layout.{row_words}
use Rattle.sim_steps.specs.Program.{Phase, Idle, LoadDone, StoreOp, Announce, LoadRoot, LoadRow, LoadAnnouncement, LoadOp, StoreRow, Publish, StoreDone, Caller, phase_after, caller_after, after_found, no_op, op_from}
use Rattle.sim_steps.specs.Machine.{Machine, IsDesk, IsFit, IsShort, spare_in, takes, answer_in}
use Rattle.sim_steps.proofs.RowLemmas.{length-next_row}
use Rattle.sim_steps.proofs.Pace.{left_less}

ruleset tests = (ltb-true, ltb-false, eqb-true, eqb-false)

-- the lists after a step
module _ (desk : Desk) (d : IsDesk desk) (seat : Caller) (w : ℕ) where
  -- a step from this phase keeps the shape of what the seat holds
  abbrev After : Phase → Type 0
  After phase = IsShort desk.seats (caller_after seat phase w) (phase_after desk seat phase w)

  -- from the load of a done word
  load_done : IsShort desk.seats seat LoadDone → After LoadDone
  load_done k = (let r = length_push seat.seen (w % 2 ^ 32) in grind (arith, r, tests))

  -- from the store of an op's word
  store_op : (i : ℕ) → IsShort desk.seats seat (StoreOp i) → After (StoreOp i)
  store_op i k = grind (arith, tests)

  -- from the load of a row's word
  load_row : (turn root : ℕ) (row : List ℕ) → IsShort desk.seats seat (LoadRow turn root row) →
      After (LoadRow turn root row)
  load_row turn root row k = (let some = d.inside in grind (arith, length_push, tests))

  -- where one more op was found
  found_next : (turn root : ℕ) (row : List ℕ) (found : List Op) (op : Op) → turn < 2 →
      length row ≡ row_words desk.seats → length found < desk.seats →
      IsShort desk.seats seat (after_found desk turn root row (found ++ op ∷ []))
  found_next turn root row found op t r f = (let n = length-next_row root (found ++ op ∷ []) row in
      grind (arith, length_push, tests, n))

  -- from the load of an announcement
  load_announcement : (turn root : ℕ) (row : List ℕ) (found : List Op) →
      IsShort desk.seats seat (LoadAnnouncement turn root row found) → After (LoadAnnouncement turn root row found)
  load_announcement turn root row found k = (let n = found_next turn root row found no_op k.0 k.1 k.2 in
      grind (arith, tests, n))

  -- from the load of an op's word
  load_op : (turn root : ℕ) (row : List ℕ) (found : List Op) (op : ℕ) (words : List ℕ) →
      IsShort desk.seats seat (LoadOp turn root row found op words) → After (LoadOp turn root row found op words)
  load_op turn root row found op words k = (let n = found_next turn root row found
      (op_from (words ++ w ∷ [])) k.0 k.1 k.2 in grind (arith, length_push, tests, n))

  -- from the store of a row's word
  store_row : (turn root : ℕ) (row : List ℕ) (i : ℕ) → IsShort desk.seats seat (StoreRow turn root row i) →
      After (StoreRow turn root row i)
  store_row turn root row i k = grind (arith, tests)

  -- from the exchange of the root
  publish : (turn root : ℕ) (row : List ℕ) → IsShort desk.seats seat (Publish turn root row) →
      After (Publish turn root row)
  publish turn root row k = grind (arith, tests)

  -- from each phase
  short_after : (phase : Phase) → IsShort desk.seats seat phase → After phase
  short_after Idle k = tt
  short_after LoadDone k = load_done k
  short_after (StoreOp i) k = store_op i k
  short_after Announce k = omega arith
  short_after (LoadRoot turn) k = (k, omega arith)
  short_after (LoadRow turn root row) k = load_row turn root row k
  short_after (LoadAnnouncement turn root row found) k = load_announcement turn root row found k
  short_after (LoadOp turn root row found op words) k = load_op turn root row found op words k
  short_after (StoreRow turn root row i) k = store_row turn root row i k
  short_after (Publish turn root row) k = publish turn root row k
  short_after (StoreDone count) k = tt

-- the numbers after a step
pub record Numbered (seats : ℕ) (caller : Caller) (phase : Phase) : Type 0 where
  pub number : caller.number < 2 ^ 32
  pub spare : caller.made + spare_in phase ≤ caller.number
  pub seen : length caller.seen ≤ seats

module _ (desk : Desk) (seat : Caller) (w : ℕ) where
  -- and its numbers
  abbrev Then : Phase → Type 0
  Then phase = Numbered desk.seats (caller_after seat phase w) (phase_after desk seat phase w)

  -- from the load of a done word
  numbered_done : IsShort desk.seats seat LoadDone → Numbered desk.seats seat LoadDone → Then LoadDone
  numbered_done k n = (let r = length_push seat.seen (w % 2 ^ 32) in grind (arith, r, tests))

  -- from each phase
  pub numbered : (phase : Phase) → IsShort desk.seats seat phase → Numbered desk.seats seat phase → Then phase
  numbered Idle k n = n
  numbered LoadDone k n = numbered_done k n
  numbered (StoreOp i) k n = grind arith
  numbered Announce k n = record { number = n.number; spare = n.spare; seen = n.seen }
  numbered (LoadRoot turn) k n = record { number = n.number; spare = n.spare; seen = n.seen }
  numbered (LoadRow turn root row) k n = grind arith
  numbered (LoadAnnouncement turn root row found) k n = grind arith
  numbered (LoadOp turn root row found op words) k n = grind arith
  numbered (StoreRow turn root row i) k n = grind arith
  numbered (Publish turn root row) k n = grind arith
  numbered (StoreDone count) k n = record { number = n.number; spare = n.spare; seen = n.seen }

-- a step keeps all that fits a machine
pub fit_goes : (m : Machine) (w : ℕ) → m.phase ≢ Idle → IsFit m → IsFit (takes m w)
fit_goes m w n f =
    let s = numbered m.desk m.caller w m.phase f.short (record { number = f.number; spare = f.spare; seen = f.seen }) in
    record {
      desk = f.desk;
      short = short_after m.desk f.desk m.caller w m.phase f.short;
      bounded = omega (arith, left_less m.desk m.caller w m.phase f.short n, f.bounded);
      number = s.number;
      spare = s.spare;
      seen = s.seen;
    }

-- a phase that is not the last one answers nothing
pub no_answer : (desk : Desk) (seat : Caller) (steps : ℕ) (stage : S.Stage) (row : List ℕ) (found : List Op)
    (words : List ℕ) → stage ≢ V.Idle → ((count : ℕ) → stage ≢ V.StoreDone count) →
    None ≡ answer_in desk seat steps (phase_of stage row found words)
no_answer desk seat steps V.Idle row found words h k = absurd (h refl)
no_answer desk seat steps V.LoadDone row found words h k = refl
no_answer desk seat steps (V.StoreOp i) row found words h k = refl
no_answer desk seat steps V.Announce row found words h k = refl
no_answer desk seat steps (V.LoadRoot turn) row found words h k = refl
no_answer desk seat steps (V.LoadRow turn root) row found words h k = refl
no_answer desk seat steps (V.LoadAnnouncement turn root) row found words h k = refl
no_answer desk seat steps (V.LoadOp turn root op) row found words h k = refl
no_answer desk seat steps (V.StoreRow turn root i) row found words h k = refl
no_answer desk seat steps (V.Publish turn root) row found words h k = refl
no_answer desk seat steps (V.StoreDone count) row found words h k = absurd (k count refl)
