-- An adder's program as a value: what it knows of its table, and where it stands.
use Rattle.std.specs.Prelude.{◌≡◌, ℕ, zero, suc, ◌+◌, ◌-◌, ◌*◌, ◌^◌, ◌<◌, ◌≤◌, [], length, Option, Some, None}
use Rattle.sim_steps.specs.declared.adds.Add.{Add}
use Rattle.sim_steps.specs.declared.adds.Added.{Added}
use Rattle.sim_steps.specs.declared.words.Desk.{Desk}
use Rattle.sim_steps.specs.declared.words.Ask.{Ask}
use Rattle.sim_steps.specs.Layout.{row_words}
use Rattle.sim_steps.specs.Program.{Phase, Idle, LoadDone, StoreOp, Announce, LoadRoot, LoadRow, LoadAnnouncement, LoadOp, StoreRow, Publish, StoreDone, Caller, next_in, phase_after, caller_after, answer_of, resting, step_bound}

-- what an adder knows, and where it stands
pub record Machine : Type 0 where
  pub desk : Desk
  pub caller : Caller
  pub phase : Phase
  pub steps : ℕ

-- a desk of 1 to 8 seats with fewer than 2 ^ 32 rows
pub record IsDesk (desk : Desk) : Type 0 where
  pub inside : desk.seat < desk.seats
  pub few : desk.seats ≤ 8
  pub rows : desk.rows < 2 ^ 32
  pub before : desk.before ≤ desk.rows

-- it has made no add
abbrev pub made_at : Desk → Machine
made_at desk = record { desk = desk; caller = resting.caller; phase = Idle; steps = 0 }

-- the machine that begins an add
abbrev pub begins : Add → Machine → Machine
begins add machine = record {
  desk = machine.desk;
  caller = record { number = machine.caller.number + 1; made = machine.caller.made; add = add; seen = [] };
  phase = LoadDone;
  steps = 0;
}

-- what it asks for
abbrev pub asks : Machine → Ask
asks machine = next_in machine.desk machine.caller machine.phase

-- after a step that told it this word
abbrev pub takes : Machine → ℕ → Machine
takes machine word = record {
  desk = machine.desk;
  caller = caller_after machine.caller machine.phase word;
  phase = phase_after machine.desk machine.caller machine.phase word;
  steps = machine.steps + 1;
}

-- what it then answers, where its add has ended
abbrev pub answer_in : Desk → Caller → ℕ → Phase → Option Added
answer_in desk caller steps (StoreDone count) = Some (answer_of desk.seat caller steps count)
answer_in desk caller steps _ = None

-- the add that it ends, where it does
abbrev pub answers : Machine → Option Added
answers machine = answer_in machine.desk machine.caller (machine.steps + 1) machine.phase

-- ---- how many steps are left of an add, at most

-- from the load of the root on
abbrev pub turns_left : ℕ → ℕ → ℕ
turns_left seats zero = 5 * row_words seats + 8 * seats + 6
turns_left seats (suc zero) = 3 * row_words seats + 4 * seats + 4
turns_left seats (suc (suc turn)) = row_words seats + 2

-- and once the row is loaded
abbrev pub try_left : ℕ → ℕ → ℕ
try_left seats zero = 4 * seats + row_words seats + 1 + turns_left seats 1
try_left seats (suc zero) = 4 * seats + row_words seats + 1 + turns_left seats 2
try_left seats (suc (suc turn)) = 1

-- the most steps that are left, by the phase
abbrev pub left_in : ℕ → Caller → Phase → ℕ
left_in seats caller Idle = 0
left_in seats caller LoadDone = (seats - length caller.seen) + 4 + turns_left seats 0
left_in seats caller (StoreOp i) = (3 - i) + 1 + turns_left seats 0
left_in seats caller Announce = 1 + turns_left seats 0
left_in seats caller (LoadRoot turn) = turns_left seats turn
left_in seats caller (LoadRow turn root row) = (row_words seats - length row) + try_left seats turn
left_in seats caller (LoadAnnouncement turn root row found) =
    4 * (seats - length found) + row_words seats + 1 + turns_left seats (turn + 1)
left_in seats caller (LoadOp turn root row found op words) =
    (3 - length words) + 4 * (seats - (length found + 1)) + row_words seats + 1 + turns_left seats (turn + 1)
left_in seats caller (StoreRow turn root row i) = (row_words seats - i) + 1 + turns_left seats (turn + 1)
left_in seats caller (Publish turn root row) = 1 + turns_left seats (turn + 1)
left_in seats caller (StoreDone count) = 1

-- of a machine
abbrev pub left : Machine → ℕ
left machine = left_in machine.desk.seats machine.caller machine.phase

-- no list is longer than what it is loaded from, and there are two tries
abbrev pub IsShort : ℕ → Caller → Phase → Type 0
IsShort seats caller Idle = Unit {0}
IsShort seats caller LoadDone = length caller.seen < seats
IsShort seats caller (StoreOp i) = i < 3
IsShort seats caller Announce = Unit {0}
IsShort seats caller (LoadRoot turn) = turn ≤ 2
IsShort seats caller (LoadRow turn root row) = (turn ≤ 2) × (length row < row_words seats)
IsShort seats caller (LoadAnnouncement turn root row found) =
    (turn < 2) × (length row ≡ row_words seats) × (length found < seats)
IsShort seats caller (LoadOp turn root row found op words) =
    (turn < 2) × (length row ≡ row_words seats) × (length found < seats) × (length words < 3)
IsShort seats caller (StoreRow turn root row i) = (turn < 2) × (length row ≡ row_words seats) × (i < row_words seats)
IsShort seats caller (Publish turn root row) = (turn < 2) × (length row ≡ row_words seats)
IsShort seats caller (StoreDone count) = Unit {0}

-- how many state rows it may have published: one less than its adds until it has published one in this add
abbrev pub spare_in : Phase → ℕ
spare_in Idle = 0
spare_in (StoreDone count) = 0
spare_in _ = 1

-- what fits an adder's program
pub record IsFit (machine : Machine) : Type 0 where
  pub desk : IsDesk machine.desk
  pub short : IsShort machine.desk.seats machine.caller machine.phase
  pub bounded : machine.steps + left machine ≤ step_bound machine.desk.seats
  pub number : machine.caller.number < 2 ^ 32
  pub spare : machine.caller.made + spare_in machine.phase ≤ machine.caller.number
  pub seen : length machine.caller.seen ≤ machine.desk.seats
