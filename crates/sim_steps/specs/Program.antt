-- What an adder does, one word at a time. An add: load the done words; store the op row and announce it; then at most
-- two tries to publish a state row with all announced adds; where both were lost, one last look; store the done word.
-- Source: the idea of Fatourou and Kallimanis, "A highly-efficient wait-free universal construction" (2011); the
-- steps are our own.
use Rattle.std.specs.Prelude.{ℕ, ◌+◌, ◌-◌, ◌*◌, ◌%◌, ◌^◌, ◌==◌, nat_lt, nat_le, if◌then◌else◌, ◌&&◌, Bool, true, false, List, [], ◌∷◌, ◌++◌, length, slice_index, slice_set, replicate}
use Rattle.sim_steps.specs.declared.adds.Add.{Add}
use Rattle.sim_steps.specs.declared.adds.Added.{Added}
use Rattle.sim_steps.specs.declared.adds.Op.{Op}
use Rattle.sim_steps.specs.declared.words.Desk.{Desk}
use Rattle.sim_steps.specs.declared.words.Address.TheVariants.{Root, Announcement, Done, OpWord, StateWord}
use Rattle.sim_steps.specs.declared.words.Ask.{Ask}
use Rattle.sim_steps.specs.declared.words.Ask.TheVariants.{Load, Store, Exchange}
use Rattle.sim_steps.specs.Layout.{row_words, op_row, state_row}

-- where an adder stands, with the words that it has loaded and still needs
pub data Phase : Type 0 where
  Idle : Phase
  LoadDone : Phase
  StoreOp : (i : ℕ) → Phase
  Announce : Phase
  -- one of the two tries, 0 and 1, or the last look, 2
  LoadRoot : (turn : ℕ) → Phase
  LoadRow : (turn root : ℕ) (row : List ℕ) → Phase
  -- found: of each seat looked at so far, the op that it has announced, or none
  LoadAnnouncement : (turn root : ℕ) (row : List ℕ) (found : List Op) → Phase
  LoadOp : (turn root : ℕ) (row : List ℕ) (found : List Op) (op : ℕ) (words : List ℕ) → Phase
  StoreRow : (turn root : ℕ) (row : List ℕ) (i : ℕ) → Phase
  Publish : (turn root : ℕ) (row : List ℕ) → Phase
  StoreDone : (count : ℕ) → Phase

-- who adds: the number of its add, from 1, how many state rows it has published, its add, and the done words that it
-- loaded
pub record Caller : Type 0 where
  pub number : ℕ
  pub made : ℕ
  pub add : Add
  pub seen : List ℕ

-- a seat: its steps in this add, and what it has answered of each add that has ended
pub record Seat : Type 0 where
  pub caller : Caller
  pub phase : Phase
  pub steps : ℕ
  pub log : List Added

-- ---- rows

-- the applied number and the reply of a seat in the words of a state row
abbrev pub applied : List ℕ → ℕ → ℕ
applied row seat = slice_index row (7 + 2 * seat)

-- a seat's answer in a row
abbrev pub reply_of : List ℕ → ℕ → ℕ
reply_of row seat = slice_index row (8 + 2 * seat)

-- what a sum is in a word of 64 bits. No run reaches that far
abbrev pub in_word : ℕ → ℕ
in_word n = n % 2 ^ 64

-- the row after an op of this seat
unfoldable pub with_op : List ℕ → ℕ → Op → List ℕ
with_op row seat op =
    let count = in_word (slice_index row (1 + op.class) + 1) in
    let bytes = in_word (slice_index row (4 + op.class) + op.length) in
    slice_set
    (slice_set
    (slice_set (slice_set row (1 + op.class) count) (4 + op.class) bytes)
    (7 + 2 * seat) op.number)
    (8 + 2 * seat) count

-- an op is applied where the row has not yet its number
abbrev pub is_new : List ℕ → ℕ → Op → Bool
is_new row seat op = nat_lt (applied row seat) op.number && nat_lt op.class 3

-- a row that takes an op in, where its number is greater
abbrev pub apply_op : List ℕ → ℕ → Op → List ℕ
apply_op row seat op = if is_new row seat op then with_op row seat op else row

-- the ops found, one after another, from this seat on
abbrev pub apply_all : ℕ → List Op → List ℕ → List ℕ
apply_all seat [] row = row
apply_all seat (op ∷ found) row = apply_all (seat + 1) found (apply_op row seat op)

-- the next state row: it names its base
abbrev pub next_row : ℕ → List Op → List ℕ → List ℕ
next_row root found row = slice_set (apply_all 0 found row) 0 (in_word (root + 1))

-- ---- ops

-- the op of a seat's add
abbrev pub op_of : Caller → Op
op_of caller = record { number = caller.number; class = caller.add.class; length = caller.add.length }

-- its words
abbrev pub op_words : Op → List ℕ
op_words op = op.number ∷ op.class ∷ op.length ∷ []

-- where none is announced
abbrev pub no_op : Op
no_op = record { number = 0; class = 0; length = 0 }

-- the op that words spell
abbrev pub op_from : List ℕ → Op
op_from words = record { number = slice_index words 0; class = slice_index words 1; length = slice_index words 2 }

-- ---- what an adder asks for next. An idle one asks for nothing: its next step is of the add that it begins
abbrev pub next_in : Desk → Caller → Phase → Ask
next_in desk caller Idle = Load Root
next_in desk caller LoadDone = Load (Done (length caller.seen))
next_in desk caller (StoreOp i) = Store (OpWord (op_row desk (caller.number - 1)) i)
    (slice_index (op_words (op_of caller)) i)
next_in desk caller Announce = Store (Announcement desk.seat) (op_row desk (caller.number - 1) + 1)
next_in desk caller (LoadRoot turn) = Load Root
next_in desk caller (LoadRow turn root row) = Load (StateWord root (length row))
next_in desk caller (LoadAnnouncement turn root row found) = Load (Announcement (length found))
next_in desk caller (LoadOp turn root row found op words) = Load (OpWord op (length words))
next_in desk caller (StoreRow turn root row i) = Store (StateWord (state_row desk caller.made) i) (slice_index row i)
next_in desk caller (Publish turn root row) = Exchange root (state_row desk caller.made)
next_in desk caller (StoreDone count) = Store (Done desk.seat) caller.number

-- ---- where it then stands, by the word that was found: what was loaded, or what the exchange found at the root

-- a state row is loaded whole: its own add is applied there, or there is a try to go on with
abbrev pub after_row : Desk → Caller → ℕ → ℕ → List ℕ → Phase
after_row desk caller turn root row =
    if nat_le caller.number (applied row desk.seat) then StoreDone (reply_of row desk.seat)
    else if nat_lt turn 2 then LoadAnnouncement turn root row [] else StoreDone (reply_of row desk.seat)

-- the op of one more seat is found
abbrev pub after_found : Desk → ℕ → ℕ → List ℕ → List Op → Phase
after_found desk turn root row found =
    if nat_lt (length found) desk.seats then LoadAnnouncement turn root row found
    else StoreRow turn root (next_row root found row) 0

-- where a seat goes by the word that it found
abbrev pub phase_after : Desk → Caller → Phase → ℕ → Phase
phase_after desk caller Idle word = Idle
phase_after desk caller LoadDone word = if nat_lt (length caller.seen + 1) desk.seats then LoadDone else StoreOp 0
phase_after desk caller (StoreOp i) word = if nat_lt i 2 then StoreOp (i + 1) else Announce
phase_after desk caller Announce word = LoadRoot 0
phase_after desk caller (LoadRoot turn) word = LoadRow turn word []
phase_after desk caller (LoadRow turn root row) word =
    if nat_lt (length row + 1) (row_words desk.seats) then LoadRow turn root (row ++ word ∷ [])
    else after_row desk caller turn root (row ++ word ∷ [])
phase_after desk caller (LoadAnnouncement turn root row found) word =
    if word == 0 then after_found desk turn root row (found ++ no_op ∷ []) else LoadOp turn root row found (word - 1) []
phase_after desk caller (LoadOp turn root row found op words) word =
    if nat_lt (length words) 2 then LoadOp turn root row found op (words ++ word ∷ [])
    else after_found desk turn root row (found ++ op_from (words ++ word ∷ []) ∷ [])
phase_after desk caller (StoreRow turn root row i) word =
    if nat_lt (i + 1) (row_words desk.seats) then StoreRow turn root row (i + 1) else Publish turn root row
phase_after desk caller (Publish turn root row) word =
    if word == root then StoreDone (reply_of row desk.seat) else LoadRoot (turn + 1)
phase_after desk caller (StoreDone count) word = Idle

-- the done words are kept as they come, and an exchange that found the root that it expected has published a row
abbrev pub caller_after : Caller → Phase → ℕ → Caller
caller_after caller LoadDone word = record caller { seen = caller.seen ++ word % 2 ^ 32 ∷ [] }
caller_after caller (Publish turn root row) word =
    if word == root then record caller { made = caller.made + 1 } else caller
caller_after caller _ word = caller

-- what the adder answers: the words that it has seen, then zeros where there is no seat
abbrev pub answer_of : ℕ → Caller → ℕ → ℕ → Added
answer_of seat caller steps count = record {
  seat = seat;
  number = caller.number;
  add = caller.add;
  count = count;
  steps = steps;
  seen = caller.seen ++ replicate (8 - length caller.seen) 0;
}

-- and what it has recorded then
abbrev pub log_after : ℕ → Caller → ℕ → Phase → List Added → List Added
log_after seat caller steps (StoreDone count) log = log ++ answer_of seat caller steps count ∷ []
log_after seat caller steps _ log = log

-- a seat after a step
abbrev pub seat_after : Desk → Seat → ℕ → Seat
seat_after desk seat word = record {
  caller = caller_after seat.caller seat.phase word;
  phase = phase_after desk seat.caller seat.phase word;
  steps = seat.steps + 1;
  log = log_after desk.seat seat.caller (seat.steps + 1) seat.phase seat.log;
}

-- ---- where an add begins
abbrev pub is_idle : Phase → Bool
is_idle Idle = true
is_idle _ = false

-- an add goes on after a step, unless it is the last
abbrev pub is_last : Phase → Bool
is_last Idle = true
is_last (StoreDone count) = true
is_last _ = false

-- a seat that begins this add
abbrev pub begun : Add → Seat → Seat
begun add seat = record {
  caller = record { number = seat.caller.number + 1; made = seat.caller.made; add = add; seen = [] };
  phase = LoadDone;
  steps = 0;
  log = seat.log;
}

-- a seat as it takes its next step: an idle one begins this add
abbrev pub ready : Add → Seat → Seat
ready add seat = if is_idle seat.phase then begun add seat else seat

-- a seat that has made no add
abbrev pub resting : Seat
resting = record {
  caller = record { number = 0; made = 0; add = record { packet = 0; class = 0; length = 0 }; seen = [] };
  phase = Idle;
  steps = 0;
  log = [];
}

-- the most steps of an add, of so many seats
abbrev pub step_bound : ℕ → ℕ
step_bound seats = 5 * row_words seats + 9 * seats + 10
