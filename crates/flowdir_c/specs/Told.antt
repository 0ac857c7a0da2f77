-- What C is told of a call, by the reply of the table.
use Rattle.std.specs.Prelude.{◌≡◌, ◌≢◌, ℕ, ◌+◌, ◌^◌, ◌-◌, ◌≤◌, ◌⊎◌, None}
use Rattle.step_counts.specs.StepCounts.{step_bound}
use Rattle.plain_map.specs.declared.keys.Key.{Key}
use Rattle.plain_map.specs.declared.keys.Pair.{Pair}
use Rattle.plain_map.specs.declared.calls.Call.{Call}
use Rattle.plain_map.specs.declared.calls.Reply.{Reply}
use Rattle.plain_map.specs.declared.calls.Reply.TheVariants.{New, Old, NoRoom, Gone, Found, Absent, Sum}
use Rattle.plain_map.specs.declared.records.Record.{Record}
use Rattle.plain_map.specs.Serving.{IsAskable}
use Rattle.table_model.specs.Setup.{settings_of}
use Rattle.plain_map.specs.Calls.{is_update}
use Rattle.shared_table.specs.SeatValues.{SeatValue}
use Rattle.shared_table.specs.Values.{Answers, refused_at}
use Rattle.flowdir_c.specs.declared.answer.Answer.{Answer}
use Rattle.flowdir_c.specs.declared.answer.FlowKey.{FlowKey}
use Rattle.flowdir_c.specs.declared.answer.FlowPair.{FlowPair}
use Rattle.flowdir_c.specs.declared.answer.Told.{Told}
use Rattle.flowdir_c.specs.declared.answer.Told.TheVariants.{Answered, Full, Bad}

-- the number of a reply's kind
abbrev pub kind_of : Reply → ℕ
kind_of New = 0
kind_of (Old value) = 1
kind_of NoRoom = 2
kind_of (Gone value) = 3
kind_of (Found value) = 4
kind_of Absent = 5
kind_of (Sum bytes) = 6

-- and its value, or the bytes
abbrev pub value_of : Reply → ℕ
value_of New = 0
value_of (Old value) = value
value_of NoRoom = 0
value_of (Gone value) = value
value_of (Found value) = value
value_of Absent = 0
value_of (Sum bytes) = bytes

-- a reply as numbers
abbrev pub answer_of : Reply → (steps : ℕ) → Answer
answer_of reply steps = record { kind = kind_of reply; value = value_of reply; steps = steps }

-- a key as the table has it
abbrev pub key_of : FlowKey → Key
key_of key = record { k0 = key.k0; k1 = key.k1; k2 = key.k2; k3 = key.k3; k4 = key.k4 }

-- and a pair
abbrev pub pair_of : FlowPair → Pair
pair_of pair = record { key = key_of pair.key; value = pair.value; bytes = pair.bytes }

-- the status that C is told: 0 for an answer, 4 for rows that are used up, 2 for numbers out of range
abbrev pub status_of : Told → ℕ
status_of (Answered answer) = 0
status_of Full = 4
status_of Bad = 2

-- what stands where the reply goes: as it was, where there is none
abbrev pub written : Answer → Told → Answer
written was (Answered answer) = answer
written was Full = was
written was Bad = was

-- the call was answered by its seat, and an update within the bound
pub record IsAnswered (call : Call) (was now : SeatValue) (answer : Answer) : Type 0 where
  pub made : Record
  pub answers : Answers 0 call was now made
  pub bounded : is_update call ≡ Rattle.std.specs.Prelude.true → made.steps ≤ step_bound (settings_of was.holding.setup)
  pub answer_is : answer ≡ answer_of made.reply made.steps

-- how many calls a seat has made then: one more, if this one was answered
abbrev pub calls_after : Told → (calls : ℕ) → ℕ
calls_after (Answered answer) calls = calls + 1
calls_after Full calls = calls
calls_after Bad calls = calls

-- the call cannot be asked: its value or amount is too large, or the seat has made as many calls as it can count
abbrev pub CannotAsk : Call → (calls : ℕ) → Type 0
CannotAsk call calls = (IsAskable call → ⊥) ⊎ (2 ^ 32 - 2 ≤ calls)

-- what became of a call: the seat answered it; or its rows are used up; or it cannot be asked. In the last two nothing
-- happened
abbrev pub HasTold : Call → (calls : ℕ) → SeatValue → SeatValue → Told → Type 0
HasTold call calls was now (Answered answer) = IsAnswered call was now answer
HasTold call calls was now Full = (refused_at was call ≢ None) × (now ≡ was)
HasTold call calls was now Bad = CannotAsk call calls × (now ≡ was)
