-- The words of its own bucket rows of which a seat knows that they are 0, and the stores that need no access for it.
use Rattle.std.specs.Prelude.{◌≡◌, ◌≢◌, ℕ, ◌<◌, ◌≤◌, slice_index}
use Rattle.plain_map.specs.declared.calls.Call.{Call}
use Rattle.word_rows.specs.declared.addresses.Address.{Address}
use Rattle.word_rows.specs.Places.{place}
use Rattle.table_model.specs.declared.events.Ask.{Ask}
use Rattle.table_model.specs.declared.events.Ask.TheVariants.{Store}
use Rattle.table_model.specs.Worlds.{world_after}
use Rattle.table_model.specs.Shown.{Holding}
use Rattle.table_model.specs.Steps.{MayStep}
use Rattle.word_rows.specs.Shape.{Shape}
use Rattle.blank_laws.specs.OwnRows.{IsOwnPlace}
use Rattle.shared_table.specs.declared.zeros.Zeros.{Zeros}
use Rattle.shared_table.specs.Rule.{M, IsReached, alone, asked_by, late_state, with_late}

-- a word among them
pub record IsZero (zeros : Zeros) (at : ℕ) : Type 0 where
  pub from : zeros.from ≤ at
  pub below : at < zeros.end

-- each is a word of the seat's own, and is 0 after the run that the seat knows
pub record HasZeros (h : Holding) (zeros : Zeros) : Type 0 where
  pub own : (at : ℕ) → IsZero zeros at → IsOwnPlace h.setup.shape h.seat at
  pub zero : (at : ℕ) → IsZero zeros at → slice_index (world_after h.setup h.known).words at ≡ 0

-- these are the same without this word, if it is one of them, and those before it
pub record AreWithout (at : ℕ) (was now : Zeros) : Type 0 where
  pub fewer : (other : ℕ) → IsZero now other → IsZero was other × (other ≢ at)
  pub kept : (other : ℕ) → IsZero was other → (IsZero was at → at < other) → IsZero now other

-- the seat may step, and its step stores 0 to one of these words
pub record IsLate (asked : ℕ × Call) (zeros : Zeros) (h : Holding) : Type 0 where
  pub may : MayStep h.setup h.seat asked h.state.account h.state.stand
  pub to : Address
  pub asks : asked_by h asked ≡ Store to 0
  pub at_zero : IsZero zeros (place h.setup.shape to)

-- so do its next steps, so many of them
abbrev pub AreLate : ℕ × Call → Zeros → (late : ℕ) → Holding → Type 0
AreLate asked zeros late h = (k : ℕ) → k < late → IsLate asked zeros (with_late asked k h)

-- the token is that of one seat, which has so many late steps to take, may step then, and asks for this
pub record AsksFor (asked : ℕ × Call) (late : ℕ) (zeros : Zeros) (a : Ask) (h : Holding) (m : M) : Type 0 where
  pub one : m ≡ alone h
  pub here : IsReached h
  pub there : IsReached (with_late asked late h)
  pub has_zeros : HasZeros h zeros
  pub are_late : AreLate asked zeros late h
  pub may : MayStep h.setup h.seat asked (late_state asked late h).account (late_state asked late h).stand
  pub asks : asked_by (with_late asked late h) asked ≡ a

-- and it is of a table of this shape
pub record IsFor (shape : Shape) (asked : ℕ × Call) (late : ℕ) (zeros : Zeros) (a : Ask) (m : M) : Type 0 where
  pub holding : Holding
  pub asks : AsksFor asked late zeros a holding m
  pub shape_is : holding.setup.shape ≡ shape
