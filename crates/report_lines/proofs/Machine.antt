-- The lines of a report as a machine: which lines may stand behind others, and how they are read.
use Rattle.std.proofs.Common.{◌≡◌, ℕ, codes, List, [], ◌∷◌, ◌++◌, Option, Some, None}
use Rattle.step_counts.specs.declared.settings.Settings.{Settings}
use Rattle.step_counts.specs.StepCounts.{step_bound}
use Rattle.plain_map.specs.declared.keys.Pair.{Pair}
use Rattle.report_text.specs.Lines.{line}
use Rattle.report_text.specs.Report.{head_line, session_line, input_line}
use Rattle.report_text.specs.declared.parts.Head.{Head}
use Rattle.report_text.specs.declared.parts.Tail.{Tail}
use Rattle.capture_faults.specs.declared.ending.Ending.{Ending}
use Rattle.report_told.specs.Told.{Entry, call, pending, order, Told, entry_line}
use Rattle.report_told.specs.Rules.{IsHead, AreEntries, AreSessions, IsSettingsOf}
use Rattle.report_lines.specs.declared.tails.Leaves.{Leaves}
use Rattle.report_lines.specs.declared.tails.Counts.{Counts}
use Rattle.report_lines.specs.declared.tails.Steps.{Steps}
use Rattle.report_lines.specs.Lines.{head_at, call_at, pending_at, order_at, session_at, leaves_at, input_at, count_at, steps_at}
use Rattle.report_lines.proofs.InputFields.{EndingFits}
use Rattle.report_lines.proofs.TailLines.{LeavesFit, CountsFit, StepsFit, leaves_words, count_words, step_words}

-- a line of a report
pub data Line : Type 0 where
  head : Head → Line
  entry : Entry → Line
  session : Pair → Line
  leaves : Leaves → Line
  input : Ending → Line
  count : Counts → Line
  steps : Steps → Line

-- what the lines before the tail told
pub record Body : Type 0 where
  pub head : Head
  pub entries : List Entry
  pub pairs : List Pair

-- what was read so far
pub data State : Type 0 where
  start : State
  body : Body → State
  left : Body → Leaves → State
  ended : Body → Leaves → Ending → State
  counted : Body → Leaves → Ending → Counts → State
  whole : Told → State

abbrev pub tail_of : Leaves → Ending → Counts → Steps → Tail
tail_of l e c s = record {
  leaves = l.leaves;
  depth = l.depth;
  ending = e;
  packets = c.packets;
  calls = c.calls;
  passed = c.passed;
  full = c.full;
  pending = c.pending;
  unbegun = c.unbegun;
  update = s.update;
  bound = s.bound;
  lookup = s.lookup;
}

abbrev pub told_of : Body → Tail → Told
told_of b t = record { head = b.head; entries = b.entries; pairs = b.pairs; tail = t }

abbrev pub begun_with : Head → Body
begun_with h = record { head = h; entries = []; pairs = [] }

abbrev pub with_entry : Body → Entry → Body
with_entry b e = record { head = b.head; entries = b.entries ++ e ∷ []; pairs = b.pairs }

abbrev pub with_pair : Body → Pair → Body
with_pair b p = record { head = b.head; entries = b.entries; pairs = b.pairs ++ p ∷ [] }

-- the bound is that of the settings
abbrev pub IsBound : Head → ℕ → Type 0
IsBound h bound = (s : Settings) → IsSettingsOf h s → bound ≡ step_bound s

-- which line may stand behind what was read, and what was read with it
abbrev pub Next : State → Line → State → Type 0
Next start (head h) m = IsHead h × (m ≡ body (begun_with h))
Next (body b) (entry e) m =
    IsHead b.head × (b.pairs ≡ []) × AreEntries b.head (b.entries ++ e ∷ []) × (m ≡ body (with_entry b e))
Next (body b) (session p) m = IsHead b.head × AreSessions (b.pairs ++ p ∷ []) × (m ≡ body (with_pair b p))
Next (body b) (leaves l) m = IsHead b.head × LeavesFit l × (m ≡ left b l)
Next (left b l) (input e) m = EndingFits e × (m ≡ ended b l e)
Next (ended b l e) (count c) m = CountsFit c × (m ≡ counted b l e c)
Next (counted b l e c) (steps s) m =
    StepsFit s × IsBound b.head s.bound × (m ≡ whole (told_of b (tail_of l e c s)))
Next s l m = ⊥

abbrev pub IsWholeState : State → Type 0
IsWholeState (whole told) = Unit {0}
IsWholeState s = ⊥

abbrev pub seats_in : State → ℕ
seats_in (body b) = b.head.seats
seats_in s = 0

-- the text of a line
abbrev pub text_of : State → Line → List ℕ
text_of s (head h) = head_line h
text_of s (entry e) = entry_line (seats_in s) e
text_of s (session p) = session_line p
text_of s (leaves l) = line (codes "leaves" ∷ leaves_words l)
text_of s (input e) = input_line e
text_of s (count c) = line (codes "count" ∷ count_words c)
text_of s (steps t) = line (codes "steps" ∷ step_words t)

-- what was read, as a line
abbrev pub tagged : {T : Type 0} → (T → Line) → Option (T × List ℕ) → Option (Line × List ℕ)
tagged made (Some read) = Some (made read.0, read.1)
tagged made None = None

abbrev pub first_of : {A : Type 0} → Option A → Option A → Option A
first_of (Some x) other = Some x
first_of None other = other

-- a line behind what was read
abbrev pub line_at : State → List ℕ → Option (Line × List ℕ)
line_at start bytes = tagged (λ h. head h) (head_at bytes)
line_at (body b) bytes =
    first_of (tagged (λ told. entry (call told)) (call_at b.head.seats bytes))
    (first_of (tagged (λ told. entry (pending told)) (pending_at b.head.seats bytes))
    (first_of (tagged (λ packets. entry (order packets)) (order_at bytes))
    (first_of (tagged (λ pair. session pair) (session_at bytes)) (tagged (λ l. leaves l) (leaves_at bytes)))))
line_at (left b l) bytes = tagged (λ e. input e) (input_at bytes)
line_at (ended b l e) bytes = tagged (λ c. count c) (count_at bytes)
line_at (counted b l e c) bytes = tagged (λ s. steps s) (steps_at bytes)
line_at (whole told) bytes = None
