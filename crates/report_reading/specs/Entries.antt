-- What was taken in of the lines of calls and orders.
use Rattle.std.specs.Prelude.{◌≡◌, ℕ, List, [], ◌∷◌, ◌++◌, flat_map, Option, Some, None}
use Rattle.step_counts.specs.declared.settings.Settings.{Settings}
use Rattle.step_counts.specs.StepCounts.{need_of}
use Rattle.plain_map.specs.declared.records.Pending.{Pending}
use Rattle.report_text.specs.declared.parts.Head.{Head}
use Rattle.report_told.specs.Told.{Entry, call, pending, order}
use Rattle.report_told.specs.Rules.{IsHead, IsSettingsOf, AreEntries, ended_packets, waiting_packets}
use Rattle.report_told.specs.Points.{packets_told}
use Rattle.report_reading.specs.declared.entries.Entries.{Entries}
use Rattle.report_reading.specs.Packets.{ArePackets}
use Rattle.report_reading.specs.Answers.{AreAnswers}

-- a pending call, whose number is not known yet
abbrev pub unnumbered : Entry → List Pending
unnumbered (call told) = []
unnumbered (pending told) =
    record { seat = told.seat; number = 0; packet = told.packet; call = told.call; seen = told.seen } ∷ []
unnumbered (order packets) = []

-- these entries, which may stand so behind this head
pub record Holds (kept : Entries) (head : Head) (entries : List Entry) : Type 0 where
  pub head_is : kept.head ≡ head
  pub in_range : IsHead head
  pub need : (s : Settings) → IsSettingsOf head s → kept.need ≡ need_of s
  pub are : AreEntries head entries
  pub packets : ArePackets kept.packets (ended_packets entries) (waiting_packets entries)
  pub answers : AreAnswers kept.answers entries
  pub pending : kept.pending.items ≡ flat_map unnumbered entries
  pub order : kept.order.items ≡ flat_map packets_told entries

-- the line of an order was taken in, where one stood there
abbrev pub TakesOrder : Option (List ℕ × List ℕ) → Entries → Head → List Entry → (found : Option (List ℕ)) → Type 0
TakesOrder (Some line) kept head entries found =
    (found ≡ Some line.1) × Holds kept head (entries ++ order line.0 ∷ [])
TakesOrder None kept head entries found = found ≡ None
