-- What is kept of a report.
use Rattle.std.specs.Prelude.{◌≡◌, ℕ, ◌+◌, min, List, slice_get}
use Rattle.std.specs.Option.{option_map_or}
use Rattle.plain_map.specs.declared.records.Pending.{Pending}
use Rattle.report_told.specs.Told.{Told}
use Rattle.report_told.specs.Points.{records_told, pending_told, order_told}
use Rattle.report_told.specs.Verdicts.{Tells, IsBadLine}
use Rattle.report_reading.specs.declared.kept.Kept.{Kept}
use Rattle.report_reading.specs.declared.reading.Reading.{Reading}
use Rattle.report_reading.specs.declared.reading.Reading.TheVariants.{Report, BadLine}

-- one above the count of the seat, where that has 32 bits
abbrev pub next_number : (counts : List ℕ) (seat : ℕ) → ℕ
next_number counts seat = option_map_or (λ count. min (count + 1) 4294967295) (slice_get counts seat) 0

abbrev pub with_number : (counts : List ℕ) → Pending → Pending
with_number counts u = record {
  seat = u.seat;
  number = next_number counts u.seat;
  packet = u.packet;
  call = u.call;
  seen = u.seen;
}

-- it is what the report tells
pub record IsKept (kept : Kept) (told : Told) : Type 0 where
  pub head : kept.head ≡ told.head
  pub bound : kept.bound ≡ told.tail.bound
  pub calls : kept.calls.items ≡ records_told told
  pub pending : kept.pending.items ≡ pending_told told
  pub order : kept.order.items ≡ order_told told
  pub pairs : kept.pairs.items ≡ told.pairs

-- the text is a report, and this is what it tells; or this is its first bad line
abbrev pub IsReadingOf : List ℕ → Reading → Type 0
IsReadingOf text (Report kept) = (told : Told) × Tells text told × IsKept kept told
IsReadingOf text (BadLine line) = IsBadLine text line
