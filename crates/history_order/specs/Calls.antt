-- The calls by seat and number.
use Rattle.std.specs.Prelude.{ℕ, ◌==◌, List, Option, Some, slice_get, find, option_map}
use Rattle.std.specs.Option.{option_map_or}
use Rattle.plain_map.specs.declared.records.Record.{Record}
use Rattle.plain_map.specs.declared.records.Pending.{Pending}
use Rattle.plain_map.specs.declared.records.Seen.{Seen}
use Rattle.plain_map.specs.History.{Placed, answered, pending}
use Rattle.table_model.specs.Closing.{log_of}

-- the record at this place of the seat's log
abbrev pub record_at : List (List Record) → (seat at : ℕ) → Option Record
record_at logs seat at = slice_get (log_of logs seat) at

-- the call at this place: an answered one, or else the one that the seat had begun
abbrev pub call_at : List (List Record) → List Pending → (seat at : ℕ) → Option Placed
call_at logs begun seat at =
    option_map_or (λ r. Some (answered r)) (record_at logs seat at)
    (option_map pending (find (λ p. p.seat == seat) begun))

-- what its caller had seen
abbrev pub seen_in : Placed → Seen
seen_in (answered r) = r.seen
seen_in (pending p) = p.seen
