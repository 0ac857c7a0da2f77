-- Calls that seats make in batches, one batch after the other: a batch's table begins with what the last one left, and
-- counts its calls from 1 again. In the history of all batches their numbers go on, and so does what was seen, since
-- whoever begins a call has seen all calls of the batches before.
-- Source: this project's own.
use Rattle.std.specs.Prelude.{◌≡◌, ℕ, ◌+◌, List, [], ◌∷◌, ◌++◌, map, length, flat_map, replicate, slice_index, slice_index_or}
use Rattle.plain_map.specs.declared.records.Record.{Record}
use Rattle.plain_map.specs.declared.records.Pending.{Pending}
use Rattle.plain_map.specs.declared.records.Seen.{Seen}
use Rattle.plain_map.specs.declared.rules.Rules.{Rules}
use Rattle.plain_map.specs.PlainObject.{Sessions}
use Rattle.plain_map.specs.History.{Placed, answered, pending, Legal, After, Whole, sessions_after}

-- counts of seats, put together: 0 where a list has ended
abbrev pub with_counts : (before counts : List ℕ) → List ℕ
with_counts [] counts = counts
with_counts (b ∷ before) [] = b ∷ before
with_counts (b ∷ before) (c ∷ counts) = (b + c) ∷ with_counts before counts

-- the counts before any batch: no seat has answered a call, or made an add
abbrev pub no_counts : List ℕ
no_counts = replicate 8 0

-- what a caller has seen, where the seats had answered so many calls before
abbrev pub seen_on : (before : List ℕ) → Seen → Seen
seen_on before seen = record { counts = with_counts before seen.counts }

-- a record of a batch, where the seats had answered so many calls before
abbrev pub gone_on : (before : List ℕ) → Record → Record
gone_on before r = record r { number = slice_index before r.seat + r.number; seen = seen_on before r.seen }

-- a call that had begun
abbrev pub begun_on : (before : List ℕ) → Pending → Pending
begun_on before u = record u { number = slice_index before u.seat + u.number; seen = seen_on before u.seen }

-- a call in an order
abbrev pub placed_on : (before : List ℕ) → Placed → Placed
placed_on before (answered r) = answered (gone_on before r)
placed_on before (pending u) = pending (begun_on before u)

-- what was answered in a batch, seat by seat, and one order of its calls
pub record Batch : Type 0 where
  pub logs : List (List Record)
  pub order : List Placed

-- how many calls the seats have answered then
abbrev pub answered_then : (before : List ℕ) → Batch → List ℕ
answered_then before batch = with_counts before (map (λ log. length log) batch.logs)

-- the records of all batches, and all their calls, in the order of the batches
abbrev pub all_records : (before : List ℕ) → List Batch → List Record
all_records before [] = []
all_records before (batch ∷ batches) =
    map (gone_on before) (flat_map (λ log. log) batch.logs) ++ all_records (answered_then before batch) batches

abbrev pub all_calls : (before : List ℕ) → List Batch → List Placed
all_calls before [] = []
all_calls before (batch ∷ batches) =
    map (placed_on before) batch.order ++ all_calls (answered_then before batch) batches

-- the records of one seat are its own, and are numbered from 1 on
abbrev pub AreNumbered : List (List Record) → Type 0
AreNumbered logs =
    (seat : ℕ) (front back : List Record) (r : Record) → slice_index_or logs seat [] ≡ front ++ r ∷ back →
    (r.number ≡ length front + 1) × (r.seat ≡ seat)

-- the order of a batch is right, from what its table begins with
pub record IsInOrder (rules : Rules) (sessions : Sessions) (batch : Batch) : Type 0 where
  pub numbered : AreNumbered batch.logs
  pub legal : Legal rules sessions batch.order
  pub after : After batch.order
  pub whole : Whole (flat_map (λ log. log) batch.logs) [] batch.order

-- so is that of each batch, one after the other, and the last one leaves these sessions
abbrev pub AreInOrder : Rules → (first : Sessions) → List Batch → (last : Sessions) → Type 0
AreInOrder rules first [] last = last ≡ first
AreInOrder rules first (batch ∷ batches) last =
    IsInOrder rules first batch × AreInOrder rules (sessions_after rules first batch.order) batches last

-- the orders of all batches, one after the other, are one right order
pub record AreOneOrder (rules : Rules) (first : Sessions) (batches : List Batch) (last : Sessions) : Type 0 where
  pub legal : Legal rules first (all_calls [] batches)
  pub after : After (all_calls [] batches)
  pub whole : Whole (all_records [] batches) [] (all_calls [] batches)
  pub leaves : sessions_after rules first (all_calls [] batches) ≡ last

abbrev pub BatchesAreOneOrder : Type 0
BatchesAreOneOrder =
    (rules : Rules) (first last : Sessions) (batches : List Batch) → AreInOrder rules first batches last →
    AreOneOrder rules first batches last

-- the records of a seat in all batches
abbrev pub records_of : (before : List ℕ) → List Batch → (seat : ℕ) → List Record
records_of before [] seat = []
records_of before (batch ∷ batches) seat =
    map (gone_on before) (slice_index_or batch.logs seat [])
    ++ records_of (answered_then before batch) batches seat

-- they are numbered from 1 on
abbrev pub CallsAreNumberedOn : Type 0
CallsAreNumberedOn =
    (rules : Rules) (first last : Sessions) (batches : List Batch) (seat : ℕ) (front back : List Record) (r : Record) →
    AreInOrder rules first batches last → records_of [] batches seat ≡ front ++ r ∷ back →
    (r.number ≡ length front + 1) × (r.seat ≡ seat)
