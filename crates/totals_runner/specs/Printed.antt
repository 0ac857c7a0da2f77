-- What is printed of batches that were counted: the numbers of a seat's adds go on from
-- batch to batch, and so does what was seen.
use Rattle.std.specs.Prelude.{ℕ, ◌-◌, List, [], ◌∷◌, ◌++◌, length, map, max, fold, flat_map, slice_index_or}
use Rattle.std.specs.List.{range_with_len}
use Rattle.plain_map.specs.declared.records.CallId.{CallId}
use Rattle.sim_steps.specs.declared.adds.Add.{Add}
use Rattle.sim_steps.specs.declared.adds.Added.{Added}
use Rattle.sim_steps.specs.Order.{Entry}
use Rattle.batch_history.specs.Batches.{with_counts}
use Rattle.totals_runner.specs.Adds.{AddBatch, added_on}
use Rattle.totals_runner.specs.PacketAdds.{adds_by}
use Rattle.sim_totals.specs.Rule.{no_add}
use Rattle.totals_runner.specs.Counted.{Counted}

-- the packet of an add, by its seat and its number in the batch
abbrev pub packet_of : (seats : ℕ) → List Add → Entry → ℕ
packet_of seats adds entry = (slice_index_or (adds_by seats entry.0 adds) (entry.1 - 1) no_add).packet

-- its order as packets, and as the names that are printed
abbrev pub packets_in : (seats : ℕ) → Counted → List ℕ
packets_in seats batch = map (packet_of seats batch.adds) batch.order

abbrev pub id_of : (seats : ℕ) → List Add → Entry → CallId
id_of seats adds entry = record { seat = entry.0; number = entry.1; packet = packet_of seats adds entry }

-- how many adds the seats have made after a batch
abbrev pub added_then : (seats : ℕ) → (before : List ℕ) → Counted → List ℕ
added_then seats before batch =
    with_counts before (map (λ seat. length (adds_by seats seat batch.adds)) (range_with_len 0 seats))

-- and after several
abbrev pub added_in_all : (seats : ℕ) → (before : List ℕ) → List Counted → List ℕ
added_in_all seats before [] = before
added_in_all seats before (batch ∷ batches) = added_in_all seats (added_then seats before batch) batches

-- the answers of all batches as they are printed, in packet order
abbrev pub answers_on : (seats : ℕ) → (before : List ℕ) → List Counted → List Added
answers_on seats before [] = []
answers_on seats before (batch ∷ batches) =
    map (added_on before) batch.answers ++ answers_on seats (added_then seats before batch) batches

-- the lines of a batch, and of all batches
abbrev pub lines_of : (seats : ℕ) → (before : List ℕ) → Counted → AddBatch
lines_of seats before batch = record {
  answers = map (added_on before) batch.answers;
  order = map (id_of seats batch.adds) batch.order;
}

abbrev pub all_lines : (seats : ℕ) → (before : List ℕ) → List Counted → List AddBatch
all_lines seats before [] = []
all_lines seats before (batch ∷ batches) =
    lines_of seats before batch ∷ all_lines seats (added_then seats before batch) batches

-- one order of all packets, and all adds
abbrev pub order_on : (seats : ℕ) → List Counted → List ℕ
order_on seats batches = flat_map (packets_in seats) batches

abbrev pub adds_on : List Counted → List Add
adds_on batches = flat_map (λ batch. batch.adds) batches

-- the most steps of an add, or 0
abbrev pub most_steps : List Added → ℕ
most_steps answers = fold (λ most a. max most a.steps) 0 answers
