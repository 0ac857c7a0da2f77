-- How the calls of a run are cut into batches of so many packets: the first has those of the first so many, and so on.
-- Source: this project's own. A call is its packet's number, from 1, and what is asked.
use Rattle.std.specs.Prelude.{◌≡◌, ◌<◌, ◌≤◌, ℕ, suc, ◌+◌, ◌-◌, ◌*◌, ◌/◌, max, List, [], length, flat_map, slice_index_or, All}
use Rattle.plain_map.specs.declared.calls.Call.{Call}

-- in how many batches so many packets are served: one is begun where a packet of it was read, or where there is none
abbrev pub batch_count : (size packets : ℕ) → ℕ
batch_count size packets = max 1 ((packets + (size - 1)) / size)

-- a call of the batch with this number, from 0
abbrev pub IsOfBatch : (size batch : ℕ) → ℕ × Call → Type 0
IsOfBatch size batch call = (size * batch < call.0) × (call.0 ≤ size * suc batch)

-- the calls of these batches, one after the other, are these, and each is of its batch
pub record AreOfBatches (size : ℕ) (calls : List (ℕ × Call)) (batches : List (List (ℕ × Call))) : Type 0 where
  pub parts : flat_map (λ batch. batch) batches ≡ calls
  pub each : (batch : ℕ) → batch < length batches → All (IsOfBatch size batch) (slice_index_or batches batch [])
