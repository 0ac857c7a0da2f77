-- How many rows a seat can need by the number of keys alone, whichever they are: a prefix is crowded only by more keys
-- than a bucket has room for, so of each depth few prefixes are.
-- Source: this project's own.
use Rattle.std.specs.Prelude.{◌≡◌, ℕ, ◌+◌, ◌-◌, ◌/◌, ◌^◌, ◌<◌, ◌≤◌, List, map, min, length, None, slice_index, sum_by}
use Rattle.std.specs.List.{range_with_len}
use Rattle.std.specs.Prelude.{◌++◌}
use Rattle.step_counts.specs.declared.rows.SeatRows.{SeatRows}
use Rattle.step_counts.specs.declared.settings.Settings.{Settings}
use Rattle.plain_map.specs.declared.calls.Call.{Call}
use Rattle.plain_map.specs.declared.keys.Key.{Key}
use Rattle.bucket_states.specs.Parts.{keys_of}
use Rattle.table_model.specs.declared.events.Event.{Event}
use Rattle.table_model.specs.Setup.{Setup, settings_of, seats_of}
use Rattle.table_model.specs.SeatStates.{Idle}
use Rattle.table_model.specs.Worlds.{IsRun, world_after, seat_in, refusal_of}
use Rattle.table_model.specs.Promises.{updates_in}
use Rattle.table_model.specs.Needs.{distinct_keys, inserted_in, splits_in, batch_rows_of}

-- so many prefixes of a depth at most are crowded by so many keys
abbrev pub crowds_of : Settings → (keys depth : ℕ) → ℕ
crowds_of s keys depth = min (2 ^ depth) (keys / (s.items + 1))

-- and so many at all depths at which a bucket can be split
abbrev pub splits_by : Settings → (keys : ℕ) → ℕ
splits_by s keys = sum_by (crowds_of s keys) (range_with_len s.start (s.depth - s.start))

-- the rows that suffice a seat for so many updates, where no more than so many keys come
abbrev pub rows_by : Settings → (updates keys : ℕ) → SeatRows
rows_by s updates keys = batch_rows_of s updates (splits_by s keys)

-- how many keys came, with the first ones, each counted once
abbrev pub keys_come : Setup → List Event → ℕ
keys_come setup events = length (distinct_keys (keys_of setup.first ++ inserted_in events))

-- so many buckets at most are split after the opening
abbrev pub SplitsAreByKeys : Type 0
SplitsAreByKeys =
    (setup : Setup) (keys : ℕ) (events : List Event) → keys_come setup events ≤ keys →
    splits_in setup (inserted_in events) ≤ splits_by (settings_of setup) keys

-- where the ranges are for so many updates of each seat, and for so many keys, no call is refused before its seat has
-- made as many updates
abbrev pub RowsByKeysSuffice : Type 0
RowsByKeysSuffice =
    (setup : Setup) (keys : ℕ) (updates : List ℕ) (events : List Event) (seat : ℕ) (call : Call) →
    IsRun setup events → seat < seats_of setup → keys_come setup events ≤ keys →
    setup.shape.ranges ≡ map (λ many. rows_by (settings_of setup) many keys) updates →
    (seat_in (world_after setup events) seat).stand ≡ Idle →
    updates_in (seat_in (world_after setup events) seat).account < slice_index updates seat →
    refusal_of setup seat (seat_in (world_after setup events) seat).account call ≡ None
