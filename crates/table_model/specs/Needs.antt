-- How many rows the calls of a batch can need, by their keys alone: fewer than the automatic ones, where few buckets
-- can be split. A bucket freezes only where it is full and a key comes that it has not, so only where more keys of the
-- batch have its prefix than it has room for; no prefix is split twice, and the opening has split those that it had to.
-- Source: this project's own.
use Rattle.std.specs.Prelude.{◌≡◌, ℕ, ◌+◌, ◌-◌, ◌*◌, ◌^◌, ◌<◌, ◌≤◌, ◌==◌, nat_lt, Bool, true, if◌then◌else◌, List, [], ◌∷◌, ◌++◌, map, min, length, None, slice_index, count_by, sum_by, flat_map, All}
use Rattle.std.specs.Option.{option_map_or}
use Rattle.std.specs.List.{list_any, range_with_len}
use Rattle.step_counts.specs.declared.rows.SeatRows.{SeatRows}
use Rattle.step_counts.specs.declared.settings.Settings.{Settings}
use Rattle.step_counts.specs.StepCounts.{new_leaves, automatic_rows_of}
use Rattle.plain_map.specs.declared.calls.Call.{Call}
use Rattle.plain_map.specs.declared.calls.Call.TheVariants.{Insert, Remove, Lookup, Tally, Count, Put}
use Rattle.plain_map.specs.declared.keys.Key.{Key}
use Rattle.plain_map.specs.declared.rules.Rules.{Rules}
use Rattle.bucket_states.specs.Items.{prefix_of, same_key}
use Rattle.bucket_states.specs.Parts.{keys_of}
use Rattle.table_model.specs.declared.events.Event.{Event}
use Rattle.table_model.specs.Setup.{Setup, settings_of, seats_of, rules_of}
use Rattle.table_model.specs.SeatStates.{SeatState, Stand, Idle, InFlight}
use Rattle.plain_map.specs.Calls.{is_update}
use Rattle.table_model.specs.Worlds.{IsRun, world_after, seat_in, refusal_of}
use Rattle.table_model.specs.Reading.{directory_rows}
use Rattle.table_model.specs.Promises.{words_in, updates_in}

-- the keys, each once: where it stands last
abbrev pub distinct_keys : List Key → List Key
distinct_keys [] = []
distinct_keys (key ∷ keys) =
    if list_any (same_key key) keys then distinct_keys keys else key ∷ distinct_keys keys

-- more of these keys have the prefix than a bucket has room for
abbrev pub is_crowded : Rules → List Key → (depth prefix : ℕ) → Bool
is_crowded rules keys depth prefix =
    nat_lt rules.items (count_by (λ key. prefix_of rules depth key == prefix) (distinct_keys keys))

-- how many prefixes of a depth are crowded
abbrev pub crowded_at : Rules → List Key → (depth : ℕ) → ℕ
crowded_at rules keys depth = count_by (is_crowded rules keys depth) (range_with_len 0 (2 ^ depth))

-- how many prefixes, from the starting depth up to the last at which a bucket can be split
unfoldable pub crowded : Rules → (start : ℕ) → List Key → ℕ
crowded rules start keys = sum_by (crowded_at rules keys) (range_with_len start (rules.depth - start))

-- how many more these are for the first keys with the inserted ones: so often at most a bucket is split after the
-- opening
abbrev pub splits_for : Rules → (start : ℕ) → (first inserted : List Key) → ℕ
splits_for rules start first inserted = crowded rules start (first ++ inserted) - crowded rules start first

-- the key of a call that brings it where it is not there
abbrev pub inserted_by : Call → List Key
inserted_by (Insert key value) = key ∷ []
inserted_by (Remove key) = []
inserted_by (Lookup key) = []
inserted_by (Tally key amount) = []
inserted_by (Count key value amount) = key ∷ []
inserted_by (Put key value) = key ∷ []

-- the keys that the calls which these events give may bring
abbrev pub inserted_in : List Event → List Key
inserted_in events = flat_map (λ event. option_map_or (λ begin. inserted_by begin.1) event.begin []) events

-- at most so many splits come with these calls
abbrev pub splits_in : Setup → (inserted : List Key) → ℕ
splits_in setup inserted = splits_for (rules_of setup) (settings_of setup).start (keys_of setup.first) inserted

-- the rows that suffice a seat for so many updates, where there are so many splits in all: those that may be published
-- before its last update begins, and what this one needs; and no more than the automatic ones
abbrev pub batch_rows_of : Settings → (updates splits : ℕ) → SeatRows
batch_rows_of s updates splits = record {
  op_rows = updates;
  bucket_rows =
      min (automatic_rows_of s updates).bucket_rows (min (2 * updates) (updates + 1) + 2 * splits + new_leaves s);
  bucket_words = min (automatic_rows_of s updates).bucket_words (2 * splits + new_leaves s);
  directory_rows = min (automatic_rows_of s updates).directory_rows (min updates (splits + 1));
}

-- how many updates the seat has begun
abbrev pub flying_updates : Stand → ℕ
flying_updates Idle = 0
flying_updates (InFlight flight phase) = if is_update flight.call then 1 else 0

abbrev pub updates_begun : SeatState → ℕ
updates_begun state = updates_in state.account + flying_updates state.stand

-- what a seat has published, where it began so many updates and there were so many splits
pub record IsFew (updates splits : ℕ) (used : SeatRows) : Type 0 where
  pub op_rows : used.op_rows ≤ updates
  pub bucket_rows : used.bucket_rows ≤ updates + 2 * splits
  pub directory_rows : used.directory_rows ≤ min updates splits

-- the root is exchanged once for each split at most, all seats together publish two buckets for each, and one seat few
-- rows
abbrev pub FewArePublished : Type 0
FewArePublished =
    (setup : Setup) (events : List Event) → IsRun setup events →
    (let splits = splits_in setup (inserted_in events) in
    let seats = (world_after setup events).seats in
    (length (directory_rows setup.shape (words_in setup events)) ≤ splits + 1)
    × (sum_by (λ state. state.account.used.bucket_words) seats ≤ 2 * splits)
    × All (λ state. IsFew (updates_begun state) splits state.account.used) seats)

-- the key is among these
abbrev pub IsAmongKeys : List Key → Key → Type 0
IsAmongKeys keys key = list_any (same_key key) keys ≡ true

-- so where the ranges are for so many updates of each seat, and for calls that bring these keys, no call is refused
-- before its seat has made as many updates
abbrev pub BatchRowsSuffice : Type 0
BatchRowsSuffice =
    (setup : Setup) (keys : List Key) (updates : List ℕ) (events : List Event) (seat : ℕ) (call : Call) →
    IsRun setup events → seat < seats_of setup → All (IsAmongKeys keys) (inserted_in events) →
    setup.shape.ranges ≡ map (λ many. batch_rows_of (settings_of setup) many (splits_in setup keys)) updates →
    (seat_in (world_after setup events) seat).stand ≡ Idle →
    updates_in (seat_in (world_after setup events) seat).account < slice_index updates seat →
    refusal_of setup seat (seat_in (world_after setup events) seat).account call ≡ None
