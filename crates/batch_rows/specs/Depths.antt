-- How deep the directory of a batch's table can become, by the batch's own keys: a bucket is split only where more keys
-- of the batch have its prefix than it has room for. So a table of a lesser greatest depth answers the batch alike.
-- Source: this project's own.
use Rattle.std.specs.Prelude.{◌≡◌, ℕ, ◌+◌, ◌-◌, ◌++◌, nat_lt, List, Option, Some, None, count_by, All}
use Rattle.std.specs.List.{range_with_len}
use Rattle.hash_bits.specs.declared.hashing.Hashing.{Hashing}
use Rattle.step_counts.specs.declared.rows.SeatRows.{SeatRows}
use Rattle.step_counts.specs.declared.settings.Settings.{Settings}
use Rattle.step_counts.specs.Made.{IsMadeOf}
use Rattle.plain_map.specs.declared.calls.Call.{Call}
use Rattle.plain_map.specs.declared.keys.Key.{Key}
use Rattle.plain_map.specs.declared.keys.Pair.{Pair}
use Rattle.plain_map.specs.declared.rules.Rules.{Rules}
use Rattle.plain_map.specs.History.{Placed, call_in}
use Rattle.bucket_states.specs.Parts.{keys_of}
use Rattle.table_model.specs.Needs.{IsAmongKeys, crowded_at, inserted_by}
use Rattle.batch_rows.specs.BatchRows.{inserted_in_calls, rules_in}

-- The starting depth, and as many more as there are depths of which some prefix is crowded by these keys, up to the
-- last at which a bucket can be split. A part of a prefix is crowded only where the prefix is, so these are the first
-- ones, and at the depth behind them none is.
abbrev pub depth_for : Rules → (start : ℕ) → List Key → ℕ
depth_for rules start keys =
    start + count_by (λ depth. nat_lt 0 (crowded_at rules keys depth)) (range_with_len start (rules.depth - start))

-- the rules with that greatest depth
abbrev pub lesser_rules : Rules → (start : ℕ) → List Key → Rules
lesser_rules rules start keys =
    record { items = rules.items; depth = depth_for rules start keys; hashing = rules.hashing }

-- the keys of a batch: those that its table begins with, and those of its inserts
abbrev pub keys_in_batch : (first : List Pair) → (calls : List (ℕ × Call)) → List Key
keys_in_batch first calls = keys_of first ++ inserted_in_calls calls

-- the settings of the table of a batch: where no rows are given its greatest depth is what the batch's keys can need
abbrev pub IsTableFor :
    Settings → Hashing → (given : Option SeatRows) → (first : List Pair) → (calls : List (ℕ × Call)) → Settings → Type 0
IsTableFor s hashing (Some rows) first calls table = table ≡ s
IsTableFor s hashing None first calls table =
    IsMadeOf table s.seats s.items (depth_for (rules_in s hashing) s.start (keys_in_batch first calls)) s.start

-- what a call inserts is among these keys
abbrev pub InsertsAmong : List Key → Placed → Type 0
InsertsAmong keys placed = All (IsAmongKeys keys) (inserted_by (call_in placed))
