-- The rows that the table of a batch is opened with: those that are given, or else for each seat those that the batch
-- can need, by the keys that it begins with, the keys of all its inserts, and the updates of the seat.
-- Source: this project's own. A call is its packet's number and what is asked.
use Rattle.std.specs.Prelude.{ℕ, List, length, map, flat_map, replicate, count_by, Option, Some, None}
use Rattle.hash_bits.specs.declared.hashing.Hashing.{Hashing}
use Rattle.step_counts.specs.declared.rows.SeatRows.{SeatRows}
use Rattle.step_counts.specs.declared.settings.Settings.{Settings}
use Rattle.plain_map.specs.declared.calls.Call.{Call}
use Rattle.plain_map.specs.declared.keys.Key.{Key}
use Rattle.plain_map.specs.declared.keys.Pair.{Pair}
use Rattle.plain_map.specs.declared.rules.Rules.{Rules}
use Rattle.bucket_states.specs.Parts.{keys_of}
use Rattle.plain_map.specs.Calls.{is_update}
use Rattle.table_model.specs.Needs.{batch_rows_of, inserted_by, splits_for}

-- the room of a bucket, the greatest depth and the hashing
abbrev pub rules_in : Settings → Hashing → Rules
rules_in s hashing = record { items = s.items; depth = s.depth; hashing = hashing }

-- the keys of the inserts among these calls
abbrev pub inserted_in_calls : List (ℕ × Call) → List Key
inserted_in_calls calls = flat_map (λ asked. inserted_by asked.1) calls

-- how many of these calls are updates
abbrev pub updates_in_calls : List (ℕ × Call) → ℕ
updates_in_calls calls = count_by (λ asked. is_update asked.1) calls

-- so often at most a bucket is split after the opening, where a table begins with these pairs and is asked these calls
abbrev pub splits_in_calls : Rules → (start : ℕ) → (first : List Pair) → (calls : List (ℕ × Call)) → ℕ
splits_in_calls rules start first calls = splits_for rules start (keys_of first) (inserted_in_calls calls)

-- the rows of the seat of each share: those that are given, and else those that suffice for its updates, by the splits
-- of the whole batch
abbrev pub rows_of : Settings → Hashing → (given : Option SeatRows) → (first : List Pair) →
    (calls : List (ℕ × Call)) → (shares : List (List (ℕ × Call))) → List SeatRows
rows_of s hashing (Some rows) first calls shares = replicate (length shares) rows
rows_of s hashing None first calls shares =
    map (λ share. batch_rows_of s (updates_in_calls share) (splits_in_calls (rules_in s hashing) s.start first calls))
    shares
