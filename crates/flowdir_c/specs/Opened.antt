-- What a table was opened with.
use Rattle.std.specs.Prelude.{◌≡◌, ℕ, List, replicate}
use Rattle.hash_bits.specs.declared.hashing.Hashing.TheVariants.{Mix}
use Rattle.step_counts.specs.declared.rows.SeatRows.{SeatRows}
use Rattle.step_counts.specs.declared.settings.Settings.{Settings}
use Rattle.plain_map.specs.declared.keys.Pair.{Pair}
use Rattle.table_model.specs.Setup.{Setup}
use Rattle.shared_table.specs.Openings.{setup_of}

-- these settings and rows, the same of each seat, and these first pairs
abbrev pub IsOpened : Settings → (seed : ℕ) → SeatRows → List Pair → Setup → Type 0
IsOpened settings seed rows first setup =
    setup ≡ setup_of settings (Mix seed) (replicate settings.seats rows) first
