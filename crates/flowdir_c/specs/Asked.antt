-- What the options from C ask for.
use Rattle.std.specs.Prelude.{Option, Some, None}
use Rattle.step_counts.specs.declared.rows.SeatRows.{SeatRows}
use Rattle.step_counts.specs.declared.settings.Settings.{Settings}
use Rattle.step_counts.specs.Made.{IsMadeOf}
use Rattle.step_counts.specs.Ranges.{AreInRange}
use Rattle.flowdir_c.specs.declared.options.Options.{Options}
use Rattle.flowdir_c.specs.declared.options.Rows.{Rows}

-- the settings that the options ask for, if they are in their ranges
abbrev pub AreOptions : Options → Option Settings → Type 0
AreOptions options (Some settings) =
    IsMadeOf settings options.seats options.items options.depth options.start
AreOptions options None = AreInRange options.seats options.items options.depth options.start → ⊥

-- the rows that they ask for
abbrev pub rows_of : Rows → SeatRows
rows_of rows = record {
  op_rows = rows.op_rows;
  bucket_rows = rows.bucket_rows;
  bucket_words = rows.bucket_words;
  directory_rows = rows.directory_rows;
}
