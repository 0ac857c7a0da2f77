-- What a table is asked for with.
use Rattle.std.specs.Prelude.{◌^◌, List, All}
use Rattle.plain_map.specs.declared.keys.Pair.{Pair}
use Rattle.hash_bits.specs.declared.hashing.Hashing.{Hashing}
use Rattle.step_counts.specs.declared.rows.SeatRows.{SeatRows}
use Rattle.step_counts.specs.declared.settings.Settings.{Settings}
use Rattle.bucket_states.specs.Parts.{HasDistinctKeys}
use Rattle.word_rows.specs.Shape.{IsShape, AreBelow, record_limit}
use Rattle.table_model.specs.Setup.{Setup, IsPair}

-- a table of these settings, with these ranges, hashing and first pairs
abbrev pub setup_of : Settings → Hashing → List SeatRows → List Pair → Setup
setup_of settings hashing ranges first = record {
  shape = record { settings = settings; ranges = ranges; limit = record_limit };
  hashing = hashing;
  first = first;
}

-- a table can be asked for with this setup, and can be opened where its pairs find room
pub record IsAsked (setup : Setup) : Type 0 where
  pub shape : IsShape setup.shape
  pub ranges : All (AreBelow (2 ^ 32)) setup.shape.ranges
  pub pairs : All IsPair setup.first
  pub distinct : HasDistinctKeys setup.first
