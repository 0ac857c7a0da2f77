-- What an opener has room for.
use Rattle.hash_bits.specs.declared.hashing.Hashing.{Hashing}
use Rattle.step_counts.specs.declared.settings.Settings.{Settings}
use Rattle.plain_map.specs.declared.rows.BucketRow.{BucketRow}
use Rattle.plain_map.specs.declared.rules.Rules.{Rules}
use Rattle.plain_map.specs.Rows.{HasBucketRoom}
use Rattle.dir_states.specs.declared.openings.Opening.{Opening}
use Rattle.dir_states.specs.Openings.{OpeningHasRoom}

-- the rules of a table of these settings
abbrev pub rules_for : Settings → Hashing → Rules
rules_for settings hashing = record { items = settings.items; depth = settings.depth; hashing = hashing }

-- each opening of these settings finds room, and each row of its leaves
pub record HasRoomFor (settings : Settings) (made : Opening) (row : BucketRow) : Type 0 where
  pub of_opening : OpeningHasRoom settings.seats settings.items settings.depth made
  pub of_row : HasBucketRoom settings.seats settings.items row
