use Rattle.helping_laws.proofs.Helping.{later_bucket_tries_know, later_rows_have, later_directory_tries_know, later_replacements_carry, later_directory_tries_see_frozen, later_changes_replace}
use Rattle.helping_laws.proofs.laws.help_laws.Goals as goal

pub returns : goal.returns
returns c = record {
  tries = later_bucket_tries_know;
  rows = later_rows_have;
  directory_tries = later_directory_tries_know;
  carried = later_replacements_carry;
  seen = later_directory_tries_see_frozen;
  replaced = later_changes_replace;
}
