use Rattle.helping_laws.proofs.Rows.{rows_are_good, directories_are_right, frozen_is_last}
use Rattle.helping_laws.proofs.Climbs.{numbers_never_fall}
use Rattle.helping_laws.proofs.Changeable.{fixed_depth_never_freezes}
use Rattle.helping_laws.proofs.Loaded.{loaded_rows_are_of_line}
use Rattle.helping_laws.proofs.laws.published_row_laws.Goals as goal

pub returns : goal.returns
returns c = record {
  good = rows_are_good;
  right = directories_are_right;
  frozen_last = frozen_is_last;
  numbers = numbers_never_fall;
  loaded = loaded_rows_are_of_line;
  fixed_depth = fixed_depth_never_freezes;
}
