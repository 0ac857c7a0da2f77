-- The opening has numbers of its own, which come before those of the seats.
use Rattle.std.proofs.Common.{◌^◌, ◌<◌, ◌≤◌, arith}
use Rattle.plain_map.specs.declared.full.FullKind.TheVariants.{BucketRows, BucketWords, DirRows}
use Rattle.word_rows.specs.Shape.{Shape, count_of, number_after}

-- so many bucket words
pub words_there : (shape : Shape) → 2 ^ shape.settings.depth ≤ count_of shape BucketWords
unfolding number_after
words_there shape = omega arith

-- so many bucket rows
pub rows_there : (shape : Shape) → 2 ^ shape.settings.depth ≤ count_of shape BucketRows
unfolding number_after
rows_there shape = omega arith

-- and one directory row
pub directory_there : (shape : Shape) → 0 < count_of shape DirRows
unfolding number_after
directory_there shape = omega arith
