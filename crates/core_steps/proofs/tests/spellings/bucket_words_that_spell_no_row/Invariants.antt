-- The row keeps its room from turn to turn.
use Rattle.plain_map.specs.Rows.{HasBucketRoom}
use Rattle.core_steps.proofs.tests.spellings.bucket_words_that_spell_no_row.Given as goal

abbrev pub invariant-loop-place : goal.invariant-loop-place
invariant-loop-place g l = HasBucketRoom 1 2 l.row
