use Rattle.std.proofs.Common.{◌≡◌, ◌*◌, length, take}
use Rattle.step_counts.specs.declared.TheConstants.{ITEM_WORDS}
use Rattle.word_rows.specs.Blocks.{blocks}
use Rattle.word_rows.specs.BucketWords.{item_place}
use Rattle.word_rows.proofs.bucket_parts.write_items.Given as goal

abbrev pub invariant-loop-i : goal.invariant-loop-i
invariant-loop-i l = record {
  long : length l.out ≡ length l.initial.out;
  written : take (l.i * ITEM_WORDS) l.out ≡ blocks (item_place l.items) l.i;
}
