use Rattle.std.proofs.Common.{◌≡◌, ◌+◌, ◌*◌, ◌++◌, drop, map}
use Rattle.std.specs.Prelude.{length, vec_capacity, vec_len}
use Rattle.hash_bits.specs.declared.hashing.Hashing.{Hashing}
use Rattle.step_counts.specs.StepCounts.{bucket_row_words}
use Rattle.plain_map.specs.Rows.{HasBucketRoom}
use Rattle.word_rows.specs.LayoutView.{shape_of}
use Rattle.table_model.specs.Stores.{base_of_leaf, leaf_puts}
use Rattle.dir_states.specs.Views.{as_leaf, as_loaded}
use Rattle.seat_machine.specs.View.{setup_at}
use Rattle.seat_machine.proofs.puts.push_leaves.Given as goal

abbrev pub invariant-loop-i : goal.invariant-loop-i
invariant-loop-i l = record {
  puts : (hashing : Hashing) → l.puts.items ++ leaf_puts (setup_at l.layout hashing)
      (base_of_leaf (map as_loaded l.loaded)) (l.bucket + l.i) (l.row + l.i) (map as_leaf (drop l.i l.leaves))
      ≡ leaf_puts (setup_at l.layout hashing) (base_of_leaf (map as_loaded l.loaded)) l.bucket l.row
      (map as_leaf l.leaves);
  len : vec_len l.puts ≡ l.i * (1 + bucket_row_words (shape_of l.layout).settings);
  capacity : vec_capacity l.puts ≡ vec_capacity l.fn.puts;
  into : HasBucketRoom (shape_of l.layout).settings.seats (shape_of l.layout).settings.items l.into;
  out : length l.out ≡ length l.fn.out;
}
