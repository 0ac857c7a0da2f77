use Rattle.std.proofs.Common.{◌≡◌, ◌+◌, ◌++◌, drop}
use Rattle.std.specs.Prelude.{vec_capacity, vec_len}
use Rattle.word_rows.specs.declared.addresses.Address.TheVariants.{BucketRowWord}
use Rattle.table_model.specs.Stores.{row_puts}
use Rattle.seat_machine.proofs.puts.push_row.Given as goal

abbrev pub invariant-loop-i : goal.invariant-loop-i
invariant-loop-i l = record {
  puts : l.puts.items ++ row_puts (BucketRowWord l.row) l.i (drop l.i l.words)
      ≡ l.fn.puts.items ++ row_puts (BucketRowWord l.row) 0 l.words;
  len : vec_len l.puts ≡ vec_len l.fn.puts + l.i;
  capacity : vec_capacity l.puts ≡ vec_capacity l.fn.puts;
}
