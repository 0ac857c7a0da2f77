use Rattle.std.proofs.Common.{◌≡◌, ◌+◌, ◌++◌, drop, Some}
use Rattle.std.specs.Prelude.{vec_capacity, vec_len}
use Rattle.word_rows.specs.declared.addresses.Address.TheVariants.{DirectoryWord}
use Rattle.table_model.specs.Stores.{directory_words, row_puts}
use Rattle.dir_states.specs.Views.{as_directory}
use Rattle.seat_machine.proofs.puts.push_directory.Given as goal

abbrev pub invariant-loop-i : goal.invariant-loop-i
invariant-loop-i l = record {
  puts : l.puts.items ++ row_puts (DirectoryWord l.number) (2 + l.i) (drop l.i l.directory.entries.items)
      ≡ l.fn.puts.items
      ++ row_puts (DirectoryWord l.number) 0 (directory_words (Some l.root) (as_directory l.directory));
  len : vec_len l.puts ≡ vec_len l.fn.puts + (2 + l.i);
  capacity : vec_capacity l.puts ≡ vec_capacity l.fn.puts;
}
