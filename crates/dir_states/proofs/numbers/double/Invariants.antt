use Rattle.std.proofs.Common.{◌≡◌, ◌-◌, ◌^◌, ◌/◌, vec_len, vec_capacity}
use Rattle.std.specs.Prelude.{slice_index}
use Rattle.word_rows.specs.Blocks.{first_values}
use Rattle.dir_states.proofs.numbers.double.Given as goal

abbrev pub invariant-loop-place : goal.invariant-loop-place
invariant-loop-place l = record {
  depth : l.state.depth ≡ l.depth;
  entries : l.state.entries.items
      ≡ first_values (λ place. slice_index l.directory.entries.items (place / 2 ^ (l.depth - l.directory.depth)))
      l.place;
  len : vec_len l.state.entries ≡ l.place;
  room : vec_capacity l.state.entries ≡ vec_capacity l.fn.state.entries;
}
