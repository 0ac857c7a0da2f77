use Rattle.std.proofs.Common.{◌≡◌, take, vec_capacity}
use Rattle.dir_states.proofs.directory.refill.Given as goal

abbrev pub invariant-loop-entry : goal.invariant-loop-entry
invariant-loop-entry l = record {
  items : l.into.items ≡ take l.entry-index l.entries;
  room : vec_capacity l.into ≡ vec_capacity l.fn.into;
}
