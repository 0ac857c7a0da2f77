use Rattle.std.proofs.Common.{◌≡◌, All, vec_len, vec_capacity}
use Rattle.bucket_states.specs.States.{HasRoom}
use Rattle.dir_states.proofs.changes.Change.with_items.Given as goal

abbrev pub invariant-loop : goal.invariant-loop
invariant-loop l = record {
  each : All (λ leaf. HasRoom l.settings.seats l.items leaf.bucket) l.spare.items;
  len : vec_len l.spare ≡ l.counter;
  room : vec_capacity l.spare ≡ l.most;
}
