use Rattle.std.proofs.Common.{◌≡◌, take}
use Rattle.bucket_states.specs.Parts.{keys_of}
use Rattle.batch_rows.proofs.keys.first_keys.Given as goal

abbrev pub invariant-loop-pair : goal.invariant-loop-pair
invariant-loop-pair l = l.keys.items ≡ keys_of (take l.pair-index l.first)
