use Rattle.std.proofs.Common.{◌≡◌, ℕ, ◌+◌, ◌<◌, false, get_or}
use Rattle.plain_map.specs.declared.keys.Pair.{Pair}
use Rattle.bucket_states.specs.Items.{same_key}
use Rattle.flowdir_c.proofs.opening.are_apart.Given as goal

-- no two neighbours so far have one key
abbrev pub invariant-loop-i : goal.invariant-loop-i
invariant-loop-i l = (k : ℕ) (d : Pair) → k + 1 < l.i →
    same_key (get_or l.pairs k d).key (get_or l.pairs (k + 1) d).key ≡ false
