-- Three pairs whose keys differ.
use Rattle.std.proofs.Common.{◌≡◌, false, ◌∷◌, []}
use Rattle.std.specs.List.{IsDistinct}
use Rattle.plain_map.specs.declared.keys.Pair.{Pair}
use Rattle.bucket_states.specs.Items.{same_key}
use Rattle.bucket_states.specs.Parts.{HasDistinctKeys}

-- no key of three pairs stands twice, where each two differ
pub three_distinct : (first second third : Pair) → same_key first.key second.key ≡ false →
    same_key first.key third.key ≡ false
    → same_key second.key third.key ≡ false → HasDistinctKeys (first ∷ second ∷ third ∷ [])
unfolding IsDistinct
three_distinct first second third low far high = ((low, (far, tt)), ((high, tt), (tt, tt)))
