-- Where the pairs that are held come from.
use Rattle.std.specs.Prelude.{List, map, All, Contains}
use Rattle.std.specs.FinMap.{empty}
use Rattle.plain_map.specs.declared.rules.Rules.{Rules}
use Rattle.plain_map.specs.Calls.{key_in}
use Rattle.plain_map.specs.PlainObject.{pairs_of}
use Rattle.map_laws.specs.ByKey.{Made, after_made}

-- each pair that these calls leave has the key of one of them
abbrev pub PairsAreAsked : Type 0
PairsAreAsked =
    (rules : Rules) (made : List Made) →
    All (λ pair. Contains (map (λ one. key_in one.0) made) pair.key) (pairs_of (after_made rules empty made))
