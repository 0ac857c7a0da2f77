-- A table that opens without pairs has a plan where it is deep enough and has rows enough.
use Rattle.std.proofs.Common.{◌≡◌, ◌^◌, ◌≤◌, List, [], ◌∷◌, ◌++◌, length, ap, arith}
use Rattle.std.proofs.lemmas.List.{length-append}
use Rattle.plain_map.specs.declared.keys.Pair.{Pair}
use Rattle.std.proofs.lemmas.List.Elements.{All-nil}
use Rattle.std.specs.List.{IsDistinct}
use Rattle.bucket_states.specs.Parts.{HasDistinctKeys}
use Rattle.table_model.specs.Setup.{IsPair}
use Rattle.lasting_model.specs.Plans.{IsPlan, least_rows}
use Rattle.lasting_table.specs.declared.rule.Opening.{Opening}
use Rattle.lasting_table.specs.Rule.{plain}

none_twice : HasDistinctKeys []
unfolding IsDistinct
none_twice = tt

pub is_plan : (o : Opening) → o.settings.start ≡ o.settings.depth → least_rows o.settings ≤ o.rows → o.rows ≤ 2 ^ 14 →
    IsPlan (plain o)
is_plan o deep rows few = record {
  deep = deep;
  rows = rows;
  few = few;
  pairs = All-nil IsPair;
  distinct = none_twice;
  room = λ front back pair e. absurd (no_pair front back pair e);
}
  where
    no_pair : (front back : List Pair) (pair : Pair) → [] ≡ front ++ pair ∷ back → ⊥
    no_pair front back pair e =
        (let l = length-append front (pair ∷ back) in
        let m : 0 ≡ length (front ++ pair ∷ back) = ap (λ (ps : List Pair). length ps) e in omega (arith, l, m))
