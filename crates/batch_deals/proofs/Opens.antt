-- The first batch begins with no pair.
use Rattle.std.proofs.Common.{[], length, length-append, ap, arith, ◌∷◌}
use Rattle.std.proofs.lemmas.List.Elements.{All-nil}
use Rattle.plain_map.specs.declared.rules.Rules.{Rules}
use Rattle.std.specs.List.{IsDistinct}
use Rattle.table_model.specs.Setup.{IsPair}
use Rattle.batch_deals.specs.Opens.{CanOpen}

pub opens_nothing : (rules : Rules) → CanOpen rules []
unfolding IsDistinct
opens_nothing rules = record {
  pairs = All-nil IsPair;
  distinct = tt;
  room = λ front back pair e. absurd (omega (arith, ap length e, length-append front (pair ∷ back)));
}
