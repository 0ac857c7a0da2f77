-- What a call brings, and which calls packets may make.
use Rattle.std.specs.Prelude.{◌≡◌, ℕ}
use Rattle.plain_map.specs.declared.calls.Call.{Call}
use Rattle.plain_map.specs.declared.calls.Call.TheVariants.{Insert, Remove, Lookup, Tally, Count, Put}
use Rattle.key_texts.specs.declared.rules.CallRule.{CallRule}
use Rattle.key_texts.specs.declared.rules.CallRule.TheVariants.{Sessions, Flows}

-- a call brings no other value than this
abbrev pub InsertsOnly : ℕ → Call → Type 0
InsertsOnly expected (Insert key value) = value ≡ expected
InsertsOnly expected (Remove key) = Unit {0}
InsertsOnly expected (Lookup key) = Unit {0}
InsertsOnly expected (Tally key amount) = Unit {0}
InsertsOnly expected (Count key value amount) = value ≡ expected
InsertsOnly expected (Put key value) = value ≡ expected

-- a call that packets make by the rule: by the one a count and nothing else, by the other none; by no rule a put
abbrev pub IsOfRule : CallRule → Call → Type 0
IsOfRule Sessions (Insert key value) = Unit {0}
IsOfRule Sessions (Remove key) = Unit {0}
IsOfRule Sessions (Lookup key) = Unit {0}
IsOfRule Sessions (Tally key amount) = Unit {0}
IsOfRule Sessions (Count key value amount) = ⊥
IsOfRule Sessions (Put key value) = ⊥
IsOfRule Flows (Insert key value) = ⊥
IsOfRule Flows (Remove key) = ⊥
IsOfRule Flows (Lookup key) = ⊥
IsOfRule Flows (Tally key amount) = ⊥
IsOfRule Flows (Count key value amount) = Unit {0}
IsOfRule Flows (Put key value) = ⊥
