-- Two ops are announced, and both are updates.
use Rattle.std.proofs.Common.{◌≡◌, ℕ, zero, suc, ◌<◌, [], ◌∷◌, Option, Some, None, subst}
use Rattle.std.specs.Prelude.{slice_index_or}
use Rattle.plain_map.specs.Updates.{IsUpdate, number_limit}
use Rattle.bucket_states.specs.declared.ops.Op.{Op}
use Rattle.core_steps.proofs.tests.buckets.takes.Goals as goal

-- an update, with a number
abbrev Small : Op → Type 0
Small op = IsUpdate op.call × (op.number < number_limit)

module _ (one other : Op) (is : Small one) (too : Small other) where
  abbrev some : Option Op → Type 0
  some (Some op) = Small op
  some None = Unit {0}

  updates : (seat : ℕ) (op : Op) → slice_index_or (Some one ∷ Some other ∷ []) seat None ≡ Some op → Small op
  updates zero op e = subst some e is
  updates (suc zero) op e = subst some e too
  updates (suc (suc seat)) op e = subst some e tt

pub change_row-requires-clause-updates : goal.change_row-requires-clause-updates
change_row-requires-clause-updates g c =
    updates c.args.one c.args.other c.requires.one c.requires.other
