use Rattle.bound_laws.proofs.Ends.{steps_are_bounded, updates_are_short, lookups_are_short, updates_end, lookups_end}
use Rattle.bound_laws.proofs.laws.step_laws.Goals as goal

pub returns : goal.returns
returns c = record {
  bounded = steps_are_bounded;
  updates_short = updates_are_short;
  lookups_short = lookups_are_short;
  updates_end = updates_end;
  lookups_end = lookups_end;
}
