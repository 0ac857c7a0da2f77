use Rattle.std.proofs.Common.{◌≡◌, ◌+◌, ◌-◌}
use Rattle.dir_states.specs.Openings.{span}
use Rattle.dir_states.proofs.counts.is_crowded.Given as goal

abbrev pub invariant-loop-class : goal.invariant-loop-class
invariant-loop-class l = l.room + span l.counts l.low (l.class - l.low) ≡ l.most
