-- So many seats have no records.
use Rattle.std.proofs.Common.{◌≡◌, [], map, replicate}
use Rattle.core_steps.proofs.openings.first_logs.Given as goal

abbrev pub invariant-loop : goal.invariant-loop
invariant-loop l = map (λ log. log.items) l.logs.items ≡ replicate l.counter []
