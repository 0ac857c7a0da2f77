use Rattle.std.proofs.Common.{◌≡◌, map, take}
use Rattle.totals_runner.specs.Batch.{id_in}
use Rattle.totals_runner.proofs.lines.ids_of.Given as goal

abbrev pub invariant-loop-entry : goal.invariant-loop-entry
invariant-loop-entry l = l.ids.items ≡ map (id_in (map (λ log. log.items) l.logs)) (take l.entry-index l.order)
