use Rattle.std.proofs.Common.{◌∙◌}
use Rattle.edge_traits.proofs.EdgeLemmas.{on_err}
use Rattle.batch_runner.proofs.text.outcomes_text.Goals as goal

pub returns-in_err-outcome_text-clause-begun : goal.returns-in_err-outcome_text-clause-begun
returns-in_err-outcome_text-clause-begun c =
    on_err c.from_residual.result (_, c.in_err-outcome_text.ensures.kept ∙ c.loop-seat.invariant)
