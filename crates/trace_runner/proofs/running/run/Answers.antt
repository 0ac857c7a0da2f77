-- The words decide what is done, and a plan does it.
use Rattle.mode_parts.specs.Edges.{edges}
use Rattle.trace_runner.proofs.DoesLemmas.{does_nothing}
use Rattle.trace_runner.proofs.TrialWords.{no_rows}
use Rattle.trace_runner.proofs.running.run.Goals as goal

pub run_plan-requires-clause-trial : goal.run_plan-requires-clause-trial
run_plan-requires-clause-trial g c κs within = λ tries. no_rows _ c.in-Ok.plan c.in-Ok.ensures.answers tries

pub returns-in-Err-Memory-clause-does : goal.returns-in-Err-Memory-clause-does
returns-in-Err-Memory-clause-does g c =
    does_nothing _ (edges g.S.Source g.K.Sink c.args.source.now c.args.sink.now c.args.beyond.now)
