use Rattle.play_laws.proofs.Ends.{plays_are_runs, plays_end}
use Rattle.play_laws.proofs.laws.schedule_laws.Goals as goal

pub returns-clause-runs : goal.returns-clause-runs
returns-clause-runs c = plays_are_runs

pub returns-clause-end : goal.returns-clause-end
returns-clause-end c = plays_end
