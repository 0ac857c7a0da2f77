use Rattle.play_laws.proofs.Programs.{ask-same, beside, ends_or_goes, fits-same, can_take, follows}
use Rattle.play_laws.proofs.laws.program_laws.Goals as goal

pub returns-clause-asks : goal.returns-clause-asks
returns-clause-asks c = ask-same

pub returns-clause-goes : goal.returns-clause-goes
returns-clause-goes c = beside

pub returns-clause-ends : goal.returns-clause-ends
returns-clause-ends c = ends_or_goes

pub returns-clause-fits : goal.returns-clause-fits
returns-clause-fits c = fits-same

pub returns-clause-can_take : goal.returns-clause-can_take
returns-clause-can_take c = can_take

pub returns-clause-follow : goal.returns-clause-follow
returns-clause-follow c = follows
