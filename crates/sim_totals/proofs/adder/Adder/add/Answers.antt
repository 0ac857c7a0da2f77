-- The answer is of the add that was asked.
use Rattle.sim_totals.proofs.About.{added_about}
use Rattle.sim_totals.proofs.adder.Adder.add.Goals as goal

pub returns-clause-about : goal.returns-clause-about
returns-clause-about c =
    added_about _ _ c.args.add.now _ _ c.run_add.result c.self.invariant.rests.idle c.run_add.ensures.added
