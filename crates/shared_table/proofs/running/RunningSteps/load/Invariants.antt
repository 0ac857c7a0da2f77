use Rattle.shared_table.proofs.running.RunningSteps.load.Given as goal

abbrev pub ghosts-load : goal.ghosts-load
ghosts-load g a = record { asked = g.B.Asked.asked; late = a._late }
