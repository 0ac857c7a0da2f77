use Rattle.shared_table.proofs.running.RunningSteps.store.Given as goal

abbrev pub ghosts-store : goal.ghosts-store
ghosts-store g a = record { asked = g.B.Asked.asked; late = a._late }
