use Rattle.shared_table.proofs.running.RunningSteps.exchange.Given as goal

abbrev pub ghosts-exchange : goal.ghosts-exchange
ghosts-exchange g a = record { asked = g.B.Asked.asked; late = a._late }
