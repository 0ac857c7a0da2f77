use Rattle.sim_totals.proofs.adder.Adder.add.Given as goal

abbrev pub ghosts-run_add : goal.ghosts-run_add
ghosts-run_add a = record { add = a.add }
