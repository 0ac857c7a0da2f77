use Rattle.dir_states.proofs.leaves.+split_for.Given as goal

abbrev pub decreases-split_for : goal.decreases-split_for
decreases-split_for l = l.most
