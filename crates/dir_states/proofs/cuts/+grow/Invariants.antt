use Rattle.dir_states.proofs.cuts.+grow.Given as goal

abbrev pub decreases-grow : goal.decreases-grow
decreases-grow l = l.more
