use Rattle.sim_steps.proofs.laws.words.Goals as goal
use Rattle.sim_steps.proofs.LawProofs.{are_placed, asks_within}
use Rattle.sim_steps.proofs.Sizes.{are_words}

pub returns : goal.returns
returns c = record { places = are_placed; words = are_words; within = asks_within }
