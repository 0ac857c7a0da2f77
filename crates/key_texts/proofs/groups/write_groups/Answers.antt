-- The groups of a word, written one after another, are its text.
use Rattle.std.proofs.Common.{arith, append_assoc}
use Rattle.std.proofs.lemmas.Grind.{common_steps}
use Rattle.key_texts.specs.FlowText.{groups_text}
use Rattle.key_texts.proofs.groups.write_groups.Goals as goal

pub returns-clause-text : goal.returns-clause-text
unfolding groups_text
returns-clause-text c = grind (arith, common_steps, append_assoc)
