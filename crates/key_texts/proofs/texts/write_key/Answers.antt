-- The endpoints and the protocol, written one after another, are the text of the key.
use Rattle.std.proofs.Common.{arith, append_assoc}
use Rattle.std.proofs.lemmas.Grind.{common_steps}
use Rattle.key_texts.specs.FlowText.{flow_text}
use Rattle.key_texts.proofs.texts.write_key.Goals as goal

pub returns-clause-text : goal.returns-clause-text
unfolding flow_text
returns-clause-text c = grind (arith, common_steps, append_assoc)
