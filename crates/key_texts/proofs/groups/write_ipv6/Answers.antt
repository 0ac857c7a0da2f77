-- The words of an address, written one after another, are its text.
use Rattle.std.proofs.Common.{arith, append_assoc}
use Rattle.std.proofs.lemmas.Grind.{common_steps}
use Rattle.key_texts.specs.FlowText.{ipv6_text}
use Rattle.key_texts.proofs.groups.write_ipv6.Goals as goal

pub returns-clause-text : goal.returns-clause-text
unfolding ipv6_text
returns-clause-text c = grind (arith, common_steps, append_assoc)
