use Rattle.exchange_turns.proofs.Turns.{classes_have_turns}
use Rattle.exchange_turns.proofs.laws.class_order_laws.Goals as goal

pub returns : goal.returns
returns c = classes_have_turns
