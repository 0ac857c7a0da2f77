use Rattle.exchange_laws.proofs.OneByOne.{looks_are_in_turn}
use Rattle.exchange_laws.proofs.laws.turn_laws.Goals as goal

pub returns : goal.returns
returns c = record { in_turn = looks_are_in_turn }
