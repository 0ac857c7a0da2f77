use Rattle.pcapng_reader.proofs.OneStamp.{same_stamp}
use Rattle.pcapng_reader.proofs.laws.one_stamp.Goals as goal

pub returns : goal.returns
returns c = λ link bytes packets one other p q. same_stamp link bytes packets one other p q
