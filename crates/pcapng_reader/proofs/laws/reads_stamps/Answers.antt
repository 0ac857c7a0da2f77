use Rattle.pcapng_reader.proofs.ReadFacts.{read_stamp}
use Rattle.pcapng_reader.proofs.laws.reads_stamps.Goals as goal

pub returns : goal.returns
returns c = λ link bytes old new taken left packets read gives.
    read_stamp link bytes old new taken left packets read gives
