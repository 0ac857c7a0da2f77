use Rattle.pcapng_reader.proofs.ReadFacts.{read_to_end}
use Rattle.pcapng_reader.proofs.laws.reads_input.Goals as goal

pub returns : goal.returns
returns c = λ link start last ended head middle rest packets ending opened at_start gives meets.
    read_to_end link start last ended head middle rest packets ending opened at_start gives meets
