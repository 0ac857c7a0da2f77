-- The bytes at the named places decide the heads.
use Rattle.packet_heads.proofs.ReadingLemmas.{one_reading}
use Rattle.packet_heads.proofs.laws.one_reading.Goals as goal

pub returns : goal.returns
returns c = one_reading
