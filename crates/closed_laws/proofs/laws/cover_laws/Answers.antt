use Rattle.closed_laws.proofs.Covers.{leaves_cover}
use Rattle.closed_laws.proofs.laws.cover_laws.Goals as goal

pub returns : goal.returns
returns c = record { cover = leaves_cover }
