use Rattle.closed_laws.proofs.OnceLists.{each_is_listed_once}
use Rattle.closed_laws.proofs.laws.listed_once.Goals as goal

pub returns : goal.returns
returns c = record { each_once = each_is_listed_once }
