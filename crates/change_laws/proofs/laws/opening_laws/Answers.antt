use Rattle.change_laws.proofs.Openings.{opening_is_right, opening_of_none, opening_depth_is_of_one}
use Rattle.change_laws.proofs.laws.opening_laws.Goals as goal

pub returns : goal.returns
returns c = record { right = opening_is_right; none = opening_of_none; depth = opening_depth_is_of_one }
