use Rattle.bucket_states.proofs.FoldLemmas.{folds}
use Rattle.bucket_states.proofs.GoodLemmas.{folds_alike}
use Rattle.bucket_states.proofs.laws.fold_laws.Goals as goal

pub returns : goal.returns
returns c = record { here = folds; alike = folds_alike }
