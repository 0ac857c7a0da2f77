use Rattle.change_laws.proofs.Parts.{parts_hold_all}
use Rattle.change_laws.proofs.Folds.{leaves_fold, splits_have_causes}
use Rattle.change_laws.proofs.laws.change_fold_laws.Goals as goal

pub returns : goal.returns
returns c = record { parts = parts_hold_all; folds = leaves_fold; causes = splits_have_causes }
