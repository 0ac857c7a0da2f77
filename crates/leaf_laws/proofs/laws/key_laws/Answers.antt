use Rattle.leaf_laws.proofs.Crowds.{splits_are_by_keys}
use Rattle.leaf_laws.proofs.Suffice.{rows_by_keys_suffice}
use Rattle.leaf_laws.proofs.laws.key_laws.Goals as goal

pub returns : goal.returns
returns c = record { splits = splits_are_by_keys; suffice = rows_by_keys_suffice }
