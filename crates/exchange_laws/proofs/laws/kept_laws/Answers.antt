use Rattle.exchange_laws.proofs.KeptRows.{rows_are_kept, rows_are_of_buckets}
use Rattle.exchange_laws.proofs.laws.kept_laws.Goals as goal

pub returns : goal.returns
returns c = record { kept = rows_are_kept; of_buckets = rows_are_of_buckets }
