use Rattle.exchange_laws.proofs.PlacedRows.{all_rows_are_placed, few_are_held}
use Rattle.exchange_laws.proofs.laws.place_laws.Goals as goal

pub returns : goal.returns
returns c = record { placed = all_rows_are_placed; held = few_are_held }
