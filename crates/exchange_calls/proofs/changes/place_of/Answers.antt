use Rattle.bucket_states.proofs.PlaceLemmas.{placed_at}
use Rattle.exchange_calls.proofs.changes.place_of.Goals as goal

pub returns : goal.returns
returns c = rw c.first_place.ensures (placed_at c.args.key.now c.args.items.now)
