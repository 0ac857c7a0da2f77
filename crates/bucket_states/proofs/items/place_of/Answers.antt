use Rattle.bucket_states.proofs.PlaceLemmas.{placed_at}
use Rattle.bucket_states.proofs.items.place_of.Goals as goal

pub returns : goal.returns
returns c = rw c.first_place.ensures (placed_at c.args.key.now c.args.items.now)
