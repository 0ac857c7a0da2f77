use Rattle.exchange_opening.proofs.FirstPairs.{Brought}
use Rattle.exchange_opening.proofs.first_pairs.bring_all.Given as goal

abbrev pub invariant-loop-place : goal.invariant-loop-place
invariant-loop-place l = Brought l.rules l.pairs l.place l.lasts l.links l.places.items
