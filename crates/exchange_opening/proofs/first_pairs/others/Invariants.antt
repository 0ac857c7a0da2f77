use Rattle.std.proofs.Common.{ℕ, ◌+◌, ◌≤◌, List, length}
use Rattle.exchange_opening.specs.Chains.{IsChain}
use Rattle.exchange_opening.proofs.Chains.{IsLeft}
use Rattle.exchange_opening.proofs.first_pairs.others.Given as goal

abbrev pub invariant-loop-link : goal.invariant-loop-link
invariant-loop-link l = record {
  left : (places : List ℕ) → IsChain l.links (length l.pairs) l.last places →
      IsLeft l.pairs l.links l.key places l.link l.many;
  inside : l.link ≤ length l.pairs;
  falls : l.many + l.link ≤ l.last;
}

abbrev pub decreases-loop-link : goal.decreases-loop-link
decreases-loop-link l = l.link
