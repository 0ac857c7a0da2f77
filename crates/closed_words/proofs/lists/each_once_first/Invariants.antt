use Rattle.closed_words.proofs.MarkLemmas.{Kept}
use Rattle.closed_words.proofs.lists.each_once_first.Given as goal

abbrev pub invariant-loop-number : goal.invariant-loop-number
invariant-loop-number l = Kept l.numbers l.once.items l.met.items l.number-index
