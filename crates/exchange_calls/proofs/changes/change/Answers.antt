-- A remove and a tally go by no rules.
use Rattle.exchange_calls.proofs.changes.change.Goals as goal

pub returns-in-Remove-clause-answer : goal.returns-in-Remove-clause-answer
returns-in-Remove-clause-answer c =
    rw c.in-Remove.is (c.remove.ensures.answer c.args.rules.now c.args.rules.now.depth)

pub returns-in-Tally-clause-answer : goal.returns-in-Tally-clause-answer
returns-in-Tally-clause-answer c =
    rw c.in-Tally.is (c.tally.ensures.answer c.args.rules.now c.args.rules.now.depth)
