-- The hold word, and a row where it asks.
use Rattle.exchange_calls.proofs.ScanLemmas.{not_asked, now_asked}
use Rattle.exchange_calls.proofs.scans.settle.Goals as goal

pub returns-then-word-eq1 : goal.returns-then-word-eq1
returns-then-word-eq1 g c a =
    c.give.ensures
    (now_asked (g.S.Steps.now c.args.steps.now) c.args.holder a (g.S.Steps.now c.load-word.new.self) c.load-word.result
    c.load-word.ensures.goes c.if-word-eq1.true)

pub returns-else-word-eq1 : goal.returns-else-word-eq1
returns-else-word-eq1 g c a =
    not_asked (g.S.Steps.now c.args.steps.now) c.args.holder a (g.S.Steps.now c.load-word.new.self) c.load-word.result
    c.load-word.ensures.goes c.if-word-eq1.false
