use Rattle.report_reading.proofs.ReadingLemmas.{at_head, bad_head}
use Rattle.report_reading.proofs.reading.read.Goals as goal

pub returns-in-Some : goal.returns-in-Some
returns-in-Some c =
    (let at = at_head c.args.text.now c.in-Some.head c.in-Some.rest.now c.in-Some.ensures in
    c.behind_head.ensures c.args.text.now at.0 at.1 c.requires)

pub returns-in-None : goal.returns-in-None
returns-in-None c = bad_head c.args.text.now c.in-None.ensures
