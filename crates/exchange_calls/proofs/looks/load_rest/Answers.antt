-- An item's words are loaded one after the other.
use Rattle.exchange_calls.proofs.LookLemmas.{item_loaded, item_reads, item_reads_on}
use Rattle.exchange_calls.proofs.looks.load_rest.Goals as goal

pub load_run-requires-clause-reads : goal.load_run-requires-clause-reads
load_run-requires-clause-reads g c =
    item_reads (g.S.Steps.now c.args.steps.now) c.args.at c.args.word c.requires.item

pub load_run-requires-2-clause-reads : goal.load_run-requires-2-clause-reads
load_run-requires-2-clause-reads g c =
    item_reads_on (g.S.Steps.now c.args.steps.now) c.args.at c.args.word c.requires.item c.load_run.new.row
    c.load_run.ensures.len (g.S.Steps.now c.load_run.new.steps) c.load_run.ensures.goes

pub returns : goal.returns
returns g c item =
    item_loaded (g.S.Steps.now c.args.steps.now) c.args.at c.args.word item c.load_run.new.row
    c.load_run.ensures.len (g.S.Steps.now c.load_run.new.steps) c.load_run.ensures.goes
    (g.S.Steps.now c.load_run-2.new.steps) c.load_run-2.new.row c.load_run-2.ensures.len c.load_run-2.ensures.goes
