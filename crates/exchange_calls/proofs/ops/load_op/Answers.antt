-- The words of an op are loaded one after the other.
use Rattle.std.proofs.Common.{◌∙◌, sym, ap}
use Rattle.plain_map.specs.declared.calls.Call.{Call}
use Rattle.exchange_model.specs.Plans.{more}
use Rattle.exchange_model.specs.Codes.{number_in}
use Rattle.exchange_model.specs.Steps.{Takes}
use Rattle.exchange_model.specs.Goes.{found_so_far}
use Rattle.exchange_calls.specs.Going.{Going}
use Rattle.exchange_calls.specs.Hands.{making}
use Rattle.exchange_calls.proofs.OpsLemmas.{op_loaded, op_reads}
use Rattle.exchange_calls.proofs.ops.load_op.Goals as goal

pub load_run-requires-clause-reads : goal.load_run-requires-clause-reads
load_run-requires-clause-reads g c =
    let l = c.requires.loading in
    op_reads (g.S.Steps.now c.args.steps.now) c.args.own.now.call l.attempt l.found l.announced l.stand
    c.args.desk.now c.requires.desk c.args.seat c.op-start.result l.many c.op-start.ensures.value

pub returns-clause-goes : goal.returns-clause-goes
returns-clause-goes g c l =
    let f : Going = g.S.Steps.now c.args.steps.now in
    let call : Call = c.args.own.now.call in
    op_loaded f call l.attempt l.found l.announced l.stand c.args.desk.now c.requires.desk c.args.seat
    c.op-start.result l.many c.op-start.ensures.value (g.S.Steps.now c.load_run.new.steps) c.load_run.new.row
    c.load_run.ensures.len c.load_run.ensures.goes
    ∙ ap (λ (op : Call). making f call (found_so_far f.plan f.seat f.now call l.attempt
    (more l.found (Takes (record { number = number_in l.announced; call = op }))))) (sym c.read_call.ensures.call)
