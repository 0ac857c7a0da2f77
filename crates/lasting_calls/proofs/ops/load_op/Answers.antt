-- The words of an op are loaded one after the other.
use Rattle.std.proofs.Common.{◌∙◌, Some, length, refl, sym, ap}
use Rattle.plain_map.specs.declared.calls.Call.{Call}
use Rattle.table_model.specs.Goes.{more}
use Rattle.lasting_model.specs.Plans.{ample}
use Rattle.lasting_model.specs.Codes.{update_in}
use Rattle.lasting_model.specs.Goes.{found_so_far}
use Rattle.lasting_calls.specs.Going.{Going}
use Rattle.lasting_calls.specs.Updates.{making, trying, update_of}
use Rattle.lasting_calls.proofs.OpsLemmas.{op_loaded, op_reads}
use Rattle.lasting_calls.proofs.ops.load_op.Goals as goal

pub load_run-requires-clause-reads : goal.load_run-requires-clause-reads
load_run-requires-clause-reads g c =
    op_reads (g.S.Steps.now c.args.steps.now) (update_of c.args.own.now)
    (trying c.args.desk.now.settings c.args.attempt.now) c.args.found.now c.args.announced c.requires.phase
    c.args.desk.now c.requires.desk c.op-start.result c.op-start.ensures.value 7 refl

pub returns-clause-goes : goal.returns-clause-goes
returns-clause-goes g c =
    let f : Going = g.S.Steps.now c.args.steps.now in
    let u = update_of c.args.own.now in
    let attempt = trying c.args.desk.now.settings c.args.attempt.now in
    op_loaded f u attempt c.args.found.now c.args.announced c.requires.phase c.args.desk.now c.requires.desk
    c.op-start.result c.op-start.ensures.value (g.S.Steps.now c.load_run.new.steps) c.load_run.new.row
    c.load_run.ensures.len c.load_run.ensures.goes
    ∙ ap (λ (call : Call). making f u (found_so_far (ample f.plan) f.seat u attempt (more c.args.found.now
    (Some record {
      seat = length c.args.found.now;
      number = update_in c.args.announced;
      call = call;
    })))) (sym c.read_call.ensures.call)
