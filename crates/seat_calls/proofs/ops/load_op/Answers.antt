use Rattle.std.proofs.Common.{◌∙◌, refl, sym, ap, subst, arith, Some}
use Rattle.step_counts.specs.declared.TheConstants.{OP_WORDS}
use Rattle.bucket_states.specs.declared.ops.Op.{Op}
use Rattle.table_model.specs.Goes.{more}
use Rattle.table_model.specs.Fits.{IsOpSoFar, Makes}
use Rattle.seat_calls.specs.Going.{Going, later}
use Rattle.seat_calls.specs.Tries.{after_ops}
use Rattle.seat_calls.proofs.RunLemmas.{row_goes, row_last, row_reads}
use Rattle.seat_calls.proofs.OpsLemmas.{op_finds, op_leads, op_makes}
use Rattle.seat_calls.proofs.ops.load_op.Goals as goal

pub load_run-requires-clause-reads : goal.load_run-requires-clause-reads
load_run-requires-clause-reads g c =
    let f : Going = g.S.Steps.now c.args.steps.now in
    let round = g.A.Trying.round c.args.attempt.now in
    let attempt = g.A.Trying.attempt c.args.attempt.now f.setup in
    row_reads f _ _ _ _ (op_leads f round attempt c.args.found.now c.args.op c.args.start c.requires.start) _
    c.requires.phase refl _ refl

pub read_found-requires-clause-spelled : goal.read_found-requires-clause-spelled
read_found-requires-clause-spelled g c =
    let f : Going = g.S.Steps.now c.args.steps.now in
    let round = g.A.Trying.round c.args.attempt.now in
    let attempt = g.A.Trying.attempt c.args.attempt.now f.setup in
    let found = c.args.found.now in
    let last = row_last f _ _ _ _ (op_leads f round attempt found c.args.op c.args.start c.requires.start) _
    c.requires.phase refl
    c.load_run.new.row c.load_run.ensures.len (omega arith) c.load_run.ensures.fits in
    subst IsOpSoFar (sym last.cut) (op_finds f round attempt found c.args.op last.front last.word last.fits.finds)

pub returns-clause-goes : goal.returns-clause-goes
returns-clause-goes g c =
    let f : Going = g.S.Steps.now c.args.steps.now in
    let round = g.A.Trying.round c.args.attempt.now in
    let attempt = g.A.Trying.attempt c.args.attempt.now f.setup in
    let found = c.args.found.now in
    c.load_run.ensures.goes
    ∙ row_goes f _ _ _ _ (op_leads f round attempt found c.args.op c.args.start c.requires.start) _ c.requires.phase
    refl c.load_run.new.row c.load_run.ensures.len
    ∙ ap (λ (o : Op). later f OP_WORDS (after_ops f.setup round attempt (more found (Some o))))
    (sym c.read_found.ensures.is)

pub returns-clause-makes : goal.returns-clause-makes
returns-clause-makes g c =
    let f : Going = g.S.Steps.now c.args.steps.now in
    let round = g.A.Trying.round c.args.attempt.now in
    let attempt = g.A.Trying.attempt c.args.attempt.now f.setup in
    let found = c.args.found.now in
    let last = row_last f _ _ _ _ (op_leads f round attempt found c.args.op c.args.start c.requires.start) _
    c.requires.phase refl
    c.load_run.new.row c.load_run.ensures.len (omega arith) c.load_run.ensures.fits in
    subst (λ (o : Op). Makes f.setup (after_ops f.setup round attempt (more found (Some o))))
    (sym c.read_found.ensures.is)
    (op_makes f round attempt found c.args.op c.load_run.new.row c.load_run.ensures.len last)
