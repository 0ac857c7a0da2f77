-- The head line is held, and nothing was put.
use Rattle.std.proofs.Common.{false, sym, ℕ, ◌++◌, ◌<◌, ◌^◌, ap, subst, ◌∙◌}
use Rattle.report_text.specs.declared.parts.Head.{Head}
use Rattle.report_told.specs.Rules.{IsBatch, seed_in}
use Rattle.report_text.specs.Report.{head_line}
use Rattle.capture_loop.proofs.LeavesLemmas.{Keeps-same}
use Rattle.packet_heads.specs.Links.{number_in}
use Rattle.capture_loop.specs.Input.{StopsAt, packet_limit}
use Rattle.capture_loop.specs.declared.portions.Portions.{Portions}
use Rattle.capture_loop.specs.Leaves.{EndsBy, LoopLeavesBy, Marks}
use Rattle.mode_parts.proofs.ExactLemmas.{MarksFor-end}
use Rattle.serve_modes.specs.Serving.{IsLines, IsWholeReport}
use Rattle.serve_modes.proofs.GoodSettings.{batch_told}
use Rattle.serve_modes.proofs.HeadlineLemmas.{leaves_all, leaves_none}
use Rattle.serve_modes.proofs.serving.serve_input.Goals as goal

pub head_fits-requires-clause-batch : goal.head_fits-requires-clause-batch
head_fits-requires-clause-batch g c =
    subst (λ (head : Head). IsBatch head.play head.batch) (sym c.head_of-head.ensures)
    (batch_told false c.args.plan.now c.requires.range.batch)

pub returns-clause-leaves : goal.returns-clause-leaves
returns-clause-leaves g c =
    leaves_all c.serving_laws.ensures c.args.plan.now c.requires.range.batch
    (EndsBy (g.S.Source.failed c.args.source.now) (g.S.Source.failed c.run_job-answer.new.source))
    (g.S.Source.left c.args.source.now) (g.S.Source.left c.run_job-answer.new.source) (g.K.Sink.put c.args.sink.now)
    (g.K.Sink.put c.run_job-answer.new.sink) c.promise_laws.ensures
    (subst (λ (head : Head). seed_in head.hashing < 2 ^ 64) c.head_of-head.ensures c.head_fits.ensures.seed)
    c.run_job-answer.result c.answer_fits.ensures
    (subst (λ (portions : Portions). LoopLeavesBy portions (IsLines c.args.plan.now) (IsWholeReport c.args.plan.now)
    (EndsBy (g.S.Source.failed c.args.source.now) (g.S.Source.failed c.run_job-answer.new.source))
    (number_in c.args.plan.now.framing.link) (g.S.Source.left c.args.source.now)
    (g.S.Source.left c.run_job-answer.new.source) (g.K.Sink.put c.args.sink.now)
    (g.K.Sink.put c.run_job-answer.new.sink) c.run_job-answer.result) c.requires.batch
    (subst (λ (link : ℕ). LoopLeavesBy c.args.means.now.portions (IsLines c.args.plan.now)
    (IsWholeReport c.args.plan.now)
    (EndsBy (g.S.Source.failed c.args.source.now) (g.S.Source.failed c.run_job-answer.new.source)) link
    (g.S.Source.left c.args.source.now) (g.S.Source.left c.run_job-answer.new.source) (g.K.Sink.put c.args.sink.now)
    (g.K.Sink.put c.run_job-answer.new.sink) c.run_job-answer.result) c.number.ensures
    (c.run_job-answer.ensures.leaves c.args.plan.now
    (c.in_ok-serving.ensures.done c.args.plan.now c.head_text.new.out.items c.service_of-service.ensures.asks
    c.calling_of-calling.ensures
    (c.in_ok-head_text.ensures.appended
    ∙ ap (λ t. t ++ head_line c.head_of-head.result) c.in_ok-text.ensures.items ∙ ap head_line
    c.head_of-head.ensures)))))

pub returns-in_err-text-clause-leaves : goal.returns-in_err-text-clause-leaves
returns-in_err-text-clause-leaves g c =
    leaves_none c.args.plan.now (EndsBy (g.S.Source.failed c.args.source.now) (g.S.Source.failed c.args.source.now))
    (g.S.Source.left c.args.source.now) (g.S.Source.left c.args.source.now) (g.K.Sink.put c.args.sink.now)
    (g.K.Sink.put c.args.sink.now) c.from_residual.result c.from_residual.ensures
    (Keeps-same (g.K.Sink.put c.args.sink.now))

pub returns-in_err-head_text-clause-leaves : goal.returns-in_err-head_text-clause-leaves
returns-in_err-head_text-clause-leaves g c =
    leaves_none c.args.plan.now (EndsBy (g.S.Source.failed c.args.source.now) (g.S.Source.failed c.args.source.now))
    (g.S.Source.left c.args.source.now) (g.S.Source.left c.args.source.now) (g.K.Sink.put c.args.sink.now)
    (g.K.Sink.put c.args.sink.now) c.from_residual-in_err-head_text.result c.from_residual-in_err-head_text.ensures
    (Keeps-same (g.K.Sink.put c.args.sink.now))

pub returns-in_err-with_room-clause-leaves : goal.returns-in_err-with_room-clause-leaves
returns-in_err-with_room-clause-leaves g c =
    leaves_none c.args.plan.now (EndsBy (g.S.Source.failed c.args.source.now) (g.S.Source.failed c.args.source.now))
    (g.S.Source.left c.args.source.now) (g.S.Source.left c.args.source.now) (g.K.Sink.put c.args.sink.now)
    (g.K.Sink.put c.args.sink.now) c.from_residual-in_err-with_room.result c.from_residual-in_err-with_room.ensures
    (Keeps-same (g.K.Sink.put c.args.sink.now))

pub returns-in_err-with_room-2-clause-leaves : goal.returns-in_err-with_room-2-clause-leaves
returns-in_err-with_room-2-clause-leaves g c =
    leaves_none c.args.plan.now (EndsBy (g.S.Source.failed c.args.source.now) (g.S.Source.failed c.args.source.now))
    (g.S.Source.left c.args.source.now) (g.S.Source.left c.args.source.now) (g.K.Sink.put c.args.sink.now)
    (g.K.Sink.put c.args.sink.now) c.from_residual-in_err-with_room-2.result c.from_residual-in_err-with_room-2.ensures
    (Keeps-same (g.K.Sink.put c.args.sink.now))

pub returns-in_err-serving-clause-leaves : goal.returns-in_err-serving-clause-leaves
returns-in_err-serving-clause-leaves g c =
    leaves_none c.args.plan.now (EndsBy (g.S.Source.failed c.args.source.now) (g.S.Source.failed c.args.source.now))
    (g.S.Source.left c.args.source.now) (g.S.Source.left c.args.source.now) (g.K.Sink.put c.args.sink.now)
    (g.K.Sink.put c.args.sink.now) c.from_residual-in_err-serving.result c.from_residual-in_err-serving.ensures
    (Keeps-same (g.K.Sink.put c.args.sink.now))

pub returns-clause-beyond : goal.returns-clause-beyond
returns-clause-beyond g c =
    let first = g.S.Source.left c.args.source.now in
    let left = g.S.Source.left c.run_job-answer.new.source in
    let marks = c.run_job-answer.ensures.beyond c.args.plan.now
    (c.in_ok-serving.ensures.done c.args.plan.now c.head_text.new.out.items c.service_of-service.ensures.asks
    c.calling_of-calling.ensures
    (c.in_ok-head_text.ensures.appended
    ∙ ap (λ t. t ++ head_line c.head_of-head.result) c.in_ok-text.ensures.items ∙ ap head_line
    c.head_of-head.ensures)) in
    MarksFor-end c.run_job-answer.result c.args.beyond.now c.run_job-answer.new.piles.beyond
    (StopsAt (number_in c.args.plan.now.framing.link) packet_limit first left)
    (subst (λ (portions : Portions). Marks c.run_job-answer.result c.args.beyond.now
    c.run_job-answer.new.piles.beyond (StopsAt (number_in c.args.plan.now.framing.link) portions.limit first left))
    c.requires.batch
    (subst (λ (link : ℕ). Marks c.run_job-answer.result c.args.beyond.now c.run_job-answer.new.piles.beyond
    (StopsAt link c.args.means.now.portions.limit first left)) c.number.ensures marks))
