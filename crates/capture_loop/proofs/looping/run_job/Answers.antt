-- The head line is held, and nothing was put.
use Rattle.std.proofs.Common.{[], ℕ, Some, refl, subst, sym}
use Rattle.capture_loop.specs.Endings.{HasFailed, OnEnds}
use Rattle.capture_loop.specs.Leaves.{EndsBy}
use Rattle.capture_loop.specs.Input.{StopsAt}
use Rattle.capture_loop.specs.Reading.{HaveEnded}
use Rattle.capture_loop.proofs.LeavesLemmas.{HasPut-start, Keeps-same, leaves_nothing}
use Rattle.capture_loop.proofs.LoopLemmas.{Marks-at, Marks-none, at_start}
use Rattle.capture_loop.proofs.ReadingLemmas.{OnLimit-unopened}
use Rattle.capture_loop.proofs.looping.run_job.Goals as goal

pub returns-in-Ok-clause-leaves : goal.returns-in-Ok-clause-leaves
returns-in-Ok-clause-leaves g c = λ plan has.
    c.go_through-answer.ensures.leaves plan c.args.link (g.S.Source.left c.args.source.now)
    (g.K.Sink.put c.args.sink.now)
    (g.S.Source.failed c.args.source.now) (sym c.in-Ok.ensures.none_failed) has
    (HasPut-start (g.K.Sink.put c.args.sink.now) c.args.text.now.items) c.in-Ok.ensures.come

pub returns-in-Ends-clause-leaves : goal.returns-in-Ends-clause-leaves
returns-in-Ends-clause-leaves g c = λ plan has.
    let link = c.args.link in
    let first = g.S.Source.left c.args.source.now in
    let left = g.S.Source.left c.open.new.source in
    let put = g.K.Sink.put c.args.sink.now in
    let ended : HaveEnded c.args.means.now.portions.limit link first left [] c.in-Ends.ending =
    subst (λ fault. OnEnds fault (λ ending. (limit : ℕ) → HaveEnded limit link first left [] ending)) c.in-Ends.is
    c.in-Err.ensures.ended c.args.means.now.portions.limit in
    c.serve_last.ensures.leaves plan (g.S.Source.failed c.args.source.now) (g.S.Source.failed c.open.new.source) link
    first
    left put [] []
    (at_start c.args.means.now.portions (g.J.Job.done c.args.job.now plan) link first put put c.args.text.now.items has
    (HasPut-start put c.args.text.now.items))
    c.requires.none refl ended
    (subst (λ fault. OnEnds fault (λ ending. HasFailed (Some ending) (g.S.Source.failed c.args.source.now)
    (g.S.Source.failed c.open.new.source))) c.in-Ends.is c.in-Err.ensures.failed)

pub returns-in-Memory-clause-leaves : goal.returns-in-Memory-clause-leaves
returns-in-Memory-clause-leaves g c = λ plan has.
    leaves_nothing c.args.means.now.portions (g.J.Job.lines plan) (g.J.Job.report plan)
    (EndsBy (g.S.Source.failed c.args.source.now) (g.S.Source.failed c.open.new.source))
    c.args.link (g.S.Source.left c.args.source.now) (g.S.Source.left c.open.new.source) (g.K.Sink.put c.args.sink.now)
    (g.K.Sink.put c.args.sink.now) (Keeps-same (g.K.Sink.put c.args.sink.now))

pub returns-in-Ok-clause-beyond : goal.returns-in-Ok-clause-beyond
returns-in-Ok-clause-beyond g c = λ plan has.
    let first = g.S.Source.left c.args.source.now in
    Marks-at c.go_through-answer.result _ _ c.mark.new.beyond c.start.result c.go_through-answer.new.reader.start
    (StopsAt c.args.link c.args.means.now.portions.limit first (g.S.Source.left c.go_through-answer.new.source))
    c.go_through-answer.ensures.kept c.start.ensures c.mark.ensures
    (c.go_through-answer.ensures.beyond plan c.args.link first (g.K.Sink.put c.args.sink.now) has
    (HasPut-start (g.K.Sink.put c.args.sink.now) c.args.text.now.items) c.in-Ok.ensures.come)

pub returns-in-Ends-clause-beyond : goal.returns-in-Ends-clause-beyond
returns-in-Ends-clause-beyond g c = λ plan has.
    let link = c.args.link in
    let first = g.S.Source.left c.args.source.now in
    let left = g.S.Source.left c.open.new.source in
    let ended : (limit : ℕ) → HaveEnded limit link first left [] c.in-Ends.ending =
    subst (λ fault. OnEnds fault (λ ending. (limit : ℕ) → HaveEnded limit link first left [] ending)) c.in-Ends.is
    c.in-Err.ensures.ended in
    Marks-none c.serve_last.result c.in-Ends.ending _ _ c.serve_last.ensures.same
    (OnLimit-unopened link first left c.in-Ends.ending ended)
