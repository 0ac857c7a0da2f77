-- A batch is served, while the one before it is told and put. What the closure ensures is told in the order of its
-- clauses.
use Rattle.std.proofs.Common.{rules, ◌≡◌, ◌++◌, ◌+◌, [], ℕ, List, Err, IfNone, length, ap, sym, subst, ◌∙◌, arith}
use Rattle.capture_loop.specs.declared.stop.Stop.TheVariants.{Memory, NotPut}
use Rattle.capture_loop.specs.Batches.{IsCutAt}
use Rattle.capture_loop.specs.Intake.{IsTaken}
use Rattle.capture_loop.specs.Leaves.{EndsBy, LoopLeavesBy}
use Rattle.capture_loop.specs.Looping.{Standing}
use Rattle.capture_loop.proofs.LoopLemmas.{all_zip_slice, last_memory}
use Rattle.capture_loop.proofs.StandingLemmas.{Standing-map, at_err, at_ok, if_err, kept_tells, standing_memory, standing_next}
use Rattle.capture_loop.proofs.looping.turn.Goals as goal

pub returns-in_err-shared-clause-leaves : goal.returns-in_err-shared-clause-leaves
returns-in_err-shared-clause-leaves g c =
    if_err _ c.from_residual.result Memory c.from_residual.ensures.1
    (λ plan failed now link first left before all stands.
    standing_memory c.args.means.now.portions (g.J.Job.lines plan) g.J.Job.tells link first left before
    c.args.so_far.now.untold (g.J.Job.done c.args.job.now plan) (g.J.Job.report plan) (EndsBy failed now)
    c.args.so_far.now.packets all (g.K.Sink.put c.args.sink.now) c.args.text.now.items
    (g.met.J.Job.told c.args.job.now plan) stands)

pub returns-in_err-written-clause-leaves : goal.returns-in_err-written-clause-leaves
returns-in_err-written-clause-leaves g c =
    let sink : c.work-told.new.beside.4.now ≡ c.sink-1.given.0 = search rules in
    if_err _ c.from_residual-in_err-written.result Memory c.from_residual-in_err-written.ensures.1
    (λ plan failed now link first left before all stands.
    subst (λ sink. LoopLeavesBy c.args.means.now.portions (g.J.Job.lines plan) (g.J.Job.report plan) (EndsBy failed now)
    link first left before (g.K.Sink.put sink) (Err Memory)) sink
    (at_err _ c.work-told.result.0 c.in_err-written.field-0.0 c.in_err-written.was
    c.work-told.ensures.beside.met.1.0
    plan failed now c.args.means.now.portions link c.args.so_far.now.packets first left before all
    (Standing-map c.args.means.now.portions (g.J.Job.lines plan) g.J.Job.tells link first left before
    c.args.so_far.now.untold (g.J.Job.done c.args.job.now plan) (g.J.Job.lines plan)
    c.args.so_far.now.packets all (g.K.Sink.put c.args.sink.now) c.args.text.now.items
    (g.met.J.Job.told c.args.job.now plan) stands)))

pub returns-in_err-written-2-clause-leaves : goal.returns-in_err-written-2-clause-leaves
returns-in_err-written-2-clause-leaves g c =
    let sink : c.work-told.new.beside.4.now ≡ c.sink-1.given.0 = search rules in
    if_err _ c.from_residual-in_err-written-2.result NotPut c.from_residual-in_err-written-2.ensures.1
    (λ plan failed now link first left before all stands.
    subst (λ sink. LoopLeavesBy c.args.means.now.portions (g.J.Job.lines plan) (g.J.Job.report plan) (EndsBy failed now)
    link first left before (g.K.Sink.put sink) (Err NotPut)) sink
    (at_err _ _ c.in_err-written-2.field-0.0 c.in_err-written-2.was
    (at_ok _ c.work-told.result.0 c.in_ok-written.written c.in_ok-written.was
    c.work-told.ensures.beside.met.1.1.0)
    plan failed now c.args.means.now.portions link c.args.so_far.now.packets first left before all
    (Standing-map c.args.means.now.portions (g.J.Job.lines plan) g.J.Job.tells link first left before
    c.args.so_far.now.untold (g.J.Job.done c.args.job.now plan) (g.J.Job.lines plan)
    c.args.so_far.now.packets all (g.K.Sink.put c.args.sink.now) c.args.text.now.items
    (g.met.J.Job.told c.args.job.now plan) stands)))

pub returns-in_err-ahead-clause-leaves : goal.returns-in_err-ahead-clause-leaves
returns-in_err-ahead-clause-leaves g c =
    let sink : c.work-told.new.beside.4.now ≡ c.sink-1.given.0 = search rules in
    if_err _ c.from_residual-in_err-ahead.result Memory c.from_residual-in_err-ahead.ensures.1
    (λ plan failed now link first left before all stands.
    let s = at_ok _ _ c.in_ok-written-2.field-0 c.in_ok-written-2.was
    (at_ok _ c.work-told.result.0 c.in_ok-written.written c.in_ok-written.was
    c.work-told.ensures.beside.met.1.1.1.0)
    c.in_ok-shared.field-0.shared c.in_ok-shared.field-0.workers.items plan c.args.means.now.portions link
    c.args.so_far.now.packets first left before all
    (Standing-map c.args.means.now.portions (g.J.Job.lines plan) g.J.Job.tells link first left before
    c.args.so_far.now.untold (g.J.Job.done c.args.job.now plan) (g.J.Job.under c.open.new.self
    c.in_ok-shared.field-0.shared c.in_ok-shared.field-0.workers.items plan)
    c.args.so_far.now.packets all (g.K.Sink.put c.args.sink.now) c.args.text.now.items
    (λ batches text has. c.in_ok-shared.ensures.under plan batches text has) stands) in
    subst (λ sink. LoopLeavesBy c.args.means.now.portions (g.J.Job.lines plan) (g.J.Job.report plan) (EndsBy failed now)
    link first left before (g.K.Sink.put sink) (Err Memory)) sink
    (last_memory c.args.means.now.portions (g.J.Job.lines plan) (g.J.Job.report plan) (EndsBy failed now)
    _ link first left c.args.so_far.now.packets all before _ _ s
    (g.met.J.Job.told_under _ _ _ plan s.batches s.text s.done)))

pub returns-in_err-closed-clause-leaves : goal.returns-in_err-closed-clause-leaves
returns-in_err-closed-clause-leaves g c =
    let sink : c.work-told.new.beside.4.now ≡ c.sink-1.given.0 = search rules in
    if_err _ c.from_residual-in_err-closed.result Memory c.from_residual-in_err-closed.ensures.1
    (λ plan failed now link first left before all stands.
    let s = at_ok _ _ c.in_ok-written-2.field-0 c.in_ok-written-2.was
    (at_ok _ c.work-told.result.0 c.in_ok-written.written c.in_ok-written.was
    c.work-told.ensures.beside.met.1.1.1.0)
    c.in_ok-shared.field-0.shared c.in_ok-shared.field-0.workers.items plan c.args.means.now.portions link
    c.args.so_far.now.packets first left before all
    (Standing-map c.args.means.now.portions (g.J.Job.lines plan) g.J.Job.tells link first left before
    c.args.so_far.now.untold (g.J.Job.done c.args.job.now plan) (g.J.Job.under c.open.new.self
    c.in_ok-shared.field-0.shared c.in_ok-shared.field-0.workers.items plan)
    c.args.so_far.now.packets all (g.K.Sink.put c.args.sink.now) c.args.text.now.items
    (λ batches text has. c.in_ok-shared.ensures.under plan batches text has) stands) in
    subst (λ sink. LoopLeavesBy c.args.means.now.portions (g.J.Job.lines plan) (g.J.Job.report plan) (EndsBy failed now)
    link first left before (g.K.Sink.put sink) (Err Memory)) sink
    (last_memory c.args.means.now.portions (g.J.Job.lines plan) (g.J.Job.report plan) (EndsBy failed now)
    _ link first left c.args.so_far.now.packets all before _ _ s
    (g.met.J.Job.told_under _ _ _ plan s.batches s.text s.done)))

pub returns-clause-some : goal.returns-clause-some
returns-clause-some g c =
    kept_tells (λ closed. (lines : List ℕ) × g.J.Job.tells closed lines) c.untold_of.result c.in_ok-closed.closed
    c.untold_of.ensures.some c.in_ok-closed.ensures.some

pub returns-clause-stands : goal.returns-clause-stands
returns-clause-stands g c =
    let portions = c.args.means.now.portions in
    let before_it : ℕ = c.args.so_far.now.packets in
    let many : ℕ = before_it + c.from.result in
    let job : c.work-told.new.beside.1.now ≡ c.job-1.given.0 = search rules in
    let text_is : c.work-told.new.beside.3.now ≡ c.text-1.given.0 = search rules in
    let sink : c.work-told.new.beside.4.now ≡ c.sink-1.given.0 = search rules in
    let more : (more : List (List ℕ))
    × g.J.Pile.Pile.holds c.swap.new.x many more
    × (length more ≡ c.in_ok-ahead.ahead)
    × IsTaken portions.limit c.args.reader.now c.reader-1.given.0 c.at-batch.result many more =
    search rules fits 30000 in
    λ plan link first left before all packets stands holds long come.
    let jobs = at_ok _ c.work-told.result.0 c.in_ok-written.written c.in_ok-written.was
    c.work-told.ensures.beside.met.1.1.1.1.0 in
    let s = at_ok _ _ c.in_ok-written-2.field-0 c.in_ok-written-2.was
    (at_ok _ c.work-told.result.0 c.in_ok-written.written c.in_ok-written.was
    c.work-told.ensures.beside.met.1.1.1.0)
    c.in_ok-shared.field-0.shared c.in_ok-shared.field-0.workers.items plan c.args.means.now.portions link
    c.args.so_far.now.packets first left before all
    (Standing-map c.args.means.now.portions (g.J.Job.lines plan) g.J.Job.tells link first left before
    c.args.so_far.now.untold (g.J.Job.done c.args.job.now plan) (g.J.Job.under c.open.new.self
    c.in_ok-shared.field-0.shared c.in_ok-shared.field-0.workers.items plan)
    c.args.so_far.now.packets all (g.K.Sink.put c.args.sink.now) c.args.text.now.items
    (λ batches text has. c.in_ok-shared.ensures.under plan batches text has) stands) in
    let workers = c.in_ok-shared.field-0.workers in
    let opens = c.in_ok-shared.ensures in
    let worked = all_zip_slice (g.J.Worker.WorksOn.done c.in_ok-shared.field-0.shared) c.as_mut_slice.result.now
    workers.items c.work-told.new.workers _ c.as_mut_slice.ensures.value workers.ok.0 c.work-told.ensures.done in
    let shared = c.in_ok-shared.field-0.shared in
    let kept = c.in_ok-shared.field-0.kept in
    let going = subst (λ j. g.J.Job.away j before_it) job
    (jobs.1 before_it (opens.away before_it c.requires.going)) in
    let opened = subst (λ j. g.J.Job.opened j shared workers.items kept before_it packets) job
    (jobs.2 shared workers.items kept before_it packets (opens.opened before_it packets c.requires.going holds)) in
    let done = subst (λ j. g.J.Job.under j shared workers.items plan s.batches s.text) job s.done in
    let stood : Standing portions (g.J.Job.done c.close.new.self plan) (g.J.Job.lines plan) g.J.Job.tells
    c.untold_of.result link first left many (all ++ packets) before (g.K.Sink.put c.work-told.new.beside.4.now)
    c.text-1.given.0.items =
    subst (λ text. Standing portions (g.J.Job.done c.close.new.self plan) (g.J.Job.lines plan) g.J.Job.tells
    c.untold_of.result link first left many (all ++ packets) before (g.K.Sink.put c.work-told.new.beside.4.now)
    text.items) text_is
    (standing_next portions (g.J.Job.lines plan) g.J.Job.tells link first left before c.untold_of.result
    c.in_ok-closed.closed _ (g.J.Job.done c.close.new.self plan) c.args.reader.now before_it many all packets _ _ s
    (λ batches text has. g.met.J.Job.told_under _ _ _ plan batches text has) come
    (subst (λ (n : ℕ). IsCutAt portions before_it n) (sym long) c.requires.whole)
    (ap (λ (n : ℕ). before_it + n) (c.from.ensures ∙ sym long))
    (omega (arith, c.requires.few, c.from.ensures))
    c.in_ok-closed.ensures.some
    (λ text tell. c.in_ok-closed.ensures.served plan s.batches s.text workers.items before_it packets done going opened
    worked text tell)
    c.untold_of.ensures.some
    (subst (λ text. IfNone c.untold_of.result ((text.items ≡ []) × ((lines : List ℕ) →
    g.J.Job.tells c.in_ok-closed.closed lines → lines ≡ []))) (sym text_is) c.untold_of.ensures.none)) in (
      more.0,
      subst (λ sink. Standing portions (g.J.Job.done c.close.new.self plan) (g.J.Job.lines plan)
          g.J.Job.tells c.untold_of.result link first left many (all ++ packets) before (g.K.Sink.put sink)
          c.text-1.given.0.items) sink stood,
      more.1,
      more.2,
      more.3.come link first left (all ++ packets) come,
    )
