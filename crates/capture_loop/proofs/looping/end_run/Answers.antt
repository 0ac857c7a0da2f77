-- The last lines make the report whole, or a front of it.
use Rattle.std.proofs.Common.{Err, sym, subst}
use Rattle.capture_loop.specs.declared.stop.Stop.{Stop}
use Rattle.capture_loop.specs.Leaves.{EndsBy, LoopLeavesBy}
use Rattle.capture_loop.proofs.LoopLemmas.{end_front, end_memory, end_whole}
use Rattle.capture_loop.proofs.looping.end_run.Goals as goal

pub returns-in-Err-clause-leaves : goal.returns-in-Err-clause-leaves
returns-in-Err-clause-leaves g c = λ plan portions failed since link first left before all batches done has cut put
    ended met.
    let lines = g.J.Job.lines plan in
    let report = g.J.Job.report plan in
    let now = g.K.Sink.put c.args.sink.now in
    subst
    (λ (stop : Stop). LoopLeavesBy portions lines report (EndsBy failed since) link first left before now (Err stop))
    (sym c.from.ensures)
    (end_memory portions lines report (EndsBy failed since) link first left before all batches c.args.ending ended cut
    met
    now
    c.args.text.now.items done put (g.met.J.Job.told c.args.job.now plan batches done has))

pub returns-in-Ok-clause-leaves : goal.returns-in-Ok-clause-leaves
returns-in-Ok-clause-leaves g c = λ plan portions failed since link first left before all batches done has cut put ended
    met.
    let more = c.in_default.ensures plan batches done has in
    end_whole portions (g.J.Job.lines plan) (g.J.Job.report plan) (EndsBy failed since) link first left before all
    batches
    c.args.ending
    ended cut met (g.K.Sink.put c.args.sink.now) (g.K.Sink.put c.put.new.sink) c.args.text.now.items done more.0
    c.finish.new.text.items put more.1 more.2 c.in-Ok.ensures.ok

pub returns-in-Err-put-clause-leaves : goal.returns-in-Err-put-clause-leaves
returns-in-Err-put-clause-leaves g c = λ plan portions failed since link first left before all batches done has cut put
    ended
    met.
    let lines = g.J.Job.lines plan in
    let report = g.J.Job.report plan in
    let more = c.in_default.ensures plan batches done has in
    let after = g.K.Sink.put c.put.new.sink in
    subst (λ (stop : Stop). LoopLeavesBy portions lines report (EndsBy failed since) link first left before after
    (Err stop))
    (sym c.from-in-Err-put.ensures)
    (end_front portions lines report (EndsBy failed since) link first left before all batches c.args.ending ended cut
    met
    (g.K.Sink.put c.args.sink.now) after c.args.text.now.items done more.0 c.finish.new.text.items put more.1 more.2
    c.in-Err-put.ensures.prefix)
