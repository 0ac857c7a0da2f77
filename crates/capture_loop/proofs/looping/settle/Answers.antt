-- The last batch is told and put, or it is not.
use Rattle.std.proofs.Common.{◌≡◌, Option, Some, sym, subst, ◌∙◌}
use Rattle.std.specs.Io.KnownBytes.{Appends}
use Rattle.edge_traits.specs.Edge.{AppendsFront}
use Rattle.capture_loop.specs.Leaves.{EndsBy}
use Rattle.capture_loop.specs.Looping.{Standing}
use Rattle.capture_loop.proofs.StandingLemmas.{OnErr-any, OnErr-map, OnOk-map, cut_off, settled, standing_memory}
use Rattle.capture_loop.proofs.looping.settle.Goals as goal

pub returns-in_err-tell-in-Some-clause-memory : goal.returns-in_err-tell-in-Some-clause-memory
returns-in_err-tell-in-Some-clause-memory g c =
    OnErr-any _ c.from_residual.result
    (λ plan failed now portions link many first left before all stands.
    standing_memory portions (g.J.Job.lines plan) g.J.Job.tells link first left before c.args.untold.now
    (g.J.Job.lines plan) (g.J.Job.report plan) (EndsBy failed now) many all
    (g.K.Sink.put c.args.sink.now) c.args.text.now.items (λ batches text is. is) stands)

pub returns-in_ok-tell-in-Some-clause-front : goal.returns-in_ok-tell-in-Some-clause-front
returns-in_ok-tell-in-Some-clause-front g c =
    OnErr-map _ _ c.put.result c.put.ensures.prefix
    (λ prefix plan failed now portions link many first left before all stands.
    let served = g.J.Job.lines plan in
    let mid = g.K.Sink.put c.args.sink.now in
    let after = g.K.Sink.put c.put.new.sink in
    let told = c.in_ok-tell-in-Some.ensures.told in
    let is : c.args.untold.now ≡ Some c.in-Some.closed = sym c.take.ensures.value ∙ c.in-Some.is in
    let u = subst (λ (o : Option g.row.J-Closed.Denot). Standing portions served (g.J.Job.lines plan) g.J.Job.tells o
    link
    first left many all before mid c.args.text.now.items) is stands in
    cut_off portions (g.J.Job.lines plan) g.J.Job.tells link first left before c.in-Some.closed served many all mid
    after
    c.args.text.now.items told.0 u told.1 (g.J.Job.report plan) (EndsBy failed now)
    (λ batches text is. is) (subst (AppendsFront mid after) told.2 prefix))

pub returns-in_ok-tell-in-Some-clause-stands : goal.returns-in_ok-tell-in-Some-clause-stands
returns-in_ok-tell-in-Some-clause-stands g c =
    OnOk-map _ _ _ c.put.result c.put.ensures.ok c.put.ensures.none
    (λ ok none plan portions link many first left before all stands.
    let served = g.J.Job.done c.args.job.now plan in
    let mid = g.K.Sink.put c.args.sink.now in
    let after = g.K.Sink.put c.put.new.sink in
    let told = c.in_ok-tell-in-Some.ensures.told in
    let is : c.args.untold.now ≡ Some c.in-Some.closed = sym c.take.ensures.value ∙ c.in-Some.is in
    let u = subst (λ (o : Option g.row.J-Closed.Denot). Standing portions served (g.J.Job.lines plan) g.J.Job.tells o
    link
    first left many all before mid c.args.text.now.items) is stands in
    settled portions (g.J.Job.lines plan) g.J.Job.tells link first left before c.in-Some.closed served many all mid
    after
    c.args.text.now.items told.0 u told.1 (g.J.Job.done c.tell.new.self plan) c.put.new.text.items
    (λ batches text has. c.in_ok-tell-in-Some.ensures.done plan batches text has)
    (subst (Appends mid after) told.2 ok) none)

pub returns-in_ok-tell-in-Some-clause-stands_under : goal.returns-in_ok-tell-in-Some-clause-stands_under
returns-in_ok-tell-in-Some-clause-stands_under g c =
    OnOk-map _ _ _ c.put.result c.put.ensures.ok c.put.ensures.none
    (λ ok none shared workers plan portions link many first left before all stands.
    let served = g.J.Job.under c.args.job.now shared workers plan in
    let mid = g.K.Sink.put c.args.sink.now in
    let after = g.K.Sink.put c.put.new.sink in
    let told = c.in_ok-tell-in-Some.ensures.told in
    let is : c.args.untold.now ≡ Some c.in-Some.closed = sym c.take.ensures.value ∙ c.in-Some.is in
    let u = subst (λ (o : Option g.row.J-Closed.Denot). Standing portions served (g.J.Job.lines plan) g.J.Job.tells o
    link
    first left many all before mid c.args.text.now.items) is stands in
    settled portions (g.J.Job.lines plan) g.J.Job.tells link first left before c.in-Some.closed served many all mid
    after
    c.args.text.now.items told.0 u told.1 (g.J.Job.under c.tell.new.self shared workers plan) c.put.new.text.items
    (λ batches text has. c.in_ok-tell-in-Some.ensures.under shared workers plan batches text has)
    (subst (Appends mid after) told.2 ok) none)
