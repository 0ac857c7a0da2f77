use Rattle.std.proofs.Common.{arith}
use Rattle.seat_calls.proofs.RunLemmas.{stored_more}
use Rattle.seat_calls.proofs.runs.store_run.Goals as goal

pub loop-one-preserved : goal.loop-one-preserved
loop-one-preserved g c =
    let v = c.loop-one.invariant in
    let next = stored_more (g.S.Steps.now c.args.steps.now) c.loop-one.i v.goes v.fits c.store.ensures.goes
    c.store.ensures.fits in
    record { at = omega (arith, v.at); room = v.room; goes = next.0; fits = next.1 }

pub loop-rest-preserved : goal.loop-rest-preserved
loop-rest-preserved g c =
    let v = c.loop-rest.invariant in
    let next = stored_more (g.S.Steps.now c.args.steps.now) c.loop-rest.i v.goes v.fits
    c.store-in-loop-rest.ensures.goes
    c.store-in-loop-rest.ensures.fits in
    record { at = omega (arith, v.at); goes = next.0; fits = next.1 }
