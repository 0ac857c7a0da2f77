-- One word more is stored.
use Rattle.std.proofs.Common.{arith}
use Rattle.exchange_calls.proofs.RunLemmas.{stored_more}
use Rattle.exchange_calls.proofs.runs.store_run.Goals as goal

pub loop-one-preserved : goal.loop-one-preserved
loop-one-preserved g c =
    let v = c.loop-one.invariant in
    record {
      at = omega (arith, v.at);
      room = v.room;
      goes = stored_more (g.S.Steps.now c.args.steps.now) c.loop-one.i v.goes c.store.ensures.goes;
    }

pub loop-rest-preserved : goal.loop-rest-preserved
loop-rest-preserved g c =
    let v = c.loop-rest.invariant in
    record {
      at = omega (arith, v.at);
      goes = stored_more (g.S.Steps.now c.args.steps.now) c.loop-rest.i v.goes c.store-in-loop-rest.ensures.goes;
    }
