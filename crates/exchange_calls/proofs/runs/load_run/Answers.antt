-- One word more is loaded.
use Rattle.std.proofs.Common.{◌<◌, length, arith, ◌∙◌, length-set}
use Rattle.exchange_calls.proofs.RunLemmas.{loaded_more}
use Rattle.exchange_calls.proofs.runs.load_run.Goals as goal

pub loop-one-preserved : goal.loop-one-preserved
loop-one-preserved g c =
    let v = c.loop-one.invariant in
    let inside : c.loop-one.i < length c.loop-one.row = omega (arith, v.len, v.at, v.room, c.loop-one-test.true) in
    record {
      at = omega (arith, v.at);
      room = v.room;
      len = length-set c.loop-one.row c.loop-one.i c.load.result ∙ v.len;
      goes = loaded_more (g.S.Steps.now c.args.steps.now) c.loop-one.row c.loop-one.i c.load.result inside v.goes
          c.load.ensures.goes;
    }

pub loop-rest-preserved : goal.loop-rest-preserved
loop-rest-preserved g c =
    let v = c.loop-rest.invariant in
    let inside : c.loop-rest.i < length c.loop-rest.row = omega (arith, v.len, v.at, c.loop-rest-test.true) in
    record {
      at = omega (arith, v.at);
      len = length-set c.loop-rest.row c.loop-rest.i c.load-in-loop-rest.result ∙ v.len;
      goes = loaded_more (g.S.Steps.now c.args.steps.now) c.loop-rest.row c.loop-rest.i c.load-in-loop-rest.result
          inside v.goes c.load-in-loop-rest.ensures.goes;
    }
