use Rattle.std.proofs.Common.{◌∙◌, List, refl, subst, sym}
use Rattle.plain_map.specs.declared.calls.Call.{Call}
use Rattle.flow_workers.specs.Work.{HasMade}
use Rattle.flow_workers.proofs.workers.FlowWorkerWorksOnLastingTable.work_on.Goals as goal

pub returns : goal.returns
returns g c = record {
  done = record {
    first = c.in-Some.own;
    last = c.make_calls.new.own;
    had = sym c.take.ensures.value ∙ c.in-Some.is;
    has = refl;
    calls = refl;
    made = c.make_calls.ensures.0;
    has_made = subst
        (λ (calls : List Call). HasMade c.in-Some.own c.make_calls.new.own calls c.make_calls.ensures.0)
        c.deref.ensures.value c.make_calls.ensures.1;
    counts = c.make_calls.ensures.2;
  };
}
