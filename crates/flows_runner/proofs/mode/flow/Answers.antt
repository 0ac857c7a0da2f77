-- What the loop leaves decides what is done.
use Rattle.std.proofs.Common.{subst, sym}
use Rattle.capture_loop.specs.Input.{StopsAt}
use Rattle.capture_loop.specs.Leaves.{LeavesBy, Marks}
use Rattle.packet_heads.specs.Links.{number_in}
use Rattle.mode_parts.specs.Edges.{CanEnd, TellsReads, TellsWrites, edges, sink_edge, source_edge}
use Rattle.mode_parts.proofs.EdgeLemmas.{tells_reads, tells_writes}
use Rattle.flows_runner.specs.declared.asked.Asked.{Asked}
use Rattle.flows_runner.specs.Asked.{IsPortionsOf}
use Rattle.flows_runner.specs.Does.{DoesFlows, flow_limit}
use Rattle.flows_runner.specs.Told.{ReportsFlows, TellsFlows}
use Rattle.flows_runner.proofs.DoesLemmas.{does_flows}
use Rattle.flows_runner.proofs.mode.flow.Goals as goal

pub returns-clause-reads : goal.returns-clause-reads
returns-clause-reads g c =
    let before = source_edge g.S.Source c.args.source.now in
    let after = source_edge g.S.Source c.flow_input-end.new.source in
    subst (TellsReads before after) (sym c.of_run.ensures)
    (tells_reads before after c.flow_input-end.result c.flow_input-end.ensures.read_fault
    c.flow_input-end.ensures.reads c.flow_input-end.ensures.counted.0)

pub returns-clause-writes : goal.returns-clause-writes
returns-clause-writes g c =
    let before = sink_edge g.K.Sink c.args.sink.now in
    let after = sink_edge g.K.Sink c.flow_input-end.new.sink in
    subst (TellsWrites before after) (sym c.of_run.ensures)
    (tells_writes before after c.flow_input-end.result c.flow_input-end.ensures.write_fault
    c.flow_input-end.ensures.writes c.flow_input-end.ensures.counted.1)

pub returns-clause-does : goal.returns-clause-does
returns-clause-does g c =
    let before = edges g.S.Source g.K.Sink c.args.source.now c.args.sink.now c.args.beyond.now in
    let after = edges g.S.Source g.K.Sink c.flow_input-end.new.source c.flow_input-end.new.sink
    c.flow_input-end.new.beyond in
    let end = c.flow_input-end.result in
    subst (DoesFlows c.args.plan.now before after) (sym c.of_run.ensures)
    (does_flows c.args.plan.now before after end c.one_input.ensures
    (tells_reads before.source after.source end c.flow_input-end.ensures.read_fault c.flow_input-end.ensures.reads
    c.flow_input-end.ensures.counted.0)
    (tells_writes before.sink after.sink end c.flow_input-end.ensures.write_fault c.flow_input-end.ensures.writes
    c.flow_input-end.ensures.counted.1)
    (subst (λ (asked : Asked). LeavesBy flow_limit (number_in asked.calling.framing.link) (TellsFlows asked)
    (TellsFlows asked) (ReportsFlows asked) (CanEnd before after) before.source.left after.source.left before.sink.put
    after.sink.put end) c.asked_of-asked.ensures.asked c.flow_input-end.ensures.leaves)
    (subst (λ (asked : Asked). Marks end before.beyond after.beyond
    (StopsAt (number_in asked.calling.framing.link) flow_limit before.source.left after.source.left))
    c.asked_of-asked.ensures.asked c.flow_input-end.ensures.beyond))

pub flow_input-end-requires-clause-portions : goal.flow_input-end-requires-clause-portions
flow_input-end-requires-clause-portions g c = λ lives within.
    subst (λ (asked : Asked). IsPortionsOf asked c.portions_of.result) (sym c.asked_of-asked.ensures.asked)
    c.portions_of.ensures
