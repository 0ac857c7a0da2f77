-- What is left decides what is done.
use Rattle.std.proofs.Common.{subst, sym}
use Rattle.mode_parts.specs.Edges.{TellsReads, TellsWrites, edges, sink_edge, source_edge}
use Rattle.mode_parts.proofs.EdgeLemmas.{tells_reads, tells_writes}
use Rattle.mode_parts.specs.Statuses.{status_by}
use Rattle.serve_modes.specs.Does.{DoesServe}
use Rattle.serve_modes.proofs.DoesLemmas.{does_serve}
use Rattle.serve_modes.proofs.serving.serve.Goals as goal

pub returns-clause-reads : goal.returns-clause-reads
returns-clause-reads g c =
    let before = source_edge g.S.Source c.args.source.now in
    let after = source_edge g.S.Source c.serve_input-end.new.source in
    subst (TellsReads before after) (sym c.of_run.ensures)
    (tells_reads before after c.serve_input-end.result c.serve_input-end.ensures.read_fault
    c.serve_input-end.ensures.reads c.serve_input-end.ensures.counted.0)

pub returns-clause-writes : goal.returns-clause-writes
returns-clause-writes g c =
    let before = sink_edge g.K.Sink c.args.sink.now in
    let after = sink_edge g.K.Sink c.serve_input-end.new.sink in
    subst (TellsWrites before after) (sym c.of_run.ensures)
    (tells_writes before after c.serve_input-end.result c.serve_input-end.ensures.write_fault
    c.serve_input-end.ensures.writes c.serve_input-end.ensures.counted.1)

pub returns-clause-does : goal.returns-clause-does
returns-clause-does g c =
    let before = edges g.S.Source g.K.Sink c.args.source.now c.args.sink.now c.args.beyond.now in
    let after = edges g.S.Source g.K.Sink c.serve_input-end.new.source c.serve_input-end.new.sink
    c.serve_input-end.new.beyond in
    let end = c.serve_input-end.result in
    subst (DoesServe c.args.plan.now before after) (sym c.of_run.ensures)
    (does_serve c.args.plan.now before after (status_by end) c.one_input.ensures
    (tells_reads before.source after.source end c.serve_input-end.ensures.read_fault c.serve_input-end.ensures.reads
    c.serve_input-end.ensures.counted.0)
    (tells_writes before.sink after.sink end c.serve_input-end.ensures.write_fault c.serve_input-end.ensures.writes
    c.serve_input-end.ensures.counted.1) c.serve_input-end.ensures.leaves c.serve_input-end.ensures.beyond)
