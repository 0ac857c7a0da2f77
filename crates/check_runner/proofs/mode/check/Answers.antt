-- What is left decides what is done.
use Rattle.std.proofs.Common.{subst, sym}
use Rattle.check_runner.specs.Does.{DoesCheck}
use Rattle.check_runner.proofs.DoesLemmas.{check_reads, check_writes, does_check}
use Rattle.mode_parts.specs.Edges.{TellsReads, TellsWrites, edges, sink_edge, source_edge}
use Rattle.check_runner.proofs.mode.check.Goals as goal

pub returns-clause-reads : goal.returns-clause-reads
returns-clause-reads g c =
    let before = source_edge g.S.Source c.args.source.now in
    let after = source_edge g.S.Source c.check_input-end.new.source in
    subst (TellsReads before after) (sym c.status_of.ensures)
    (check_reads before after c.check_input-end.result c.check_input-end.ensures.read_fault
    c.check_input-end.ensures.reads c.check_input-end.ensures.counted.0)

pub returns-clause-writes : goal.returns-clause-writes
returns-clause-writes g c =
    let before = sink_edge g.K.Sink c.args.sink.now in
    let after = sink_edge g.K.Sink c.check_input-end.new.sink in
    subst (TellsWrites before after) (sym c.status_of.ensures)
    (check_writes before after c.check_input-end.result c.check_input-end.ensures.write_fault
    c.check_input-end.ensures.writes c.check_input-end.ensures.counted.1)

pub returns-clause-does : goal.returns-clause-does
returns-clause-does g c = λ beyond.
    let before = edges g.S.Source g.K.Sink c.args.source.now c.args.sink.now beyond in
    let after = edges g.S.Source g.K.Sink c.check_input-end.new.source c.check_input-end.new.sink beyond in
    let end = c.check_input-end.result in
    subst (DoesCheck before after) (sym c.status_of.ensures)
    (does_check before after end
    (check_reads before.source after.source end c.check_input-end.ensures.read_fault c.check_input-end.ensures.reads
    c.check_input-end.ensures.counted.0)
    (check_writes before.sink after.sink end c.check_input-end.ensures.write_fault c.check_input-end.ensures.writes
    c.check_input-end.ensures.counted.1) c.check_input-end.ensures.leaves)
