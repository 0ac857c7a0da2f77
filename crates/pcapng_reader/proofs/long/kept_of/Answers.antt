use Rattle.std.proofs.Common.{◌+◌, max, ap, ◌∙◌}
use Rattle.pcap_reader.specs.Capture.{number}
use Rattle.edge_traits.proofs.EdgeLemmas.{behind-drop}
use Rattle.pcapng_reader.specs.declared.section.Interface.{Interface as AnInterface}
use Rattle.pcapng_reader.specs.Blocks.{interface_at, simple_length}
use Rattle.pcapng_reader.proofs.LongFacts.{simple_covers}
use Rattle.pcapng_reader.proofs.long.kept_of.Goals as goal

pub returns-else-interfaces-eq0-clause-covers : goal.returns-else-interfaces-eq0-clause-covers
returns-else-interfaces-eq0-clause-covers c =
    let bytes = c.args.bytes.now in
    simple_covers c.args.section.now c.args.order c.args.kind bytes c.simple_captured-captured.result c.max.result
    c.in-Simple.is
    (c.simple_captured-captured.ensures
    ∙ ap (λ (i : AnInterface). simple_length i c.read_u32-in-Simple.result) c.interface.ensures
    ∙ ap (simple_length (interface_at c.args.section.now 0))
    (c.read_u32-in-Simple.ensures ∙ ap (number c.args.order 4) (behind-drop bytes 8)))
    (c.max.ensures ∙ ap (λ n. max (12 + n) 28) c.min-in-Simple.ensures)
