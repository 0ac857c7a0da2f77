use Rattle.std.proofs.Common.{arith, take, sym, ap, ◌∙◌}
use Rattle.edge_traits.proofs.EdgeLemmas.{behind-drop}
use Rattle.pcapng_reader.proofs.LookFacts.{sees_section}
use Rattle.pcapng_reader.proofs.block.look_at_section.Goals as goal

pub returns-in-Some : goal.returns-in-Some
returns-in-Some c =
    let bytes = c.args.bytes.now in
    sees_section c.args.section.now c.args.offset c.in-Some.order bytes c.look_by.result c.requires.section
    (omega (arith, c.if-bytes-lt12.false)) (ap (take 4) (sym (behind-drop bytes 8)) ∙ c.in-Some.ensures.found)
    c.look_by.ensures
