use Rattle.std.proofs.Common.{◌≡◌, ℕ, sym, ap, ◌∙◌, subst, refl, arith}
use Rattle.pcap_reader.specs.Capture.{number}
use Rattle.edge_traits.proofs.EdgeLemmas.{behind-drop}
use Rattle.pcapng_reader.specs.Blocks.{HasKind, IsBlockLength, total_length}
use Rattle.pcapng_reader.proofs.LookFacts.{cut_by}
use Rattle.pcapng_reader.proofs.long.long_by.Goals as goal

pub returns-then-not-is_block_length-clause-none : goal.returns-then-not-is_block_length-clause-none
returns-then-not-is_block_length-clause-none c = λ offset shows.
    let bytes = c.args.bytes.now in
    let kind : HasKind (number c.args.order 4 bytes) c.kind_of-kind.result =
    subst (λ (n : ℕ). HasKind n c.kind_of-kind.result) c.read_u32.ensures c.kind_of-kind.ensures in
    let total : c.read_u32-length.result ≡ total_length c.args.order bytes =
    c.read_u32-length.ensures ∙ ap (number c.args.order 4) (behind-drop bytes 4) in
    let cut = cut_by c.args.section.now offset bytes c.args.order c.kind_of-kind.result
    (omega (arith, c.requires.front)) shows c.requires.read kind in
    absurd (c.if-not-is_block_length.ensures.wrong refl
    (subst (IsBlockLength c.kind_of-kind.result) (sym total) cut.0))
