use Rattle.std.proofs.Common.{sym, ap, ◌∙◌, subst, arith}
use Rattle.pcap_reader.specs.declared.order.Order.{Order}
use Rattle.pcapng_reader.specs.declared.block.Kind.TheVariants.{Enhanced}
use Rattle.pcapng_reader.specs.Blocks.{SeesSize, block_type, total_length}
use Rattle.pcapng_reader.proofs.LookFacts.{sees_enhanced}
use Rattle.pcapng_reader.proofs.block.look.Goals as goal

pub returns-then-read_u32-eq-ENHANCED : goal.returns-then-read_u32-eq-ENHANCED
returns-then-read_u32-eq-ENHANCED c =
    let state = c.args.section.now in
    let offset = c.args.offset in
    let bytes = c.args.bytes.now in
    let seen = c.look_by.result in
    sees_enhanced state offset bytes seen (omega (arith, c.if-bytes-lt8.false))
    (ap (λ (o : Order). block_type o bytes) (sym c.order-order.ensures) ∙ sym c.read_u32.ensures
    ∙ c.if-read_u32-eq-ENHANCED.true)
    (subst (λ (o : Order). SeesSize state offset o Enhanced (total_length o bytes) bytes seen) c.order-order.ensures
    c.look_by.ensures)
