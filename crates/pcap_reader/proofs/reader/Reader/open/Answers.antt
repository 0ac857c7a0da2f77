use Rattle.std.proofs.Common.{ap}
use Rattle.byte_window.specs.Window.{Held}
use Rattle.pcap_reader.proofs.ReaderFacts.{held_or_drained, opened_fault, opened_head, opened_rest}
use Rattle.pcap_reader.proofs.reader.Reader.open.Goals as goal

pub returns-clause-head : goal.returns-clause-head
returns-clause-head g c =
    let none = ap (λ (h : Held). h.unread) c.in_ok-window.ensures in
    opened_head c.args.link c.over.result _ _ _ _ none c.hold.ensures.bytes c.over.ensures.head

pub returns-clause-bytes : goal.returns-clause-bytes
returns-clause-bytes g c =
    let none = ap (λ (h : Held). h.unread) c.in_ok-window.ensures in
    opened_rest c.args.link c.over.result _ _ _ _ none c.hold.ensures.bytes c.over.ensures.head c.over.ensures.held

pub returns-clause-fault : goal.returns-clause-fault
returns-clause-fault g c =
    let none = ap (λ (h : Held). h.unread) c.in_ok-window.ensures in
    opened_fault c.args.link c.over.result _ _ _ _ none c.hold.ensures.bytes
    (held_or_drained c.in_ok-hold.field-0 c.in_ok-hold.ensures.enough c.in_ok-hold.ensures.end) c.over.ensures.fault
