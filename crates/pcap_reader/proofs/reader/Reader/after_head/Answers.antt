use Rattle.std.proofs.Common.{ap, arith}
use Rattle.byte_window.specs.Window.{Held}
use Rattle.pcap_reader.proofs.ReaderFacts.{none_behind}
use Rattle.pcap_reader.proofs.reader.Reader.after_head.Goals as goal

pub returns-clause-held : goal.returns-clause-held
returns-clause-held c =
    none_behind c.over.result c.in_ok-window.window.unread c.args.head.now
    (ap (λ (h : Held). h.unread) c.in_ok-window.ensures) (omega (arith, c.told-head)) c.over.ensures.held
