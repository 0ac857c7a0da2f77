use Rattle.std.proofs.Common.{refl, rules}
use Rattle.report_reading.proofs.PacketLemmas.{ended_more}
use Rattle.report_reading.proofs.packets.Packets.end.Goals as goal

pub returns : goal.returns
returns c = λ ended waits are.
    ended_more c.args.self.now (record { ended = c.push.new.self; waiting = c.args.self.now.waiting }) ended waits
    c.args.packet are (search rules) (search rules) c.in_ok-push.ensures.items refl
