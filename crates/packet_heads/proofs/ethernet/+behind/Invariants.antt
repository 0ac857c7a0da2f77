use Rattle.packet_heads.proofs.ethernet.+behind.Given as goal

-- one tag less may stand there
abbrev pub decreases-behind : goal.decreases-behind
decreases-behind l = l.most
