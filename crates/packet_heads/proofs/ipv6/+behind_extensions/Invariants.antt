use Rattle.packet_heads.proofs.ipv6.+behind_extensions.Given as goal

-- one extension head less is looked through
abbrev pub decreases-behind_extensions : goal.decreases-behind_extensions
decreases-behind_extensions l = l.most
