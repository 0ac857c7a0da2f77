use Rattle.std.proofs.Common.{◌≡◌, ◌-◌, ◌≤◌, ◌++◌, length, take}
use Rattle.pcap_reader.proofs.made_source.MadeSourceSource.read.Given as goal

-- the first bytes are those that were left before, and the others are left
abbrev pub invariant-filling : goal.invariant-filling
invariant-filling l = record {
  bytes : l.initial.self ≡ take l.filled l.buf ++ l.self;
  within : l.filled ≤ length l.buf;
}

abbrev pub decreases-filling : goal.decreases-filling
decreases-filling l = length l.buf - l.filled
