use Rattle.std.proofs.Common.{◌≡◌, length, take}
use Rattle.dir_states.specs.Openings.{AreCounted}
use Rattle.dir_states.proofs.FindLemmas.{FindRoom}
use Rattle.dir_states.proofs.counts.count.Given as goal

abbrev pub invariant-loop-place : goal.invariant-loop-place
invariant-loop-place l = record {
  counted : AreCounted l.rules (take l.place l.first) l.counts;
  found : FindRoom l.rules l.first l.place;
  len : length l.counts ≡ length l.fn.counts;
}
