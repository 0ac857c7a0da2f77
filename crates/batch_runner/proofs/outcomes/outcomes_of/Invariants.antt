use Rattle.std.proofs.Common.{◌≡◌, length, map}
use Rattle.batch_runner.specs.Told.{read_there}
use Rattle.batch_runner.proofs.Merges.{Until}
use Rattle.batch_runner.proofs.outcomes.outcomes_of.Given as goal

abbrev pub invariant-loop-place : goal.invariant-loop-place
invariant-loop-place l = record {
  until : Until l.share l.seats l.calls (map (λ log. log.items) l.logs) l.place l.taken (read_there l.outcomes.items);
  eight : length l.taken ≡ 8;
}
