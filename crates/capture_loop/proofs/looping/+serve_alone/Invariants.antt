use Rattle.std.proofs.Common.{length}
use Rattle.capture_loop.proofs.looping.+serve_alone.Given as goal

abbrev pub decreases-serve_alone : goal.decreases-serve_alone
decreases-serve_alone g l = length l.workers.now
