use Rattle.std.proofs.Common.{◌≡◌, ◌+◌, ℕ, List, vec_len, vec_capacity}
use Rattle.plain_map.specs.declared.calls.Call.{Call}
use Rattle.batch_runner.specs.Seats.{AreThrough}
use Rattle.batch_runner.proofs.Working.{MadeFrom}
use Rattle.batch_runner.proofs.workers.take_apart.Given as goal

abbrev pub invariant-loop-worker : goal.invariant-loop-worker
invariant-loop-worker g l = record {
  made : (shares : List (List (ℕ × Call))) → AreThrough g.K.Collector.holds l.fn.directory 0 shares l.fn.workers.items →
      MadeFrom g.K.Collector.holds l.fn.directory (vec_len l.workers) shares l.workers.items l.seats.items l.kept.items;
  seats_len : vec_len l.seats + vec_len l.workers ≡ vec_len l.fn.workers;
  kept_len : vec_len l.kept ≡ vec_len l.seats;
  seats_room : vec_capacity l.seats ≡ vec_len l.fn.workers;
  kept_room : vec_capacity l.kept ≡ vec_len l.fn.workers;
}

abbrev pub decreases-loop-worker : goal.decreases-loop-worker
decreases-loop-worker g l = vec_len l.workers
