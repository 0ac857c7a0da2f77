use Rattle.std.proofs.Common.{◌≡◌, ◌+◌, List, map, vec_len, vec_capacity}
use Rattle.packet_adders.specs.declared.frames.Frame.{Frame}
use Rattle.totals_runner.specs.Seats.{AreThrough}
use Rattle.totals_runner.proofs.SeatLemmas.{AddedFrom}
use Rattle.totals_runner.proofs.seats.take_apart.Given as goal

abbrev pub invariant-loop-worker : goal.invariant-loop-worker
invariant-loop-worker l = record {
  added : (shares : List (List Frame)) → AreThrough l.fn.table 0 shares l.fn.workers.items →
      AddedFrom l.fn.table (vec_len l.workers) shares l.workers.items l.adders.items
      (map (λ log. log.items) l.logs.items);
  adders_len : vec_len l.adders + vec_len l.workers ≡ vec_len l.fn.workers;
  logs_len : vec_len l.logs ≡ vec_len l.adders;
  adders_room : vec_capacity l.adders ≡ vec_len l.fn.workers;
  logs_room : vec_capacity l.logs ≡ vec_len l.fn.workers;
}

abbrev pub decreases-loop-worker : goal.decreases-loop-worker
decreases-loop-worker l = vec_len l.workers
