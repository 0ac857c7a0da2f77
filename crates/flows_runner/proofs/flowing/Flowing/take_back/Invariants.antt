use Rattle.std.proofs.Common.{◌≡◌, ◌+◌, ◌*◌, ◌^◌, ◌<◌, vec_capacity, vec_len}
use Rattle.flow_workers.specs.Counts.{AreBelow}
use Rattle.flows_runner.proofs.HandLemmas.{Taken}
use Rattle.flows_runner.proofs.flowing.Flowing.take_back.Given as goal

abbrev pub invariant-loop-worker : goal.invariant-loop-worker
invariant-loop-worker l = record {
  taken : Taken l.fn.workers.items l.workers.items l.self.seats.items l.fn.self.calls l.self.calls l.fn.self.replies
      l.self.replies;
  asked : l.self.asked ≡ l.fn.self.asked;
  table : l.self.table ≡ l.fn.self.table;
  packets : l.self.packets ≡ l.fn.self.packets;
  seats_len : vec_len l.self.seats + vec_len l.workers ≡ vec_len l.fn.workers;
  spare_len : vec_len l.self.spare ≡ vec_len l.self.seats;
  seats_room : vec_capacity l.self.seats ≡ vec_capacity l.fn.self.seats;
  spare_room : vec_capacity l.self.spare ≡ vec_capacity l.fn.self.spare;
  calls_few : l.self.calls < 2 ^ 62 + 2 ^ 32 * vec_len l.self.seats;
  replies_few : AreBelow (2 ^ 62 + 2 ^ 33 * vec_len l.self.seats) l.self.replies;
}

abbrev pub decreases-loop-worker : goal.decreases-loop-worker
decreases-loop-worker l = vec_len l.workers
