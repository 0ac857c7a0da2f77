use Rattle.std.proofs.Common.{◌≡◌, ◌≤◌, ◌+◌, vec_capacity, vec_len}
use Rattle.flows_runner.specs.Hands.{IsAsFar}
use Rattle.flows_runner.proofs.HandLemmas.{Handed}
use Rattle.flows_runner.proofs.flowing.Flowing.hand_out.Given as goal

abbrev pub invariant-loop-seat : goal.invariant-loop-seat
invariant-loop-seat l = record {
  handed : Handed l.fn.self.seats.items l.fn.self.spare.items l.self.seats.items l.self.spare.items l.workers.items;
  as_far : IsAsFar l.fn.self l.self;
  table : l.self.table ≡ l.fn.self.table;
  as_many : vec_len l.self.spare ≡ vec_len l.self.seats;
  room : vec_len l.workers + vec_len l.self.seats ≤ vec_capacity l.workers;
  seats_room : vec_capacity l.self.seats ≡ vec_capacity l.fn.self.seats;
  spare_room : vec_capacity l.self.spare ≡ vec_capacity l.fn.self.spare;
}

abbrev pub decreases-loop-seat : goal.decreases-loop-seat
decreases-loop-seat l = vec_len l.self.seats
