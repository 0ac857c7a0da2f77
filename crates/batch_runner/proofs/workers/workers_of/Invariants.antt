use Rattle.std.proofs.Common.{◌≡◌, vec_len, map}
use Rattle.shared_table.specs.Values.{new_seats}
use Rattle.batch_runner.proofs.Working.{FreshFrom}
use Rattle.batch_runner.proofs.workers.workers_of.Given as goal

abbrev pub invariant-loop-seat : goal.invariant-loop-seat
invariant-loop-seat g l = record {
  seats : l.seats.items ≡ new_seats l.fn.directory 0 (vec_len l.seats);
  shares : vec_len l.seats ≡ vec_len l.shares;
  fresh : FreshFrom g.K.Collector.holds g.K.Collector.room l.fn.directory (vec_len l.seats)
      (map (λ share. share.items) l.fn.shares.items) (map (λ share. share.items) l.shares.items) l.workers.items;
}

abbrev pub decreases-loop-seat : goal.decreases-loop-seat
decreases-loop-seat g l = vec_len l.seats
