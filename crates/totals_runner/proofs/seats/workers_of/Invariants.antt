use Rattle.std.proofs.Common.{◌≡◌, map, vec_len}
use Rattle.sim_totals.specs.Values.{fresh_from}
use Rattle.totals_runner.proofs.SeatLemmas.{FreshFrom}
use Rattle.totals_runner.proofs.seats.workers_of.Given as goal

abbrev pub invariant-loop-adder : goal.invariant-loop-adder
invariant-loop-adder l = record {
  adders : l.adders.items ≡ fresh_from l.fn.table 0 (vec_len l.adders);
  shares : vec_len l.adders ≡ vec_len l.shares;
  fresh : FreshFrom l.fn.table (vec_len l.adders) (map (λ share. share.items) l.fn.shares.items)
      (map (λ share. share.items) l.shares.items) l.workers.items;
}

abbrev pub decreases-loop-adder : goal.decreases-loop-adder
decreases-loop-adder l = vec_len l.adders
