use Rattle.std.proofs.Common.{◌≡◌, ◌++◌, reverse, vec_capacity}
use Rattle.sim_steps.specs.Order.{read_order, read_order_to}
use Rattle.sim_steps.proofs.reading.read_order_into.Given as goal

abbrev pub invariant-rows : goal.invariant-rows
invariant-rows l =
    record {
      order : read_order l.desk.seats l.desk.rows l.words ≡ read_order_to l.desk.seats l.desk.rows l.words l.more
          l.row ++ reverse l.out.items;
      room : vec_capacity l.out ≡ vec_capacity l.initial.out;
    }

abbrev pub decreases-rows : goal.decreases-rows
decreases-rows l = l.more
