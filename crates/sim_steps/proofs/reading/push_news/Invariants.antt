use Rattle.std.proofs.Common.{◌≡◌, ◌-◌, ◌≤◌, ◌++◌, reverse, vec_capacity}
use Rattle.sim_steps.specs.Order.{news, read_applied}
use Rattle.sim_steps.proofs.reading.push_news.Given as goal

abbrev pub invariant-seats : goal.invariant-seats
invariant-seats l =
    record {
      few : l.seat ≤ l.desk.seats;
      items : l.out.items ≡ l.initial.out.items
          ++ reverse (news (read_applied l.desk.seats l.desk.rows l.words l.old)
          (read_applied l.desk.seats l.desk.rows l.words l.new) l.seat (l.desk.seats - l.seat));
      room : vec_capacity l.out ≡ vec_capacity l.initial.out;
    }

abbrev pub decreases-seats : goal.decreases-seats
decreases-seats l = l.seat
