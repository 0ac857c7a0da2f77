use Rattle.std.proofs.Common.{◌≡◌, ◌-◌, [], vec_len, vec_capacity}
use Rattle.shared_table.specs.Rule.{plain}
use Rattle.shared_table.specs.Seating.{fresh_from}
use Rattle.shared_table.specs.Values.{new_seats}
use Rattle.shared_table.proofs.directory.deal.Given as goal

abbrev pub invariant-loop-number : goal.invariant-loop-number
invariant-loop-number l = record {
  table : l.rest.table_id ≡ l.fn.words.table_id;
  rest : l.rest.me ≡ (
    record {
      bundle = fresh_from (plain l.fn.words.key) l.number (l.fn.seats - l.number);
      fronts = [];
    },
    [],
  );
  out : l.out.items ≡ new_seats (record { table_id = l.fn.words.table_id; setup = plain l.fn.words.key }) 0 l.number;
  count : vec_len l.out ≡ l.number;
  room : vec_capacity l.out ≡ l.fn.seats;
}
