use Rattle.std.proofs.Common.{◌≡◌, ◌-◌, [], vec_len, vec_capacity}
use Rattle.exchange_model.specs.Plans.{holders_of}
use Rattle.exchange_table.specs.Rule.{fresh_from, plain}
use Rattle.exchange_table.specs.Tables.{new_seats}
use Rattle.exchange_table.proofs.table.deal_seats.Given as goal

abbrev pub invariant-loop-number : goal.invariant-loop-number
invariant-loop-number l = record {
  table : l.rest.table_id ≡ l.fn.words.table_id;
  rest : l.rest.me ≡ (
    record {
      bundle = fresh_from (plain l.fn.opening) l.number (holders_of (plain l.fn.opening).settings - l.number);
    },
    [],
  );
  out : l.out.items ≡ new_seats (record { table_id = l.fn.words.table_id; plan = plain l.fn.opening }) 0 l.number;
  count : vec_len l.out ≡ l.number;
  room : vec_capacity l.out ≡ l.fn.opening.sizes.seats;
}
