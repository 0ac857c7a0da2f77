use Rattle.std.proofs.Common.{◌≡◌, ◌-◌, [], length, vec_len, vec_capacity}
use Rattle.sim_steps.specs.Layout.{desk_of}
use Rattle.sim_totals.specs.Rule.{view, idles, plain}
use Rattle.sim_totals.specs.Values.{fresh_from}
use Rattle.sim_totals.proofs.table.deal.Given as goal

abbrev pub invariant-loop-number : goal.invariant-loop-number
invariant-loop-number l =
    record {
      table : l.rest.table_id ≡ l.fn.words.table_id;
      rest : l.rest.me ≡ (view (plain l.fn.words.key) (idles l.number (length l.fn.adds - l.number)), []);
      desk : l.desk ≡ desk_of (plain l.fn.words.key) l.number;
      out : l.out.items ≡ fresh_from (record { table_id = l.fn.words.table_id; settings = plain l.fn.words.key }) 0
          l.number;
      count : vec_len l.out ≡ l.number;
      room : vec_capacity l.out ≡ length l.fn.adds;
    }
