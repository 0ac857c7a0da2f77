use Rattle.std.proofs.Common.{◌≡◌, ◌-◌, ◌<◌, ◌≤◌, ◌++◌, ℕ, length}
use Rattle.std.specs.Prelude.{slice_index}
use Rattle.plain_map.specs.declared.records.TheConstants.{MOST_SEATS}
use Rattle.table_model.specs.Closing.{read_in}
use Rattle.history_order.specs.Tables.{all_told, count_with}
use Rattle.history_order.proofs.moves.tell.Given as goal

abbrev pub invariant-loop-other : goal.invariant-loop-other
invariant-loop-other g l = record {
  out : l.out.items ++ all_told (read_in l.closed.logs.now) l.closed.begun.now l.found
      l.fn.count l.seat l.unit l.other (MOST_SEATS - l.other)
      ≡ l.fn.out.items ++ all_told (read_in l.closed.logs.now) l.closed.begun.now l.found
      l.fn.count l.seat l.unit 0 MOST_SEATS;
  done : (other : ℕ) → other < l.other → slice_index l.count other
      ≡ count_with (read_in l.closed.logs.now) l.closed.begun.now l.found l.seat l.unit other
      (slice_index l.fn.count other);
  long : length l.count ≡ MOST_SEATS;
  rest : (other : ℕ) → l.other ≤ other → slice_index l.count other ≡ slice_index l.fn.count other;
}
