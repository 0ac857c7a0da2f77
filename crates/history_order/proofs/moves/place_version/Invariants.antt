use Rattle.std.proofs.Common.{◌≡◌, ◌++◌, length, take}
use Rattle.std.specs.Prelude.{flat_map}
use Rattle.history_order.specs.Tables.{brought, firsts_of, marked}
use Rattle.history_order.proofs.moves.place_version.Given as goal

abbrev pub invariant-loop-row : goal.invariant-loop-row
invariant-loop-row l = record {
  placed : l.progress.placed.items ≡ marked l.fn.progress.placed.items (take l.row-index (firsts_of l.found
      l.fn.progress.latest));
  length : length l.progress.placed.items ≡ length l.fn.progress.placed.items;
  looks : l.progress.looks.items ≡ l.fn.progress.looks.items;
  latest : l.progress.latest ≡ l.fn.progress.latest;
  aside : l.progress.aside.items ≡ l.fn.progress.aside.items
      ++ flat_map (brought l.found l.fn.progress.looks.items) (take l.row-index (firsts_of l.found
      l.fn.progress.latest));
}
