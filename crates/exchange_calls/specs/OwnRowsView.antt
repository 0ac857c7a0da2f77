-- The rows of a seat as lists.
use Rattle.std.specs.Prelude.{ℕ, List, drop}
use Rattle.exchange_calls.specs.declared.own_rows.OwnRows.{OwnRows}

-- those that are free
abbrev pub free_of : OwnRows → List ℕ
free_of rows = drop rows.next rows.free.items

-- and the others
abbrev pub kept_of : OwnRows → List ℕ
kept_of rows = rows.kept.items
