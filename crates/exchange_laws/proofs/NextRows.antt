-- A seat that comes to its exchange has stored what its try makes of the row that it read, and its next row says so.
use Rattle.std.proofs.Common.{subst}
use Rattle.exchange_model.specs.Steps as S
use Rattle.exchange_model.specs.Steps.{change, next_row}
use Rattle.exchange_model.specs.Worlds.{opening_world, world_after, seat_in}
use Rattle.exchange_model.specs.Laws.{NextRowsAreTrue}
use Rattle.exchange_laws.proofs.Words.{seat_holds}
use Rattle.exchange_laws.proofs.OwnedRuns.{opening_owned}
use Rattle.exchange_laws.proofs.RowWords.{row_stands}
use Rattle.exchange_laws.proofs.StoredRows.{StoresBy, stored_first, stored_follow}
use Rattle.exchange_laws.proofs.MadeRows.{made_is_row}
use Rattle.exchange_laws.proofs.FoundOps.{FoundAt, found_first, found_follow}

-- THE RESULT
pub next_rows_are_true : NextRowsAreTrue
next_rows_are_true plan events seat call t found run inside stood =
    let x = world_after plan events in
    let owned = opening_owned plan run.opened in
    let found_all = found_follow plan run.opened events (opening_world plan) owned
    (found_first plan run.opened) run.follow in
    let stored_all = stored_follow plan run.opened events (opening_world plan) owned
    (stored_first plan run.opened) run.follow in
    let f : FoundAt plan (S.Goes call (S.Exchange t found)) = subst (FoundAt plan) stood
    (found_all.each seat (seat_holds plan seat inside)) in
    let words = x.store.row (next_row (seat_in x seat)) in
    let s : StoresBy plan words (S.Goes call (S.Exchange t found)) =
    subst (StoresBy plan words) stood (stored_all.each seat (seat_holds plan seat inside)) in
    row_stands plan run.opened (change plan t.row found).row
    (made_is_row plan run.opened t.row found f.1.0.items f.1.2 f.1.1) words s
