use Rattle.history_order.proofs.Firsts.{get_in}
use Rattle.history_order.proofs.columns.free.Goals as goal

pub is_row_free-requires : goal.is_row_free-requires
is_row_free-requires g c =
    λ seat. c.requires _ seat (get_in c.args.exchanged.now c.loop-row.row-index 0 c.loop-row-test.true)
