use Rattle.std.proofs.Common.{◌<◌, length, ap, ◌∙◌, arith}
use Rattle.std.specs.Prelude.{is_some}
use Rattle.std.proofs.lemmas.List.{length-set}
use Rattle.word_rows.specs.LayoutView.{shape_of}
use Rattle.table_model.specs.Order.{new_in_rows}
use Rattle.history_order.proofs.Writes.{flag_set}
use Rattle.history_order.proofs.columns.callers_in.Goals as goal

pub loop-seat-preserved : goal.loop-seat-preserved
loop-seat-preserved g c =
    let inv = c.loop-seat.invariant in
    let inside : c.loop-seat.seat < length c.loop-seat.callers =
    omega (arith, c.loop-seat-test.true, inv.0, c.settings.result.now.seats_in_range) in (
      length-set c.loop-seat.callers c.loop-seat.seat c.is_some.result ∙ inv.0,
      flag_set (λ seat. is_some (new_in_rows (shape_of c.args.starts.now.layout) (g.W.Words.words c.args.words.now)
          c.args.rows.now seat))
          c.loop-seat.callers c.loop-seat.seat c.is_some.result inside (c.is_some.ensures ∙ ap is_some c.new_in.ensures)
          inv.1,
    )
