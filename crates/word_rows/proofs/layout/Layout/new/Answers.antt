-- The ranges are those that were handed in, before the ranges of no seat.
use Rattle.std.proofs.Common.{◌∙◌, ap, sym, List, arith}
use Rattle.step_counts.specs.declared.rows.SeatRows.{SeatRows}
use Rattle.word_rows.specs.Shape.{record_limit, by_kind, number_after}
use Rattle.word_rows.proofs.Ranges.{ranges_few, made_shape, front_of}
use Rattle.word_rows.proofs.layout.Layout.new.Goals as goal

pub rows_after-counts-requires : goal.rows_after-counts-requires
rows_after-counts-requires c =
    ranges_few record_limit c.args.settings.now c.args.rows.now c.requires.each_seat (omega arith) c.requires.small

pub invariant_of-result : goal.invariant_of-result
invariant_of-result c =
    let settings = c.args.settings.now in
    let rows = c.args.rows.now in
    record {
      shaped = made_shape settings rows _ (front_of settings.seats c.copy_from_slice.new.self rows _
          c.copy_from_slice.ensures.after c.requires.each_seat) c.requires.each_seat c.requires.small;
      counted = c.rows_after-counts.ensures
          ∙ ap (λ (kept : List SeatRows). by_kind (number_after settings kept))
          (sym (front_of settings.seats c.copy_from_slice.new.self rows _ c.copy_from_slice.ensures.after
          c.requires.each_seat));
    }
