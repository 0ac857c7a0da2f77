-- The unit and the flag of a seat more.
use Rattle.std.proofs.Common.{◌<◌, ℕ, List, Option, Vec, Global, length, map, get_or, ap, ◌∙◌, subst, arith, []}
use Rattle.std.specs.Prelude.{is_some}
use Rattle.std.proofs.lemmas.List.{length-set}
use Rattle.word_rows.specs.Shape.{Shape}
use Rattle.word_rows.specs.LayoutView.{shape_of}
use Rattle.table_model.specs.Order.{new_number}
use Rattle.history_order.specs.Columns.{IsUnitPut, place_of, row_place}
use Rattle.history_order.specs.declared.tables.Unit.{Unit}
use Rattle.history_order.specs.declared.tables.Unit.TheVariants.{Row}
use Rattle.history_order.proofs.Writes.{flag_set}
use Rattle.history_order.proofs.Rows.{went_on}
use Rattle.history_order.proofs.row_columns.write_units.Goals as goal

pub loop-seat-preserved : goal.loop-seat-preserved
loop-seat-preserved g c =
    let shape : Shape = shape_of c.args.starts.now.layout in
    let words : List ℕ = g.W.Words.words c.args.words.now in
    let row : ℕ = c.args.row in
    let seat : ℕ = c.loop-seat.seat in
    let inv = c.loop-seat.invariant in
    let item : Vec (Option Unit) Global → List (Option Unit) = λ (v : Vec (Option Unit) Global). v.items in
    let inside : seat < length c.loop-seat.callers =
    omega (arith, c.loop-seat-test.true, inv.0, c.settings.result.now.seats_in_range) in (
      length-set c.loop-seat.callers seat c.is_some.result ∙ inv.0,
      flag_set (λ s. is_some (new_number shape words s row)) c.loop-seat.callers seat c.is_some.result inside
          (c.is_some.ensures ∙ ap is_some c.new_beside-number.ensures) inv.1,
      c.put_unit.ensures.many ∙ inv.2,
      went_on (λ s. IsUnitPut (row_place shape words s row) (Row row)) (map item c.args.units.now) seat
          (map item c.loop-seat.units) (map item c.put_unit.new.units) inv.3 c.put_unit.ensures.others
          (subst (λ (at : Option ℕ). IsUnitPut at (Row row) (get_or (map item c.loop-seat.units) seat [])
          (get_or (map item c.put_unit.new.units) seat []))
          (c.place_of.ensures ∙ ap place_of c.new_beside-number.ensures) c.put_unit.ensures.put),
    )
