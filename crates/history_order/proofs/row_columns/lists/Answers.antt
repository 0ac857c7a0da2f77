-- The lists are those of all seats.
use Rattle.std.proofs.Common.{Option, Vec, Global, ap, arith}
use Rattle.std.proofs.lemmas.List.{length-map}
use Rattle.step_counts.specs.declared.settings.Settings.{Settings}
use Rattle.history_order.specs.declared.tables.Unit.{Unit}
use Rattle.history_order.proofs.row_columns.lists.Goals as goal

pub returns : goal.returns
returns c words =
    let inv = c.loop-seat.invariant in
    let seats = ap (λ (s : Settings). s.seats) c.settings.ensures in
    record {
      seats = omega (
        arith,
        length-map c.loop-seat.lists.items (λ (v : Vec (Option Unit) Global). v.items),
        inv.0,
        c.loop-seat-test.false,
        seats,
      );
      many = λ seat less. inv.1 seat (omega (arith, less, c.loop-seat-test.false, seats));
      reads = λ seat place less. inv.2 seat place (omega (arith, less, c.loop-seat-test.false, seats));
    }
