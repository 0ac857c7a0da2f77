-- Of the ranges of all seats those before one seat are a prefix.
use Rattle.std.proofs.Common.{◌≡◌, ℕ, List, ◌^◌, ◌<◌, take, arith, subst, sym}
use Rattle.std.proofs.lemmas.List.{take-take}
use Rattle.step_counts.specs.declared.rows.SeatRows.{SeatRows}
use Rattle.word_rows.specs.declared.layout.Layout.{Layout}
use Rattle.word_rows.specs.Shape.{AreBelow, by_kind, number_after}
use Rattle.word_rows.proofs.Ranges.{prefix_few}
use Rattle.word_rows.proofs.layout.Layout.first.Goals as goal

before_few : (layout : Layout) (seat : ℕ) → seat < layout.settings.seats →
    AreBelow (2 ^ 36) (by_kind (number_after layout.settings (take seat layout.ranges)))
before_few layout seat within =
    let before : take seat (take layout.settings.seats layout.ranges) ≡ take seat layout.ranges =
    take-take seat layout.settings.seats layout.ranges (omega arith) in
    subst (λ (rows : List SeatRows). AreBelow (2 ^ 36) (by_kind (number_after layout.settings rows))) before
    (prefix_few layout.settings (take layout.settings.seats layout.ranges) seat layout.shaped.few)

pub rows_after-requires : goal.rows_after-requires
rows_after-requires c = before_few c.args.self.now c.args.seat (omega arith)

pub returns-clause-few : goal.returns-clause-few
returns-clause-few c = subst (AreBelow (2 ^ 36)) (sym c.rows_after.ensures)
    (before_few c.args.self.now c.args.seat (omega arith))
