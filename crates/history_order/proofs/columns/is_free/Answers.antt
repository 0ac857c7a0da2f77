use Rattle.std.proofs.Common.{◌<◌, ℕ, not, ap, ◌∙◌, sym, arith}
use Rattle.std.specs.Prelude.{is_some}
use Rattle.step_counts.specs.declared.settings.Settings.{Settings}
use Rattle.word_rows.specs.LayoutView.{shape_of}
use Rattle.table_model.specs.Order.{new_in_rows}
use Rattle.history_order.proofs.Writes.{all_goes, all_fails}
use Rattle.history_order.proofs.columns.is_free.Goals as goal

pub loop-seat-preserved : goal.loop-seat-preserved
loop-seat-preserved g c =
    let seats : ℕ = (shape_of c.args.starts.now.layout).settings.seats in
    let inside : c.loop-seat.seat < seats =
    omega (arith, c.loop-seat-test.true, ap (λ (s : Settings). s.seats) c.settings.ensures) in
    all_goes (λ seat. not (is_some (new_in_rows (shape_of c.args.starts.now.layout)
    (g.W.Words.words c.args.words.now) c.args.rows.now seat)))
    c.loop-seat.seat seats _ inside
    (ap not (sym (ap is_some c.new_in.ensures) ∙ sym c.is_some.ensures ∙ c.if-is_some.false)) c.loop-seat.invariant

pub returns-then-is_some : goal.returns-then-is_some
returns-then-is_some g c =
    let seats : ℕ = (shape_of c.args.starts.now.layout).settings.seats in
    let inside : c.loop-seat.seat < seats =
    omega (arith, c.loop-seat-test.true, ap (λ (s : Settings). s.seats) c.settings.ensures) in
    all_fails (λ seat. not (is_some (new_in_rows (shape_of c.args.starts.now.layout)
    (g.W.Words.words c.args.words.now) c.args.rows.now seat)))
    c.loop-seat.seat seats _ inside
    (ap not (sym (ap is_some c.new_in.ensures) ∙ sym c.is_some.ensures ∙ c.if-is_some.true)) c.loop-seat.invariant
