-- The flag of a seat is whether its update is new in the row.
use Rattle.std.proofs.Common.{◌≡◌, ◌∷◌, [], ◌<◌, ℕ, List, Bool, false, not, get_or, ap, ◌∙◌, sym, arith, lt-ltb}
use Rattle.std.specs.Prelude.{◌&&◌, is_some}
use Rattle.step_counts.specs.declared.settings.Settings.{Settings}
use Rattle.word_rows.specs.LayoutView.{shape_of}
use Rattle.table_model.specs.Order.{new_in_rows}
use Rattle.history_order.proofs.Writes.{all_goes, all_fails}
use Rattle.history_order.proofs.columns.is_row_free.Goals as goal

pub returns-then-callers-row : goal.returns-then-callers-row
returns-then-callers-row g c =
    let shape = shape_of c.args.starts.now.layout in
    let words : List ℕ = g.W.Words.words c.args.words.now in
    let new : ℕ → Bool = λ seat. is_some (new_in_rows shape words (c.args.row ∷ []) seat) in
    let seats : ℕ = shape.settings.seats in
    let seat : ℕ = c.loop-seat.seat in
    let inside : seat < seats =
    omega (arith, c.loop-seat-test.true, ap (λ (s : Settings). s.seats) c.settings.ensures) in
    let flag : get_or (get_or c.args.callers.now c.args.row []) seat false ≡ new seat =
    c.requires seat (omega (arith, c.if-row-callers.false)) ∙ ap (λ b. b && new seat) (lt-ltb seat seats inside) in
    all_fails (λ s. not (new s)) seat seats _ inside (ap not (sym flag ∙ c.if-callers-row.true)) c.loop-seat.invariant

pub loop-seat-preserved : goal.loop-seat-preserved
loop-seat-preserved g c =
    let shape = shape_of c.args.starts.now.layout in
    let words : List ℕ = g.W.Words.words c.args.words.now in
    let new : ℕ → Bool = λ seat. is_some (new_in_rows shape words (c.args.row ∷ []) seat) in
    let seats : ℕ = shape.settings.seats in
    let seat : ℕ = c.loop-seat.seat in
    let inside : seat < seats =
    omega (arith, c.loop-seat-test.true, ap (λ (s : Settings). s.seats) c.settings.ensures) in
    let flag : get_or (get_or c.args.callers.now c.args.row []) seat false ≡ new seat =
    c.requires seat (omega (arith, c.if-row-callers.false)) ∙ ap (λ b. b && new seat) (lt-ltb seat seats inside) in
    all_goes (λ s. not (new s)) seat seats _ inside (ap not (sym flag ∙ c.if-callers-row.false)) c.loop-seat.invariant
