-- A seat's number stands in the seats' part, where the seat is one.
use Rattle.std.proofs.Common.{◌≡◌, ℕ, ◌+◌, ◌*◌, ◌<◌, ◌≤◌, List, get_or, ◌∙◌, ap, sym, arith}
use Rattle.word_rows.specs.Shape.{Shape}
use Rattle.word_rows.specs.LayoutView.{shape_of}
use Rattle.table_model.specs.Reading.{bucket_spelling}
use Rattle.closed_words.proofs.WordLemmas.{applied_at-seat, applied_at-past}
use Rattle.closed_words.proofs.rows.applied_at.Goals as goal
use Rattle.step_counts.specs.declared.TheConstants.{ITEM_WORDS}

pub returns-then-seat-settings : goal.returns-then-seat-settings
returns-then-seat-settings g c =
    let shape : Shape = shape_of c.args.starts.now.layout in
    let past : shape.settings.seats ≤ c.args.seat = rw (← c.settings-settings.ensures) (c.if-seat-settings.true) in
    sym (applied_at-past shape (g.W.Words.words c.args.words.now) c.args.row c.args.seat past)

pub returns : goal.returns
returns g c =
    let shape : Shape = shape_of c.args.starts.now.layout in
    let words : List ℕ = g.W.Words.words c.args.words.now in
    let inside : c.args.seat < shape.settings.seats = rw (← c.settings-settings.ensures) (omega arith) in
    let place : 5 + ITEM_WORDS * c.from.result + c.from-2.result * 2
    ≡ 5 + ITEM_WORDS * shape.settings.items + c.args.seat * 2 =
    rw (← c.settings-settings.ensures) (omega arith) in
    c.row_word.ensures ∙ ap (λ (n : ℕ). get_or (bucket_spelling shape words c.args.row) n 0) place
    ∙ applied_at-seat shape words c.args.row c.args.seat inside
