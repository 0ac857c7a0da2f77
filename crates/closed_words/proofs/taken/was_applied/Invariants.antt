use Rattle.std.proofs.Common.{◌≡◌, drop}
use Rattle.std.specs.Prelude.{◌==◌}
use Rattle.std.specs.List.{list_any}
use Rattle.table_model.specs.Reading.{applied_at}
use Rattle.word_rows.specs.LayoutView.{shape_of}
use Rattle.closed_words.proofs.taken.was_applied.Given as goal

abbrev pub invariant-loop-row : goal.invariant-loop-row
invariant-loop-row g l =
    list_any (λ row. applied_at (shape_of l.starts.layout) (g.W.Words.words l.words) row
    l.pending.seat == l.pending.number) (drop l.row-index l.rows)
    ≡ list_any (λ row. applied_at (shape_of l.starts.layout)
    (g.W.Words.words l.words) row l.pending.seat == l.pending.number) l.rows
