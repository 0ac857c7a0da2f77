use Rattle.std.proofs.Common.{◌≡◌, ◌++◌, drop}
use Rattle.std.specs.Prelude.{◌&&◌, ◌==◌}
use Rattle.std.specs.List.{filter, list_any}
use Rattle.plain_map.specs.Calls.{is_update}
use Rattle.table_model.specs.Reading.{applied_at}
use Rattle.word_rows.specs.LayoutView.{shape_of}
use Rattle.closed_words.proofs.taken.applied_in.Given as goal

abbrev pub invariant-loop-pending : goal.invariant-loop-pending
invariant-loop-pending g l =
    l.effects.items ++ filter (λ p. is_update p.call && list_any
    (λ row. applied_at (shape_of l.starts.layout) (g.W.Words.words l.words) row p.seat == p.number) l.rows)
    (drop l.pending-index l.begun)
    ≡ filter (λ p. is_update p.call && list_any
    (λ row. applied_at (shape_of l.starts.layout) (g.W.Words.words l.words) row p.seat == p.number) l.rows) l.begun
