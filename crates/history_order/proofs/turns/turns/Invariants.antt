use Rattle.std.proofs.Common.{◌+◌, ◌*◌, ◌^◌, length}
use Rattle.word_rows.specs.LayoutView.{shape_of}
use Rattle.table_model.specs.Closing.{read_in}
use Rattle.history_order.specs.Tables.{left_of}
use Rattle.history_order.proofs.Runs.{Runs}
use Rattle.history_order.proofs.turns.turns.Given as goal

abbrev pub decreases-loop-row : goal.decreases-loop-row
decreases-loop-row g l = 2 ^ 65 * left_of l.found l.progress + length l.progress.aside.items

abbrev pub invariant-loop-row : goal.invariant-loop-row
invariant-loop-row g l = Runs (shape_of l.closed.starts.now.layout) (g.W.Words.words l.closed.words.now)
    (read_in l.closed.logs.now) l.closed.begun.now l.found l.progress l.count l.fn.out.items l.out.items
