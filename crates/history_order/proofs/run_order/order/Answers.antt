-- What the run leaves is told, and the tables say it.
use Rattle.std.proofs.Common.{ℕ, List}
use Rattle.plain_map.specs.declared.records.Record.{Record}
use Rattle.word_rows.specs.Shape.{Shape}
use Rattle.word_rows.specs.LayoutView.{shape_of}
use Rattle.table_model.specs.Closing.{read_in}
use Rattle.history_order.proofs.ToldOfRun.{told_of_run}
use Rattle.history_order.proofs.run_order.order.Goals as goal

pub turns-requires-clause-begins : goal.turns-requires-clause-begins
turns-requires-clause-begins g c =
    let shape : Shape = shape_of c.args.starts.now.layout in
    let words : List ℕ = g.W.Words.words c.args.words.now in
    let logs : List (List Record) = read_in c.args.logs.now in
    let t = told_of_run shape words logs c.args.begun.now c.requires in
    record {
      told = t.0;
      shape_is = t.1;
      filled = c.in_ok-found.ensures.found c.args.begun.now t.0 t.1;
      begins = c.in_ok-found.ensures.begun c.args.begun.now t.0 t.1;
    }
