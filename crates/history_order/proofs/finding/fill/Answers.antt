-- What is found and how the turns begin, by what is told.
use Rattle.std.proofs.Common.{ℕ, List, sym, subst}
use Rattle.plain_map.specs.declared.records.Record.{Record}
use Rattle.table_model.specs.Closing.{read_in}
use Rattle.history_order.specs.Fills.{IsFound, IsBegun}
use Rattle.word_rows.specs.LayoutView.{shape_of}
use Rattle.history_order.proofs.TablesTell.{bases_told, filled, begins}
use Rattle.history_order.proofs.finding.fill.Goals as goal

pub returns-clause-bases : goal.returns-clause-bases
returns-clause-bases g c =
    bases_told (shape_of c.args.starts.now.layout) (g.W.Words.words c.args.words.now)
    (read_in c.args.logs.now) c.in_ok-found.found c.in_ok-found.ensures.found

pub returns-clause-found : goal.returns-clause-found
returns-clause-found g c begun told e =
    let words : List ℕ = g.W.Words.words c.args.words.now in
    let logs : List (List Record) = read_in c.args.logs.now in
    filled words logs begun told c.in_ok-found.found
    (subst (λ shape. IsFound shape words logs c.in_ok-found.found) (sym e) c.in_ok-found.ensures.found)

pub returns-clause-begun : goal.returns-clause-begun
returns-clause-begun g c begun told e =
    let words : List ℕ = g.W.Words.words c.args.words.now in
    let logs : List (List Record) = read_in c.args.logs.now in
    begins words logs begun told c.in_ok-progress.progress
    (subst (λ shape. IsBegun shape words logs c.in_ok-progress.progress) (sym e) c.in_ok-progress.ensures)
