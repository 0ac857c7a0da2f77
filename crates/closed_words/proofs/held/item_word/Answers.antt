use Rattle.std.proofs.Common.{◌<◌, ◌∙◌, arith}
use Rattle.word_rows.specs.LayoutView.{shape_of}
use Rattle.table_model.specs.Reading.{bucket_spelling}
use Rattle.closed_words.proofs.ItemLemmas.{item_word-inside}
use Rattle.closed_words.proofs.held.item_word.Goals as goal

pub returns : goal.returns
returns g c =
    let inside : c.args.i < c.args.starts.now.layout.settings.items = rw (← c.settings.ensures) (omega arith) in
    c.row_word.ensures
    ∙ item_word-inside (bucket_spelling (shape_of c.args.starts.now.layout)
    (g.W.Words.words c.args.words.now) c.args.row) c.args.starts.now.layout.settings.items c.args.i c.args.j
    inside (omega arith)
