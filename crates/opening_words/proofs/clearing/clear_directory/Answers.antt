use Rattle.std.proofs.Common.{arith}
use Rattle.word_rows.specs.LayoutView.{shape_of}
use Rattle.opening_words.proofs.WritingLemmas.{directory_fits}
use Rattle.opening_words.proofs.clearing.clear_directory.Goals as goal

pub clear_row-requires : goal.clear_row-requires
clear_row-requires c =
    let fits = directory_fits (shape_of c.args.layout.now) c.args.directory.now.depth c.place_laws.ensures.within
    c.requires.depth c.requires.inside in
    omega (arith, fits, c.directory_word-start.ensures, c.requires.entries, c.requires.long)
