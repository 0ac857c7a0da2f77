use Rattle.std.proofs.Common.{◌+◌, length-set, set, arith}
use Rattle.word_rows.specs.LayoutView.{shape_of}
use Rattle.opening_words.proofs.WritingLemmas.{directory_fits}
use Rattle.opening_words.proofs.writing.put_directory.Goals as goal

pub put_row-requires : goal.put_row-requires
put_row-requires c =
    let start = c.directory_word-start.result in
    let fits = directory_fits (shape_of c.args.layout.now) c.args.directory.now.depth c.place_laws.ensures.within
    c.requires.depth c.requires.inside in
    let one = length-set c.args.words.now start c.args.directory.now.depth in
    let two = length-set (set c.args.words.now start c.args.directory.now.depth) (start + 1) 0 in
    record {
      inside = omega (
        arith,
        fits,
        one,
        two,
        c.directory_word-start.ensures,
        c.deref.ensures.len,
        c.requires.entries,
        c.requires.long,
      );
    }
