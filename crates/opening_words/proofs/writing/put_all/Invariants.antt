use Rattle.std.proofs.Common.{◌≡◌, drop, length}
use Rattle.plain_map.specs.Rows.{HasBucketRoom}
use Rattle.word_rows.specs.LayoutView.{shape_of}
use Rattle.word_rows.specs.Places.{word_count}
use Rattle.table_model.specs.Stores.{with_puts}
use Rattle.dir_states.specs.Openings.{first_leaves}
use Rattle.opening_words.proofs.WritingLemmas.{blank_words, leaves_from}
use Rattle.opening_words.proofs.writing.put_all.Given as goal

abbrev pub invariant-loop-i : goal.invariant-loop-i
invariant-loop-i l =
    let shape = shape_of l.fn.layout in
    record {
      left : with_puts shape l.words (leaves_from shape l.i (drop l.i (first_leaves l.fn.made)))
          ≡ with_puts shape (blank_words shape) (leaves_from shape 0 (first_leaves l.fn.made));
      len : length l.words ≡ word_count shape;
      row : HasBucketRoom shape.settings.seats shape.settings.items l.row;
    }
