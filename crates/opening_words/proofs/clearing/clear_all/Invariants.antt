use Rattle.std.proofs.Common.{◌≡◌, ◌+◌, length}
use Rattle.word_rows.specs.LayoutView.{shape_of}
use Rattle.word_rows.specs.Places.{word_count}
use Rattle.dir_states.specs.Openings.{first_directory, first_leaves}
use Rattle.opening_words.proofs.Dirt.{IsBlankBut, IsOfOpening}
use Rattle.opening_words.proofs.clearing.clear_all.Given as goal

abbrev pub invariant-loop-number : goal.invariant-loop-number
invariant-loop-number l =
    let shape = shape_of l.fn.layout in
    record {
      left : IsBlankBut (IsOfOpening shape l.number (length (first_leaves l.fn.made))
          (2 + length (first_directory l.fn.made).entries)) l.words;
      len : length l.words ≡ word_count shape;
    }
