-- The shape that a layout keeps.
use Rattle.std.specs.Prelude.{take}
use Rattle.word_rows.specs.declared.layout.Layout.{Layout}
use Rattle.word_rows.specs.Shape.{Shape, record_limit}

-- the settings, and the ranges of as many seats as there are
abbrev pub shape_of : Layout → Shape
shape_of layout = record {
  settings = layout.settings;
  ranges = take layout.settings.seats layout.ranges;
  limit = record_limit;
}
