-- What the core leaves where it is stopped.
use Rattle.std.specs.Prelude.{◌≡◌, map, IsPermutation}
use Rattle.std.specs.List.Sorted.{IsSortedByKey}
use Rattle.plain_map.specs.Keys.{key_cmp}
use Rattle.word_rows.specs.LayoutView.{shape_of}
use Rattle.table_model.specs.Closed.{begun_of, closed_depth, closed_leaves, closed_pairs}
use Rattle.closed_words.specs.Views.{as_leaf}
use Rattle.core_steps.specs.declared.values.CoreEnd.{CoreEnd}
use Rattle.core_steps.specs.Values.{CoreValue}

-- its words, the records of each seat, the calls that had begun, and what the words hold: the pairs in the order of
-- their keys, the leaves in the order of their prefixes as bit strings, and the depth of the directory
pub record IsLeft (core : CoreValue) (left : CoreEnd) : Type 0 where
  pub shape : shape_of left.rows.layout ≡ core.setup.shape
  pub words : left.rows.words.items ≡ core.world.words
  pub logs : map (λ log. log.items) left.logs.items ≡ map (λ state. state.account.records) core.world.seats
  pub begun : left.begun.items ≡ begun_of core.world
  pub pairs : IsPermutation (closed_pairs core.setup.shape core.world.words) left.pairs.items
  pub sorted : IsSortedByKey (λ pair. pair.key) key_cmp left.pairs.items
  pub leaves : map as_leaf left.leaves.items ≡ closed_leaves core.setup.shape core.world.words
  pub depth : left.depth ≡ closed_depth core.setup.shape core.world.words
