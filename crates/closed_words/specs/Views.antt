-- What the plain values stand for.
use Rattle.plain_map.specs.declared.leaves.Leaf.{Leaf}
use Rattle.closed_words.specs.declared.values.ClosedLeaf.{ClosedLeaf}

-- a leaf
abbrev pub as_leaf : ClosedLeaf → Leaf
as_leaf leaf = record { prefix = leaf.prefix; depth = leaf.depth }
