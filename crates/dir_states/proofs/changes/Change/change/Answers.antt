use Rattle.std.proofs.Common.{◌≤◌, ◌^◌, All, List, map, sym, subst, arith}
use Rattle.std.specs.Prelude.{vec_capacity}
use Rattle.std.proofs.lemmas.List.Elements.{All-map}
use Rattle.table_model.specs.DirectoryChange.{depth_after}
use Rattle.table_model.specs.Leaves as M
use Rattle.dir_states.specs.declared.values.NewLeaf.{NewLeaf}
use Rattle.dir_states.specs.Views.{as_directory, as_leaf}
use Rattle.dir_states.proofs.NumberLemmas.{depth_after-least, fewer_places}
use Rattle.dir_states.proofs.changes.Change.change.Goals as goal

pub with_leaves-requires-clause-depth : goal.with_leaves-requires-clause-depth
with_leaves-requires-clause-depth c =
    let shallow : All (λ (leaf : M.NewLeaf). leaf.bucket.depth ≤ c.args.rules.now.depth)
    (map as_leaf c.walk.new.leaves.made.items) =
    All-map (λ (leaf : M.NewLeaf). leaf.bucket.depth ≤ c.args.rules.now.depth) as_leaf c.walk.new.leaves.made.items
    (λ k d inside. (c.walk.ensures.kept.made k d inside).fit.depth) in
    let least : depth_after (as_directory c.args.directory.now)
    (map as_leaf c.walk.new.leaves.made.items) ≤ c.args.rules.now.depth =
    depth_after-least (as_directory c.args.directory.now) (map as_leaf c.walk.new.leaves.made.items)
    c.args.rules.now.depth c.requires.depth shallow in
    subst (λ (l : List NewLeaf). depth_after (as_directory c.args.directory.now) (map as_leaf l) ≤ 32)
    (sym c.deref.ensures.value)
    (omega (arith, least, c.requires.range.depth))

pub with_leaves-requires-clause-room : goal.with_leaves-requires-clause-room
with_leaves-requires-clause-room c =
    let shallow : All (λ (leaf : M.NewLeaf). leaf.bucket.depth ≤ c.args.rules.now.depth)
    (map as_leaf c.walk.new.leaves.made.items) =
    All-map (λ (leaf : M.NewLeaf). leaf.bucket.depth ≤ c.args.rules.now.depth) as_leaf c.walk.new.leaves.made.items
    (λ k d inside. (c.walk.ensures.kept.made k d inside).fit.depth) in
    let least : depth_after (as_directory c.args.directory.now)
    (map as_leaf c.walk.new.leaves.made.items) ≤ c.args.rules.now.depth =
    depth_after-least (as_directory c.args.directory.now) (map as_leaf c.walk.new.leaves.made.items)
    c.args.rules.now.depth c.requires.depth shallow in
    subst (λ (l : List NewLeaf). 2 ^ depth_after (as_directory c.args.directory.now)
    (map as_leaf l) ≤ vec_capacity c.args.self.now.state.entries) (sym c.deref.ensures.value)
    (omega (
      arith,
      fewer_places (depth_after (as_directory c.args.directory.now)
          (map as_leaf c.walk.new.leaves.made.items)) c.args.rules.now.depth least,
      c.requires.room.places,
    ))
