use Rattle.std.proofs.Common.{All, map, sym, ap, subst, ◌∙◌}
use Rattle.dir_states.specs.Rooms.{IsMade}
use Rattle.dir_states.specs.Views.{as_leaf}
use Rattle.dir_states.proofs.LeafLemmas.{add_leaf-at}
use Rattle.dir_states.proofs.RoomLemmas.{All-insert}
use Rattle.dir_states.proofs.leaves.add_leaf.Goals as goal

pub returns-clause-added : goal.returns-clause-added
returns-clause-added c =
    ap (λ leaves. map as_leaf leaves) c.in-Ok.ensures.items
    ∙ sym (add_leaf-at c.args.table.now.rules c.args.leaf c.args.leaves.now.items c.place_among-place.result
    (rw c.deref.ensures.value at c.place_among-place.ensures.within)
    (rw c.deref.ensures.value at c.place_among-place.ensures.before)
    (rw c.deref.ensures.value at c.place_among-place.ensures.here))

pub returns-clause-made : goal.returns-clause-made
returns-clause-made c =
    subst (All (IsMade c.args.table.now)) (sym c.in-Ok.ensures.items)
    (All-insert (IsMade c.args.table.now) c.args.leaves.now.items c.place_among-place.result c.args.leaf
    c.requires.made c.requires.leaf)
