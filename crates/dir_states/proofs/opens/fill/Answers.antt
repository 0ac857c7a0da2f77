use Rattle.std.proofs.Common.{◌≡◌, ◌≤◌, ◌<◌, ◌^◌, List, [], length, map, take, get_or, sym, subst, ap, ◌∙◌, arith}
use Rattle.std.specs.Prelude.{vec_capacity}
use Rattle.std.proofs.lemmas.List.{get_or-map, length-map, take_all}
use Rattle.std.proofs.lemmas.List.Elements.{All-set}
use Rattle.plain_map.specs.declared.keys.Pair.{Pair}
use Rattle.table_model.specs.DirectoryChange.{depth_after}
use Rattle.table_model.specs.Directories.{DirectoryState}
use Rattle.table_model.specs.Opening.{opening_directory}
use Rattle.table_model.specs.Leaves as M
use Rattle.dir_states.specs.declared.values.NewLeaf.{NewLeaf}
use Rattle.dir_states.specs.Openings.{IsOpen}
use Rattle.dir_states.specs.Views.{as_directory, as_leaf}
use Rattle.dir_states.proofs.NumberLemmas.{fewer_places}
use Rattle.dir_states.proofs.FillLemmas.{prefix-all, base, base-shallow, first-shallow, leaves_with, opening-is, put-inside, put-room, put-leaves, same-places, with_leaves-same}
use Rattle.dir_states.proofs.opens.fill.Goals as goal

pub unnamed-requires-clause-room : goal.unnamed-requires-clause-room
unnamed-requires-clause-room c =
    omega (
      arith,
      fewer_places c.args.start c.args.table.now.rules.depth c.requires.can.within,
      c.requires.room.base_places,
    )

pub with_leaves-requires-clause-depth : goal.with_leaves-requires-clause-depth
with_leaves-requires-clause-depth c =
    let r = c.args.table.now.rules in
    let shallow = base-shallow r c.args.table.now.seats c.args.start c.args.first.now c.requires.can in
    let list : map as_leaf c.deref.result.now ≡ leaves_with r c.args.table.now.seats c.args.start c.args.first.now
    c.requires.can [] =
    ap (λ (l : List NewLeaf). map as_leaf l) c.deref.ensures.value ∙ c.requires.leaves in
    let same : depth_after (as_directory c.unnamed.new.directory) (map as_leaf c.deref.result.now) ≡ depth_after
    (base r c.args.table.now.seats c.args.start c.args.first.now c.requires.can)
    (leaves_with r c.args.table.now.seats c.args.start c.args.first.now c.requires.can []) =
    ap (λ (d : DirectoryState). depth_after d (map as_leaf c.deref.result.now)) c.unnamed.ensures.state
    ∙ ap (depth_after (base r c.args.table.now.seats c.args.start c.args.first.now c.requires.can)) list in
    omega (arith, same, shallow, c.requires.can.range.depth)

pub with_leaves-requires-clause-prefixes : goal.with_leaves-requires-clause-prefixes
with_leaves-requires-clause-prefixes c = λ k d lt.
    let r = c.args.table.now.rules in
    let list : map as_leaf c.deref.result.now ≡ leaves_with r c.args.table.now.seats c.args.start c.args.first.now
    c.requires.can [] =
    ap (λ (l : List NewLeaf). map as_leaf l) c.deref.ensures.value ∙ c.requires.leaves in
    let long : length c.deref.result.now ≡ length
    (leaves_with r c.args.table.now.seats c.args.start c.args.first.now c.requires.can []) =
    sym (length-map c.deref.result.now as_leaf) ∙ ap length list in
    let leaf : get_or (leaves_with r c.args.table.now.seats c.args.start c.args.first.now c.requires.can []) k
    (as_leaf d) ≡ as_leaf (get_or c.deref.result.now k d) =
    ap (λ l. get_or l k (as_leaf d)) (sym list) ∙ get_or-map as_leaf c.deref.result.now k d (as_leaf d) lt in
    subst (λ (l : M.NewLeaf). l.bucket.prefix < 2 ^ l.bucket.depth) leaf
    (prefix-all r c.args.table.now.seats c.args.start c.args.first.now c.requires.can [] k (as_leaf d)
    (omega (arith, lt, long)))

pub with_leaves-requires-clause-room : goal.with_leaves-requires-clause-room
with_leaves-requires-clause-room c =
    let r = c.args.table.now.rules in
    let shallow = base-shallow r c.args.table.now.seats c.args.start c.args.first.now c.requires.can in
    let list : map as_leaf c.deref.result.now ≡ leaves_with r c.args.table.now.seats c.args.start c.args.first.now
    c.requires.can [] =
    ap (λ (l : List NewLeaf). map as_leaf l) c.deref.ensures.value ∙ c.requires.leaves in
    let same : depth_after (as_directory c.unnamed.new.directory) (map as_leaf c.deref.result.now) ≡ depth_after
    (base r c.args.table.now.seats c.args.start c.args.first.now c.requires.can)
    (leaves_with r c.args.table.now.seats c.args.start c.args.first.now c.requires.can []) =
    ap (λ (d : DirectoryState). depth_after d (map as_leaf c.deref.result.now)) c.unnamed.ensures.state
    ∙ ap (depth_after (base r c.args.table.now.seats c.args.start c.args.first.now c.requires.can)) list in
    let fits : 2 ^ depth_after (base r c.args.table.now.seats c.args.start c.args.first.now c.requires.can)
    (leaves_with r c.args.table.now.seats c.args.start c.args.first.now c.requires.can []) ≤ vec_capacity
    c.args.out.now.state.entries =
    omega (
      arith,
      fewer_places (depth_after (base r c.args.table.now.seats c.args.start c.args.first.now
          c.requires.can) (leaves_with r c.args.table.now.seats c.args.start c.args.first.now c.requires.can []))
          r.depth shallow,
      c.requires.room.places,
    ) in
    subst (λ d. 2 ^ d ≤ vec_capacity c.args.out.now.state.entries) (sym same) fits

pub bucket_of-place-requires : goal.bucket_of-place-requires
bucket_of-place-requires c =
    let shallow = first-shallow c.args.table.now.rules c.args.table.now.seats c.args.start c.args.first.now
    c.requires.can in
    omega (
      arith,
      shallow,
      ap (λ (d : DirectoryState). d.depth) c.loop-pair.invariant.directory,
      c.requires.can.range.depth,
    )

pub index_mut-requires : goal.index_mut-requires
index_mut-requires c =
    let inside =
    put-inside c.args.table.now.rules c.args.table.now.seats c.args.start c.args.first.now c.requires.can
    c.loop-pair.pair-index _ c.loop-pair-test.true
    c.loop-pair.out.leaves.made.items c.loop-pair.invariant.filled
    (as_directory c.loop-pair.out.state) c.loop-pair.invariant.directory c.bucket_of-place.result
    c.bucket_of-place.ensures in
    omega (arith, inside, c.loop-pair.out.leaves.made.ok.0)

pub push_reserved-requires : goal.push_reserved-requires
push_reserved-requires c =
    let inside =
    put-inside c.args.table.now.rules c.args.table.now.seats c.args.start c.args.first.now c.requires.can
    c.loop-pair.pair-index _ c.loop-pair-test.true
    c.loop-pair.out.leaves.made.items c.loop-pair.invariant.filled
    (as_directory c.loop-pair.out.state) c.loop-pair.invariant.directory c.bucket_of-place.result
    c.bucket_of-place.ensures in
    let room =
    put-room c.args.table.now.rules c.args.table.now.seats c.args.start c.args.first.now c.requires.can
    c.loop-pair.pair-index _ c.loop-pair-test.true
    c.loop-pair.out.leaves.made.items c.loop-pair.invariant.filled
    (as_directory c.loop-pair.out.state) c.loop-pair.invariant.directory c.bucket_of-place.result
    c.bucket_of-place.ensures
    c.index_mut.result.now c.index_mut.ensures.value in
    let open_ : IsOpen c.args.table.now.seats c.args.table.now.rules.items c.index_mut.result.now =
    subst (IsOpen c.args.table.now.seats c.args.table.now.rules.items) (sym c.index_mut.ensures.value)
    (c.loop-pair.invariant.room.leaves.made c.bucket_of-place.result c.index_mut.result.now inside) in
    omega (arith, room, open_.room, c.index_mut.result.now.bucket.items.ok.0)

pub loop-pair-preserved : goal.loop-pair-preserved
loop-pair-preserved c =
    let r = c.args.table.now.rules in
    let seats = c.args.table.now.seats in
    let open_at : NewLeaf → Type 0 = IsOpen seats r.items in
    let inside =
    put-inside r seats c.args.start c.args.first.now c.requires.can c.loop-pair.pair-index _ c.loop-pair-test.true
    c.loop-pair.out.leaves.made.items c.loop-pair.invariant.filled
    (as_directory c.loop-pair.out.state) c.loop-pair.invariant.directory c.bucket_of-place.result
    c.bucket_of-place.ensures in
    let new : NewLeaf = record {
      from = c.index_mut.result.now.from;
      bucket = record {
        prefix = c.index_mut.result.now.bucket.prefix;
        depth = c.index_mut.result.now.bucket.depth;
        frozen = c.index_mut.result.now.bucket.frozen;
        items = c.push_reserved.new.self;
        applied = c.index_mut.result.now.bucket.applied;
        replies = c.index_mut.result.now.bucket.replies;
      };
    } in
    let was : open_at c.index_mut.result.now =
    subst open_at (sym c.index_mut.ensures.value)
    (c.loop-pair.invariant.room.leaves.made c.bucket_of-place.result c.index_mut.result.now inside) in
    let now : open_at new = record {
      applied = was.applied;
      replies = was.replies;
      room = omega (arith, was.room, c.push_reserved.ensures.capacity);
    } in
    let filled =
    put-leaves r seats c.args.start c.args.first.now c.requires.can c.loop-pair.pair-index _ c.loop-pair-test.true
    c.loop-pair.out.leaves.made.items c.loop-pair.invariant.filled
    (as_directory c.loop-pair.out.state) c.loop-pair.invariant.directory c.bucket_of-place.result
    c.bucket_of-place.ensures
    c.index_mut.result.now c.index_mut.ensures.value new
    (ap (λ (l : List Pair). record (as_leaf c.index_mut.result.now) {
      bucket = record
          (as_leaf c.index_mut.result.now).bucket { items = l };
    }) c.push_reserved.ensures.items) in
    record {
      directory = c.loop-pair.invariant.directory;
      filled = filled;
      room = record {
        for_seats = c.loop-pair.invariant.room.for_seats;
        shallow = c.loop-pair.invariant.room.shallow;
        places = c.loop-pair.invariant.room.places;
        base_places = c.loop-pair.invariant.room.base_places;
        counts = c.loop-pair.invariant.room.counts;
        leaves = record {
          made = All-set open_at c.loop-pair.out.leaves.made.items c.bucket_of-place.result new now
              c.loop-pair.invariant.room.leaves.made;
          spare = c.loop-pair.invariant.room.leaves.spare;
          all = c.loop-pair.invariant.room.leaves.all;
          made_room = c.loop-pair.invariant.room.leaves.made_room;
          spare_room = c.loop-pair.invariant.room.leaves.spare_room;
        };
      };
    }

pub returns-clause-leaves : goal.returns-clause-leaves
returns-clause-leaves c =
    let r = c.args.table.now.rules in
    let seats = c.args.table.now.seats in
    c.loop-pair.invariant.filled
    ∙ ap (leaves_with r seats c.args.start c.args.first.now c.requires.can)
    (take_all c.loop-pair.pair-index c.args.first.now c.loop-pair-test.false)
    ∙ sym (opening-is r seats c.args.start c.args.first.now c.requires.can)

pub returns-clause-state : goal.returns-clause-state
returns-clause-state c =
    let r = c.args.table.now.rules in
    let seats = c.args.table.now.seats in
    c.loop-pair.invariant.directory
    ∙ with_leaves-same 0 (leaves_with r seats c.args.start c.args.first.now c.requires.can [])
    (leaves_with r seats c.args.start c.args.first.now c.requires.can
    (take c.loop-pair.pair-index c.args.first.now))
    (base r seats c.args.start c.args.first.now c.requires.can)
    (same-places r seats c.args.start c.args.first.now c.requires.can [] (take c.loop-pair.pair-index c.args.first.now))
    ∙ ap (opening_directory c.args.start) (sym c.loop-pair.invariant.filled)
