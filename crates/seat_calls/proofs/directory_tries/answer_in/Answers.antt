-- The leaf of the key is the first whose prefix the hash begins with.
use Rattle.std.proofs.Common.{◌≡◌, ◌+◌, ◌∙◌, ◌∷◌, Some, None, drop, get_or, suc, map, sym, ap, subst, arith}
use Rattle.std.specs.Prelude.{slice_index_or}
use Rattle.std.proofs.lemmas.List.{get_or_default}
use Rattle.plain_map.specs.Keys.{hash_of_key}
use Rattle.plain_map.specs.declared.keys.Key.{Key}
use Rattle.table_model.specs.Goes.{answered_by_leaf, answered_with}
use Rattle.dir_states.specs.declared.values.NewLeaf.{NewLeaf as PlainLeaf}
use Rattle.dir_states.specs.Views.{as_leaf}
use Rattle.seat_calls.specs.Desks.{settings_at}
use Rattle.seat_calls.specs.Puts.{CanBeSpelled}
use Rattle.seat_calls.proofs.LeafLemmas.{answer_here, answer_later}
use Rattle.seat_calls.proofs.PutLemmas.{leaf_all, leaf_at}
use Rattle.seat_calls.proofs.directory_tries.answer_in.Goals as goal

pub bits-requires : goal.bits-requires
bits-requires c =
    let leaf : PlainLeaf = get_or c.args.leaves.now c.loop-i.i c.index-leaves-i.result in
    let fits = leaf_all (CanBeSpelled (settings_at c.args.desk.now) c.requires.loaded.0) c.args.leaves.now c.loop-i.i
    c.index-leaves-i.result
    c.requires.loaded.1 c.loop-i-test.true c.index-leaves-i.is in
    let here = subst (λ (x : PlainLeaf). CanBeSpelled (settings_at c.args.desk.now) c.requires.loaded.0 (as_leaf x))
    c.index-leaves-i.is fits in
    omega (arith, here.depth)

pub index-requires : goal.index-requires
index-requires c =
    let leaf : PlainLeaf = get_or c.args.leaves.now c.loop-i.i c.index-leaves-i.result in
    let fits = leaf_all (CanBeSpelled (settings_at c.args.desk.now) c.requires.loaded.0) c.args.leaves.now c.loop-i.i
    c.index-leaves-i.result
    c.requires.loaded.1 c.loop-i-test.true c.index-leaves-i.is in
    let here = subst (λ (x : PlainLeaf). CanBeSpelled (settings_at c.args.desk.now) c.requires.loaded.0 (as_leaf x))
    c.index-leaves-i.is fits in
    omega (arith, here.seats.each_reply, leaf.bucket.replies.ok.0, c.args.desk.now.within)

pub loop-i-preserved : goal.loop-i-preserved
loop-i-preserved c = record {
  rest = λ flight same.
      let desk = c.args.desk.now in
      let i = c.loop-i.i in
      let row = c.args.row in
      let leaf : PlainLeaf = get_or c.args.leaves.now i c.index-leaves-i.result in
      let after = drop (suc i) (map as_leaf c.args.leaves.now) in
      let cut = leaf_at c.args.leaves.now i c.index-leaves-i.result c.loop-i-test.true c.index-leaves-i.is
      ∙ ap (λ (x : PlainLeaf). as_leaf x ∷ after) c.index-leaves-i.is in
      let is = c.requires.own.hash ∙ ap (λ (k : Key). hash_of_key desk.rules.hashing k) same in
      let sum : row + i + 1 ≡ row + (i + 1) = omega arith in
      let next : suc i ≡ i + 1 = omega arith in
      c.loop-i.invariant.rest flight same ∙ ap (answered_by_leaf desk.rules desk.seat flight (row + i)) cut
      ∙ answer_later desk.rules desk.seat flight (row + i) (as_leaf leaf) after c.args.own.now.key.hash c.bits.result
      is c.bits.ensures.value c.if-bits-leaf.false
      ∙ (λ k. answered_by_leaf desk.rules desk.seat flight (sum k) (drop (next k) (map as_leaf c.args.leaves.now)));
}

pub returns-in-Some : goal.returns-in-Some
returns-in-Some c flight same =
    let desk = c.args.desk.now in
    let i = c.loop-i.i in
    let row = c.args.row in
    let leaf : PlainLeaf = get_or c.args.leaves.now i c.index-leaves-i.result in
    let after = drop (suc i) (map as_leaf c.args.leaves.now) in
    let cut = leaf_at c.args.leaves.now i c.index-leaves-i.result c.loop-i-test.true c.index-leaves-i.is
    ∙ ap (λ (x : PlainLeaf). as_leaf x ∷ after) c.index-leaves-i.is in
    let is = c.requires.own.hash ∙ ap (λ (k : Key). hash_of_key desk.rules.hashing k) same in
    let there : slice_index_or leaf.bucket.replies.items desk.seat None ≡ Some c.in-Some.reply =
    get_or_default leaf.bucket.replies.items desk.seat None c.index.result.now
    (omega (arith, index-requires c.before.before, leaf.bucket.replies.ok.0))
    ∙ sym c.index.ensures ∙ c.in-Some.is in
    sym (c.loop-i.invariant.rest flight same ∙ ap (answered_by_leaf desk.rules desk.seat flight (row + i)) cut
    ∙ answer_here desk.rules desk.seat flight (row + i) (as_leaf leaf) after c.args.own.now.key.hash c.bits.result
    is c.bits.ensures.value c.if-bits-leaf.true
    ∙ ap (answered_with (row + i)) there)

pub returns-in-None : goal.returns-in-None
returns-in-None c flight same =
    let desk = c.args.desk.now in
    let i = c.loop-i.i in
    let row = c.args.row in
    let leaf : PlainLeaf = get_or c.args.leaves.now i c.index-leaves-i.result in
    let after = drop (suc i) (map as_leaf c.args.leaves.now) in
    let cut = leaf_at c.args.leaves.now i c.index-leaves-i.result c.loop-i-test.true c.index-leaves-i.is
    ∙ ap (λ (x : PlainLeaf). as_leaf x ∷ after) c.index-leaves-i.is in
    let is = c.requires.own.hash ∙ ap (λ (k : Key). hash_of_key desk.rules.hashing k) same in
    let there : slice_index_or leaf.bucket.replies.items desk.seat None ≡ None =
    get_or_default leaf.bucket.replies.items desk.seat None c.index.result.now
    (omega (arith, index-requires c.before.before, leaf.bucket.replies.ok.0))
    ∙ sym c.index.ensures ∙ c.in-None.is in
    sym (c.loop-i.invariant.rest flight same ∙ ap (answered_by_leaf desk.rules desk.seat flight (row + i)) cut
    ∙ answer_here desk.rules desk.seat flight (row + i) (as_leaf leaf) after c.args.own.now.key.hash c.bits.result
    is c.bits.ensures.value c.if-bits-leaf.true
    ∙ ap (answered_with (row + i)) there)
