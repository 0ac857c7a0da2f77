use Rattle.std.proofs.Common.{◌++◌, List, ap, ◌∙◌}
use Rattle.plain_map.specs.declared.keys.Key.{Key}
use Rattle.bucket_states.specs.Parts.{keys_of}
use Rattle.bound_laws.proofs.KeyCounts.{has}
use Rattle.batch_rows.specs.Counts.{AreInOrder}
use Rattle.batch_rows.proofs.DepthLemmas.{depth_alike, lesser_splits}
use Rattle.batch_rows.proofs.KeyLemmas.{all_keys}
use Rattle.batch_rows.proofs.OrderLemmas.{order_distinct}
use Rattle.batch_rows.proofs.splits.splits_of.Goals as goal

pub crowded-requires-clause-distinct : goal.crowded-requires-clause-distinct
crowded-requires-clause-distinct c =
    let begun : AreInOrder c.deref.result.now = rw c.deref.ensures.value c.keep_once.ensures.in_order in
    rw c.deref-2.ensures.value (order_distinct _ (c.in_ok-all.ensures.in_order begun c.requires.in_order))

pub crowded-requires-2-clause-distinct : goal.crowded-requires-2-clause-distinct
crowded-requires-2-clause-distinct c =
    rw c.deref-3.ensures.value (order_distinct _ c.keep_once.ensures.in_order)

pub returns-clause-depth : goal.returns-clause-depth
returns-clause-depth c =
    let first : List Key = keys_of c.args.first.now in
    let inserted : List Key = c.args.inserted.now in
    c.in_ok-after.ensures.depth
    ∙ depth_alike c.args.rules.now c.args.start c.deref-2.result.now (first ++ inserted)
    (all_keys first inserted c.in_ok-keys.keys.items c.keep_once.new.keys.items c.deref.result.now
    c.in_ok-all.all.items c.deref-2.result.now c.in_ok-keys.ensures c.keep_once.ensures.same c.deref.ensures.value
    c.in_ok-all.ensures.same c.deref-2.ensures.value)

pub returns-clause-exact : goal.returns-clause-exact
returns-clause-exact c =
    let first : List Key = keys_of c.args.first.now in
    let inserted : List Key = c.args.inserted.now in
    let both = all_keys first inserted c.in_ok-keys.keys.items c.keep_once.new.keys.items c.deref.result.now
    c.in_ok-all.all.items c.deref-2.result.now c.in_ok-keys.ensures c.keep_once.ensures.same c.deref.ensures.value
    c.in_ok-all.ensures.same c.deref-2.ensures.value in
    c.saturating_sub-splits.ensures
    ∙ lesser_splits c.args.rules.now c.args.start first inserted c.deref-3.result.now c.deref-2.result.now
    _ c.in_ok-before.before.prefixes c.in_ok-after.after.prefixes c.requires.within
    (λ q. ap (λ keys. has keys q) c.deref-3.ensures.value ∙ c.keep_once.ensures.same q
    ∙ ap (λ keys. has keys q) c.in_ok-keys.ensures)
    both
    (c.in_ok-after.ensures.depth
    ∙ depth_alike c.args.rules.now c.args.start c.deref-2.result.now (first ++ inserted) both)
    c.in_ok-before.ensures.exact c.in_ok-after.ensures.exact
