use Rattle.std.proofs.Common.{◌∙◌, ◌^◌, length, ap, arith}
use Rattle.std.proofs.lemmas.List.Elements.{All-push}
use Rattle.word_rows.specs.Shape.{AreBelow}
use Rattle.bound_laws.proofs.KeyCounts.{has}
use Rattle.batch_rows.proofs.RowLemmas.{all_seats, made_splits, made_table, one_more}
use Rattle.batch_rows.proofs.rows.sizes_for.Goals as goal

pub loop-updates-preserved : goal.loop-updates-preserved
loop-updates-preserved c = record {
  rows = one_more c.in-Ok.lesser c.in_ok-found.found.splits c.args.demand.now.updates.items
      c.deref-updates-items.result.now c.loop-updates.updates-index c.batch_rows.result c.loop-updates.rows.items
      c.push.new.self.items c.deref-updates-items.ensures.value c.loop-updates-test.true c.batch_rows.ensures.rows
      c.in_ok-push.ensures.items c.loop-updates.invariant.rows;
  below = rw c.in_ok-push.ensures.items (All-push (AreBelow (2 ^ 32)) c.loop-updates.rows.items c.batch_rows.result
      c.loop-updates.invariant.below c.batch_rows.ensures.below);
}

pub returns-clause-table : goal.returns-clause-table
returns-clause-table c = λ calls shares is.
    made_table c.args.settings.now c.in-Ok.lesser c.args.hashing c.args.given c.args.first.now calls c.deref.result.now
    c.in_ok-found.found.depth c.in_default.is (λ q. ap (λ keys. has keys q) c.deref.ensures.value ∙ is.inserted q)
    c.in-Ok.ensures.made c.in_ok-found.ensures.depth

pub returns-clause-rows : goal.returns-clause-rows
returns-clause-rows c = λ calls shares is.
    all_seats c.in-Ok.lesser c.args.hashing c.args.given c.args.first.now calls shares c.args.demand.now.updates.items
    c.loop-updates.updates-index c.in_ok-found.found.splits c.loop-updates.rows.items c.in_default.is is.updates
    (made_splits c.args.settings.now c.in-Ok.lesser c.args.hashing c.args.first.now calls c.deref.result.now
    c.in_ok-found.found.depth c.in_ok-found.found.splits
    (λ q. ap (λ keys. has keys q) c.deref.ensures.value ∙ is.inserted q) c.in-Ok.ensures.made
    c.in_ok-found.ensures.depth c.in_ok-found.ensures.exact)
    (omega (arith, c.loop-updates-test.false, ap length c.deref-updates-items.ensures.value))
    c.loop-updates.invariant.rows
