use Rattle.std.proofs.Common.{◌∙◌, ◌^◌, ap}
use Rattle.std.proofs.lemmas.List.Elements.{All-push}
use Rattle.word_rows.specs.Shape.{AreBelow}
use Rattle.batch_rows.specs.BatchRows.{updates_in_calls}
use Rattle.play_mode.proofs.PlayLemmas.{all_ranges, few_ranges, more_ranges}
use Rattle.play_mode.proofs.playing.ranges_for.Goals as goal

pub loop-share-preserved : goal.loop-share-preserved
loop-share-preserved c = record {
  rows = more_ranges c.args.settings.now c.args.shares.now c.loop-share.share-index c.updates_of.result
      c.share-item.result c.automatic_rows.result c.loop-share.rows.items c.push.new.self.items c.loop-share-test.true
      c.share-item.is (c.updates_of.ensures.count ∙ ap updates_in_calls c.deref.ensures.value) c.automatic_rows.ensures
      c.in_ok-push.ensures.items c.loop-share.invariant.rows;
  below = rw c.in_ok-push.ensures.items (All-push (AreBelow (2 ^ 32)) c.loop-share.rows.items c.automatic_rows.result
      c.loop-share.invariant.below
      (few_ranges c.args.settings.now c.updates_of.result c.automatic_rows.result c.automatic_rows.ensures
      c.updates_of.ensures.few));
}

pub returns-clause-rows : goal.returns-clause-rows
returns-clause-rows c =
    all_ranges c.args.settings.now c.args.given c.args.shares.now c.loop-share.share-index c.loop-share.rows.items
    c.in_default.is c.loop-share-test.false c.loop-share.invariant.rows
