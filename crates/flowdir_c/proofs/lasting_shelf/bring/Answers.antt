use Rattle.std.proofs.Common.{Err, inl, get_or, refl, ap, ◌∙◌, subst}
use Rattle.plain_map.specs.declared.calls.Reply.{Reply}
use Rattle.plain_map.specs.Keys.{no_pair}
use Rattle.lasting_model.specs.Goes.{Called, Replied}
use Rattle.lasting_table.specs.Values.{Answers}
use Rattle.flowdir_c.specs.LastingShelves.{bringing}
use Rattle.flowdir_c.proofs.LastingLemmas.{brought_next, same_twice, spent_cause, stopped_at}
use Rattle.flowdir_c.proofs.lasting_shelf.bring.Goals as goal

-- a seat that can make no more updates is stopped
pub returns-in_default-clause-stopped : goal.returns-in_default-clause-stopped
returns-in_default-clause-stopped c = λ is.
    stopped_at c.args.pairs.now c.loop-pair.pair-index c.args.seat.now c.loop-pair.seat c.update.new.self
    c.loop-pair-test.true c.loop-pair.invariant.brought
    (spent_cause (get_or c.args.pairs.now c.loop-pair.pair-index no_pair) c.loop-pair.seat c.update.new.self
    c.in_default.field-0 (λ e. c.update.ensures.updates.0 (c.in_default.is ∙ ap Err e))
    (λ e. (c.update.ensures.asked.0 (c.in_default.is ∙ ap Err e)).1))

-- and so is one whose pair is not new
pub returns-then-not-is_new-clause-stopped : goal.returns-then-not-is_new-clause-stopped
returns-then-not-is_new-clause-stopped c = λ is.
    stopped_at c.args.pairs.now c.loop-pair.pair-index c.args.seat.now c.loop-pair.seat c.update.new.self
    c.loop-pair-test.true c.loop-pair.invariant.brought (inl (
      c.in-Ok.reply,
      c.if-not-is_new.ensures.other refl,
      c.update.ensures.answered c.in-Ok.reply c.in-Ok.is,
    ))

-- one pair more was new
pub loop-pair-preserved : goal.loop-pair-preserved
loop-pair-preserved c = record {
  same = same_twice c.args.seat.now c.loop-pair.seat c.update.new.self c.loop-pair.invariant.same c.update.ensures.same;
  brought = brought_next c.args.pairs.now c.loop-pair.pair-index c.args.seat.now c.loop-pair.seat c.update.new.self
      c.loop-pair-test.true c.loop-pair.invariant.brought
      (subst (λ (r : Reply). Answers (Called (bringing (get_or c.args.pairs.now c.loop-pair.pair-index no_pair)))
      (Replied r) c.loop-pair.seat c.update.new.self) (c.if-not-is_new.ensures.new refl)
      (c.update.ensures.answered c.in-Ok.reply c.in-Ok.is));
}
