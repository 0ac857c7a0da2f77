-- What the core leaves is of a run, and the play that led there comes to it.
use Rattle.std.proofs.Common.{refl, ◌∙◌}
use Rattle.play_runner.proofs.Ends.{of_a_run, is_played}
use Rattle.play_runner.proofs.ending.ended.Goals as goal

pub order_left-requires : goal.order_left-requires
order_left-requires c = of_a_run c.args.core c.in-Ok.left c.moment.ensures c.in-Ok.ensures.left

pub returns : goal.returns
returns c = λ hands unbegun.
    is_played c.args.core c.in-Ok.left c.moment.ensures c.in-Ok.ensures.left c.args.outcomes.items
    (record {
      outcomes = c.in_ok-outcomes.outcomes;
      pending = c.in-Ok.left.begun;
      order = c.in_ok-order.order;
      pairs = c.in-Ok.left.pairs;
      leaves = c.len.result;
      depth = c.in-Ok.left.depth;
      unbegun = c.args.unbegun;
    })
    c.requires c.in_ok-outcomes.ensures.same c.in_ok-outcomes.ensures.in_order c.in_ok-order.ensures
    refl refl (c.len.ensures ∙ c.in-Ok.left.leaves.ok.0) refl hands unbegun
