use Rattle.order_laws.proofs.Promised.{order_is_never_stuck, order_is_legal, order_is_after, order_is_whole}
use Rattle.order_laws.proofs.laws.one_order_laws.Goals as goal

pub returns : goal.returns
returns c =
    record {
      never_stuck = order_is_never_stuck;
      legal = order_is_legal;
      after = order_is_after;
      whole = order_is_whole;
    }
