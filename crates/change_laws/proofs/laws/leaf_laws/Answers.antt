use Rattle.change_laws.proofs.Weak.{leaves_take_hashes, leaves_are_good, leaves_are_small, ops_are_carried, ops_are_in_leaves, frozen_are_replaced, leaves_are_few}
use Rattle.change_laws.proofs.laws.leaf_laws.Goals as goal

pub returns : goal.returns
returns c =
    record {
      hashes = leaves_take_hashes;
      good = leaves_are_good;
      small = leaves_are_small;
      carried = ops_are_carried;
      own = ops_are_in_leaves;
      replaced = frozen_are_replaced;
      few = leaves_are_few;
    }
