use Rattle.change_laws.proofs.NewDirectory.{directory_names_leaves, directory_stays_right, buckets_stay, replaced_are_left, depth_is_of_one}
use Rattle.change_laws.proofs.laws.directory_laws.Goals as goal

pub returns : goal.returns
returns c =
    record {
      names = directory_names_leaves;
      right = directory_stays_right;
      stay = buckets_stay;
      left = replaced_are_left;
      depth = depth_is_of_one;
    }
