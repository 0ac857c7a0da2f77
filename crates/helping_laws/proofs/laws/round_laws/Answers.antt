use Rattle.helping_laws.proofs.Changeable.{tries_can_change}
use Rattle.helping_laws.proofs.Rounds.{before_second_find, in_second_round, before_last_find, before_last_look, lost_buckets_show, lost_roots_show}
use Rattle.helping_laws.proofs.laws.round_laws.Goals as goal

pub returns : goal.returns
returns c = record {
  before_second = before_second_find;
  in_second = in_second_round;
  before_last = before_last_find;
  before_look = before_last_look;
  lost_buckets = lost_buckets_show;
  lost_roots = lost_roots_show;
  can_change = tries_can_change;
}
