use Rattle.order_laws.proofs.Reopens.{pairs_reopen, pairs_reopen_in_any_turn, sorted_pairs_are_held, no_pair_lacks_room, next_opening_has_room}
use Rattle.order_laws.proofs.laws.reopen_laws.Goals as goal

pub returns : goal.returns
returns c = record {
  reopen = pairs_reopen;
  any_turn = pairs_reopen_in_any_turn;
  sorted = sorted_pairs_are_held;
  has_room = no_pair_lacks_room;
  next_has_room = next_opening_has_room;
}
