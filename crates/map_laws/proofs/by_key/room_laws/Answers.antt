use Rattle.map_laws.proofs.ByKeyFree.{free_while_none_lacks_room, without_full_classes, answers_as_asked_in_turn}
use Rattle.map_laws.proofs.by_key.room_laws.Goals as goal

pub returns : goal.returns
returns c = record {
  none_lacks_room = free_while_none_lacks_room;
  free = without_full_classes;
  in_turn = answers_as_asked_in_turn;
}
