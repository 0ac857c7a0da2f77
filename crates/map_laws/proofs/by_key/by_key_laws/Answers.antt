use Rattle.map_laws.proofs.ByKeyLists.{agreeing_permuted}
use Rattle.map_laws.proofs.ByKeyHeld.{records_are_made, keys_held, agreeing_hold}
use Rattle.map_laws.proofs.ByKeyLooks.{looks_can_be_set_in}
use Rattle.map_laws.proofs.by_key.by_key_laws.Goals as goal

pub returns : goal.returns
returns c = record {
  records = records_are_made;
  held = keys_held;
  permuted = agreeing_permuted;
  sessions = agreeing_hold;
  looks = looks_can_be_set_in;
}
