use Rattle.batch_laws.proofs.Logs.{answered_are_records}
use Rattle.batch_laws.proofs.Rooms.{batch_is_answered}
use Rattle.batch_laws.proofs.laws.room_laws.Goals as goal

pub returns : goal.returns
returns c = record { none = batch_is_answered; records = answered_are_records }
