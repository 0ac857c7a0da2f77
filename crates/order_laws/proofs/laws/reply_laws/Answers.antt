use Rattle.order_laws.proofs.Answered.{replies_are_of_rows, answered_are_applied}
use Rattle.order_laws.proofs.laws.reply_laws.Goals as goal

pub returns : goal.returns
returns c = record { replies = replies_are_of_rows; applied = answered_are_applied }
