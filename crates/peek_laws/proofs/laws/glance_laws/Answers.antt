use Rattle.peek_laws.proofs.Current.{rows_were_current}
use Rattle.peek_laws.proofs.Replies.{current_rows_reply}
use Rattle.peek_laws.proofs.laws.glance_laws.Goals as goal

pub returns : goal.returns
returns c = record { replies = current_rows_reply; were_current = rows_were_current }
