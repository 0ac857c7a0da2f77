use Rattle.helping_laws.proofs.Stays.{rows_stay, op_rows_stay, words_never_return}
use Rattle.helping_laws.proofs.Growing.{lines_grow}
use Rattle.helping_laws.proofs.Retired.{buckets_leave_frozen}
use Rattle.helping_laws.proofs.laws.line_laws.Goals as goal

pub returns : goal.returns
returns c = record {
  rows = rows_stay;
  op_rows = op_rows_stay;
  lines = lines_grow;
  words = words_never_return;
  buckets = buckets_leave_frozen;
}
