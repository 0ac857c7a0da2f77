use Rattle.blank_laws.proofs.Exchanges.{exchanges_are_elsewhere}
use Rattle.blank_laws.proofs.Others.{others_leave_own_rows}
use Rattle.blank_laws.proofs.Opened.{own_rows_open_blank}
use Rattle.blank_laws.proofs.laws.own_row_laws.Goals as goal

pub returns : goal.returns
returns c = record {
  open_blank = own_rows_open_blank;
  others_leave = others_leave_own_rows;
  elsewhere = exchanges_are_elsewhere;
}
