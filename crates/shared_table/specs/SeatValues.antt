-- What contracts see of a seat.
use Rattle.std.specs.Prelude.{◌≡◌}
use Rattle.atomic_table.specs.Seated.{TableId}
use Rattle.table_model.specs.SeatStates.{Account, Idle}
use Rattle.table_model.specs.Shown.{Holding}

-- its table, its number, what it was opened with, its state, and what it knows of the run
pub record SeatValue : Type 0 where
  pub table_id : TableId
  pub holding : Holding

-- the calls that it has answered, and what it has published
abbrev pub account_of : SeatValue → Account
account_of s = s.holding.state.account

-- it makes no call
abbrev pub IsIdle : SeatValue → Type 0
IsIdle s = s.holding.state.stand ≡ Idle
