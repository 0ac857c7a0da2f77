-- What the seats of a closed table leave of a run, for the order of its calls.
use Rattle.std.specs.Prelude.{◌≡◌, ℕ, List, [], length, map, Some, slice_get}
use Rattle.plain_map.specs.declared.records.Record.{Record}
use Rattle.table_model.specs.Setup.{Setup, seats_of}
use Rattle.table_model.specs.Closing.{IsOfARun}
use Rattle.shared_table.specs.SeatValues.{SeatValue, account_of}
use Rattle.shared_table.specs.Values.{Ran}

-- the calls that they answered
abbrev pub logs_of : List SeatValue → List (List Record)
logs_of seats = map (λ s. (account_of s).records) seats

-- all seats, by number
pub record AreInTurn (setup : Setup) (seats : List SeatValue) : Type 0 where
  pub all : length seats ≡ seats_of setup
  pub numbers : (seat : ℕ) (s : SeatValue) → slice_get seats seat ≡ Some s → s.holding.seat ≡ seat

-- the words and these calls are what a run leaves, so they have their one order
abbrev pub ClosedIsOfARun : Type 0
ClosedIsOfARun =
    (setup : Setup) (words : List ℕ) (seats : List SeatValue) → Ran setup words seats → AreInTurn setup seats →
    IsOfARun setup.shape words (logs_of seats) []
