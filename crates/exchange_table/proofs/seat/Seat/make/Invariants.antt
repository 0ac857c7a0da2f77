use Rattle.std.proofs.Common.{[], ◌∷◌}
use Rattle.exchange_model.specs.Goes.{Called}
use Rattle.exchange_table.specs.Calls.{holding_of}
use Rattle.exchange_table.proofs.seat.Seat.make.Given as goal

abbrev pub ghosts-run_update : goal.ghosts-run_update
ghosts-run_update a = record {
  asked = Called a.call.now;
  tries = 0;
  since = record { table_id = a.token.table_id; holding = holding_of a.words.now.key a.token.me } ∷ [];
}
