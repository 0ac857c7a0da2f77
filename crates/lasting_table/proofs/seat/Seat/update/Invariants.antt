use Rattle.std.proofs.Common.{[], ◌∷◌}
use Rattle.lasting_model.specs.Goes.{Called}
use Rattle.lasting_table.specs.Calls.{holding_of}
use Rattle.lasting_table.proofs.seat.Seat.update.Given as goal

abbrev pub ghosts-run_update : goal.ghosts-run_update
ghosts-run_update a = record {
  asked = Called a.call.now;
  tries = 0;
  since = record { table_id = a.token.table_id; holding = holding_of a.words.now.key a.token.me } ∷ [];
}
