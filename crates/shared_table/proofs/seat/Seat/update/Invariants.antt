use Rattle.std.proofs.Common.{[], ◌∷◌}
use Rattle.shared_table.specs.Calls.{holding_of}
use Rattle.shared_table.proofs.seat.Seat.update.Given as goal

abbrev pub ghosts-run_update : goal.ghosts-run_update
ghosts-run_update a = record {
  asked = (a.packet, a.call.now);
  was = record { table_id = a.hand.token.table_id; holding = holding_of a.words.now.key a.hand.token.me } ∷ [];
}
