use Rattle.std.proofs.Common.{[], ◌∷◌}
use Rattle.exchange_model.specs.Goes.{Copied}
use Rattle.exchange_model.specs.Worlds.{LOOK_TRIES}
use Rattle.exchange_table.specs.Calls.{holding_of}
use Rattle.exchange_table.proofs.seat.Seat.copy.Given as goal

abbrev pub ghosts-run_copy : goal.ghosts-run_copy
ghosts-run_copy a = record {
  asked = Copied a.bucket;
  tries = LOOK_TRIES;
  since = record { table_id = a.token.table_id; holding = holding_of a.words.now.key a.token.me } ∷ [];
}
