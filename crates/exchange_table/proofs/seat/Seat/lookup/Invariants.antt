use Rattle.std.proofs.Common.{[], ◌∷◌}
use Rattle.plain_map.specs.declared.calls.Call.TheVariants.{Lookup}
use Rattle.exchange_model.specs.Goes.{Called}
use Rattle.exchange_model.specs.Worlds.{LOOK_TRIES}
use Rattle.exchange_table.specs.Calls.{holding_of}
use Rattle.exchange_table.proofs.seat.Seat.lookup.Given as goal

abbrev pub ghosts-run_lookup : goal.ghosts-run_lookup
ghosts-run_lookup a = record {
  asked = Called (Lookup a.key.now);
  tries = LOOK_TRIES;
  since = record { table_id = a.token.table_id; holding = holding_of a.words.now.key a.token.me } ∷ [];
}
