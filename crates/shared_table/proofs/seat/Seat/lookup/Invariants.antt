use Rattle.std.proofs.Common.{[], ◌∷◌}
use Rattle.plain_map.specs.declared.calls.Call.TheVariants.{Lookup}
use Rattle.shared_table.specs.Calls.{holding_of}
use Rattle.shared_table.proofs.seat.Seat.lookup.Given as goal

abbrev pub ghosts-run_lookup : goal.ghosts-run_lookup
ghosts-run_lookup a = record {
  asked = (a.packet, Lookup a.key.now);
  was = record { table_id = a.hand.token.table_id; holding = holding_of a.words.now.key a.hand.token.me } ∷ [];
}
