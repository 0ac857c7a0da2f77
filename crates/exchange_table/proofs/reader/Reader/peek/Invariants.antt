use Rattle.std.proofs.Common.{[], ◌∷◌}
use Rattle.plain_map.specs.declared.calls.Call.TheVariants.{Lookup}
use Rattle.exchange_model.specs.Goes.{Called}
use Rattle.exchange_table.specs.Calls.{holding_of}
use Rattle.exchange_table.proofs.reader.Reader.peek.Given as goal

abbrev pub ghosts-run_peek : goal.ghosts-run_peek
ghosts-run_peek a = record {
  asked = Called (Lookup a.key.now);
  tries = a.tries;
  since = record { table_id = a.token.table_id; holding = holding_of a.words.now.key a.token.me } ∷ [];
}
