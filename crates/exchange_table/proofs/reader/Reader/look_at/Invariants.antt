use Rattle.std.proofs.Common.{[], ◌∷◌}
use Rattle.exchange_model.specs.Goes.{Copied}
use Rattle.exchange_table.specs.Calls.{holding_of}
use Rattle.exchange_table.proofs.reader.Reader.look_at.Given as goal

abbrev pub ghosts-run_look : goal.ghosts-run_look
ghosts-run_look a = record {
  asked = Copied a.bucket;
  tries = a.tries;
  since = record { table_id = a.token.table_id; holding = holding_of a.words.now.key a.token.me } ∷ [];
}
