use Rattle.std.proofs.Common.{[], ◌∷◌}
use Rattle.shared_table.specs.Rule.{plain}
use Rattle.shared_table.specs.Glancing.{front_of}
use Rattle.shared_table.proofs.reader.Reader.peek.Given as goal

abbrev pub ghosts-run_glance : goal.ghosts-run_glance
ghosts-run_glance a = record {
  key = a.key.now;
  since = record {
    table_id = a.token.table_id;
    opened = plain a.words.now.key;
    front = front_of a.words.now.key a.token.me;
  } ∷ [];
}
