use Rattle.std.proofs.Common.{◌∙◌}
use Rattle.table_uses.proofs.one_caller.remember.Goals as goal

pub held-requires-clause-one : goal.held-requires-clause-one
held-requires-clause-one c = c.in_ok-directory.ensures.seats ∙ c.in_ok-settings.ensures
