use Rattle.std.proofs.Common.{◌∙◌}
use Rattle.table_uses.proofs.two_callers.remember_both.Goals as goal

pub held-requires-clause-two : goal.held-requires-clause-two
held-requires-clause-two g c = c.in_ok-directory.ensures.seats ∙ c.in_ok-settings.ensures
