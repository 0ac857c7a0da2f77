-- No call takes many steps.
use Rattle.std.proofs.Common.{◌∙◌, arith}
use Rattle.play_runner.proofs.Numbers.{bound_small, longest_is}
use Rattle.play_runner.proofs.hands.call_steps.Goals as goal

pub returns-clause-exact : goal.returns-clause-exact
returns-clause-exact c = c.bound.ensures ∙ longest_is c.args.settings.now

pub returns-clause-small : goal.returns-clause-small
returns-clause-small c = omega (arith, bound_small c.args.settings.now)
