-- The words are those of the plan.
use Rattle.std.proofs.Common.{◌+◌, ◌*◌}
use Rattle.exchange_opening.proofs.memory.memory_for.Goals as goal

pub returns-clause-kept : goal.returns-clause-kept
returns-clause-kept c h = λ i.
    8 * (c.words_for-words.ensures.value h i + c.args.sizes.seats * (368 + 2 * c.args.sizes.spare))
