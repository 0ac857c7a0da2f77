use Rattle.std.proofs.Common.{sym, ◌∙◌}
use Rattle.bucket_states.proofs.AnswerLemmas.{overflows-deepest}
use Rattle.bucket_states.proofs.leaves.answer_here.Goals as goal

pub unreachable-requires : goal.unreachable-requires
unreachable-requires c =
    let here = c.in-None.ensures.answer in
    let none = sym here.full ∙ overflows-deepest c.args.rules.now c.args.items.now.items c.args.call.now in cc
