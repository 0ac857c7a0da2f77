use Rattle.std.proofs.Common.{◌∙◌}
use Rattle.report_check.proofs.WholeLemmas.{known_answer, known_effect}
use Rattle.report_check.proofs.whole.is_known.Goals as goal

pub returns-in-Some : goal.returns-in-Some
returns-in-Some c = λ are.
    known_answer c.args.calls.now c.args.pending.now c.args.packet c.in-Some.field-0.now
    (c.in-Some.ensures are.calls_sorted)

pub returns-in-None : goal.returns-in-None
returns-in-None c = λ are.
    c.is_effect.ensures are.pending_sorted (are.once c.args.packet)
    ∙ known_effect c.args.calls.now c.args.pending.now c.args.packet (c.in-None.ensures are.calls_sorted)
