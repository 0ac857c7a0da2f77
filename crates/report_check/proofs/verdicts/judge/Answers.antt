use Rattle.report_reading.specs.declared.kept.Kept.{Kept}
use Rattle.report_check.proofs.KeptLemmas.{has_facts}
use Rattle.report_check.proofs.VerdictLemmas.{judged_so}
use Rattle.report_check.proofs.verdicts.judge.Goals as goal

pub returns : goal.returns
returns c =
    (let kept : Kept = c.args.kept in
    let sorted : Kept = record kept { pending = c.sort_by_packet.new.pending } in
    judged_so kept sorted c.calls_verdict.result c.calls_verdict.ensures
    (λ told is in_grammar. has_facts kept sorted.pending told is in_grammar c.sort_by_packet.ensures.same
    c.sort_by_packet.ensures.sorted))
