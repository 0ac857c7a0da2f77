use Rattle.std.proofs.Common.{List, Vec, Global, map, sym, ap, ◌∙◌}
use Rattle.std.proofs.lemmas.List.{take_all}
use Rattle.std.proofs.lemmas.Simd.{map-map}
use Rattle.trace_share.specs.declared.outcome.Outcome.{Outcome}
use Rattle.trace_share.specs.Outcomes.{records_in}
use Rattle.batch_runner.proofs.outcomes.records_of.Goals as goal

pub returns : goal.returns
returns c =
    let item : Vec Outcome Global → List Outcome = λ (log : Vec Outcome Global). log.items in
    c.loop-log.invariant
    ∙ ap (map (λ (log : Vec Outcome Global). records_in log.items))
    (take_all c.loop-log.log-index c.args.logs.now c.loop-log-test.false)
    ∙ sym (map-map records_in item c.args.logs.now)
