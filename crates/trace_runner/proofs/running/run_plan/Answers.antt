-- `check` notes no place, whatever place is noted.
use Rattle.std.proofs.Common.{subst, sym}
use Rattle.command_line.specs.declared.plan.Mode.{Mode}
use Rattle.mode_parts.specs.Edges.{edges}
use Rattle.trace_runner.specs.Does.{DoesMode}
use Rattle.trace_runner.proofs.running.run_plan.Goals as goal

pub returns-in-Check-clause-does : goal.returns-in-Check-clause-does
returns-in-Check-clause-does g c =
    let before = edges g.S.Source g.K.Sink c.args.source.now c.args.sink.now c.args.beyond.now in
    let after = edges g.S.Source g.K.Sink c.check.new.source c.check.new.sink c.args.beyond.now in
    subst (λ (mode : Mode). DoesMode mode c.args.plan.now before after c.check.result) (sym c.in-Check.is)
    (c.check.ensures.does c.args.beyond.now)
