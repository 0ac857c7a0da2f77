use Rattle.std.proofs.Common.{◌≡◌, ◌≢◌, ◌+◌, ◌≤◌, ap, sym, subst, ◌∙◌}
use Rattle.sim_steps.specs.Fields.{machine_of}
use Rattle.std.specs.Prelude.{is_some}
use Rattle.sim_steps.specs.Program.{Idle, is_idle}
use Rattle.sim_steps.proofs.Logs.{ends_idle}
use Rattle.sim_steps.specs.Machine.{Machine, left, takes}
use Rattle.sim_steps.proofs.Pace.{left_less}
use Rattle.sim_steps.proofs.machine.AddMachine.take.Goals as goal

pub returns-clause-sooner : goal.returns-clause-sooner
returns-clause-sooner c =
    let m : Machine = machine_of c.self.inside.program in
    let same : m ≡ c.args.self.now = c.self.view_is in
    let busy : m.phase ≢ Idle = λ h. c.requires (ap (λ (x : Machine). x.phase) (sym same) ∙ h) in
    let less : left (takes m c.args.word) + 1 ≤ left m =
    left_less m.desk m.caller c.args.word m.phase c.self.invariant.fit.short busy in
    subst (λ x. left (machine_of c.take.new.self) + 1 ≤ left x) same
    (subst (λ x. left x + 1 ≤ left m) (sym c.take.ensures.value) less)

pub returns-clause-ended : goal.returns-clause-ended
returns-clause-ended c =
    let m : Machine = machine_of c.self.inside.program in
    let same : m ≡ c.args.self.now = c.self.view_is in
    let busy : m.phase ≢ Idle = λ h. c.requires (ap (λ (x : Machine). x.phase) (sym same) ∙ h) in
    ap is_some c.take.ensures.answer ∙ ends_idle m.desk m.caller (m.steps + 1) m.phase c.args.word busy
    ∙ ap (λ (x : Machine). is_idle x.phase) (sym c.take.ensures.value)
