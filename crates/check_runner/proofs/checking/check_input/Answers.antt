use Rattle.std.proofs.Common.{◌≡◌, ◌∙◌, ℕ, List, Option, IfSome, subst}
use Rattle.edge_traits.specs.Edge.{AppendsFront}
use Rattle.check_runner.specs.declared.checking.Found.{Found}
use Rattle.check_runner.specs.Checked.{HasFound, line_of}
use Rattle.check_runner.proofs.CheckLemmas.{leaves_front}
use Rattle.check_runner.proofs.checking.check_input.Goals as goal

pub returns-in-Ok-Some-clause-leaves : goal.returns-in-Ok-Some-clause-leaves
returns-in-Ok-Some-clause-leaves g c =
    let first = g.S.Source.left c.args.source.now in
    let left = g.S.Source.left c.judged.new.source in
    let put = g.K.Sink.put c.args.sink.now in
    let now = g.K.Sink.put c.write_all.new.sink in
    let found = subst (λ (o : Option Found).
    IfSome o (λ f. HasFound f.checked first left × (f.line.items ≡ line_of f.checked)))
    c.in-Ok-Some.field-0-is c.in-Ok-Some.ensures.found in
    leaves_front first left put now c.in-Ok-Some.found.checked found.0
    (subst (λ (l : List ℕ). AppendsFront put now l) (c.deref.ensures.value ∙ found.1)
    c.in-Err-write_all.ensures.prefix)
