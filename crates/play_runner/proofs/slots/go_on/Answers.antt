-- What ended with the event is told.
use Rattle.std.proofs.Common.{◌++◌, sym, ap, ◌∙◌}
use Rattle.core_steps.specs.declared.values.Stepped.{Stepped}
use Rattle.core_steps.specs.Values.{CoreValue}
use Rattle.play_runner.specs.Played.{outcome_in, outcomes_of}
use Rattle.play_runner.proofs.Outcomes.{told_more}
use Rattle.play_runner.proofs.slots.go_on.Goals as goal

pub returns-clause-told : goal.returns-clause-told
returns-clause-told c =
    c.in_ok-keep.ensures
    ∙ ap (λ (s : Stepped). c.args.outcomes.now.items ++ outcome_in c.args.event.now s)
    c.in_ok-stepped.ensures.stepped.1
    ∙ told_more c.args.core.now c.args.event.now c.args.outcomes.now.items c.moment.ensures c.requires.told
    ∙ ap (λ (core : CoreValue). outcomes_of core.setup core.events) (sym c.in_ok-stepped.ensures.stepped.0)
