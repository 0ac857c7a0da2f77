use Rattle.std.proofs.Common.{◌∙◌, ◌++◌, ◌∷◌, [], None, ap, sym}
use Rattle.std.proofs.lemmas.Grind.{replicate_next}
use Rattle.command_line.proofs.words.values.no_stops.Goals as goal

pub loop-preserved : goal.loop-preserved
loop-preserved c =
    c.in_ok-push.ensures.items ∙ ap (λ steps. steps ++ None ∷ []) c.loop.invariant
    ∙ sym (replicate_next c.loop.counter None)
