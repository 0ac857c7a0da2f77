use Rattle.std.proofs.Common.{◌∙◌, sym}
use Rattle.std.proofs.lemmas.Bool.{eq-eqb}
use Rattle.command_line.proofs.PlayLemmas.{second_found}
use Rattle.command_line.proofs.words.plays.stop_for.Goals as goal

pub returns-then-is_some : goal.returns-then-is_some
returns-then-is_some c =
    second_found c.args.seat c.args.stops.now c.loop-stop.stop-index (0, 0) c.loop-stop.found c.loop-stop-test.true
    (eq-eqb _ _ c.if-stop-seat.true) (sym c.is_some.ensures ∙ c.if-is_some.true) c.loop-stop.invariant
