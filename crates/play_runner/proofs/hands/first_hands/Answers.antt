-- One hand more.
use Rattle.std.proofs.Common.{map, ap, ◌∙◌}
use Rattle.play_runner.specs.Hands.{as_hands}
use Rattle.play_runner.proofs.Numbers.{one_more}
use Rattle.play_runner.proofs.hands.first_hands.Goals as goal

pub loop-seat-preserved : goal.loop-seat-preserved
loop-seat-preserved c =
    ap as_hands c.in_ok-push.ensures.items
    ∙ one_more c.loop-seat.seat (map (λ own. own.items) c.args.calls.now) c.args.stops.now c.loop-seat.hands.items _
    c.loop-seat.invariant c.own_calls.ensures c.own_stop.ensures
