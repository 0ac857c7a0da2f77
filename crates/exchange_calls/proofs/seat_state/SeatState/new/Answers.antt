-- Its rows are opened, and nothing is counted yet.
use Rattle.exchange_calls.proofs.OpeningLemmas.{seat_opened}
use Rattle.exchange_calls.proofs.seat_state.SeatState.new.Goals as goal

pub returns : goal.returns
returns c g is at =
    seat_opened g c.args.desk.now c.in_ok-rows.rows c.in_ok-hand.hand is at c.requires.seat c.in_ok-rows.ensures.free
    c.in_ok-rows.ensures.kept
