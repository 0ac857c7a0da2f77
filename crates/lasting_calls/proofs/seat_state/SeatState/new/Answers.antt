-- Its rows are opened, and nothing is counted yet.
use Rattle.std.proofs.Common.{◌≡◌, ℕ, ◌+◌, ◌-◌, ◌*◌, ◌/◌, ◌%◌, ◌^◌, ap, arith}
use Rattle.std.proofs.Math.Pow.{pow_mono}
use Rattle.lasting_calls.proofs.OpeningLemmas.{seat_opened}
use Rattle.lasting_calls.proofs.seat_state.SeatState.new.Goals as goal

pub returns : goal.returns
returns c g is at =
    let d = c.args.desk.now in
    let small : (1 * 2 ^ d.settings.depth) % 4294967296 ≡ 2 ^ d.settings.depth =
    omega (arith, pow_mono d.settings.depth_in_range.1) in
    seat_opened g d c.in_ok-rows.rows c.new-2.result
    (((1 * 2 ^ d.settings.depth) % 4294967296 + (d.settings.seats - 1 - d.seat)) / d.settings.seats) is at
    (ap (λ (k : ℕ). (k + (d.settings.seats - 1 - d.seat)) / d.settings.seats) small) c.in_ok-rows.ensures
