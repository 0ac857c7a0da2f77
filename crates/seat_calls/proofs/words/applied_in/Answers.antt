use Rattle.std.proofs.Common.{ap, sym, arith}
use Rattle.step_counts.specs.declared.settings.Settings.{Settings}
use Rattle.seat_calls.specs.Desks.{settings_at}
use Rattle.seat_calls.proofs.SeatLemmas.{applied_at}
use Rattle.seat_calls.proofs.words.applied_in.Goals as goal

pub returns : goal.returns
returns c =
    let items = ap (λ (s : Settings). s.items) c.settings.ensures in
    sym (applied_at (settings_at c.args.desk.now) c.args.words.now c.args.desk.now.seat _ c.args.desk.now.within
    (omega (arith, items)))
